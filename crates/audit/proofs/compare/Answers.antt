use Rattle.std.proofs.Common.{ℕ, ◌<◌, subst}
use Rattle.key.specs.declared.sizes.Sizes.{Sizes}
use Rattle.audit.specs.Verdicts.{Padded, Padless}
use Rattle.audit.specs.Solving.{product}
use Rattle.audit.proofs.Found.{is-public, belongs}
use Rattle.audit.proofs.compare.Goals as goal

pub returns-in-Some : goal.returns-in-Some
returns-in-Some g c =
    let key = c.args.key.now in
    let s = g.K.Key.sizes key in
    let H = g.K.Key.checks key in
    let inverse = c.args.inverse.now in
    (product s.rows inverse H, is-public s H inverse (g.K.Key.elements key) c.requires.undoes, c.requires.long, c.in-Some.ensures)

pub returns-in-Some-dirty_row : goal.returns-in-Some-dirty_row
returns-in-Some-dirty_row g c =
    let key = c.args.key.now in
    let s = g.K.Key.sizes key in
    let H = g.K.Key.checks key in
    let inverse = c.args.inverse.now in (
      product s.rows inverse H,
      is-public s H inverse (g.K.Key.elements key) c.requires.undoes,
      c.requires.long,
      c.in_default.ensures,
      subst (λ (z : Sizes). Padded z.rows z.rest c.args.published.now c.in-Some-dirty_row.row) c.set-n.ensures c.in-Some-dirty_row.ensures,
    )

pub returns-in-None : goal.returns-in-None
returns-in-None g c =
    let key = c.args.key.now in
    let s = g.K.Key.sizes key in
    belongs s (g.K.Key.checks key) c.args.inverse.now c.args.published.now (g.K.Key.elements key) c.requires.undoes c.requires.long c.are_bytes.ensures c.in_default.ensures
    (subst (λ (z : Sizes). (a : ℕ) → a < z.rows → Padless z.rest c.args.published.now a) c.set-n.ensures c.in-None.ensures)
