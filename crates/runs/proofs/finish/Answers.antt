use Rattle.std.proofs.Common.{◌≡◌, ℕ, ◌+◌, ◌*◌, ◌≤◌, List, [], length, append-nil, sym, ap, ◌∙◌, subst}
use Rattle.params.specs.Sets.{named}
use Rattle.bits.specs.Bits.{bytes_for}
use Rattle.session.specs.Table.{secret}
use Rattle.sink.specs.Store.{Store}
use Rattle.runs.specs.Runs.{Card, card}
use Rattle.runs.specs.Reached.{turns}
use Rattle.runs.proofs.Beginning.{hosted-none, no-set, a-set, hosted-by, begins, rows-of}
use Rattle.runs.proofs.finish.Goals as goal

pub returns-in_default-clause-grows : goal.returns-in_default-clause-grows
returns-in_default-clause-grows g c =
    let of : List ℕ → Store → Card = λ m s. card (secret (g.K.Key.sizes c.args.key.now) (g.K.Key.checks c.args.key.now) (g.O.Operator.order c.args.blinding.now) (g.O.Operator.matrix c.args.blinding.now)) m s in (
      [],
      sym (append-nil c.args.run.events.items),
      (hosted-none (named c.args.name.now), λ m s r sized fit wait whole. absurd (no-set (of m s) c.find_set.result _ _ c.in_default.is c.find_set.ensures sized)),
    )

pub returns-in_default-vec-clause-grows : goal.returns-in_default-vec-clause-grows
returns-in_default-vec-clause-grows g c = (
  [],
  sym (append-nil c.args.run.events.items),
  (hosted-none (named c.args.name.now), λ m s r sized fit wait whole. absurd (cc)),
)

pub returns-in_default-vec-2-clause-grows : goal.returns-in_default-vec-2-clause-grows
returns-in_default-vec-2-clause-grows g c = (
  [],
  sym (append-nil c.args.run.events.items),
  (hosted-none (named c.args.name.now), λ m s r sized fit wait whole. absurd (cc)),
)

pub returns-in_default-vec-3-clause-grows : goal.returns-in_default-vec-3-clause-grows
returns-in_default-vec-3-clause-grows g c = (
  [],
  sym (append-nil c.args.run.events.items),
  (hosted-none (named c.args.name.now), λ m s r sized fit wait whole. absurd (cc)),
)

pub returns-clause-grows : goal.returns-clause-grows
returns-clause-grows g c =
    let of : List ℕ → Store → Card = λ m s. card (secret (g.K.Key.sizes c.args.key.now) (g.K.Key.checks c.args.key.now) (g.O.Operator.order c.args.blinding.now) (g.O.Operator.matrix c.args.blinding.now)) m s in
    let set = c.in-Ok.set in
    let rows : c.rows-n.result ≡ set.m * set.t = c.rows-n.ensures in
    let bytes : c.bytes-l.result ≡ bytes_for (set.m * set.t) = c.bytes-l.ensures in
    let first : length c.deref_mut.result.now ≡ set.m * set.t * (set.m * set.t) = c.deref_mut.ensures.len ∙ c.in-Ok-vec.ensures.len ∙ ap (λ n. n * n) rows in
    let second : length c.deref_mut-2.result.now ≡ set.m * set.t * (set.m * set.t) = c.deref_mut-2.ensures.len ∙ c.in-Ok-vec-2.ensures.len ∙ ap (λ n. n * n) rows in
    let frame : length c.deref_mut-3.result.now ≡ bytes_for (set.m * set.t) + 3 = c.deref_mut-3.ensures.len ∙ c.in-Ok-vec-3.ensures.len ∙ ap (λ l. l + 3) bytes in (
      c.ask_all.ensures.grows.0,
      c.ask_all.ensures.grows.1,
      (
        hosted-by set c.find_set.result _ c.bytes-l.result c.ask_all.ensures.grows.0 c.in-Ok.is c.find_set.ensures bytes c.ask_all.ensures.grows.2.0,
        λ m s r sized fit wait whole.
            let b = begins (of m s) set c.find_set.result _ c.in-Ok-new.host c.new.result c.args.run.events.items _ _ _ c.in-Ok.is c.find_set.ensures c.in-Ok-new.is c.new.ensures.does c.new.ensures.means sized wait first second frame in
            let size : set.m * set.t ≡ (g.K.Key.sizes c.args.key.now).rows = rows-of (of m s) set c.find_set.result _ c.in-Ok.is c.find_set.ensures sized in
            c.ask_all.ensures.grows.2.1 m s r fit (bytes ∙ ap bytes_for size) b.0 (subst (λ n. turns c.in-Ok-new.host.size c.in-Ok-new.host.stage ≤ 2 * n + 2) (sym rows) b.1) whole,
      ),
    )

pub returns-in_default-vec-clause-unknown : goal.returns-in_default-vec-clause-unknown
returns-in_default-vec-clause-unknown g c un = absurd (a-set c.in-Ok.set c.find_set.result _ c.in-Ok.is c.find_set.ensures un)

pub returns-in_default-vec-2-clause-unknown : goal.returns-in_default-vec-2-clause-unknown
returns-in_default-vec-2-clause-unknown g c un = absurd (a-set c.in-Ok.set c.find_set.result _ c.in-Ok.is c.find_set.ensures un)

pub returns-in_default-vec-3-clause-unknown : goal.returns-in_default-vec-3-clause-unknown
returns-in_default-vec-3-clause-unknown g c un = absurd (a-set c.in-Ok.set c.find_set.result _ c.in-Ok.is c.find_set.ensures un)

pub returns-clause-unknown : goal.returns-clause-unknown
returns-clause-unknown g c un = absurd (a-set c.in-Ok.set c.find_set.result _ c.in-Ok.is c.find_set.ensures un)
