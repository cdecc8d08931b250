use Rattle.std.proofs.Common.{sym, ap, ◌∙◌, inl, inr, arith}
use Rattle.std.proofs.lemmas.Bool.{cases_eq}
use Rattle.matrix.proofs.Rows.{swap-rows-first, swap-rows-off}
use Rattle.solver.specs.Squares.{matrix}
use Rattle.solver.proofs.Rows.{halves, swap-clean, row-swapped}
use Rattle.solver.proofs.Square.swap_rows.Goals as goal

pub returns-then-i-r-clause-made : goal.returns-then-i-r-clause-made
returns-then-i-r-clause-made g c a j ha hj =
    let M = matrix c.args.self.now in
    elim (cases_eq a c.args.i) [
      | inl e ↦ ap (λ b. M b j) (e ∙ c.if-i-r.true) ∙ sym (swap-rows-first c.args.i c.args.r M a j e)
      | inr ne ↦ sym (swap-rows-off c.args.i c.args.r M a j ne (λ e. ne (e ∙ sym c.if-i-r.true)))
    ]

pub invariant_of-self-clause-clean : goal.invariant_of-self-clause-clean
invariant_of-self-clause-clean g c =
    let p = c.split_at_mut-low.ensures in
    let q = c.swap_with_slice.ensures in
    swap-clean c.args.self.now (halves p.value p.front_len (omega arith)) c.requires.within.1 q.other_after q.after

pub returns-clause-made : goal.returns-clause-made
returns-clause-made g c =
    let p = c.split_at_mut-low.ensures in
    let q = c.swap_with_slice.ensures in
    row-swapped c.args.self.now (halves p.value p.front_len (omega arith)) c.requires.within.1 q.other_after q.after
