use Rattle.std.proofs.Common.{◌≡◌, ℕ, List, Ok, Err, sym, ap, ◌∙◌, subst}
use Rattle.std.proofs.lemmas.Result.{err_from_is_err_and}
use Rattle.bits.specs.Bits.{bytes_for}
use Rattle.session.specs.State.{phase_number}
use Rattle.session.specs.Frames.{Reads}
use Rattle.session.specs.Table.{blinded, row_in, combination_in, frame_lines, combination_lines}
use Rattle.session.specs.Answers.{Stepped, granted, combination_reply}
use Rattle.session.proofs.Steps.{stepped-refused, stepped-as, unread, combination-first, granted-combination}
use Rattle.session.proofs.state.Open.step.Goals as goal

pub returns-in_err-frame-clause-done : goal.returns-in_err-frame-clause-done
returns-in_err-frame-clause-done g c =
    let o = c.args.self.now in
    let n = o.set.rows in
    let p = phase_number o.phase in
    let R = g.O.Operator.matrix c.args.product.now.left.now in
    let B = blinded c.args.product.now.n R (g.K.Key.checks c.args.product.now.key.now) in
    let f = c.args.frame.now in
    let e = c.in_err-frame.field-0.0 in
    let x = err_from_is_err_and c.from_residual.result c.from_residual.ensures.1 in
    stepped-refused n R p o.rows c.args.inverse.now (row_in f) c.args.reply.now c.from_residual.result (frame_lines n B p o.rows f) (granted B p o.rows f) e
    (unread n B p o.rows f e c.in_err-frame.ensures) (x.1 ∙ ap (λ y. Err y) x.2)

pub returns-in-Receiving-Combination-clause-done : goal.returns-in-Receiving-Combination-clause-done
returns-in-Receiving-Combination-clause-done g c =
    let o = c.args.self.now in
    let n = o.set.rows in
    let p = phase_number o.phase in
    let zero : p ≡ 0 = ap phase_number c.in-Receiving-Combination.is-0 in
    let R = g.O.Operator.matrix c.args.product.now.left.now in
    let B = blinded c.args.product.now.n R (g.K.Key.checks c.args.product.now.key.now) in
    let f = c.args.frame.now in
    let rd = subst (λ x. Reads (bytes_for n) f (Ok x)) c.in-Receiving-Combination.is-1 c.in_ok-frame.ensures in
    let z = c.take_combination.new in
    let P : ℕ → List ℕ → Type 0 = λ q b. Stepped n R (combination_lines n B b) combination_reply q o.rows c.args.inverse.now (row_in f) c.args.reply.now c.take_combination.result (phase_number z.self.phase) z.self.rows c.args.inverse.now z.reply in
    stepped-as n R p o.rows c.args.inverse.now (row_in f) c.args.reply.now c.take_combination.result (frame_lines n B p o.rows f) (combination_lines n B (combination_in f)) (granted B p o.rows f) combination_reply (phase_number z.self.phase) z.self.rows c.args.inverse.now z.reply
    (sym (combination-first n B p o.rows f rd.0 rd.1 zero))
    (sym (granted-combination n B p o.rows f rd.0))
    (subst (λ q. P q (combination_in f)) (sym zero) (subst (P 0) rd.2 (c.take_combination.ensures.done c.args.inverse.now (row_in f))))
