use Rattle.std.proofs.Common.{◌≡◌, ℕ, List, ◌++◌, length, take, drop, replicate, Vec, Global, ap, ◌∙◌, sym}
use lib.Seq.{take-append_seam}
use Rattle.guard.specs.Zero.{AllZero}
use Rattle.session.specs.Table.{secret}
use Rattle.runs.specs.Runs.{Card, framed, card}
use Rattle.runs.proofs.Steps.{answered-step}
use Rattle.runs.proofs.answer.Goals as goal

-- a memory written whole
written : (n : ℕ) (new old : List ℕ) → length new ≡ n → take n (new ++ drop (length new) old) ≡ new
written n new old e = ap (λ k. take k (new ++ drop (length new) old)) (sym e) ∙ take-append_seam new (drop (length new) old)

pub returns : goal.returns
returns g c m s store =
    let k : Card = card (secret (g.K.Key.sizes c.args.key.now) (g.K.Key.checks c.args.key.now) (g.O.Operator.order c.args.blinding.now) (g.O.Operator.matrix c.args.blinding.now)) m s in
    let x : Vec ℕ Global = c.in_ok-frame.frame in
    let z : Vec ℕ Global = c.in_ok-memory.memory in
    let bytes : List ℕ = c.answer-answer.new.reply in
    let long : length bytes ≡ z.len = c.answer-answer.auto.reply ∙ c.deref_mut-2.ensures.len in
    let lent : z.len ≡ c.args.reply = c.in_ok-memory.ensures.len in
    let kept : take z.len (bytes ++ drop (length bytes) z.items) ≡ bytes = written z.len bytes z.items long in
    let zero : z.items ≡ replicate c.args.reply 0 = c.in_ok-memory.ensures.items_if_clones_equal (λ y e. e) in
    let cleared : AllZero c.deref_mut-2.result.now = c.deref_mut-2.ensures.value ∙ zero ∙ ap (λ l. replicate l 0) (sym (c.deref_mut-2.ensures.len ∙ lent)) in
    let as-asked : length (take z.len (bytes ++ drop (length bytes) z.items)) ≡ c.args.reply = ap length kept ∙ long ∙ lent in (
      λ i. framed (record { frame = c.in_ok-frame.ensures.items i; working = c.args.working; reply = as-asked i }),
      λ past before. answered-step k past c.args.session.now c.answer-answer.new.self c.args.inverse.now c.answer-answer.new.inverse store x c.args.working c.answer-answer.result _ _ _ _ bytes
          before c.answer-answer.ensures.done c.answer-answer.ensures.set before.long
          (c.deref_mut.ensures.len ∙ c.in_ok-work.ensures.len) (c.deref_mut-2.ensures.len ∙ lent ∙ sym as-asked) c.deref.ensures.value kept cleared,
    )
