-- From the step of a frame to the answer. Assumes nothing.
use Rattle.std.proofs.Common.{◌≡◌, ℕ, ◌+◌, ◌<◌, ◌≤◌, List, [], length, Some, None, Ok, Err, Result, sym, ap, ◌∙◌, subst, arith}
use Rattle.std.proofs.lemmas.Bool.Decides.{nat_tests}
use Rattle.matrix.specs.Matrix.{Mat}
use Rattle.bits.specs.Bits.{bytes_for}
use Rattle.bits.specs.Bytes.{laid}
use Rattle.key.specs.declared.sizes.Sizes.{Sizes}
use Rattle.session.specs.declared.state.Answer.{Answer}
use Rattle.session.specs.declared.fault.SessionFault.{SessionFault}
use Rattle.session.specs.Table.{first, refused_by, Secret, Lent, lent, blinded, product, row_in, memory_lines, frame_lines}
use Rattle.session.specs.Answers.{Stepped, Answered, or_refusal, or_none, reply_of, refusal_reply, laid_unless, rows_after, phase_after, inverse_after, granted}
use Rattle.session.proofs.Steps.{refused-is, granted-is, first-kept, first-after, tried-refused, tried-granted}

-- memories that fit
pub same_rows : (own set : Sizes) (order : ℕ) (m : Lent) → first (memory_lines own set order m) ≡ None → own.rows ≡ set.rows
same_rows own set order m h = grind (arith, nat_tests)

pub reply-fits : (own set : Sizes) (order : ℕ) (m : Lent) → first (memory_lines own set order m) ≡ None → bytes_for set.rows + 3 ≤ m.reply
reply-fits own set order m h = grind (arith, nat_tests)

-- then there is room for a refusal
pub refusal-fits : (own set : Sizes) (order inverse working reply : ℕ) (x : Unit {0}) → Ok x ≡ refused_by (first (memory_lines own set order (lent inverse working reply))) → 0 < set.rows → 4 ≤ reply
refusal-fits own set order i w r x passed some =
    let m = lent i w r in
    let room = reply-fits own set order m (granted-is (first (memory_lines own set order m)) x passed) in
    omega arith

module _ (own : Sizes) (k : Secret) (phase taken : ℕ) (inverse : List ℕ) (m : Lent) (f old : List ℕ) where
  -- a memory does not fit
  pub answered-unfit : (e : SessionFault) → Err e ≡ refused_by (first (memory_lines own k.set k.order m))
      → Answered own k phase taken inverse m f old (record { length = 0; fault = Some e }) phase taken inverse old
  answered-unfit e q =
      let p : first (memory_lines own k.set k.order m) ≡ Some e = refused-is (first (memory_lines own k.set k.order m)) e q in
      let w : [] ≡ reply_of own k.set k.order (product k) phase taken m f = ap (λ o. or_none o (or_refusal (first (frame_lines k.set.rows (product k) phase taken f)) (granted (product k) phase taken f))) (sym p) in
      record {
        fault = sym (first-kept (memory_lines own k.set k.order m) (frame_lines k.set.rows (product k) phase taken f) e p);
        long = ap length w;
        bytes = ap (λ y. laid y old) w;
        rows = ap (rows_after taken) w;
        at_phase = ap (phase_after k.set.rows phase taken) w;
        memory = ap (λ y. inverse_after k.set.rows k.blinding taken (row_in f) y inverse) w;
      }

  module _ (x : Unit {0}) (passed : Ok x ≡ refused_by (first (memory_lines own k.set k.order m))) where
    fits : first (memory_lines own k.set k.order m) ≡ None
    fits = granted-is (first (memory_lines own k.set k.order m)) x passed

    -- the reply is that of the frame
    reply-is : or_refusal (first (frame_lines k.set.rows (product k) phase taken f)) (granted (product k) phase taken f) ≡ reply_of own k.set k.order (product k) phase taken m f
    reply-is = ap (λ o. or_none o (or_refusal (first (frame_lines k.set.rows (product k) phase taken f)) (granted (product k) phase taken f))) (sym fits)

    -- a step that an n, R and H answer which are the secret's
    module _ (n : ℕ) (R H : Mat) (ordered : n ≡ k.set.rows) (same : R ≡ k.blinding) (whole : H ≡ k.checks) (phase' taken' : ℕ) (inverse' reply : List ℕ) where
      step-is : (a : Result ℕ SessionFault) → Stepped own.rows R (frame_lines own.rows (blinded n R H) phase taken f) (granted (blinded n R H) phase taken f) phase taken inverse (row_in f) old a phase' taken' inverse' reply
          → Stepped k.set.rows k.blinding (frame_lines k.set.rows (product k) phase taken f) (granted (product k) phase taken f) phase taken inverse (row_in f) old a phase' taken' inverse' reply
      step-is a s =
          let P : ℕ → ℕ → Mat → Mat → Type 0 = λ r o M C. Stepped r M (frame_lines r (blinded o M C) phase taken f) (granted (blinded o M C) phase taken f) phase taken inverse (row_in f) old a phase' taken' inverse' reply in
          subst (P k.set.rows k.set.rows k.blinding) whole (subst (λ M. P k.set.rows k.set.rows M H) same (subst (λ o. P k.set.rows o R H) ordered (subst (λ r. P r n R H) (same_rows own k.set k.order m fits) s)))

      pub answered-granted : (l : ℕ) → Stepped own.rows R (frame_lines own.rows (blinded n R H) phase taken f) (granted (blinded n R H) phase taken f) phase taken inverse (row_in f) old (Ok l) phase' taken' inverse' reply
          → Answered own k phase taken inverse m f old (record { length = l; fault = None }) phase' taken' inverse' reply
      answered-granted l s =
          let r = granted (product k) phase taken f in
          let ls = frame_lines k.set.rows (product k) phase taken f in
          let step = step-is (Ok l) s in
          let none = tried-granted (first ls) r l step.result in
          record {
            fault = sym none.0 ∙ sym (first-after (memory_lines own k.set k.order m) ls fits);
            long = none.1 ∙ ap (λ o. length (or_refusal o r)) (sym none.0) ∙ ap length reply-is;
            bytes = step.bytes ∙ ap (λ o. laid_unless o r old) none.0 ∙ ap (λ o. laid (or_refusal o r) old) (sym none.0) ∙ ap (λ y. laid y old) reply-is;
            rows = step.rows ∙ ap (rows_after taken) reply-is;
            at_phase = step.at_phase ∙ ap (phase_after k.set.rows phase taken) reply-is;
            memory = step.memory ∙ ap (λ y. inverse_after k.set.rows k.blinding taken (row_in f) y inverse) reply-is;
          }

      pub answered-refused : (e : SessionFault) (a : Answer) (told : List ℕ) → Stepped own.rows R (frame_lines own.rows (blinded n R H) phase taken f) (granted (blinded n R H) phase taken f) phase taken inverse (row_in f) old (Err e) phase' taken' inverse' reply
          → a.fault ≡ Some e → a.length ≡ length (refusal_reply e) → told ≡ laid (refusal_reply e) reply
          → Answered own k phase taken inverse m f old a phase' taken' inverse' told
      answered-refused e a told s is-fault is-long is-told =
          let r = granted (product k) phase taken f in
          let ls = frame_lines k.set.rows (product k) phase taken f in
          let step = step-is (Err e) s in
          let some : first ls ≡ Some e = tried-refused (first ls) r e step.result in
          let kept : reply ≡ old = step.bytes ∙ ap (λ o. laid_unless o r old) some in
          record {
            fault = is-fault ∙ sym some ∙ sym (first-after (memory_lines own k.set k.order m) ls fits);
            long = is-long ∙ ap (λ o. length (or_refusal o r)) (sym some) ∙ ap length reply-is;
            bytes = is-told ∙ ap (laid (refusal_reply e)) kept ∙ ap (λ o. laid (or_refusal o r) old) (sym some) ∙ ap (λ y. laid y old) reply-is;
            rows = step.rows ∙ ap (rows_after taken) reply-is;
            at_phase = step.at_phase ∙ ap (phase_after k.set.rows phase taken) reply-is;
            memory = step.memory ∙ ap (λ y. inverse_after k.set.rows k.blinding taken (row_in f) y inverse) reply-is;
          }
