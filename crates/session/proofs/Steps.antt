-- The steps of a frame, from what was read and done to what the table says. Assumes nothing.
use Rattle.std.proofs.Common.{◌≡◌, ℕ, ◌+◌, Bool, true, false, cond, not, eqb, List, [], ◌∷◌, ◌++◌, length, Some, None, Ok, Err, Option, Result, sym, refl, ap, ◌∙◌, arith}
use Rattle.std.proofs.lemmas.Bool.{eq-eqb}
use Rattle.matrix.specs.Matrix.{Mat}
use Rattle.bits.specs.Bits.{bytes_for}
use Rattle.session.specs.declared.fault.SessionFault.{SessionFault}
use Rattle.session.specs.declared.fault.SessionFault.TheVariants.{Kind, Length, Phase}
use Rattle.session.specs.Table.{Line, line, first, refused_by, kind, index, row_in, combination_in, known, barred, frame_length, reading_lines, frame_lines, column_lines, row_lines, combination_lines}
use Rattle.session.specs.Answers.{Stepped, tried, or_refusal, laid_unless, rows_after, phase_after, inverse_after, granted, column_reply, row_reply, combination_reply, status_reply}

-- what a refusal tells of the lines that it came from
pub refused-is : (o : Option SessionFault) (e : SessionFault) → Err e ≡ refused_by o → o ≡ Some e
refused-is None e p = absurd (let z : ◌≡◌ {A = ℕ} 0 1 = cc in omega arith)
refused-is (Some x) e p = cc

pub granted-is : (o : Option SessionFault) (x : Unit {0}) → Ok x ≡ refused_by o → o ≡ None
granted-is None x p = refl
granted-is (Some e) x p = absurd (let z : ◌≡◌ {A = ℕ} 0 1 = cc in omega arith)

pub tried-refused : (o : Option SessionFault) (r : List ℕ) (e : SessionFault) → Err e ≡ tried o r → o ≡ Some e
tried-refused None r e p = absurd (let z : ◌≡◌ {A = ℕ} 0 1 = cc in omega arith)
tried-refused (Some x) r e p = cc

pub tried-granted : (o : Option SessionFault) (r : List ℕ) (l : ℕ) → Ok l ≡ tried o r → (o ≡ None) × (l ≡ length r)
tried-granted None r l p = (refl, cc)
tried-granted (Some e) r l p = absurd (let z : ◌≡◌ {A = ℕ} 0 1 = cc in omega arith)

-- lines before lines
pub first-kept : (ls ms : List Line) (e : SessionFault) → first ls ≡ Some e → first (ls ++ ms) ≡ Some e
first-kept [] ms e p = absurd (let z : ◌≡◌ {A = ℕ} 0 1 = cc in omega arith)
first-kept (l ∷ ls) ms e p = go l.when refl (λ h. first-kept ls ms e h)
  where
    go : (b : Bool) → l.when ≡ b → (first ls ≡ Some e → first (ls ++ ms) ≡ Some e) → first ((l ∷ ls) ++ ms) ≡ Some e
    go true q h = ap (λ b. cond b (Some l.fault) (first (ls ++ ms))) q ∙ ap (λ b. cond b (Some l.fault) (first ls)) (sym q) ∙ p
    go false q h = ap (λ b. cond b (Some l.fault) (first (ls ++ ms))) q ∙ h (ap (λ b. cond b (Some l.fault) (first ls)) (sym q) ∙ p)

pub first-after : (ls ms : List Line) → first ls ≡ None → first (ls ++ ms) ≡ first ms
first-after [] ms p = refl
first-after (l ∷ ls) ms p = go l.when refl (λ h. first-after ls ms h)
  where
    go : (b : Bool) → l.when ≡ b → (first ls ≡ None → first (ls ++ ms) ≡ first ms) → first ((l ∷ ls) ++ ms) ≡ first ms
    go true q h = absurd (let e : Some l.fault ≡ None = ap (λ b. cond b (Some l.fault) (first ls)) (sym q) ∙ p in let z : ◌≡◌ {A = ℕ} 0 1 = cc in omega arith)
    go false q h = ap (λ b. cond b (Some l.fault) (first (ls ++ ms))) q ∙ h (ap (λ b. cond b (Some l.fault) (first ls)) (sym q) ∙ p)

-- a check by the lines ls, then the checks by the lines ms
pub refused-before : (ls ms : List Line) (e : SessionFault) → Err e ≡ refused_by (first ls) → Err e ≡ refused_by (first (ls ++ ms))
refused-before ls ms e p = ap refused_by (sym (first-kept ls ms e (refused-is (first ls) e p)))

pub refused-after : (ls ms : List Line) (x : Unit {0}) → Ok x ≡ refused_by (first ls) → refused_by (first ms) ≡ refused_by (first (ls ++ ms))
refused-after ls ms x p = ap refused_by (sym (first-after ls ms (granted-is (first ls) x p)))

module _ (n : ℕ) (R : Mat) (phase taken : ℕ) (inverse s old : List ℕ) (a : Result ℕ SessionFault) where
  -- a refusal changes nothing
  pub stepped-refused : (ls : List Line) (r : List ℕ) (e : SessionFault) → first ls ≡ Some e → a ≡ Err e → Stepped n R ls r phase taken inverse s old a phase taken inverse old
  stepped-refused ls r e is f = record {
    result = f ∙ ap (λ o. tried o r) (sym is);
    bytes = ap (λ o. laid_unless o r old) (sym is);
    rows = ap (λ o. rows_after taken (or_refusal o r)) (sym is);
    at_phase = ap (λ o. phase_after n phase taken (or_refusal o r)) (sym is);
    memory = ap (λ o. inverse_after n R taken s (or_refusal o r) inverse) (sym is);
  }

  -- lines that refuse alike, and equal replies
  pub stepped-as : (ls ms : List Line) (r q : List ℕ) (phase' taken' : ℕ) (inverse' reply : List ℕ) → first ms ≡ first ls → q ≡ r
      → Stepped n R ms q phase taken inverse s old a phase' taken' inverse' reply → Stepped n R ls r phase taken inverse s old a phase' taken' inverse' reply
  stepped-as ls ms r q phase' taken' inverse' reply p e x =
      let w : or_refusal (first ms) q ≡ or_refusal (first ls) r = λ i. or_refusal (p i) (e i) in
      record {
        result = x.result ∙ (λ i. tried (p i) (e i));
        bytes = x.bytes ∙ (λ i. laid_unless (p i) (e i) old);
        rows = x.rows ∙ ap (rows_after taken) w;
        at_phase = x.at_phase ∙ ap (phase_after n phase taken) w;
        memory = x.memory ∙ ap (λ y. inverse_after n R taken s y inverse) w;
      }

module _ (n : ℕ) (B : List (List ℕ)) (phase taken : ℕ) (f : List ℕ) where
  -- the first line, by kind, length, phase and index
  abbrev at : ℕ → ℕ → ℕ → ℕ → Option SessionFault
  at k l p i =
      cond (not (known k)) (Some (Kind k))
      (cond (not (eqb l (frame_length (bytes_for n) k))) (Some (Length l))
      (cond (barred k p) (Some (Phase p))
      (first (cond (eqb k 17) (column_lines n i) (cond (eqb k 18) (row_lines n B taken i (row_in f)) (cond (eqb k 19) (combination_lines n B (combination_in f)) []))))))

  pub unread : (e : SessionFault) → Some e ≡ first (reading_lines (bytes_for n) f) → first (frame_lines n B phase taken f) ≡ Some e
  unread e p = first-kept (reading_lines (bytes_for n) f)
      (line (barred (kind f) phase) (Phase phase) ∷ cond (eqb (kind f) 17) (column_lines n (index f)) (cond (eqb (kind f) 18) (row_lines n B taken (index f) (row_in f)) (cond (eqb (kind f) 19) (combination_lines n B (combination_in f)) []))) e (sym p)

  pub combination-first : kind f ≡ 19 → length f ≡ bytes_for n + 1 → phase ≡ 0 → first (frame_lines n B phase taken f) ≡ first (combination_lines n B (combination_in f))
  combination-first ek el ep =
      let go : at (kind f) (length f) phase (index f) ≡ at 19 (bytes_for n + 1) 0 (index f) = λ t. at (ek t) (el t) (ep t) (index f) in
      go ∙ (λ t. cond (not (eq-eqb (bytes_for n + 1) (bytes_for n + 1) refl t)) (Some (Length (bytes_for n + 1))) (first (combination_lines n B (combination_in f))))

  -- the reply, by kind
  pub granted-combination : kind f ≡ 19 → granted B phase taken f ≡ combination_reply
  granted-combination e = ap (λ k. cond (eqb k 17) (column_reply B (index f)) (cond (eqb k 18) (row_reply taken) (cond (eqb k 19) combination_reply (status_reply phase taken)))) e
