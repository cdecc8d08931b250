-- What a reply tells of the frame. Assumes nothing.
use Rattle.std.proofs.Common.{◌≡◌, ℕ, ◌*◌, ◌<◌, ◌≤◌, Bool, true, false, not, cond, eqb, List, [], ◌∷◌, ◌++◌, take, drop, Some, None, Option, sym, refl, ap, ◌∙◌, arith, eqb-true, ltb-false, ltb-true}
use borrow.Author.Tests.{not-false}
use Rattle.bits.specs.Bits.{bytes_for}
use Rattle.key.specs.declared.sizes.Sizes.{Sizes}
use Rattle.session.specs.declared.fault.SessionFault.{SessionFault}
use Rattle.session.specs.Table.{Line, first, Lent, kind, index, row_in, combination_in, barred, wrong, nonzero, leading, memory_lines, frame_lines, row_lines, column_lines, combination_lines}
use Rattle.session.specs.Answers.{says, or_refusal, or_none, granted, column_reply, row_reply, combination_reply, status_reply, reply_of}

-- a line that did not refuse, and the lines after it
passed : (b : Bool) (x : SessionFault) (o : Option SessionFault) → cond b (Some x) o ≡ None → (b ≡ false) × (o ≡ None)
passed true x o e = absurd (let z : ◌≡◌ {A = ℕ} 0 1 = cc in omega arith)
passed false x o e = (refl, e)

-- no line finds its case
abbrev pub Silent : List Line → Type 0
Silent [] = Unit {0}
Silent (l ∷ ls) = (l.when ≡ false) × Silent ls

pub passed_before : (ls ms : List Line) → first (ls ++ ms) ≡ None → Silent ls × (first ms ≡ None)
passed_before [] ms e = (tt, e)
passed_before (l ∷ ls) ms e =
    let p = passed l.when l.fault (first (ls ++ ms)) e in
    let q = passed_before ls ms p.1 in
    ((p.0, q.0), q.1)

-- a frame that is answered 22
pub record RowTaken (n : ℕ) (B : List (List ℕ)) (phase taken : ℕ) (m : Lent) (f r : List ℕ) : Type 0 where
  pub yes22 : says 34 r ≡ true
  pub no23 : says 35 r ≡ false
  pub at0 : phase ≡ 0
  pub long : m.inverse ≡ n * bytes_for n
  pub right : n ≤ wrong n B (row_in f) taken

-- a frame that is answered 23
pub record CombinationTaken (n : ℕ) (B : List (List ℕ)) (phase : ℕ) (f r : List ℕ) : Type 0 where
  pub no22 : says 34 r ≡ false
  pub yes23 : says 35 r ≡ true
  pub at0 : phase ≡ 0
  pub some : leading n (combination_in f) < n
  pub zero : n ≤ nonzero n B (combination_in f)

pub data Class (n : ℕ) (B : List (List ℕ)) (phase taken : ℕ) (m : Lent) (f r : List ℕ) : Type 0 where
  row : RowTaken n B phase taken m f r → Class n B phase taken m f r
  combination : CombinationTaken n B phase f r → Class n B phase taken m f r
  neither : says 34 r ≡ false → says 35 r ≡ false → Class n B phase taken m f r

module _ (set : Sizes) (order : ℕ) (B : List (List ℕ)) (phase taken : ℕ) (m : Lent) (f : List ℕ) where
  abbrev n : ℕ
  n = set.rows

  open-phase : (k : ℕ) → kind f ≡ k → barred k phase ≡ not (eqb phase 0) → barred (kind f) phase ≡ false → phase ≡ 0
  open-phase k e free bar = eqb-true _ _ (not-false _ (sym free ∙ ap (λ x. barred x phase) (sym e) ∙ bar))

  by-kind : (a b c : Bool) → eqb (kind f) 18 ≡ b → eqb (kind f) 19 ≡ c → m.inverse ≡ n * bytes_for n → barred (kind f) phase ≡ false
      → first (cond a (column_lines n (index f)) (cond b (row_lines n B taken (index f) (row_in f)) (cond c (combination_lines n B (combination_in f)) []))) ≡ None
      → Class n B phase taken m f (cond a (column_reply B (index f)) (cond b (row_reply taken) (cond c combination_reply (status_reply phase taken))))
  by-kind true b c pb pc l bar e = neither refl refl
  by-kind false true c pb pc l bar e =
      let p = passed_before (row_lines n B taken (index f) (row_in f)) [] e in
      row (record { yes22 = refl; no23 = refl; at0 = open-phase 18 (eqb-true _ _ pb) refl bar; long = l; right = ltb-false _ _ p.0.1.0 })
  by-kind false false true pb pc l bar e =
      let q = passed_before (combination_lines n B (combination_in f)) [] e in
      combination (record { no22 = refl; yes23 = refl; at0 = open-phase 19 (eqb-true _ _ pc) refl bar; some = ltb-true _ _ (not-false _ q.0.0); zero = ltb-false _ _ q.0.1.0 })
  by-kind false false false pb pc l bar e = neither refl refl

  by-frame : (o : Option SessionFault) → m.inverse ≡ n * bytes_for n → first (frame_lines n B phase taken f) ≡ o → Class n B phase taken m f (or_refusal o (granted B phase taken f))
  by-frame (Some x) l e = neither refl refl
  by-frame None l e =
      let all = frame_lines n B phase taken f in
      let p = passed_before (take 3 all) (drop 3 all) e in
      by-kind (eqb (kind f) 17) (eqb (kind f) 18) (eqb (kind f) 19) refl refl l p.0.1.1.0 p.1

  by-memory : (o : Option SessionFault) → first (memory_lines set set order m) ≡ o → Class n B phase taken m f (or_none o (or_refusal (first (frame_lines n B phase taken f)) (granted B phase taken f)))
  by-memory (Some x) e = neither refl refl
  by-memory None e =
      let p = passed_before (memory_lines set set order m) [] e in
      by-frame (first (frame_lines n B phase taken f)) (eqb-true _ _ (not-false _ p.0.1.1.0)) refl

  pub classify : Class n B phase taken m f (reply_of set set order B phase taken m f)
  classify = by-memory (first (memory_lines set set order m)) refl
