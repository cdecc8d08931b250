-- Steps of a host keep what it knows. Assumes nothing.
use Rattle.std.proofs.Common.{◌≡◌, ℕ, suc, ◌+◌, ◌*◌, ◌/◌, ◌%◌, ◌<◌, ◌≤◌, Bool, true, false, cond, ◌&&◌, eqb, List, [], ◌∷◌, length, drop, Option, Ok, Result, is_ok, IfOk, IfSome, sym, refl, ap, ap₂, ◌∙◌, subst, arith}
use Rattle.std.proofs.lemmas.Bool.{eq-eqb, lt-ltb, cond-true, ltb-true, eqb-true, and_parts, false≢true}
use Rattle.std.proofs.lemmas.List.{take_at}
use Rattle.galois.specs.Bit.{bits, both}
use Rattle.matrix.specs.Matrix.{Mat, Els, sum, times, apply_row}
use Rattle.matrix.proofs.Sums.{sum-cong}
use Rattle.bits.specs.Bits.{bytes_for, bits_of, pack}
use Rattle.bits.specs.Bytes.{laid}
use Rattle.bits.proofs.Packs.{bits-pack-in, length-pack}
use Rattle.solver.specs.Answers.{Solves}
use Rattle.solver.specs.declared.Solved.{Solved}
use Rattle.solver.specs.declared.Solved.TheVariants.{Inverse, Dependent}
use Rattle.host.specs.declared.stage.Stage.{Stage}
use Rattle.host.specs.declared.stage.Stage.TheVariants.{Columns, Full, Status, Rows, Combination, Done}
use Rattle.host.specs.declared.fault.HostFault.{HostFault}
use Rattle.host.specs.Frames.{bit_table, frame_of, is_column, is_status, next_row, with_cells}
use Rattle.host.specs.Stages.{within, after_column, after_row, after_status, after_reply}
use Rattle.host.specs.Steps.{fits, spoken_length, written, Moved, Said, Spoken, awaited, kept, Heard}
use Rattle.host.specs.Meaning.{Knows, Sends, Speaks, RepliedBy, Learns}
use Rattle.host.proofs.Tables.{table-bit, column-heard}
use Rattle.host.proofs.Solving.{solves-same}

-- the packed row i of a table times B
row-times : (n : ℕ) (B : Mat) (ys : List ℕ) (i j : ℕ) → apply_row bits n B (bits_of (pack n (bit_table n ys i))) j ≡ sum n (λ k. both (bit_table n ys i k) (B k j))
unfolding apply_row
row-times n B ys i j = sum-cong n _ _ (λ k hk. ap (λ x. both x (B k j)) (bits-pack-in n (bit_table n ys i) k hk (table-bit n ys i k)))

-- the frame of a stage means what is known
pub sends : (n : ℕ) (B : Mat) (st : Stage) (xs ys : List ℕ) → within n st ≡ true → Knows n B st xs ys → Sends n B st (frame_of n st ys)
unfolding times
sends n B (Columns j) xs ys w h = refl
sends n B Full xs ys w h = refl
sends n B (Status s) xs ys w h = refl
sends n B (Rows i) xs ys w h = (pack n (bit_table n ys i), refl, length-pack n (bit_table n ys i), λ j hj. row-times n B ys i j ∙ h i j (ltb-true i n w) hj)
sends n B (Combination r) xs ys w h = (
  pack n (bit_table n ys r),
  refl,
  length-pack n (bit_table n ys r),
  record {
    at = h.at;
    at_lt = h.at_lt;
    nonzero = λ e. h.nonzero (sym (bits-pack-in n (bit_table n ys r) h.at h.at_lt (table-bit n ys r h.at)) ∙ e);
    zero = λ j hj. row-times n B ys r j ∙ h.vanish j hj;
  },
)
sends n B Done xs ys w h = refl

-- what is known goes over to an equal stage and equal tables
carried : (n : ℕ) (B : Mat) (st st' : Stage) (xs xs' ys ys' : List ℕ) → st' ≡ st → xs' ≡ xs → ys' ≡ ys → Knows n B st xs ys → Knows n B st' xs' ys'
carried n B st st' xs xs' ys ys' e f g h = subst (λ s. Knows n B s xs' ys') (sym e) (subst (λ l. Knows n B st l ys') (sym f) (subst (λ l. Knows n B st xs l) (sym g) h))

-- rows go on, or end
row-after : (n : ℕ) (B : Mat) (i : ℕ) (b : Bool) (xs ys : List ℕ) → Knows n B (Rows i) xs ys → Knows n B (cond b Done (Rows (i + 1))) xs ys
row-after n B i true xs ys h = tt
row-after n B i false xs ys h = h

-- after a speaking, what is known still is, and the frame of the stage means it
pub moves : (n : ℕ) (B : Mat) (st st' : Stage) (xs xs' ys ys' : List ℕ) → within n st ≡ true → Knows n B st xs ys → Moved n st xs ys st' xs' ys' → Knows n B st' xs' ys' × Sends n B st (frame_of n st ys')
moves n B (Columns j) st' xs xs' ys ys' w h m = (carried n B (Columns j) st' xs xs' ys ys' m.0 m.1 m.2 h, refl)
moves n B Full st' xs xs' ys ys' w h m = (subst (λ s. Knows n B s xs' ys') (sym m.1) (solves-same bits n (bit_table n xs) B h (bit_table n ys') m.0 m.2), refl)
moves n B (Status s) st' xs xs' ys ys' w h m = (carried n B (Status s) st' xs xs' ys ys' m.0 m.1 m.2 h, refl)
moves n B (Rows i) st' xs xs' ys ys' w h m = (
  carried n B (after_row n i) st' xs xs' ys ys' m.0 m.1 m.2 (row-after n B i (eqb (i + 1) n) xs ys h),
  sends n B (Rows i) xs' ys' w (carried n B (Rows i) (Rows i) xs xs' ys ys' refl m.1 m.2 h),
)
moves n B (Combination r) st' xs xs' ys ys' w h m = (
  carried n B Done st' xs xs' ys ys' m.0 m.1 m.2 tt,
  sends n B (Combination r) xs' ys' w (carried n B (Combination r) (Combination r) xs xs' ys ys' refl m.1 m.2 h),
)
moves n B Done st' xs xs' ys ys' w h m = (carried n B Done st' xs xs' ys ys' m.0 m.1 m.2 tt, refl)

-- the frame in its memory is the stage's
frame-written : (n : ℕ) (st : Stage) (ys fr : List ℕ) → written (Ok (spoken_length n st)) (laid (frame_of n st ys) fr) ≡ frame_of n st ys
frame-written n (Columns j) ys fr = refl
frame-written n Full ys fr = refl
frame-written n (Status s) ys fr = refl
frame-written n (Rows i) ys fr = take_at (frame_of n (Rows i) ys) _ _ (let p = length-pack n (bit_table n ys i) in omega arith)
frame-written n (Combination r) ys fr = take_at (frame_of n (Combination r) ys) _ _ (let p = length-pack n (bit_table n ys r) in omega arith)
frame-written n Done ys fr = refl

pub written-is : (n : ℕ) (st st' : Stage) (xs xs' ys ys' fr fr' : List ℕ) (r : Result (Option ℕ) HostFault) → Said n st xs ys fr r st' xs' ys' fr' → written r fr' ≡ frame_of n st ys'
written-is n st st' xs xs' ys ys' fr fr' r d = ap₂ written d.result d.frame ∙ frame-written n st ys' fr

-- a speaking that is not refused
pub speaks : (n : ℕ) (B : Mat) (st st' : Stage) (xs xs' ys ys' fr fr' : List ℕ) (r : Result (Option ℕ) HostFault) (n' : ℕ) → within n st ≡ true
    → Spoken n st xs ys fr r n' st' xs' ys' fr' → is_ok r ≡ true → Knows n B st xs ys → Speaks n B st r st' xs' ys' fr'
speaks n B st st' xs xs' ys ys' fr fr' r n' w d ok h = go (fits n (length xs) (length ys) (length fr)) refl
  where
    go : (b : Bool) → fits n (length xs) (length ys) (length fr) ≡ b → Speaks n B st r st' xs' ys' fr'
    go true e =
        let m = moves n B st st' xs xs' ys ys' w h (d.said e).moved in
        record { knows = m.0; sends = subst (Sends n B st) (sym (written-is n st st' xs xs' ys ys' fr fr' r (d.said e))) m.1 }
    go false e = absurd (false≢true (sym (ap is_ok (d.refused e).fault) ∙ ok))

frame-fits : (n : ℕ) (st : Stage) (m : ℕ) → m ≡ bytes_for n + 3 → IfSome (spoken_length n st) (λ k. k ≤ m)
frame-fits n (Columns j) m e = omega arith
frame-fits n Full m e = omega arith
frame-fits n (Status s) m e = omega arith
frame-fits n (Rows i) m e = omega arith
frame-fits n (Combination r) m e = omega arith
frame-fits n Done m e = tt

-- the frame fits its memory
pub frame-room : (n : ℕ) (st st' : Stage) (xs xs' ys ys' fr fr' : List ℕ) (r : Result (Option ℕ) HostFault) (n' m : ℕ) → m ≡ length fr
    → Spoken n st xs ys fr r n' st' xs' ys' fr' → IfOk r (λ o. IfSome o (λ k. k ≤ m))
frame-room n st st' xs xs' ys ys' fr fr' r n' m l d = go (fits n (length xs) (length ys) (length fr)) refl
  where
    go : (b : Bool) → fits n (length xs) (length ys) (length fr) ≡ b → IfOk r (λ o. IfSome o (λ k. k ≤ m))
    go true e =
        let p = and_parts (eqb (length xs) (n * n)) _ e in
        let q = and_parts (eqb (length ys) (n * n)) _ p.1 in
        subst (λ a. IfOk a (λ o. IfSome o (λ k. k ≤ m))) (sym (d.said e).result) (frame-fits n st m (l ∙ eqb-true (length fr) (bytes_for n + 3) q.1))
    go false e = subst (λ a. IfOk a (λ o. IfSome o (λ k. k ≤ m))) (sym (d.refused e).fault) tt

all-three : (a b c : Bool) → a ≡ true → b ≡ true → c ≡ true → (a && (b && c)) ≡ true
all-three a b c p q r = rw (p, q) r

-- the reply to a column is awaited
pub column-awaited : (n j : ℕ) (v : ℕ → ℕ) → is_column n j (33 ∷ j % 256 ∷ j / 256 ∷ pack n v) ≡ true
column-awaited n j v = all-three _ _ _ (eq-eqb (suc (suc (suc (length (pack n v))))) (bytes_for n + 3) (let p = length-pack n v in omega arith)) refl (eq-eqb (j % 256 + 256 * (j / 256)) j (omega arith))

-- so is the reply to the status
pub status-awaited : (n i : ℕ) → i < n → is_status n (36 ∷ 0 ∷ i % 256 ∷ i / 256 ∷ []) ≡ true
status-awaited n i h = lt-ltb _ _ (omega arith)

-- columns go on, or are all there
column-after : (n : ℕ) (B : Mat) (j : ℕ) (b : Bool) (xs ys : List ℕ) → eqb (j + 1) n ≡ b → ((i k : ℕ) → i < n → k < j + 1 → bit_table n xs i k ≡ B i k) → Knows n B (cond b Full (Columns (j + 1))) xs ys
column-after n B j true xs ys e h = λ i k hi hk. h i k hi (let q : j + 1 ≡ n = eqb-true (j + 1) n e in omega arith)
column-after n B j false xs ys e h = h

-- what was solved gives rows, or the combination
status-after : (n : ℕ) (B : Mat) (s : Solved) (i : ℕ) (xs ys : List ℕ) → Solves bits n B (bit_table n ys) s → Knows n B (after_status s i) xs ys
status-after n B Inverse i xs ys h = h.left
status-after n B (Dependent r) i xs ys h = h.combination

-- a reply of a card with B is awaited, tells the next row, and keeps what is known
module _ (n : ℕ) (B : Mat) (i : ℕ) (hi : i < n) where
  pub told-awaited : (st : Stage) (r : List ℕ) → RepliedBy n B i st r → awaited n st r ≡ true
  told-awaited (Columns j) r t = ap (is_column n j) t ∙ column-awaited n j (λ a. B a j)
  told-awaited (Status s) r t = ap (is_status n) t ∙ status-awaited n i hi
  told-awaited Full r t = refl
  told-awaited (Rows k) r t = refl
  told-awaited (Combination k) r t = refl
  told-awaited Done r t = refl

  pub told-stage : (st : Stage) (r : List ℕ) → RepliedBy n B i st r → after_reply n (next_row r) st ≡ after_reply n i st
  told-stage (Columns j) r t = refl
  told-stage (Status s) r t = ap (after_status s) (ap next_row t ∙ (let e : i % 256 + 256 * (i / 256) ≡ i = omega arith in e))
  told-stage Full r t = refl
  told-stage (Rows k) r t = refl
  told-stage (Combination k) r t = refl
  told-stage Done r t = refl

  pub told-knows : (st : Stage) (r xs ys : List ℕ) → Els bits B → length xs ≡ n * n → within n st ≡ true → RepliedBy n B i st r → Knows n B st xs ys → Knows n B (after_reply n i st) (kept n st r xs) ys
  told-knows (Columns j) r xs ys els l w t h =
      subst (λ q. Knows n B (after_column n j) (with_cells n j n (bits_of (drop 3 q)) xs) ys) (sym t)
      (column-after n B j (eqb (j + 1) n) _ ys refl (column-heard n j B xs els l (ltb-true j n w) h))
  told-knows (Status s) r xs ys els l w t h = status-after n B s i xs ys h
  told-knows Full r xs ys els l w t h = h
  told-knows (Rows k) r xs ys els l w t h = h
  told-knows (Combination k) r xs ys els l w t h = h
  told-knows Done r xs ys els l w t h = tt

-- a hearing of such a reply
pub learns : (n : ℕ) (B : Mat) (i : ℕ) (st st' : Stage) (reply xs xs' ys : List ℕ) (r : Result (Unit {0}) HostFault) (n' : ℕ) → Els bits B → length xs ≡ n * n → within n st ≡ true → i < n
    → RepliedBy n B i st reply → Knows n B st xs ys → Heard n st xs reply r n' st' xs' → Learns n B i st r st' xs' ys
learns n B i st st' reply xs xs' ys r n' els l w hi t h d =
    let q : eqb (length xs) (n * n) ≡ true = eq-eqb _ _ l in
    let ok : awaited n st reply ≡ true = told-awaited n B i hi st reply t in
    let stage : st' ≡ after_reply n i st = d.stage ∙ cond-true _ _ _ q ∙ cond-true _ _ _ ok ∙ told-stage n B i hi st reply t in
    record {
      accepted = d.result ∙ cond-true _ _ _ q ∙ cond-true _ _ _ ok;
      stage = stage;
      knows = carried n B (after_reply n i st) st' (kept n st reply xs) xs' ys ys stage (d.first ∙ cond-true _ _ _ q ∙ cond-true _ _ _ ok) refl (told-knows n B i hi st reply xs ys els l w t h);
    }
