-- A verdict that holds is the only one that does. Assumes nothing.
use Rattle.std.proofs.Common.{◌≡◌, ℕ, ◌+◌, ◌*◌, ◌/◌, ◌%◌, ◌<◌, List, length, IfOk, Ok, Err, Result, refl, sym, ap, ◌∙◌, subst, ap₂, arith, mul_comm}
use native.Mathlib.Nat.{div-add-mod}
use Rattle.std.proofs.lemmas.List.FromFn.{length-map-range_with_len, get_or-map-range_with_len}
use Rattle.std.proofs.lemmas.Nat.{mul-add-lt, div-mul-add, mod-mul-add}
use Rattle.std.specs.declared.alloc.AllocError.{AllocError}
use Rattle.matrix.specs.Matrix.{Mat}
use Rattle.bits.specs.Bits.{bytes_for, bit_of, byte_at, of_rows, pad_bit}
use Rattle.bits.specs.Columns.{packed_rows}
use Rattle.bits.proofs.Packs.{low_bit, pad-lt, pad-in, pad-out}
use Rattle.key.specs.declared.sizes.Sizes.{Sizes}
use Rattle.audit.specs.declared.verdict.Verdict.{Verdict}
use Rattle.audit.specs.declared.verdict.Verdict.TheVariants.{Right, Length, NoKey, Wrong, Pad}
use Rattle.audit.specs.Verdicts.{SameColumns, Differs, Padless, Padded, Belongs, Long, Tells}

-- a bit of packed rows, pad bits too
packed-bit : (n k : ℕ) (T : Mat) (i j : ℕ) → i < n → j < 8 * bytes_for k → of_rows (bytes_for k) (packed_rows n k T) i j ≡ pad_bit k (T i) j
unfolding of_rows packed_rows byte_at
packed-bit n k T i j hi hj =
    let w = bytes_for k in
    let q : j / 8 < w = omega arith in
    let inside : i * w + j / 8 < n * w = omega (arith, mul-add-lt i w (j / 8) n hi q, mul_comm n w) in
    ap (λ x. bit_of x (j % 8))
    (get_or-map-range_with_len (λ p. byte_at k (T (p / w)) (p % w)) 0 (n * w) (i * w + j / 8) (i * w + j / 8) 0 inside (omega arith)
    ∙ ap₂ (λ a b. byte_at k (T a) b) (div-mul-add i w (j / 8) q) (mod-mul-add i w (j / 8) q))
    ∙ low_bit 8 (j % 8) (λ b. pad_bit k (T i) (8 * (j / 8) + b)) (λ b. pad-lt k (T i) (8 * (j / 8) + b)) (omega arith)
    ∙ ap (pad_bit k (T i)) (div-add-mod j 8)

packed-long : (n k : ℕ) (T : Mat) → length (packed_rows n k T) ≡ n * bytes_for k
unfolding packed_rows
packed-long n k T = length-map-range_with_len (λ p. byte_at k (T (p / bytes_for k)) (p % bytes_for k)) 0 (n * bytes_for k)

-- of two numbers neither below the other
neither : (a b : ℕ) → (a < b → ⊥) → (b < a → ⊥) → a ≡ b
neither a b h l = omega (arith, h, l)

module _ (n k : ℕ) (xs : List ℕ) (T T' : Mat) (same : (a b : ℕ) → a < n → b < k → T' a b ≡ T a b) where
  -- where all columns are right, none is wrong
  no-differs : (c i : ℕ) → SameColumns n k xs T' k → Differs n k xs T c i → ⊥
  no-differs c i h d = d.differs (h i c d.row d.column ∙ same i c d.row d.column)

  -- the first wrong column is not before another such
  no-earlier : (c i c' i' : ℕ) → Differs n k xs T c i → Differs n k xs T' c' i' → c < c' → ⊥
  no-earlier c i c' i' d d' h = d.differs (d'.earlier i c d.row h ∙ same i c d.row d.column)

  -- nor its first wrong row above another such
  no-above : (c i i' : ℕ) → Differs n k xs T c i → Differs n k xs T' c i' → i < i' → ⊥
  no-above c i i' d d' h = d.differs (d'.above i h ∙ same i c d.row d.column)

-- there is one first wrong bit
one-differs : (n k : ℕ) (xs : List ℕ) (T T' : Mat) → ((a b : ℕ) → a < n → b < k → T' a b ≡ T a b)
    → (c i c' i' : ℕ) → Differs n k xs T c i → Differs n k xs T' c' i' → Wrong c' i' ≡ Wrong c i
one-differs n k xs T T' same c i c' i' d d' =
    let back : (a b : ℕ) → a < n → b < k → T a b ≡ T' a b = λ a b ha hb. sym (same a b ha hb) in
    let column : c' ≡ c = neither c' c (no-earlier n k xs T' T back c' i' c i d' d) (no-earlier n k xs T T' same c i c' i' d d') in
    let e : Differs n k xs T' c i' = subst (λ z. Differs n k xs T' z i') column d' in
    ap₂ Wrong column (neither i' i (no-above n k xs T' T back c i' i e d) (no-above n k xs T T' same c i i' d e))

-- there is one first row with a pad bit
one-padded : (n k : ℕ) (xs : List ℕ) (i i' : ℕ) → Padded n k xs i → Padded n k xs i' → Pad i' ≡ Pad i
one-padded n k xs i i' p p' = ap Pad (neither i' i (λ h. p'.dirty (p.above i' h)) (λ h. p.dirty (p'.above i h)))

module _ (s : Sizes) (H : Mat) (xs : List ℕ) where
  belongs-long : Belongs s H xs → Long s xs
  belongs-long b = ap length b.packed ∙ packed-long s.rows s.rest b.key

  belongs-columns : (b : Belongs s H xs) → SameColumns s.rows s.rest xs b.key s.rest
  belongs-columns b i c hi hc =
      let small = b.public.has.elements i c hi hc in
      let low : b.key i c % 2 ≡ b.key i c = omega arith in
      ap (λ z. of_rows (bytes_for s.rest) z i c) b.packed
      ∙ packed-bit s.rows s.rest b.key i c hi (omega (arith, hc))
      ∙ pad-in s.rest (b.key i) c hc ∙ low

  belongs-padless : Belongs s H xs → (i : ℕ) → i < s.rows → Padless s.rest xs i
  belongs-padless b i hi j past within =
      ap (λ z. of_rows (bytes_for s.rest) z i j) b.packed ∙ packed-bit s.rows s.rest b.key i j hi within ∙ pad-out s.rest (b.key i) j past

  -- no two verdicts hold
  pub only : (v u : Verdict) → Tells s H xs v → Tells s H xs u → u ≡ v
  only Right Right t h = refl
  only Right (Length m) t h = absurd (h.1 (belongs-long t))
  only Right NoKey t h = absurd (h.2 t.key t.public)
  only Right (Wrong c i) t h = absurd (no-differs s.rows s.rest xs h.0 t.key (h.1.only t.key t.public.has) c i (belongs-columns t) h.3)
  only Right (Pad i) t h = absurd (h.4.dirty (belongs-padless t i h.4.row))
  only (Length l) Right t h = absurd (t.1 (belongs-long h))
  only (Length l) (Length m) t h = ap Length (h.0 ∙ sym t.0)
  only (Length l) NoKey t h = absurd (t.1 h.0)
  only (Length l) (Wrong c i) t h = absurd (t.1 h.2)
  only (Length l) (Pad i) t h = absurd (t.1 h.2)
  only NoKey Right t h = absurd (t.2 h.key h.public)
  only NoKey (Length m) t h = absurd (h.1 t.0)
  only NoKey NoKey t h = refl
  only NoKey (Wrong c i) t h = absurd (t.2 h.0 h.1)
  only NoKey (Pad i) t h = absurd (t.2 h.0 h.1)
  only (Wrong c i) Right t h = absurd (no-differs s.rows s.rest xs t.0 h.key (t.1.only h.key h.public.has) c i (belongs-columns h) t.3)
  only (Wrong c i) (Length m) t h = absurd (h.1 t.2)
  only (Wrong c i) NoKey t h = absurd (h.2 t.0 t.1)
  only (Wrong c i) (Wrong c' i') t h = one-differs s.rows s.rest xs t.0 h.0 (t.1.only h.0 h.1.has) c i c' i' t.3 h.3
  only (Wrong c i) (Pad i') t h = absurd (no-differs s.rows s.rest xs t.0 h.0 (t.1.only h.0 h.1.has) c i h.3 t.3)
  only (Pad i) Right t h = absurd (t.4.dirty (belongs-padless h i t.4.row))
  only (Pad i) (Length m) t h = absurd (h.1 t.2)
  only (Pad i) NoKey t h = absurd (h.2 t.0 t.1)
  only (Pad i) (Wrong c i') t h = absurd (no-differs s.rows s.rest xs h.0 t.0 (h.1.only t.0 t.1.has) c i' t.3 h.3)
  only (Pad i) (Pad i') t h = one-padded s.rows s.rest xs i i' t.4 h.4

  pub answered_only : (r : Result Verdict AllocError) → IfOk r (Tells s H xs) → IfOk r (λ v. (u : Verdict) → Tells s H xs u → u ≡ v)
  answered_only (Ok v) t = λ u h. only v u t h
  answered_only (Err e) t = tt
