-- What a card in phase 0 answers the frames of a host. Assumes nothing.
use Rattle.std.proofs.Common.{◌≡◌, ◌≢◌, ℕ, ◌+◌, ◌*◌, ◌/◌, ◌%◌, ◌<◌, ◌≤◌, true, false, not, cond, eqb, ltb, eqb-true, List, [], ◌∷◌, length, get_or, Some, None, Option, sym, refl, ap, ◌∙◌, inl, inr, arith}
use Rattle.std.proofs.lemmas.Bool.{cases_lt, eq-eqb, lt-ltb, le-ltb}
use borrow.Author.Tests.{not-false}
use Rattle.std.proofs.lemmas.Bool.Decides.{nat_tests}
use Rattle.galois.specs.Bit.{bits}
use Rattle.matrix.specs.Matrix.{Mat, delta, times, apply_row}
use Rattle.matrix.specs.Search.{least}
use Rattle.matrix.proofs.Searches.{least-none, none_passes}
use Rattle.bits.specs.Bits.{bytes_for, bits_of, pack}
use Rattle.bits.specs.Columns.{entry_of}
use Rattle.bits.proofs.Packs.{pack-cong}
use Rattle.bits.proofs.Columns.{get_or-columns}
use Rattle.key.specs.declared.sizes.Sizes.{Sizes}
use Rattle.session.specs.declared.fault.SessionFault.{SessionFault}
use Rattle.session.specs.declared.fault.SessionFault.TheVariants.{Length, Index, Turn, Wrong, Zero, Nonzero}
use Rattle.session.specs.Table.{first, Lent, blinded, wrong, nonzero, leading, memory_lines, frame_lines, answering_lines}
use Rattle.session.specs.Answers.{or_refusal, or_none, granted, reply_of}
use Rattle.session.proofs.Products.{entry-columns, product_lt}
use Rattle.session.proofs.Steps.{first-after}

-- memories that fit, and a blinding of the set's size
pub record Fits (set : Sizes) (order : ℕ) (m : Lent) : Type 0 where
  pub same : order ≡ set.rows
  pub inverse : m.inverse ≡ set.rows * bytes_for set.rows
  pub working : 2 * bytes_for set.rows ≤ m.working
  pub reply : bytes_for set.rows + 3 ≤ m.reply

-- the frame f is not refused, and answered r
pub record Accepts (set : Sizes) (order : ℕ) (B : List (List ℕ)) (taken : ℕ) (m : Lent) (f r : List ℕ) : Type 0 where
  pub none : first (answering_lines set set order B 0 taken m f) ≡ None
  pub reply : reply_of set set order B 0 taken m f ≡ r

no-memory : (set : Sizes) (order : ℕ) (m : Lent) → Fits set order m → first (memory_lines set set order m) ≡ None
no-memory set order m fits =
    let a = fits.same in
    let b = fits.inverse in
    let c = fits.working in
    let d = fits.reply in
    grind (arith, nat_tests)

-- a frame that no line of its own refuses
accepted : (set : Sizes) (order : ℕ) (B : List (List ℕ)) (taken : ℕ) (m : Lent) (f r : List ℕ) → Fits set order m
    → first (frame_lines set.rows B 0 taken f) ≡ None → granted B 0 taken f ≡ r → Accepts set order B taken m f r
accepted set order B taken m f r fits none is =
    let fit = no-memory set order m fits in
    record {
      none = first-after (memory_lines set set order m) (frame_lines set.rows B 0 taken f) fit ∙ none;
      reply = (λ i. or_none (fit i) (or_refusal (none i) (granted B 0 taken f))) ∙ is;
    }

pub word-back : (j : ℕ) → j % 256 + 256 * (j / 256) ≡ j
word-back j = omega arith

-- nothing is wrong with a unit row
wrong-none : (n : ℕ) (B : List (List ℕ)) (s : List ℕ) (i : ℕ) → ((j : ℕ) → j < n → apply_row bits n (entry_of B) (bits_of s) j ≡ delta i j) → n ≤ wrong n B s i
unfolding wrong
wrong-none n B s i unit =
    let e = least-none n (λ j. not (eqb (apply_row bits n (entry_of B) (bits_of s) j) (delta i j))) (λ j h. ap not (eq-eqb _ _ (unit j h))) in
    omega (arith, e)

nonzero-none : (n : ℕ) (B : List (List ℕ)) (v : List ℕ) → ((j : ℕ) → j < n → apply_row bits n (entry_of B) (bits_of v) j ≡ 0) → n ≤ nonzero n B v
unfolding nonzero
nonzero-none n B v zero =
    let e = least-none n (λ j. not (eqb (apply_row bits n (entry_of B) (bits_of v) j) 0)) (λ j h. ap not (eq-eqb _ _ (zero j h))) in
    omega (arith, e)

leading-some : (n : ℕ) (v : List ℕ) (at : ℕ) → at < n → bits_of v at ≢ 0 → leading n v < n
unfolding leading
leading-some n v at below some =
    elim (cases_lt (least n (λ j. not (eqb (bits_of v j) 0))) n) [
      | inl h ↦ h
      | inr h ↦ absurd (some (eqb-true _ _ (not-false _ (none_passes n (λ j. not (eqb (bits_of v j) 0)) h at below))))
    ]

module _ (set : Sizes) (order : ℕ) (B : List (List ℕ)) (taken : ℕ) (m : Lent) (fits : Fits set order m) where
  abbrev n : ℕ
  n = set.rows

  -- a column below n
  pub column-answered : (j : ℕ) → j < n → Accepts set order B taken m (17 ∷ j % 256 ∷ j / 256 ∷ []) (33 ∷ j % 256 ∷ j / 256 ∷ get_or B j [])
  column-answered j h =
      let f : List ℕ = 17 ∷ j % 256 ∷ j / 256 ∷ [] in
      accepted set order B taken m f _ fits
      (ap (λ b. cond {A = Option SessionFault} (not b) (Some (Index (j % 256 + 256 * (j / 256)))) None) (lt-ltb (j % 256 + 256 * (j / 256)) n (omega (arith, word-back j))))
      (ap (λ i. 33 ∷ i % 256 ∷ i / 256 ∷ get_or B i []) (word-back j))

  -- the status
  pub status-answered : Accepts set order B taken m (20 ∷ []) (36 ∷ 0 ∷ taken % 256 ∷ taken / 256 ∷ [])
  status-answered = accepted set order B taken m (20 ∷ []) _ fits refl refl

  -- a row in its turn
  pub row-answered : (s : List ℕ) → length s ≡ bytes_for n → ((j : ℕ) → j < n → apply_row bits n (entry_of B) (bits_of s) j ≡ delta taken j)
      → Accepts set order B taken m (18 ∷ taken % 256 ∷ taken / 256 ∷ s) (34 ∷ (taken + 1) % 256 ∷ (taken + 1) / 256 ∷ [])
  row-answered s long unit =
      let f : List ℕ = 18 ∷ taken % 256 ∷ taken / 256 ∷ s in
      let a : eqb (length f) (bytes_for n + 3) ≡ true = eq-eqb (length f) (bytes_for n + 3) (omega (arith, long)) in
      let b : eqb (taken % 256 + 256 * (taken / 256)) taken ≡ true = eq-eqb (taken % 256 + 256 * (taken / 256)) taken (word-back taken) in
      let c : ltb (wrong n B s taken) n ≡ false = le-ltb (wrong n B s taken) n (wrong-none n B s taken unit) in
      accepted set order B taken m f _ fits
      (λ k. cond {A = Option SessionFault} (not (a k)) (Some (Length (length f)))
      (cond {A = Option SessionFault} (not (b k)) (Some (Turn taken))
      (cond {A = Option SessionFault} (c k) (Some (Wrong (wrong n B s taken))) None)))
      refl

  -- a combination
  pub combination-answered : (v : List ℕ) → length v ≡ bytes_for n → (at : ℕ) → at < n → bits_of v at ≢ 0 → ((j : ℕ) → j < n → apply_row bits n (entry_of B) (bits_of v) j ≡ 0)
      → Accepts set order B taken m (19 ∷ v) (35 ∷ [])
  combination-answered v long at below some zero =
      let f : List ℕ = 19 ∷ v in
      let a : eqb (length f) (bytes_for n + 1) ≡ true = eq-eqb (length f) (bytes_for n + 1) (omega (arith, long)) in
      let b : ltb (leading n v) n ≡ true = lt-ltb (leading n v) n (leading-some n v at below some) in
      let c : ltb (nonzero n B v) n ≡ false = le-ltb (nonzero n B v) n (nonzero-none n B v zero) in
      accepted set order B taken m f _ fits
      (λ k. cond {A = Option SessionFault} (not (a k)) (Some (Length (length f)))
      (cond {A = Option SessionFault} (not (b k)) (Some Zero)
      (cond {A = Option SessionFault} (c k) (Some (Nonzero (nonzero n B v))) None)))
      refl

-- column j of B
pub column-of : (n : ℕ) (R H : Mat) (j : ℕ) → j < n → get_or (blinded n R H) j [] ≡ pack n (λ a. entry_of (blinded n R H) a j)
column-of n R H j h = get_or-columns n n (times bits n R H) j h ∙ pack-cong n _ _ (λ a ha. sym (entry-columns n n (times bits n R H) a j ha h (product_lt n R H a j)))
