-- What passes the tests of loading is a key as every slot holds one. Assumes nothing.
use Rattle.std.proofs.Common.{◌≡◌, ℕ, ◌+◌, ◌*◌, ◌^◌, ◌<◌, ◌≤◌, Bool, true, false, not, eqb, ltb, List, [], ◌∷◌, map, length, get_or, take, None, Ok, sym, refl, ap, ◌∙◌, subst, ap₂, inl, inr, zero-add, arith}
use lib.Bits.{bit_xor}
use Rattle.std.specs.List.{range_with_len}
use Rattle.std.proofs.lemmas.List.FromFn.{fill_by_all}
use Rattle.std.proofs.lemmas.List.{get_or-take, length-take-le}
use Rattle.std.proofs.lemmas.Bool.{eq-eqb, cases_lt, cond-false, le-ltb}
use Rattle.galois.specs.Gf.{times, shifted, times_z, inverse_of}
use Rattle.matrix.specs.Matrix.{sum, Elements}
use Rattle.matrix.specs.Search.{least, found}
use Rattle.matrix.proofs.Sums.{sum-cong}
use Rattle.params.specs.Sets.{practice12}
use Rattle.params.specs.declared.numbers.Numbers.{Numbers}
use Rattle.goppa.specs.Checks.{value, power}
use Rattle.goppa.specs.Keys.{Distinct, Rootless, Inverses}
use Rattle.goppa.specs.Loading.{Key, any, entry_in, support_in, large, repeated, root, large_in, repeated_in, root_in, InversesIn, key_in, refused_at, unless, read_as}
use Rattle.goppa.specs.declared.fault.LoadFault.TheVariants.{Large, Repeated, Root}
use Rattle.goppa.proofs.Founds.{not-found}
use Rattle.goppa.proofs.Repeats.{some-true}

never : (b : Bool) → b ≡ true → b ≡ false → ⊥
never b p q = let z : true ≡ false = sym p ∙ q in let w : ◌≡◌ {A = ℕ} 0 1 = cc in omega arith

not-large : (m : ℕ) (e : ℕ → ℕ) (k : ℕ) → large m e k ≡ false → e k < 2 ^ m
not-large m e k h = elim (cases_lt (e k) (2 ^ m)) [
  | inl l ↦ l
  | inr l ↦ let q : ltb (e k) (2 ^ m) ≡ false = le-ltb (e k) (2 ^ m) l in absurd (never (large m e k) (ap not q) h)
]

pub elements-of : (m n : ℕ) (e : ℕ → ℕ) → found n (large m e) ≡ None → Elements m n e
elements-of m n e h k l = not-large m e k (not-found n (large m e) h k l)

pub distinct_of : (n : ℕ) (a : ℕ → ℕ) → found n (repeated a) ≡ None → Distinct n a
distinct_of n a h i j l b q =
    never (repeated a j) (some-true j i (λ i. eqb (a i) (a j)) l (eq-eqb (a i) (a j) q)) (not-found n (repeated a) h j b)

pub rootless-of : (m f t n : ℕ) (g a : ℕ → ℕ) → found n (root m f t g a) ≡ None → Rootless m f t n g a
rootless-of m f t n g a h j b q = never (root m f t g a j) (eq-eqb (value m f t g (a j)) 0 q) (not-found n (root m f t g a) h j b)

pub value-cong : (m f t : ℕ) (d g : ℕ → ℕ) (x y : ℕ) → ((k : ℕ) → k < t → d k ≡ g k) → x ≡ y → value m f t d x ≡ value m f t g y
unfolding value
value-cong m f t d g x y h q = ap₂ bit_xor (ap (λ x. power m f x t) q) (sum-cong t _ _ (λ k l. ap₂ (λ a x. times m f a (power m f x k)) (h k l) q))

-- what a slot of the set s holds: the coefficients d, the support b, the inverses y
pub record Lawful (s : Numbers) (d b y : ℕ → ℕ) : Type 0 where
  pub coefficients : Elements s.m s.t d
  pub points : Elements s.m s.n b
  pub distinct : Distinct s.n b
  pub rootless : Rootless s.m s.f s.t s.n d b
  pub inverted : Inverses s.m s.f s.t s.n d b y

-- the bytes pass all tests
pub record Passed (s : Numbers) (bs : List ℕ) : Type 0 where
  pub size : length bs ≡ 2 * (s.t + s.n)
  pub small : found (s.t + s.n) (large_in s bs) ≡ None
  pub apart : found s.n (repeated_in s bs) ≡ None
  pub nonzero : found s.n (root_in s bs) ≡ None

-- such bytes, read into d, b and y
pub lawful : (s : Numbers) (bs : List ℕ) (d b y : ℕ → ℕ) → Passed s bs →
    ((k : ℕ) → k < s.t → d k ≡ entry_in bs (0 + k)) → ((j : ℕ) → j < s.n → b j ≡ entry_in bs (s.t + j)) →
    InversesIn s bs y → Lawful s d b y
lawful s bs d b y passed hd hb hy =
    let g = entry_in bs in
    let a = support_in s.t bs in
    let hd' : (k : ℕ) → k < s.t → d k ≡ g k = λ k l. hd k l ∙ ap g (zero-add k) in
    let el = elements-of s.m (s.t + s.n) g passed.small in
    let at : (j : ℕ) → j < s.n → value s.m s.f s.t d (b j) ≡ value s.m s.f s.t g (a j) =
    λ j l. value-cong s.m s.f s.t d g (b j) (a j) hd' (hb j l) in
    record {
      coefficients = λ k l. subst (λ x. x < 2 ^ s.m) (sym (hd' k l)) (el k (omega arith));
      points = λ j l. subst (λ x. x < 2 ^ s.m) (sym (hb j l)) (el (s.t + j) (omega arith));
      distinct = λ i j l h q. distinct_of s.n a passed.apart i j l h (sym (hb i (omega arith)) ∙ q ∙ hb j h);
      rootless = λ j l q. rootless-of s.m s.f s.t s.n g a passed.nonzero j l (sym (at j l) ∙ q);
      inverted = λ j l. hy j l ∙ ap (inverse_of s.m s.f) (sym (at j l));
    }

-- the front of a list, by its places
pub front-is : (e : ℕ → ℕ) (xs : List ℕ) (n : ℕ) → n ≤ length xs → ((k : ℕ) → k < n → get_or xs k 0 ≡ e k) → take n xs ≡ map e (range_with_len 0 n)
front-is e xs n h p = fill_by_all e (take n xs) n 0 (length-take-le n xs h) (λ k l. get_or-take n xs k 0 l ∙ p k l)

-- the arrays of a slot into which the bytes of a key are read mean this key
pub key-is : (s : Numbers) (bs xs ys : List ℕ) → s.t ≤ length xs → s.n ≤ length ys →
    ((k : ℕ) → k < s.t → get_or xs k 0 ≡ entry_in bs (0 + k)) → ((j : ℕ) → j < s.n → get_or ys j 0 ≡ entry_in bs (s.t + j)) →
    ◌≡◌ {A = Key} (record { set = s; goppa = take s.t xs; support = take s.n ys }) (key_in s bs)
key-is s bs xs ys lx ly hx hy =
    ap₂ (λ g a. record { set = s; goppa = g; support = a })
    (front-is (entry_in bs) xs s.t lx (λ k l. hx k l ∙ ap (entry_in bs) (zero-add k)))
    (front-is (support_in s.t bs) ys s.n ly hy)

-- such bytes are read
pub read_ok : (s : Numbers) (bs : List ℕ) → Passed s bs → read_as s bs ≡ Ok (key_in s bs)
read_ok s bs passed =
    let last = Ok (key_in s bs) in
    let rest = unless s.n (root_in s bs) (λ j. Root (s.t + j)) last in
    cond-false _ _ _ (ap not (eq-eqb (length bs) (2 * (s.t + s.n)) passed.size))
    ∙ ap (λ o. refused_at o Large (unless s.n (repeated_in s bs) (λ j. Repeated (s.t + j)) rest)) passed.small
    ∙ ap (λ o. refused_at o (λ j. Repeated (s.t + j)) rest) passed.apart
    ∙ ap (λ o. refused_at o (λ j. Root (s.t + j)) last) passed.nonzero

abbrev pub fresh-bytes : List ℕ
fresh-bytes = 8 ∷ 0 ∷ 1 ∷ 0 ∷ 0 ∷ 0 ∷ 1 ∷ 0 ∷ 2 ∷ 0 ∷ 3 ∷ 0 ∷ 4 ∷ 0 ∷ 5 ∷ 0 ∷ 6 ∷ 0 ∷ 7 ∷ 0 ∷ 8 ∷ 0 ∷ 9 ∷ 0 ∷ 10 ∷ 0 ∷ 11 ∷ 0 ∷ []

fresh-small : found 14 (large 4 (entry_in fresh-bytes)) ≡ None
unfolding least
fresh-small = refl

fresh-apart : found 12 (repeated (support_in 2 fresh-bytes)) ≡ None
unfolding least any
fresh-apart = refl

fresh-nonzero : found 12 (root 4 19 2 (entry_in fresh-bytes) (support_in 2 fresh-bytes)) ≡ None
unfolding least value power sum times shifted times_z
fresh-nonzero = refl

-- the key of a new slot
pub fresh-passed : Passed practice12 fresh-bytes
fresh-passed = record { size = refl; small = fresh-small; apart = fresh-apart; nonzero = fresh-nonzero }
