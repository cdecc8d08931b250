-- Taking and reading, over any matrix that a memory holds. Assumes nothing.
use Rattle.std.proofs.Common.{◌≡◌, ℕ, ◌+◌, ◌<◌, ◌≤◌, Bool, true, false, cond, eqb, ltb, List, [], length, is_ok, Ok, Err, Result, sym, refl, ap, ◌∙◌, arith}
use Rattle.std.proofs.lemmas.Bool.{eq-eqb, lt-ltb, le-ltb, cond-true}
use Rattle.matrix.specs.Matrix.{Mat}
use Rattle.bits.specs.Bits.{bytes_for, bits_of, pack}
use Rattle.bits.specs.Columns.{columns_of}
use Rattle.bits.proofs.Columns.{length-columns, get_or-columns, columns-more}
use Rattle.sink.specs.declared.fault.SinkFault.TheVariants.{Full, Absent}
use Rattle.sink.specs.declared.fault.MakeFault.{MakeFault}
use Rattle.sink.specs.Store.{Taking, Reading, store_of, refused_store, new_store}

-- what takes a column was made
pub open-is-made : (wh : Bool) (k l : ℕ) → (wh ≡ false → k ≡ l) → k < l → wh ≡ true
open-is-made true k l shut h = refl
open-is-made false k l shut h = let e = shut refl in absurd (omega arith)

-- no columns
pub columns-none : (n : ℕ) (e : Mat) → columns_of n 0 e ≡ []
unfolding columns_of
columns-none n e = refl

-- a sink that is made is new
pub made-is-new : (r : Result (Unit {0}) MakeFault) (n l : ℕ) (xs ys : List ℕ) (e : Mat) → is_ok r ≡ true → store_of n l 0 true ys e ≡ new_store r n l xs
made-is-new r n l xs ys e ok =
    ap (λ cs. record { size = n; limit = l; columns = cs; whole = true; other = [] }) (columns-none n e)
    ∙ sym (cond-true (is_ok r) _ (refused_store xs) ok)

-- a sink that is not made is the refused one
pub refused-is : (xs : List ℕ) (e : Mat) → store_of 1 0 0 false xs e ≡ refused_store xs
refused-is xs e = ap (λ cs. record { size = 1; limit = 0; columns = cs; whole = false; other = xs }) (columns-none 1 e)

-- one column more
pub takes : (n l k : ℕ) (wh : Bool) (xs ys : List ℕ) (e e' : Mat) (v : List ℕ) → wh ≡ true → length v ≡ bytes_for n → k < l
    → ((i j : ℕ) → i < n → j < k → e' i j ≡ e i j) → ((i : ℕ) → i < n → e' i k ≡ bits_of v i)
    → Taking (store_of n l k wh xs e) (store_of n l (k + 1) wh ys e') v (Ok tt)
takes n l k wh xs ys e e' v made hv hk same new =
    let p : eqb (length v) (bytes_for n) ≡ true = eq-eqb (length v) (bytes_for n) hv in
    let m = length-columns n k e in
    let q : ltb (length (columns_of n k e)) l ≡ true = lt-ltb (length (columns_of n k e)) l (omega arith) in
    let none : cond wh [] ys ≡ cond wh [] xs = ap (λ b. cond b [] ys) made ∙ ap (λ b. cond b [] xs) (sym made) in
    record {
      result = rw (p, q) refl;
      holds = λ t. record { size = n; limit = l; columns = columns-more n k e e' v same new t; whole = wh; other = none t };
    }

pub full : (n l k : ℕ) (wh : Bool) (xs : List ℕ) (e : Mat) (v : List ℕ) → length v ≡ bytes_for n → l ≤ k
    → Taking (store_of n l k wh xs e) (store_of n l k wh xs e) v (Err (Full l))
full n l k wh xs e v hv hk =
    let p : eqb (length v) (bytes_for n) ≡ true = eq-eqb (length v) (bytes_for n) hv in
    let m = length-columns n k e in
    let q : ltb (length (columns_of n k e)) l ≡ false = le-ltb (length (columns_of n k e)) l (omega arith) in
    record { result = rw (p, q) refl; holds = refl }

pub reads : (n l k : ℕ) (wh : Bool) (xs : List ℕ) (e : Mat) (j : ℕ) (out got : List ℕ) → length out ≡ bytes_for n → j < k → got ≡ pack n (λ i. e i j)
    → Reading (store_of n l k wh xs e) j out got (Ok tt)
reads n l k wh xs e j out got room hj h =
    let p : eqb (length out) (bytes_for n) ≡ true = eq-eqb (length out) (bytes_for n) room in
    let m = length-columns n k e in
    let q : ltb j (length (columns_of n k e)) ≡ true = lt-ltb j (length (columns_of n k e)) (omega arith) in
    record { result = rw (p, q) refl; written = h ∙ sym (get_or-columns n k e j hj) }

pub absent : (n l k : ℕ) (wh : Bool) (xs : List ℕ) (e : Mat) (j : ℕ) (out : List ℕ) → length out ≡ bytes_for n → k ≤ j
    → Reading (store_of n l k wh xs e) j out out (Err (Absent j))
absent n l k wh xs e j out room hj =
    let p : eqb (length out) (bytes_for n) ≡ true = eq-eqb (length out) (bytes_for n) room in
    let m = length-columns n k e in
    let q : ltb j (length (columns_of n k e)) ≡ false = le-ltb j (length (columns_of n k e)) (omega arith) in
    record { result = rw (p, q) refl; written = refl }
