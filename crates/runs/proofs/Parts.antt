-- The parts of a run. Assumes nothing.
use Rattle.std.proofs.Common.{◌≡◌, ◌⊎◌, ℕ, ◌+◌, ◌<◌, ◌≤◌, Bool, true, false, ◌&&◌, cond, eqb, eqb-true, ne_eqb, List, [], ◌∷◌, ◌++◌, map, length, get_or, take, drop, arith, sym, refl, ap, ◌∙◌, subst, inl, inr, append-nil, append_assoc}
use lib.Seq.{take-append_seam, drop-append_seam}
use Rattle.std.proofs.lemmas.Bool.{false≢true}
use borrow.Author.Tests.{eqb-false}
use Rattle.std.proofs.lemmas.List.{length-append, length-take, length-map, map-append, nil_from_length}
use Rattle.runs.specs.declared.calls.Call.{Call}
use Rattle.runs.specs.declared.calls.Event.{Event}
use Rattle.runs.specs.Runs.{Card, asked_by, asked_in}
use Rattle.runs.specs.Law.{AsTold, Told}
use Rattle.runs.specs.Reached.{Adds}
use Rattle.runs.proofs.Lists.{asked_more}

-- no event
pub adds_none : (all : List Event) (P : List Event → Type 0) → P [] → Adds all all P
adds_none all P p = ([], sym (append-nil all), p)

-- the events of the first i calls of a list
abbrev pub Makes : List Call → ℕ → List Event → Type 0
Makes calls i part = (length part ≡ i) × (map asked_in part ≡ take i (map asked_by calls))

-- no event of no call
pub none-made : (q : List Event) → map asked_in q ≡ [] → q ≡ []
none-made q e = nil_from_length q (sym (length-map q asked_in) ∙ ap length e)

-- one call more
pub made_more : (calls : List Call) (i : ℕ) (d : Call) (b : Bool) (from all all' : List Event) → i < length calls → b ≡ true → Adds from all (Makes calls i)
    → Adds all all' (λ p. map asked_in p ≡ cond b (asked_by (get_or calls i d) ∷ []) []) → Adds from all' (Makes calls (i + 1))
made_more calls i d b from all all' h is old new =
    let p : List Event = old.0 in
    let q : List Event = new.0 in
    let one : map asked_in q ≡ asked_by (get_or calls i d) ∷ [] = new.2 ∙ ap (λ x. cond x (asked_by (get_or calls i d) ∷ []) []) is in
    let len : length q ≡ 1 = sym (length-map q asked_in) ∙ ap length one in
    let size : length p ≡ i = old.2.0 in
    (p ++ q, new.1 ∙ ap (λ x. x ++ q) old.1 ∙ append_assoc from p q, (omega (arith, length-append p q, len, size), asked_more calls i d b p (p ++ q) h is old.2.1 (map-append asked_in p q ∙ ap (λ x. map asked_in p ++ x) new.2)))

-- and none more, where memory lacked
pub made_end : (calls : List Call) (i : ℕ) (d : Call) (b : Bool) (from all all' : List Event) → b ≡ false → Adds from all (Makes calls i)
    → Adds all all' (λ p. map asked_in p ≡ cond b (asked_by d ∷ []) []) → Adds from all' (λ p. map asked_in p ≡ take (length p) (map asked_by calls))
made_end calls i d b from all all' is old new =
    let p : List Event = old.0 in
    let q : List Event = new.0 in
    let none : q ≡ [] = none-made q (new.2 ∙ ap (λ x. cond x (asked_by d ∷ []) []) is) in
    (p, new.1 ∙ ap (λ x. all ++ x) none ∙ append-nil all ∙ old.1, old.2.1 ∙ ap (λ x. take x (map asked_by calls)) (sym old.2.0))

-- the last event of a run
pub told-last : (k : Card) (past es : List Event) (e : Event) → Told k past (es ++ e ∷ []) → AsTold k (past ++ es) e
told-last k past [] e t = subst (λ p. AsTold k p e) (sym (append-nil past)) t.0
told-last k past (x ∷ es) e t = subst (λ p. AsTold k p e) (append_assoc past (x ∷ []) es) (told-last k (past ++ x ∷ []) es e t.1)

-- the parts of a run: the events of the first list, then p, then q
module _ (es p q all : List Event) (n h : ℕ) (is : all ≡ (es ++ p) ++ q) (first : n ≡ length es) (second : h ≡ length p) where
  pub listed-is : take n all ≡ es
  listed-is = (λ i. take (first i) ((is ∙ append_assoc es p q) i)) ∙ take-append_seam es (p ++ q)

  pub hosted-is : take h (drop n all) ≡ p
  hosted-is =
      let rest : drop n all ≡ p ++ q = (λ i. drop (first i) ((is ∙ append_assoc es p q) i)) ∙ drop-append_seam es (p ++ q) in
      (λ i. take (second i) (rest i)) ∙ take-append_seam p q

  pub rest-is : drop (n + h) all ≡ q
  rest-is = (λ i. drop ((ap (λ x. x + h) first ∙ ap (λ x. length es + x) second ∙ sym (length-append es p)) i) (is i)) ∙ drop-append_seam (es ++ p) q

-- a list of calls is no shorter than what is made of it
pub made-le : (calls : List Call) (p : List Event) → map asked_in p ≡ take (length p) (map asked_by calls) → length p ≤ length calls
made-le calls p made =
    let e : length p ≡ length (take (length p) (map asked_by calls)) = sym (length-map p asked_in) ∙ ap length made in
    omega (arith, e, length-take (length p) (map asked_by calls), length-map calls asked_by)

-- where the first list was cut, and where our host was
pub list-stops : (w1 w2 : Bool) (l1 l2 l3 a : ℕ) → w1 ≡ eqb l1 a → (w2 ≡ true → w1 ≡ true) → (w1 ≡ false → l2 ≡ l1) → (w2 ≡ false → l3 ≡ l2) → (l3 ≡ l1) ⊎ (l1 ≡ a)
list-stops true w2 l1 l2 l3 a one above same stays = inr (eqb-true l1 a (sym one))
list-stops false true l1 l2 l3 a one above same stays = absurd (false≢true (above refl))
list-stops false false l1 l2 l3 a one above same stays = inl (stays refl ∙ same refl)

pub host-stops : (w2 w3 : Bool) (l2 l3 b : ℕ) → w3 ≡ (w2 && eqb l3 (l2 + b)) → (w2 ≡ false → l3 ≡ l2) → (l3 ≡ l2) ⊎ (w3 ≡ eqb l3 (l2 + b))
host-stops true w3 l2 l3 b three stays = inr three
host-stops false w3 l2 l3 b three stays = inl (stays refl)

-- whether two lists with nothing between them were made whole
pub both-whole : (w1 w2 w3 : Bool) (l1 l2 l3 a b : ℕ) → w1 ≡ eqb l1 a → l1 ≤ a → w2 ≡ w1 → l2 ≡ l1 → w3 ≡ (w2 && eqb l3 (l2 + b)) → (w2 ≡ false → l3 ≡ l2) → w3 ≡ eqb l3 (a + b)
both-whole w1 w2 w3 l1 l2 l3 a b one few same none three stays = go w2 refl
  where
    go : (w : Bool) → w2 ≡ w → w3 ≡ eqb l3 (a + b)
    go true e =
        let is : l1 ≡ a = eqb-true l1 a (sym one ∙ sym same ∙ e) in
        three ∙ (λ i. e i && eqb l3 ((none ∙ is) i + b))
    go false e =
        let not-all : eqb l1 a ≡ false = sym one ∙ sym same ∙ e in
        let differ = eqb-false l1 a not-all in
        let kept = stays e in
        three ∙ ap (λ w. w && eqb l3 (l2 + b)) e ∙ sym (ne_eqb l3 (a + b) (omega (arith, kept, none, few, differ)))
