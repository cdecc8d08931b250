-- One event more, in the counts and the lists of a run. Assumes nothing.
use Rattle.std.proofs.Common.{◌≡◌, ℕ, ◌+◌, ◌<◌, Bool, true, cond, List, [], ◌∷◌, ◌++◌, map, length, get_or, take, count_by, arith, sym, ap, ◌∙◌, subst, append-nil, append_assoc, zero-add}
use Rattle.std.proofs.lemmas.List.{get_or-map, length-map, take_more}
use Rattle.std.proofs.lemmas.Grind.{flat_map-append}
use Rattle.std.proofs.lemmas.List.Sums.{sum_by-append}
use Rattle.runs.specs.declared.calls.Call.{Call}
use Rattle.runs.specs.declared.calls.Event.{Event}
use Rattle.runs.specs.Runs.{Card, asked_by, asked_in, given_in, answers, is_closing, is_publishing, closings, publishings}
use Rattle.runs.specs.Law.{AsTold, Told}

pub count_more : {X : Type 0} (p : X → Bool) (xs : List X) (x : X) → count_by p (xs ++ x ∷ []) ≡ count_by p xs + cond (p x) 1 0
count_more p xs x = sum_by-append (λ y. cond (p y) 1 0) xs (x ∷ []) ∙ ap (λ n. count_by p xs + n) (zero-add (cond (p x) 1 0))

pub answers_more : (past : List Event) (e : Event) → answers (past ++ e ∷ []) ≡ answers past ++ given_in e
answers_more past e = flat_map-append given_in past (e ∷ []) ∙ ap (λ l. answers past ++ l) (append-nil (given_in e))

pub closings_more : (past : List Event) (e : Event) → closings (past ++ e ∷ []) ≡ closings past + cond (is_closing e) 1 0
closings_more past e = count_more is_closing past e

pub publishings_more : (past : List Event) (e : Event) → publishings (past ++ e ∷ []) ≡ publishings past + cond (is_publishing e) 1 0
publishings_more past e = count_more is_publishing past e

pub told_more : (k : Card) (past es : List Event) (e : Event) → Told k past es → AsTold k (past ++ es) e → Told k past (es ++ e ∷ [])
told_more k past [] e t a = (subst (λ p. AsTold k p e) (append-nil past) a, tt)
told_more k past (x ∷ es) e t a = (t.0, told_more k (past ++ x ∷ []) es e t.1 (subst (λ p. AsTold k p e) (sym (append_assoc past (x ∷ []) es)) a))

-- one call more of a list
pub asked_more : (calls : List Call) (i : ℕ) (d : Call) (b : Bool) (before after : List Event) → i < length calls → b ≡ true → map asked_in before ≡ take i (map asked_by calls)
    → map asked_in after ≡ map asked_in before ++ cond b (asked_by (get_or calls i d) ∷ []) [] → map asked_in after ≡ take (i + 1) (map asked_by calls)
asked_more calls i d b before after h is made more =
    more
    ∙ (λ j. made j ++ cond (is j) (asked_by (get_or calls i d) ∷ []) [])
    ∙ ap (λ x. take i (map asked_by calls) ++ x ∷ []) (sym (get_or-map asked_by calls i d (asked_by d) h))
    ∙ sym (take_more (map asked_by calls) i (asked_by d) (omega (arith, h, length-map calls asked_by)))
