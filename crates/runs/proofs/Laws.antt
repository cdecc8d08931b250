-- The answers of a run are a function of its frames. Assumes nothing.
use Rattle.std.proofs.Common.{◌≡◌, List, [], ◌∷◌, ◌++◌, sym, refl, ap, ◌∙◌, append-nil, append_assoc}
use Rattle.runs.specs.declared.calls.Event.{Event}
use Rattle.runs.specs.declared.calls.Event.TheVariants.{Answered, Closed, Published, NotAllowed}
use Rattle.runs.specs.Runs.{Card, Seen, seen, Sent, Given, sent_in, given_in, frames, answers}
use Rattle.runs.specs.Law.{given, AsTold, Told}
use Rattle.runs.proofs.Lists.{answers_more}

-- what frames are answered, one after the other
unfoldable pub all_given : Seen → List Given → List Sent → List Given
all_given k past [] = []
all_given k past (s ∷ ss) = given k past s ∷ all_given k (past ++ given k past s ∷ []) ss

-- one event
one-given : (k : Card) (past : List Event) (e : Event) → AsTold k past e → given_in e ≡ all_given (seen k) (answers past) (sent_in e)
unfolding all_given
one-given k past (Answered f w a m) t = t.1
one-given k past (Closed x) t = refl
one-given k past (Published w x) t = refl
one-given k past (NotAllowed c) t = refl

all_given-append : (k : Seen) (past : List Given) (xs ys : List Sent) → all_given k past (xs ++ ys) ≡ all_given k past xs ++ all_given k (past ++ all_given k past xs) ys
unfolding all_given
all_given-append k past [] ys = ap (λ p. all_given k p ys) (sym (append-nil past))
all_given-append k past (x ∷ xs) ys =
    let g = given k past x in
    ap (λ l. g ∷ l) (all_given-append k (past ++ g ∷ []) xs ys ∙ ap (λ p. all_given k (past ++ g ∷ []) xs ++ all_given k p ys) (append_assoc past (g ∷ []) (all_given k (past ++ g ∷ []) xs)))

pub told-given : (k : Card) (past es : List Event) → Told k past es → answers es ≡ all_given (seen k) (answers past) (frames es)
unfolding all_given
told-given k past [] t = refl
told-given k past (e ∷ es) t =
    let one = one-given k past e t.0 in
    let rest = told-given k (past ++ e ∷ []) es t.1 in
    let pasts : answers (past ++ e ∷ []) ≡ answers past ++ all_given (seen k) (answers past) (sent_in e) = answers_more past e ∙ ap (λ l. answers past ++ l) one in
    (λ i. one i ++ rest i)
    ∙ ap (λ p. all_given (seen k) (answers past) (sent_in e) ++ all_given (seen k) p (frames es)) pasts
    ∙ sym (all_given-append (seen k) (answers past) (sent_in e) (frames es))
