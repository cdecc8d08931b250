-- The law of runs. Assumes nothing.
-- given                       what a frame is answered after the answers before it
-- Absent                      a call that a session does not have
-- AsTold, Told                one event, and each event of a run, is as the table of refusals says
-- Complete, ShownSingular     mt frames were answered 22; one was answered 23
-- Inverts                     the packed inverse of the check block
-- Untouched                   the inverse memory past its first rows
-- SameProduct                 a blinding of another key with the same product
-- Law                         all of it
-- Accepted                    an answered frame that was not refused
-- Unknown                     no set has a name
-- OfSet, Fitting, PhaseZero   where our host can finish: the card is of its set, memory and blinding fit, in phase 0
-- Finished                    our host's part of a run
-- Lends, Hosted               the calls of our host
-- listed_part, ..             the three parts of a run
-- Stops                       what may come after a part that memory cut short
use Rattle.std.specs.Prelude.{◌≡◌, ◌⊎◌, ℕ, ◌+◌, ◌*◌, ◌<◌, List, [], ◌∷◌, ◌++◌, length, take, drop, All, None, Ok, Err, Result, ◌==◌, vec_len}
use Rattle.galois.specs.Bit.{bits}
use Rattle.matrix.specs.Matrix.{Mat, Els, delta, times, Same}
use Rattle.matrix.specs.Words.{TheOnly, LeftInverse, Singular}
use Rattle.bits.specs.Bits.{bytes_for, of_rows}
use Rattle.guard.specs.Zero.{AllZero}
use Rattle.bits.specs.Columns.{columns_of, entry_of, packed_rows}
use Rattle.key.specs.Columns.{IsPublic}
use Rattle.params.specs.declared.numbers.Numbers.{Numbers}
use Rattle.params.specs.declared.set.SetFault.{SetFault}
use Rattle.session.specs.Table.{first, Lent, lent, Secret, product, answering_lines, closing_lines, publishing_lines}
use Rattle.session.specs.Answers.{reply_of}
use Rattle.runs.specs.declared.calls.Event.{Event}
use Rattle.runs.specs.declared.calls.Event.TheVariants.{Answered, Closed, Published, NotAllowed}
use Rattle.runs.specs.declared.calls.Run.{Run}
use Rattle.runs.specs.Runs.{Card, Seen, seen, Sent, Given, Asked, framed, closing, publishing, asked_in, not_made, given_in, frames, answers, taken, combinations, phase, closings, publishings}

-- what a frame is answered after the answers before it
abbrev pub given : Seen → List Given → Sent → Given
given s gs f =
    let n : ℕ = s.set.rows in
    let m : Lent = lent s.inverse f.working f.reply in
    record {
      fault = first (answering_lines s.set s.set s.order s.columns (phase n gs) (taken gs) m f.frame);
      long = length (reply_of s.set s.set s.order s.columns (phase n gs) (taken gs) m f.frame);
      reply = reply_of s.set s.set s.order s.columns (phase n gs) (taken gs) m f.frame;
    }

-- the calls that a session does not have after c accepted closings: publishings before one, all others after it
abbrev pub Absent : Asked → ℕ → Type 0
Absent (framed s) c = c ≡ 1
Absent closing c = c ≡ 1
Absent (publishing w) c = c ≡ 0

-- an event after those before it: frames and closings until a closing is accepted, publishings from then on, as the table says;
-- past a reply its memory is 0, as it was
abbrev pub AsTold : Card → List Event → Event → Type 0
AsTold k past (Answered f w a m) =
    (closings past ≡ 0)
    × (given_in (Answered f w a m) ≡ given (seen k) (answers past) (record { frame = f.items; working = w; reply = length m.items }) ∷ [])
    × AllZero (drop a.length m.items)
AsTold k past (Closed x) = (closings past ≡ 0) × (x ≡ first (closing_lines (phase k.secret.set.rows (answers past)) (taken (answers past))))
AsTold k past (Published w x) =
    (closings past ≡ 1)
    × (x ≡ first (publishing_lines k.secret.set k.secret.set (length k.memory) w (publishings past) k.size k.limit (publishings past)))
AsTold k past (NotAllowed c) = Absent (not_made c) (closings past)

-- each event of a run, after those before it
abbrev pub Told : Card → List Event → List Event → Type 0
Told k past [] = Unit {0}
Told k past (e ∷ es) = AsTold k past e × Told k (past ++ e ∷ []) es

-- mt frames were answered 22
abbrev pub Complete : Card → List Event → Type 0
Complete k es = taken (answers es) ≡ k.secret.set.rows

-- one was answered 23
abbrev pub ShownSingular : List Event → Type 0
ShownSingular es = 0 < combinations (answers es)

-- the memory is the packed rows of the inverse of the first n columns of H
pub record Inverts (n : ℕ) (H : Mat) (memory : List ℕ) : Type 0 where
  pub packed : memory ≡ packed_rows n n (of_rows (bytes_for n) memory)
  pub left : Same n (times bits n (of_rows (bytes_for n) memory) H) delta
  pub right : Same n (times bits n H (of_rows (bytes_for n) memory)) delta

-- past its first c rows of n bits the memory is as it was
abbrev pub Untouched : ℕ → ℕ → List ℕ → List ℕ → Type 0
Untouched n c before after = drop (c * bytes_for n) after ≡ drop (c * bytes_for n) before

-- R' blinds the check matrix H' to what the secret's blinding blinds its own to
pub record SameProduct (s : Secret) (H' R' : Mat) : Type 0 where
  pub elements : (i j : ℕ) → i < s.set.rows → j < s.set.rows → R' i j < 2
  pub same : product (record { set = s.set; checks = H'; order = s.order; blinding = R' }) ≡ product s

-- a run on a card, and what then stands in the inverse memory and in the sink
pub record Law (k : Card) (es : List Event) (inverse : List ℕ) (columns : List (List ℕ)) : Type 0 where
  -- each call is refused, and each frame answered, as the table says
  pub told : Told k [] es
  -- complete: there is one public matrix, and the sink holds its first columns, one for each accepted publishing
  pub published : Complete k es → (T : Mat) × IsPublic k.secret.set k.secret.checks T × (columns ≡ columns_of k.secret.set.rows (publishings es) T)
  -- not complete: the sink is empty
  pub unpublished : (Complete k es → ⊥) → columns ≡ []
  -- complete: the inverse memory is the inverse of the check block
  pub inverted : Complete k es → Inverts k.secret.set.rows k.secret.checks inverse
  -- past the rows taken, the inverse memory is as it was
  pub untouched : Untouched k.secret.set.rows (taken (answers es)) k.memory inverse
  -- a combination was taken: blinding times check block has no inverse
  pub singular : ShownSingular es → Singular bits k.secret.set.rows (entry_of (product k.secret))
  -- every run on any card of which the same may be seen, with the same frames, gives the same answers
  pub alike : (k' : Card) (es' : List Event) → seen k' ≡ seen k → frames es' ≡ frames es → Told k' [] es' → answers es' ≡ answers es
  -- for every other check matrix of the set whose block has an inverse, exactly one blinding gives the same product
  pub reblinded : (H' S' : Mat) → Els bits H' → LeftInverse bits k.secret.set.rows H' S'
      → (R' : Mat) × TheOnly k.secret.set.rows k.secret.set.rows (SameProduct k.secret H') R'

-- an answered frame that was not refused
abbrev pub Accepted : Event → Type 0
Accepted (Answered f w a m) = a.fault ≡ None
Accepted (Closed x) = ⊥
Accepted (Published w x) = ⊥
Accepted (NotAllowed c) = ⊥

-- there is no set of this name
abbrev pub Unknown : Result Numbers SetFault → Type 0
Unknown (Ok s) = ⊥
Unknown (Err e) = Unit {0}

-- the card is of this set's size
abbrev pub OfSet : Card → Result Numbers SetFault → Type 0
OfSet k (Ok s) = s.m * s.t ≡ k.secret.set.rows
OfSet k (Err e) = ⊥

-- inverse memory and blinding are of the set's size
pub record Fitting (k : Card) : Type 0 where
  pub inverse : length k.memory ≡ k.secret.set.rows * bytes_for k.secret.set.rows
  pub order : k.secret.order ≡ k.secret.set.rows

-- the phase is 0
abbrev pub PhaseZero : Card → List Event → Type 0
PhaseZero k es = phase k.secret.set.rows (answers es) ≡ 0

-- our host's part: each of its frames was accepted, and the run is complete or a combination was taken
pub record Finished (k : Card) (before after : List Event) : Type 0 where
  pub accepted : All Accepted after
  pub ended : Complete k (before ++ after) ⊎ ShownSingular (before ++ after)

-- a frame in the memories of our host's frames, of l bytes to a vector
abbrev pub Lends : ℕ → Asked → Type 0
Lends l (framed s) = (s.working ≡ 2 * l) × (s.reply ≡ l + 3)
Lends l closing = ⊥
Lends l (publishing w) = ⊥

-- the calls of our host for a set: frames; none where there is no such set
abbrev pub Hosted : Result Numbers SetFault → List Event → Type 0
Hosted (Ok s) es = All (λ e. Lends (bytes_for (s.m * s.t)) (asked_in e)) es
Hosted (Err x) es = es ≡ []

-- the events of the first list
abbrev pub listed_part : Run → List Event
listed_part r = take r.listed r.events.items

-- those of our host
abbrev pub hosted_part : Run → List Event
hosted_part r = take r.hosted (drop r.listed r.events.items)

-- those of the second list
abbrev pub rest_part : Run → List Event
rest_part r = drop (r.listed + r.hosted) r.events.items

-- what may come after a part that memory cut short; calls, rest: the lengths of the two lists
pub record Stops (r : Run) (calls rest : ℕ) : Type 0 where
  -- nothing comes after the first list, or each of its calls was noted
  pub listed : (vec_len r.events ≡ r.listed) ⊎ (r.listed ≡ calls)
  -- nothing comes after our host, or the run is whole exactly if each call of the second list was noted
  pub hosted : (vec_len r.events ≡ r.listed + r.hosted) ⊎ (r.whole ≡ (vec_len r.events == r.listed + r.hosted + rest))
