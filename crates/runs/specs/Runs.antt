-- A run as data: its cards, its calls, and what is counted from its answers. Assumes nothing.
-- Card, card, Seen, seen   what the calls of a run share; what of it may be seen
-- Sent, Given              a frame and its memories; what it was answered
-- sent_in, given_in, ..    of one event
-- frames, answers          of a run
-- taken, combinations, phase   counted from the answers
-- closings, publishings    how many were accepted
-- Asked, asked_by, ..      the calls of a list, and those of events
-- with_columns             a store with other columns
use Rattle.std.specs.Prelude.{ℕ, Bool, false, cond, List, [], ◌∷◌, length, take, Option, ◌==◌, is_none, count_by, flat_map}
use Rattle.sink.specs.Store.{Store}
use Rattle.key.specs.declared.sizes.Sizes.{Sizes}
use Rattle.session.specs.declared.fault.SessionFault.{SessionFault}
use Rattle.session.specs.Table.{Secret, product}
use Rattle.session.specs.Answers.{says}
use Rattle.runs.specs.declared.calls.Call.{Call}
use Rattle.runs.specs.declared.calls.Call.TheVariants as calls
use Rattle.runs.specs.declared.calls.Unmade.{Unmade}
use Rattle.runs.specs.declared.calls.Unmade.TheVariants as unmade
use Rattle.runs.specs.declared.calls.Event.{Event}
use Rattle.runs.specs.declared.calls.Event.TheVariants.{Answered, Closed, Published, NotAllowed}

-- what the calls of one run share: key and blinding, the inverse memory as the run found it, the sink's size and limit
pub record Card : Type 0 where
  pub secret : Secret
  pub memory : List ℕ
  pub size : ℕ
  pub limit : ℕ

-- a card by its parts
abbrev pub card : Secret → List ℕ → Store → Card
card k m s = record { secret = k; memory = m; size = s.size; limit = s.limit }

-- what of a card may be seen: its set, the blinding's size, B, and the length of the inverse memory
pub record Seen : Type 0 where
  pub set : Sizes
  pub order : ℕ
  pub columns : List (List ℕ)
  pub inverse : ℕ

-- what of this card may be seen
abbrev pub seen : Card → Seen
seen k = record { set = k.secret.set; order = k.secret.order; columns = product k.secret; inverse = length k.memory }

-- a frame with the lengths of the memories that come with it
pub record Sent : Type 0 where
  pub frame : List ℕ
  pub working : ℕ
  pub reply : ℕ

-- what a frame was answered: the refusal, the reply's length, and the reply
pub record Given : Type 0 where
  pub fault : Option SessionFault
  pub long : ℕ
  pub reply : List ℕ

-- the frame of an event, if it has one
abbrev pub sent_in : Event → List Sent
sent_in (Answered f w a m) = record { frame = f.items; working = w; reply = length m.items } ∷ []
sent_in (Closed x) = []
sent_in (Published w x) = []
sent_in (NotAllowed c) = []

-- and its answer
abbrev pub given_in : Event → List Given
given_in (Answered f w a m) = record { fault = a.fault; long = a.length; reply = take a.length m.items } ∷ []
given_in (Closed x) = []
given_in (Published w x) = []
given_in (NotAllowed c) = []

-- the frames of a run that were answered; those of calls that were not made do not count
abbrev pub frames : List Event → List Sent
frames = flat_map sent_in

-- and their answers
abbrev pub answers : List Event → List Given
answers = flat_map given_in

-- rows taken: the frames answered 22 (34 in decimal)
abbrev pub taken : List Given → ℕ
taken = count_by (λ a. says 34 a.reply)

-- combinations taken: the frames answered 23 (35 in decimal)
abbrev pub combinations : List Given → ℕ
combinations = count_by (λ a. says 35 a.reply)

-- the phase of n rows, t of them taken, and c combinations: 1 complete, 2 singular, 0 until then
abbrev pub phase_at : ℕ → ℕ → ℕ → ℕ
phase_at n t c = cond (t == n) 1 (cond (c == 0) 0 2)

-- the phase after these answers
abbrev pub phase : ℕ → List Given → ℕ
phase n gs = phase_at n (taken gs) (combinations gs)

-- an accepted closing
abbrev pub is_closing : Event → Bool
is_closing (Answered f w a m) = false
is_closing (Closed x) = is_none x
is_closing (Published w x) = false
is_closing (NotAllowed c) = false

-- an accepted publishing
abbrev pub is_publishing : Event → Bool
is_publishing (Answered f w a m) = false
is_publishing (Closed x) = false
is_publishing (Published w x) = is_none x
is_publishing (NotAllowed c) = false

-- how many closings were accepted
abbrev pub closings : List Event → ℕ
closings = count_by is_closing

-- how many publishings were accepted
abbrev pub publishings : List Event → ℕ
publishings = count_by is_publishing

-- a call as data
pub data Asked : Type 0 where
  framed : Sent → Asked
  closing : Asked
  publishing : ℕ → Asked

-- a call of a list
abbrev pub asked_by : Call → Asked
asked_by (calls.Answer f w r) = framed (record { frame = f.now; working = w; reply = r })
asked_by calls.Close = closing
asked_by (calls.Publish w) = publishing w

-- a call that was not made
abbrev pub not_made : Unmade → Asked
not_made (unmade.Answer f w r) = framed (record { frame = f.items; working = w; reply = r })
not_made unmade.Close = closing
not_made (unmade.Publish w) = publishing w

-- the call of an event
abbrev pub asked_in : Event → Asked
asked_in (Answered f w a m) = framed (record { frame = f.items; working = w; reply = length m.items })
asked_in (Closed x) = closing
asked_in (Published w x) = publishing w
asked_in (NotAllowed c) = not_made c

-- a store with these columns, all else as it was
abbrev pub with_columns : Store → List (List ℕ) → Store
with_columns s cs = record { size = s.size; limit = s.limit; columns = cs; whole = s.whole; other = s.other }
