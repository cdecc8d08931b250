-- What is kept from call to call: a step to the law, and no part of it. Assumes nothing.
-- OpenAgrees, ReadyAgrees, Agrees   the session's numbers are those of the answers
-- Held                              a row of the inverse memory
-- sent_columns                      the columns that were published
-- Reached                           all that is kept
-- Goes                              what one call comes to
-- For private functions alone:
-- Notes       what a call that is not made comes to
-- Adds        events more
-- reply_in    the reply of an event
-- Waiting     the card takes frames, in phase 0
-- Stands      where a card stands at a stage of our host
-- Hosting     our host, its memories and the card
-- turns       the turns that a stage has before it
-- AfterTurn   what one turn of our host comes to
use Rattle.std.specs.Prelude.{◌≡◌, ◌⊎◌, ℕ, ◌+◌, ◌-◌, ◌*◌, ◌<◌, ◌≤◌, Bool, true, false, List, [], ◌∷◌, ◌++◌, length, take, All, Ok, Err, Result, slice_index}
use Rattle.std.specs.declared.alloc.AllocError.{AllocError}
use Rattle.galois.specs.Bit.{bits}
use Rattle.matrix.specs.Matrix.{Mat, delta, times}
use Rattle.matrix.specs.Words.{Singular, from_column}
use Rattle.bits.specs.Bits.{bytes_for, byte_at, of_rows}
use Rattle.bits.specs.Columns.{columns_of, entry_of}
use Rattle.host.specs.declared.stage.Stage as hosts
use Rattle.host.specs.declared.stage.Stage.TheVariants.{Columns, Full, Status, Rows, Combination, Done}
use Rattle.host.specs.Meaning.{Knows}
use Rattle.sink.specs.Store.{Store}
use Rattle.session.specs.declared.state.Open as open-state
use Rattle.session.specs.declared.state.Ready as ready-state
use Rattle.session.specs.State.{phase_number}
use Rattle.session.specs.Table.{product}
use Rattle.runs.specs.declared.calls.Event.{Event}
use Rattle.runs.specs.declared.calls.Event.TheVariants.{Answered, Closed, Published, NotAllowed}
use Rattle.runs.specs.declared.calls.Stage.{Stage}
use Rattle.runs.specs.declared.calls.Stage.TheVariants.{Open, Ready}
use Rattle.runs.specs.Runs.{Card, Asked, asked_in, not_made, taken, phase, answers, closings, publishings}
use Rattle.runs.specs.Law.{Told, Untouched, Complete, ShownSingular, Accepted, PhaseZero, Finished}

-- an open session's numbers are those of the answers so far
pub record OpenAgrees (k : Card) (o : open-state.Open) (past : List Event) : Type 0 where
  -- no closing was accepted
  pub unclosed : closings past ≡ 0
  -- the session counts the frames answered 22
  pub rows : o.rows ≡ taken (answers past)
  -- its phase follows from the answers
  pub at_phase : phase_number o.phase ≡ phase k.secret.set.rows (answers past)
  -- nothing was published
  pub unsent : publishings past ≡ 0
  -- it is of the key's set
  pub own : o.set ≡ k.secret.set

-- and those of a ready one
pub record ReadyAgrees (k : Card) (y : ready-state.Ready) (past : List Event) : Type 0 where
  -- one closing was accepted
  pub closed : closings past ≡ 1
  -- all rows were taken before
  pub complete : Complete k past
  -- the session counts the accepted publishings
  pub sent : y.sent ≡ publishings past
  -- it is of the key's set
  pub own : y.set ≡ k.secret.set

-- the same of the session at hand
abbrev pub Agrees : Card → Stage → List Event → Type 0
Agrees k (Open o) past = OpenAgrees k o past
Agrees k (Ready y) past = ReadyAgrees k y past

-- row i of the memory: its pad bits are 0, and times the check block it is unit row i
pub record Held (n : ℕ) (H : Mat) (memory : List ℕ) (i : ℕ) : Type 0 where
  pub clean : (b : ℕ) → b < bytes_for n → slice_index memory (i * bytes_for n + b) ≡ byte_at n (of_rows (bytes_for n) memory i) b
  pub undoes : (j : ℕ) → j < n → times bits n (of_rows (bytes_for n) memory) H i j ≡ delta i j

-- the first c public columns, by the inverse memory
abbrev pub sent_columns : Card → ℕ → List ℕ → List (List ℕ)
sent_columns k c inverse =
    columns_of k.secret.set.rows c (times bits k.secret.set.rows (of_rows (bytes_for k.secret.set.rows) inverse) (from_column k.secret.set.rows k.secret.checks))

-- after the events `past`: session, inverse memory and sink
pub record Reached (k : Card) (past : List Event) (stage : Stage) (inverse : List ℕ) (store : Store) : Type 0 where
  -- each event is as the table of refusals says
  pub told : Told k [] past
  -- the session's numbers are those of the answers
  pub agrees : Agrees k stage past
  -- no more rows were taken than there are
  pub few : taken (answers past) ≤ k.secret.set.rows
  -- the inverse memory is as long as it was before
  pub long : length inverse ≡ length k.memory
  -- past the rows taken it is as it was before
  pub untouched : Untouched k.secret.set.rows (taken (answers past)) k.memory inverse
  -- where a row was taken, that length is right for the key
  pub fits : 0 < taken (answers past) → length k.memory ≡ k.secret.set.rows * bytes_for k.secret.set.rows
  -- each row that was taken is the inverse's
  pub rows : (i : ℕ) → i < taken (answers past) → Held k.secret.set.rows k.secret.checks inverse i
  -- no more columns were published than there are
  pub sent : publishings past ≤ k.secret.set.rest
  -- the sink is of the size and limit that the card tells
  pub sized : (store.size ≡ k.size) × (store.limit ≡ k.limit)
  -- the sink holds the columns that were published, and no other
  pub columns : store.columns ≡ sent_columns k (publishings past) inverse
  -- where a combination was taken, blinding times check block has no inverse
  pub singular : ShownSingular past → Singular bits k.secret.set.rows (entry_of (product k.secret))

-- one call c: its event, after whatever came before; or memory lacked, and nothing has changed
abbrev pub Goes : Card → Asked → Stage → List ℕ → Store → Result Event AllocError → Stage → List ℕ → Store → Type 0
Goes k c stage inverse store (Ok e) stage' inverse' store' =
    (asked_in e ≡ c) × ((past : List Event) → Reached k past stage inverse store → Reached k (past ++ e ∷ []) stage' inverse' store')
Goes k c stage inverse store (Err x) stage' inverse' store' = (stage' ≡ stage) × (inverse' ≡ inverse) × (store' ≡ store)

-- the event notes the call c as not made
abbrev pub Notes : Asked → Event → Type 0
Notes c (Answered f w a m) = ⊥
Notes c (Closed x) = ⊥
Notes c (Published w x) = ⊥
Notes c (NotAllowed u) = not_made u ≡ c

-- some events more, of which P holds
abbrev pub Adds : List Event → List Event → (List Event → Type 0) → Type 0
Adds before all P = (part : List Event) × (all ≡ before ++ part) × P part

-- the reply of an event
abbrev pub reply_in : Event → List ℕ
reply_in (Answered f w a m) = take a.length m.items
reply_in (Closed x) = []
reply_in (Published w x) = []
reply_in (NotAllowed c) = []

-- no closing was accepted, and the phase is 0
pub record Waiting (k : Card) (es : List Event) : Type 0 where
  pub unclosed : closings es ≡ 0
  pub at0 : PhaseZero k es

-- where the card stands after the events es, our host at this stage
abbrev pub Stands : Card → List Event → hosts.Stage → Type 0
Stands k es (Columns j) = Waiting k es
Stands k es Full = Waiting k es
Stands k es (Status s) = Waiting k es
Stands k es (Rows i) = Waiting k es × (taken (answers es) ≡ i)
Stands k es (Combination r) = Waiting k es
Stands k es Done = Complete k es ⊎ ShownSingular es

-- our host of size n at a stage, its tables xs and ys and its frame memory fr, and the card
pub record Hosting (k : Card) (before after : List Event) (n : ℕ) (st : hosts.Stage) (xs ys fr : List ℕ) : Type 0 where
  pub size : n ≡ k.secret.set.rows
  pub first : length xs ≡ n * n
  pub second : length ys ≡ n * n
  pub frame : length fr ≡ bytes_for n + 3
  pub accepted : All Accepted after
  pub knows : Knows n (entry_of (product k.secret)) st xs ys
  pub stands : Stands k (before ++ after) st

-- the turns that a stage has before it, at most
abbrev pub turns : ℕ → hosts.Stage → ℕ
turns n (Columns j) = n - j + (n + 2)
turns n Full = n + 2
turns n (Status s) = n + 2
turns n (Rows i) = n - i + 1
turns n (Combination r) = 2
turns n Done = 1

-- one turn: there is more to say, with fewer turns before it, or our host is done
abbrev pub AfterTurn : Card → List Event → List Event → Bool → ℕ → hosts.Stage → hosts.Stage → List ℕ → List ℕ → List ℕ → Type 0
AfterTurn k before after true n st st' xs' ys' fr' = Hosting k before after n st' xs' ys' fr' × (turns n st' < turns n st)
AfterTurn k before after false n st st' xs' ys' fr' = Finished k before after
