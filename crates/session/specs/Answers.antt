-- What one call gives and leaves. Assumes nothing.
-- word, refusal_reply, column_reply, ..    the replies
-- granted, or_refusal, or_none, reply_of   which of them a frame is answered
-- says                                     the kind of a reply
-- rows_after, phase_after, inverse_after   what a reply tells of session and inverse memory
-- with_row, unblinded                      a row in the inverse memory; a row times the blinding
-- Answered                                 one frame
-- public_column, fault_in, Published       one publishing
-- tried, laid_unless, Stepped              what private steps promise, in memories that fit; no public contract cites them
use Rattle.std.specs.Prelude.{◌≡◌, ℕ, ◌+◌, ◌*◌, ◌/◌, ◌%◌, Bool, cond, List, [], ◌∷◌, length, is_some, Some, None, Ok, Err, Option, Result, ◌==◌, slice_index, slice_index_or}
use borrow.Rule.Slice.PartMut.{put_mid}
use Rattle.galois.specs.Bit.{bits}
use Rattle.matrix.specs.Matrix.{Mat, times, apply_row}
use Rattle.bits.specs.Bits.{bytes_for, bits_of, of_rows, pack}
use Rattle.bits.specs.Bytes.{laid}
use Rattle.key.specs.declared.sizes.Sizes.{Sizes}
use Rattle.sink.specs.Store.{Store, with_column}
use Rattle.session.specs.declared.state.Answer.{Answer}
use Rattle.session.specs.declared.fault.SessionFault.{SessionFault}
use Rattle.session.specs.Faults.{told}
use Rattle.session.specs.Table.{Line, first, Secret, product, kind, index, row_in, frame_lines, memory_lines, answering_lines, publishing_lines, Lent}

-- a number in two bytes, the low one first, and the bytes after it
abbrev pub word : ℕ → List ℕ → List ℕ
word w b = w % 256 ∷ w / 256 ∷ b

-- 2F: number and place of the refusal
abbrev pub refusal_reply : SessionFault → List ℕ
refusal_reply e = 47 ∷ (told e).number ∷ word (told e).place []

-- 21: the index, and that column of B
abbrev pub column_reply : List (List ℕ) → ℕ → List ℕ
column_reply B i = 33 ∷ word i (slice_index_or B i [])

-- 22: rows taken now
abbrev pub row_reply : ℕ → List ℕ
row_reply taken = 34 ∷ word (taken + 1) []

-- 23
abbrev pub combination_reply : List ℕ
combination_reply = 35 ∷ []

-- 24: the phase and the next row
abbrev pub status_reply : ℕ → ℕ → List ℕ
status_reply phase taken = 36 ∷ phase ∷ word taken []

-- the reply where nothing refuses
abbrev pub granted : List (List ℕ) → ℕ → ℕ → List ℕ → List ℕ
granted B phase taken f =
    cond (kind f == 17) (column_reply B (index f))
    (cond (kind f == 18) (row_reply taken)
    (cond (kind f == 19) combination_reply (status_reply phase taken)))

-- a reply, or the refusal in its place
abbrev pub or_refusal : Option SessionFault → List ℕ → List ℕ
or_refusal (Some e) r = refusal_reply e
or_refusal None r = r

-- no reply at all where a memory does not fit
abbrev pub or_none : Option SessionFault → List ℕ → List ℕ
or_none (Some e) r = []
or_none None r = r

-- the reply to the frame f, from the sets, the blinding's size, B, phase, rows taken and the lengths of the memories
abbrev pub reply_of : Sizes → Sizes → ℕ → List (List ℕ) → ℕ → ℕ → Lent → List ℕ → List ℕ
reply_of own set order B phase taken m f =
    or_none (first (memory_lines own set order m)) (or_refusal (first (frame_lines set.rows B phase taken f)) (granted B phase taken f))

-- the reply begins with this kind
abbrev pub says : ℕ → List ℕ → Bool
says k r = slice_index r 0 == k

-- rows taken after a reply
abbrev pub rows_after : ℕ → List ℕ → ℕ
rows_after taken r = cond (says 34 r) (taken + 1) taken

-- the phase after a reply, of n rows in all
abbrev pub phase_after : ℕ → ℕ → ℕ → List ℕ → ℕ
phase_after n phase taken r = cond (says 34 r) (cond (taken + 1 == n) 1 phase) (cond (says 35 r) 2 phase)

-- row i of n bits, in the place of row i
abbrev pub with_row : ℕ → ℕ → List ℕ → List ℕ → List ℕ
with_row n i row memory = put_mid (i * bytes_for n) (bytes_for n) memory row

-- s times the blinding
abbrev pub unblinded : ℕ → Mat → List ℕ → List ℕ
unblinded n R s = pack n (apply_row bits n R (bits_of s))

-- the inverse memory after a reply to a frame with the row s
abbrev pub inverse_after : ℕ → Mat → ℕ → List ℕ → List ℕ → List ℕ → List ℕ
inverse_after n R taken s r memory = cond (says 34 r) (with_row n taken (unblinded n R s) memory) memory

-- a refusal, or the length of the reply
abbrev pub tried : Option SessionFault → List ℕ → Result ℕ SessionFault
tried (Some e) r = Err e
tried None r = Ok (length r)

-- a refusal leaves the memory as it was
abbrev pub laid_unless : Option SessionFault → List ℕ → List ℕ → List ℕ
laid_unless (Some e) r memory = memory
laid_unless None r memory = laid r memory

-- what a step gives and leaves: refused by the lines ls, else answered r
pub record Stepped (n : ℕ) (R : Mat) (ls : List Line) (r : List ℕ) (phase taken : ℕ) (inverse s lent : List ℕ) (a : Result ℕ SessionFault) (phase' taken' : ℕ) (inverse' reply : List ℕ) : Type 0 where
  pub result : a ≡ tried (first ls) r
  pub bytes : reply ≡ laid_unless (first ls) r lent
  pub rows : taken' ≡ rows_after taken (or_refusal (first ls) r)
  pub at_phase : phase' ≡ phase_after n phase taken (or_refusal (first ls) r)
  pub memory : inverse' ≡ inverse_after n R taken s (or_refusal (first ls) r) inverse

-- what an answering gives and leaves
pub record Answered (own : Sizes) (k : Secret) (phase taken : ℕ) (inverse : List ℕ) (m : Lent) (f lent : List ℕ) (a : Answer) (phase' taken' : ℕ) (inverse' reply : List ℕ) : Type 0 where
  pub fault : a.fault ≡ first (answering_lines own k.set k.order (product k) phase taken m f)
  pub long : a.length ≡ length (reply_of own k.set k.order (product k) phase taken m f)
  pub bytes : reply ≡ laid (reply_of own k.set k.order (product k) phase taken m f) lent
  pub rows : taken' ≡ rows_after taken (reply_of own k.set k.order (product k) phase taken m f)
  pub at_phase : phase' ≡ phase_after k.set.rows phase taken (reply_of own k.set k.order (product k) phase taken m f)
  pub memory : inverse' ≡ inverse_after k.set.rows k.blinding taken (row_in f) (reply_of own k.set k.order (product k) phase taken m f) inverse

-- public column c: the inverse memory times column n + c of the check matrix
abbrev pub public_column : ℕ → Mat → List ℕ → ℕ → List ℕ
public_column n H inverse c = pack n (λ i. times bits n (of_rows (bytes_for n) inverse) H i (n + c))

-- the refusal in a result
abbrev pub fault_in : Result (Unit {0}) SessionFault → Option SessionFault
fault_in (Ok x) = None
fault_in (Err e) = Some e

-- what a publishing gives and leaves
pub record Published (own set : Sizes) (H : Mat) (sent : ℕ) (inverse : List ℕ) (working : ℕ) (store : Store) (fault : Option SessionFault) (sent' : ℕ) (store' : Store) : Type 0 where
  pub refused : fault ≡ first (publishing_lines own set (length inverse) working sent store.size store.limit (length store.columns))
  pub count : sent' ≡ cond (is_some fault) sent (sent + 1)
  pub holds : store' ≡ cond (is_some fault) store (with_column store (public_column set.rows H inverse sent))
