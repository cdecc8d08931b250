-- What a call that is no frame keeps. Assumes nothing.
use Rattle.std.proofs.Common.{◌≡◌, ◌≢◌, ℕ, ◌+◌, ◌≤◌, Bool, true, false, cond, eqb, List, [], ◌∷◌, ◌++◌, length, is_some, Some, None, Ok, Err, Option, Result, IfOk, sym, refl, ap, ◌∙◌, subst, arith, append-nil, add-zero, eqb-true}
use Rattle.std.specs.declared.alloc.AllocError.{AllocError}
use borrow.Author.Tests.{eqb-false, not-false}
use Rattle.galois.specs.Bit.{bits}
use Rattle.matrix.specs.Matrix.{Mat, times}
use Rattle.matrix.specs.Words.{from_column}
use Rattle.bits.specs.Bits.{bytes_for, bits_of, of_rows, pack}
use Rattle.bits.specs.Columns.{columns_of}
use Rattle.bits.proofs.Packs.{bits-pack-in}
use Rattle.bits.proofs.Columns.{length-columns, columns-more}
use Rattle.sink.specs.Store.{Store, with_column}
use Rattle.session.specs.declared.fault.SessionFault.{SessionFault}
use Rattle.session.specs.declared.state.Open as open-state
use Rattle.session.specs.declared.state.Ready as ready-state
use Rattle.session.specs.State.{phase_number}
use Rattle.session.specs.Table.{first, closing_lines, publishing_lines}
use Rattle.session.specs.Answers.{public_column}
use Rattle.session.specs.Answers as does
use Rattle.session.proofs.Products.{product_lt}
use Rattle.runs.specs.declared.calls.Event.{Event}
use Rattle.runs.specs.declared.calls.Event.TheVariants.{Answered, Closed, Published, NotAllowed}
use Rattle.runs.specs.declared.calls.Stage.{Stage}
use Rattle.runs.specs.declared.calls.Stage.TheVariants.{Open, Ready}
use Rattle.runs.specs.Runs.{Card, Asked, taken, combinations, phase_at, phase, answers, given_in, is_closing, is_publishing, closings, publishings, with_columns}
use Rattle.runs.specs.Law.{Absent, AsTold}
use Rattle.runs.specs.Reached.{Reached, Agrees, Goes, Notes, sent_columns}
use Rattle.runs.proofs.Lists.{answers_more, closings_more, publishings_more, told_more}
use Rattle.runs.proofs.Classes.{passed_before}
use Rattle.runs.proofs.Memory.{same-rows}

phase-one : (n t c : ℕ) → eqb (phase_at n t c) 0 ≡ false → eqb (phase_at n t c) 2 ≡ false → t ≡ n
phase-one n t c = go (eqb t n) (eqb c 0) refl
  where
    go : (a b : Bool) → eqb t n ≡ a → eqb (cond {A = ℕ} a 1 (cond b 0 2)) 0 ≡ false → eqb (cond {A = ℕ} a 1 (cond b 0 2)) 2 ≡ false → t ≡ n
    go true b p x y = eqb-true t n p
    go false true p x y = absurd (eqb-false 0 0 x refl)
    go false false p x y = absurd (eqb-false 2 2 y refl)

module _ (k : Card) (past : List Event) (stage : Stage) (inverse : List ℕ) (store : Store) (e : Event)
    (before : Reached k past stage inverse store) (is : given_in e ≡ []) (told : AsTold k past e)
  where
    same : answers (past ++ e ∷ []) ≡ answers past
    same = answers_more past e ∙ ap (λ l. answers past ++ l) is ∙ append-nil (answers past)

    -- the counts of frames stay, and the stage, the sink and the publishings are told
    quiet : (stage' : Stage) (store' : Store) → Agrees k stage' (past ++ e ∷ []) → publishings (past ++ e ∷ []) ≤ k.secret.set.rest → (store'.size ≡ k.size) × (store'.limit ≡ k.limit)
        → store'.columns ≡ sent_columns k (publishings (past ++ e ∷ [])) inverse → Reached k (past ++ e ∷ []) stage' inverse store'
    quiet stage' store' agree few sizes listed =
        let t-is = ap taken same in
        let c-is = ap combinations same in
        record {
          told = told_more k [] past e before.told told;
          agrees = agree;
          few = omega (arith, before.few, t-is);
          long = before.long;
          untouched = same-rows k.secret.set.rows t-is inverse k.memory before.untouched;
          fits = λ h. before.fits (omega (arith, t-is, h));
          rows = λ j h. before.rows j (omega (arith, t-is, h));
          sent = few;
          sized = sizes;
          columns = listed;
          singular = λ h. before.singular (omega (arith, c-is, h));
        }

    publishings-kept : is_publishing e ≡ false → publishings (past ++ e ∷ []) ≡ publishings past
    publishings-kept np = publishings_more past e ∙ ap (λ b. publishings past + cond b 1 0) np ∙ add-zero _

    closings-kept : is_closing e ≡ false → closings (past ++ e ∷ []) ≡ closings past
    closings-kept nc = closings_more past e ∙ ap (λ b. closings past + cond b 1 0) nc ∙ add-zero _

    -- the session at hand and the sink stay
    pub idle : is_closing e ≡ false → is_publishing e ≡ false → Reached k (past ++ e ∷ []) stage inverse store
    idle nc np = quiet stage store (agree stage before.agrees) (omega (arith, publishings-kept np, before.sent)) before.sized (before.columns ∙ ap (λ p. sent_columns k p inverse) (sym (publishings-kept np)))
      where
        agree : (s : Stage) → Agrees k s past → Agrees k s (past ++ e ∷ [])
        agree (Open o) a = record {
          unclosed = closings-kept nc ∙ a.unclosed;
          rows = a.rows ∙ ap taken (sym same);
          at_phase = a.at_phase ∙ ap (phase k.secret.set.rows) (sym same);
          unsent = publishings-kept np ∙ a.unsent;
          own = a.own;
        }
        agree (Ready y) a = record { closed = closings-kept nc ∙ a.closed; complete = ap taken same ∙ a.complete; sent = a.sent ∙ sym (publishings-kept np); own = a.own }

-- a call that the session at hand does not have
pub noted : (k : Card) (c : Asked) (stage : Stage) (inverse : List ℕ) (store : Store) (r : Result Event AllocError) → IfOk r (Notes c)
    → ((past : List Event) → Agrees k stage past → Absent c (closings past)) → Goes k c stage inverse store r stage inverse store
noted k c stage inverse store (Ok (Answered x w a z)) n barred = absurd n
noted k c stage inverse store (Ok (Closed x)) n barred = absurd n
noted k c stage inverse store (Ok (Published w x)) n barred = absurd n
noted k c stage inverse store (Ok (NotAllowed u)) n barred =
    (n, λ past before. idle k past stage inverse store (NotAllowed u) before refl (subst (λ y. Absent y (closings past)) (sym n) (barred past before.agrees)) refl refl)
noted k c stage inverse store (Err x) n barred = (refl, refl, refl)

-- an accepted closing
pub closed-step : (k : Card) (past : List Event) (o : open-state.Open) (y : ready-state.Ready) (inverse : List ℕ) (store : Store) → Reached k past (Open o) inverse store
    → None ≡ first (closing_lines (phase_number o.phase) o.rows) → y.set ≡ o.set → y.sent ≡ 0 → Reached k (past ++ Closed None ∷ []) (Ready y) inverse store
closed-step k past o y inverse store before passed own none =
    let agree = before.agrees in
    let n = k.secret.set.rows in
    let e : Event = Closed None in
    let told : AsTold k past e = (agree.unclosed, passed ∙ (λ i. first (closing_lines (agree.at_phase i) (agree.rows i)))) in
    let silent = passed_before (closing_lines (phase_number o.phase) o.rows) [] (sym passed) in
    let all : taken (answers past) ≡ n = phase-one n _ (combinations (answers past)) (ap (λ p. eqb p 0) (sym agree.at_phase) ∙ silent.0.0) (ap (λ p. eqb p 2) (sym agree.at_phase) ∙ silent.0.1.0) in
    let kept = publishings-kept k past (Open o) inverse store e before refl told refl in
    quiet k past (Open o) inverse store e before refl told (Ready y) store
    (record {
      closed = closings_more past e ∙ ap (λ x. x + 1) agree.unclosed;
      complete = ap taken (same k past (Open o) inverse store e before refl told) ∙ all;
      sent = none ∙ sym (kept ∙ agree.unsent);
      own = own ∙ agree.own;
    })
    (omega (arith, kept, before.sent))
    before.sized
    (before.columns ∙ ap (λ p. sent_columns k p inverse) (sym kept))

-- a store keeps all but its columns
pub only-columns : (b : Bool) (store store' : Store) (v : List ℕ) → store' ≡ cond b store (with_column store v) → store' ≡ with_columns store store'.columns
only-columns true store store' v e = e ∙ ap (λ s. with_columns store s.columns) (sym e)
only-columns false store store' v e = e ∙ ap (λ s. with_columns store s.columns) (sym e)

-- one public column more
column-sent : (n c : ℕ) (H : Mat) (inverse : List ℕ)
    → columns_of n (c + 1) (times bits n (of_rows (bytes_for n) inverse) (from_column n H)) ≡ columns_of n c (times bits n (of_rows (bytes_for n) inverse) (from_column n H)) ++ pack n (bits_of (public_column n H inverse c)) ∷ []
unfolding times
column-sent n c H inverse =
    columns-more n c (times bits n (of_rows (bytes_for n) inverse) (from_column n H)) (times bits n (of_rows (bytes_for n) inverse) (from_column n H)) (public_column n H inverse c) (λ i j hi hj. refl)
    (λ i h. sym (bits-pack-in n (λ i. times bits n (of_rows (bytes_for n) inverse) H i (n + c)) i h (product_lt n (of_rows (bytes_for n) inverse) H i (n + c))))

-- a publishing
module _ (k : Card) (past : List Event) (y y' : ready-state.Ready) (inverse : List ℕ) (store store' : Store) (working : ℕ) (before : Reached k past (Ready y) inverse store) (own : y'.set ≡ y.set) where
  held : length store.columns ≡ publishings past
  held = ap length before.columns ∙ length-columns _ (publishings past) _

  pub published-step : (fault : Option SessionFault) → does.Published y.set k.secret.set k.secret.checks y.sent inverse working store fault y'.sent store' → Reached k (past ++ Published working fault ∷ []) (Ready y') inverse store'
  published-step fault p = go fault refl
    where
      n : ℕ
      n = k.secret.set.rows

      agree : Agrees k (Ready y) past
      agree = before.agrees

      told : (x : Option SessionFault) → fault ≡ x → AsTold k past (Published working x)
      told x is = (agree.closed, sym is ∙ p.refused ∙ (λ i. first (publishing_lines (agree.own i) k.secret.set (before.long i) working (agree.sent i) (before.sized.0 i) (before.sized.1 i) (held i))))

      go : (x : Option SessionFault) → fault ≡ x → Reached k (past ++ Published working x ∷ []) (Ready y') inverse store'
      go None is =
          let e : Event = Published working None in
          let lines = publishing_lines y.set k.secret.set (length inverse) working y.sent store.size store.limit (length store.columns) in
          let silent = passed_before lines [] (sym p.refused ∙ is) in
          let unsent : y.sent ≢ k.secret.set.rest = eqb-false _ _ silent.0.1.1.1.0 in
          let size-is : store.size ≡ k.secret.set.rows = eqb-true _ _ (not-false _ silent.0.1.1.1.1.0) in
          let t = told None is in
          let more : publishings (past ++ e ∷ []) ≡ publishings past + 1 = publishings_more past e in
          let sent-is : y'.sent ≡ y.sent + 1 = p.count ∙ ap (λ f. cond (is_some f) y.sent (y.sent + 1)) is in
          let v : List ℕ = public_column k.secret.set.rows k.secret.checks inverse y.sent in
          let store-is : store' ≡ with_column store v = p.holds ∙ ap (λ f. cond (is_some f) store (with_column store v)) is in
          quiet k past (Ready y) inverse store e before refl t (Ready y') store'
          (record {
            closed = closings-kept k past (Ready y) inverse store e before refl t refl ∙ agree.closed;
            complete = ap taken (same k past (Ready y) inverse store e before refl t) ∙ agree.complete;
            sent = sent-is ∙ ap (λ x. x + 1) agree.sent ∙ sym more;
            own = own ∙ agree.own;
          })
          (omega (arith, more, before.sent, unsent, agree.sent))
          (ap (λ s. s.size) store-is ∙ before.sized.0, ap (λ s. s.limit) store-is ∙ before.sized.1)
          (ap (λ s. s.columns) store-is
          ∙ (λ i. before.columns i ++ pack (size-is i) (bits_of (public_column k.secret.set.rows k.secret.checks inverse (agree.sent i))) ∷ [])
          ∙ sym (column-sent k.secret.set.rows (publishings past) k.secret.checks inverse)
          ∙ ap (λ q. sent_columns k q inverse) (sym more))
      go (Some x) is =
          let e : Event = Published working (Some x) in
          let t = told (Some x) is in
          let same-count : publishings (past ++ e ∷ []) ≡ publishings past = publishings-kept k past (Ready y) inverse store e before refl t refl in
          let sent-is : y'.sent ≡ y.sent = p.count ∙ ap (λ f. cond (is_some f) y.sent (y.sent + 1)) is in
          let v : List ℕ = public_column k.secret.set.rows k.secret.checks inverse y.sent in
          let store-is : store' ≡ store = p.holds ∙ ap (λ f. cond (is_some f) store (with_column store v)) is in
          quiet k past (Ready y) inverse store e before refl t (Ready y') store'
          (record {
            closed = closings-kept k past (Ready y) inverse store e before refl t refl ∙ agree.closed;
            complete = ap taken (same k past (Ready y) inverse store e before refl t) ∙ agree.complete;
            sent = sent-is ∙ agree.sent ∙ sym same-count;
            own = own ∙ agree.own;
          })
          (omega (arith, same-count, before.sent))
          (ap (λ s. s.size) store-is ∙ before.sized.0, ap (λ s. s.limit) store-is ∙ before.sized.1)
          (ap (λ s. s.columns) store-is ∙ before.columns ∙ ap (λ q. sent_columns k q inverse) (sym same-count))
