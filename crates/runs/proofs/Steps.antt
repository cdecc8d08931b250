-- What answering a frame keeps. Assumes nothing.
use Rattle.std.proofs.Common.{◌≡◌, ◌≢◌, ℕ, ◌+◌, ◌-◌, ◌*◌, ◌<◌, ◌≤◌, Bool, true, false, cond, eqb, List, [], ◌∷◌, ◌++◌, length, take, drop, replicate, Vec, Global, sym, refl, ap, ◌∙◌, subst, arith, add-zero, suc-mul, mul-le-mul_right, below_more, ne_eqb, eqb-true}
use borrow.Author.Tests.{eqb-false}
use borrow.Rule.Slice.PartMut.{mid_of, same_len_mid, mid_len}
use lib.Seq.{take-append_seam, drop-append_seam}
use Rattle.std.proofs.lemmas.List.{drop-replicate, length-replicate}
use Rattle.guard.specs.Zero.{AllZero}
use Rattle.galois.specs.Bit.{bits}
use Rattle.matrix.specs.Matrix.{Mat, apply_row}
use Rattle.matrix.specs.Words.{Singular}
use Rattle.bits.specs.Bits.{bytes_for, bits_of}
use Rattle.bits.specs.Columns.{columns_of, entry_of}
use Rattle.bits.proofs.Packs.{length-pack}
use Rattle.sink.specs.Store.{Store}
use Rattle.session.specs.declared.state.Answer as answer-of
use Rattle.session.specs.declared.state.Open as state
use Rattle.session.specs.State.{phase_number}
use Rattle.session.specs.Table.{first, Lent, product, wrong, row_in, combination_in, answering_lines}
use Rattle.session.specs.Answers as does
use Rattle.session.specs.Answers.{says, reply_of, rows_after, phase_after, inverse_after, with_row, unblinded}
use Rattle.runs.specs.declared.calls.Event.{Event}
use Rattle.runs.specs.declared.calls.Event.TheVariants.{Answered}
use Rattle.runs.specs.declared.calls.Stage.TheVariants.{Open}
use Rattle.runs.specs.Runs.{Card, seen, Given, Sent, given_in, taken, combinations, phase_at, answers, is_closing, is_publishing, closings, publishings}
use Rattle.runs.specs.Law.{given, AsTold, Told, Untouched}
use Rattle.runs.specs.Reached.{Reached, Agrees, Held, sent_columns}
use Rattle.runs.proofs.Lists.{count_more, answers_more, closings_more, publishings_more, told_more}
use Rattle.runs.proofs.Classes.{row, combination, neither, classify}
use Rattle.runs.proofs.Memory.{held-same, held-new, right-row, found-singular, row-below, same-rows, one-row-more}

-- phase 0: neither complete nor singular
pub phase-zero : (n t c : ℕ) → phase_at n t c ≡ 0 → (t ≢ n) × (c ≡ 0)
phase-zero n t c e = go (eqb t n) (eqb c 0) refl refl e
  where
    go : (a b : Bool) → eqb t n ≡ a → eqb c 0 ≡ b → cond {A = ℕ} a 1 (cond b 0 2) ≡ 0 → (t ≢ n) × (c ≡ 0)
    go true b p q h = absurd (omega arith)
    go false true p q h = (eqb-false t n p, eqb-true c 0 q)
    go false false p q h = absurd (omega arith)

-- a frame's event: what it adds to the counts
module _ (past : List Event) (e : Event) (g : Given) (is : given_in e ≡ g ∷ []) where
  more : answers (past ++ e ∷ []) ≡ answers past ++ g ∷ []
  more = answers_more past e ∙ ap (λ l. answers past ++ l) is

  pub taken-more : taken (answers (past ++ e ∷ [])) ≡ taken (answers past) + cond (says 34 g.reply) 1 0
  taken-more = ap taken more ∙ count_more (λ a. says 34 a.reply) (answers past) g

  pub combined-more : combinations (answers (past ++ e ∷ [])) ≡ combinations (answers past) + cond (says 35 g.reply) 1 0
  combined-more = ap combinations more ∙ count_more (λ a. says 35 a.reply) (answers past) g

long-with_row : (n t : ℕ) (bytes memory : List ℕ) → length bytes ≡ bytes_for n → t * bytes_for n + bytes_for n ≤ length memory → length (with_row n t bytes memory) ≡ length memory
long-with_row n t bytes memory size room =
    let a = t * bytes_for n in
    let p : a + bytes_for n - a ≡ bytes_for n = omega arith in
    same_len_mid a (bytes_for n) memory bytes (size ∙ sym (ap (λ q. length (mid_of a q memory)) (sym p) ∙ mid_len a (a + bytes_for n) memory room ∙ p))

pub no-columns : (n : ℕ) (A : Mat) → columns_of n 0 A ≡ []
unfolding columns_of
no-columns n A = refl

module _
    (k : Card) (past : List Event) (o o' : state.Open) (inverse inverse' : List ℕ) (store : Store) (e : Event)
    (g : Given) (m : Lent) (f : List ℕ)
    (before : Reached k past (Open o) inverse store)
  where
    abbrev n : ℕ
    n = k.secret.set.rows

    abbrev B : List (List ℕ)
    B = product k.secret

    abbrev p : ℕ
    p = phase_number o.phase

    abbrev r : List ℕ
    r = reply_of k.secret.set k.secret.set k.secret.order B p o.rows m f

    abbrev t : ℕ
    t = taken (answers past)

    abbrev c : ℕ
    c = combinations (answers past)

    abbrev t' : ℕ
    t' = taken (answers (past ++ e ∷ []))

    abbrev c' : ℕ
    c' = combinations (answers (past ++ e ∷ []))

    module _
        (a-rows : o'.rows ≡ rows_after o.rows r)
        (a-phase : phase_number o'.phase ≡ phase_after n p o.rows r)
        (a-memory : inverse' ≡ inverse_after n k.secret.blinding o.rows (row_in f) r inverse)
        (a-set : o'.set ≡ o.set)
        (mem : m.inverse ≡ length inverse)
        (is : given_in e ≡ g ∷ [])
        (reply-is : g.reply ≡ r)
        (nc : is_closing e ≡ false) (np : is_publishing e ≡ false)
        (told : AsTold k past e)
      where
        closings-same : closings (past ++ e ∷ []) ≡ closings past
        closings-same = closings_more past e ∙ ap (λ b. closings past + cond b 1 0) nc ∙ add-zero _

        publishings-same : publishings (past ++ e ∷ []) ≡ publishings past
        publishings-same = publishings_more past e ∙ ap (λ b. publishings past + cond b 1 0) np ∙ add-zero _

        t'-is : t' ≡ t + cond (says 34 r) 1 0
        t'-is = taken-more past e g is ∙ ap (λ x. t + cond (says 34 x) 1 0) reply-is

        c'-is : c' ≡ c + cond (says 35 r) 1 0
        c'-is = combined-more past e g is ∙ ap (λ x. c + cond (says 35 x) 1 0) reply-is

        told' : Told k [] (past ++ e ∷ [])
        told' = told_more k [] past e before.told told

        agrees-with : o'.rows ≡ t' → phase_number o'.phase ≡ phase_at n t' c' → Agrees k (Open o') (past ++ e ∷ [])
        agrees-with rows at_phase =
            let agree = before.agrees in
            record { unclosed = closings-same ∙ agree.unclosed; rows = rows; at_phase = at_phase; unsent = publishings-same ∙ agree.unsent; own = a-set ∙ agree.own }

        kept : says 34 r ≡ false → says 35 r ≡ false → Reached k (past ++ e ∷ []) (Open o') inverse' store
        kept n22 n23 =
            let agree = before.agrees in
            let t-is : t' ≡ t = t'-is ∙ ap (λ b. t + cond b 1 0) n22 ∙ add-zero _ in
            let c-is : c' ≡ c = c'-is ∙ ap (λ b. c + cond b 1 0) n23 ∙ add-zero _ in
            let rows-is : o'.rows ≡ o.rows = a-rows ∙ ap (λ b. cond b (o.rows + 1) o.rows) n22 in
            let phase-is : phase_number o'.phase ≡ p = a-phase ∙ (λ i. cond (n22 i) (cond (eqb (o.rows + 1) n) 1 p) (cond (n23 i) 2 p)) in
            let inverse-is : inverse' ≡ inverse = a-memory ∙ ap (λ b. cond b (with_row n o.rows (unblinded n k.secret.blinding (row_in f)) inverse) inverse) n22 in
            record {
              told = told';
              agrees = agrees-with (rows-is ∙ agree.rows ∙ sym t-is) (phase-is ∙ agree.at_phase ∙ (λ i. phase_at n (sym t-is i) (sym c-is i)));
              few = omega (arith, before.few, t-is);
              long = ap length inverse-is ∙ before.long;
              untouched = subst (Untouched n t' k.memory) (sym inverse-is) (same-rows n t-is inverse k.memory before.untouched);
              fits = λ h. before.fits (omega (arith, t-is, h));
              rows = λ j h. subst (λ l. Held n k.secret.checks l j) (sym inverse-is) (before.rows j (omega (arith, t-is, h)));
              sent = omega (arith, publishings-same, before.sent);
              sized = before.sized;
              columns = before.columns ∙ (λ i. sent_columns k (sym publishings-same i) (sym inverse-is i));
              singular = λ h. before.singular (omega (arith, c-is, h));
            }

        row-more : says 34 r ≡ true → says 35 r ≡ false → p ≡ 0 → m.inverse ≡ n * bytes_for n → n ≤ wrong n B (row_in f) o.rows → Reached k (past ++ e ∷ []) (Open o') inverse' store
        row-more y22 n23 at0 fit right =
            let agree = before.agrees in
            let at : o.rows ≡ t = agree.rows in
            let open-yet = phase-zero n t c (sym agree.at_phase ∙ at0) in
            let t-is : t' ≡ t + 1 = t'-is ∙ ap (λ b. t + cond b 1 0) y22 in
            let c-is : c' ≡ c = c'-is ∙ ap (λ b. c + cond b 1 0) n23 ∙ add-zero _ in
            let rows-is : o'.rows ≡ t + 1 = a-rows ∙ ap (λ b. cond b (o.rows + 1) o.rows) y22 ∙ ap (λ x. x + 1) at in
            let phase-is : phase_number o'.phase ≡ cond (eqb (t + 1) n) 1 0 = a-phase ∙ (λ i. cond (y22 i) (cond (eqb (at i + 1) n) 1 (at0 i)) (cond (n23 i) 2 (at0 i))) in
            let fresh : List ℕ = unblinded n k.secret.blinding (row_in f) in
            let inverse-is : inverse' ≡ with_row n t fresh inverse = a-memory ∙ (λ i. cond (y22 i) (with_row n (at i) fresh inverse) inverse) in
            let below : t < n = omega (arith, before.few, open-yet.0) in
            let room : t * bytes_for n + bytes_for n ≤ length inverse = omega (arith, suc-mul t (bytes_for n), mul-le-mul_right (bytes_for n) below, mem, fit) in
            let size : length fresh ≡ bytes_for n = length-pack n (apply_row bits n k.secret.blinding (bits_of (row_in f))) in
            let same-long : length (with_row n t fresh inverse) ≡ length inverse = long-with_row n t fresh inverse size room in
            let none-sent : publishings past ≡ 0 = agree.unsent in
            record {
              told = told';
              agrees = agrees-with (rows-is ∙ sym t-is) (phase-is ∙ (λ i. phase_at n (sym t-is i) (sym (c-is ∙ open-yet.1) i)));
              few = omega (arith, below, t-is);
              long = ap length inverse-is ∙ same-long ∙ before.long;
              untouched = subst (Untouched n t' k.memory) (sym inverse-is) (same-rows n t-is (with_row n t fresh inverse) k.memory (one-row-more n t fresh inverse k.memory size room before.untouched));
              fits = λ h. sym before.long ∙ sym mem ∙ fit;
              rows = λ j h. subst (λ l. Held n k.secret.checks l j) (sym inverse-is) (below_more (λ x. Held n k.secret.checks (with_row n t fresh inverse) x) t
                  (λ x lt. held-same n k.secret.checks inverse (with_row n t fresh inverse) x
                  (λ b hb. row-below n t fresh inverse size room (x * bytes_for n + b) (omega (arith, hb, suc-mul x (bytes_for n), mul-le-mul_right (bytes_for n) lt))) (before.rows x lt))
                  (held-new n t k.secret.blinding k.secret.checks (row_in f) inverse room (right-row n t k.secret.blinding k.secret.checks (row_in f) (subst (λ x. n ≤ wrong n B (row_in f) x) at right)))
                  j (omega (arith, t-is, h)));
              sent = omega (arith, publishings-same, before.sent);
              sized = before.sized;
              columns = before.columns ∙ ap (λ x. sent_columns k x inverse) none-sent ∙ no-columns n _ ∙ sym (no-columns n _) ∙ ap (λ x. sent_columns k x inverse') (sym (publishings-same ∙ none-sent));
              singular = λ h. before.singular (omega (arith, c-is, h));
            }

        caught : says 34 r ≡ false → says 35 r ≡ true → p ≡ 0 → Singular bits n (entry_of B) → Reached k (past ++ e ∷ []) (Open o') inverse' store
        caught n22 y23 at0 found =
            let agree = before.agrees in
            let open-yet = phase-zero n t c (sym agree.at_phase ∙ at0) in
            let t-is : t' ≡ t = t'-is ∙ ap (λ b. t + cond b 1 0) n22 ∙ add-zero _ in
            let c-is : c' ≡ 1 = c'-is ∙ (λ i. open-yet.1 i + cond (y23 i) 1 0) in
            let rows-is : o'.rows ≡ o.rows = a-rows ∙ ap (λ b. cond b (o.rows + 1) o.rows) n22 in
            let phase-is : phase_number o'.phase ≡ 2 = a-phase ∙ (λ i. cond (n22 i) (cond (eqb (o.rows + 1) n) 1 p) (cond (y23 i) 2 p)) in
            let inverse-is : inverse' ≡ inverse = a-memory ∙ ap (λ b. cond b (with_row n o.rows (unblinded n k.secret.blinding (row_in f)) inverse) inverse) n22 in
            let not-all : eqb t n ≡ false = ne_eqb t n open-yet.0 in
            record {
              told = told';
              agrees = agrees-with (rows-is ∙ agree.rows ∙ sym t-is) (phase-is ∙ sym ((λ i. phase_at n (t-is i) (c-is i)) ∙ ap (λ b. cond b 1 2) not-all));
              few = omega (arith, before.few, t-is);
              long = ap length inverse-is ∙ before.long;
              untouched = subst (Untouched n t' k.memory) (sym inverse-is) (same-rows n t-is inverse k.memory before.untouched);
              fits = λ h. before.fits (omega (arith, t-is, h));
              rows = λ j h. subst (λ l. Held n k.secret.checks l j) (sym inverse-is) (before.rows j (omega (arith, t-is, h)));
              sent = omega (arith, publishings-same, before.sent);
              sized = before.sized;
              columns = before.columns ∙ (λ i. sent_columns k (sym publishings-same i) (sym inverse-is i));
              singular = λ h. found;
            }

        pub frame-step : Reached k (past ++ e ∷ []) (Open o') inverse' store
        frame-step =
            elim (classify k.secret.set k.secret.order B p o.rows m f) [
              | row x ↦ row-more x.yes22 x.no23 x.at0 x.long x.right
              | combination x ↦ caught x.no22 x.yes23 x.at0 (found-singular n B (combination_in f) x.some x.zero)
              | neither n22 n23 ↦ kept n22 n23
            ]

-- a part of cleared memory
zero-past : (n : ℕ) (xs : List ℕ) → AllZero xs → AllZero (drop n xs)
zero-past n xs zero =
    let e : drop n xs ≡ replicate (length xs - n) 0 = ap (drop n) zero ∙ drop-replicate n (length xs) 0 in
    e ∙ ap (λ l. replicate l 0) (sym (ap length e ∙ length-replicate (length xs - n) 0))

-- a frame f answered, in memories of the lengths m; x keeps the frame, and z the reply memory
module _
    (k : Card) (past : List Event) (o o' : state.Open) (inverse inverse' : List ℕ) (store : Store)
    (x : Vec ℕ Global) (w : ℕ) (a : answer-of.Answer) (z : Vec ℕ Global) (m : Lent) (f old bytes : List ℕ)
    (before : Reached k past (Open o) inverse store)
    (ans : does.Answered o.set k.secret (phase_number o.phase) o.rows inverse m f old a (phase_number o'.phase) o'.rows inverse' bytes)
    (a-set : o'.set ≡ o.set)
    (mi : m.inverse ≡ length k.memory) (mw : m.working ≡ w) (mr : m.reply ≡ length z.items) (mf : f ≡ x.items)
    (same : z.items ≡ bytes) (zero : AllZero old)
  where
    abbrev s : Sent
    s = record { frame = x.items; working = w; reply = length z.items }

    abbrev g : Given
    g = record { fault = a.fault; long = a.length; reply = take a.length z.items }

    abbrev set-is : o.set ≡ k.secret.set
    set-is = before.agrees.own

    abbrev reply : List ℕ
    reply = reply_of k.secret.set k.secret.set k.secret.order (product k.secret) (phase_number o.phase) o.rows m f

    own : reply_of o.set k.secret.set k.secret.order (product k.secret) (phase_number o.phase) o.rows m f ≡ reply
    own = ap (λ y. reply_of y k.secret.set k.secret.order (product k.secret) (phase_number o.phase) o.rows m f) set-is

    stands : take a.length z.items ≡ reply
    stands = (λ i. take (ans.long i) ((same ∙ ans.bytes) i)) ∙ take-append_seam _ _ ∙ own

    abbrev theirs : List ℕ
    theirs = reply_of o.set k.secret.set k.secret.order (product k.secret) (phase_number o.phase) o.rows m f

    past-it : AllZero (drop a.length z.items)
    past-it = subst AllZero (sym ((λ i. drop (ans.long i) ((same ∙ ans.bytes) i)) ∙ drop-append_seam theirs (drop (length theirs) old))) (zero-past (length theirs) old zero)

    by-answers : g ≡ given (seen k) (answers past) s
    by-answers =
        let ph = before.agrees.at_phase in
        let rw = before.agrees.rows in
        let reply-path : reply ≡ (given (seen k) (answers past) s).reply = λ i. reply_of k.secret.set k.secret.set k.secret.order (product k.secret) (ph i) (rw i) (record { inverse = mi i; working = mw i; reply = mr i }) (mf i) in
        let fault-is : a.fault ≡ (given (seen k) (answers past) s).fault = ans.fault ∙ (λ i. first (answering_lines (set-is i) k.secret.set k.secret.order (product k.secret) (ph i) (rw i) (record { inverse = mi i; working = mw i; reply = mr i }) (mf i))) in
        let long-is : a.length ≡ (given (seen k) (answers past) s).long = ans.long ∙ ap length (own ∙ reply-path) in
        let reply-is : take a.length z.items ≡ (given (seen k) (answers past) s).reply = stands ∙ reply-path in
        λ i. record { fault = fault-is i; long = long-is i; reply = reply-is i }

    pub answered-step : Reached k (past ++ Answered x w a z ∷ []) (Open o') inverse' store
    answered-step = frame-step k past o o' inverse inverse' store (Answered x w a z) g m f before
        (ans.rows ∙ ap (rows_after o.rows) own)
        (ans.at_phase ∙ ap (phase_after k.secret.set.rows (phase_number o.phase) o.rows) own)
        (ans.memory ∙ ap (λ y. inverse_after k.secret.set.rows k.secret.blinding o.rows (row_in f) y inverse) own)
        a-set (mi ∙ sym before.long) refl stands refl refl (before.agrees.unclosed, ap (λ y. y ∷ []) by-answers, past-it)
