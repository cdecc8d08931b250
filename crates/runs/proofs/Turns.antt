-- One turn of our host, and the card. Assumes nothing.
use Rattle.std.proofs.Common.{◌≡◌, ℕ, zero, suc, ◌+◌, ◌*◌, ◌/◌, ◌%◌, ◌<◌, ◌≤◌, Bool, true, false, ◌&&◌, cond, eqb, List, [], ◌∷◌, ◌++◌, map, length, get_or, take, Some, None, Ok, Err, Option, Result, is_ok, sym, refl, ap, ◌∙◌, subst, arith, inl, inr, add-zero, append_assoc, eqb-true}
use Rattle.std.specs.List.{All}
use Rattle.std.proofs.lemmas.Bool.{eq-eqb, ltb-true}
use Rattle.std.proofs.lemmas.List.Elements.{All-append, All-nil}
use Rattle.galois.specs.Bit.{bits}
use Rattle.matrix.specs.Matrix.{Mat, Els}
use Rattle.bits.specs.Bits.{bytes_for, pack}
use Rattle.bits.specs.Columns.{entry_of}
use Rattle.bits.proofs.Packs.{bits-lt}
use Rattle.solver.specs.declared.Solved.{Solved}
use Rattle.solver.specs.declared.Solved.TheVariants.{Inverse, Dependent}
use Rattle.host.specs.declared.stage.Stage as hosts
use Rattle.host.specs.declared.stage.Stage.TheVariants.{Columns, Full, Status, Rows, Combination, Done}
use Rattle.host.specs.declared.fault.HostFault.{HostFault}
use Rattle.host.specs.Stages.{within, after_row, after_status, after_reply}
use Rattle.host.specs.Steps.{spoken_length, written, Moved, Said, Spoken}
use Rattle.host.specs.Meaning.{Knows, Sends, Speaks, RepliedBy, Learns}
use Rattle.host.specs.Meaning as host
use Rattle.session.specs.Table.{first, lent, product, answering_lines}
use Rattle.session.specs.Answers.{says, reply_of}
use Rattle.runs.specs.declared.calls.Event.{Event}
use Rattle.runs.specs.declared.calls.Event.TheVariants.{Answered, Closed, Published, NotAllowed}
use Rattle.runs.specs.Runs.{Card, seen, Sent, Given, Asked, framed, asked_in, given_in, answers, taken, combinations, phase_at, is_closing, closings}
use Rattle.runs.specs.Law.{given, Absent, AsTold, Complete, ShownSingular, Accepted, Fitting, Finished, Lends}
use Rattle.runs.specs.Law as law
use Rattle.runs.specs.Reached.{Adds, reply_in, Stands, Hosting, turns, AfterTurn, Waiting}
use Rattle.runs.proofs.Lists.{closings_more}
use Rattle.runs.proofs.Steps.{phase-zero, taken-more, combined-more}
use Rattle.runs.proofs.Hosting.{Fits, Accepts, column-answered, status-answered, row-answered, combination-answered, column-of}
use Rattle.runs.proofs.Parts.{none-made, told-last}

none-some : (o : ℕ) → ◌≡◌ {A = Option ℕ} None (Some o) → ⊥
none-some o p = cc

-- the event of a frame that was answered so
record Framed (e : Event) (g : Given) : Type 0 where
  pub given : given_in e ≡ g ∷ []
  pub reply : reply_in e ≡ g.reply
  pub accepted : g.fault ≡ None → Accepted e
  pub unclosed : is_closing e ≡ false

head-given : (g h : Given) → ◌≡◌ {A = List Given} (g ∷ []) (h ∷ []) → g ≡ h
head-given g h e = cc

framed-sent : (s t : Sent) → framed s ≡ framed t → s ≡ t
framed-sent s t e = cc

as-framed : (k : Card) (es : List Event) (e : Event) (s : Sent) → asked_in e ≡ framed s → closings es ≡ 0 → AsTold k es e → Framed e (given (seen k) (answers es) s)
as-framed k es (Answered f w a m) s is shut told =
    let same = framed-sent (record { frame = f.items; working = w; reply = length m.items }) s is in
    let g : given_in (Answered f w a m) ≡ given (seen k) (answers es) s ∷ [] = told.1 ∙ ap (λ x. given (seen k) (answers es) x ∷ []) same in
    let one = head-given _ _ g in
    record { given = g; reply = ap (λ x. x.reply) one; accepted = λ h. ap (λ x. x.fault) one ∙ h; unclosed = refl }
as-framed k es (Closed x) s is shut told = absurd (cc)
as-framed k es (Published w x) s is shut told = absurd (cc)
as-framed k es (NotAllowed c) s is shut told =
    let one : closings es ≡ 1 = subst (λ x. Absent x (closings es)) is told in
    absurd (omega (arith, one, shut))

-- the event of a frame that was accepted, and answered r
record Goes (k : Card) (es : List Event) (e : Event) (r : List ℕ) : Type 0 where
  pub accepted : Accepted e
  pub reply : reply_in e ≡ r
  pub taken : taken (answers (es ++ e ∷ [])) ≡ taken (answers es) + cond (says 34 r) 1 0
  pub combinations : combinations (answers (es ++ e ∷ [])) ≡ combinations (answers es) + cond (says 35 r) 1 0
  pub unclosed : closings (es ++ e ∷ []) ≡ 0

module _ (k : Card) (es : List Event) (e : Event) (l : ℕ) (fitting : Fitting k) (bytes : l ≡ bytes_for k.secret.set.rows) (wait : Waiting k es) where
  abbrev n : ℕ
  n = k.secret.set.rows

  abbrev B : List (List ℕ)
  B = product k.secret

  abbrev t : ℕ
  t = taken (answers es)

  abbrev sent : List ℕ → Sent
  sent f = record { frame = f; working = 2 * l; reply = l + 3 }

  fits-all : Fits k.secret.set k.secret.order (lent (length k.memory) (2 * l) (l + 3))
  fits-all =
      let i = fitting.inverse in
      record { same = fitting.order; inverse = i; working = omega (arith, bytes); reply = omega (arith, bytes) }

  goes : (f r : List ℕ) → Accepts k.secret.set k.secret.order B t (lent (length k.memory) (2 * l) (l + 3)) f r → asked_in e ≡ framed (sent f) → AsTold k es e → Goes k es e r
  goes f r acc is told =
      let it = as-framed k es e (sent f) is wait.unclosed told in
      let none : (given (seen k) (answers es) (sent f)).fault ≡ None = ap (λ p. first (answering_lines k.secret.set k.secret.set k.secret.order B p t (lent (length k.memory) (2 * l) (l + 3)) f)) wait.at0 ∙ acc.none in
      let reply : (given (seen k) (answers es) (sent f)).reply ≡ r = ap (λ p. reply_of k.secret.set k.secret.set k.secret.order B p t (lent (length k.memory) (2 * l) (l + 3)) f) wait.at0 ∙ acc.reply in
      record {
        accepted = it.accepted none;
        reply = it.reply ∙ reply;
        taken = taken-more es e _ it.given ∙ ap (λ x. t + cond (says 34 x) 1 0) reply;
        combinations = combined-more es e _ it.given ∙ ap (λ x. combinations (answers es) + cond (says 35 x) 1 0) reply;
        unclosed = closings_more es e ∙ ap (λ b. closings es + cond b 1 0) it.unclosed ∙ add-zero _ ∙ wait.unclosed;
      }

  -- neither a row nor a combination
  waits : (r : List ℕ) → says 34 r ≡ false → says 35 r ≡ false → Goes k es e r → Waiting k (es ++ e ∷ [])
  waits r n22 n23 g =
      let a : taken (answers (es ++ e ∷ [])) ≡ t = g.taken ∙ ap (λ b. t + cond b 1 0) n22 ∙ add-zero _ in
      let b : combinations (answers (es ++ e ∷ [])) ≡ combinations (answers es) = g.combinations ∙ ap (λ b. combinations (answers es) + cond b 1 0) n23 ∙ add-zero _ in
      record { unclosed = g.unclosed; at0 = (λ i. phase_at n (a i) (b i)) ∙ wait.at0 }

-- a turn of the host at st, who then stands at st1 and hears the reply
pub record Turned (k : Card) (es : List Event) (e : Event) (n : ℕ) (st st1 : hosts.Stage) : Type 0 where
  pub accepted : Accepted e
  pub told : RepliedBy n (entry_of (product k.secret)) (taken (answers es)) st1 (reply_in e)
  pub stands : Stands k (es ++ e ∷ []) (after_reply n (taken (answers es)) st1)
  pub fewer : turns n (after_reply n (taken (answers es)) st1) < turns n st

column-stands : (k : Card) (es : List Event) (j : ℕ) (b : Bool) → Waiting k es → Stands k es (cond b Full (Columns (j + 1)))
column-stands k es j true w = w
column-stands k es j false w = w

column-turns : (n j : ℕ) (b : Bool) → j < n → turns n (cond b Full (Columns (j + 1))) < turns n (Columns j)
column-turns n j true h = omega arith
column-turns n j false h = omega arith

status-stands : (k : Card) (es : List Event) (s : Solved) (i : ℕ) → Waiting k es → taken (answers es) ≡ i → Stands k es (after_status s i)
status-stands k es Inverse i w e = (w, e)
status-stands k es (Dependent r) i w e = w

status-turns : (n i : ℕ) (s : Solved) → i < n → turns n (after_status s i) < n + 2
status-turns n i Inverse h = omega arith
status-turns n i (Dependent r) h = omega arith

row-told : (n : ℕ) (B : Mat) (t i : ℕ) (b : Bool) (r : List ℕ) → RepliedBy n B t (cond b Done (Rows (i + 1))) r
row-told n B t i true r = tt
row-told n B t i false r = tt

row-heard : (n t i : ℕ) (b : Bool) → after_reply n t (cond b Done (Rows (i + 1))) ≡ cond b Done (Rows (i + 1))
row-heard n t i true = refl
row-heard n t i false = refl

row-turns : (n i : ℕ) (b : Bool) → i < n → turns n (cond b Done (Rows (i + 1))) < turns n (Rows i)
row-turns n i true h = omega arith
row-turns n i false h = omega arith

row-stands : (k : Card) (es : List Event) (i : ℕ) (b : Bool) → eqb (i + 1) k.secret.set.rows ≡ b → closings es ≡ 0 → taken (answers es) ≡ i + 1 → combinations (answers es) ≡ 0 → Stands k es (cond b Done (Rows (i + 1)))
row-stands k es i true q c t z = let same : i + 1 ≡ k.secret.set.rows = eqb-true _ _ q in inl (omega (arith, t, same))
row-stands k es i false q c t z = (record { unclosed = c; at0 = (λ j. phase_at k.secret.set.rows (t j) (z j)) ∙ ap (λ b. cond b 1 0) q }, t)

module _ (k : Card) (es : List Event) (e : Event) (l : ℕ) (fitting : Fitting k) (bytes : l ≡ bytes_for k.secret.set.rows) (few : taken (answers es) ≤ k.secret.set.rows) (told : AsTold k es e) where
  abbrev rows : ℕ
  rows = k.secret.set.rows

  abbrev M : Mat
  M = entry_of (product k.secret)

  column-turn : (j : ℕ) → j < rows → Waiting k es → asked_in e ≡ framed (record { frame = 17 ∷ j % 256 ∷ j / 256 ∷ []; working = 2 * l; reply = l + 3 }) → Turned k es e rows (Columns j) (Columns j)
  column-turn j h w is =
      let g = goes k es e l fitting bytes w _ _ (column-answered k.secret.set k.secret.order (product k.secret) (taken (answers es)) _ (fits-all k es e l fitting bytes w) j h) is told in
      let reply : reply_in e ≡ 33 ∷ j % 256 ∷ j / 256 ∷ pack rows (λ a. M a j) = g.reply ∙ ap (λ x. 33 ∷ j % 256 ∷ j / 256 ∷ x) (column-of rows k.secret.blinding k.secret.checks j h) in
      record {
        accepted = g.accepted;
        told = reply;
        stands = column-stands k (es ++ e ∷ []) j (eqb (j + 1) rows) (waits k es e l fitting bytes w _ refl refl g);
        fewer = column-turns rows j (eqb (j + 1) rows) h;
      }

  status-turn : (st : hosts.Stage) (s : Solved) → turns rows st ≡ rows + 2 → Waiting k es → asked_in e ≡ framed (record { frame = 20 ∷ []; working = 2 * l; reply = l + 3 }) → Turned k es e rows st (Status s)
  status-turn st s count w is =
      let t : ℕ = taken (answers es) in
      let open-yet = phase-zero rows t (combinations (answers es)) w.at0 in
      let below : t < rows = omega (arith, few, open-yet.0) in
      let g = goes k es e l fitting bytes w _ _ (status-answered k.secret.set k.secret.order (product k.secret) t _ (fits-all k es e l fitting bytes w)) is told in
      let same : taken (answers (es ++ e ∷ [])) ≡ t = g.taken ∙ add-zero _ in
      record {
        accepted = g.accepted;
        told = g.reply;
        stands = status-stands k (es ++ e ∷ []) s t (waits k es e l fitting bytes w _ refl refl g) same;
        fewer = subst (λ x. turns rows (after_status s t) < x) (sym count) (status-turns rows t s below);
      }

  row-turn : (i : ℕ) (s : List ℕ) → i < rows → Waiting k es → taken (answers es) ≡ i → length s ≡ bytes_for rows → host.UnitRow rows M i s
      → asked_in e ≡ framed (record { frame = 18 ∷ i % 256 ∷ i / 256 ∷ s; working = 2 * l; reply = l + 3 }) → Turned k es e rows (Rows i) (after_row rows i)
  row-turn i s below w at long unit is =
      let t : ℕ = taken (answers es) in
      let open-yet = phase-zero rows t (combinations (answers es)) w.at0 in
      let g = goes k es e l fitting bytes w _ _ (row-answered k.secret.set k.secret.order (product k.secret) t _ (fits-all k es e l fitting bytes w) s long (subst (λ x. host.UnitRow rows M x s) (sym at) unit))
      (is ∙ ap (λ x. framed (record { frame = 18 ∷ x % 256 ∷ x / 256 ∷ s; working = 2 * l; reply = l + 3 })) (sym at)) told in
      let more : taken (answers (es ++ e ∷ [])) ≡ i + 1 = g.taken ∙ ap (λ x. x + 1) at in
      let none : combinations (answers (es ++ e ∷ [])) ≡ 0 = g.combinations ∙ add-zero _ ∙ open-yet.1 in
      let next : after_reply rows t (after_row rows i) ≡ after_row rows i = row-heard rows t i (eqb (i + 1) rows) in
      record {
        accepted = g.accepted;
        told = row-told rows M t i (eqb (i + 1) rows) (reply_in e);
        stands = subst (Stands k (es ++ e ∷ [])) (sym next) (row-stands k (es ++ e ∷ []) i (eqb (i + 1) rows) refl g.unclosed more none);
        fewer = subst (λ x. turns rows x < turns rows (Rows i)) (sym next) (row-turns rows i (eqb (i + 1) rows) below);
      }

  combination-turn : (r : ℕ) (v : List ℕ) → Waiting k es → length v ≡ bytes_for rows → host.Vanishes rows M v
      → asked_in e ≡ framed (record { frame = 19 ∷ v; working = 2 * l; reply = l + 3 }) → Turned k es e rows (Combination r) Done
  combination-turn r v w long van is =
      let g = goes k es e l fitting bytes w _ _ (combination-answered k.secret.set k.secret.order (product k.secret) (taken (answers es)) _ (fits-all k es e l fitting bytes w) v long van.at van.at_lt van.nonzero van.zero) is told in
      let more = g.combinations in
      record { accepted = g.accepted; told = tt; stands = inr (omega (arith, more)); fewer = omega arith }

  abbrev in-memory : List ℕ → Asked
  in-memory f = framed (record { frame = f; working = 2 * l; reply = l + 3 })

  -- by the stage
  pub turned : (st st1 : hosts.Stage) (xs xs1 ys ys1 f : List ℕ) (o : ℕ) → within rows st ≡ true → spoken_length rows st ≡ Some o → Moved rows st xs ys st1 xs1 ys1 → Sends rows M st f → Stands k es st
      → asked_in e ≡ in-memory f → Turned k es e rows st st1
  turned (Columns j) st1 xs xs1 ys ys1 f o w some m s at is =
      subst (Turned k es e rows (Columns j)) (sym m.0) (column-turn j (ltb-true j rows w) at (is ∙ ap in-memory s))
  turned Full st1 xs xs1 ys ys1 f o w some m s at is =
      subst (Turned k es e rows Full) (sym m.1) (status-turn Full m.0 refl at (is ∙ ap in-memory s))
  turned (Status q) st1 xs xs1 ys ys1 f o w some m s at is =
      subst (Turned k es e rows (Status q)) (sym m.0) (status-turn (Status q) q refl at (is ∙ ap in-memory s))
  turned (Rows i) st1 xs xs1 ys ys1 f o w some m s at is =
      subst (Turned k es e rows (Rows i)) (sym m.0) (row-turn i s.0 (ltb-true i rows w) at.0 at.1 s.2 s.3 (is ∙ ap in-memory s.1))
  turned (Combination r) st1 xs xs1 ys ys1 f o w some m s at is =
      subst (Turned k es e rows (Combination r)) (sym m.0) (combination-turn r s.0 at s.2 s.3 (is ∙ ap in-memory s.1))
  turned Done st1 xs xs1 ys ys1 f o w some m s at is = absurd (none-some o some)

-- the one event of a call
one-event : (p : List Event) (x : Asked) → map asked_in p ≡ x ∷ [] → (e : Event) × (p ≡ e ∷ []) × (asked_in e ≡ x)
one-event [] x h = absurd (cc)
one-event (e ∷ []) x h = (e, refl, cc)
one-event (e ∷ f ∷ p) x h = absurd (cc)

all-one : (P : Event → Type 0) (e : Event) → P e → All P (e ∷ [])
all-one P e h zero d lt = h
all-one P e h (suc k) d lt = absurd (omega arith)

-- each event of a call of our host comes with its memories
pub lends-part : (l : ℕ) (f : List ℕ) (b : Bool) (p : List Event) → map asked_in p ≡ cond b (framed (record { frame = f; working = 2 * l; reply = l + 3 }) ∷ []) [] → All (λ e. Lends l (asked_in e)) p
lends-part l f true p h =
    let one = one-event p _ h in
    subst (All (λ e. Lends l (asked_in e))) (sym one.1) (all-one (λ e. Lends l (asked_in e)) one.0 (subst (Lends l) (sym one.2) (refl, refl)))
lends-part l f false p h = subst (All (λ e. Lends l (asked_in e))) (sym (none-made p h)) (All-nil (λ e. Lends l (asked_in e)))

-- a host with no more to say
finished : (k : Card) (before after : List Event) (n : ℕ) (st : hosts.Stage) → spoken_length n st ≡ None → All Accepted after → Stands k (before ++ after) st → Finished k before after
finished k before after n (Columns j) e a s = absurd (cc)
finished k before after n Full e a s = absurd (cc)
finished k before after n (Status q) e a s = absurd (cc)
finished k before after n (Rows i) e a s = absurd (cc)
finished k before after n (Combination r) e a s = absurd (cc)
finished k before after n Done e a s = record { accepted = a; ended = s }

-- a host with more to say
waits-yet : (k : Card) (es : List Event) (n : ℕ) (st : hosts.Stage) (o : ℕ) → spoken_length n st ≡ Some o → Stands k es st → Waiting k es
waits-yet k es n (Columns j) o e s = s
waits-yet k es n Full o e s = s
waits-yet k es n (Status q) o e s = s
waits-yet k es n (Rows i) o e s = s.0
waits-yet k es n (Combination r) o e s = s
waits-yet k es n Done o e s = absurd (none-some o e)

same-ok : (o p : Option ℕ) → ◌≡◌ {A = Result (Option ℕ) HostFault} (Ok o) (Ok p) → o ≡ p
same-ok o p e = cc

module _
    (k : Card) (past before after : List Event) (n n1 : ℕ) (st st1 : hosts.Stage) (xs xs1 ys ys1 fr fr1 : List ℕ) (r : Result (Option ℕ) HostFault)
    (w : within n st ≡ true) (does : Spoken n st xs ys fr r n1 st1 xs1 ys1 fr1)
    (past-is : past ≡ before ++ after) (at : Hosting k before after n st xs ys fr)
  where
    said : Said n st xs ys fr r st1 xs1 ys1 fr1
    said =
        let a = eq-eqb (length xs) (n * n) at.first in
        let b = eq-eqb (length ys) (n * n) at.second in
        let c = eq-eqb (length fr) (bytes_for n + 3) at.frame in
        does.said (λ i. a i && (b i && c i))

    pub no-more : r ≡ Ok None → Finished k before after
    no-more e = finished k before after n st (same-ok _ _ (sym said.result ∙ e)) at.accepted at.stands

    pub not-refused : (f : HostFault) → r ≡ Err f → ⊥
    not-refused f e = let q : ◌≡◌ {A = Result (Option ℕ) HostFault} (Ok (spoken_length n st)) (Err f) = sym said.result ∙ e in cc

    module _
        (o l : ℕ) (is : r ≡ Ok (Some o)) (fitting : Fitting k) (bytes : l ≡ bytes_for k.secret.set.rows)
        (few : taken (answers past) ≤ k.secret.set.rows)
        (means : (B : Mat) → is_ok r ≡ true → Knows n B st xs ys → Speaks n B st r st1 xs1 ys1 fr1)
        (reply : List ℕ) (r2 : Result (Unit {0}) HostFault) (st2 : hosts.Stage) (xs2 : List ℕ)
        (learns : (B : Mat) (i : ℕ) (zs : List ℕ) → Els bits B → length xs1 ≡ n1 * n1 → i < n1 → RepliedBy n1 B i st1 reply → Knows n1 B st1 xs1 zs → Learns n1 B i st1 r2 st2 xs2 zs)
        (lx : length xs1 ≡ length xs) (ly : length ys1 ≡ length ys) (lf : length fr1 ≡ length fr) (lx2 : length xs2 ≡ length xs1)
      where
        abbrev M2 : Mat
        M2 = entry_of (product k.secret)

        one-turn : (e : Event) → law.Told k [] (past ++ e ∷ []) → asked_in e ≡ framed (record { frame = take o fr1; working = 2 * l; reply = l + 3 }) → reply ≡ reply_in e
            → AfterTurn k before (after ++ e ∷ []) (is_ok r2) n st st2 xs2 ys1 fr1
        one-turn e told asks heard =
            let m = means M2 (ap is_ok is) at.knows in
            let sends : Sends n M2 st (take o fr1) = subst (λ x. Sends n M2 st (written x fr1)) is m.sends in
            let stands : Stands k past st = subst (λ x. Stands k x st) (sym past-is) at.stands in
            let t : Turned k past e n st st1 =
            subst (λ z. within z st ≡ true → spoken_length z st ≡ Some o → Moved z st xs ys st1 xs1 ys1 → Sends z M2 st (take o fr1) → Turned k past e z st st1) (sym at.size)
            (λ a b c d. turned k past e l fitting bytes few (told-last k [] past e told) st st1 xs xs1 ys ys1 (take o fr1) o a b c d stands asks)
            w (same-ok _ _ (sym said.result ∙ is)) said.moved sends in
            let yet = phase-zero k.secret.set.rows (taken (answers past)) (combinations (answers past)) (waits-yet k past n st o (same-ok _ _ (sym said.result ∙ is)) stands).at0 in
            let size = at.size in
            let below : taken (answers past) < n = omega (arith, few, yet.0, size) in
            let know : Learns n M2 (taken (answers past)) st1 r2 st2 xs2 ys1 =
            subst (λ z. length xs1 ≡ z * z → taken (answers past) < z → RepliedBy z M2 (taken (answers past)) st1 reply → Knows z M2 st1 xs1 ys1 → Learns z M2 (taken (answers past)) st1 r2 st2 xs2 ys1) does.size
            (λ a b c d. learns M2 (taken (answers past)) ys1 (λ i j. bits-lt (get_or (product k.secret) j []) i) a b c d)
            (lx ∙ at.first) below (subst (RepliedBy n M2 (taken (answers past)) st1) (sym heard) t.told) m.knows in
            let next : st2 ≡ after_reply n (taken (answers past)) st1 = know.stage in
            subst (λ b. AfterTurn k before (after ++ e ∷ []) b n st st2 xs2 ys1 fr1) (sym (ap is_ok know.accepted)) (
              record {
                size = at.size;
                first = lx2 ∙ lx ∙ at.first;
                second = ly ∙ at.second;
                frame = lf ∙ at.frame;
                accepted = All-append Accepted after (e ∷ []) at.accepted (all-one Accepted e t.accepted);
                knows = know.knows;
                stands = subst (λ x. Stands k x st2) (ap (λ x. x ++ e ∷ []) past-is ∙ append_assoc before after (e ∷ [])) (subst (Stands k (past ++ e ∷ [])) (sym next) t.stands);
              },
              subst (λ s. turns n s < turns n st) (sym next) t.fewer,
            )

        pub asked : (all : List Event) (whole : Bool) (grows : Adds past all (λ p. map asked_in p ≡ cond whole (framed (record { frame = take o fr1; working = 2 * l; reply = l + 3 }) ∷ []) []))
            → whole ≡ true → law.Told k [] all → ((old : List Event) (e : Event) → all ≡ old ++ e ∷ [] → reply ≡ reply_in e) → AfterTurn k before (after ++ grows.0) (is_ok r2) n st st2 xs2 ys1 fr1
        asked all whole grows made told last =
            let one = one-event grows.0 _ (grows.2 ∙ ap (λ b. cond b (framed (record { frame = take o fr1; working = 2 * l; reply = l + 3 }) ∷ []) []) made) in
            let all-is : all ≡ past ++ one.0 ∷ [] = grows.1 ∙ ap (λ x. past ++ x) one.1 in
            subst (λ x. AfterTurn k before (after ++ x) (is_ok r2) n st st2 xs2 ys1 fr1) (sym one.1)
            (one-turn one.0 (subst (law.Told k []) all-is told) one.2 (last past one.0 all-is))

-- a stage has a turn before it
pub turns-some : (n : ℕ) (st : hosts.Stage) → 0 < turns n st
turns-some n (Columns j) = omega arith
turns-some n Full = omega arith
turns-some n (Status s) = omega arith
turns-some n (Rows i) = omega arith
turns-some n (Combination r) = omega arith
turns-some n Done = omega arith

-- a turn after which there is more to say, and one after which there is not
pub goes-on : (k : Card) (before after : List Event) (b : Bool) (n n' : ℕ) (st st' : hosts.Stage) (xs ys fr : List ℕ) (i limit : ℕ) → b ≡ true → n' ≡ n → AfterTurn k before after b n st st' xs ys fr → turns n st + i ≤ limit
    → Hosting k before after n' st' xs ys fr × (turns n' st' + (i + 1) ≤ limit)
goes-on k before after b n n' st st' xs ys fr i limit more same h room =
    let h' = subst (λ x. AfterTurn k before after x n st st' xs ys fr) more h in
    let fewer = h'.1 in
    subst (λ z. Hosting k before after z st' xs ys fr × (turns z st' + (i + 1) ≤ limit)) (sym same) (h'.0, omega (arith, fewer, room))

pub stops : (k : Card) (before after : List Event) (b : Bool) (n : ℕ) (st st' : hosts.Stage) (xs ys fr : List ℕ) → b ≡ false → AfterTurn k before after b n st st' xs ys fr → Finished k before after
stops k before after b n st st' xs ys fr none h = subst (λ x. AfterTurn k before after x n st st' xs ys fr) none h
