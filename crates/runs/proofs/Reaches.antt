-- From what is kept to the law of runs. Assumes nothing.
use Rattle.std.proofs.Common.{◌≡◌, ℕ, ◌*◌, ◌<◌, cond, List, [], length, drop, sym, refl, ap, ◌∙◌, arith, ne_eqb}
use Rattle.galois.specs.Bit.{bits}
use Rattle.matrix.specs.Matrix.{Mat, Els, times}
use Rattle.matrix.specs.Words.{from_column}
use Rattle.matrix.proofs.Checks.{algebra}
use Rattle.bits.specs.Bits.{bytes_for, of_rows}
use Rattle.sink.specs.Store.{Store}
use Rattle.session.specs.declared.state.Open as state
use Rattle.session.specs.State.{phase_number}
use Rattle.runs.specs.declared.calls.Event.{Event}
use Rattle.runs.specs.declared.calls.Stage.{Stage}
use Rattle.runs.specs.declared.calls.Stage.TheVariants.{Open, Ready}
use Rattle.runs.specs.Runs.{Card, answers, taken, combinations, publishings}
use Rattle.runs.specs.Law.{Complete, Law, PhaseZero}
use Rattle.runs.specs.Reached.{Reached, Agrees, Held, sent_columns, Waiting}
use Rattle.runs.proofs.Laws.{all_given, told-given}
use Rattle.runs.proofs.Memory.{left_inverse, inverts, reblinds}
use Rattle.runs.proofs.Steps.{no-columns, phase-zero}

pub reached-law : (k : Card) (es : List Event) (stage : Stage) (inverse : List ℕ) (store : Store) → 0 < k.secret.set.rows → Els bits k.secret.checks → Reached k es stage inverse store → Law k es inverse store.columns
reached-law k es stage inverse store some els at = record {
  told = at.told;
  published = λ complete.
      let n = k.secret.set.rows in
      let S : Mat = of_rows (bytes_for n) inverse in (
        times bits n S (from_column n k.secret.checks),
        (algebra bits).systematic n k.secret.set.rest k.secret.checks S els (left_inverse n k.secret.checks inverse els (all-rows complete)),
        at.columns,
      );
  unpublished = λ not-complete. at.columns ∙ ap (λ p. sent_columns k p inverse) (none-sent stage at.agrees not-complete) ∙ no-columns _ _;
  untouched = at.untouched;
  inverted = λ complete. inverts k.secret.set.rows k.secret.checks inverse els (all-rows complete) some (at.long ∙ at.fits (omega (arith, complete, some)));
  singular = at.singular;
  alike = λ k' es' alike same told'. told-given k' [] es' told' ∙ (λ i. all_given (alike i) [] (same i)) ∙ sym (told-given k [] es at.told);
  reblinded = reblinds k.secret;
}
  where
    all-rows : Complete k es → (i : ℕ) → i < k.secret.set.rows → Held k.secret.set.rows k.secret.checks inverse i
    all-rows complete i h = at.rows i (omega (arith, complete, h))

    none-sent : (s : Stage) → Agrees k s es → (Complete k es → ⊥) → publishings es ≡ 0
    none-sent (Open o) a no-way = a.unsent
    none-sent (Ready y) a no-way = absurd (no-way a.complete)

-- a session just opened, and an empty sink
pub fresh : (k : Card) (o : state.Open) (inverse : List ℕ) (store : Store) → o.set ≡ k.secret.set → phase_number o.phase ≡ 0 → o.rows ≡ 0 → 0 < k.secret.set.rows
    → inverse ≡ k.memory → (store.size ≡ k.size) × (store.limit ≡ k.limit) → store.columns ≡ [] → Reached k [] (Open o) inverse store
fresh k o inverse store own at0 none some same sizes empty = record {
  told = tt;
  agrees = record { unclosed = refl; rows = none; at_phase = at0 ∙ sym (ap (λ b. cond b 1 0) (ne_eqb 0 k.secret.set.rows (omega (arith, some)))); unsent = refl; own = own };
  few = omega arith;
  long = ap length same;
  untouched = ap (λ m. drop (0 * bytes_for k.secret.set.rows) m) same;
  fits = λ h. absurd (omega (arith, h));
  rows = λ i h. absurd (omega (arith, h));
  sent = omega arith;
  sized = sizes;
  columns = empty ∙ sym (no-columns k.secret.set.rows _);
  singular = λ h. absurd (omega (arith, h));
}

-- a session that was closed is not in phase 0
pub waits : (k : Card) (es : List Event) (s : Stage) → Agrees k s es → PhaseZero k es → Waiting k es
waits k es (Open o) a h = record { unclosed = a.unclosed; at0 = h }
waits k es (Ready y) a h = absurd ((phase-zero k.secret.set.rows (taken (answers es)) (combinations (answers es)) h).0 a.complete)
