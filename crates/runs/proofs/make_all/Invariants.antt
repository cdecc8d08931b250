use Rattle.std.proofs.Common.{◌≡◌, ℕ, ◌+◌, true, List, vec_len}
use Rattle.sink.specs.Store.{Store}
use Rattle.session.specs.Table.{secret}
use Rattle.runs.specs.Runs.{Card, card, with_columns}
use Rattle.runs.specs.Reached.{Reached, Adds}
use Rattle.runs.proofs.Parts.{Makes}
use Rattle.runs.proofs.make_all.Given as goal

abbrev pub invariant-loop-call : goal.invariant-loop-call
invariant-loop-call g l =
    let store = g.S.Sink.store in
    let of : List ℕ → Store → Card = λ m s. card (secret (g.K.Key.sizes l.key) (g.K.Key.checks l.key) (g.O.Operator.order l.blinding) (g.O.Operator.matrix l.blinding)) m s in
    record {
      reached : (m : List ℕ) (s : Store) → Reached (of m s) l.fn.run.events.items l.fn.run.stage l.initial.inverse (store l.initial.sink) → Reached (of m s) l.run.events.items l.run.stage l.inverse (store l.sink);
      grows : Adds l.fn.run.events.items l.run.events.items (Makes l.calls l.call-index);
      count : vec_len l.run.events ≡ vec_len l.fn.run.events + l.call-index;
      whole : l.run.whole ≡ true;
      begun : l.fn.run.whole ≡ true;
      sink : store l.sink ≡ with_columns (store l.initial.sink) (store l.sink).columns;
    }
