use Rattle.std.proofs.Common.{◌≡◌, ℕ, ◌+◌, ◌≤◌, List, [], All}
use Rattle.bits.specs.Bits.{bytes_for}
use Rattle.sink.specs.Store.{Store}
use Rattle.session.specs.Table.{secret}
use Rattle.runs.specs.Runs.{Card, card, asked_in, with_columns}
use Rattle.runs.specs.Law.{Fitting, Lends}
use Rattle.runs.specs.Reached.{Reached, Adds, Hosting, turns}
use Rattle.runs.proofs.ask_all.Given as goal

abbrev pub invariant-loop : goal.invariant-loop
invariant-loop g l =
    let store = g.S.Sink.store in
    let of : List ℕ → Store → Card = λ m s. card (secret (g.K.Key.sizes l.key) (g.K.Key.checks l.key) (g.O.Operator.order l.blinding) (g.O.Operator.matrix l.blinding)) m s in
    record {
      reached : (m : List ℕ) (s : Store) → Reached (of m s) l.fn.run.events.items l.fn.run.stage l.fn.inverse (store l.fn.sink) → Reached (of m s) l.run.events.items l.run.stage l.inverse (store l.sink);
      grows : Adds l.fn.run.events.items l.run.events.items (λ part.
          All (λ e. Lends l.l (asked_in e)) part
          × ((m : List ℕ) (s : Store) → Reached (of m s) l.fn.run.events.items l.fn.run.stage l.fn.inverse (store l.fn.sink) → Fitting (of m s) → l.l ≡ bytes_for (g.K.Key.sizes l.key).rows
          → Hosting (of m s) l.fn.run.events.items [] l.fn.host.size l.fn.host.stage l.fn.first l.fn.second l.fn.frame → turns l.fn.host.size l.fn.host.stage ≤ l.limit
          → Hosting (of m s) l.fn.run.events.items part l.host.size l.host.stage l.first l.second l.frame × (turns l.host.size l.host.stage + l.counter ≤ l.limit)));
      sink : store l.sink ≡ with_columns (store l.fn.sink) (store l.sink).columns;
    }
