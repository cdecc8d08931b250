use Rattle.std.proofs.Common.{◌≡◌, true, false, length, is_ok, sym, ap, ◌∙◌, subst, rules, arith}
use lib.ListN.{length-replicate}
use Rattle.std.proofs.lemmas.Bool.{cond-false}
use Rattle.sink.specs.Layout.{wanted, Blank}
use Rattle.sink.specs.Store.{check_in, matrix_in, refused_store}
use Rattle.sink.proofs.Layouts.{cleared, check-room}
use Rattle.sink.proofs.Stores.{made-is-new}
use Rattle.sink.proofs.columns.Columns.new.Goals as goal

pub returns-then-is_ok-clause-holds : goal.returns-then-is_ok-clause-holds
returns-then-is_ok-clause-holds g c =
    let n = c.args.size in
    let l = c.args.limit in
    let xs = c.args.bytes.now in
    let r = check_in g.L.Layout.by_columns n l (length xs) in
    let ok : is_ok r ≡ true = ap is_ok (sym c.check.ensures) ∙ sym c.is_ok.ensures.value ∙ c.if-is_ok.true in
    made-is-new r n l xs c.fill.new.self (matrix_in g.L.Layout.by_columns n l c.fill.new.self) ok

pub invariant_of-result : goal.invariant_of-result
invariant_of-result g c =
    let n = c.args.size in
    let l = c.args.limit in
    let zeros = c.fill.ensures.after (λ y e. e) in
    let fits : length c.fill.new.self ≡ wanted g.L.Layout.by_columns n l =
    ap length zeros ∙ length-replicate (length c.args.bytes.now) 0
    ∙ check-room g.L.Layout.by_columns n l (length c.args.bytes.now) (ap is_ok (sym c.check.ensures) ∙ sym c.is_ok.ensures.value ∙ c.if-is_ok.true) in
    record {
      few = search rules;
      room = omega (arith, fits);
      exact = λ _. fits;
      shut = search rules;
      blank = λ _. subst (Blank g.L.Layout.by_columns n l 0) (sym zeros) (cleared g.L.Layout.by_columns n l (length c.args.bytes.now));
    }

pub returns-clause-holds : goal.returns-clause-holds
returns-clause-holds g c =
    let xs = c.args.bytes.now in
    let r = check_in g.L.Layout.by_columns c.args.size c.args.limit (length xs) in
    let no-sink : is_ok r ≡ false = ap is_ok (sym c.check.ensures) ∙ sym c.is_ok.ensures.value ∙ c.if-is_ok.false in
    c.refused.ensures.holds ∙ sym (cond-false (is_ok r) _ (refused_store xs) no-sink)
