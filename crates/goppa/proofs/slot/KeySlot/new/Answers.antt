use Rattle.std.proofs.Common.{◌+◌, get_or, sym, ap, ◌∙◌, subst, arith, rules}
use Rattle.params.specs.Sets.{numbers}
use Rattle.goppa.specs.Loading.{entry_in, key_in}
use Rattle.goppa.proofs.Lawful.{Passed, lawful, key-is, elements-of, fresh-bytes, fresh-passed}
use Rattle.goppa.proofs.slot.KeySlot.new.Goals as goal

pub invariant_of-elements-2 : goal.invariant_of-elements-2
invariant_of-elements-2 c =
    let s = numbers c.practice12-set.result in
    let passed = subst (λ s. Passed s fresh-bytes) (sym c.practice12-set.ensures) fresh-passed in
    record { small = elements-of s.m (s.t + s.n) (entry_in fresh-bytes) passed.small }

pub invariant_of-result : goal.invariant_of-result
invariant_of-result c =
    let set = c.practice12-set.result in
    let passed = subst (λ s. Passed s fresh-bytes) (sym c.practice12-set.ensures) fresh-passed in
    let l = lawful (numbers set) fresh-bytes (λ k. get_or c.write_entries.new.out k 0) (λ j. get_or c.write_entries-2.new.out j 0) (λ j. get_or c.write_inverses.new.out j 0)
    passed (λ k h. c.write_entries.ensures.entries k (omega (arith, set.degree)) h) (λ j h. c.write_entries-2.ensures.entries j (omega (arith, set.long)) h) c.write_inverses.ensures.inverses in
    record {
      degree = search rules;
      long = search rules;
      kept = search rules;
      coefficients = l.coefficients;
      points = l.points;
      distinct = l.distinct;
      rootless = l.rootless;
      inverted = l.inverted;
      goppa_rest = c.write_entries.ensures.rest;
      support_rest = c.write_entries-2.ensures.rest;
      inverses_rest = c.write_inverses.ensures.rest;
    }

pub returns : goal.returns
returns c =
    let set = c.practice12-set.result in
    key-is (numbers set) fresh-bytes c.write_entries.new.out c.write_entries-2.new.out (search rules) (search rules)
    (λ k h. c.write_entries.ensures.entries k (omega (arith, set.degree)) h) (λ j h. c.write_entries-2.ensures.entries j (omega (arith, set.long)) h)
    ∙ ap (λ s. key_in s fresh-bytes) c.practice12-set.ensures
