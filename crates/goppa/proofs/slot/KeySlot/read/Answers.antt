use Rattle.std.proofs.Common.{◌+◌, get_or, sym, ap, ◌∙◌, arith, rules}
use Rattle.params.specs.Sets.{numbers}
use Rattle.goppa.specs.Loading.{entry_in, key_of, outcome, held}
use Rattle.goppa.proofs.Lawful.{Passed, lawful, key-is, read_ok, elements-of}
use Rattle.goppa.proofs.slot.KeySlot.read.Goals as goal

pub invariant_of-elements : goal.invariant_of-elements
invariant_of-elements c =
    let s = c.args.set in
    record { small = elements-of s.m (s.t + s.n) (entry_in c.args.bytes.now) (sym c.first_large.ensures ∙ c.in_default.is) }

pub invariant_of-self : goal.invariant_of-self
invariant_of-self c =
    let set = c.args.set in
    let bs = c.args.bytes.now in
    let passed : Passed (numbers set) bs = record {
      size = c.if-bytes-set.false;
      small = sym c.first_large.ensures ∙ c.in_default.is;
      apart = sym c.first_repeat.ensures ∙ c.in_default-first_repeat.is;
      nonzero = sym c.first_root.ensures ∙ c.in_default-first_root.is;
    } in
    let l = lawful (numbers set) bs (λ k. get_or c.write_entries.new.out k 0) (λ j. get_or c.write_entries-2.new.out j 0) (λ j. get_or c.write_inverses.new.out j 0)
    passed (λ k h. c.write_entries.ensures.entries k (omega (arith, set.degree, c.args.self.now.degree)) h) (λ j h. c.write_entries-2.ensures.entries j (omega (arith, set.long, c.args.self.now.long)) h) c.write_inverses.ensures.inverses in
    record {
      degree = search rules;
      long = search rules;
      kept = search rules;
      coefficients = l.coefficients;
      points = l.points;
      distinct = l.distinct;
      rootless = l.rootless;
      inverted = l.inverted;
      goppa_rest = c.write_entries.ensures.rest;
      support_rest = c.write_entries-2.ensures.rest;
      inverses_rest = c.write_inverses.ensures.rest;
    }

pub returns : goal.returns
returns c =
    let set = c.args.set in
    let bs = c.args.bytes.now in
    let ok = read_ok (numbers set) bs (record {
      size = c.if-bytes-set.false;
      small = sym c.first_large.ensures ∙ c.in_default.is;
      apart = sym c.first_repeat.ensures ∙ c.in_default-first_repeat.is;
      nonzero = sym c.first_root.ensures ∙ c.in_default-first_root.is;
    }) in
    record {
      result = sym (ap outcome ok);
      holds = key-is (numbers set) bs c.write_entries.new.out c.write_entries-2.new.out (search rules) (search rules)
          (λ k h. c.write_entries.ensures.entries k (omega (arith, set.degree, c.args.self.now.degree)) h) (λ j h. c.write_entries-2.ensures.entries j (omega (arith, set.long, c.args.self.now.long)) h)
          ∙ sym (ap (λ r. held r (key_of c.args.self.now)) ok);
      kept = tt;
    }
