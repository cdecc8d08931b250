use Rattle.std.proofs.Common.{◌≡◌, true, false, rules}
use Rattle.std.proofs.lemmas.Iterator.{first_from_Range}
use Rattle.goppa.specs.Loading.{entry_in, large}
use Rattle.goppa.proofs.Founds.{found-by}
use Rattle.maker.proofs.first_large.Goals as goal

pub returns : goal.returns
returns c =
    let s = c.args.set in
    let p = large s.m (entry_in c.args.beta.now) in
    found-by s.t p c.find.result (first_from_Range _ _ _ _ (λ k. p k ≡ true) (λ k. p k ≡ false) c.find.ensures.ran (λ x q h. search rules) (λ x q h. (search rules, search rules)))
