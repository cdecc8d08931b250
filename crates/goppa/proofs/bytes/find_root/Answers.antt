use Rattle.std.proofs.Common.{◌≡◌, true, false, rules}
use Rattle.std.proofs.lemmas.Iterator.{first_from_Range}
use Rattle.goppa.specs.Loading.{entry_in, support_in, root}
use Rattle.goppa.proofs.Founds.{found-by}
use Rattle.goppa.proofs.bytes.find_root.Goals as goal

pub returns : goal.returns
returns g c =
    let s = c.args.g.now.elements.key.set in
    let bs = c.args.g.now.elements.key.bytes.now in
    let p = root s.m s.f s.t (entry_in bs) (support_in s.t bs) in
    found-by s.n p c.find.result
    (first_from_Range _ _ _ _ (λ k. p k ≡ true) (λ k. p k ≡ false) c.find.ensures.ran (λ x q h. search rules) (λ x q h. (search rules, search rules)))
