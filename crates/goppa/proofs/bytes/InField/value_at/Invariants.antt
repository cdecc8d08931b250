use Rattle.std.proofs.Common.{◌≡◌, ◌-◌}
use Rattle.goppa.specs.Loading.{entry_in}
use Rattle.goppa.proofs.Horner.{upper}
use Rattle.goppa.proofs.bytes.InField.value_at.Given as goal

abbrev pub invariant-loop-i : goal.invariant-loop-i
invariant-loop-i g l = let s = l.self.elements.key.set in l.r ≡ upper s.m s.f (s.t - l.i) (entry_in l.self.elements.key.bytes.now) l.x l.i
