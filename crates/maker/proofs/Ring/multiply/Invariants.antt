use Rattle.std.proofs.Common.{slice_index}
use Rattle.maker.specs.Maker.{low_of}
use Rattle.maker.proofs.Product.{Climbing}
use Rattle.maker.proofs.Ring.multiply.Given as goal

abbrev pub invariant-loop-x : goal.invariant-loop-x
invariant-loop-x g l =
    let s = l.self.set in
    Climbing s.m s.f s.t (low_of s.terms) (slice_index l.a) (slice_index l.initial.s) l.x-index (slice_index l.s) (slice_index l.out)
