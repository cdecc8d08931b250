use Rattle.std.proofs.Common.{slice_index}
use Rattle.galois.specs.Gf.{times}
use Rattle.quotient.specs.Quotient.{Alike, power}
use Rattle.maker.specs.Maker.{low_of}
use Rattle.maker.proofs.Powers.{FirstRows}
use Rattle.maker.proofs.write_powers.Given as goal

abbrev pub invariant-loop-j : goal.invariant-loop-j
invariant-loop-j g l =
    let k = g.F.Field in
    let s = l.ring.set in
    FirstRows k.WIDTH k.number s.t l.table (power (times s.m s.f) s.t (low_of s.terms) (slice_index l.b)) l.j
    × Alike s.t (slice_index l.power) (power (times s.m s.f) s.t (low_of s.terms) (slice_index l.b) l.j)
