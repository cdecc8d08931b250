-- The fields of the library: the two tests of each reducing polynomial are computed.
use mathlib.Core.Path.{refl}
use native.Mathlib.Omega.{arith}
use lib.Dec.{T}
use Rattle.galois.specs.Arith.{Arith}
use Rattle.galois.specs.Gf.{shifted, times_z, times}
use Rattle.galois.proofs.Fermat.{frobenius, fixes, only_bits}
use Rattle.galois.proofs.Shown.{galois}

pub fixes4 : T (fixes 4 19)
unfolding frobenius times shifted times_z
fixes4 = tt

pub only4 : T (only_bits 4 19)
unfolding frobenius times shifted times_z
only4 = tt

abbrev pub gf4 : Arith
gf4 = galois 4 19 (omega arith) refl fixes4 only4

pub fixes5 : T (fixes 5 37)
unfolding frobenius times shifted times_z
fixes5 = tt

pub only5 : T (only_bits 5 37)
unfolding frobenius times shifted times_z
only5 = tt

abbrev pub gf5 : Arith
gf5 = galois 5 37 (omega arith) refl fixes5 only5

pub fixes12 : T (fixes 12 4105)
unfolding frobenius times shifted times_z
fixes12 = tt

pub only12 : T (only_bits 12 4105)
unfolding frobenius times shifted times_z
only12 = tt

abbrev pub gf12 : Arith
gf12 = galois 12 4105 (omega arith) refl fixes12 only12

pub fixes13 : T (fixes 13 8219)
unfolding frobenius times shifted times_z
fixes13 = tt

pub only13 : T (only_bits 13 8219)
unfolding frobenius times shifted times_z
only13 = tt

abbrev pub gf13 : Arith
gf13 = galois 13 8219 (omega arith) refl fixes13 only13
