-- How a host begins. Assumes nothing.
use Rattle.std.specs.Prelude.{◌≡◌, ◌*◌, Ok, Err, Result}
use Rattle.params.specs.declared.numbers.Numbers.{Numbers}
use Rattle.params.specs.declared.set.SetFault.{SetFault}
use Rattle.host.specs.declared.Host.{Host}
use Rattle.host.specs.declared.fault.HostFault.{HostFault}
use Rattle.host.specs.declared.fault.HostFault.TheVariants.{Set}
use Rattle.host.specs.declared.stage.Stage.TheVariants.{Columns}

-- a host of a set is of size m t and asks for column 0; of an unknown name there is none
abbrev pub Begins : Result Numbers SetFault → Result Host HostFault → Type 0
Begins (Ok s) (Ok h) = (h.size ≡ s.m * s.t) × (h.stage ≡ Columns 0)
Begins (Ok s) (Err f) = ⊥
Begins (Err e) (Ok h) = ⊥
Begins (Err e) (Err f) = f ≡ Set e
