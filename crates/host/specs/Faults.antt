-- What each refusal of a host tells. Assumes nothing.
use Rattle.refusal.specs.Refusals.{refused}
use Rattle.refusal.specs.declared.told.Refusal.{Refusal}
use Rattle.refusal.specs.declared.told.Layer.TheVariants as layers
use Rattle.params.specs.Sets.{told_sets}
use Rattle.host.specs.declared.fault.HostFault.{HostFault}
use Rattle.host.specs.declared.fault.HostFault.TheVariants.{Set, Length, Reply}

-- layer, number and place; a set's refusal tells its own
abbrev pub told_host : HostFault → Refusal
told_host (Set e) = told_sets e
told_host Length = refused layers.Host 30 0
told_host Reply = refused layers.Host 30 0
