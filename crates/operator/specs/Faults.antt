-- What the faults of operators tell. Assumes nothing.
use Rattle.refusal.specs.Refusals.{refused}
use Rattle.refusal.specs.declared.told.Refusal.{Refusal}
use Rattle.refusal.specs.declared.told.Layer.TheVariants.{Operators}
use Rattle.operator.specs.declared.fault.OperatorFault.{OperatorFault}
use Rattle.operator.specs.declared.fault.OperatorFault.TheVariants.{Length}
use Rattle.operator.specs.declared.fault.MakeFault.{MakeFault}
use Rattle.operator.specs.declared.fault.MakeFault.TheVariants.{Size, Memory, Differ}

-- acting
abbrev pub told_acting : OperatorFault → Refusal
told_acting (Length l) = refused Operators 8 l

-- making
abbrev pub told_making : MakeFault → Refusal
told_making (Size n) = refused Operators 6 n
told_making (Memory l) = refused Operators 7 l
told_making (Differ n) = refused Operators 9 n
