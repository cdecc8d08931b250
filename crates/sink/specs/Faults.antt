-- What the faults of sinks tell. Assumes nothing.
use Rattle.refusal.specs.Refusals.{refused}
use Rattle.refusal.specs.declared.told.Refusal.{Refusal}
use Rattle.refusal.specs.declared.told.Layer.TheVariants.{Sinks}
use Rattle.sink.specs.declared.fault.SinkFault.{SinkFault}
use Rattle.sink.specs.declared.fault.SinkFault.TheVariants.{Length, Full, Absent}
use Rattle.sink.specs.declared.fault.MakeFault.{MakeFault}
use Rattle.sink.specs.declared.fault.MakeFault.TheVariants.{Size, Limit, Memory}

-- taking and reading
abbrev pub told_sink : SinkFault → Refusal
told_sink (Length l) = refused Sinks 8 l
told_sink (Full l) = refused Sinks 26 l
told_sink (Absent j) = refused Sinks 28 j

-- making
abbrev pub told_making : MakeFault → Refusal
told_making (Size n) = refused Sinks 6 n
told_making Limit = refused Sinks 27 0
told_making Memory = refused Sinks 27 1
