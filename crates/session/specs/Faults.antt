-- What each refusal of a session tells. Assumes nothing.
use Rattle.refusal.specs.Refusals.{refused}
use Rattle.refusal.specs.declared.told.Refusal.{Refusal}
use Rattle.refusal.specs.declared.told.Layer.TheVariants.{Session}
use Rattle.operator.specs.Faults.{told_acting}
use Rattle.key.specs.Columns.{told_column}
use Rattle.sink.specs.Faults.{told_sink}
use Rattle.session.specs.declared.fault.SessionFault.{SessionFault}
use Rattle.session.specs.declared.fault.SessionFault.TheVariants.{Set, Blinding, Inverse, Working, Reply, Kind, Length, Phase, Index, Turn, Wrong, Zero, Nonzero, Receiving, Singular, Done, Size, Sink, Operator, Column}

-- layer, number and place; a lower layer's refusal tells its own
abbrev pub told : SessionFault → Refusal
told Set = refused Session 10 0
told Blinding = refused Session 10 1
told (Inverse l) = refused Session 11 l
told (Working l) = refused Session 12 l
told (Reply l) = refused Session 13 l
told (Kind k) = refused Session 14 k
told (Length l) = refused Session 15 l
told (Phase p) = refused Session 16 p
told (Index i) = refused Session 17 i
told (Turn i) = refused Session 18 i
told (Wrong j) = refused Session 19 j
told Zero = refused Session 20 0
told (Nonzero j) = refused Session 21 j
told (Receiving t) = refused Session 22 t
told Singular = refused Session 23 0
told (Done k) = refused Session 24 k
told (Size n) = refused Session 25 n
told (Sink f) = told_sink f
told (Operator f) = told_acting f
told (Column f) = told_column f
