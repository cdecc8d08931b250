-- The bytes of a reply. What private steps promise; no public contract cites it. Assumes nothing.
use Rattle.std.specs.Prelude.{ℕ, List, [], ◌∷◌}
use Rattle.session.specs.declared.open.Reply.{Reply}
use Rattle.session.specs.declared.open.Reply.TheVariants.{Column, Row, Singular, Status, Refused}
use Rattle.session.specs.State.{phase_number}
use Rattle.session.specs.Answers.{word}

-- kind, number and body
abbrev pub bytes_of : Reply → List ℕ
bytes_of (Column i b) = 33 ∷ word i b.now
bytes_of (Row t) = 34 ∷ word t []
bytes_of Singular = 35 ∷ []
bytes_of (Status p t) = 36 ∷ phase_number p ∷ word t []
bytes_of (Refused r) = 47 ∷ r.number ∷ word r.place []
