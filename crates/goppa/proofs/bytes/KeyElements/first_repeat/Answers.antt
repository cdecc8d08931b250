use Rattle.goppa.proofs.Marks.{mark-clear}
use Rattle.goppa.proofs.bytes.KeyElements.first_repeat.Goals as goal

pub first_repeat_on-requires-clause-clear : goal.first_repeat_on-requires-clause-clear
first_repeat_on-requires-clause-clear c = mark-clear 1024
