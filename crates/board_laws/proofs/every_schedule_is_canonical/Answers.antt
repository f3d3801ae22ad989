use Rattle.std.proofs.Common.{[], refl}
use Rattle.board_laws.proofs.Runs.{schedule_is_right}
use Rattle.board_laws.proofs.every_schedule_is_canonical.Goals as goal

pub returns : goal.returns
returns c = λ m s t start events state board are schedule. schedule_is_right m [] s t start events state board are (λ i k e. refl) schedule
