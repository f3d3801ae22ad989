use Rattle.space_laws.proofs.Accepted.{spaces_are_accepted}
use Rattle.space_laws.proofs.Files.{values_are_accepted, files_are_accepted}
use Rattle.space_laws.proofs.spaces_are_modules.Goals as goal

pub returns : goal.returns
returns c = record { cells = spaces_are_accepted; values = values_are_accepted; files = files_are_accepted }
