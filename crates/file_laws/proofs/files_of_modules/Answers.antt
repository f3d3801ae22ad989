use Rattle.file_laws.proofs.FileLaw.{files_give_back}
use Rattle.file_laws.proofs.files_of_modules.Goals as goal

pub returns : goal.returns
returns c = files_give_back
