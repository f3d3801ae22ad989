use Rattle.module_json.proofs.Reading.{file_unique}
use Rattle.module_json.proofs.laws.file_is_unique.Goals as goal

pub returns : goal.returns
returns c = file_unique
