use Rattle.module_json.proofs.Reading.{parts_unique}
use Rattle.module_json.proofs.laws.parts_are_unique.Goals as goal

pub returns : goal.returns
returns c = parts_unique
