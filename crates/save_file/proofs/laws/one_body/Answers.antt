use Rattle.save_file.proofs.Rules.{one_body}
use Rattle.save_file.proofs.laws.one_body.Goals as goal

pub returns : goal.returns
returns c = one_body
