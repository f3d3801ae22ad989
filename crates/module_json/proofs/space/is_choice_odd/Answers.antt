use Rattle.std.proofs.Common.{sym}
use Rattle.milnor_basis.proofs.Kummer.{choose_odd}
use Rattle.module_json.proofs.space.is_choice_odd.Goals as goal

pub returns : goal.returns
returns c = sym (choose_odd c.args.a c.args.b)
