use Rattle.ext_table.proofs.Layouts.{refused-alike}
use Rattle.ext_table.proofs.laws.layouts_refuse_alike.Goals as goal

pub returns : goal.returns
returns c = refused-alike
