use Rattle.std.proofs.Common.{refl}
use Rattle.ext_report.proofs.lines.open_line.Goals as goal

pub returns-in-Damaged : goal.returns-in-Damaged
returns-in-Damaged c = rw c.in-Damaged.is refl
