use Rattle.std.proofs.Common.{length, take, pos, ◌-ℤ◌, ap, sym, ◌∙◌}
use Rattle.resolution_laws.specs.Resolution.{row_of}
use Rattle.resolution_laws.proofs.Generators.{length-images_of}
use Rattle.square.specs.Tables.{plain_rows}
use Rattle.yoneda.proofs.values.first_at.Goals as goal

pub returns : goal.returns
returns c = ap length (c.degrees.ensures ∙ c.in_ok-before.ensures) ∙ sym (length-images_of (pos 0 -ℤ pos 0) (take c.args.above (row_of (plain_rows c.args.table.now.rows) c.args.s)))
