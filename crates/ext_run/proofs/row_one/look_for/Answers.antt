use Rattle.std.proofs.lemmas.Result.{IfErr-weaker}
use Rattle.ext_run.proofs.row_one.look_for.Goals as goal

pub returns-then-are_in_row_one-clause-missing : goal.returns-then-are_in_row_one-clause-missing
returns-then-are_in_row_one-clause-missing c =
    IfErr-weaker c.find_each.result _ _ (λ refusal missing q canonical sphere layout shape r. c.layouts_refuse_alike.ensures layout shape c.args.range c.args.by.now r q refusal (missing q canonical sphere shape r)) c.find_each.ensures.missing
