use Rattle.std.proofs.Common.{ap, sym, ◌∙◌}
use Rattle.std.proofs.lemmas.Result.{IfOk-weaker}
use Rattle.clap.specs.Words.{found_of, rows_of}
use Rattle.ext_words.specs.Inside.CommandLine.{command_in}
use Rattle.ext_words.proofs.CommandNames.{matches-are}
use Rattle.ext_words.proofs.words.command_in.Goals as goal

pub returns-in-Some-clause-command : goal.returns-in-Some-clause-command
returns-in-Some-clause-command c =
    let found = matches-are c.args.matches.now c.in-Some.name.now (rows_of (found_of c.in-Some.inner.now)) c.in-Some.ensures.name c.in-Some.ensures.rows in
    IfOk-weaker c.command_named.result _ _ (λ command is. is ∙ sym (ap command_in found)) c.command_named.ensures.command
