use Rattle.std.proofs.Common.{sym}
use Rattle.clap.specs.Words.{found_of, rows_of}
use Rattle.ext_words.proofs.CommandNames.{other-name}
use Rattle.ext_words.proofs.words.command_named.Goals as goal

pub returns-in_default-clause-command : goal.returns-in_default-clause-command
returns-in_default-clause-command c = sym (other-name c.args.name.now (rows_of (found_of c.args.matches.now)) (assumption c.in_default))
