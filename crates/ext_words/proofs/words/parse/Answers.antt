use Rattle.std.specs.Prelude.{Option, Some, None, IfSome, IfOk}
use Rattle.std.specs.Option.{ok_or}
use Rattle.ext_words.specs.declared.command.Command.{Command}
use Rattle.ext_words.specs.declared.command.WordsFault.{WordsFault}
use Rattle.ext_words.specs.Words.{IsWithinLimits}
use Rattle.ext_words.proofs.words.parse.Goals as goal

ok-within : (command : Option Command) (fault : WordsFault) → IfSome command IsWithinLimits → IfOk (ok_or command fault) IsWithinLimits
ok-within None fault h = tt
ok-within (Some command) fault h = h

pub returns-clause-within : goal.returns-clause-within
returns-clause-within c = rw c.ok_or.ensures.value (ok-within _ _ c.in_ok-command_of.ensures.within)
