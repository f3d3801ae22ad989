use Rattle.std.proofs.Common.{◌∙◌}
use Rattle.clap.specs.Words.{found_of}
use Rattle.ext_words.proofs.ClapUses.{matched-has}
use Rattle.ext_words.proofs.words.has_flag.Goals as goal

pub returns : goal.returns
returns c = c.contains_id.ensures ∙ matched-has (found_of c.args.matches.now) c.args.name.now
