use Rattle.std.proofs.Common.{lit<, ap, ◌∙◌}
use Rattle.std.proofs.lemmas.Iterator.{items_from_drains}
use Rattle.std.proofs.lemmas.Iterator.Splits.{YieldsList-from_str_split}
use Rattle.ext_words.specs.Words.{texts_of}
use Rattle.ext_words.proofs.numbers.between_commas.Goals as goal

pub returns : goal.returns
returns c =
    let ran = c.in_ok-collect.ensures.ran in
    ap texts_of ran.2.0 ∙ items_from_drains ran.0 ran.1 (YieldsList-from_str_split 44 c.args.word.now (lit< tt) c.split.ensures.text c.split.ensures.has_more c.split.ensures.pattern)
