use Rattle.std.proofs.Common.{◌∙◌, map, ap, arith}
use Rattle.std.proofs.lemmas.List.{take_all}
use Rattle.std.specs.Prelude.{string_bytes}
use Rattle.ext_program.proofs.Texts.{texts-more}
use Rattle.ext_program.proofs.words.Goals as goal

pub loop-argument-preserved : goal.loop-argument-preserved
loop-argument-preserved c =
    texts-more string_bytes c.args.arguments.now c.loop-argument.words.items _ c.loop-argument.argument-index c.argument-item.result _ (omega arith) c.loop-argument.invariant (c.as_str.ensures.value ∙ ap string_bytes c.argument-item.is) c.in_ok-push.ensures.items

pub returns : goal.returns
returns c = c.loop-argument.invariant ∙ ap (map string_bytes) (take_all c.loop-argument.argument-index c.args.arguments.now (omega arith))
