use Rattle.std.proofs.Common.{ap, sym, ◌∙◌}
use Rattle.std.proofs.lemmas.Iterator.{items_from_drains}
use Rattle.std.proofs.lemmas.Iterator.Adapters.{YieldsList-from_vec, YieldsList-from_skip}
use Rattle.std.proofs.lemmas.List.{map-id}
use Rattle.std.specs.Vec.Iter.{into_iter_items, into_iter_len}
use Rattle.ext_program.proofs.behind_first.Goals as goal

-- what is collected is what is left of the arguments behind the first
pub returns : goal.returns
returns c =
    let ran = c.in_ok-collect.ensures.ran in
    let source = c.skip.ensures.source in
    let all = YieldsList-from_vec (into_iter_items c.args.all) (ap into_iter_items source) (ap into_iter_len source ∙ c.args.all.rest.ok.0) in
    ran.2.0 ∙ sym (map-id ran.0) ∙ items_from_drains ran.0 ran.1 (YieldsList-from_skip 1 all c.skip.ensures.count)
