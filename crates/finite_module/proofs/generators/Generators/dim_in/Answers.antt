use Rattle.std.proofs.Common.{◌-◌, length, sym, ap, ◌∙◌}
use Rattle.std.proofs.lemmas.Int.{to_z-of_z}
use Rattle.std.proofs.lemmas.List.FromFn.{length-range_with_len}
use Rattle.finite_module.proofs.generators.Generators.dim_in.Goals as goal

pub returns : goal.returns
returns c =
    let fits = c.ranges.t in
    let here = simp to_z-of_z at c.within-here.ensures.generators in
    sym (ap length here ∙ length-range_with_len c.within-here.result.start (c.within-here.result.end - c.within-here.result.start))
