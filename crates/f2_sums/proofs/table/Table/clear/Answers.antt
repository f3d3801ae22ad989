use Rattle.std.proofs.Common.{map, ap, ◌∙◌}
use Rattle.std.proofs.lemmas.List.{length-map}
use Rattle.f2_vec.specs.Vectors.{sum_of, bit}
use Rattle.f2_sums.proofs.table.Table.clear.Goals as goal

pub returns : goal.returns
returns c =
    let v = c.args.vector.now in
    let ps = c.args.places.now in
    c.xor_with.ensures ∙ ap (sum_of v) (c.sum.ensures.sum (map (bit v) ps) (length-map ps (bit v) ∙ c.requires.one_each) c.number_at-number.ensures.number)
