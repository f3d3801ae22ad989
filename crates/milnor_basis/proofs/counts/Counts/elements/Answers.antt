use Rattle.std.proofs.Common.{◌≡◌, ◌≤◌, sym, ◌∙◌, arith}
use Rattle.milnor_basis.proofs.Counting.{count_small}
use Rattle.milnor_basis.proofs.PlacesLeft.{all_of_nine}
use Rattle.milnor_basis.proofs.counts.Counts.elements.Goals as goal

pub returns : goal.returns
returns c =
    let small : c.args.n ≤ 255 = (let most = c.self.invariant.0 in let same : c.self.inside.max ≡ c.args.self.now = c.self.view_is in omega (arith, c.requires)) in
    c.of.ensures ∙ sym (count_small 8 c.args.n (omega arith)) ∙ all_of_nine c.args.n small
