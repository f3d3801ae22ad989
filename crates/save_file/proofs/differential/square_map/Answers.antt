use Rattle.std.proofs.Common.{ℤ, w32, to_z, of_z, sym, ◌∙◌, ap, subst, arith}
use Rattle.std.specs.Arc.{arc_value}
use Rattle.std.proofs.lemmas.Int.{to_z-of_z}
use Rattle.f2_matrix.specs.Reduction.{Rows}
use Rattle.free_module.specs.LinearMap.{map_rows}
use Rattle.square.specs.Below.{graded_of, reaches_of}
use Rattle.square.specs.Squares.{Placed}
use Rattle.square.specs.Tables.{IsMatrixAt}
use Rattle.save_file.proofs.There.{AreLentAt, images_fit_there, reach_there, matrix_there, IsThere, is_there}
use Rattle.save_file.proofs.differential.square_map.Goals as goal

pub below-requires-clause-there : goal.below-requires-clause-there
below-requires-clause-there c =
    let now = c.args.table.now in
    let q = arc_value c.in-Some.square.now in
    let h = c.at.ensures.is_table in
    let k = c.above-above.result in
    let t = to_z w32 (of_z w32 c.args.t) in
    let place : IsThere now c.args.s k t = is_there now h c.args.s k t q (sym c.in-Some.ensures.square) (c.above-above.ensures.above ∙ ap (λ (x : Placed). x.above) c.deref.ensures) in
    place.below

pub generators-requires : goal.generators-requires
generators-requires c =
    let now = c.args.table.now in
    let q = arc_value c.in-Some.square.now in
    let h = c.at.ensures.is_table in
    let k = c.above-above.result in
    let t = to_z w32 (of_z w32 c.args.t) in
    let place : IsThere now c.args.s k t = is_there now h c.args.s k t q (sym c.in-Some.ensures.square) (c.above-above.ensures.above ∙ ap (λ (x : Placed). x.above) c.deref.ensures) in
    let there = place.there in
    omega arith

pub images-requires : goal.images-requires
images-requires c =
    let now = c.args.table.now in
    let q = arc_value c.in-Some.square.now in
    let h = c.at.ensures.is_table in
    let k = c.above-above.result in
    let t = to_z w32 (of_z w32 c.args.t) in
    let place : IsThere now c.args.s k t = is_there now h c.args.s k t q (sym c.in-Some.ensures.square) (c.above-above.ensures.above ∙ ap (λ (x : Placed). x.above) c.deref.ensures) in
    let there = place.there in
    omega arith

pub invariant_of-result : goal.invariant_of-result
invariant_of-result c =
    let now = c.args.table.now in
    let q = arc_value c.in-Some.square.now in
    let h = c.at.ensures.is_table in
    let k = c.above-above.result in
    let t = to_z w32 (of_z w32 c.args.t) in
    let place : IsThere now c.args.s k t = is_there now h c.args.s k t q (sym c.in-Some.ensures.square) (c.above-above.ensures.above ∙ ap (λ (x : Placed). x.above) c.deref.ensures) in
    let lent : AreLentAt now c.args.s k (graded_of c.in_ok-target.target) c.in_ok-gens.gens c.in_ok-images.images.items = record {
      there = place.there;
      target_is = c.in_ok-target.ensures.graded;
      gens_are = c.in_ok-gens.ensures;
      images_are = c.in_ok-images.ensures;
    } in
    let max = c.in_ok-basis.basis.now in
    record {
      are_images = images_fit_there now h c.args.s k (graded_of c.in_ok-target.target) c.in_ok-gens.gens c.in_ok-images.images.items lent;
      source_reaches = reach_there now h c.args.s k (graded_of c.in_ok-target.target) c.in_ok-gens.gens c.in_ok-images.images.items lent max t place.degree c.in_ok-basis.ensures.reaches;
      target_reaches = subst (λ (x : ℤ). reaches_of c.in_ok-target.target max x) (sym place.degree) (c.in_ok-target.ensures.reaches max k c.in_ok-basis.ensures.reaches);
    }

pub returns : goal.returns
returns c =
    let now = c.args.table.now in
    let q = arc_value c.in-Some.square.now in
    let h = c.at.ensures.is_table in
    let k = c.above-above.result in
    let t = to_z w32 (of_z w32 c.args.t) in
    let place : IsThere now c.args.s k t = is_there now h c.args.s k t q (sym c.in-Some.ensures.square) (c.above-above.ensures.above ∙ ap (λ (x : Placed). x.above) c.deref.ensures) in
    let lent : AreLentAt now c.args.s k (graded_of c.in_ok-target.target) c.in_ok-gens.gens c.in_ok-images.images.items = record {
      there = place.there;
      target_is = c.in_ok-target.ensures.graded;
      gens_are = c.in_ok-gens.ensures;
      images_are = c.in_ok-images.ensures;
    } in
    let target = graded_of c.in_ok-target.target in
    let matrix : Rows = record { cols = target.width t; rows = map_rows target c.in_ok-gens.gens c.in_ok-images.images.items t } in
    subst (λ x. IsMatrixAt now c.args.s x matrix) (to_z-of_z w32 c.args.t c.ranges.t) (matrix_there now h c.args.s k target c.in_ok-gens.gens c.in_ok-images.images.items lent t place.degree)
