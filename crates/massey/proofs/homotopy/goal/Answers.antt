use Rattle.std.proofs.Common.{◌≡◌, Bool, ℤ, List, length, ap, sym, ◌∙◌, w32, to_z, of_z}
use Rattle.std.proofs.lemmas.Int.{to_z-of_z}
use Rattle.f2_vec.proofs.Spans.{length-combination}
use Rattle.f2_vec.proofs.Sums.{length-sum_of}
use Rattle.free_module.specs.FreeModule.{free_width}
use Rattle.free_module.specs.Graded.{free_graded}
use Rattle.free_module.specs.LinearMap.{AreImages, map_rows, mapped}
use Rattle.free_module.proofs.MapRows.{HaveWidth-map_rows}
use Rattle.milnor_laws.proofs.FreeModules.{free_modules_are_modules}
use Rattle.massey.proofs.homotopy.goal.Goals as goal

length-mapped : (source target : List ℤ) (images : List (List Bool)) (t : ℤ) (v : List Bool) → AreImages (free_graded target) source images → length (mapped (free_graded target) source images t v) ≡ free_width target t
length-mapped source target images t v are = length-combination (free_width target t) v (map_rows (free_graded target) source images t) (HaveWidth-map_rows (free_graded target) source images t (free_modules_are_modules target).widths are)

pub xor_with-requires : goal.xor_with-requires
xor_with-requires c =
    let beta = c.args.beta.now in
    let map = c.args.map.now in
    let t = to_z w32 (of_z w32 c.args.u) in
    ap length c.in_ok-goal.ensures
    ∙ (length-mapped beta.source.now beta.target.now beta.images.now t c.args.gamma.now beta.are_images
    ∙ (ap (λ (z : List ℤ). free_width z t) c.requires.one_target
    ∙ sym (ap length c.in_ok-rest.ensures ∙ length-mapped map.source.now map.target.now map.images.now t c.args.image.now map.are_images)))

pub returns-clause-length : goal.returns-clause-length
returns-clause-length c =
    let beta = c.args.beta.now in
    let map = c.args.map.now in
    let t = to_z w32 (of_z w32 c.args.u) in
    let first : length c.in_ok-goal.goal ≡ free_width map.target.now t = ap length c.in_ok-goal.ensures ∙ (length-mapped beta.source.now beta.target.now beta.images.now t c.args.gamma.now beta.are_images ∙ ap (λ (z : List ℤ). free_width z t) c.requires.one_target) in
    let second : length c.in_ok-rest.rest ≡ free_width map.target.now t = ap length c.in_ok-rest.ensures ∙ length-mapped map.source.now map.target.now map.images.now t c.args.image.now map.are_images in
    ap length c.xor_with.ensures
    ∙ (length-sum_of c.in_ok-goal.goal c.in_ok-rest.rest (first ∙ sym second)
    ∙ (first ∙ ap (free_width map.target.now) (to_z-of_z w32 c.args.u (record { sfits = c.ranges.u.sfits }))))
