use Rattle.std.proofs.Common.{◌≡◌, ◌<◌, refl, length, to_z, of_z, w32, ◌∙◌, arith}
use Rattle.std.proofs.lemmas.Int.{ints}
use Rattle.f2_vec.specs.Spans.{row}
use Rattle.free_module.specs.LinearMap.{map_rows}
use Rattle.free_module.proofs.MapRows.{mapped_through, mapped_through-one, mapped_through-row, mapped_through-over, mapped_through-end}
use Rattle.free_hom.proofs.hom.Hom.apply.Goals as goal

pub xor_with-requires : goal.xor_with-requires
xor_with-requires g c =
    let target = g.T.Target.graded c.args.self.now.target.now in
    let source = c.args.self.now.source.now in
    let images = c.args.self.now.images.now in
    let keeps = g.met.T.Target.keeps_widths c.args.self.now.target.now in
    let are = c.args.self.now.are_images in
    let t = c.args.t in
    let v = c.args.v.now in
    let tt : to_z w32 (of_z w32 t) ≡ t = omega (arith, ints) in
    let i = c.in-Some.i in
    let l : i < length v = c.in-Some.ensures.within in
    let inv : c.loop-i.sum ≡ mapped_through target source images t v c.loop-i.from = simp tt at c.loop-i.invariant.sum in
    let over : c.loop-i.sum ≡ mapped_through target source images t v i = mapped_through-over target source images t v c.loop-i.from i c.loop-i.sum keeps are c.requires.width l c.in-Some.ensures.next inv in
    let image : c.in_ok-image_of.field-0 ≡ row (map_rows target source images t) i = simp tt at c.in_ok-image_of.ensures in
    mapped_through-row target source images t v i c.loop-i.sum c.in_ok-image_of.field-0 keeps are (omega arith) over image

pub loop-i-preserved : goal.loop-i-preserved
loop-i-preserved g c =
    let target = g.T.Target.graded c.args.self.now.target.now in
    let source = c.args.self.now.source.now in
    let images = c.args.self.now.images.now in
    let keeps = g.met.T.Target.keeps_widths c.args.self.now.target.now in
    let are = c.args.self.now.are_images in
    let t = c.args.t in
    let v = c.args.v.now in
    let tt : to_z w32 (of_z w32 t) ≡ t = omega (arith, ints) in
    let i = c.in-Some.i in
    let l : i < length v = c.in-Some.ensures.within in
    let inv : c.loop-i.sum ≡ mapped_through target source images t v c.loop-i.from = simp tt at c.loop-i.invariant.sum in
    let over : c.loop-i.sum ≡ mapped_through target source images t v i = mapped_through-over target source images t v c.loop-i.from i c.loop-i.sum keeps are c.requires.width l c.in-Some.ensures.next inv in
    let image : c.in_ok-image_of.field-0 ≡ row (map_rows target source images t) i = simp tt at c.in_ok-image_of.ensures in
    record {
      reached = omega arith;
      sum = simp tt (c.xor_with.ensures ∙ mapped_through-one target source images t v i c.loop-i.sum c.in_ok-image_of.field-0 keeps are c.requires.width l c.in-Some.ensures.next.one over image);
    }

pub returns : goal.returns
returns g c =
    let target = g.T.Target.graded c.args.self.now.target.now in
    let source = c.args.self.now.source.now in
    let images = c.args.self.now.images.now in
    let keeps = g.met.T.Target.keeps_widths c.args.self.now.target.now in
    let are = c.args.self.now.are_images in
    let t = c.args.t in
    let v = c.args.v.now in
    let tt : to_z w32 (of_z w32 t) ≡ t = omega (arith, ints) in
    let inv : c.loop-i.sum ≡ mapped_through target source images t v c.loop-i.from = simp tt at c.loop-i.invariant.sum in
    mapped_through-end target source images t v c.loop-i.from c.loop-i.sum keeps are c.requires.width c.loop-i.invariant.reached (c.in_default-next_one.ensures.none.0 refl) inv
