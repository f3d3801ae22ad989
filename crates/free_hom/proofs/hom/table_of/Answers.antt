use Rattle.std.proofs.Common.{◌≡◌, length, refl, subst, arith}
use Rattle.free_hom.specs.Inside.Tables.{IsTableOf}
use Rattle.free_hom.proofs.Columns.{IsTableOf-more, IsTableOf-start}
use Rattle.free_hom.proofs.hom.table_of.Goals as goal

pub loop-i-init : goal.loop-i-init
loop-i-init c = IsTableOf-start c.args.n c.args.places.now c.in_ok-table.table.items (c.in_ok-table.ensures.items_if_clones_equal (λ y h. grind arith))

pub loop-i-preserved : goal.loop-i-preserved
loop-i-preserved c =
    let i = c.loop-i.i in
    IsTableOf-more i c.args.n _ c.args.places.now c.loop-i.table.items c.loop-i-test.true refl (c.requires.within i c.loop-i-test.true) c.requires.apart c.loop-i.invariant

pub returns : goal.returns
returns c =
    let done : c.loop-i.i ≡ length c.args.places.now = omega (arith, c.loop-i-test.false, c.loop-i.auto.i-end) in
    subst (λ k. IsTableOf k c.args.n c.args.places.now c.loop-i.table.items) done c.loop-i.invariant
