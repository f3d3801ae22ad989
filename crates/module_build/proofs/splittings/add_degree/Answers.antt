use Rattle.std.proofs.Common.{◌≡◌, ◌<◌, length, get_or, refl, ap, ◌∙◌, arith}
use Rattle.milnor_basis.specs.Basis.{basis_of}
use Rattle.module_build.proofs.SplittingLists.{left_none, left_more, left_all}
use Rattle.module_build.proofs.splittings.add_degree.Goals as goal

pub loop-left-init : goal.loop-left-init
loop-left-init c = record { sums = left_none c.args.r.now c.args.n c.args.splittings.now.items c.args.splittings.now.items refl; each = λ h. h }

pub loop-left-preserved : goal.loop-left-preserved
loop-left-preserved c =
    let here = c.left-item.is ∙ ap (λ xs. get_or xs c.loop-left.left-index c.left-item.result) c.of_degree-left-items.ensures in
    let within : c.loop-left.left-index < length (basis_of c.args.n) = omega (arith, ap length c.of_degree-left-items.ensures) in
    record {
      sums = left_more c.args.r.now c.args.n c.loop-left.left-index c.left-item.result c.args.splittings.now.items c.loop-left.splittings.items c.add_left.new.splittings.items within here c.loop-left.invariant.sums c.in_ok-add_left.ensures.sums;
      each = λ h. c.in_ok-add_left.ensures.each (c.loop-left.invariant.each h);
    }

pub returns-clause-sums : goal.returns-clause-sums
returns-clause-sums c = left_all c.args.r.now c.args.n c.loop-left.left-index c.args.splittings.now.items c.loop-left.splittings.items (omega (arith, ap length c.of_degree-left-items.ensures)) c.loop-left.invariant.sums

pub returns-clause-each : goal.returns-clause-each
returns-clause-each c = c.loop-left.invariant.each
