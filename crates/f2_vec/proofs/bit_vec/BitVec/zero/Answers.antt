use Rattle.std.proofs.Common.{ap, ◌∙◌}
use Rattle.f2_vec.specs.Inside.Packed.{unit_bits}
use Rattle.f2_vec.proofs.Packed.{HasRoom-ceil, unit_bits-zeros}
use Rattle.f2_vec.proofs.bit_vec.BitVec.zero.Goals as goal

pub invariant_of-result : goal.invariant_of-result
invariant_of-result c =
    HasRoom-ceil c.args.n c.div_ceil.result c.in_ok-vec.field-0.items (c.in_ok-vec.ensures.items_if_clones_equal (λ y h. h)) c.div_ceil.ensures

pub returns : goal.returns
returns c =
    ap (unit_bits 64 c.args.n) (c.in_ok-vec.ensures.items_if_clones_equal (λ y h. h)) ∙ unit_bits-zeros c.args.n c.div_ceil.result
