use Rattle.std.proofs.Common.{arith}
use Rattle.std.specs.Option.{option_map}
use Rattle.save_file.specs.Inside.Outline.{Packed, packed_of, pair_of}
use Rattle.save_file.proofs.Outlines.{too_short, whole_from, part_from, outline_found}
use Rattle.save_file.proofs.outline.parts_of.Goals as goal

pub returns-in_err-kernel : goal.returns-in_err-kernel
returns-in_err-kernel c =
    let i = c.in_ok-images.images in
    rw c.from_residual-in_err-kernel.ensures (too_short c.args.body.now (packed_of i) c.in_ok-images.ensures.0 c.in_ok-images.ensures.1 c.in_err-kernel.ensures)

pub returns-in_err-quasi : goal.returns-in_err-quasi
returns-in_err-quasi c =
    let i : Packed = packed_of c.in_ok-images.images in
    let k : Packed = packed_of c.in_ok-kernel.kernel in
    rw c.from_residual-in_err-quasi.ensures (λ whole. c.in_err-quasi.ensures (part_from c.args.body.now i c.in_ok-images.ensures.0 c.in_ok-images.ensures.1 k c.in_ok-kernel.ensures.0 c.in_ok-kernel.ensures.1 _ (omega arith) whole))

pub returns : goal.returns
returns c =
    let i : Packed = packed_of c.in_ok-images.images in
    let k : Packed = packed_of c.in_ok-kernel.kernel in
    let q = option_map pair_of c.in_ok-quasi.quasi in (
      whole_from c.args.body.now i c.in_ok-images.ensures.0 c.in_ok-images.ensures.1 k c.in_ok-kernel.ensures.0 c.in_ok-kernel.ensures.1 _ (omega arith) c.in_ok-quasi.ensures.0,
      outline_found c.args.body.now i c.in_ok-images.ensures.0 c.in_ok-images.ensures.1 k c.in_ok-kernel.ensures.0 c.in_ok-kernel.ensures.1 _ (omega arith) c.u16_at.result c.u16_at-2.result q c.u16_at.ensures c.u16_at-2.ensures c.in_ok-quasi.ensures.1,
    )
