use Rattle.std.proofs.Common.{◌*◌, ◌%◌, ◌^◌, ◌<◌, arith}
use Rattle.std.proofs.lemmas.Nat.{one_shl}
use Rattle.f2_vec.proofs.Blocks.{power_within, bit_of_ones}
use Rattle.f2_vec.proofs.block.word_of_ones.Goals as goal

pub overflow_shr-result : goal.overflow_shr-result
overflow_shr-result c =
    let e = one_shl c.args.s 64 (omega arith) in
    let a : 2 ^ c.args.s < 64 = power_within c.args.s c.requires.digit in
    omega arith

pub returns : goal.returns
returns c = λ b l. bit_of_ones c.args.block.now c.args.k c.args.s (1 * 2 ^ c.args.s % 2 ^ 64) c.args.mask b (one_shl c.args.s 64 (omega arith)) c.ranges.mask.fits l c.requires.mask
