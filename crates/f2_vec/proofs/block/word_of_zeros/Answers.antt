use Rattle.std.proofs.Common.{◌*◌, ◌%◌, ◌^◌, ◌<◌, arith}
use Rattle.std.proofs.lemmas.Nat.{one_shl}
use Rattle.f2_vec.proofs.Blocks.{power_within, bit_of_zeros}
use Rattle.f2_vec.proofs.block.word_of_zeros.Goals as goal

pub overflow_shl-result : goal.overflow_shl-result
overflow_shl-result c =
    let e = one_shl c.args.s 64 (omega arith) in
    let a : 2 ^ c.args.s < 64 = power_within c.args.s c.requires.digit in
    omega arith

pub returns : goal.returns
returns c = λ b l. bit_of_zeros c.args.block.now c.args.k c.args.s (1 * 2 ^ c.args.s % 2 ^ 64) c.args.mask b (one_shl c.args.s 64 (omega arith)) c.requires.digit l c.requires.mask
