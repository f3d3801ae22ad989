use Rattle.f2_vec.proofs.Blocks.{mask_of_5, mask_of_4, mask_of_3, mask_of_2, mask_of_1, mask_of_0, none_exchanged, one_more_exchanged, all_exchanged}
use Rattle.std.proofs.Common.{arith}
use Rattle.f2_vec.proofs.block.transposed_block.Goals as goal

pub exchanged-halves-requires-clause-mask : goal.exchanged-halves-requires-clause-mask
exchanged-halves-requires-clause-mask c = mask_of_5

pub exchanged-quarters-requires-clause-mask : goal.exchanged-quarters-requires-clause-mask
exchanged-quarters-requires-clause-mask c = mask_of_4

pub exchanged-bytes-requires-clause-mask : goal.exchanged-bytes-requires-clause-mask
exchanged-bytes-requires-clause-mask c = mask_of_3

pub exchanged-nibbles-requires-clause-mask : goal.exchanged-nibbles-requires-clause-mask
exchanged-nibbles-requires-clause-mask c = mask_of_2

pub exchanged-pairs-requires-clause-mask : goal.exchanged-pairs-requires-clause-mask
exchanged-pairs-requires-clause-mask c = mask_of_1

pub exchanged-requires-clause-mask : goal.exchanged-requires-clause-mask
exchanged-requires-clause-mask c = mask_of_0

pub returns : goal.returns
returns c =
    let first = c.args.block.now in
    let halves = c.exchanged-halves.result in
    let quarters = c.exchanged-quarters.result in
    let bytes = c.exchanged-bytes.result in
    let nibbles = c.exchanged-nibbles.result in
    let pairs = c.exchanged-pairs.result in
    let from_5 = one_more_exchanged 5 first first halves (omega arith) c.exchanged-halves.ensures (none_exchanged first) in
    let from_4 = one_more_exchanged 4 first halves quarters (omega arith) c.exchanged-quarters.ensures from_5 in
    let from_3 = one_more_exchanged 3 first quarters bytes (omega arith) c.exchanged-bytes.ensures from_4 in
    let from_2 = one_more_exchanged 2 first bytes nibbles (omega arith) c.exchanged-nibbles.ensures from_3 in
    let from_1 = one_more_exchanged 1 first nibbles pairs (omega arith) c.exchanged-pairs.ensures from_2 in
    all_exchanged first c.exchanged.result (one_more_exchanged 0 first pairs c.exchanged.result (omega arith) c.exchanged.ensures from_1)
