use Rattle.std.specs.Int.{w64, to_le_bytes}
use Rattle.std.proofs.Common.{◌≡◌, ◌+◌, ◌*◌, ◌/◌, ◌%◌, take, length, slice_index_or, refl, ap, ◌∙◌, arith, subst}
use Rattle.std.proofs.lemmas.List.{length-take-le}
use Rattle.f2_vec.proofs.ByteWords.{AreBytesUpTo, bytes_more}
use Rattle.f2_vec.proofs.packing.write_bytes.Goals as goal

pub loop-i-init : goal.loop-i-init
loop-i-init c = record { same = λ k h. absurd (omega arith) }

pub loop-i-preserved : goal.loop-i-preserved
loop-i-preserved c =
    let us = c.args.words.now in
    let i = c.loop-i.i in
    let ys = c.copy_from_slice.new.self in
    let e : ys ≡ to_le_bytes w64 (slice_index_or us i 0) = c.copy_from_slice.ensures.after ∙ c.to_le_bytes.ensures in
    bytes_more i 8 (8 * (i + 1)) (slice_index_or us i 0) us c.loop-i.bytes ys _ refl e (ap length e) (omega arith) (omega (arith, c.loop-i-test.true, c.loop-i.auto.bytes)) (omega arith) c.loop-i.invariant

pub returns-then-rest-gt0-clause-bits : goal.returns-then-rest-gt0-clause-bits
returns-then-rest-gt0-clause-bits c =
    let us = c.args.words.now in
    let n = length c.args.bytes.now in
    let i = n / 8 in
    let j = length c.loop-i.bytes % 8 in
    let ys = c.copy_from_slice-then-rest-gt0.new.self in
    let x = slice_index_or us i 0 in
    let done : c.loop-i.i ≡ i = omega (arith, c.loop-i-test.false, c.loop-i.auto.i-end) in
    let e : ys ≡ take j (to_le_bytes w64 x) = c.copy_from_slice-then-rest-gt0.ensures.after ∙ ap (take j) c.to_le_bytes-then-rest-gt0.ensures in
    let s = bytes_more i j n x us c.loop-i.bytes ys _ refl e (ap length e ∙ length-take-le j (to_le_bytes w64 x) (omega arith)) (omega arith) (omega (arith, c.loop-i.auto.bytes)) (omega arith) (subst (λ m. AreBytesUpTo (8 * m) us c.loop-i.bytes) done c.loop-i.invariant) in
    s.same

pub returns-else-rest-gt0-clause-bits : goal.returns-else-rest-gt0-clause-bits
returns-else-rest-gt0-clause-bits c = λ k h. c.loop-i.invariant.same k (omega (arith, c.loop-i-test.false, c.if-rest-gt0.false))
