use Rattle.std.proofs.Common.{◌+◌, ℕ, Bool, List, take, drop, Err, ap, sym, subst, ◌∙◌, arith}
use Rattle.f2_vec.specs.Bytes.{ArePacked}
use Rattle.save_file.specs.Inside.Outline.{Packed, packed_of}
use Rattle.save_file.specs.Reading.{packed_len}
use Rattle.save_file.proofs.RowByRow.{AreUnpackedTo, row_left, one_more_unpacked, next_packed}
use Rattle.save_file.proofs.rows.unpack.Goals as goal

pub split_at-requires : goal.split_at-requires
split_at-requires c =
    let p = c.args.packed.now in
    let here : Packed = packed_of p in
    let left = row_left here c.loop.counter c.loop.rows.items c.loop.rest.now c.loop.invariant c.loop-test.true in
    omega (arith, c.div_ceil-len.ensures)

pub loop-preserved : goal.loop-preserved
loop-preserved c =
    let p = c.args.packed.now in
    let here : Packed = packed_of p in
    let rest = c.loop.rest.now in
    let v = c.in-Ok.row in
    let front = c.split_at.ensures.front ∙ ap (λ n. take n rest) c.div_ceil-len.ensures in
    let back = c.split_at.ensures.back ∙ ap (λ n. drop n rest) c.div_ceil-len.ensures in
    let more = one_more_unpacked here c.loop.counter c.loop.rows.items rest v c.loop.invariant c.loop-test.true c.in-Ok.ensures.len (c.in-Ok.ensures.bytes ∙ front) in
    let P : List (List Bool) → Type 0 = λ rows. AreUnpackedTo here (c.loop.counter + 1) rows (drop (packed_len p.cols) rest) in
    let Q : List ℕ → Type 0 = λ bytes. AreUnpackedTo here (c.loop.counter + 1) c.push.new.self.items bytes in
    subst Q (sym back) (subst P (sym c.in_ok-push-in-Ok.ensures.items) more)

pub returns-in-Err-SpareBits : goal.returns-in-Err-SpareBits
returns-in-Err-SpareBits c =
    let p = c.args.packed.now in
    let here : Packed = packed_of p in
    let rest = c.loop.rest.now in
    let front = c.split_at.ensures.front ∙ ap (λ n. take n rest) c.div_ceil-len.ensures in
    let spare = (c.in-Err-SpareBits.ensures.spare_bits.0 (ap (λ f. Err f) c.in-Err-SpareBits.field-0-is)).1 in
    λ rows are. spare (subst (ArePacked p.cols) (sym front) (next_packed here c.loop.counter c.loop.rows.items rest rows c.loop.invariant c.loop-test.true are))
