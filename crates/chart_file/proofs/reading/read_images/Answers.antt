use Rattle.std.proofs.Common.{◌+◌, ◌++◌, ℕ, Bool, List, length, take, drop, Err, ap, sym, subst, ◌∙◌, arith}
use Rattle.std.specs.List.{flat_map}
use Rattle.std.proofs.lemmas.List.{take-append-drop}
use Rattle.f2_vec.specs.Bytes.{packed}
use Rattle.chart_file.proofs.Squares.{AreReadTo, one_more_read, next_image, next_image_long, next_image_is}
use Rattle.chart_file.proofs.reading.read_images.Goals as goal

pub loop-preserved : goal.loop-preserved
loop-preserved c =
    let n = c.args.width in
    let count = c.args.count in
    let rest = c.loop.rest.now in
    let bytes = c.args.bytes.now in
    let len = c.div_ceil-len.result in
    let more = one_more_read n count c.loop.counter c.loop.images.items rest bytes c.in-Ok.image len c.loop.invariant c.loop-test.true c.in-Ok.ensures.len (c.in-Ok.ensures.bytes ∙ c.split_at.ensures.front) in
    let P : List (List Bool) → Type 0 = λ images. AreReadTo n count (c.loop.counter + 1) images (drop len rest) bytes in
    let Q : List ℕ → Type 0 = λ behind. AreReadTo n count (c.loop.counter + 1) c.push.new.self.items behind bytes in
    subst Q (sym c.split_at.ensures.back) (subst P (sym c.in_ok-push-in-Ok.ensures.items) more)

pub returns-then-rest-len-clause-none : goal.returns-then-rest-len-clause-none
returns-then-rest-len-clause-none c =
    let n = c.args.width in
    let h = c.loop.invariant in
    let many = h.many in
    let len = c.div_ceil-len.ensures in
    λ other all q wide count e.
    let next = next_image n c.loop.images.items all c.loop.rest.now q c.args.bytes.now h.widths wide h.parts e (omega arith) in
    let long = next_image_long n c.loop.rest.now next in
    omega arith

pub returns-then-rest-len-clause-wrong : goal.returns-then-rest-len-clause-wrong
returns-then-rest-len-clause-wrong c =
    let h = c.loop.invariant in
    let many = h.many in
    let len = c.div_ceil-len.ensures in
    (c.loop.images.items, c.loop.rest.now, h.parts, omega arith, omega arith)

pub returns-in-Err-SpareBits-clause-none : goal.returns-in-Err-SpareBits-clause-none
returns-in-Err-SpareBits-clause-none c =
    let n = c.args.width in
    let rest = c.loop.rest.now in
    let h = c.loop.invariant in
    let many = h.many in
    let front = c.split_at.ensures.front ∙ ap (λ k. take k rest) c.div_ceil-len.ensures in
    let spare = (c.in-Err-SpareBits.ensures.spare_bits.0 (ap (λ f. Err f) c.in-Err-SpareBits.field-0-is)).1 in
    λ other all q wide count e.
    let next = next_image n c.loop.images.items all rest q c.args.bytes.now h.widths wide h.parts e (omega arith) in
    spare (record { vector = next.word; length_of = next.is; bytes_of = next_image_is n rest next ∙ sym front })

pub returns-in-Err-SpareBits-clause-wrong : goal.returns-in-Err-SpareBits-clause-wrong
returns-in-Err-SpareBits-clause-wrong c =
    let h = c.loop.invariant in
    let many = h.many in
    let wrong = c.in-Err-SpareBits.ensures.spare_bits.0 (ap (λ f. Err f) c.in-Err-SpareBits.field-0-is) in (
      c.loop.images.items,
      take c.div_ceil-len.result c.loop.rest.now,
      drop c.div_ceil-len.result c.loop.rest.now,
      ap (λ (b : List ℕ). flat_map packed c.loop.images.items ++ b) (take-append-drop c.div_ceil-len.result c.loop.rest.now) ∙ h.parts,
      omega arith,
      ap (λ (b : List ℕ). length b) (sym c.split_at.ensures.front) ∙ wrong.0,
      λ v is same. wrong.1 (record { vector = v; length_of = is; bytes_of = same ∙ sym c.split_at.ensures.front }),
    )
