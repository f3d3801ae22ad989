use Rattle.std.proofs.Common.{◌≡◌, ◌<◌, [], length, sym, ap, subst, ◌∙◌, arith, inl, inr}
use Rattle.std.proofs.lemmas.Bool.{cases_eq, false≢true, iff_false}
use Rattle.std.proofs.lemmas.List.{get_or_read}
use Rattle.f2_vec.specs.Vectors.{sum_of}
use Rattle.f2_vec.specs.Spans.{row}
use Rattle.f2_vec.proofs.Sums.{length-zeros, sum_of-zeros_left}
use Rattle.f2_kernel.specs.Inside.Split.{IsSplit}
use Rattle.f2_kernel.proofs.Numbers.{numbers_are}
use Rattle.f2_kernel.proofs.Split.{AreLeft, left_of, none_left, split_leaves_none}
use Rattle.f2_kernel.proofs.parts.are_split.Goals as goal
use Rattle.f2_kernel.proofs.parts.are_split.Goals.{then-not-is_zero-via-then-not-is_zero, then-not-is_zero-via-else-not-is_zero+then-not-is_zero-2}

pub xor_with-requires : goal.xor_with-requires
xor_with-requires c =
    let n = c.args.matrix.now.cols in
    let rows = c.rows-rows.result.now in
    let j = c.loop-j.j in
    let r = c.index-rows-j.result in
    let here : r ≡ row c.args.matrix.now.rows j = get_or_read rows j r c.loop-j-test.true c.index-rows-j.is [] ∙ ap (λ z. row z j) c.rows-rows.ensures.rows in
    ap length c.loop-j.invariant.rest ∙ length-zeros n ∙ sym (ap length here ∙ c.rows-rows.ensures.widths j (omega (arith, c.loop-j-test.true, ap length c.rows-rows.ensures.rows)))

pub add_at_ones-requires-clause-rows : goal.add_at_ones-requires-clause-rows
add_at_ones-requires-clause-rows c =
    let n = c.args.matrix.now.cols in
    let rows = c.rows-rows.result.now in
    let j = c.loop-j.j in
    let r = c.index-rows-j.result in
    let here : r ≡ row c.args.matrix.now.rows j = get_or_read rows j r c.loop-j-test.true c.index-rows-j.is [] ∙ ap (λ z. row z j) c.rows-rows.ensures.rows in
    let lr : length r ≡ n = ap length here ∙ c.rows-rows.ensures.widths j (omega (arith, c.loop-j-test.true, ap length c.rows-rows.ensures.rows)) in
    let alone : c.xor_with.new.self ≡ r = c.xor_with.ensures ∙ ap (λ z. sum_of z r) c.loop-j.invariant.rest ∙ sum_of-zeros_left n r lr in
    λ i l. c.requires.image i l ∙ sym (ap length alone ∙ lr)

pub returns-then-not-is_zero : goal.returns-then-not-is_zero
returns-then-not-is_zero c =
    let n = c.args.matrix.now.cols in
    let all = c.args.matrix.now.rows in
    let m = length all in
    let image = c.args.image.now in
    let chosen = c.args.chosen.now in
    let kernel = c.args.kernel.now in
    let rows = c.rows-rows.result.now in
    let j = c.loop-j.j in
    let r = c.index-rows-j.result in
    let rest = c.add_at_ones.new.sum in
    let beside = c.flip.new.self in
    let many : length rows ≡ m = ap length c.rows-rows.ensures.rows in
    let l : j < m = omega (arith, c.loop-j-test.true, many) in
    let here : r ≡ row all j = get_or_read rows j r c.loop-j-test.true c.index-rows-j.is [] ∙ ap (λ z. row z j) c.rows-rows.ensures.rows in
    let lr : length r ≡ n = ap length here ∙ c.rows-rows.ensures.widths j l in
    let numbers = numbers_are c.cols.result n image _ c.as_slice-at_image.result.now c.in_ok-numbers.ensures c.cols.ensures c.as_slice-at_image.ensures.value in
    let in_kernel = numbers_are (length rows) m kernel _ c.as_slice-at_kernel.result.now c.in_ok-kernel_numbers.ensures many c.as_slice-at_kernel.ensures.value in
    let left : AreLeft n m j image chosen kernel r rest beside =
    left_of n m j image chosen kernel c.as_slice-at_image.result.now c.as_slice-at_kernel.result.now r c.loop-j.rest c.xor_with.new.self rest c.loop-j.beside c.add_at_ones-in-loop-j.new.sum c.add_at.new.sum beside
    c.requires.image c.requires.chosen c.requires.kernel c.requires.as_many numbers in_kernel l lr c.loop-j.invariant.rest c.loop-j.invariant.beside c.xor_with.ensures
    c.add_at_ones.ensures.sum c.add_at_ones-in-loop-j.ensures.sum c.add_at.ensures.added c.add_at.ensures.none c.add_at.ensures.length c.flip.ensures in (
      λ t. absurd (false≢true t),
      λ split.
          let none = split_leaves_none n m j image chosen kernel r rest beside c.requires.chosen left (subst (IsSplit n m j image chosen kernel) (sym here) (split j l)) in
          absurd (elim c.then-not-is_zero.branch [
            | then-not-is_zero-via-then-not-is_zero w ↦ iff_false c.is_zero.ensures w.if-not-is_zero.true none.0
            | then-not-is_zero-via-else-not-is_zero+then-not-is_zero-2 w ↦ iff_false w.is_zero-else-not-is_zero.ensures w.if-not-is_zero-2.true none.1
          ]),
    )

pub loop-j-preserved : goal.loop-j-preserved
loop-j-preserved c =
    let n = c.args.matrix.now.cols in
    let all = c.args.matrix.now.rows in
    let m = length all in
    let image = c.args.image.now in
    let chosen = c.args.chosen.now in
    let kernel = c.args.kernel.now in
    let rows = c.rows-rows.result.now in
    let j = c.loop-j.j in
    let r = c.index-rows-j.result in
    let rest = c.add_at_ones.new.sum in
    let beside = c.flip.new.self in
    let many : length rows ≡ m = ap length c.rows-rows.ensures.rows in
    let l : j < m = omega (arith, c.loop-j-test.true, many) in
    let here : r ≡ row all j = get_or_read rows j r c.loop-j-test.true c.index-rows-j.is [] ∙ ap (λ z. row z j) c.rows-rows.ensures.rows in
    let lr : length r ≡ n = ap length here ∙ c.rows-rows.ensures.widths j l in
    let numbers = numbers_are c.cols.result n image _ c.as_slice-at_image.result.now c.in_ok-numbers.ensures c.cols.ensures c.as_slice-at_image.ensures.value in
    let in_kernel = numbers_are (length rows) m kernel _ c.as_slice-at_kernel.result.now c.in_ok-kernel_numbers.ensures many c.as_slice-at_kernel.ensures.value in
    let left : AreLeft n m j image chosen kernel r rest beside =
    left_of n m j image chosen kernel c.as_slice-at_image.result.now c.as_slice-at_kernel.result.now r c.loop-j.rest c.xor_with.new.self rest c.loop-j.beside c.add_at_ones-in-loop-j.new.sum c.add_at.new.sum beside
    c.requires.image c.requires.chosen c.requires.kernel c.requires.as_many numbers in_kernel l lr c.loop-j.invariant.rest c.loop-j.invariant.beside c.xor_with.ensures
    c.add_at_ones.ensures.sum c.add_at_ones-in-loop-j.ensures.sum c.add_at.ensures.added c.add_at.ensures.none c.add_at.ensures.length c.flip.ensures in
    let none = none_left n m j image chosen kernel r rest beside c.requires.image c.requires.chosen c.requires.kernel lr left (c.is_zero.ensures.0 c.if-not-is_zero.false) (c.is_zero-else-not-is_zero.ensures.0 c.if-not-is_zero-2.false) in
    record {
      rest = none.0;
      beside = none.1;
      split = λ i k. elim (cases_eq i j) [
        | inl e ↦ subst (λ z. IsSplit n m z image chosen kernel (row all z)) (sym e) (subst (IsSplit n m j image chosen kernel) here none.2)
        | inr d ↦ c.loop-j.invariant.split i (omega (arith, k, d))
      ];
    }
