use Rattle.std.proofs.Common.{◌≡◌, ℕ, ◌+◌, ◌<◌, ◌≤◌, Bool, [], ◌∷◌, ◌++◌, List, length, take, drop, set, refl, ap, sym, ◌∙◌, arith, subst}
use Rattle.std.proofs.lemmas.List.{length-take-le, length-drop, length-set, take_more_set}
use Rattle.std.proofs.lemmas.List.Elements.{All-same, All-push}
use Rattle.f2_vec.specs.Spans.{HaveWidth}
use Rattle.f2_matrix.specs.Inside.Blocks.{block_rows}
use Rattle.f2_matrix.proofs.Elimination.{IsEliminated, IsEliminated-start, IsEchelonForm-from_IsEliminated}
use Rattle.f2_matrix.proofs.BlockSteps.{IsBlock, IsBlock-start, IsBlock-skip, IsBlock-more, IsBlock-end, IsBlock-within, HaveWidth-block}
use Rattle.f2_matrix.proofs.blocks.reduce_blocks.Goals.{in-Some, in_default, then-loop-col-2-test+else-count-lt8, else-loop-col-2-test}
use Rattle.f2_matrix.proofs.blocks.reduce_blocks.Goals as goal

pub loop-col-init : goal.loop-col-init
loop-col-init c = record {
  within = omega arith;
  width = c.requires.width;
  room = c.requires.room;
  done = IsEliminated-start c.args.cols c.args.rows.now c.requires.rows;
}

pub loop-col-2-init : goal.loop-col-2-init
loop-col-2-init c = record {
  within = c.loop-col.invariant.within;
  few = omega arith;
  on = omega arith;
  size = refl;
  below = λ k d l. absurd (omega arith);
  done = IsBlock-start c.args.cols c.loop-col.settled c.loop-col.col c.args.rows.now c.loop-col.rows c.loop-col.invariant.done;
}

pub row_to_take-requires-clause-rows : goal.row_to_take-requires-clause-rows
row_to_take-requires-clause-rows c = c.loop-col-2.invariant.done.widths

pub row_to_take-requires-clause-within : goal.row_to_take-requires-clause-within
row_to_take-requires-clause-within c = IsBlock-within c.args.cols c.loop-col.settled c.loop-col-2.col (take c.loop-col-2.count c.loop-col-2.places) c.args.rows.now c.loop-col-2.rows c.loop-col-2.invariant.done

pub row_to_take-requires-clause-places : goal.row_to_take-requires-clause-places
row_to_take-requires-clause-places c = c.loop-col-2.invariant.below

pub take_pivot-requires-clause-rows : goal.take_pivot-requires-clause-rows
take_pivot-requires-clause-rows c = c.loop-col-2.invariant.done.widths

pub take_pivot-requires-clause-places : goal.take_pivot-requires-clause-places
take_pivot-requires-clause-places c = c.loop-col-2.invariant.below

pub loop-col-2-preserved : goal.loop-col-2-preserved
loop-col-2-preserved c =
    let n = c.args.cols in
    let r = c.loop-col.settled in
    let col = c.loop-col-2.col in
    let count = c.loop-col-2.count in
    let places = c.loop-col-2.places in
    let ps = take count places in
    let xs = c.args.rows.now in
    let rows = c.loop-col-2.rows in
    let s = c.loop-col-2.invariant in
    elim c.match-row_to_take.branch [
      | in-Some w ↦
          let more : take (count + 1) (set places count col) ≡ ps ++ col ∷ [] = take_more_set places count col (omega (arith, s.size)) in
          rw (w.rows-is, w.places-is, w.count-is) (record {
            within = omega (arith, s.within);
            few = omega arith;
            on = omega (arith, s.on);
            size = length-set places count col ∙ s.size;
            below = All-same (λ p. p < n) (take (count + 1) (set places count col)) (ps ++ col ∷ []) more (All-push (λ p. p < n) ps col s.below (omega arith));
            done = subst (λ q. IsBlock n r (col + 1) q xs w.take_pivot.new.rows) (sym more)
                (IsBlock-more n r col w.in-Some.found ps xs rows w.take_pivot.new.rows s.done w.in-Some.ensures.behind w.in-Some.ensures.within w.take_pivot.ensures w.in-Some.ensures.one);
          })
      | in_default w ↦
          rw (w.rows-is, w.places-is, w.count-is) (record {
            within = omega (arith, s.within);
            few = s.few;
            on = omega (arith, s.on);
            size = s.size;
            below = s.below;
            done = IsBlock-skip n r col ps xs rows s.done w.in_default.ensures.none;
          })
    ]

count_is : (count : ℕ) (places : List ℕ) → count ≤ 8 → length places ≡ 8 → length (take count places) ≡ count
count_is count places h e = length-take-le count places (omega arith)

pub block_of-requires : goal.block_of-requires
block_of-requires c =
    let s = c.loop-col-2.invariant in
    let w = IsBlock-within c.args.cols c.loop-col.settled c.loop-col-2.col (take c.loop-col-2.count c.loop-col-2.places) c.args.rows.now c.loop-col-2.rows s.done in
    omega (arith, w, count_is c.loop-col-2.count c.loop-col-2.places s.few s.size)

-- the rows that the table is of
same_block : (r count : ℕ) (places : List ℕ) (rows b : List (List Bool)) → count ≤ 8 → length places ≡ 8 → b ≡ take count (drop r rows) → b ≡ block_rows r (take count places) rows
same_block r count places rows b h e f = f ∙ ap (λ k. take k (drop r rows)) (sym (count_is count places h e))

pub fill-requires-clause-widths : goal.fill-requires-clause-widths
fill-requires-clause-widths c =
    let s = c.loop-col-2.invariant in
    let ps = take c.loop-col-2.count c.loop-col-2.places in
    let e = same_block c.loop-col.settled c.loop-col-2.count c.loop-col-2.places c.loop-col-2.rows c.block_of.result.now s.few s.size c.block_of.ensures in
    subst (λ k. HaveWidth k c.block_of.result.now) (sym c.loop-col.invariant.width)
    (subst (HaveWidth c.args.cols) (sym e) (HaveWidth-block c.args.cols c.loop-col.settled ps c.loop-col-2.rows s.done.widths))

pub fill-requires-clause-few : goal.fill-requires-clause-few
fill-requires-clause-few c =
    let s = c.loop-col-2.invariant in
    let w = IsBlock-within c.args.cols c.loop-col.settled c.loop-col-2.col (take c.loop-col-2.count c.loop-col-2.places) c.args.rows.now c.loop-col-2.rows s.done in
    let k = count_is c.loop-col-2.count c.loop-col-2.places s.few s.size in
    let l = ap length c.block_of.ensures ∙ length-take-le c.loop-col-2.count (drop c.loop-col.settled c.loop-col-2.rows) (omega (arith, w, k, length-drop c.loop-col.settled c.loop-col-2.rows)) in
    omega (arith, l, s.few, c.loop-col.invariant.room)

pub slice_bounds-places-end-in-loop-col : goal.slice_bounds-places-end-in-loop-col
slice_bounds-places-end-in-loop-col c = omega (arith, c.loop-col-2.invariant.few, c.loop-col-2.invariant.size)

pub slice_bounds-clear_outside-end : goal.slice_bounds-clear_outside-end
slice_bounds-clear_outside-end c = sym (count_is c.loop-col-2.count c.loop-col-2.places c.loop-col-2.invariant.few c.loop-col-2.invariant.size)

pub clear_outside-requires-clause-rows : goal.clear_outside-requires-clause-rows
clear_outside-requires-clause-rows c = c.loop-col-2.invariant.done.widths

pub clear_outside-requires-clause-within : goal.clear_outside-requires-clause-within
clear_outside-requires-clause-within c = IsBlock-within c.args.cols c.loop-col.settled c.loop-col-2.col (take c.loop-col-2.count c.loop-col-2.places) c.args.rows.now c.loop-col-2.rows c.loop-col-2.invariant.done

pub clear_outside-requires-clause-places : goal.clear_outside-requires-clause-places
clear_outside-requires-clause-places c = c.loop-col-2.invariant.below

pub clear_outside-requires-clause-width : goal.clear_outside-requires-clause-width
clear_outside-requires-clause-width c = c.fill.ensures.cols ∙ c.loop-col.invariant.width

pub clear_outside-requires-clause-sums : goal.clear_outside-requires-clause-sums
clear_outside-requires-clause-sums c =
    let s = c.loop-col-2.invariant in
    c.fill.ensures.rows ∙ same_block c.loop-col.settled c.loop-col-2.count c.loop-col-2.places c.loop-col-2.rows c.block_of.result.now s.few s.size c.block_of.ensures

pub overflow_add-settled : goal.overflow_add-settled
overflow_add-settled c =
    let s = c.loop-col-2.invariant in
    let w = IsBlock-within c.args.cols c.loop-col.settled c.loop-col-2.col (take c.loop-col-2.count c.loop-col-2.places) c.args.rows.now c.loop-col-2.rows s.done in
    omega (arith, w, count_is c.loop-col-2.count c.loop-col-2.places s.few s.size)

pub prove-unreachable-requires : goal.prove-unreachable-requires
prove-unreachable-requires c =
    let s = c.loop-col-2.invariant in
    elim c.loop-col-2-test.branch [
      | then-loop-col-2-test+else-count-lt8 w ↦ omega (arith, s.on, w.if-count-lt8.false)
      | else-loop-col-2-test w ↦ omega (arith, s.on, w.loop-col-2-test.false)
    ]

pub loop-col-preserved : goal.loop-col-preserved
loop-col-preserved c =
    let s = c.loop-col-2.invariant in
    let n = c.args.cols in
    let r = c.loop-col.settled in
    let ps = take c.loop-col-2.count c.loop-col-2.places in
    record {
      within = s.within;
      width = c.fill.ensures.cols ∙ c.loop-col.invariant.width;
      room = c.fill.ensures.most ∙ c.loop-col.invariant.room;
      done = subst (λ k. IsEliminated n (r + k) c.loop-col-2.col c.args.rows.now c.clear_outside.new.rows) (count_is c.loop-col-2.count c.loop-col-2.places s.few s.size)
          (IsBlock-end n r c.loop-col-2.col ps c.args.rows.now c.loop-col-2.rows c.clear_outside.new.rows s.done c.clear_outside.ensures);
    }

pub returns-clause-form : goal.returns-clause-form
returns-clause-form c =
    let e : c.loop-col.col ≡ c.args.cols = omega (arith, c.loop-col.invariant.within) in
    IsEchelonForm-from_IsEliminated c.args.cols c.loop-col.settled c.args.rows.now c.loop-col.rows
    (subst (λ k. IsEliminated c.args.cols c.loop-col.settled k c.args.rows.now c.loop-col.rows) e c.loop-col.invariant.done)

pub returns-clause-width : goal.returns-clause-width
returns-clause-width c = c.loop-col.invariant.width

pub returns-clause-room : goal.returns-clause-room
returns-clause-room c = c.loop-col.invariant.room
