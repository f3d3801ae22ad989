use Rattle.std.proofs.Common.{◌≡◌, ◌⊎◌, ◌+◌, ◌<◌, ◌≤◌, ℕ, Bool, List, [], length, get_or, ap, ◌∙◌, arith, inl, inr}
use Rattle.std.proofs.lemmas.List.{get_or_default}
use Rattle.f2_vec.specs.Spans.{row}
use Rattle.f2_sums.specs.Sums.{cleared_at}
use Rattle.f2_matrix.specs.Inside.Blocks.{block_rows}
use Rattle.f2_matrix.proofs.BlockParts.{IsClearedUpTo-more, IsClearedUpTo-skip, IsClearedByBlock-from_all, IsClearedUpTo-start}
use Rattle.f2_matrix.proofs.blocks.clear_outside.Goals.{then-i-settled, else-i-settled+else-end-i}
use Rattle.f2_matrix.proofs.blocks.clear_outside.Goals as goal

side_of : {A : Type 0} (i r e : ℕ) → (i < r) ⊎ (A × (e ≤ i)) → (i < r) ⊎ (e ≤ i)
side_of i r e (inl l) = inl l
side_of i r e (inr p) = inr p.1

pub loop-i-preserved : goal.loop-i-preserved
loop-i-preserved c =
    let n = c.args.cols in
    let r = c.args.settled in
    let ps = c.args.places.now in
    let xs = c.args.rows.now in
    let i = c.loop-i.i in
    let cur = c.loop-i.rows in
    let h : i < length cur = omega (arith, c.loop-i.invariant.as_many) in
    elim c.if-i-settled.branch [
      | then-i-settled w ↦
          let e : w.clear.new.vector ≡ cleared_at n ps (block_rows r ps xs) (row xs i) =
          w.clear.ensures ∙ ap (λ (k : ℕ). cleared_at k ps c.args.table.now.rows (get_or cur i w.index-rows-i.result)) c.requires.width ∙ ap (λ (b : List (List Bool)). cleared_at n ps b (get_or cur i w.index-rows-i.result)) c.requires.sums
          ∙ ap (cleared_at n ps (block_rows r ps xs)) (get_or_default cur i w.index-rows-i.result [] h ∙ c.loop-i.invariant.rest i (omega arith)) in
          rw w.rows-is (IsClearedUpTo-more n r i ps xs cur w.clear.new.vector c.loop-i.invariant (side_of i r (r + length ps) w.then-i-settled.either) (omega arith) c.requires.rows e)
      | else-i-settled+else-end-i w ↦ rw w.rows-is (IsClearedUpTo-skip n r i ps xs cur c.loop-i.invariant w.if-i-settled.false w.if-end-i.false)
    ]

pub loop-i-init : goal.loop-i-init
loop-i-init c = IsClearedUpTo-start c.args.cols c.args.settled c.args.places.now c.args.rows.now c.requires.rows

pub returns : goal.returns
returns c = IsClearedByBlock-from_all c.args.cols c.args.settled c.loop-i.i c.args.places.now c.args.rows.now c.loop-i.rows c.loop-i.invariant (omega arith) c.requires.within
