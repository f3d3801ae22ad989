use Rattle.std.proofs.Common.{◌≡◌, ◌+◌, ◌++◌, suc, List, length, take, drop, ap, sym, subst, ◌∙◌, arith}
use Rattle.std.proofs.lemmas.List.{take_at}
use Rattle.square.specs.Squares.{over}
use Rattle.resolution_images.specs.BareRows.{BareRow}
use Rattle.resolution_images.specs.Inside.Columns.{AreMadeThrough}
use Rattle.resolution_images.proofs.resolve.rows_through.Goals as goal

pub loop-k-preserved : goal.loop-k-preserved
loop-k-preserved c =
    let m = over c.args.module.now in
    let e = c.args.extent in
    let k = c.loop-k.k in
    let new = c.add.new.rows in
    let old = c.loop-k.rows.items in
    let written : take c.loop-k.rows.len (new ++ drop (length new) old) ≡ new = take_at new (drop (length new) old) c.loop-k.rows.len (c.in_ok-add.ensures.count ∙ c.as_mut_slice.ensures.len) in
    let next : suc k ≡ k + 1 = omega arith in
    record {
      count = ap length written ∙ c.in_ok-add.ensures.count ∙ ap length c.as_mut_slice.ensures.value ∙ c.loop-k.invariant.count;
      through = subst (λ (z : List BareRow). AreMadeThrough m e 0 (k + 1) z) (sym written) (subst (λ n. AreMadeThrough m e 0 n new) next c.in_ok-add.ensures.through);
    }
