use Rattle.std.proofs.Common.{◌≡◌, ℕ, ℤ, ◌+◌, ◌++◌, replicate, pos, ◌+ℤ◌, ◌-ℤ◌, length, take, ap, ◌∙◌, w32, to_z, of_z, arith}
use Rattle.std.proofs.lemmas.Int.{ints}
use Rattle.std.proofs.lemmas.List.{length-take-le, take_more}
use Rattle.resolution_laws.specs.Resolution.{no_content, square_in, row_of}
use Rattle.resolution_laws.proofs.Rows.{at_most-row, degrees_from-more}
use Rattle.square.specs.Tables.{plain_rows}
use Rattle.square.proofs.Places.{length-row_of}
use Rattle.chain_map.proofs.rows.lowered_generators.Goals as goal

pub push_many-requires : goal.push_many-requires
push_many-requires c =
    let table = c.args.table.now in
    let row = row_of (plain_rows table.rows) c.args.s in
    let len = length-row_of table.rows c.args.s in
    let k = c.loop-k.k in
    let at : to_z w32 (of_z w32 (to_z w32 (of_z w32 c.from.result) -ℤ to_z w32 (of_z w32 c.from-in-loop-k.result))) ≡ (pos 0 -ℤ pos c.args.above) +ℤ pos k = omega (arith, ints, c.from.ensures, c.from-in-loop-k.ensures, c.ranges.n.fits, c.ranges.above.fits) in
    record { not_below = at_most-row (pos 0 -ℤ pos c.args.above) (take k row) k c.loop-k.gens _ at c.loop-k.invariant (length-take-le k row (omega arith)) }

pub loop-k-preserved : goal.loop-k-preserved
loop-k-preserved c =
    let table = c.args.table.now in
    let row = row_of (plain_rows table.rows) c.args.s in
    let len = length-row_of table.rows c.args.s in
    let k = c.loop-k.k in
    let t : ℤ = to_z w32 (of_z w32 (to_z w32 (of_z w32 c.from.result) -ℤ to_z w32 (of_z w32 c.from-in-loop-k.result))) in
    let at : t ≡ (pos 0 -ℤ pos c.args.above) +ℤ pos k = omega (arith, ints, c.from.ensures, c.from-in-loop-k.ensures, c.ranges.n.fits, c.ranges.above.fits) in
    degrees_from-more (pos 0 -ℤ pos c.args.above) (take k row) (take (k + 1) row) (square_in row k) k c.loop-k.gens c.push_many.new.self t (take_more row k no_content (omega arith)) (length-take-le k row (omega arith)) at c.loop-k.invariant (c.in_ok-push_many.ensures.ok ∙ ap (λ (n : ℕ). c.loop-k.gens ++ replicate n t) (ap length c.images_of-count.ensures.images))
