use Rattle.std.proofs.Common.{◌≡◌, ◌<◌, ℕ, ℤ, pos, ◌+ℤ◌, Bool, List, ◌+◌, ◌++◌, length, take, replicate, w32, ◌∙◌, ap, arith}
use Rattle.std.proofs.lemmas.Int.{to_z-of_z}
use Rattle.std.proofs.lemmas.List.{take_more, length-take-le}
use Rattle.resolution_laws.specs.Resolution.{Content, no_content, square_in, row_of, degrees_from}
use Rattle.resolution_laws.proofs.Rows.{at_most-row, degrees_from-more}
use Rattle.ext_chart.proofs.RowSteps.{places-more}
use Rattle.ext_chart.proofs.row_gens.row_gens.Goals as goal
use Rattle.square.specs.Squares.{bottom_of}

pub push_many-requires : goal.push_many-requires
push_many-requires g c =
    let row = row_of (g.R.Shown.seen c.args.table.now).rows c.args.s in
    let k = c.loop-k.k in
    let t = to_z-of_z w32 c.degree.result (record { sfits = c.degree.type_inv }) ∙ c.degree.ensures in
    record { not_below = at_most-row (bottom_of (g.R.Shown.seen c.args.table.now).resolved) (take k row) k c.loop-k.gens _ t c.loop-k.invariant.gens (length-take-le k row (omega (arith, c.loop-k-test.true, c.front-n.ensures.front, c.front-n.ensures.short))) }

-- one square more
more_gens : (b t : ℤ) (row : List Content) (k : ℕ) (gens wider : List ℤ) (images : List (List Bool)) → k < length row → t ≡ b +ℤ pos k → images ≡ (square_in row k).images → gens ≡ degrees_from b (take k row) → wider ≡ gens ++ replicate (length images) t → wider ≡ degrees_from b (take (k + 1) row)
more_gens b t row k gens wider images l at e h w =
    degrees_from-more b (take k row) (take (k + 1) row) (square_in row k) k gens wider t (take_more row k no_content l) (length-take-le k row (omega arith)) at h (w ∙ ap (λ (x : List (List Bool)). gens ++ replicate (length x) t) e)

pub loop-k-preserved : goal.loop-k-preserved
loop-k-preserved g c =
    let b = bottom_of (g.R.Shown.seen c.args.table.now).resolved in
    let row = row_of (g.R.Shown.seen c.args.table.now).rows c.args.s in
    let k = c.loop-k.k in
    let l : k < length row = omega (arith, c.loop-k-test.true, c.front-n.ensures.front, c.front-n.ensures.short) in
    let at = to_z-of_z w32 c.degree.result (record { sfits = c.degree.type_inv }) ∙ c.degree.ensures in
    let t = to_z-of_z w32 c.degree-in-loop-k.result (record { sfits = c.degree-in-loop-k.type_inv }) ∙ c.degree-in-loop-k.ensures in
    record {
      gens = more_gens b _ row k c.loop-k.gens c.push_many.new.self c.images-count.result.now l at c.images-count.ensures.images c.loop-k.invariant.gens c.in_ok-push_many.ensures.ok;
      places = places-more c.args.s b row k _ _ c.loop-k.places.items c.in_ok-places.places.items l t (ap length c.images-count.ensures.images) c.loop-k.invariant.places c.in_ok-places.ensures;
    }
