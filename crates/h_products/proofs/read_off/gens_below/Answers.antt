use Rattle.std.proofs.Common.{◌≡◌, ◌+◌, ◌≤◌, ◌++◌, Bool, ℤ, List, length, replicate, take, w32, to_z, of_z, ap, ◌∙◌, arith}
use Rattle.std.proofs.lemmas.Int.{to_z-of_z}
use Rattle.std.proofs.lemmas.List.{length-take-le, take_more}
use Rattle.resolution_laws.specs.Resolution.{no_content, row_of, square_in}
use Rattle.resolution_laws.proofs.Rows.{at_most-row, degrees_from-more}
use Rattle.square.specs.Squares.{bottom_of}
use Rattle.resolution_images.specs.BareRows.{squares_of}
use Rattle.h_products.proofs.read_off.gens_below.Goals as goal

pub push_many-requires : goal.push_many-requires
push_many-requires c =
    let row = row_of (squares_of c.args.images.now.rows) c.args.s in
    let k = c.loop-k.k in
    let here : k ≤ length row = omega (arith, c.requires, c.loop-k-test.true) in
    record {
      not_below = at_most-row (bottom_of c.args.images.now.resolved) (take k row) k c.loop-k.gens (to_z w32 (of_z w32 c.degree.result)) (to_z-of_z w32 c.degree.result (record { sfits = c.degree.type_inv }) ∙ c.degree.ensures) c.loop-k.invariant (length-take-le k row here);
    }

pub loop-k-preserved : goal.loop-k-preserved
loop-k-preserved c =
    let row = row_of (squares_of c.args.images.now.rows) c.args.s in
    let k = c.loop-k.k in
    let t : ℤ = to_z w32 (of_z w32 c.degree.result) in
    degrees_from-more (bottom_of c.args.images.now.resolved) (take k row) (take (k + 1) row) (square_in row k) k c.loop-k.gens c.push_many.new.self t (take_more row k no_content (omega (arith, c.requires, c.loop-k-test.true))) (length-take-le k row (omega (arith, c.requires, c.loop-k-test.true))) (to_z-of_z w32 c.degree.result (record { sfits = c.degree.type_inv }) ∙ c.degree.ensures) c.loop-k.invariant
    (c.in_ok-push_many.ensures.ok ∙ ap (λ (xs : List (List Bool)). c.loop-k.gens ++ replicate (length xs) t) c.square.ensures.images)
