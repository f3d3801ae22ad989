-- What a map does to a vector, computed on the first squares of its row and of the row that it goes to.
use Rattle.std.proofs.Common.{◌≡◌, ℕ, ◌<◌, Bool, ℤ, pos, ◌+ℤ◌, ◌-ℤ◌, ◌<ℤ◌, List, take, ap, sym, ◌∙◌, arith}
use Rattle.f2_vec.specs.Spans.{row}
use Rattle.free_module.specs.Graded.{free_graded}
use Rattle.free_module.specs.LinearMap.{mapped}
use Rattle.resolution_laws.specs.Resolution.{degrees_from, row_of}
use Rattle.resolution_laws.proofs.Rows.{free_basis-take}
use Rattle.resolution_laws.proofs.Generators.{length-images_of, AgreeIn-take}
use Rattle.square.specs.Squares.{bottom_of}
use Rattle.square.specs.Tables.{Staircase, plain_rows}
use Rattle.lift_laws.specs.Maps.{shifted, lowered_by}
use Rattle.lift_laws.specs.Lifts.{gens, free, lowered}
use Rattle.lift_laws.specs.Products.{first_of}
use Rattle.lift_laws.proofs.Bridge.{mapped-lowered}
use Rattle.lift_laws.proofs.Cut.{extended-cut, AgreeIn-shifted}
use Rattle.chain_map.specs.Lifting.{lowered_row, resolution_of, target_of}
use Rattle.chain_map.proofs.Generators.{lowered-row, degree-first}

pub mapped-is : (table sphere : Staircase) (i k above n far : ℕ) (x : ℤ) (images : List (List Bool)) (f : ℕ → List Bool) (t : ℤ) (v : List Bool) → x ≡ bottom_of table.resolved +ℤ pos above → t <ℤ (bottom_of table.resolved +ℤ pos n) → (t -ℤ x) <ℤ (bottom_of sphere.resolved +ℤ pos far) → ((g : ℕ) → g < first_of (resolution_of table) i n → row images g ≡ f g)
    → mapped (free_graded (target_of sphere k far)) (lowered_row table i n above) images (t -ℤ x) v ≡ lowered (resolution_of table) i (resolution_of sphere) k x f t v
mapped-is table sphere i k above n far x images f t v x_is low low_q values =
    let r = resolution_of table in
    let b = bottom_of table.resolved in
    let squares = row_of (plain_rows table.rows) i in
    let source = degrees_from b (take n squares) in
    let target = free_graded (target_of sphere k far) in
    let whole = free (resolution_of sphere) k in
    let count = length-images_of b (take n squares) in
    ap (λ (z : List ℤ). mapped target z images (t -ℤ x) v) (sym (lowered-row b above (take n squares)) ∙ ap (λ (y : ℤ). lowered_by y source) (sym x_is))
    ∙ (mapped-lowered target x source images t v
    ∙ extended-cut (shifted x target) (shifted x whole) source (gens r i) (row images) f t v (AgreeIn-shifted x t target whole (AgreeIn-take (bottom_of sphere.resolved) (row_of (plain_rows sphere.rows) k) far (t -ℤ x) low_q)) (sym (free_basis-take b squares n t low))
    (λ g l. degree-first r i n g (omega arith)) (λ g l. values g (omega arith)))
