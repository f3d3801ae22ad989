-- The maps that the code computes, on the squares that it takes, are those between the parts of the tables through a range.
use Rattle.std.proofs.Common.{◌≡◌, ℕ, ◌+◌, ◌<◌, ◌≤◌, Bool, ℤ, pos, ◌+ℤ◌, ◌-ℤ◌, ◌<ℤ◌, List, length, take, ap, sym, ◌∙◌, arith}
use Rattle.std.proofs.lemmas.Int.{ints}
use Rattle.bidegree.specs.declared.range.Range.{Range}
use Rattle.f2_vec.specs.Spans.{row}
use Rattle.free_module.specs.Graded.{free_graded}
use Rattle.free_module.specs.LinearMap.{mapped}
use Rattle.resolution_laws.specs.Resolution.{degrees_from, row_of}
use Rattle.resolution_laws.proofs.Generators.{length-images_of}
use Rattle.square.specs.Squares.{over, bottom_of}
use Rattle.square.specs.Tables.{Staircase, plain_rows}
use Rattle.lift_laws.specs.Lifts.{Resolution, gens, degree, lowered}
use Rattle.lift_laws.specs.Products.{first_of}
use Rattle.lift_laws.proofs.Cut.{there-cut, kept-cut, degree-cut, lowered-cut}
use Rattle.chain_map.specs.Lifting.{lowered_row, resolution_of, target_of}
use Rattle.chain_map.specs.Classes.{through}
use Rattle.chain_map.proofs.Applied.{mapped-is}
use Rattle.chain_map.proofs.Classes.{rows_through}

module _ (first sphere : Staircase) (range other : Range) where
  abbrev r : Resolution
  r = resolution_of first

  abbrev rc : Resolution
  rc = through range first

  abbrev qc : Resolution
  qc = through other sphere

  -- a generator of a degree that is at most n above the bottom is one of the first squares
  pub among_first : (i n g : ℕ) → i ≤ range.s → g < length (gens rc i) → degree rc i g <ℤ (bottom_of first.resolved +ℤ pos (n + 1)) → g < first_of r i (n + 1)
  among_first i n g row_in_range there low =
      let near : Range = record { s = range.s; t = n } in
      let all = there-cut (over first.resolved) range.s (range.t + 1) (plain_rows first.rows) rc.table (rows_through first range) i g row_in_range there in
      let same = degree-cut (over first.resolved) range.s (range.t + 1) (plain_rows first.rows) rc.table (rows_through first range) i g row_in_range there in
      let kept = kept-cut (over first.resolved) range.s (n + 1) (plain_rows first.rows) (through near first).table (rows_through first near) i g row_in_range all (omega (arith, ints)) in
      omega (arith, ap (λ w. length (degrees_from (bottom_of first.resolved) w)) (rows_through first near i row_in_range), length-images_of (bottom_of first.resolved) (take (n + 1) (row_of r.table i)))

  pub part_map : (i k above n far : ℕ) (x u : ℤ) (images : List (List Bool)) (f : ℕ → List Bool) (t : ℤ) (v : List Bool) → i ≤ range.s → k ≤ other.s → n ≤ range.t + 1 → far ≤ other.t + 1 → x ≡ bottom_of first.resolved +ℤ pos above → u ≡ t -ℤ x → t <ℤ (bottom_of first.resolved +ℤ pos n) → (t -ℤ x) <ℤ (bottom_of sphere.resolved +ℤ pos far)
      → ((g : ℕ) → g < first_of r i n → row images g ≡ f g) → mapped (free_graded (target_of sphere k far)) (lowered_row first i n above) images u v ≡ lowered rc i qc k x f t v
  part_map i k above n far x u images f t v row_in_range k_in_range few few_q x_is u_is low low_q values =
      ap (λ (z : ℤ). mapped (free_graded (target_of sphere k far)) (lowered_row first i n above) images z v) u_is
      ∙ (mapped-is first sphere i k above n far x images f t v x_is low low_q values
      ∙ sym (lowered-cut (over first.resolved) (over sphere.resolved) range.s (range.t + 1) other.s (other.t + 1) (plain_rows first.rows) rc.table (plain_rows sphere.rows) qc.table (rows_through first range) (rows_through sphere other) i k x f t v row_in_range k_in_range (omega (arith, ints)) (omega (arith, ints))))
