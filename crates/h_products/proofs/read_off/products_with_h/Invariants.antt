use Rattle.std.proofs.Common.{◌≡◌, ◌+◌, map}
use Rattle.std.specs.List.{range_with_len}
use Rattle.lift_laws.specs.Products.{first_of, on_square}
use Rattle.h_laws.specs.Products.{first_on}
use Rattle.h_products.specs.ReadOff.{resolution_in, first_degrees}
use Rattle.h_products.proofs.read_off.products_with_h.Given as goal

abbrev pub invariant-loop : goal.invariant-loop
invariant-loop l = record {
  gens : l.gens ≡ first_degrees (resolution_in l.images) l.s l.above l.counter;
  rows : l.rows.items ≡ map (λ j. on_square (resolution_in l.images) (l.s + 1) (l.n + l.above) (first_on (resolution_in l.images) l.s (first_of (resolution_in l.images) l.s l.above + j))) (range_with_len 0 l.counter);
}
