-- The classes so far are there.
use Rattle.std.proofs.Common.{◌≡◌, take, drop}
use Rattle.std.specs.List.{All}
use Rattle.ext_products.specs.Products.{first_missing}
use Rattle.ext_h_products.specs.RowOne.{IsH, OfSpheres}
use Rattle.ext_h_products.proofs.found.find_each.Given as goal

abbrev pub invariant-loop-class : goal.invariant-loop-class
invariant-loop-class l = record {
  are : All (IsH l.range) (take l.class-index l.by);
  there : OfSpheres l.range (λ q. first_missing q l.by ≡ first_missing q (drop l.class-index l.by));
}
