use Rattle.std.proofs.Common.{ℕ, suc, ◌+◌, ◌<◌, ◌≤◌, subst, arith}
use Rattle.image_worker.specs.Stocks.{ImageRows, extent_of, fronts_of}
use Rattle.image_worker.proofs.stock.ImageStock.row_count.Goals as goal

pub returns-clause-falls : goal.returns-clause-falls
returns-clause-falls c =
    subst (λ (x : ImageRows). (i k : ℕ) → suc i < c.self.inside.range.s + 1 → k ≤ (extent_of x.subject).n + suc i → k < fronts_of x (suc i) → k < fronts_of x i) c.self.view_is
    (λ i k l a b. c.self.invariant.2.falls i k (omega (arith, l)) a b)
