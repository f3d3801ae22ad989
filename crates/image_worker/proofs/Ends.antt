-- The ends of the rows of a range of a shape.
use Rattle.std.proofs.Common.{◌≡◌, ℕ, suc, ◌+◌, ◌-◌, ◌<◌, ◌≤◌, ap, ◌∙◌, arith}
use Rattle.bidegree.specs.declared.range.Range.{Range}
use Rattle.bidegree.specs.declared.shape.Shape.{Shape}
use Rattle.bidegree.specs.declared.shape.Shape.TheVariants.{Rectangle, Stems}
use Rattle.image_worker.specs.Stocks.{HasStems, extent_in, IsOneMore}
use Rattle.image_worker.proofs.Fronts.{IsPut}

-- no place is behind the squares of the last row
pub start_within : (shape : Shape) (range : Range) (i k : ℕ) → HasStems shape range → k ≤ range.t → (extent_in shape range).n + i < k → i < range.s
start_within Rectangle range i k h a b = absurd (omega arith)
start_within Stems range i k h a b = omega (arith, h)

pub one_more : (n s k : ℕ) (f g : ℕ → ℕ) → IsPut n s k f g → IsOneMore s f g
one_more n s k f g p = record { here = p.more ∙ ap suc (let e : k ≡ f s = omega (arith, p.front) in e); others = p.others }
