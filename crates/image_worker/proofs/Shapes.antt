-- Places of a range of a shape: those that are meant, and those that stand on the one below.
use Rattle.std.proofs.Common.{◌≡◌, ℕ, suc, ◌+◌, ◌-◌, ◌<◌, ◌≤◌, true, refl, sym, subst, arith, inl, inr}
use Rattle.std.proofs.lemmas.Bool.{cases_lt, ltb-true, lt-ltb}
use Rattle.bidegree.specs.LastDegrees.{last_degree}
use Rattle.bidegree.specs.declared.range.Range.{Range}
use Rattle.bidegree.specs.declared.shape.Shape.{Shape}
use Rattle.bidegree.specs.declared.shape.Shape.TheVariants.{Rectangle, Stems}
use Rattle.board_core.specs.Machine.{IsStaircase, stands_in, is_meant_in}
use Rattle.square_board.specs.Openings.{below_fronts}
use Rattle.image_worker.specs.Stocks.{HasStems, extent_in}

pub meant_within : (shape : Shape) (range : Range) (i k : ℕ) → HasStems shape range → i ≤ range.s → k ≤ range.t → is_meant_in shape range.s range.t i k ≡ true → k ≤ (extent_in shape range).n + i + 1
meant_within Rectangle range i k h l a b = omega arith
meant_within Stems range i k h l a b = let c = ltb-true k (last_degree Stems (record { s = range.s; t = range.t }) i + 2) b in omega (arith, h, c)

pub square_is_meant : (shape : Shape) (range : Range) (i k : ℕ) → HasStems shape range → i ≤ range.s → k ≤ (extent_in shape range).n + i → is_meant_in shape range.s range.t i k ≡ true
square_is_meant Rectangle range i k h l a = refl
square_is_meant Stems range i k h l a = lt-ltb k (last_degree Stems (record { s = range.s; t = range.t }) i + 2) (omega (arith, h))

pub stands_within : (shape : Shape) (range : Range) (i k : ℕ) → HasStems shape range → i ≤ range.s → k ≤ range.t → stands_in shape range.s range.t i k ≡ true → k ≤ (extent_in shape range).n + i
stands_within Rectangle range i k h l a b = omega arith
stands_within Stems range i k h l a b = let c = ltb-true k (last_degree Stems (record { s = range.s; t = range.t }) i + 1) b in omega (arith, h, c)

pub square_stands : (shape : Shape) (range : Range) (i k : ℕ) → HasStems shape range → i ≤ range.s → k ≤ (extent_in shape range).n + i → stands_in shape range.s range.t i k ≡ true
square_stands Rectangle range i k h l a = refl
square_stands Stems range i k h l a = lt-ltb k (last_degree Stems (record { s = range.s; t = range.t }) i + 1) (omega (arith, h))

pub stairs : (shape : Shape) (range : Range) (f : ℕ → ℕ) → HasStems shape range → ((i : ℕ) → range.s + 1 ≤ i → f i ≡ 0) → ((i k : ℕ) → suc i < range.s + 1 → k ≤ (extent_in shape range).n + suc i → k < f (suc i) → k < f i) → ((i : ℕ) → i < range.s + 1 → f i ≤ range.t + 1) → IsStaircase (stands_in shape range.s range.t) (below_fronts f)
stairs shape range f h past falls within = λ s k d.
    let l = ltb-true k (f s) d in
    record {
      before = λ j e. lt-ltb j (f s) (omega (arith, l, e));
      below = λ i e st.
          let row : s ≤ range.s = elim (cases_lt range.s s) [
            | inl b ↦ absurd (omega (arith, l, past s (omega arith)))
            | inr b ↦ b
          ] in
          let square : k ≤ (extent_in shape range).n + s = stands_within shape range s k h row (omega (arith, l, within s (omega (arith, row)))) st in
          lt-ltb k (f i) (falls i k (omega (arith, row, e)) (subst (λ j. k ≤ (extent_in shape range).n + j) (sym e) square) (subst (λ j. k < f j) (sym e) l));
    }
