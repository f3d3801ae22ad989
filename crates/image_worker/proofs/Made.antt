-- What is made at a place.
use Rattle.std.proofs.Common.{◌≡◌, ℕ, suc, ◌+◌, ◌<◌, ◌≤◌, Bool, List, Some, None, refl, sym, subst, arith}
use Rattle.f2_matrix.specs.Reduction.{Rows}
use Rattle.resolution_laws.specs.Resolution.{Module}
use Rattle.resolution_images.specs.declared.resolve.Extent.{Extent}
use Rattle.resolution_images.specs.Made.{IsMadeThrough, IsSquareInStems, IsToCover}
use Rattle.finite_module.specs.Checked.{Checked}
use Rattle.square.specs.Squares.{over}
use Rattle.resolution_images.specs.BareRows.{BareRow}
use Rattle.image_worker.specs.Stocks.{IsMadeAt}

pub made_start : (m : Module) (e : Extent) (s k : ℕ) (images : List (List Bool)) (rows : Rows) → e.n + s < k → IsToCover m e (suc s) k rows → IsMadeAt m e s k images (Some rows)
made_start m e s k images rows past p = record {
  square = λ l. absurd (omega arith);
  covers = λ l. (rows, refl, p);
}

pub made_square : (m : Module) (e : Extent) (s k : ℕ) (images : List (List Bool)) (rows : Rows) → IsSquareInStems m e s k (record { images = images; kernel = rows.rows }) → IsToCover m e (suc s) k rows → IsMadeAt m e s k images (Some rows)
made_square m e s k images rows square p = record {
  square = λ l. (record { images = images; kernel = rows.rows }, refl, square);
  covers = λ l. (rows, refl, p);
}

pub made_last : (m : Module) (e : Extent) (s k : ℕ) (images : List (List Bool)) (rows : Rows) → e.last ≤ s → IsSquareInStems m e s k (record { images = images; kernel = rows.rows }) → IsMadeAt m e s k images None
made_last m e s k images rows last square = record {
  square = λ l. (record { images = images; kernel = rows.rows }, refl, square);
  covers = λ l. absurd (omega arith);
}

-- under other names
pub made_as : (m n : Checked) (e d : Extent) (s i k j : ℕ) (row : BareRow) → n ≡ m → d ≡ e → i ≡ s → j ≡ k → IsMadeThrough (over m) e s (suc k) row → IsMadeThrough (over n) d i (suc j) row
made_as m n e d s i k j row a b c' d' h =
    subst (λ (x : Checked). IsMadeThrough (over x) d i (suc j) row) (sym a)
    (subst (λ (x : Extent). IsMadeThrough (over m) x i (suc j) row) (sym b)
    (subst (λ x. IsMadeThrough (over m) e x (suc j) row) (sym c')
    (subst (λ x. IsMadeThrough (over m) e s (suc x) row) (sym d') h)))
