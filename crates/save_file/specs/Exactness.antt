-- What is known of a square that is left without its quasi-inverse.
use Rattle.std.specs.Prelude.{◌≡◌, ℕ, zero, suc, ℤ, pos, ◌+ℤ◌, Bool, List}
use Rattle.f2_vec.specs.Spans.{unit_vectors}
use Rattle.f2_matrix.specs.Reduction.{Reduction}
use Rattle.square.specs.Squares.{over, bottom_of}
use Rattle.square.specs.Tables.{Staircase, content_at, IsQuasiAt}

-- what d_s has to cover in the degree k above the bottom: all of the module for row 0, and else the kernel rows of the square below
abbrev pub covered_at : Staircase → ℕ → ℕ → List (List Bool)
covered_at table zero k = unit_vectors ((over table.resolved).graded.width (bottom_of table.resolved +ℤ pos k))
covered_at table (suc i) k = (content_at table.rows i k).kernel

-- No reduction of the matrix of d_s in degree t has as its kernel rows those of the square, and as its image rows what d_s has to
-- cover. So d_s is not exact there, or the kernel rows of the square, or of the one below, are not those of its map.
abbrev pub IsInexactAt : Staircase → ℕ → ℤ → Type 0
IsInexactAt table s t = (r : Reduction) (k : ℕ) → t ≡ bottom_of table.resolved +ℤ pos k → IsQuasiAt table s t r →
    r.kernel ≡ (content_at table.rows s k).kernel → r.image ≡ covered_at table s k → ⊥
