-- The matrix of d_s where the next square stands, over what that is made from.
use Rattle.std.proofs.Common.{◌≡◌, ℕ, ℤ, pos, ◌+ℤ◌, Bool, List, [], take, Option, sym, ◌∙◌, ap, subst}
use Rattle.f2_vec.specs.Spans.{HaveWidth}
use Rattle.finite_module.specs.Checked.{Checked}
use Rattle.resolution_laws.specs.Resolution.{Content, row_of, below_of}
use Rattle.square.specs.Squares.{target_width, square_matrix, over, bottom_of}
use Rattle.square.specs.Tables.{Staircase, Footing, plain_rows, next_target_width, IsMatrixBehind}

-- what a table lends for the next square of row s in degree t
pub record IsLent (table : Staircase) (s : ℕ) (t : ℤ) (f : Footing) : Type 0 where
  pub degree : t ≡ bottom_of table.resolved +ℤ pos f.above
  pub resolved : f.resolved ≡ table.resolved
  pub squares : f.squares ≡ take f.above (row_of (plain_rows table.rows) s)
  pub below : f.below ≡ below_of (plain_rows table.rows) s f.above

module _ (table : Staircase) (s : ℕ) (t : ℤ) (f : Footing) (h : IsLent table s t f) where
  under : Option (List Content)
  under = below_of (plain_rows table.rows) s f.above

  width_lent : target_width (over f.resolved) f.below f.squares ≡ next_target_width table s f.above
  width_lent =
      ap (λ (x : Checked). target_width (over x) f.below f.squares) h.resolved
      ∙ ap (λ (x : Option (List Content)). target_width (over table.resolved) x f.squares) h.below
      ∙ ap (λ (x : List Content). target_width (over table.resolved) (below_of (plain_rows table.rows) s f.above) x) h.squares

  pub widths_lent : (images own : List (List Bool)) → own ≡ images → ((k : ℕ) → t ≡ bottom_of table.resolved +ℤ pos k → HaveWidth (next_target_width table s k) images) → HaveWidth (target_width (over f.resolved) f.below f.squares) own
  widths_lent images own e wide =
      subst (λ rows. HaveWidth (target_width (over f.resolved) f.below f.squares) rows) (sym e) (subst (λ n. HaveWidth n images) (sym width_lent) (wide f.above h.degree))

  pub behind_lent : (images own : List (List Bool)) → own ≡ images → IsMatrixBehind table s t images (record { cols = target_width (over f.resolved) f.below f.squares; rows = square_matrix (over f.resolved) f.below f.squares (record { images = own; kernel = [] }) })
  behind_lent images own e = record {
    above = f.above;
    degree = h.degree;
    cols = width_lent;
    rows = ap (λ x. square_matrix (over f.resolved) f.below f.squares (record { images = x; kernel = [] })) e
        ∙ ap (λ (x : Checked). square_matrix (over x) f.below f.squares (record { images = images; kernel = [] })) h.resolved
        ∙ ap (λ (x : Option (List Content)). square_matrix (over table.resolved) x f.squares (record { images = images; kernel = [] })) h.below
        ∙ ap (λ (x : List Content). square_matrix (over table.resolved) (below_of (plain_rows table.rows) s f.above) x (record { images = images; kernel = [] })) h.squares;
  }
