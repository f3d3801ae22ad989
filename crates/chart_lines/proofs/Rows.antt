-- The steps of the loops that write a chart.
use Rattle.std.proofs.Common.{◌≡◌, ℕ, zero, suc, ◌-◌, ◌<◌, List, ◌++◌, arith, ap, refl, ◌∙◌, append_assoc}
use Rattle.chart_lines.specs.Chart.{row_line, row_lines}

-- the greatest row is written first
row_lines-below : (marks : ℕ → ℕ → ℕ) (last : ℕ → ℕ) (n : ℕ) → 0 < n → row_lines marks last n ≡ row_line marks (last (n - 1)) (n - 1) ++ row_lines marks last (n - 1)
row_lines-below marks last zero h = absurd (omega arith)
row_lines-below marks last (suc n) h = let e : suc n - 1 ≡ n = omega arith in rw e refl

pub append-row_lines : (marks : ℕ → ℕ → ℕ) (last : ℕ → ℕ) (n : ℕ) (text line whole : List ℕ) → 0 < n → line ≡ row_line marks (last (n - 1)) (n - 1) → text ++ row_lines marks last n ≡ whole → (text ++ line) ++ row_lines marks last (n - 1) ≡ whole
append-row_lines marks last n text line whole h l e =
    append_assoc text line (row_lines marks last (n - 1)) ∙ (ap (λ m. text ++ (m ++ row_lines marks last (n - 1))) l ∙ (ap (λ m. text ++ m) (let b = row_lines-below marks last n h in cc) ∙ e))
