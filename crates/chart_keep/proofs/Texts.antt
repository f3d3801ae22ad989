-- The line in front of a chart file's text.
use Rattle.std.proofs.Common.{◌≡◌, ℕ, List, [], ◌∷◌, ◌++◌, length, get_or, drop, ap, arith}
use Rattle.std.specs.List.{flat_map, range_with_len}
use Rattle.module_spec.specs.Spec.{Generator, powers}
use Rattle.finite_module.specs.Text.{generator_line, square_line}
use Rattle.chart_keep.specs.declared.digest.TheConstants.{LINE}
use Rattle.chart_keep.specs.Texts.{TextsAreApart}

-- the first line of a module's text begins otherwise
begins_apart : (gs : List Generator) (lines : ℕ → List ℕ) (text : List ℕ) → LINE ++ text ≡ flat_map generator_line gs ++ flat_map lines (range_with_len 0 (length gs)) → ⊥
begins_apart [] lines text e = let n = ap (λ (l : List ℕ). length l) e in absurd (omega arith)
begins_apart (g ∷ gs) lines text e = let first : ◌≡◌ {A = ℕ} 99 103 = ap (λ (l : List ℕ). get_or l 0 0) e in absurd (omega (arith, first))

pub texts_apart : TextsAreApart
texts_apart = record {
  saves = λ m n e. begins_apart n.generators (λ i. flat_map (square_line n i) powers) _ e;
  charts = λ m n e. ap (λ (l : List ℕ). drop 8 l) e;
}
