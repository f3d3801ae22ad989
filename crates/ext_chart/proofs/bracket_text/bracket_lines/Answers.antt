use Rattle.std.proofs.Common.{◌≡◌, ◌++◌, List, ℕ, ℤ, to_z, of_z, w32, ap₂, ◌∙◌, arith}
use Rattle.std.proofs.lemmas.Int.{ints}
use Rattle.ext_chart.specs.Classes.{bracket_text}
use Rattle.ext_chart.proofs.bracket_text.bracket_lines.Goals as goal

pub returns : goal.returns
returns c =
    let row_is : to_z w32 (of_z w32 c.args.s) ≡ c.args.s = omega (arith, ints) in
    let degree_is : to_z w32 (of_z w32 c.args.t) ≡ c.args.t = omega (arith, ints) in
    let rows = c.as_slice.ensures.value ∙ c.in_ok-indeterminacy.ensures in
    c.in_ok-extend_from_slice.ensures.items
    ∙ (ap₂ (λ (a b : List ℕ). a ++ b) c.in_ok-text.ensures rows ∙ ap₂ (λ (s t : ℤ). bracket_text s t c.args.value.now c.args.rows.now) row_is degree_is)
