use Rattle.std.proofs.Common.{◌≡◌, ◌∙◌, ◌<◌, ap, sym, subst, length, rules, ℕ, List, Bool}
use Rattle.std.proofs.lemmas.Bool.{iff_false}
use Rattle.f2_vec.specs.Spans.{unit_vector, combination, IsInSpan}
use Rattle.save_file.specs.Inside.Differentials.{matrix_of_map}
use Rattle.save_file.proofs.Inexact.{other_row}
use Rattle.save_file.proofs.row_map.SquareMap.stays_in.Goals as goal

pub returns-then-not-inside : goal.returns-then-not-inside
returns-then-not-inside c =
    let m = matrix_of_map c.args.self.now in
    let image = c.args.span.now.image in
    let w = c.in_ok-value.value in
    let there : c.loop-i.i < length m.rows = search rules in
    let is : w ≡ combination m.cols (unit_vector (length m.rows) c.loop-i.i) m.rows =
    c.in_ok-value.ensures.value ∙ ap (λ (v : List Bool). combination m.cols v m.rows) (c.in_ok-unit.ensures ∙ ap (λ (n : ℕ). unit_vector n c.loop-i.i) c.requires.height) in
    λ no. other_row m image c.loop-i.i w c.in_ok-value.ensures.widths there is (λ h. iff_false c.in_ok-inside.ensures c.if-not-inside.true (subst (λ (n : ℕ). IsInSpan n image w) (sym c.requires.span) h))
