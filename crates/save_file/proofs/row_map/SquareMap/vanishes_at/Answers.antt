use Rattle.std.proofs.Common.{◌≡◌, ◌∙◌, ◌<◌, [], ap, length, rules, List, Bool}
use Rattle.std.proofs.lemmas.Bool.{iff_false}
use Rattle.std.proofs.lemmas.List.{get_or_read}
use Rattle.f2_vec.specs.Spans.{row, combination}
use Rattle.save_file.specs.Inside.Differentials.{matrix_of_map}
use Rattle.save_file.proofs.Inexact.{no_relation}
use Rattle.save_file.proofs.row_map.SquareMap.vanishes_at.Goals as goal

pub returns-then-not-is_zero : goal.returns-then-not-is_zero
returns-then-not-is_zero c =
    let m = matrix_of_map c.args.self.now in
    let vectors = c.args.vectors.now in
    let there : c.loop-i.i < length vectors = search rules in
    let at : c.index-vectors-i.result ≡ row vectors c.loop-i.i = get_or_read vectors c.loop-i.i c.index-vectors-i.result there c.index-vectors-i.is [] in
    let is : c.in_ok-value.value ≡ combination m.cols (row vectors c.loop-i.i) m.rows = c.in_ok-value.ensures.value ∙ ap (λ (v : List Bool). combination m.cols v m.rows) at in
    λ no. no_relation m vectors c.loop-i.i c.in_ok-value.value there is (iff_false c.is_zero.ensures c.if-not-is_zero.true)
