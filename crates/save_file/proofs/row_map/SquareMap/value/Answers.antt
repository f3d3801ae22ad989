use Rattle.std.proofs.Common.{◌≡◌, ◌∙◌, ap, length, rules}
use Rattle.std.specs.Prelude.{IfOk}
use Rattle.std.proofs.lemmas.Result.{IfOk-weaker}
use Rattle.f2_vec.specs.Spans.{HaveWidth, combination}
use Rattle.f2_vec.proofs.Spans.{length-combination}
use Rattle.free_module.proofs.MapRows.{HaveWidth-map_rows}
use Rattle.square.specs.Below.{graded_of, below_KeepsWidths}
use Rattle.save_file.specs.declared.row_map.SquareMap.{SquareMap}
use Rattle.save_file.specs.Inside.Differentials.{matrix_of_map}
use Rattle.save_file.proofs.row_map.SquareMap.value.Goals as goal

wide : (m : SquareMap) → HaveWidth (matrix_of_map m).cols (matrix_of_map m).rows
wide m = HaveWidth-map_rows (graded_of m.target) m.gens m.images.items m.t (below_KeepsWidths m.target) m.are_images

pub returns-clause-width : goal.returns-clause-width
returns-clause-width c =
    let m = c.args.self.now in
    let told : IfOk c.apply.result (λ w. w ≡ combination (matrix_of_map m).cols c.args.vector.now (matrix_of_map m).rows) = search rules in
    IfOk-weaker c.apply.result _ _ (λ w is. ap length is ∙ length-combination (matrix_of_map m).cols c.args.vector.now (matrix_of_map m).rows (wide m)) told

pub returns-clause-widths : goal.returns-clause-widths
returns-clause-widths c = wide c.args.self.now
