use Rattle.std.proofs.lemmas.Result.{IfOk-weaker}
use Rattle.free_module.proofs.MapRows.{HaveWidth-map_rows}
use Rattle.square.specs.Below.{graded_of, below_KeepsWidths}
use Rattle.save_file.proofs.row_map.SquareMap.has_parts.Goals as goal

pub returns-clause-widths : goal.returns-clause-widths
returns-clause-widths c =
    let m = c.args.self.now in
    let wide = HaveWidth-map_rows (graded_of m.target) m.gens m.images.items m.t (below_KeepsWidths m.target) m.are_images in
    IfOk-weaker c.are_parts_of.result _ _ (λ are e. wide) c.are_parts_of.ensures
