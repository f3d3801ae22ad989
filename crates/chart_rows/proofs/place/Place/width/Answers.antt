use Rattle.std.proofs.Common.{◌-◌, take, w32, to_z, of_z, ◌∙◌}
use Rattle.std.proofs.lemmas.Int.{to_z-of_z}
use Rattle.resolution_laws.specs.Resolution.{row_of}
use Rattle.resolution_laws.proofs.Rows.{IsWithinReach-row}
use Rattle.square.specs.Squares.{bottom_of}
use Rattle.resolution_images.specs.BareRows.{squares_of}
use Rattle.chart_rows.proofs.place.Place.width.Goals as goal

pub dim-requires : goal.dim-requires
dim-requires c =
    let self = c.args.self.now in
    let squares = squares_of c.args.rows.now in
    let at = to_z-of_z w32 c.degree-t.result (record { sfits = c.degree-t.type_inv }) ∙ c.degree-t.ensures in
    IsWithinReach-row (bottom_of self.module.now) (take c.from.result (row_of squares (c.from-s.result - 1))) self.k self.basis.now c.in_ok-gens.gens (to_z w32 (of_z w32 c.degree-t.result)) at c.in_ok-gens.ensures c.requires.basis
