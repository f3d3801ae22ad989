-- Over two tables, whatever their squares hold, a lift is a chain map.
use Rattle.std.proofs.Common.{ℕ, suc, ℤ, ◌-ℤ◌, Bool, List, length, ap, sym, subst, ◌∙◌, arith}
use Rattle.free_module.specs.FreeModule.{free_width}
use Rattle.resolution_laws.specs.Resolution.{row_of}
use Rattle.resolution_laws.proofs.Generators.{generator_at}
use Rattle.square.specs.Tables.{Staircase, IsTable}
use Rattle.square.proofs.Places.{length-row_of}
use Rattle.lift_laws.specs.Maps.{FitThrough}
use Rattle.lift_laws.specs.Lifts.{gens, free, image, IsLift, IsChainMap}
use Rattle.lift_laws.proofs.ChainMaps.{chain_maps}
use Rattle.chain_map.specs.Lifting.{resolution_of, TablesHaveImages}
use Rattle.chain_map.proofs.Widths.{image_widths}

pub table_images : TablesHaveImages
table_images table h from rows top = record {
  widths = λ i j low high e.
      let r = resolution_of table in
      let P : ℕ → Type 0 = λ i. FitThrough (free r j) (gens r i) top (image r i) in
      let each : P (suc j) = λ g l b.
      let at = generator_at r.base.bottom (row_of r.table (suc j)) g l in
      ap length at.image ∙ (image_widths table h j at.k (omega (arith, length-row_of table.rows (suc j), at.square)) at.h at.within ∙ ap (λ (t : ℤ). free_width (gens r j) t) (sym at.degree)) in
      subst P (sym e) each;
}

pub chain_map_of : (table sphere : Staircase) → IsTable table → IsTable sphere → (s : ℕ) (x : ℤ) (z : ℕ → List Bool) (upto : ℕ) (top : ℤ) (phi : ℕ → ℕ → List Bool) → IsLift (resolution_of table) (resolution_of sphere) s x z upto top phi → IsChainMap (resolution_of table) (resolution_of sphere) s x upto top phi
chain_map_of table sphere h hq s x z upto top phi lift =
    chain_maps (resolution_of table) (resolution_of sphere) s x z upto top phi (table_images table h s upto top) (table_images sphere hq 0 upto (top -ℤ x)) lift
