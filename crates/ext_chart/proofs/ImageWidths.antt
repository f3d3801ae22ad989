-- The images of a table's squares are vectors of what d_s goes to.
use Rattle.std.proofs.Common.{◌≡◌, ℕ, zero, suc, ◌<◌, pos, ◌+ℤ◌, List, length, take, refl, sym, ◌∙◌, ap, subst, arith}
use Rattle.std.proofs.lemmas.Int.{ints}
use Rattle.f2_vec.specs.Spans.{HaveWidth}
use Rattle.f2_matrix.proofs.Unique.{kernel_basis_unique}
use Rattle.free_module.specs.FreeModule.{free_width}
use Rattle.finite_module.specs.Module.{bottom, width}
use Rattle.resolution_laws.specs.Resolution.{Content, row_of, degrees_from}
use Rattle.resolution_laws.specs.Start.{squares_below, IsOf}
use Rattle.resolution_laws.proofs.Rows.{free_basis-take}
use Rattle.resolution_laws.proofs.Shapes.{content_shape}
use Rattle.resolution_laws.proofs.StartLaws.{content_is_unique, length-squares_below, squares_below-take}
use Rattle.square.specs.Squares.{over, bottom_of}
use Rattle.square.specs.Tables.{Staircase, row_in, plain_rows, content_at, IsTable}
use Rattle.square.proofs.Places.{length-row_of, table_content}
use Rattle.ext_chart.specs.Dump.{image_width}

of_content : (table : Staircase) → IsTable table → (s k : ℕ) → k < length (row_in table.rows s) → (c : Content) → IsOf (over table.resolved) table.start s k c → HaveWidth (image_width table.resolved.plain.generators (plain_rows table.rows) s (bottom_of table.resolved +ℤ pos k)) c.images
of_content table h zero k l c is =
    let gs = table.resolved.plain.generators in
    let known = content_shape kernel_basis_unique (over table.resolved) table.start zero k c is in
    subst (λ n. HaveWidth (width gs (bottom gs +ℤ pos n)) c.images) (length-squares_below known.over.at zero k) known.shape.image_widths
of_content table h (suc i) k l c is =
    let m = over table.resolved in
    let b = m.bottom in
    let row = row_of (plain_rows table.rows) i in
    let known = content_shape kernel_basis_unique m table.start (suc i) k c is in
    let at = known.over.at in
    let longer = h.never_rise i in
    let len = length-row_of table.rows i in
    let same : squares_below at i (suc k) ≡ take (suc k) row = squares_below-take at i (suc k) row (omega arith) (λ j below.
    content_is_unique kernel_basis_unique m table.start i j (at i j) (content_at table.rows i j) (known.over.below i j refl (omega arith)) (table_content table h i j (omega arith))) in
    let wide : free_width (degrees_from b (squares_below at i (suc k))) (b +ℤ pos (length (squares_below at (suc i) k))) ≡ free_width (degrees_from b row) (b +ℤ pos k) =
    ap (λ n. free_width (degrees_from b (squares_below at i (suc k))) (b +ℤ pos n)) (length-squares_below at (suc i) k)
    ∙ (ap (λ (x : List Content). free_width (degrees_from b x) (b +ℤ pos k)) same ∙ ap length (sym (free_basis-take b row (suc k) (b +ℤ pos k) (omega (arith, ints))))) in
    subst (λ n. HaveWidth n c.images) wide known.shape.image_widths

pub image_widths : (table : Staircase) → IsTable table → (s k : ℕ) → k < length (row_in table.rows s) → HaveWidth (image_width table.resolved.plain.generators (plain_rows table.rows) s (bottom_of table.resolved +ℤ pos k)) (content_at table.rows s k).images
image_widths table h s k l = of_content table h s k l (content_at table.rows s k) (table_content table h s k l)
