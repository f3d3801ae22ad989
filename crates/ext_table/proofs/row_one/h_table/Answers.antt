use Rattle.std.proofs.Common.{◌≡◌, ◌≤◌, ℕ, refl, ap, ◌∙◌, arith}
use Rattle.std.proofs.lemmas.Result.{IfOk-weaker}
use Rattle.bidegree.specs.LastDegrees.{last_degree}
use Rattle.resolution_laws.specs.Resolution.{generator_count}
use Rattle.square.specs.Squares.{bottom_of}
use Rattle.resolution_images.specs.BareRows.{squares_of}
use Rattle.lift_laws.specs.Products.{count_of}
use Rattle.h_products.specs.ReadOff.{resolution_in}
use Rattle.ext_products.specs.Products.{resolution}
use Rattle.ext_products.proofs.OneEach.{OneEach-map}
use Rattle.ext_h_products.specs.RowOne.{IsAnswerOverImages}
use Rattle.ext_h_products.proofs.Rows.{rows_first, same_count}
use Rattle.ext_table.specs.Table.{table_text}
use Rattle.ext_table.specs.Answers.{IsListing}
use Rattle.ext_table.proofs.Same.{table_same}
use Rattle.ext_table.proofs.Told.{told}
use Rattle.ext_table.proofs.There.{all_there}
use Rattle.ext_table.proofs.row_one.h_table.Goals as goal

pub returns : goal.returns
returns c =
    let images = c.args.images.now in
    let range = c.args.range in
    let shape = c.args.shape in
    let by = c.args.by.now in
    let lists = c.in_ok-lists.lists.items in
    IfOk-weaker c.table_of.result _ _
    (λ text e are table q canonical canonical_q sphere.
    let r = resolution images.resolved.plain table in
    let first = rows_first c.rows_in_stems_are_whole.ensures c.squares_in_stems_are_those_of_table.ensures images range table (record { steenrod = canonical.steenrod; bounded = canonical.bounded; canonical = canonical.canonical }) are in
    let counted : (i k : ℕ) → i ≤ range.s → k ≤ last_degree shape range i → generator_count (squares_of images.rows) i k ≡ count_of r i k =
    λ i k l b. let there = c.requires.through i l in same_count (resolution_in images) r refl range.s first i k l (omega arith) in
    told shape range by r q lists text.items (all_there c.row_one_has_squares.ensures range q canonical_q sphere by c.requires.there)
    (OneEach-map (λ class listing. IsAnswerOverImages (IsListing shape range class) images range listing) (λ class listing. IsListing shape range class r q listing) (λ class listing is. is are table q canonical canonical_q sphere) by lists c.in_ok-lists.ensures)
    (e ∙ (ap (table_text (bottom_of images.resolved) range.s (last_degree shape range) (generator_count (squares_of images.rows))) c.as_slice.ensures.value
    ∙ table_same (bottom_of images.resolved) range.s (last_degree shape range) lists (generator_count (squares_of images.rows)) (count_of r) counted)))
    c.table_of.ensures
