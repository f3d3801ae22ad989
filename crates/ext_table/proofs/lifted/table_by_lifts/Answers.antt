use Rattle.std.proofs.Common.{◌≡◌, ◌≤◌, ℕ, length, ap, sym, ◌∙◌, arith}
use Rattle.bidegree.specs.LastDegrees.{last_degree}
use Rattle.finite_module.specs.Checked.{sphere_file}
use Rattle.finite_module.specs.DerivedAction.{derived_module}
use Rattle.square.specs.Squares.{bottom_of}
use Rattle.square.specs.Tables.{content_at}
use Rattle.lift_laws.specs.Products.{count_of}
use Rattle.chain_map.specs.Classes.{through}
use Rattle.chain_map.proofs.Classes.{count_inside}
use Rattle.ext_chart.proofs.Seen.{last_within}
use Rattle.ext_products.specs.Products.{resolution, IsAnswerOver}
use Rattle.ext_products.proofs.OneEach.{OneEach-map}
use Rattle.ext_table.specs.Table.{table_text}
use Rattle.ext_table.specs.Answers.{IsListing}
use Rattle.ext_table.proofs.Same.{table_same}
use Rattle.ext_table.proofs.Told.{told}
use Rattle.ext_table.proofs.lifted.table_by_lifts.Goals as goal

pub returns-clause-text : goal.returns-clause-text
returns-clause-text c = λ all sphere canonical.
    let table = c.args.source.now in
    let range = c.args.range in
    let shape = c.args.shape in
    let by = c.args.by.now in
    let last = last_degree shape range in
    let lists = c.in_ok-lists.lists.items in
    let r = through range table in
    let q = resolution (derived_module sphere_file) sphere in
    let counts : ℕ → ℕ → ℕ = λ s k. length (content_at table.rows s k).images in
    let counted : (i k : ℕ) → i ≤ range.s → k ≤ last i → counts i k ≡ count_of r i k =
    λ i k l b. let within = last_within range shape i in sym (count_inside table range i k l (omega arith)) in
    told shape range by r q lists _ (c.in_ok-lists.ensures.there sphere canonical)
    (OneEach-map (λ class listing. IsAnswerOver (IsListing shape range class) table range listing) (λ class listing. IsListing shape range class r q listing) (λ class listing is. is all sphere canonical) by lists c.in_ok-lists.ensures.lists)
    (c.in_ok-table_of.ensures ∙ (ap (table_text (bottom_of table.resolved) range.s last counts) c.as_slice.ensures.value ∙ table_same (bottom_of table.resolved) range.s last lists counts (count_of r) counted))
