use Rattle.std.proofs.Common.{◌≡◌, ◌⊎◌, sym, subst, ◌∙◌, ap}
use Rattle.std.specs.Prelude.{Ok, Err, IfErr}
use Rattle.std.proofs.lemmas.Result.{err_from_is_err_and}
use Rattle.bidegree.specs.declared.range.Range.{Range}
use Rattle.square.specs.Tables.{Staircase, IsThrough, plain_rows, cut}
use Rattle.chain_map.specs.Sources.{canonical_rows, canonical_table}
use Rattle.chain_map.proofs.Canonical.{is_through, are_canonical}
use Rattle.chain_map.specs.Lifting.{IsCanonicalIn}
use Rattle.ext_products.specs.Products.{IsAnswerIn}
use Rattle.ext_table.specs.Layouts.{told_in}
use Rattle.ext_report.specs.declared.failure.Failure.TheVariants.{Memory}
use Rattle.ext_run.specs.declared.plan.Form.TheVariants.{Products}
use Rattle.ext_run.specs.Forms.{IsResolved, IsToldOfClasses, IsRefusedOver, IsRefusedIn}
use Rattle.ext_run.specs.Work.{Told}
use Rattle.ext_run.proofs.AnswerExists.{TableLaws}
use Rattle.ext_run.proofs.Resolved.{is_told_of_classes, classes_failed, refused_over, classes_refused}
use Rattle.ext_run.proofs.WholeImages.{resolved_whole}
use Rattle.ext_run.proofs.products_over_images.products_over.Goals as goal

pub h_products_over-requires-clause-images : goal.h_products_over-requires-clause-images
h_products_over-requires-clause-images c = c.requires.images.read_off (sym c.are_in_row_one.ensures ∙ c.if-are_in_row_one.true)

pub products_in-requires-clause-through : goal.products_in-requires-clause-through
products_in-requires-clause-through c =
    let images = c.args.images.now in
    let whole = c.requires.images.whole (sym c.are_in_row_one.ensures ∙ c.if-are_in_row_one.false) in
    let same = c.requires.images.through (sym c.are_in_row_one.ensures ∙ c.if-are_in_row_one.false) in
    subst (λ (r : Range). IsThrough r (canonical_rows images.resolved images.range)) same (is_through images.resolved images.range whole.row whole.degree)

pub returns-clause-told : goal.returns-clause-told
returns-clause-told c = λ has.
    let laws : TableLaws = record { exists = c.canonical_table_exists.ensures; minimal = c.canonical_table_is_minimal_resolution.ensures; modules = c.modules_are_graded_modules.ensures; accepted = c.accepted_is_module.ensures } in
    let images = c.args.images.now in
    let table : Staircase = canonical_table images.resolved images.range in
    let whole = c.requires.images.whole (sym c.are_in_row_one.ensures ∙ c.if-are_in_row_one.false) in
    let same = c.requires.images.through (sym c.are_in_row_one.ensures ∙ c.if-are_in_row_one.false) in
    let resolved = subst (λ (r : Range). IsResolved r images.resolved.plain (cut r (plain_rows table.rows))) same (resolved_whole laws images whole) in
    let canonical = subst (λ (r : Range). IsCanonicalIn r table) same (are_canonical images.resolved images.range whole.row whole.degree) in
    is_told_of_classes laws (told_in c.args.layout c.args.shape c.args.range c.args.by.now) c.args.range table (Ok c.in_ok-products_in.field-0.items) resolved (c.in_ok-products_in.ensures.text canonical)

pub returns-in_err-products_in-clause-told : goal.returns-in_err-products_in-clause-told
returns-in_err-products_in-clause-told c = λ has.
    let laws : TableLaws = record { exists = c.canonical_table_exists.ensures; minimal = c.canonical_table_is_minimal_resolution.ensures; modules = c.modules_are_graded_modules.ensures; accepted = c.accepted_is_module.ensures } in
    let images = c.args.images.now in
    let table : Staircase = canonical_table images.resolved images.range in
    let whole = c.requires.images.whole (sym c.are_in_row_one.ensures ∙ c.if-are_in_row_one.false) in
    let same = c.requires.images.through (sym c.are_in_row_one.ensures ∙ c.if-are_in_row_one.false) in
    let resolved = subst (λ (r : Range). IsResolved r images.resolved.plain (cut r (plain_rows table.rows))) same (resolved_whole laws images whole) in
    let p = err_from_is_err_and c.from_residual-in_err-products_in.result c.from_residual-in_err-products_in.ensures.1 in
    let is = p.1 ∙ ap Err p.2 in
    let known = classes_failed (IsAnswerIn (told_in c.args.layout c.args.shape c.args.range c.args.by.now) table c.args.range) c.in_err-products_in.field-0.0 c.from_residual-in_err-products_in.result is c.in_err-products_in.ensures.refused has in
    subst (IsToldOfClasses (told_in c.args.layout c.args.shape c.args.range c.args.by.now) c.args.range images.resolved.plain) (sym known.1) (is_told_of_classes laws (told_in c.args.layout c.args.shape c.args.range c.args.by.now) c.args.range table known.0 resolved known.2)

pub returns-in_err-products_in-clause-why : goal.returns-in_err-products_in-clause-why
returns-in_err-products_in-clause-why c =
    let laws : TableLaws = record { exists = c.canonical_table_exists.ensures; minimal = c.canonical_table_is_minimal_resolution.ensures; modules = c.modules_are_graded_modules.ensures; accepted = c.accepted_is_module.ensures } in
    let images = c.args.images.now in
    let table : Staircase = canonical_table images.resolved images.range in
    let p = err_from_is_err_and c.from_residual-in_err-products_in.result c.from_residual-in_err-products_in.ensures.1 in
    let is = p.1 ∙ ap Err p.2 in
    let refused = classes_refused (IsRefusedOver (told_in c.args.layout c.args.shape c.args.range c.args.by.now) c.args.range images.resolved.plain) c.in_err-products_in.field-0.0 (λ some. let known = c.in_err-products_in.ensures.refused some in (known.0, known.1, refused_over laws (told_in c.args.layout c.args.shape c.args.range c.args.by.now) c.args.range table known.0 known.2)) in
    subst (λ (text : Told). IfErr text (λ e. (e ≡ Memory) ⊎ IsRefusedIn (Products c.args.layout c.args.by.now c.args.shape) c.args.range images.resolved.plain (Err e))) (sym is) refused
