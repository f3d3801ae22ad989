use Rattle.std.proofs.Common.{◌≡◌, ◌⊎◌, ◌≤◌, sym, subst, ◌∙◌, ap}
use Rattle.std.specs.Prelude.{Ok, Err, IfErr}
use Rattle.std.proofs.lemmas.Result.{err_from_is_err_and}
use Rattle.bidegree.specs.declared.range.Range.{Range}
use Rattle.bidegree.specs.declared.range.TheConstants.{MAX_S, MAX_T}
use Rattle.square.specs.Tables.{Staircase, IsThrough, plain_rows, cut}
use Rattle.chain_map.specs.Sources.{canonical_rows, canonical_table}
use Rattle.chain_map.proofs.Canonical.{is_through, are_canonical}
use Rattle.chain_map.specs.Lifting.{IsCanonicalIn}
use Rattle.ext_products.specs.Products.{IsAnswerOver}
use Rattle.ext_products.specs.declared.refusal.Refusal.{Refusal}
use Rattle.ext_brackets.specs.Brackets.{IsOfPlaces}
use Rattle.ext_report.specs.declared.failure.Failure.TheVariants.{Memory}
use Rattle.ext_run.specs.declared.plan.Form.TheVariants.{Sought as ToTell}
use Rattle.ext_run.specs.Forms.{IsResolved, IsToldOfClasses, IsRefusedOver, IsSoughtAnswer, IsRefusedIn}
use Rattle.ext_run.specs.Work.{Told}
use Rattle.ext_run.proofs.AnswerExists.{TableLaws}
use Rattle.ext_run.proofs.Resolved.{is_told_of_classes, classes_failed, refused_over, classes_refused}
use Rattle.ext_run.proofs.WholeImages.{resolved_whole}
use Rattle.ext_run.proofs.sought_over_images.sought_over.Goals as goal

pub sought_text-requires-clause-rows : goal.sought_text-requires-clause-rows
sought_text-requires-clause-rows c = subst (λ (r : Range). r.s ≤ MAX_S) c.requires.range c.requires.whole.row

pub sought_text-requires-clause-degrees : goal.sought_text-requires-clause-degrees
sought_text-requires-clause-degrees c = subst (λ (r : Range). r.t ≤ MAX_T) c.requires.range c.requires.whole.degree

pub sought_text-requires-clause-through : goal.sought_text-requires-clause-through
sought_text-requires-clause-through c =
    let images = c.args.images.now in
    subst (λ (r : Range). IsThrough r (canonical_rows images.resolved images.range)) c.requires.range (is_through images.resolved images.range c.requires.whole.row c.requires.whole.degree)

pub returns-clause-told : goal.returns-clause-told
returns-clause-told c = λ has.
    let laws : TableLaws = record { exists = c.canonical_table_exists.ensures; minimal = c.canonical_table_is_minimal_resolution.ensures; modules = c.modules_are_graded_modules.ensures; accepted = c.accepted_is_module.ensures } in
    let images = c.args.images.now in
    let table : Staircase = canonical_table images.resolved images.range in
    let resolved = subst (λ (r : Range). IsResolved r images.resolved.plain (cut r (plain_rows table.rows))) c.requires.range (resolved_whole laws images c.requires.whole) in
    let canonical = subst (λ (r : Range). IsCanonicalIn r table) c.requires.range (are_canonical images.resolved images.range c.requires.whole.row c.requires.whole.degree) in
    is_told_of_classes laws (IsSoughtAnswer c.args.sought c.args.range) c.args.range table (Ok c.in_ok-sought_text.field-0.items) resolved (c.in_ok-sought_text.ensures.text canonical)

pub returns-in_err-sought_text-clause-told : goal.returns-in_err-sought_text-clause-told
returns-in_err-sought_text-clause-told c = λ has.
    let laws : TableLaws = record { exists = c.canonical_table_exists.ensures; minimal = c.canonical_table_is_minimal_resolution.ensures; modules = c.modules_are_graded_modules.ensures; accepted = c.accepted_is_module.ensures } in
    let images = c.args.images.now in
    let table : Staircase = canonical_table images.resolved images.range in
    let resolved = subst (λ (r : Range). IsResolved r images.resolved.plain (cut r (plain_rows table.rows))) c.requires.range (resolved_whole laws images c.requires.whole) in
    let p = err_from_is_err_and c.from_residual.result c.from_residual.ensures.1 in
    let is = p.1 ∙ ap Err p.2 in
    let canonical = subst (λ (r : Range). IsCanonicalIn r table) c.requires.range (are_canonical images.resolved images.range c.requires.whole.row c.requires.whole.degree) in
    let known = classes_failed (IsAnswerOver (IsSoughtAnswer c.args.sought c.args.range) table c.args.range) c.in_err-sought_text.field-0.0 c.from_residual.result is c.in_err-sought_text.ensures.refused has in
    subst (IsToldOfClasses (IsSoughtAnswer c.args.sought c.args.range) c.args.range images.resolved.plain) (sym known.1) (is_told_of_classes laws (IsSoughtAnswer c.args.sought c.args.range) c.args.range table known.0 resolved (known.2 canonical))

pub returns-in_err-sought_text-clause-why : goal.returns-in_err-sought_text-clause-why
returns-in_err-sought_text-clause-why c =
    let laws : TableLaws = record { exists = c.canonical_table_exists.ensures; minimal = c.canonical_table_is_minimal_resolution.ensures; modules = c.modules_are_graded_modules.ensures; accepted = c.accepted_is_module.ensures } in
    let images = c.args.images.now in
    let table : Staircase = canonical_table images.resolved images.range in
    let p = err_from_is_err_and c.from_residual.result c.from_residual.ensures.1 in
    let is = p.1 ∙ ap Err p.2 in
    let refused = classes_refused (λ (refusal : Refusal). IsOfPlaces refusal → IsRefusedOver (IsSoughtAnswer c.args.sought c.args.range) c.args.range images.resolved.plain refusal) c.in_err-sought_text.field-0.0 (λ some. let known = c.in_err-sought_text.ensures.sure some in (known.0, known.1, λ place. refused_over laws (IsSoughtAnswer c.args.sought c.args.range) c.args.range table known.0 (known.2 place))) in
    subst (λ (text : Told). IfErr text (λ e. (e ≡ Memory) ⊎ IsRefusedIn (ToTell c.args.sought) c.args.range images.resolved.plain (Err e))) (sym is) refused
