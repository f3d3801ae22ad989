use Rattle.std.proofs.Common.{◌≡◌, ◌⊎◌, List, sym, subst, ◌∙◌, ap}
use Rattle.std.specs.Prelude.{Ok, Err, IfErr}
use Rattle.std.proofs.lemmas.Result.{err_from_is_err_and}
use Rattle.bidegree.specs.declared.class.Class.{Class}
use Rattle.chain_map.proofs.Resolved.{canonical_in}
use Rattle.ext_products.specs.Products.{IsAnswerIn, IsAnswerOver}
use Rattle.ext_table.specs.Layouts.{told_in}
use Rattle.ext_products.specs.declared.refusal.Refusal.{Refusal}
use Rattle.ext_brackets.specs.Brackets.{IsOfPlaces}
use Rattle.ext_report.specs.declared.failure.Failure.TheVariants.{Memory}
use Rattle.ext_report.specs.Failure.{classes_failure}
use Rattle.ext_run.specs.declared.plan.Form.{Form}
use Rattle.ext_run.specs.declared.plan.Form.TheVariants.{Products}
use Rattle.ext_run.specs.Forms.{IsToldOfClasses, IsSoughtAnswer, IsInForm, IsRefusedOver, IsRefusedIn}
use Rattle.ext_run.specs.Work.{Told, answer_of}
use Rattle.ext_chart.proofs.Seen.{through_seen}
use Rattle.ext_run.proofs.AnswerExists.{TableLaws}
use Rattle.ext_run.proofs.Resolved.{is_sheet, is_told_of_classes, classes_failed, refused_over, classes_refused}
use Rattle.ext_run.proofs.texts.told.Goals as goal

pub sheet_text-requires : goal.sheet_text-requires
sheet_text-requires c = through_seen c.args.range c.in-Squares.shape c.args.table.now.rows c.requires.through

pub returns-in_ok-sheet_text-in-Squares-clause-told : goal.returns-in_ok-sheet_text-in-Squares-clause-told
returns-in_ok-sheet_text-in-Squares-clause-told c = λ has resolved.
    subst (λ (form : Form). IsInForm form c.args.range c.args.table.now.resolved.plain (Ok c.in_ok-sheet_text-in-Squares.field-0.items)) (sym c.in-Squares.is)
    (is_sheet c.in-Squares.sheet c.in-Squares.shape c.args.range c.args.table.now c.in_ok-sheet_text-in-Squares.field-0.items resolved c.requires.through c.in_ok-sheet_text-in-Squares.ensures)

pub returns-in_ok-products_in-in-Products-clause-told : goal.returns-in_ok-products_in-in-Products-clause-told
returns-in_ok-products_in-in-Products-clause-told c = λ has resolved.
    let laws : TableLaws = record { exists = c.canonical_table_exists.ensures; minimal = c.canonical_table_is_minimal_resolution.ensures; modules = c.modules_are_graded_modules.ensures; accepted = c.accepted_is_module.ensures } in
    subst (λ (form : Form). IsInForm form c.args.range c.args.table.now.resolved.plain (Ok c.in_ok-products_in-in-Products.field-0.items)) (sym (c.in-Products.is ∙ ap (λ (by : List Class). Products c.in-Products.layout by c.in-Products.shape) (sym c.as_slice.ensures)))
    (is_told_of_classes laws (told_in c.in-Products.layout c.in-Products.shape c.args.range c.as_slice.result.now) c.args.range c.args.table.now (Ok c.in_ok-products_in-in-Products.field-0.items) resolved (c.in_ok-products_in-in-Products.ensures.text (canonical_in c.args.table.now c.args.range resolved.canonical)))

pub returns-in_err-products_in-in-Products-clause-told : goal.returns-in_err-products_in-in-Products-clause-told
returns-in_err-products_in-in-Products-clause-told c = λ has resolved.
    let laws : TableLaws = record { exists = c.canonical_table_exists.ensures; minimal = c.canonical_table_is_minimal_resolution.ensures; modules = c.modules_are_graded_modules.ensures; accepted = c.accepted_is_module.ensures } in
    let p = err_from_is_err_and c.from_residual-in_err-products_in-in-Products.result c.from_residual-in_err-products_in-in-Products.ensures.1 in
    let is = p.1 ∙ ap Err p.2 in
    let known = classes_failed (IsAnswerIn (told_in c.in-Products.layout c.in-Products.shape c.args.range c.as_slice.result.now) c.args.table.now c.args.range) c.in_err-products_in-in-Products.field-0.0 c.from_residual-in_err-products_in-in-Products.result is c.in_err-products_in-in-Products.ensures.refused has in
    subst (λ (form : Form). IsInForm form c.args.range c.args.table.now.resolved.plain (answer_of c.from_residual-in_err-products_in-in-Products.result)) (sym (c.in-Products.is ∙ ap (λ (by : List Class). Products c.in-Products.layout by c.in-Products.shape) (sym c.as_slice.ensures)))
    (subst (IsToldOfClasses (told_in c.in-Products.layout c.in-Products.shape c.args.range c.as_slice.result.now) c.args.range c.args.table.now.resolved.plain) (sym known.1) (is_told_of_classes laws (told_in c.in-Products.layout c.in-Products.shape c.args.range c.as_slice.result.now) c.args.range c.args.table.now known.0 resolved known.2))

pub returns-in_ok-sought_text-in-Sought-clause-told : goal.returns-in_ok-sought_text-in-Sought-clause-told
returns-in_ok-sought_text-in-Sought-clause-told c = λ has resolved.
    let laws : TableLaws = record { exists = c.canonical_table_exists.ensures; minimal = c.canonical_table_is_minimal_resolution.ensures; modules = c.modules_are_graded_modules.ensures; accepted = c.accepted_is_module.ensures } in
    subst (λ (form : Form). IsInForm form c.args.range c.args.table.now.resolved.plain (Ok c.in_ok-sought_text-in-Sought.field-0.items)) (sym c.in-Sought.is)
    (is_told_of_classes laws (IsSoughtAnswer c.in-Sought.sought c.args.range) c.args.range c.args.table.now (Ok c.in_ok-sought_text-in-Sought.field-0.items) resolved (c.in_ok-sought_text-in-Sought.ensures.text (canonical_in c.args.table.now c.args.range resolved.canonical)))

pub returns-in_err-sought_text-in-Sought-clause-told : goal.returns-in_err-sought_text-in-Sought-clause-told
returns-in_err-sought_text-in-Sought-clause-told c = λ has resolved.
    let laws : TableLaws = record { exists = c.canonical_table_exists.ensures; minimal = c.canonical_table_is_minimal_resolution.ensures; modules = c.modules_are_graded_modules.ensures; accepted = c.accepted_is_module.ensures } in
    let p = err_from_is_err_and c.from_residual-in_err-sought_text-in-Sought.result c.from_residual-in_err-sought_text-in-Sought.ensures.1 in
    let is = p.1 ∙ ap Err p.2 in
    let known = classes_failed (IsAnswerOver (IsSoughtAnswer c.in-Sought.sought c.args.range) c.args.table.now c.args.range) c.in_err-sought_text-in-Sought.field-0.0 c.from_residual-in_err-sought_text-in-Sought.result is c.in_err-sought_text-in-Sought.ensures.refused has in
    subst (λ (form : Form). IsInForm form c.args.range c.args.table.now.resolved.plain (answer_of c.from_residual-in_err-sought_text-in-Sought.result)) (sym c.in-Sought.is)
    (subst (IsToldOfClasses (IsSoughtAnswer c.in-Sought.sought c.args.range) c.args.range c.args.table.now.resolved.plain) (sym known.1) (is_told_of_classes laws (IsSoughtAnswer c.in-Sought.sought c.args.range) c.args.range c.args.table.now known.0 resolved (known.2 (canonical_in c.args.table.now c.args.range resolved.canonical))))

pub returns-in_err-products_in-in-Products-clause-why : goal.returns-in_err-products_in-in-Products-clause-why
returns-in_err-products_in-in-Products-clause-why c =
    let laws : TableLaws = record { exists = c.canonical_table_exists.ensures; minimal = c.canonical_table_is_minimal_resolution.ensures; modules = c.modules_are_graded_modules.ensures; accepted = c.accepted_is_module.ensures } in
    let p = err_from_is_err_and c.from_residual-in_err-products_in-in-Products.result c.from_residual-in_err-products_in-in-Products.ensures.1 in
    let is = p.1 ∙ ap Err p.2 in
    let refused = classes_refused (IsRefusedOver (told_in c.in-Products.layout c.in-Products.shape c.args.range c.as_slice.result.now) c.args.range c.args.table.now.resolved.plain) c.in_err-products_in-in-Products.field-0.0 (λ some. let known = c.in_err-products_in-in-Products.ensures.refused some in (known.0, known.1, refused_over laws (told_in c.in-Products.layout c.in-Products.shape c.args.range c.as_slice.result.now) c.args.range c.args.table.now known.0 known.2)) in
    let in_form = subst (λ (form : Form). (classes_failure c.in_err-products_in-in-Products.field-0.0 ≡ Memory) ⊎ IsRefusedIn form c.args.range c.args.table.now.resolved.plain (Err (classes_failure c.in_err-products_in-in-Products.field-0.0))) (sym (c.in-Products.is ∙ ap (λ (by : List Class). Products c.in-Products.layout by c.in-Products.shape) (sym c.as_slice.ensures))) refused in
    subst (λ (text : Told). IfErr text (λ e. (e ≡ Memory) ⊎ IsRefusedIn c.args.form c.args.range c.args.table.now.resolved.plain (Err e))) (sym is) in_form

pub returns-in_err-sought_text-in-Sought-clause-why : goal.returns-in_err-sought_text-in-Sought-clause-why
returns-in_err-sought_text-in-Sought-clause-why c =
    let laws : TableLaws = record { exists = c.canonical_table_exists.ensures; minimal = c.canonical_table_is_minimal_resolution.ensures; modules = c.modules_are_graded_modules.ensures; accepted = c.accepted_is_module.ensures } in
    let p = err_from_is_err_and c.from_residual-in_err-sought_text-in-Sought.result c.from_residual-in_err-sought_text-in-Sought.ensures.1 in
    let is = p.1 ∙ ap Err p.2 in
    let refused = classes_refused (λ (refusal : Refusal). IsOfPlaces refusal → IsRefusedOver (IsSoughtAnswer c.in-Sought.sought c.args.range) c.args.range c.args.table.now.resolved.plain refusal) c.in_err-sought_text-in-Sought.field-0.0 (λ some. let known = c.in_err-sought_text-in-Sought.ensures.sure some in (known.0, known.1, λ place. refused_over laws (IsSoughtAnswer c.in-Sought.sought c.args.range) c.args.range c.args.table.now known.0 (known.2 place))) in
    let in_form = subst (λ (form : Form). (classes_failure c.in_err-sought_text-in-Sought.field-0.0 ≡ Memory) ⊎ IsRefusedIn form c.args.range c.args.table.now.resolved.plain (Err (classes_failure c.in_err-sought_text-in-Sought.field-0.0))) (sym c.in-Sought.is) refused in
    subst (λ (text : Told). IfErr text (λ e. (e ≡ Memory) ⊎ IsRefusedIn c.args.form c.args.range c.args.table.now.resolved.plain (Err e))) (sym is) in_form
