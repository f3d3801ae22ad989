use Rattle.std.proofs.Common.{◌≡◌, sym, subst}
use Rattle.std.specs.Prelude.{◌≢◌, Ok, Err, IfOk, IfErr}
use Rattle.std.proofs.lemmas.Result.{IfErr-weaker}
use Rattle.ext_products.specs.declared.refusal.ClassesFault.TheVariants.{Refused, Memory as OutOfMemory}
use Rattle.ext_products.specs.declared.refusal.Refusal.{Refusal as WhyNot}
use Rattle.ext_products.specs.Products.{IsAnswerIn, IsAnswerOver}
use Rattle.ext_brackets.specs.Brackets.{IsOfPlaces}
use Rattle.ext_run.specs.declared.plan.Sought.{Sought}
use Rattle.ext_run.specs.Forms.{IsSoughtAnswer}
use Rattle.ext_run.proofs.sought.sought_text.Goals as goal

pub returns-in-Product-clause-text : goal.returns-in-Product-clause-text
returns-in-Product-clause-text c =
    subst (λ (s : Sought). IfOk c.one_product_text.result (λ text. IsAnswerOver (IsSoughtAnswer s c.args.range) c.args.table.now c.args.range (Ok text.items))) (sym c.in-Product.is) c.one_product_text.ensures.text

pub returns-in-Product-clause-refused : goal.returns-in-Product-clause-refused
returns-in-Product-clause-refused c =
    IfErr-weaker c.one_product_text.result _ _
    (λ e known other. let k = known other in (k.0, k.1, λ canonical. subst (λ (s : Sought). IsAnswerIn (IsSoughtAnswer s c.args.range) c.args.table.now c.args.range (Err k.0)) (sym c.in-Product.is) k.2)) c.one_product_text.ensures.refused

pub returns-in-Product-clause-sure : goal.returns-in-Product-clause-sure
returns-in-Product-clause-sure c =
    IfErr-weaker c.one_product_text.result _ _
    (λ e known other. let k = known other in (k.0, k.1, λ place. subst (λ (s : Sought). IsAnswerIn (IsSoughtAnswer s c.args.range) c.args.table.now c.args.range (Err k.0)) (sym c.in-Product.is) k.2)) c.one_product_text.ensures.refused

pub returns-in-Bracket-clause-text : goal.returns-in-Bracket-clause-text
returns-in-Bracket-clause-text c =
    subst (λ (s : Sought). IfOk c.bracket_text.result (λ text. IsAnswerOver (IsSoughtAnswer s c.args.range) c.args.table.now c.args.range (Ok text.items))) (sym c.in-Bracket.is) c.bracket_text.ensures.text

pub returns-in-Bracket-clause-refused : goal.returns-in-Bracket-clause-refused
returns-in-Bracket-clause-refused c =
    subst (λ (s : Sought). IfErr c.bracket_text.result (λ e. e ≢ OutOfMemory → (refusal : WhyNot) × (e ≡ Refused refusal) × IsAnswerOver (IsSoughtAnswer s c.args.range) c.args.table.now c.args.range (Err refusal))) (sym c.in-Bracket.is) c.bracket_text.ensures.refused

pub returns-in-Bracket-clause-sure : goal.returns-in-Bracket-clause-sure
returns-in-Bracket-clause-sure c =
    subst (λ (s : Sought). IfErr c.bracket_text.result (λ e. e ≢ OutOfMemory → (refusal : WhyNot) × (e ≡ Refused refusal) × (IsOfPlaces refusal → IsAnswerIn (IsSoughtAnswer s c.args.range) c.args.table.now c.args.range (Err refusal)))) (sym c.in-Bracket.is) c.bracket_text.ensures.sure
