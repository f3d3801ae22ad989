use Rattle.std.proofs.Common.{List, ap, sym, subst, ◌∙◌}
use Rattle.bidegree.specs.declared.class.Class.{Class}
use Rattle.ext_run.specs.declared.plan.Form.{Form}
use Rattle.ext_run.specs.declared.plan.Form.TheVariants.{Products}
use Rattle.ext_run.specs.Forms.{IsInForm}
use Rattle.ext_run.specs.Work.{answer_of}
use Rattle.ext_run.proofs.texts.unsaved_alone.Goals as goal

pub returns-in-Products-clause-told : goal.returns-in-Products-clause-told
returns-in-Products-clause-told c = λ has.
    subst (λ (form : Form). IsInForm form c.args.resolution.common.range c.args.resolution.resolved.plain (answer_of c.products_alone.result)) (sym (c.in-Products.is ∙ ap (λ (by : List Class). Products c.in-Products.layout by c.in-Products.shape) (sym c.as_slice.ensures))) (c.products_alone.ensures.told has)

pub returns-in-Sought-clause-told : goal.returns-in-Sought-clause-told
returns-in-Sought-clause-told c = λ has.
    subst (λ (form : Form). IsInForm form c.args.resolution.common.range c.args.resolution.resolved.plain (answer_of c.sought_alone.result)) (sym c.in-Sought.is) (c.sought_alone.ensures.told has)
