use Rattle.std.proofs.Common.{◌⊎◌, ◌≡◌, subst}
use Rattle.std.specs.Prelude.{Err, IfErr}
use Rattle.finite_module.specs.Checked.{Checked}
use Rattle.ext_report.specs.declared.failure.Failure.TheVariants.{Memory}
use Rattle.ext_run.specs.declared.plan.Form.TheVariants.{Sought as ToTell}
use Rattle.ext_run.specs.Forms.{IsInForm, IsRefusedIn}
use Rattle.ext_run.specs.Work.{answer_of}
use Rattle.ext_run.proofs.WholeImages.{whole_made}
use Rattle.ext_run.proofs.sought_over_images.sought_alone.Goals as goal

pub sought_over-text-requires-clause-whole : goal.sought_over-text-requires-clause-whole
sought_over-text-requires-clause-whole c =
    let made = c.in_ok-images.ensures in
    whole_made c.in_ok-images.images c.args.resolved c.args.range made.resolved made.range made.canonical c.requires.rows c.requires.degrees

pub returns-clause-told : goal.returns-clause-told
returns-clause-told c = λ has.
    subst (λ (m : Checked). IsInForm (ToTell c.args.sought) c.args.range m.plain (answer_of c.sought_over-text.result)) c.in_ok-images.ensures.resolved (c.sought_over-text.ensures.told has)

pub returns-clause-why : goal.returns-clause-why
returns-clause-why c =
    subst (λ (m : Checked). IfErr c.sought_over-text.result (λ e. (e ≡ Memory) ⊎ IsRefusedIn (ToTell c.args.sought) c.args.range m.plain (Err e))) c.in_ok-images.ensures.resolved c.sought_over-text.ensures.why
