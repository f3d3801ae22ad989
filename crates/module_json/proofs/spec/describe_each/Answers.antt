use Rattle.std.proofs.Common.{rules, ◌≡◌, ◌≢◌, Err, sym, subst}
use Rattle.serde_json.specs.View.{items_view}
use Rattle.module_json.specs.Parts.{files_of}
use Rattle.module_json.specs.declared.malformed.Malformed.TheVariants.{Memory}
use Rattle.module_json.proofs.Parts.{AreMade, AreMade-none, AreMade-next, made_refused, made_all}
use Rattle.module_json.proofs.spec.describe_each.Goals as goal

pub loop-part-init : goal.loop-part-init
loop-part-init c = subst (AreMade c.args.parts.now 0) (sym c.in_ok-specs.ensures.items) (AreMade-none c.args.parts.now)

pub returns-in_err-spec-clause-refused : goal.returns-in_err-spec-clause-refused
returns-in_err-spec-clause-refused c =
    let fault = c.in_err-spec.field-0.0 in
    let refused : fault ≢ Memory → files_of (items_view c.args.parts.now) ≡ Err fault =
    λ known. made_refused c.args.parts.now c.loop-part.part-index c.loop-part.specs.items c.part-item.result fault c.loop-part.invariant c.loop-part-test.true c.part-item.is (c.in_err-spec.ensures.refused known) in
    search rules

pub loop-part-preserved : goal.loop-part-preserved
loop-part-preserved c =
    subst (AreMade c.args.parts.now _) (sym c.in_ok-push.ensures.items)
    (AreMade-next c.args.parts.now c.loop-part.part-index c.loop-part.specs.items c.part-item.result c.in_ok-spec.spec c.loop-part.invariant c.loop-part-test.true c.part-item.is c.in_ok-spec.ensures.module)

pub returns-clause-modules : goal.returns-clause-modules
returns-clause-modules c = made_all c.args.parts.now c.loop-part.part-index c.loop-part.specs.items c.loop-part.invariant c.loop-part-test.false
