use Rattle.std.proofs.Common.{refl, sym, subst, ◌∙◌, Option, None, Some, List, ℕ, Err, ◌≡◌}
use Rattle.std.specs.Prelude.{IfSome}
use Rattle.std.specs.Option.{option_map}
use Rattle.ext_report.specs.declared.failure.Failure.{Failure}
use Rattle.save_file.specs.Bodies.{Kept}
use Rattle.ext_run.specs.declared.task.Task.TheVariants.{Migration}
use Rattle.ext_run.specs.Devices.{Store, store_of}
use Rattle.ext_run.specs.Plan.{migrating}
use Rattle.ext_run.specs.Work.{HasUsed}
use Rattle.ext_run.proofs.Lasting.{AreDisks}
use Rattle.ext_run.proofs.KeptOn.{not_used}
use Rattle.ext_run.proofs.Migrated.{migrated_on}
use Rattle.ext_run.proofs.migrating.migrated.Given.{Over}
use Rattle.ext_run.proofs.migrating.migrated.Goals as goal

abbrev disk : (g : Over) → Store g.row.D.Denot
disk g = store_of g.D.Disk.now g.D.Disk.moment g.D.Disk.images g.D.Disk.images_at g.D.Disk.since g.D.Disk.faults

laws : (g : Over) → AreDisks (disk g)
laws g = record { now_is_image = g.met.D.Disk.now_is_image; counts_now = g.met.D.Disk.counts_now; only_now = g.met.D.Disk.only_now; since_earlier = g.met.D.Disk.since_earlier; since_at = λ d t u c from within there. (g.met.D.Disk.since_is d t c).1 (record { moment = u; from = from; within = within; image = there }); at_since = λ d t c was. (g.met.D.Disk.since_is d t c).0 was }

kept_told : (o : Option (List ℕ)) (p : Option (List Kept)) (kept : List Kept) → p ≡ option_map (λ _. kept) o → IfSome p (λ x. x ≡ kept)
kept_told None p kept is = subst (λ (q : Option (List Kept)). IfSome q (λ x. x ≡ kept)) (sym is) tt
kept_told (Some x) p kept is = subst (λ (q : Option (List Kept)). IfSome q (λ x. x ≡ kept)) (sym is) refl

pub fill-filled-requires : goal.fill-filled-requires
fill-filled-requires g c =
    let o = c.in-Ok.ensures in
    record { live = o.live; of_table = o.keeper; quasis = kept_told _ _ _ o.quasis; is_table = c.front-rows.ensures.is_table; all_read = o.all_read }

pub returns-in-Ok : goal.returns-in-Ok
returns-in-Ok g c =
    let o = c.in-Ok.ensures in
    let e = c.line_after.ensures in
    subst (HasUsed (disk g) migrating c.args.module.plain (Migration c.args.module) c.line_after.result c.args.disk) (sym c.into_disk.ensures)
    (migrated_on (disk g) (laws g) c.args.module c.args.disk c.line_after.result c.in-Ok.table c.fill-filled.new.table c.in-Ok.keeper c.fill-filled.new.file c.fill-filled.result o.squares o.resolved (sym o.keeper.resolved ∙ o.resolved) o.quasis o.no_fault o.any_moment o.retained o.live o.file o.left_alone c.fill-filled.ensures e.line e.done e.failed e.why)

pub returns-in-Err : goal.returns-in-Err
returns-in-Err g c =
    let e = c.in-Err.ensures in
    subst (λ (failure : Failure). HasUsed (disk g) migrating c.args.module.plain (Migration c.args.module) (Err failure) c.args.disk c.in-Err.disk) (sym c.from.ensures)
    (not_used (disk g) (laws g) c.args.module.plain c.args.disk c.in-Err.fault c.in-Err.disk e.refused e.same e.unwritten e.any_moment e.never_fall e.retained e.cause e.quiet migrating (Migration c.args.module))
