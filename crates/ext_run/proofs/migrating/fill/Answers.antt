use Rattle.std.proofs.Common.{◌≡◌, ◌+◌, ◌<◌, ◌≤◌, inl, inr, arith}
use Rattle.std.specs.Prelude.{Ok}
use Rattle.std.proofs.lemmas.Bool.{cases_lt}
use Rattle.std.proofs.lemmas.Result.{err_from_is_err_and}
use Rattle.bidegree.specs.declared.range.TheConstants.{MAX_S}
use Rattle.ext_run.specs.Devices.{Store, store_of}
use Rattle.ext_run.proofs.Lasting.{AreDisks}
use Rattle.ext_run.proofs.Filled.{filled_same, filled_then, filled_ok, filled_wider}
use Rattle.ext_run.proofs.migrating.fill.Given.{Over}
use Rattle.ext_run.proofs.migrating.fill.Goals as goal

abbrev disk : (g : Over) → Store g.row.D.Denot
disk g = store_of g.D.Disk.now g.D.Disk.moment g.D.Disk.images g.D.Disk.images_at g.D.Disk.since g.D.Disk.faults

laws : (g : Over) → AreDisks (disk g)
laws g = record { now_is_image = g.met.D.Disk.now_is_image; counts_now = g.met.D.Disk.counts_now; only_now = g.met.D.Disk.only_now; since_earlier = g.met.D.Disk.since_earlier; since_at = λ d t u c from within there. (g.met.D.Disk.since_is d t c).1 (record { moment = u; from = from; within = within; image = there }); at_since = λ d t c was. (g.met.D.Disk.since_is d t c).0 was }

pub loop-s-init : goal.loop-s-init
loop-s-init g c = filled_same (disk g) (laws g) (λ i j. i < 0) c.args.table.now c.args.file.now c.requires (λ reads i j none l. absurd (omega (arith, none)))

pub fill_row-requires-clause-file : goal.fill_row-requires-clause-file
fill_row-requires-clause-file g c = c.loop-s.invariant.is_file

pub returns-in_err-fill_row : goal.returns-in_err-fill_row
returns-in_err-fill_row g c =
    let s = c.loop-s.s in
    let test : s ≤ MAX_S = c.loop-s-test.true in
    let p = err_from_is_err_and c.from_residual.result c.from_residual.ensures.1 in
    rw (p.1, p.2, ← c.in_err-fill_row.was) (filled_then (disk g) (laws g) (λ i j. i < s) (λ i j. i ≡ s) (λ i j. i ≤ MAX_S) (λ i j h. omega (arith, h, test)) (λ i j e. omega (arith, e, test)) (λ i j k l h e. inl (omega (arith, h, e)))
    _ _ _ _ _ _ c.fill_row.result (λ is. absurd (let bad = c.in_err-fill_row.was in cc)) c.loop-s.invariant c.fill_row.ensures)

pub loop-s-preserved : goal.loop-s-preserved
loop-s-preserved g c =
    let s = c.loop-s.s in
    filled_then (disk g) (laws g) (λ i j. i < s) (λ i j. i ≡ s) (λ i j. i < s + 1) (λ i j h. omega (arith, h)) (λ i j e. omega (arith, e)) (λ i j k l h e. inl (omega (arith, h, e)))
    _ _ _ _ _ _ (Ok tt) (λ is i j h l. elim (cases_lt i s) [
      | inl low ↦ inl low
      | inr high ↦ inr (omega (arith, h, high))
    ]) c.loop-s.invariant (filled_ok (disk g) (laws g) _ _ _ _ _ c.fill_row.result _ c.in_ok-fill_row.was c.fill_row.ensures)

pub returns : goal.returns
returns g c = filled_wider (disk g) (laws g) (λ i j. i < c.loop-s.s) (λ i j. i ≤ MAX_S) (λ i j h. omega (arith, h)) _ _ _ _ (λ i j h l. omega (arith, h)) c.loop-s.invariant
