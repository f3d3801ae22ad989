use Rattle.std.proofs.Common.{◌≡◌, ◌+◌, ◌<◌, ℕ, inl, inr, sym, ◌∙◌, arith}
use Rattle.std.specs.Prelude.{Ok}
use Rattle.std.proofs.lemmas.Bool.{cases_lt}
use Rattle.std.proofs.lemmas.Result.{err_from_is_err_and}
use Rattle.square.specs.Tables.{row_in}
use Rattle.square.proofs.Places.{slice_get-there}
use Rattle.ext_run.specs.Devices.{Store, store_of}
use Rattle.ext_run.proofs.Lasting.{AreDisks}
use Rattle.ext_run.proofs.Filled.{filled_same, filled_then, filled_ok, filled_wider}
use Rattle.ext_run.proofs.migrating.fill_row.Given.{Over}
use Rattle.ext_run.proofs.migrating.fill_row.Goals as goal

abbrev disk : (g : Over) → Store g.row.D.Denot
disk g = store_of g.D.Disk.now g.D.Disk.moment g.D.Disk.images g.D.Disk.images_at g.D.Disk.since g.D.Disk.faults

laws : (g : Over) → AreDisks (disk g)
laws g = record { now_is_image = g.met.D.Disk.now_is_image; counts_now = g.met.D.Disk.counts_now; only_now = g.met.D.Disk.only_now; since_earlier = g.met.D.Disk.since_earlier; since_at = λ d t u c from within there. (g.met.D.Disk.since_is d t c).1 (record { moment = u; from = from; within = within; image = there }); at_since = λ d t c was. (g.met.D.Disk.since_is d t c).0 was }

-- the squares of row s before one, and that one
abbrev IsSoFar : ℕ → ℕ → ℕ → ℕ → Type 0
IsSoFar s n i j = (i ≡ s) × (j < n)

abbrev IsThat : ℕ → ℕ → ℕ → ℕ → Type 0
IsThat s n i j = (i ≡ s) × (j ≡ n)

pub loop-above-init : goal.loop-above-init
loop-above-init g c = filled_same (disk g) (laws g) (IsSoFar c.args.s 0) c.args.table.now c.args.file.now c.requires.file (λ reads i j none l. absurd (let h = none.1 in omega (arith, h)))

pub fill_square-requires-clause-file : goal.fill_square-requires-clause-file
fill_square-requires-clause-file g c = c.loop-above.invariant.is_file

pub returns-in_err-fill_square : goal.returns-in_err-fill_square
returns-in_err-fill_square g c =
    let s = c.args.s in
    let n = c.loop-above.above in
    let p = err_from_is_err_and c.from_residual.result c.from_residual.ensures.1 in
    rw (p.1, p.2, ← c.in_err-fill_square.was) (filled_then (disk g) (laws g) (IsSoFar s n) (IsThat s n) (λ i j. i ≡ s) (λ i j h. h.0) (λ i j h. h.0) (λ i j k l h e. inr (h.0 ∙ sym e.0, let a = h.1 in let b = e.1 in omega (arith, a, b)))
    _ _ _ _ _ _ c.fill_square.result (λ is. absurd (let bad = c.in_err-fill_square.was in cc)) c.loop-above.invariant c.fill_square.ensures)

pub loop-above-preserved : goal.loop-above-preserved
loop-above-preserved g c =
    let s = c.args.s in
    let n = c.loop-above.above in
    filled_then (disk g) (laws g) (IsSoFar s n) (IsThat s n) (IsSoFar s (n + 1)) (λ i j h. (h.0, let a = h.1 in omega (arith, a))) (λ i j h. (h.0, let a = h.1 in omega (arith, a))) (λ i j k l h e. inr (h.0 ∙ sym e.0, let a = h.1 in let b = e.1 in omega (arith, a, b)))
    _ _ _ _ _ _ (Ok tt) (λ is i j h l. elim (cases_lt j n) [
      | inl low ↦ inl (h.0, low)
      | inr high ↦ inr (h.0, let a = h.1 in omega (arith, a, high))
    ]) c.loop-above.invariant (filled_ok (disk g) (laws g) _ _ _ _ _ c.fill_square.result _ c.in_ok-fill_square.was c.fill_square.ensures)

-- no square stands past the last degree
pub returns : goal.returns
returns g c =
    let invariant = c.loop-above.invariant in
    filled_wider (disk g) (laws g) (IsSoFar c.args.s c.loop-above.above) (λ i j. i ≡ c.args.s) (λ i j h. h.0) _ _ _ _ (λ i j e l.
    let there = slice_get-there (row_in c.loop-above.table.rows i) j l in
    let within = (invariant.is_file.is_table.placed i j there.0 there.1).within in
    (e, omega (arith, within))) invariant
