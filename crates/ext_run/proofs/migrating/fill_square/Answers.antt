use Rattle.std.proofs.Common.{◌≡◌, ℕ, ◌∙◌, sym, subst, pos, ◌+ℤ◌, to_z, of_z, w32, Err}
use Rattle.std.proofs.lemmas.Int.{to_z-of_z}
use Rattle.std.proofs.lemmas.Option.{slice_get_within}
use Rattle.std.proofs.lemmas.Result.{err_from_is_err_and}
use Rattle.f2_matrix.specs.Reduction.{Reduction}
use Rattle.square.specs.declared.keep.KeepFault.TheVariants.{Memory}
use Rattle.square.specs.Squares.{bottom_of}
use Rattle.square.specs.Tables.{Staircase, row_in, IsQuasiAt, LacksQuasi}
use Rattle.square.proofs.ByDegree.{square_at-above}
use Rattle.save_file.specs.Saving.{quasis_in}
use Rattle.ext_run.specs.Devices.{Store, store_of}
use Rattle.ext_run.specs.Inside.Adding.{HasFilled}
use Rattle.ext_run.proofs.Lasting.{at_some, AreDisks}
use Rattle.ext_run.proofs.Filled.{filled_not, filled_left, there_after, kernel_after, keeper_after, bare_before, bare_there, filled_given}
use Rattle.ext_run.proofs.migrating.fill_square.Given.{Over}
use Rattle.ext_run.proofs.migrating.fill_square.Goals as goal

abbrev disk : (g : Over) → Store g.row.D.Denot
disk g = store_of g.D.Disk.now g.D.Disk.moment g.D.Disk.images g.D.Disk.images_at g.D.Disk.since g.D.Disk.faults

laws : (g : Over) → AreDisks (disk g)
laws g = record { now_is_image = g.met.D.Disk.now_is_image; counts_now = g.met.D.Disk.counts_now; only_now = g.met.D.Disk.only_now; since_earlier = g.met.D.Disk.since_earlier; since_at = λ d t u c from within there. (g.met.D.Disk.since_is d t c).1 (record { moment = u; from = from; within = within; image = there }); at_since = λ d t c was. (g.met.D.Disk.since_is d t c).0 was }

-- just that square
abbrev IsThat : ℕ → ℕ → ℕ → ℕ → Type 0
IsThat s n i j = (i ≡ s) × (j ≡ n)

pub returns-in_err-quasi : goal.returns-in_err-quasi
returns-in_err-quasi g c =
    let p = err_from_is_err_and c.from_residual.result c.from_residual.ensures.1 in
    rw (p.1, p.2) (filled_not (disk g) (laws g) (IsThat c.args.s c.args.above) c.args.table.now c.args.file.now c.requires.file)

pub returns-in_default : goal.returns-in_default
returns-in_default g c =
    let t = to_z w32 (of_z w32 c.degree-t.result) in
    let degree : t ≡ bottom_of c.args.table.now.resolved +ℤ pos c.args.above = to_z-of_z w32 c.degree-t.result (record { sfits = c.degree-t.type_inv }) ∙ c.degree-t.ensures in
    filled_left (disk g) (laws g) c.canonical_table_is_minimal_resolution.ensures c.modules_are_graded_modules.ensures c.args.table.now c.args.file.now c.requires.file c.args.s c.args.above t degree (rw c.in_default.is at c.in_ok-quasi.ensures.none)

pub returns-in_default-add_quasi : goal.returns-in_default-add_quasi
returns-in_default-add_quasi g c =
    subst (λ (after : Staircase). HasFilled {T = Unit {0}} (disk g) (IsThat c.args.s c.args.above) (Err Memory) c.args.table.now after c.args.file.now c.args.file.now) (sym c.in_default-add_quasi.ensures.err)
    (filled_not (disk g) (laws g) (IsThat c.args.s c.args.above) c.args.table.now c.args.file.now c.requires.file)

pub keep_quasi-requires-clause-there : goal.keep_quasi-requires-clause-there
keep_quasi-requires-clause-there g c =
    let t = to_z w32 (of_z w32 c.degree-t.result) in
    let degree : t ≡ bottom_of c.args.table.now.resolved +ℤ pos c.args.above = to_z-of_z w32 c.degree-t.result (record { sfits = c.degree-t.type_inv }) ∙ c.degree-t.ensures in
    let lacks = at_some c.in_ok-quasi.field-0 (λ (q : Reduction). LacksQuasi c.args.table.now c.args.s t q) c.in-Some.quasi c.in-Some.is c.in_ok-quasi.ensures.lacks in
    let is_quasi = at_some c.in_ok-quasi.field-0 (λ (q : Reduction). IsQuasiAt c.args.table.now c.args.s t q) c.in-Some.quasi c.in-Some.is c.in_ok-quasi.ensures.quasi in
    let within = slice_get_within (row_in c.args.table.now.rows c.args.s) c.args.above lacks.square (sym (square_at-above c.args.table.now c.args.s c.args.above t degree) ∙ lacks.there) in
    there_after (disk g) (laws g) c.args.table.now c.add_quasi.new.self c.args.s c.args.above t c.in-Some.quasi degree is_quasi within (c.in-Ok.ensures.rows c.args.above degree) c.in-Ok.ensures.contents c.in-Ok.ensures.same

pub keep_quasi-requires-clause-kernel : goal.keep_quasi-requires-clause-kernel
keep_quasi-requires-clause-kernel g c =
    let t = to_z w32 (of_z w32 c.degree-t.result) in
    let degree : t ≡ bottom_of c.args.table.now.resolved +ℤ pos c.args.above = to_z-of_z w32 c.degree-t.result (record { sfits = c.degree-t.type_inv }) ∙ c.degree-t.ensures in
    let lacks = at_some c.in_ok-quasi.field-0 (λ (q : Reduction). LacksQuasi c.args.table.now c.args.s t q) c.in-Some.quasi c.in-Some.is c.in_ok-quasi.ensures.lacks in
    let is_quasi = at_some c.in_ok-quasi.field-0 (λ (q : Reduction). IsQuasiAt c.args.table.now c.args.s t q) c.in-Some.quasi c.in-Some.is c.in_ok-quasi.ensures.quasi in
    let within = slice_get_within (row_in c.args.table.now.rows c.args.s) c.args.above lacks.square (sym (square_at-above c.args.table.now c.args.s c.args.above t degree) ∙ lacks.there) in
    λ r h. kernel_after (disk g) (laws g) c.args.table.now c.add_quasi.new.self c.args.s c.args.above t c.in-Some.quasi degree is_quasi within (c.in-Ok.ensures.rows c.args.above degree) c.in-Ok.ensures.contents c.in-Ok.ensures.same lacks r h

pub keep_quasi-requires-clause-of_table : goal.keep_quasi-requires-clause-of_table
keep_quasi-requires-clause-of_table g c =
    let t = to_z w32 (of_z w32 c.degree-t.result) in
    let degree : t ≡ bottom_of c.args.table.now.resolved +ℤ pos c.args.above = to_z-of_z w32 c.degree-t.result (record { sfits = c.degree-t.type_inv }) ∙ c.degree-t.ensures in
    let lacks = at_some c.in_ok-quasi.field-0 (λ (q : Reduction). LacksQuasi c.args.table.now c.args.s t q) c.in-Some.quasi c.in-Some.is c.in_ok-quasi.ensures.lacks in
    let is_quasi = at_some c.in_ok-quasi.field-0 (λ (q : Reduction). IsQuasiAt c.args.table.now c.args.s t q) c.in-Some.quasi c.in-Some.is c.in_ok-quasi.ensures.quasi in
    let within = slice_get_within (row_in c.args.table.now.rows c.args.s) c.args.above lacks.square (sym (square_at-above c.args.table.now c.args.s c.args.above t degree) ∙ lacks.there) in
    keeper_after (disk g) (laws g) c.args.table.now c.add_quasi.new.self c.args.s c.args.above t c.in-Some.quasi degree is_quasi within (c.in-Ok.ensures.rows c.args.above degree) c.in-Ok.ensures.contents c.in-Ok.ensures.same c.args.file.now c.requires.file.of_table

pub keep_quasi-requires-clause-bare : goal.keep_quasi-requires-clause-bare
keep_quasi-requires-clause-bare g c =
    let t = to_z w32 (of_z w32 c.degree-t.result) in
    let degree : t ≡ bottom_of c.args.table.now.resolved +ℤ pos c.args.above = to_z-of_z w32 c.degree-t.result (record { sfits = c.degree-t.type_inv }) ∙ c.degree-t.ensures in
    let lacks = at_some c.in_ok-quasi.field-0 (λ (q : Reduction). LacksQuasi c.args.table.now c.args.s t q) c.in-Some.quasi c.in-Some.is c.in_ok-quasi.ensures.lacks in
    let is_quasi = at_some c.in_ok-quasi.field-0 (λ (q : Reduction). IsQuasiAt c.args.table.now c.args.s t q) c.in-Some.quasi c.in-Some.is c.in_ok-quasi.ensures.quasi in
    let within = slice_get_within (row_in c.args.table.now.rows c.args.s) c.args.above lacks.square (sym (square_at-above c.args.table.now c.args.s c.args.above t degree) ∙ lacks.there) in
    bare_there (disk g) (laws g) c.args.table.now c.add_quasi.new.self c.args.s c.args.above t c.in-Some.quasi degree is_quasi within (c.in-Ok.ensures.rows c.args.above degree) c.in-Ok.ensures.contents c.in-Ok.ensures.same (quasis_in g.D.Disk.now c.args.file.now) (bare_before (disk g) (laws g) c.args.table.now c.add_quasi.new.self c.args.s c.args.above t c.in-Some.quasi degree is_quasi within (c.in-Ok.ensures.rows c.args.above degree) c.in-Ok.ensures.contents c.in-Ok.ensures.same c.requires.file.is_table c.requires.file.all_read lacks (quasis_in g.D.Disk.now c.args.file.now) c.requires.file.quasis)

pub returns : goal.returns
returns g c =
    let t = to_z w32 (of_z w32 c.degree-t.result) in
    let degree : t ≡ bottom_of c.args.table.now.resolved +ℤ pos c.args.above = to_z-of_z w32 c.degree-t.result (record { sfits = c.degree-t.type_inv }) ∙ c.degree-t.ensures in
    let lacks = at_some c.in_ok-quasi.field-0 (λ (q : Reduction). LacksQuasi c.args.table.now c.args.s t q) c.in-Some.quasi c.in-Some.is c.in_ok-quasi.ensures.lacks in
    let is_quasi = at_some c.in_ok-quasi.field-0 (λ (q : Reduction). IsQuasiAt c.args.table.now c.args.s t q) c.in-Some.quasi c.in-Some.is c.in_ok-quasi.ensures.quasi in
    let within = slice_get_within (row_in c.args.table.now.rows c.args.s) c.args.above lacks.square (sym (square_at-above c.args.table.now c.args.s c.args.above t degree) ∙ lacks.there) in
    let k = c.keep_quasi.ensures in
    filled_given (disk g) (laws g) c.args.table.now c.add_quasi.new.self c.args.s c.args.above t c.in-Some.quasi degree is_quasi within (c.in-Ok.ensures.rows c.args.above degree) c.in-Ok.ensures.contents c.in-Ok.ensures.same c.args.file.now c.keep_quasi.new.self c.requires.file c.keep_quasi.result k.kept (bare_before (disk g) (laws g) c.args.table.now c.add_quasi.new.self c.args.s c.args.above t c.in-Some.quasi degree is_quasi within (c.in-Ok.ensures.rows c.args.above degree) c.in-Ok.ensures.contents c.in-Ok.ensures.same c.requires.file.is_table c.requires.file.all_read lacks (quasis_in g.D.Disk.now c.args.file.now) c.requires.file.quasis) k.between k.past k.retained k.never_fall k.live k.no_fault k.put k.failed k.dead k.unput k.memory
