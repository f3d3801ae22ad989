use Rattle.std.proofs.Common.{◌≡◌, ℕ, ℤ, pos, ◌+ℤ◌, Some, OnOk, to_z, of_z, w32, rules, sym, ap, subst}
use Rattle.std.proofs.lemmas.Result.{on_ok_weaker}
use Rattle.f2_matrix.specs.Reduction.{Reduction}
use Rattle.square.specs.Squares.{bottom_of, over}
use Rattle.square.specs.Tables.{Staircase, AllRead, LacksQuasi, with_quasi}
use Rattle.save_file.specs.Reading.{after_body}
use Rattle.save_file.specs.Saved.{IsDecoded, IsDecodedQuasi, kept_of_table}
use Rattle.save_file.proofs.TakingUp.{square_behind, quasi_behind, all_read_still}
use Rattle.save_file.proofs.resuming.read_body.Goals.{in-Ok, in-Err}
use Rattle.save_file.proofs.resuming.read_body.Goals as goal

pub add_quasi-requires-clause-lacks : goal.add_quasi-requires-clause-lacks
add_quasi-requires-clause-lacks c =
    let d : IsDecodedQuasi c.args.table.now c.args.body.now c.in-Quasi.s c.in-Quasi.t c.in-Quasi.quasi = subst (IsDecoded c.args.table.now c.args.body.now) c.in-Quasi.is c.in_ok-square.ensures.decoded in
    let same : c.in-Quasi.t ≡ to_z w32 (of_z w32 c.in-Quasi.t) = search rules in
    subst (λ t. LacksQuasi c.args.table.now c.in-Quasi.s t c.in-Quasi.quasi) same d.lacks

pub returns-in-Square-clause-read : goal.returns-in-Square-clause-read
returns-in-Square-clause-read c =
    on_ok_weaker c.put_square.result (square_behind c.args.table.now c.put_square.new.table c.args.body.now c.in-Square.square (subst (IsDecoded c.args.table.now c.args.body.now) c.in-Square.is c.in_ok-square.ensures.decoded)) c.put_square.ensures.put

-- the rows are those with the quasi-inverse, in the degree that was read
abbrev IsGiven : Staircase → Staircase → ℕ → ℤ → Reduction → Type 0
IsGiven old new s t r = (k : ℕ) → t ≡ bottom_of old.resolved +ℤ pos k → new.rows ≡ with_quasi old.rows s k r

pub returns-after-add_quasi-clause-read : goal.returns-after-add_quasi-clause-read
returns-after-add_quasi-clause-read c =
    let table = c.args.table.now in
    let new = c.add_quasi.new.self in
    let d : IsDecodedQuasi table c.args.body.now c.in-Quasi.s c.in-Quasi.t c.in-Quasi.quasi = subst (IsDecoded table c.args.body.now) c.in-Quasi.is c.in_ok-square.ensures.decoded in
    let same : to_z w32 (of_z w32 c.in-Quasi.t) ≡ c.in-Quasi.t = search rules in
    let start = ap (λ (x : Staircase). x.start) c.add_quasi.ensures.same in
    elim c.match-add_quasi.branch [
      | in-Ok w ↦ subst (λ x. OnOk x (after_body (over table.resolved) (kept_of_table table) c.args.body.now ≡ Some (kept_of_table new))) (sym w.result-is) (quasi_behind table new c.args.body.now c.in-Quasi.s c.in-Quasi.t c.in-Quasi.quasi d (subst (λ t. IsGiven table new c.in-Quasi.s t c.in-Quasi.quasi) same w.in-Ok.ensures.rows) start)
      | in-Err w ↦ subst (λ x. OnOk x (after_body (over table.resolved) (kept_of_table table) c.args.body.now ≡ Some (kept_of_table new))) (sym w.result-is) tt
    ]

pub returns-after-add_quasi-clause-all_read : goal.returns-after-add_quasi-clause-all_read
returns-after-add_quasi-clause-all_read c =
    let table = c.args.table.now in
    let new = c.add_quasi.new.self in
    let d : IsDecodedQuasi table c.args.body.now c.in-Quasi.s c.in-Quasi.t c.in-Quasi.quasi = subst (IsDecoded table c.args.body.now) c.in-Quasi.is c.in_ok-square.ensures.decoded in
    let same : to_z w32 (of_z w32 c.in-Quasi.t) ≡ c.in-Quasi.t = search rules in
    elim c.match-add_quasi.branch [
      | in-Ok w ↦ all_read_still table new.rows c.args.body.now c.in-Quasi.s c.in-Quasi.t c.in-Quasi.quasi d (subst (λ t. IsGiven table new c.in-Quasi.s t c.in-Quasi.quasi) same w.in-Ok.ensures.rows) c.requires
      | in-Err w ↦ subst (λ (x : Staircase). AllRead x.rows) (sym w.in-Err.ensures.err) c.requires
    ]
