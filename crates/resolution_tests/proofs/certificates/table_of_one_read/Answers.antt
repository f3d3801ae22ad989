use Rattle.std.proofs.Common.{◌≡◌, ◌⊎◌, inr, ◌+◌, [], ◌∷◌, ◌++◌, sym, ap, subst}
use Rattle.bidegree.specs.declared.range.TheConstants.{MAX_S}
use Rattle.square.specs.Squares.{Placed, entry_of}
use Rattle.square.specs.Tables.{Staircase, AllRead}
use Rattle.resolution_tests.proofs.SphereSquare.{none_read, first_readable}
use Rattle.resolution_tests.proofs.certificates.table_of_one_read.Goals as goal

pub read-square-requires-clause-content : goal.read-square-requires-clause-content
read-square-requires-clause-content c =
    first_readable c.in_ok-sphere.field-0 c.in_ok-table.table c.in_ok-one_row.field-0.items c.new-2.result.items c.in_ok-sphere.ensures c.in_ok-table.ensures c.in_ok-one_row.ensures c.new-2.ensures.items

pub push-requires-clause-continued : goal.push-requires-clause-continued
push-requires-clause-continued c =
    let table = c.in_ok-table.table in
    let read : AllRead table.rows = subst AllRead (sym (ap (λ (x : Staircase). x.rows) c.in_ok-table.ensures)) (none_read (MAX_S + 1)) in
    let P : Placed → Type 0 = λ q. (q.start ≡ table.start) ⊎ (AllRead table.rows × (q.start ≡ table.start ++ entry_of q ∷ [])) in
    subst P (sym c.in_ok-square.ensures.ok) (inr (read, c.read-square.ensures.start))
