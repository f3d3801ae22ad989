use Rattle.std.proofs.Common.{◌≡◌, ◌<◌, List, Bool, [], subst, arith, refl}
use Rattle.std.proofs.lemmas.List.{get_or_read}
use Rattle.f2_vec.specs.Vectors.{IsFirstOne, IsZero}
use Rattle.f2_vec.specs.Spans.{row}
use Rattle.f2_matrix.proofs.Pivots.{pivot_first}
use Rattle.f2_choice.proofs.Tables.{IsTableTo-more}
use Rattle.f2_choice.proofs.pivots.table_of_pivots.Goals as goal
use Rattle.f2_choice.proofs.pivots.table_of_pivots.Goals.{in-Some, in_default}

pub index_mut-requires : goal.index_mut-requires
index_mut-requires c =
    let i = c.loop-i.i in
    let rows = c.args.rows.now in
    let v : c.index-rows-i.result ≡ row rows i = get_or_read rows i c.index-rows-i.result c.loop-i-test.true c.index-rows-i.is [] in
    let first : IsFirstOne (row rows i) c.in-Some.pivot = subst (λ (z : List Bool). IsFirstOne z c.in-Some.pivot) v c.in-Some.ensures.first in
    omega (arith, pivot_first (row rows i) c.in-Some.pivot first, c.requires.within i c.loop-i-test.true, c.loop-i.invariant.size, c.loop-i.table.ok)

pub loop-i-preserved : goal.loop-i-preserved
loop-i-preserved c =
    let i = c.loop-i.i in
    let rows = c.args.rows.now in
    let v : c.index-rows-i.result ≡ row rows i = get_or_read rows i c.index-rows-i.result c.loop-i-test.true c.index-rows-i.is [] in
    elim c.match-first_one.branch [
      | in-Some w ↦
          let first : IsFirstOne (row rows i) w.in-Some.pivot = subst (λ (z : List Bool). IsFirstOne z w.in-Some.pivot) v w.in-Some.ensures.first in
          let within : w.in-Some.pivot < c.args.n = omega (arith, pivot_first (row rows i) w.in-Some.pivot first, c.requires.within i c.loop-i-test.true) in
          rw w.table-is (IsTableTo-more i c.args.n w.in-Some.pivot rows c.loop-i.table.items c.loop-i.invariant c.loop-i-test.true within first)
      | in_default w ↦ absurd (c.requires.nonzero i c.loop-i-test.true (subst IsZero v (w.in_default.ensures.none.0 refl)))
    ]
