use Rattle.std.proofs.Common.{◌≡◌, ◌≤◌, ℕ, List, ap, sym, subst, ◌∙◌, arith}
use Rattle.std.specs.Arc.{arc_value}
use Rattle.square.specs.Squares.{Placed, IsSquare}
use Rattle.square.specs.Tables.{Shelf, Staircase, IsTable}
use Rattle.square.proofs.Pushing.{row_held, table_pushed, map-pushed, map-same_squares, HaveRoom-set}
use Rattle.square.proofs.table.Table.push.Goals as goal

pub invariant_of-self : goal.invariant_of-self
invariant_of-self c =
    let q = arc_value c.args.square in
    let square : IsSquare q = subst IsSquare c.deref-2.ensures c.start.ensures.is_square in
    let at : c.from-s.result ≡ q.s = c.from-s.ensures ∙ c.s.ensures ∙ ap (λ (x : Placed). x.s) c.deref.ensures in
    let starts : c.again-start.result ≡ q.start = c.again-start.ensures ∙ c.start.ensures.start ∙ ap (λ (x : Placed). x.start) c.deref-2.ensures in
    let old = c.index_mut.result.now in
    let there = row_held (arc_value c.self.inside.module) c.self.inside.start c.self.inside.rows.items c.from-s.result c.self.inside.spare old q c.self.invariant.0 square at c.index_mut.ensures.value in
    let room : c.self.inside.spare ≤ old.room = c.self.invariant.1 c.from-s.result old there in
    let less = c.saturating_sub-self-inside.ensures in
    let more = c.in-Ok.ensures.room in (
      table_pushed (arc_value c.self.inside.module) c.self.inside.start c.again-start.result c.self.inside.rows.items c.from-s.result c.self.inside.spare c.saturating_sub-self-inside.result old c.push.new.self q c.args.self.now c.self.invariant.0 c.self.view_is square c.requires.resolved c.requires.next c.requires.continued at starts there c.in-Ok.ensures.ok,
      HaveRoom-set c.self.inside.rows.items c.from-s.result c.push.new.self c.self.inside.spare c.saturating_sub-self-inside.result c.self.invariant.1 (omega arith) (omega arith),
    )

pub invariant_of-self-in-Err : goal.invariant_of-self-in-Err
invariant_of-self-in-Err c =
    let q = arc_value c.args.square in
    let square : IsSquare q = subst IsSquare c.deref-2.ensures c.start.ensures.is_square in
    let at : c.from-s.result ≡ q.s = c.from-s.ensures ∙ c.s.ensures ∙ ap (λ (x : Placed). x.s) c.deref.ensures in
    let old = c.index_mut.result.now in
    let there = row_held (arc_value c.self.inside.module) c.self.inside.start c.self.inside.rows.items c.from-s.result c.self.inside.spare old q c.self.invariant.0 square at c.index_mut.ensures.value in
    let room : c.self.inside.spare ≤ old.room = c.self.invariant.1 c.from-s.result old there in
    let more = c.in-Err.ensures.kept in
    let P : List (List Placed) → Type 0 = λ rows. IsTable (record { resolved = arc_value c.self.inside.module; start = c.self.inside.start; rows = rows; spare = c.self.inside.spare }) in (
      subst P (sym (map-same_squares c.self.inside.rows.items c.from-s.result old c.push.new.self there c.in-Err.ensures.err)) c.self.invariant.0,
      HaveRoom-set c.self.inside.rows.items c.from-s.result c.push.new.self c.self.inside.spare c.self.inside.spare c.self.invariant.1 (omega arith) (omega arith),
    )

pub returns-in-Ok-clause-rows : goal.returns-in-Ok-clause-rows
returns-in-Ok-clause-rows c =
    let q = arc_value c.args.square in
    let square : IsSquare q = subst IsSquare c.deref-2.ensures c.start.ensures.is_square in
    let at : c.from-s.result ≡ q.s = c.from-s.ensures ∙ c.s.ensures ∙ ap (λ (x : Placed). x.s) c.deref.ensures in
    let old = c.index_mut.result.now in
    let there = row_held (arc_value c.self.inside.module) c.self.inside.start c.self.inside.rows.items c.from-s.result c.self.inside.spare old q c.self.invariant.0 square at c.index_mut.ensures.value in
    map-pushed c.self.inside.rows.items c.from-s.result old c.push.new.self q there c.in-Ok.ensures.ok
    ∙ ap (λ (rows : List (List Placed)). Rattle.square.specs.Tables.with_square rows c.from-s.result q) (ap (λ (t : Staircase). t.rows) c.self.view_is)
    ∙ ap (λ (n : ℕ). Rattle.square.specs.Tables.with_square c.args.self.now.rows n q) at

pub returns-in-Err-clause-succeeds : goal.returns-in-Err-clause-succeeds
returns-in-Err-clause-succeeds c l =
    let q = arc_value c.args.square in
    let square : IsSquare q = subst IsSquare c.deref-2.ensures c.start.ensures.is_square in
    let at : c.from-s.result ≡ q.s = c.from-s.ensures ∙ c.s.ensures ∙ ap (λ (x : Placed). x.s) c.deref.ensures in
    let old = c.index_mut.result.now in
    let there = row_held (arc_value c.self.inside.module) c.self.inside.start c.self.inside.rows.items c.from-s.result c.self.inside.spare old q c.self.invariant.0 square at c.index_mut.ensures.value in
    let room : c.self.inside.spare ≤ old.room = c.self.invariant.1 c.from-s.result old there in
    let same = ap (λ (t : Staircase). t.spare) c.self.view_is in
    c.in-Err.ensures.succeeds (omega arith)

pub returns-in-Err-clause-err : goal.returns-in-Err-clause-err
returns-in-Err-clause-err c =
    let q = arc_value c.args.square in
    let square : IsSquare q = subst IsSquare c.deref-2.ensures c.start.ensures.is_square in
    let at : c.from-s.result ≡ q.s = c.from-s.ensures ∙ c.s.ensures ∙ ap (λ (x : Placed). x.s) c.deref.ensures in
    let old = c.index_mut.result.now in
    let there = row_held (arc_value c.self.inside.module) c.self.inside.start c.self.inside.rows.items c.from-s.result c.self.inside.spare old q c.self.invariant.0 square at c.index_mut.ensures.value in
    let seen = λ (rows : List (List Placed)). let t : Staircase = record { resolved = arc_value c.self.inside.module; start = c.self.inside.start; rows = rows; spare = c.self.inside.spare } in t in
    ap seen (map-same_squares c.self.inside.rows.items c.from-s.result old c.push.new.self there c.in-Err.ensures.err) ∙ c.self.view_is
