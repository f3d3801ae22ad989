use Rattle.std.proofs.Common.{◌≡◌, ℕ, ℤ, List, map, Some, w32, to_z, of_z, ap, sym, subst, ◌∙◌, arith}
use Rattle.std.proofs.lemmas.Int.{to_z-of_z}
use Rattle.std.proofs.lemmas.Option.{slice_get_within}
use Rattle.std.specs.Arc.{arc_value}
use Rattle.square.specs.Squares.{Placed}
use Rattle.square.specs.Tables.{Shelf, Staircase, plain_rows, square_at, with_quasi, IsTable}
use Rattle.square.proofs.Found.{found_above}
use Rattle.square.proofs.Pushing.{HaveRoom-set}
use Rattle.square.proofs.Reducing.{held_found, put_reduced, IsTable-quasi, plain_rows-with_quasi}
use Rattle.square.proofs.table.Table.add_quasi.Goals as goal

pub replace-requires : goal.replace-requires
replace-requires c =
    let now = c.args.self.now in
    let rows = c.self.inside.rows.items in
    let table = subst IsTable c.self.view_is c.self.invariant.0 in
    let q = c.requires.lacks.square in
    let old = c.index_mut.result.now in
    let i = c.from.result in
    let j = c.from-above.result in
    let seen = ap (λ (x : Staircase). x.rows) c.self.view_is in
    let there : square_at now c.args.s (to_z w32 (of_z w32 c.args.t)) ≡ Some q = subst (λ (x : ℤ). square_at now c.args.s x ≡ Some q) (sym (to_z-of_z w32 c.args.t c.ranges.t)) c.requires.lacks.there in
    let reduced = c.in_ok-square.ensures.square q there in
    let at : j ≡ q.above = c.from-above.ensures ∙ c.above.ensures.above ∙ ap (λ (x : Placed). x.above) (c.deref.ensures ∙ reduced) in
    let held = held_found now table c.args.s c.args.t q rows i j old seen c.requires.lacks.there c.from.ensures at c.index_mut.ensures.value in
    let within = slice_get_within old.squares j q held.square in
    omega arith

pub invariant_of-self : goal.invariant_of-self
invariant_of-self c =
    let now = c.args.self.now in
    let rows = c.self.inside.rows.items in
    let table = subst IsTable c.self.view_is c.self.invariant.0 in
    let q = c.requires.lacks.square in
    let old = c.index_mut.result.now in
    let i = c.from.result in
    let j = c.from-above.result in
    let seen = ap (λ (x : Staircase). x.rows) c.self.view_is in
    let there : square_at now c.args.s (to_z w32 (of_z w32 c.args.t)) ≡ Some q = subst (λ (x : ℤ). square_at now c.args.s x ≡ Some q) (sym (to_z-of_z w32 c.args.t c.ranges.t)) c.requires.lacks.there in
    let reduced = c.in_ok-square.ensures.square q there in
    let at : j ≡ q.above = c.from-above.ensures ∙ c.above.ensures.above ∙ ap (λ (x : Placed). x.above) (c.deref.ensures ∙ reduced) in
    let held = held_found now table c.args.s c.args.t q rows i j old seen c.requires.lacks.there c.from.ensures at c.index_mut.ensures.value in
    let put = put_reduced rows i j old c.replace.new.self q (arc_value c.in_ok-square.square) c.args.quasi held reduced c.replace.ensures.squares in
    let room = c.self.invariant.1 i old held.row in
    let kept = c.replace.ensures.room in (
      IsTable-quasi (arc_value c.self.inside.module) c.self.inside.start (map (λ (r : Shelf). r.squares) rows) _ i j c.self.inside.spare c.self.inside.spare c.args.quasi put c.self.invariant.0,
      HaveRoom-set rows i c.replace.new.self c.self.inside.spare c.self.inside.spare c.self.invariant.1 (omega arith) (omega arith),
    )

pub returns-clause-rows : goal.returns-clause-rows
returns-clause-rows c k degree =
    let now = c.args.self.now in
    let rows = c.self.inside.rows.items in
    let table = subst IsTable c.self.view_is c.self.invariant.0 in
    let q = c.requires.lacks.square in
    let old = c.index_mut.result.now in
    let i = c.from.result in
    let j = c.from-above.result in
    let seen = ap (λ (x : Staircase). x.rows) c.self.view_is in
    let there : square_at now c.args.s (to_z w32 (of_z w32 c.args.t)) ≡ Some q = subst (λ (x : ℤ). square_at now c.args.s x ≡ Some q) (sym (to_z-of_z w32 c.args.t c.ranges.t)) c.requires.lacks.there in
    let reduced = c.in_ok-square.ensures.square q there in
    let at : j ≡ q.above = c.from-above.ensures ∙ c.above.ensures.above ∙ ap (λ (x : Placed). x.above) (c.deref.ensures ∙ reduced) in
    let held = held_found now table c.args.s c.args.t q rows i j old seen c.requires.lacks.there c.from.ensures at c.index_mut.ensures.value in
    let put = put_reduced rows i j old c.replace.new.self q (arc_value c.in_ok-square.square) c.args.quasi held reduced c.replace.ensures.squares in
    let same : j ≡ k = at ∙ found_above now table c.args.s c.args.t q k c.requires.lacks.there degree in
    put ∙ ap (λ (x : List (List Placed)). with_quasi x i j c.args.quasi) seen ∙ ap (λ (n : ℕ). with_quasi now.rows n j c.args.quasi) c.from.ensures ∙ ap (λ (n : ℕ). with_quasi now.rows c.args.s n c.args.quasi) same

pub returns-clause-contents : goal.returns-clause-contents
returns-clause-contents c =
    let now = c.args.self.now in
    let rows = c.self.inside.rows.items in
    let table = subst IsTable c.self.view_is c.self.invariant.0 in
    let q = c.requires.lacks.square in
    let old = c.index_mut.result.now in
    let i = c.from.result in
    let j = c.from-above.result in
    let seen = ap (λ (x : Staircase). x.rows) c.self.view_is in
    let there : square_at now c.args.s (to_z w32 (of_z w32 c.args.t)) ≡ Some q = subst (λ (x : ℤ). square_at now c.args.s x ≡ Some q) (sym (to_z-of_z w32 c.args.t c.ranges.t)) c.requires.lacks.there in
    let reduced = c.in_ok-square.ensures.square q there in
    let at : j ≡ q.above = c.from-above.ensures ∙ c.above.ensures.above ∙ ap (λ (x : Placed). x.above) (c.deref.ensures ∙ reduced) in
    let held = held_found now table c.args.s c.args.t q rows i j old seen c.requires.lacks.there c.from.ensures at c.index_mut.ensures.value in
    let put = put_reduced rows i j old c.replace.new.self q (arc_value c.in_ok-square.square) c.args.quasi held reduced c.replace.ensures.squares in
    ap plain_rows put ∙ plain_rows-with_quasi (map (λ (r : Shelf). r.squares) rows) i j c.args.quasi ∙ ap plain_rows seen
