use Rattle.std.proofs.Common.{◌≡◌, ℕ, ℤ, ◌+◌, ◌≤◌, pos, ◌+ℤ◌, length, ap, sym, subst, ◌∙◌, w32, to_z, of_z, arith}
use Rattle.std.proofs.lemmas.Int.{ints}
use Rattle.std.proofs.lemmas.Result.{IfOk-weaker}
use Rattle.finite_module.specs.Checked.{Checked}
use Rattle.square.specs.Below.{graded_of, reaches_of}
use Rattle.square.specs.declared.below.Below.{Below}
use Rattle.square.specs.Squares.{bottom_of}
use Rattle.square.specs.Tables.{Staircase, IsTable, row_in}
use Rattle.square.proofs.Matrices.{images_fit, within_reach, matrix_is}
use Rattle.square.proofs.table.Table.matrix_again.Goals as goal

pub below-requires-clause-there : goal.below-requires-clause-there
below-requires-clause-there c i e =
    let h = subst IsTable c.self.view_is c.self.invariant.0 in
    let same = ap (λ n. length (row_in c.args.self.now.rows n)) e in
    let longer = h.never_rise i in
    let there = c.requires.there in
    omega arith

pub new-requires : goal.new-requires
new-requires c =
    images_fit c.args.self.now (subst IsTable c.self.view_is c.self.invariant.0) c.args.s c.args.above (graded_of c.in_ok-target.target) c.in_ok-gens.gens c.as_slice.result.now c.requires.there c.in_ok-target.ensures.graded c.in_ok-gens.ensures (c.as_slice.ensures.value ∙ c.in_ok-images.ensures)

pub matrix-requires-clause-source : goal.matrix-requires-clause-source
matrix-requires-clause-source c =
    let now = c.args.self.now in
    let t = to_z w32 (of_z w32 (to_z w32 (of_z w32 c.bottom.result) +ℤ to_z w32 (of_z w32 c.from.result))) in
    let low : c.bottom.result ≡ bottom_of now.resolved = c.bottom.ensures.bottom ∙ ap (λ (m : Checked). bottom_of m) (c.deref.ensures ∙ ap (λ (x : Staircase). x.resolved) c.self.view_is) in
    let degree : t ≡ bottom_of now.resolved +ℤ pos c.args.above = omega (arith, ints, c.bottom.ensures.lowest, c.bottom.ensures.highest) in
    within_reach now c.args.s c.args.above c.new.result.basis.now (c.args.above + 1) c.new.result.source.now t (c.new.ensures.source ∙ c.in_ok-gens.ensures) degree (subst (λ (n : ℕ). c.args.above ≤ n) (sym c.new.ensures.basis) c.in_ok-basis.ensures.reaches)

pub matrix-requires-clause-target : goal.matrix-requires-clause-target
matrix-requires-clause-target c =
    let now = c.args.self.now in
    let t = to_z w32 (of_z w32 (to_z w32 (of_z w32 c.bottom.result) +ℤ to_z w32 (of_z w32 c.from.result))) in
    let low : c.bottom.result ≡ bottom_of now.resolved = c.bottom.ensures.bottom ∙ ap (λ (m : Checked). bottom_of m) (c.deref.ensures ∙ ap (λ (x : Staircase). x.resolved) c.self.view_is) in
    let degree : t ≡ bottom_of now.resolved +ℤ pos c.args.above = omega (arith, ints, c.bottom.ensures.lowest, c.bottom.ensures.highest) in
    let P : ℤ → Type 0 = reaches_of c.in_ok-target.target c.in_ok-basis.basis.now in
    let here = subst P (sym degree) (c.in_ok-target.ensures.reaches c.in_ok-basis.basis.now c.args.above c.in_ok-basis.ensures.reaches) in
    subst (λ (x : Below). reaches_of x c.new.result.basis.now t) (sym c.new.ensures.target) (subst (λ (n : ℕ). reaches_of c.in_ok-target.target n t) (sym c.new.ensures.basis) here)

pub returns-clause-cols : goal.returns-clause-cols
returns-clause-cols c =
    let now = c.args.self.now in
    let t = to_z w32 (of_z w32 (to_z w32 (of_z w32 c.bottom.result) +ℤ to_z w32 (of_z w32 c.from.result))) in
    let low : c.bottom.result ≡ bottom_of now.resolved = c.bottom.ensures.bottom ∙ ap (λ (m : Checked). bottom_of m) (c.deref.ensures ∙ ap (λ (x : Staircase). x.resolved) c.self.view_is) in
    let degree : t ≡ bottom_of now.resolved +ℤ pos c.args.above = omega (arith, ints, c.bottom.ensures.lowest, c.bottom.ensures.highest) in
    let target = graded_of c.new.result.target.now in
    let is = matrix_is now c.args.s c.args.above target c.new.result.source.now c.new.result.images.now t c.requires.there (ap graded_of c.new.ensures.target ∙ c.in_ok-target.ensures.graded) (c.new.ensures.source ∙ c.in_ok-gens.ensures) (c.new.ensures.images ∙ c.as_slice.ensures.value ∙ c.in_ok-images.ensures) degree in
    IfOk-weaker c.matrix.result _ _ (λ m e. e ∙ is.0) c.matrix.ensures.cols

pub returns-clause-rows : goal.returns-clause-rows
returns-clause-rows c =
    let now = c.args.self.now in
    let t = to_z w32 (of_z w32 (to_z w32 (of_z w32 c.bottom.result) +ℤ to_z w32 (of_z w32 c.from.result))) in
    let low : c.bottom.result ≡ bottom_of now.resolved = c.bottom.ensures.bottom ∙ ap (λ (m : Checked). bottom_of m) (c.deref.ensures ∙ ap (λ (x : Staircase). x.resolved) c.self.view_is) in
    let degree : t ≡ bottom_of now.resolved +ℤ pos c.args.above = omega (arith, ints, c.bottom.ensures.lowest, c.bottom.ensures.highest) in
    let target = graded_of c.new.result.target.now in
    let is = matrix_is now c.args.s c.args.above target c.new.result.source.now c.new.result.images.now t c.requires.there (ap graded_of c.new.ensures.target ∙ c.in_ok-target.ensures.graded) (c.new.ensures.source ∙ c.in_ok-gens.ensures) (c.new.ensures.images ∙ c.as_slice.ensures.value ∙ c.in_ok-images.ensures) degree in
    IfOk-weaker c.matrix.result _ _ (λ m e. e ∙ is.1) c.matrix.ensures.rows
