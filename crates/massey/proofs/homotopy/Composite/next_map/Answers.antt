use Rattle.std.proofs.Common.{◌≡◌, ℕ, suc, ◌+◌, ℤ, pos, ◌+ℤ◌, Bool, List, length, take, ap, sym, subst, ◌∙◌, arith}
use Rattle.std.proofs.lemmas.List.{length-take-le}
use Rattle.free_module.specs.Graded.{free_graded}
use Rattle.free_module.specs.LinearMap.{AreImages}
use Rattle.square.specs.Squares.{bottom_of}
use Rattle.square.specs.Tables.{Staircase}
use Rattle.lift_laws.specs.Products.{first_of}
use Rattle.chain_map.specs.Lifting.{lowered_row, LiftValues, resolution_of, row_values, joined, target_of, AreChosen}
use Rattle.massey.specs.declared.places.Places.{Places}
use Rattle.massey.specs.Inside.{above_of, above_ab, above_bc, homotopy_goal, beta_values, far_of}
use Rattle.massey.proofs.Composites.{beta_row, beta_count, inner_count, beta_images}
use Rattle.massey.proofs.homotopy.Composite.next_map.Goals as goal

-- the generators of beta's row, and the values on them
inner-is : (sphere : Staircase) (p : Places) (k m : ℕ) (inner : List ℤ) → inner ≡ lowered_row sphere (p.b.s + k) (m + 1) p.b.above → m ≡ above_ab p → inner ≡ lowered_row sphere (p.b.s + k) (above_ab p + 1) p.b.above
inner-is sphere p k m inner e same = e ∙ ap (λ (m : ℕ). lowered_row sphere (p.b.s + k) (m + 1) p.b.above) same

taken-is : (sphere : Staircase) (p : Places) (beta : LiftValues) (k : ℕ) (degrees inner : List ℤ) (vectors : List (List Bool)) → length inner ≡ first_of (resolution_of sphere) (p.b.s + k) (above_ab p + 1) → degrees ≡ inner → vectors ≡ (joined (row_values beta k)) → take (length degrees) vectors ≡ beta_values sphere p beta k
taken-is sphere p beta k degrees inner vectors count same is =
    ap (λ (m : ℕ). take m vectors) (ap length same ∙ count) ∙ ap (take (first_of (resolution_of sphere) (p.b.s + k) (above_ab p + 1))) is

pub vectors-requires : goal.vectors-requires
vectors-requires c =
    let self = c.args.self.now in
    beta_row self.setting.table.now self.setting.sphere.now self.setting.range (far_of self.setting.places) self.setting.places self.n self.beta.now self.gamma.now c.requires.composite c.args.k (omega (arith, c.requires.row))

pub basis-requires : goal.basis-requires
basis-requires c =
    let setting = c.requires.composite.setting in
    (0, omega (arith, c.above-2.ensures, setting.inside.degree, setting.through_table 0 (omega arith)))

pub slice_bounds-new-end : goal.slice_bounds-new-end
slice_bounds-new-end c =
    let self = c.args.self.now in
    let sphere = self.setting.sphere.now in
    let p = self.setting.places in
    let k = c.args.k in
    let inner = inner-is sphere p k c.above_ab.result c.in_ok-inner.inner c.in_ok-inner.ensures c.above_ab.ensures in
    let count = inner_count self.setting.table.now sphere self.setting.range (far_of p) p self.n self.beta.now self.gamma.now c.requires.composite k in
    let most = beta_count self.setting.table.now sphere self.setting.range (far_of p) p self.n self.beta.now self.gamma.now c.requires.composite k (omega arith) in
    sym (length-take-le (length c.degrees-count.result.now) c.vectors.result.now (omega (arith, ap length c.degrees-count.ensures, ap length inner, ap length c.vectors.ensures)))

pub new-beta-requires : goal.new-beta-requires
new-beta-requires c =
    let self = c.args.self.now in
    let sphere = self.setting.sphere.now in
    let p = self.setting.places in
    let k = c.args.k in
    let inner = inner-is sphere p k c.above_ab.result c.in_ok-inner.inner c.in_ok-inner.ensures c.above_ab.ensures in
    let count = inner_count self.setting.table.now sphere self.setting.range (far_of p) p self.n self.beta.now self.gamma.now c.requires.composite k in
    let taken = taken-is sphere p self.beta.now k c.degrees-count.result.now c.in_ok-inner.inner c.vectors.result.now (ap length inner ∙ count) c.degrees-count.ensures c.vectors.ensures in
    let target = target_of sphere k (p.a.above + 1) in
    let source = lowered_row sphere (p.b.s + k) (above_ab p + 1) p.b.above in
    let values = take (length c.degrees-count.result.now) c.vectors.result.now in
    subst (λ (t : List ℤ). AreImages (free_graded t) c.in_ok-inner.inner values) (sym c.in_ok-target.ensures)
    (subst (λ (i : List ℤ). AreImages (free_graded target) i values) (sym inner)
    (subst (AreImages (free_graded target) source) (sym taken)
    (beta_images self.setting.table.now sphere self.setting.range (far_of p) p self.n self.beta.now self.gamma.now c.requires.composite k (omega (arith, c.requires.row)))))

pub returns : goal.returns
returns c =
    let self = c.args.self.now in
    let table = self.setting.table.now in
    let sphere = self.setting.sphere.now in
    let p = self.setting.places in
    let n = self.n in
    let k = c.args.k in
    let inner = inner-is sphere p k c.above_ab.result c.in_ok-inner.inner c.in_ok-inner.ensures c.above_ab.ensures in
    let count = inner_count table sphere self.setting.range (far_of p) p n self.beta.now self.gamma.now c.requires.composite k in
    let taken = taken-is sphere p self.beta.now k c.degrees-count.result.now c.in_ok-inner.inner c.vectors.result.now (ap length inner ∙ count) c.degrees-count.ensures c.vectors.ensures in
    let last : c.loop-j.j ≡ above_of p + 1 = omega (arith, c.above-j-end.ensures, c.loop-j.auto.j-end, c.loop-j-test.false) in
    let P : List (List Bool) → List (List Bool) → ℕ → Type 0 = λ images below j. AreChosen table sphere (suc (n + k)) (suc k) (bottom_of table.resolved +ℤ pos (above_bc p)) (homotopy_goal table sphere p n k images self.gamma.now below) (first_of (resolution_of table) (suc (n + k)) j) c.loop-j.values.items in
    subst (P (beta_values sphere p self.beta.now k) c.args.below.now) last
    (subst (λ (below : List (List Bool)). P (beta_values sphere p self.beta.now k) below c.loop-j.j) c.new-map.ensures.images
    (subst (λ (images : List (List Bool)). P images c.new-map.result.images.now c.loop-j.j) (c.new-beta.ensures.images ∙ taken) c.loop-j.invariant))
