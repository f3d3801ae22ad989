use Rattle.std.proofs.Common.{◌≡◌, ℕ, suc, ◌+◌, ◌<◌, Bool, ℤ, pos, ◌+ℤ◌, ◌-ℤ◌, List, [], length, Option, ap, sym, subst, ◌∙◌, w32, to_z, of_z, arith}
use Rattle.std.proofs.lemmas.Int.{ints, to_z-of_z}
use Rattle.std.proofs.lemmas.List.{get_or_default}
use Rattle.std.proofs.lemmas.Bool.Decides.{nat_tests}
use Rattle.f2_vec.specs.Spans.{row}
use Rattle.f2_matrix.specs.Reduction.{Reduction}
use Rattle.free_module.specs.FreeModule.{free_width}
use Rattle.resolution_laws.specs.Resolution.{row_of}
use Rattle.square.specs.Squares.{bottom_of}
use Rattle.square.specs.Tables.{Staircase, row_in, plain_rows, content_at}
use Rattle.square.proofs.Places.{length-row_of}
use Rattle.lift_laws.specs.Products.{first_of, count_of}
use Rattle.chain_map.specs.Lifting.{lowered_row, IsInverseAt, resolution_of, row_values, joined, target_of}
use Rattle.chain_map.proofs.Generators.{first_of-more}
use Rattle.chain_map.proofs.Goals.{place_there, sphere_square, reach_low, reach_target}
use Rattle.chain_map.proofs.Places.{image_width}
use Rattle.chain_map.proofs.Widths.{width-take, next_goal_fits}
use Rattle.massey.specs.Inside.{above_of, above_ab, above_bc, homotopy_goal, far_of}
use Rattle.massey.proofs.Composites.{through_bracket, gamma_there, gamma_width, inner_reach}
use Rattle.massey.proofs.MapValues.{next_row_there}
use Rattle.massey.proofs.NextGoals.{degree_is, goal_is}
use Rattle.chain_map.proofs.MadeRows.{chosen_more, chosen_in}
use Rattle.massey.proofs.homotopy.Composite.next_square.Goals as goal
use Rattle.massey.proofs.homotopy.Composite.next_square.Goals.{After-over-u, After-images_of-images, After-len, After-index-inner-len, After-index-images-i}

-- u is how many degrees the square is above bc
u-is : (c : After-over-u) → to_z w32 (of_z w32 c.over-u.result) ≡ pos c.args.j -ℤ pos (above_bc c.args.self.now.setting.places)
u-is c = to_z-of_z w32 c.over-u.result (record { sfits = c.over-u.type_inv }) ∙ c.over-u.ensures

-- the images, in the row above
images-are : (c : After-images_of-images) → c.images_of-images.result.now ≡ (content_at c.args.self.now.setting.table.now.rows (suc (c.args.self.now.n + c.args.k)) c.args.j).images
images-are c =
    let self = c.args.self.now in
    let e : self.n + c.args.k + 1 ≡ suc (self.n + c.args.k) = omega arith in
    c.images_of-images.ensures.images ∙ ap (λ (i : ℕ). (content_at self.setting.table.now.rows i c.args.j).images) e

-- the generator is there, and gamma has a value on it
inside : (c : After-len) → c.images_of-images.result.now ≡ (content_at c.args.self.now.setting.table.now.rows (suc (c.args.self.now.n + c.args.k)) c.args.j).images → c.loop-i.i < count_of (resolution_of c.args.self.now.setting.table.now) (suc (c.args.self.now.n + c.args.k)) c.args.j
inside c are = let test = c.loop-i-test.true in omega (arith, ap length are)

bound : (c : After-len) → c.images_of-images.result.now ≡ (content_at c.args.self.now.setting.table.now.rows (suc (c.args.self.now.n + c.args.k)) c.args.j).images → c.len.result < length c.vectors-inner.result.now
bound c are =
    let self = c.args.self.now in
    let there = gamma_there self.setting.table.now self.setting.sphere.now self.setting.range (far_of self.setting.places) self.setting.places self.n self.beta.now self.gamma.now c.requires.composite c.args.k c.args.j c.loop-i.i c.requires.row (omega arith) (inside c are) in
    omega (arith, ap length c.vectors-inner.ensures, c.len.ensures)

image-is : (c : After-index-images-i) → c.images_of-images.result.now ≡ (content_at c.args.self.now.setting.table.now.rows (suc (c.args.self.now.n + c.args.k)) c.args.j).images → c.index-images-i.result ≡ row (content_at c.args.self.now.setting.table.now.rows (suc (c.args.self.now.n + c.args.k)) c.args.j).images c.loop-i.i
image-is c are = c.index-images-i.is ∙ (get_or_default c.images_of-images.result.now c.loop-i.i c.index-images-i.result [] c.loop-i-test.true ∙ ap (λ (z : List (List Bool)). row z c.loop-i.i) are)

value-is : (c : After-index-inner-len) → c.len.result < length c.vectors-inner.result.now → c.index-inner-len.result ≡ row (joined (row_values c.args.self.now.gamma.now (c.args.self.now.setting.places.b.s + c.args.k))) (first_of (resolution_of c.args.self.now.setting.table.now) (suc (c.args.self.now.n + c.args.k)) c.args.j + c.loop-i.i)
value-is c b =
    let last : c.len.result ≡ first_of (resolution_of c.args.self.now.setting.table.now) (suc (c.args.self.now.n + c.args.k)) c.args.j + c.loop-i.i = omega (arith, c.len.ensures, c.loop-i.invariant.one_each) in
    c.index-inner-len.is ∙ (get_or_default c.vectors-inner.result.now c.len.result c.index-inner-len.result [] b ∙ (ap (λ (z : List (List Bool)). row z c.len.result) c.vectors-inner.ensures ∙ ap (row (joined (row_values c.args.self.now.gamma.now (c.args.self.now.setting.places.b.s + c.args.k)))) last))

-- the generators of a square end where those of the next begin
all-of : (table : Staircase) (i j h : ℕ) (images : List (List Bool)) → j < length (row_in table.rows i) → images ≡ (content_at table.rows i j).images → h ≡ length images → first_of (resolution_of table) i j + h ≡ first_of (resolution_of table) i (j + 1)
all-of table i j h images l is e =
    omega (arith, ap length is, first_of-more (resolution_of table) i j, length-row_of table.rows i)

inverse-in : (sphere : Staircase) (k : ℕ) (t u : ℤ) (inverse : Option Reduction) → t ≡ u → IsInverseAt sphere (k + 1) t inverse → IsInverseAt sphere (suc k) u inverse
inverse-in sphere k t u inverse at is = let e : k + 1 ≡ suc k = omega arith in subst (λ (i : ℕ). IsInverseAt sphere i u inverse) e (subst (λ (z : ℤ). IsInverseAt sphere (k + 1) z inverse) at is)

pub returns-then-is_empty : goal.returns-then-is_empty
returns-then-is_empty c =
    let self = c.args.self.now in
    let table = self.setting.table.now in
    let sphere = self.setting.sphere.now in
    let p = self.setting.places in
    let n = self.n in
    let k = c.args.k in
    let j = c.args.j in
    let images = c.images_of-images.result.now in
    let none : 0 ≡ length images = grind (arith, nat_tests, c.is_empty.ensures, c.if-is_empty.true) in
    let long = next_row_there table sphere self.setting.range (far_of p) p n self.beta.now self.gamma.now c.requires.composite k c.requires.row in
    let all = all-of table (suc (n + k)) j 0 images (omega arith) (images-are ((goal.at.returns-then-is_empty c).After-images_of-images)) none in
    chosen_in table sphere (suc (n + k)) (suc k) (bottom_of table.resolved +ℤ pos (above_bc p)) (homotopy_goal table sphere p n k c.args.beta.now.images.now self.gamma.now c.args.map.now.images.now) (first_of (resolution_of table) (suc (n + k)) j) (first_of (resolution_of table) (suc (n + k)) (j + 1)) c.args.values.now.items (omega arith) c.requires.made

pub of-requires : goal.of-requires
of-requires c = λ low.
    let self = c.args.self.now in
    let table = self.setting.table.now in
    let sphere = self.setting.sphere.now in
    let p = self.setting.places in
    let u = to_z w32 (of_z w32 c.over-u.result) in
    let at = u-is ((goal.at.of-requires c).After-over-u) in
    sphere_square table sphere self.n (above_bc p) (c.args.k + 1) (above_of p + 1) (p.a.above + 1) c.args.j c.requires.composite.setting.is_sphere (through_bracket table sphere self.setting.range (far_of p) p self.n self.beta.now self.gamma.now c.requires.composite (c.args.k + 1) (omega (arith, c.requires.row))) c.requires.within u at low

pub bounds-inner-len : goal.bounds-inner-len
bounds-inner-len c =
    omega (arith, bound ((goal.at.bounds-inner-len c).After-len) (images-are ((goal.at.bounds-inner-len c).After-images_of-images)))

pub offset_bounds-inner-len : goal.offset_bounds-inner-len
offset_bounds-inner-len c =
    omega (arith, bound ((goal.at.offset_bounds-inner-len c).After-len) (images-are ((goal.at.offset_bounds-inner-len c).After-images_of-images)))

pub goal-requires-clause-beta_source : goal.goal-requires-clause-beta_source
goal-requires-clause-beta_source c =
    let self = c.args.self.now in
    let p = self.setting.places in
    let beta = c.args.beta.now in
    let u = to_z w32 (of_z w32 c.over-u.result) in
    let at = u-is ((goal.at.goal-requires-clause-beta_source c).After-over-u) in
    inner_reach self.setting.table.now self.setting.sphere.now self.setting.range (far_of p) p self.n self.beta.now self.gamma.now c.requires.composite c.args.k c.args.j beta.basis.now beta.source.now u (omega (arith, c.requires.within)) c.requires.maps.beta_basis_reaches c.requires.maps.beta_source_is at

pub goal-requires-clause-beta_target : goal.goal-requires-clause-beta_target
goal-requires-clause-beta_target c =
    let self = c.args.self.now in
    let table = self.setting.table.now in
    let sphere = self.setting.sphere.now in
    let p = self.setting.places in
    let beta = c.args.beta.now in
    let u = to_z w32 (of_z w32 c.over-u.result) in
    let at = u-is ((goal.at.goal-requires-clause-beta_target c).After-over-u) in
    reach_target table sphere self.n (above_bc p) c.args.k (above_of p + 1) (p.a.above + 1) c.args.j c.requires.composite.setting.is_sphere (through_bracket table sphere self.setting.range (far_of p) p self.n self.beta.now self.gamma.now c.requires.composite c.args.k (omega arith)) c.requires.within beta.basis.now u (omega (arith, c.requires.within, c.requires.maps.beta_basis_reaches)) at c.args.k beta.target.now c.requires.maps.beta_target_is

pub goal-requires-clause-map_source : goal.goal-requires-clause-map_source
goal-requires-clause-map_source c =
    let self = c.args.self.now in
    let table = self.setting.table.now in
    let sphere = self.setting.sphere.now in
    let p = self.setting.places in
    let map = c.args.map.now in
    let u = to_z w32 (of_z w32 c.over-u.result) in
    let at = u-is ((goal.at.goal-requires-clause-map_source c).After-over-u) in
    reach_low table sphere self.n (above_bc p) c.args.k (above_of p + 1) (p.a.above + 1) c.args.j c.requires.composite.setting.is_sphere (through_bracket table sphere self.setting.range (far_of p) p self.n self.beta.now self.gamma.now c.requires.composite c.args.k (omega arith)) c.requires.within map.basis.now u (omega (arith, c.requires.within, c.requires.maps.map_basis_reaches)) at (self.n + c.args.k) map.source.now c.requires.maps.map_source_is

pub goal-requires-clause-map_target : goal.goal-requires-clause-map_target
goal-requires-clause-map_target c =
    let self = c.args.self.now in
    let table = self.setting.table.now in
    let sphere = self.setting.sphere.now in
    let p = self.setting.places in
    let map = c.args.map.now in
    let u = to_z w32 (of_z w32 c.over-u.result) in
    let at = u-is ((goal.at.goal-requires-clause-map_target c).After-over-u) in
    reach_target table sphere self.n (above_bc p) c.args.k (above_of p + 1) (p.a.above + 1) c.args.j c.requires.composite.setting.is_sphere (through_bracket table sphere self.setting.range (far_of p) p self.n self.beta.now self.gamma.now c.requires.composite c.args.k (omega arith)) c.requires.within map.basis.now u (omega (arith, c.requires.within, c.requires.maps.map_basis_reaches)) at c.args.k map.target.now c.requires.maps.map_target_is

pub goal-requires-clause-gamma : goal.goal-requires-clause-gamma
goal-requires-clause-gamma c =
    let self = c.args.self.now in
    let p = self.setting.places in
    let here = (goal.at.goal-requires-clause-gamma c).After-len in
    let are = images-are ((goal.at.goal-requires-clause-gamma c).After-images_of-images) in
    let u = to_z w32 (of_z w32 c.over-u.result) in
    let at = u-is ((goal.at.goal-requires-clause-gamma c).After-over-u) in
    ap length (value-is ((goal.at.goal-requires-clause-gamma c).After-index-inner-len) (bound here are))
    ∙ (gamma_width self.setting.table.now self.setting.sphere.now self.setting.range (far_of p) p self.n self.beta.now self.gamma.now c.requires.composite c.args.k c.args.j c.loop-i.i c.requires.row (omega (arith, c.requires.within)) (inside here are)
    ∙ sym (ap (λ (z : List ℤ). free_width z u) c.requires.maps.beta_source_is ∙ ap (free_width (lowered_row self.setting.sphere.now (p.b.s + c.args.k) (above_ab p + 1) p.b.above)) at))

pub goal-requires-clause-image : goal.goal-requires-clause-image
goal-requires-clause-image c =
    let self = c.args.self.now in
    let p = self.setting.places in
    let within = c.requires.within in
    let are = images-are ((goal.at.goal-requires-clause-image c).After-images_of-images) in
    let long = next_row_there self.setting.table.now self.setting.sphere.now self.setting.range (far_of p) p self.n self.beta.now self.gamma.now c.requires.composite c.args.k c.requires.row in
    let at = u-is ((goal.at.goal-requires-clause-image c).After-over-u) in
    image_width self.setting.table.now c.requires.composite.setting.is_table (self.n + c.args.k) (above_bc p) (above_of p + 1) c.args.j c.loop-i.i c.args.map.now.source.now c.index-images-i.result within (omega arith) (omega (arith, ap length are)) c.requires.maps.map_source_is (image-is ((goal.at.goal-requires-clause-image c).After-index-images-i) are)
    ∙ sym (ap (free_width c.args.map.now.source.now) at)

pub preimage-requires : goal.preimage-requires
preimage-requires c =
    let self = c.args.self.now in
    let table = self.setting.table.now in
    let sphere = self.setting.sphere.now in
    let p = self.setting.places in
    let k = c.args.k in
    let j = c.args.j in
    let within = c.requires.within in
    let u = to_z w32 (of_z w32 c.over-u.result) in
    let low = pos j -ℤ pos (above_bc p) in
    let at = u-is ((goal.at.preimage-requires c).After-over-u) in
    let wide = c.in_ok-goal.ensures.length
    ∙ (ap (λ (z : List ℤ). free_width z u) c.requires.maps.map_target_is
    ∙ (ap (free_width (target_of sphere k (p.a.above + 1))) at ∙ width-take (bottom_of sphere.resolved) (row_of (plain_rows sphere.rows) k) (p.a.above + 1) low (omega (arith, ints)))) in
    next_goal_fits sphere k low c.in_ok-inverse.inverse c.in_ok-goal.goal (place_there table sphere self.n (above_bc p) (suc k) (above_of p + 1) (p.a.above + 1) j c.requires.composite.setting.is_sphere (through_bracket table sphere self.setting.range (far_of p) p self.n self.beta.now self.gamma.now c.requires.composite (suc k) (omega arith)) within) (inverse-in sphere k u low c.in_ok-inverse.inverse at c.in_ok-inverse.ensures) wide

pub loop-i-preserved : goal.loop-i-preserved
loop-i-preserved c =
    let self = c.args.self.now in
    let table = self.setting.table.now in
    let sphere = self.setting.sphere.now in
    let p = self.setting.places in
    let n = self.n in
    let k = c.args.k in
    let j = c.args.j in
    let i = c.loop-i.i in
    let beta = c.args.beta.now in
    let map = c.args.map.now in
    let here = (goal.at.loop-i-preserved c).After-len in
    let are = images-are ((goal.at.loop-i-preserved c).After-images_of-images) in
    let there = inside here are in
    let long = next_row_there table sphere self.setting.range (far_of p) p n self.beta.now self.gamma.now c.requires.composite k c.requires.row in
    let len = length-row_of table.rows (suc (n + k)) in
    let there_row : j < length (row_of (plain_rows table.rows) (suc (n + k))) = omega arith in
    let g = first_of (resolution_of table) (suc (n + k)) j + i in
    let value = value-is ((goal.at.loop-i-preserved c).After-index-inner-len) (bound here are) in
    let image = image-is ((goal.at.loop-i-preserved c).After-index-images-i) are in
    let u = to_z w32 (of_z w32 c.over-u.result) in
    let low = pos j -ℤ pos (above_bc p) in
    let at = u-is ((goal.at.loop-i-preserved c).After-over-u) in
    let x = bottom_of table.resolved +ℤ pos (above_bc p) in
    let goal_of = homotopy_goal table sphere p n k beta.images.now self.gamma.now map.images.now in
    let wanted : c.in_ok-goal.goal ≡ goal_of g = c.in_ok-goal.ensures.goal ∙ goal_is table sphere p n k j i there_row there beta.basis.now map.basis.now beta.source.now beta.target.now map.source.now map.target.now c.requires.maps beta.images.now map.images.now self.gamma.now c.index-inner-len.result c.index-images-i.result u at value image in
    chosen_in table sphere (suc (n + k)) (suc k) x goal_of (g + 1) (first_of (resolution_of table) (suc (n + k)) j + (i + 1)) c.push.new.self.items (omega arith)
    (chosen_more table sphere (suc (n + k)) (suc k) x goal_of g c.loop-i.values.items c.push.new.self.items low c.in_ok-goal.goal c.in_ok-preimage.field-0 c.in_ok-push.ensures.items (degree_is table sphere p n k j i there_row there) wanted
    (record { inverse = c.in_ok-inverse.inverse; is = inverse-in sphere k u low c.in_ok-inverse.inverse at c.in_ok-inverse.ensures; value = c.in_ok-preimage.ensures.preimage; fits = c.in_ok-preimage.ensures.length }) c.loop-i.invariant)

pub returns : goal.returns
returns c =
    let self = c.args.self.now in
    let table = self.setting.table.now in
    let sphere = self.setting.sphere.now in
    let p = self.setting.places in
    let n = self.n in
    let k = c.args.k in
    let j = c.args.j in
    let long = next_row_there table sphere self.setting.range (far_of p) p n self.beta.now self.gamma.now c.requires.composite k c.requires.row in
    let all = all-of table (suc (n + k)) j c.loop-i.i c.images_of-images.result.now (omega arith) (images-are ((goal.at.returns c).After-images_of-images)) (omega arith) in
    chosen_in table sphere (suc (n + k)) (suc k) (bottom_of table.resolved +ℤ pos (above_bc p)) (homotopy_goal table sphere p n k c.args.beta.now.images.now self.gamma.now c.args.map.now.images.now) (first_of (resolution_of table) (suc (n + k)) j + c.loop-i.i) (first_of (resolution_of table) (suc (n + k)) (j + 1)) c.loop-i.values.items all c.loop-i.invariant
