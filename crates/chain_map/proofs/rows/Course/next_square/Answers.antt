use Rattle.std.proofs.Common.{◌≡◌, ℕ, Bool, List, [], suc, ◌+◌, ◌<◌, pos, ◌+ℤ◌, ◌-ℤ◌, length, ap, ◌∙◌, arith}
use Rattle.std.proofs.lemmas.Int.{ints}
use Rattle.std.proofs.lemmas.List.{get_or_default}
use Rattle.f2_vec.specs.Spans.{row}
use Rattle.resolution_laws.specs.Resolution.{row_of}
use Rattle.square.specs.Squares.{bottom_of}
use Rattle.square.specs.Tables.{row_in, plain_rows, content_at}
use Rattle.square.proofs.Places.{length-row_of}
use Rattle.lift_laws.specs.Products.{count_of}
use Rattle.chain_map.specs.Lifting.{resolution_of, next_goal}
use Rattle.chain_map.proofs.MadeRows.{made_square, square_begun, made_value, made_end}
use Rattle.chain_map.proofs.Places.{image_width, next_goal_is}
use Rattle.chain_map.proofs.rows.Course.next_square.Goals as goal
use Rattle.chain_map.proofs.rows.Course.next_square.Goals.{After-images_of-images, After-index-images-i}

-- the square is there
there : (c : After-images_of-images) → c.args.n < length (row_in c.args.self.now.table.now.rows (suc (c.args.self.now.s + c.args.k)))
there c =
    let self = c.args.self.now in
    let e : self.s + suc c.args.k ≡ suc (self.s + c.args.k) = omega arith in
    omega (arith, c.requires.within, c.requires.reaches.here, ap (λ (i : ℕ). length (row_in self.table.now.rows i)) e)

-- with these images
images-are : (c : After-images_of-images) → c.images_of-images.result.now ≡ (content_at c.args.self.now.table.now.rows (suc (c.args.self.now.s + c.args.k)) c.args.n).images
images-are c =
    let self = c.args.self.now in
    let e : self.s + c.args.k + 1 ≡ suc (self.s + c.args.k) = omega arith in
    c.images_of-images.ensures.images ∙ ap (λ (i : ℕ). (content_at self.table.now.rows i c.args.n).images) e

-- so is the generator, with its image
number : (c : After-index-images-i) → c.images_of-images.result.now ≡ (content_at c.args.self.now.table.now.rows (suc (c.args.self.now.s + c.args.k)) c.args.n).images → c.loop-i.i < count_of (resolution_of c.args.self.now.table.now) (suc (c.args.self.now.s + c.args.k)) c.args.n
number c same = let test = c.loop-i-test.true in omega (arith, ap length same)

image-is : (c : After-index-images-i) → c.images_of-images.result.now ≡ (content_at c.args.self.now.table.now.rows (suc (c.args.self.now.s + c.args.k)) c.args.n).images → c.index-images-i.result ≡ row (content_at c.args.self.now.table.now.rows (suc (c.args.self.now.s + c.args.k)) c.args.n).images c.loop-i.i
image-is c same =
    c.index-images-i.is ∙ (get_or_default c.images_of-images.result.now c.loop-i.i c.index-images-i.result [] c.loop-i-test.true ∙ ap (λ (z : List (List Bool)). row z c.loop-i.i) same)

pub loop-i-init : goal.loop-i-init
loop-i-init c =
    let self = c.args.self.now in
    made_square self.table.now self.sphere.now (suc (self.s + c.args.k)) (suc c.args.k) (bottom_of self.table.now.resolved +ℤ pos self.above) (next_goal self.table.now self.sphere.now (self.s + c.args.k) c.args.k self.above self.reach self.far c.args.map.now.images.now) c.args.n c.args.values.now c.begin_square.new.self c.in_ok-begin_square.ensures.ok c.requires.made

pub next_value-requires-clause-width : goal.next_value-requires-clause-width
next_value-requires-clause-width c =
    let self = c.args.self.now in
    let here = (goal.at.next_value-requires-clause-width c).After-index-images-i in
    let same = images-are ((goal.at.next_value-requires-clause-width c).After-images_of-images) in
    let l = there ((goal.at.next_value-requires-clause-width c).After-images_of-images) in
    image_width self.table.now c.requires.reaches.is_table (self.s + c.args.k) self.above self.reach c.args.n c.loop-i.i c.args.map.now.source.now c.index-images-i.result c.requires.within l (number here same) c.requires.source (image-is here same)

pub loop-i-preserved : goal.loop-i-preserved
loop-i-preserved c =
    let self = c.args.self.now in
    let table = self.table.now in
    let sphere = self.sphere.now in
    let i = suc (self.s + c.args.k) in
    let here = (goal.at.loop-i-preserved c).After-index-images-i in
    let same = images-are ((goal.at.loop-i-preserved c).After-images_of-images) in
    let l : c.args.n < length (row_of (plain_rows table.rows) i) = omega (arith, there ((goal.at.loop-i-preserved c).After-images_of-images), length-row_of table.rows i) in
    let x = bottom_of table.resolved +ℤ pos self.above in
    let u = pos c.args.n -ℤ pos self.above in
    let map = c.args.map.now in
    made_value table sphere i (suc c.args.k) x (next_goal table sphere (self.s + c.args.k) c.args.k self.above self.reach self.far map.images.now) c.args.n c.loop-i.i c.loop-i.values c.push.new.self u _ c.in_ok-value.value l (number here same) c.in_ok-push.ensures.ok (omega (arith, ints)) (next_goal_is table sphere (self.s + c.args.k) c.args.k self.above self.reach self.far c.args.n c.loop-i.i map.source.now map.target.now map.images.now c.index-images-i.result l (number here same) c.requires.source c.requires.target (image-is here same)) c.in_ok-value.ensures c.loop-i.invariant

pub push-requires : goal.push-requires
push-requires c =
    let self = c.args.self.now in
    let table = self.table.now in
    square_begun table self.sphere.now (suc (self.s + c.args.k)) (suc c.args.k) (bottom_of table.resolved +ℤ pos self.above) (next_goal table self.sphere.now (self.s + c.args.k) c.args.k self.above self.reach self.far c.args.map.now.images.now) c.args.n c.loop-i.i c.loop-i.values c.loop-i.invariant

pub returns : goal.returns
returns c =
    let self = c.args.self.now in
    let table = self.table.now in
    let i = suc (self.s + c.args.k) in
    made_end table self.sphere.now i (suc c.args.k) (bottom_of table.resolved +ℤ pos self.above) (next_goal table self.sphere.now (self.s + c.args.k) c.args.k self.above self.reach self.far c.args.map.now.images.now) c.args.n c.loop-i.i c.loop-i.values (omega (arith, ap length (images-are ((goal.at.returns c).After-images_of-images)), c.loop-i.auto.i-end, c.loop-i-test.false)) c.loop-i.invariant
