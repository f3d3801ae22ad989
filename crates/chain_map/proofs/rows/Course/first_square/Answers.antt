use Rattle.std.proofs.Common.{◌≡◌, ℕ, ◌+◌, ◌<◌, pos, ◌+ℤ◌, ◌-ℤ◌, length, ap, arith}
use Rattle.std.proofs.lemmas.Int.{ints}
use Rattle.resolution_laws.specs.Resolution.{row_of}
use Rattle.square.specs.Squares.{bottom_of}
use Rattle.square.specs.Tables.{row_in, plain_rows}
use Rattle.square.proofs.Places.{length-row_of}
use Rattle.lift_laws.specs.Products.{count_of}
use Rattle.chain_map.specs.Lifting.{resolution_of}
use Rattle.chain_map.specs.Inside.{class_of}
use Rattle.chain_map.proofs.MadeRows.{made_square, square_begun, made_value, made_end}
use Rattle.chain_map.proofs.Places.{class_value_is}
use Rattle.chain_map.proofs.rows.Course.first_square.Goals as goal
use Rattle.chain_map.proofs.rows.Course.first_square.Goals.{After-images_of-i-end}

-- the square is there
there : (c : After-images_of-i-end) → c.args.n < length (row_of (plain_rows c.args.self.now.table.now.rows) c.args.self.now.s)
there c =
    let self = c.args.self.now in
    let e : self.s + 0 ≡ self.s = omega arith in
    omega (arith, length-row_of self.table.now.rows self.s, c.requires.within, c.requires.reaches.here, ap (λ (i : ℕ). length (row_in self.table.now.rows i)) e)

pub loop-i-init : goal.loop-i-init
loop-i-init c =
    let self = c.args.self.now in
    made_square self.table.now self.sphere.now self.s 0 (bottom_of self.table.now.resolved +ℤ pos self.above) (class_of self.table.now self.sphere.now self.s self.above c.args.class) c.args.n c.args.values.now c.begin_square.new.self c.in_ok-begin_square.ensures.ok c.requires.made

pub loop-i-preserved : goal.loop-i-preserved
loop-i-preserved c =
    let self = c.args.self.now in
    let table = self.table.now in
    let sphere = self.sphere.now in
    let len = length-row_of table.rows self.s in
    let l = there ((goal.at.loop-i-preserved c).After-images_of-i-end) in
    let i = c.loop-i.i in
    let b : i < count_of (resolution_of table) self.s c.args.n = omega (arith, ap length c.images_of-i-end.ensures.images) in
    let x = bottom_of table.resolved +ℤ pos self.above in
    let u = pos c.args.n -ℤ pos self.above in
    made_value table sphere self.s 0 x (class_of table sphere self.s self.above c.args.class) c.args.n i c.loop-i.values c.push.new.self u _ c.in_ok-value.value l b c.in_ok-push.ensures.ok (omega (arith, ints)) (class_value_is table sphere self.s self.above c.args.class c.args.n i c.requires.sphere (omega arith) c.requires.class l b) c.in_ok-value.ensures c.loop-i.invariant

pub push-requires : goal.push-requires
push-requires c =
    let self = c.args.self.now in
    let table = self.table.now in
    square_begun table self.sphere.now self.s 0 (bottom_of table.resolved +ℤ pos self.above) (class_of table self.sphere.now self.s self.above c.args.class) c.args.n c.loop-i.i c.loop-i.values c.loop-i.invariant

pub returns : goal.returns
returns c =
    let self = c.args.self.now in
    let table = self.table.now in
    made_end table self.sphere.now self.s 0 (bottom_of table.resolved +ℤ pos self.above) (class_of table self.sphere.now self.s self.above c.args.class) c.args.n c.loop-i.i c.loop-i.values (omega (arith, ap length c.images_of-i-end.ensures.images, c.loop-i.auto.i-end, c.loop-i-test.false)) c.loop-i.invariant
