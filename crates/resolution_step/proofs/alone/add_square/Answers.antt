use Rattle.std.proofs.Common.{w32}
use Rattle.std.proofs.lemmas.Int.{to_z-of_z}
use Rattle.square.specs.Squares.{over}
use Rattle.square.proofs.Puts.{fared_put}
use Rattle.resolution_step.proofs.Pushes.{IsNext-new}
use Rattle.resolution_step.proofs.Progress.{HasAdded-start, HasAdded-put, longer_put}
use Rattle.resolution_step.proofs.Untouched.{untouched_put}
use Rattle.resolution_step.proofs.alone.add_square.Goals as goal

pub returns-in_err-square-clause-added : goal.returns-in_err-square-clause-added
returns-in_err-square-clause-added g c =
    let keeper = c.args.keeper.now in
    HasAdded-start _ _ c.args.table.now (record { images = g.met.K.Keep.image_is_kept keeper c.requires.live; earlier = g.met.K.Keep.since_earlier keeper })

pub put-requires-clause-next : goal.put-requires-clause-next
put-requires-clause-next g c = IsNext-new c.args.table.now _ _ _ c.in_ok-square.square (to_z-of_z w32 c.args.t c.ranges.t) c.requires.next c.in_ok-square.ensures

pub returns-clause-longer : goal.returns-clause-longer
returns-clause-longer g c = longer_put (g.K.Keep.telling c.args.keeper.now) (g.K.Keep.telling c.put.new.keeper) c.args.table.now c.put.new.table c.args.s c.in_ok-square.square c.in_ok-square.ensures.s_is c.requires.row _ c.put.ensures.ok

pub returns-clause-keeper : goal.returns-clause-keeper
returns-clause-keeper g c =
    let made = c.put.ensures in
    fared_put g.K.Keep.telling (over c.args.table.now.resolved) c.args.table.now.start c.args.keeper.now c.put.new.keeper c.args.table.now c.put.new.table c.in_ok-square.square c.put.result made.ok made.failed made.dead made.memory c.requires.live

pub returns-clause-added : goal.returns-clause-added
returns-clause-added g c =
    let new = c.in_ok-square.ensures in
    let next = IsNext-new c.args.table.now _ _ _ c.in_ok-square.square (to_z-of_z w32 c.args.t c.ranges.t) c.requires.next new in
    HasAdded-put (g.K.Keep.telling c.args.keeper.now) (g.K.Keep.telling c.put.new.keeper) c.args.table.now c.put.new.table c.args.s c.in_ok-square.square new.s_is c.requires.row _ next new.is_of c.put.ensures.ok c.put.ensures.err

pub returns-clause-untouched : goal.returns-clause-untouched
returns-clause-untouched g c =
    let made = c.put.ensures in
    untouched_put g.K.Keep.telling (over c.args.table.now.resolved) c.args.table.now.start c.args.keeper.now c.put.new.keeper c.args.table.now c.put.new.table c.in_ok-square.square c.put.result made.ok made.dead made.memory
