use Rattle.std.proofs.Common.{rules}
use Rattle.std.specs.Arc.{arc_value}
use Rattle.save_file.proofs.Pushing.{kept_pushed, AllRead-pushed}
use Rattle.save_file.proofs.resuming.put_square.Goals as goal

pub returns-clause-put : goal.returns-clause-put
returns-clause-put c =
    kept_pushed c.args.table.now c.push.new.self c.args.square (arc_value c.in-Ok.square) c.front.ensures.is_table c.requires.row c.requires.next (search rules) (search rules) (search rules) c.requires.start

pub returns-clause-all_read : goal.returns-clause-all_read
returns-clause-all_read c =
    AllRead-pushed c.args.table.now c.args.square (arc_value c.in-Ok.square) c.push.new.self.rows c.front.ensures.is_table c.requires.all_read c.requires.row c.requires.start c.requires.next (search rules) (search rules)
