use Rattle.std.proofs.Common.{◌≡◌, length, drop}
use Rattle.square.specs.Squares.{over}
use Rattle.square.specs.Tables.{AllRead}
use Rattle.save_journal.specs.Journals.{contents}
use Rattle.save_file.specs.Reading.{kept_from}
use Rattle.save_file.specs.Saved.{kept_of_table}
use Rattle.save_file.specs.Files.{place_of}
use Rattle.save_file.proofs.resuming.read_bodies.Given as goal

-- what is still to be read gives what all bodies give
abbrev pub invariant-loop-i : goal.invariant-loop-i
invariant-loop-i l = record {
  all_read : AllRead l.table.rows;
  resolved : l.table.resolved ≡ l.initial.table.resolved;
  as_many : length l.bodies.items ≡ length l.initial.bodies.items;
  rest : drop l.i (contents l.bodies.items) ≡ drop l.i (contents l.initial.bodies.items);
  place : l.place ≡ place_of l.i (contents l.initial.bodies.items);
  left : kept_from (over l.initial.table.resolved) (kept_of_table l.table) l.i (drop l.i (contents l.bodies.items)) ≡ kept_from (over l.initial.table.resolved) (kept_of_table l.initial.table) 0 (contents l.initial.bodies.items);
}
