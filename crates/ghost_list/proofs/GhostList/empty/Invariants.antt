use Rattle.std.specs.Prelude.{[]}
use Rattle.ghost_list.proofs.GhostList.empty.Given as goal

abbrev pub ghost-picked : goal.ghost-picked
ghost-picked g a = []
