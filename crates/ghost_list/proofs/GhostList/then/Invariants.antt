use Rattle.std.specs.Prelude.{[], ◌∷◌, ◌++◌}
use Rattle.ghost_list.proofs.GhostList.then.Given as goal

abbrev pub ghost-picked : goal.ghost-picked
ghost-picked g a = a.of.now.0.now ++ a.of.now.1.now ∷ []
