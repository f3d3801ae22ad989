use Rattle.std.specs.Prelude.{◌∷◌, None}
use Rattle.edge.proofs.history.Past.synced.Given as goal

abbrev pub ghost-picked : goal.ghost-picked
ghost-picked a = None ∷ a.of.now.now
