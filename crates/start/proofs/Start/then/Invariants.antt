use Rattle.std.specs.Prelude.{[], ◌∷◌, ◌++◌}
use Rattle.start.proofs.Start.then.Given as goal

abbrev pub ghost-picked : goal.ghost-picked
ghost-picked a = a.of.now.0.now ++ record { s = a.of.now.1; above = a.of.now.2; content = record { images = a.of.now.3.now; kernel = a.of.now.4.now } } ∷ []
