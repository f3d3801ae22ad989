use Rattle.std.specs.Prelude.{◌∷◌, Some}
use Rattle.edge.proofs.history.Past.wrote.Given as goal

abbrev pub ghost-picked : goal.ghost-picked
ghost-picked a = Some (record { at = a.of.now.1; bytes = a.of.now.2.now }) ∷ a.of.now.0.now
