use Rattle.start.proofs.Start.again.Given as goal

abbrev pub ghost-picked : goal.ghost-picked
ghost-picked a = a.of.now
