use Rattle.ghost_list.proofs.GhostList.of.Given as goal

abbrev pub ghost-picked : goal.ghost-picked
ghost-picked g a = a.of.now.now
