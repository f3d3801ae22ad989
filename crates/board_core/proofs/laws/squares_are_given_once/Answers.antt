use Rattle.board_core.proofs.Filed.{filed_once}
use Rattle.board_core.proofs.Given.{given_once}
use Rattle.board_core.proofs.laws.squares_are_given_once.Goals as goal

pub returns-clause-filed : goal.returns-clause-filed
returns-clause-filed c = filed_once

pub returns-clause-given : goal.returns-clause-given
returns-clause-given c = given_once
