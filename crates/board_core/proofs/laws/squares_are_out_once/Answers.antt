use Rattle.board_core.proofs.Filed.{reached_is_whole}
use Rattle.board_core.proofs.laws.squares_are_out_once.Goals as goal

pub returns : goal.returns
returns c = λ bottom shape s t start events state reached.
    let sound = (reached_is_whole bottom shape s t start events state reached).sound in
    record { once = sound.once; taken = sound.taken; failed_taken = sound.failed_taken }
