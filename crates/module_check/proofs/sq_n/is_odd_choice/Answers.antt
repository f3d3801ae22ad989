use Rattle.std.proofs.Common.{◌∙◌}
use Rattle.std.proofs.lemmas.Bool.{lt-leb}
use Rattle.module_check.proofs.Adem.{odd_within, even_above}
use Rattle.module_check.proofs.sq_n.is_odd_choice.Goals as goal

pub returns-then-k-n : goal.returns-then-k-n
returns-then-k-n c = odd_within c.args.n c.args.k c.if-k-n.true

pub returns-else-k-n : goal.returns-else-k-n
returns-else-k-n c =
    lt-leb c.args.k c.args.n c.if-k-n.false ∙ even_above c.args.n c.args.k c.if-k-n.false
