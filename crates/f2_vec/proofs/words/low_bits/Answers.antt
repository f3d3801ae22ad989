use Rattle.std.specs.Int.{bit_at}
use Rattle.std.specs.Int.Bits.{bit_and}
use Rattle.std.proofs.Common.{◌-◌, ap, ◌∙◌}
use Rattle.std.proofs.lemmas.Nat.{one_shl}
use Rattle.f2_vec.proofs.Cut.{low_within, low_past}
use Rattle.f2_vec.proofs.words.low_bits.Goals as goal

pub returns-then-count-lt64-clause-within : goal.returns-then-count-lt64-clause-within
returns-then-count-lt64-clause-within c = λ b _ h. ap (λ m. bit_at (bit_and c.args.word (m - 1)) b) (one_shl c.args.count 64 c.if-count-lt64.true) ∙ low_within c.args.word c.args.count b h

pub returns-then-count-lt64-clause-past : goal.returns-then-count-lt64-clause-past
returns-then-count-lt64-clause-past c = λ b _ h. ap (λ m. bit_at (bit_and c.args.word (m - 1)) b) (one_shl c.args.count 64 c.if-count-lt64.true) ∙ low_past c.args.word c.args.count b h
