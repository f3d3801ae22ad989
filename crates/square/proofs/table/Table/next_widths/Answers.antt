use Rattle.std.proofs.Common.{◌≡◌, ℕ, subst, arith}
use Rattle.std.proofs.lemmas.Int.{ints}
use Rattle.square.specs.Tables.{IsNext}
use Rattle.square.proofs.table.Table.next_widths.Goals as goal

pub width_with-requires-clause-next : goal.width_with-requires-clause-next
width_with-requires-clause-next c =
    let same : c.requires.above ≡ c.above-above.result = omega (arith, ints, c.above-above.ensures, c.requires.degree) in
    subst (λ (n : ℕ). IsNext c.args.self.now.rows c.args.s n) same c.requires.next
