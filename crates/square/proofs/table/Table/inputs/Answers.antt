use Rattle.std.proofs.Common.{◌≡◌, ◌≤◌, ◌+◌, pos, ◌+ℤ◌, length, take, ap, sym, subst, ◌∙◌, arith}
use Rattle.std.proofs.lemmas.Int.{ints}
use Rattle.bidegree.specs.declared.range.TheConstants.{MAX_T}
use Rattle.finite_module.specs.Checked.{Checked}
use Rattle.square.specs.Tables.{Staircase, IsNext, row_in}
use Rattle.square.proofs.Places.{next_length, footing_in, IsFooting-same, contents-take, AreOfRow-first}
use Rattle.square.proofs.table.Table.inputs.Goals as goal
use Rattle.square.specs.Squares.{bottom_of}

pub share-requires : goal.share-requires
share-requires c =
    let end = next_length c.args.self.now.rows c.args.s c.requires.above c.requires.next in
    let len = ap length c.row.ensures.row in
    let same : c.requires.above ≡ c.above-above.result = omega (arith, ints, c.above-above.ensures, c.requires.degree) in
    omega (arith, c.from.ensures)

pub share_below-requires-clause-next : goal.share_below-requires-clause-next
share_below-requires-clause-next c =
    let same : c.requires.above ≡ c.above-above.result = omega (arith, ints, c.above-above.ensures, c.requires.degree) in
    subst (λ n. IsNext c.args.self.now.rows c.args.s n) same c.requires.next

pub returns-clause-squares : goal.returns-clause-squares
returns-clause-squares c =
    contents-take c.args.self.now.rows c.args.s c.above-above.result c.in_ok-row.row.squares (c.in_ok-row.ensures ∙ ap (take c.from.result) c.row.ensures.row ∙ ap (λ n. take n (row_in c.args.self.now.rows c.args.s)) c.from.ensures)

pub invariant_of-result : goal.invariant_of-result
invariant_of-result c =
    let now = c.args.self.now in
    let same : c.requires.above ≡ c.above-above.result = omega (arith, ints, c.above-above.ensures, c.requires.degree) in
    let within = c.requires.within in
    let next = subst (λ n. IsNext now.rows c.args.s n) same c.requires.next in
    let squares = contents-take now.rows c.args.s c.above-above.result c.in_ok-row.row.squares (c.in_ok-row.ensures ∙ ap (take c.from.result) c.row.ensures.row ∙ ap (λ n. take n (row_in now.rows c.args.s)) c.from.ensures) in
    let resolved = c.in-Ok.ensures ∙ ap (λ (t : Staircase). t.resolved) c.self.view_is in
    let start = c.again.ensures ∙ ap (λ (t : Staircase). t.start) c.self.view_is in (
      IsFooting-same _ _ _ _ c.args.s c.above-above.result _ _ _ _ resolved start squares c.in_ok-below.ensures.below (footing_in now c.row.ensures.is_table c.args.s c.above-above.result c.requires.row (omega arith) next),
      c.above-above.ensures ∙ ap (λ (m : Checked). bottom_of m +ℤ pos c.above-above.result) (sym resolved),
      subst (λ n. c.above-above.result ≤ n) (sym c.in-Ok-try_clone.ensures) c.in_ok-through.ensures.reaches,
      subst (λ n. n ≤ MAX_T) (sym c.in-Ok-try_clone.ensures) c.in_ok-through.ensures.within,
      AreOfRow-first now c.row.ensures.is_table _ c.args.s c.above-above.result _ resolved (c.in_ok-row.ensures ∙ ap (take c.from.result) c.row.ensures.row ∙ ap (λ n. take n (row_in now.rows c.args.s)) c.from.ensures),
      λ j e. AreOfRow-first now c.row.ensures.is_table _ j (c.above-above.result + 1) _ resolved (c.in_ok-below.ensures.squares j e),
    )
