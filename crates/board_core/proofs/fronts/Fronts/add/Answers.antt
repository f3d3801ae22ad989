use Rattle.std.proofs.Common.{◌≡◌, ℕ, suc, ◌+◌, ◌<◌, true, false, List, length, set, slice_index_or, sym, ◌∙◌, ap, subst}
use Rattle.board_core.specs.Board.{below_fronts}
use Rattle.board_core.specs.Machine.{insert_square}
use Rattle.board_core.proofs.BelowFronts.{stands_at_front, add_at_front}
use Rattle.board_core.proofs.fronts.Fronts.add.Goals as goal

pub returns-clause-squares : goal.returns-clause-squares
returns-clause-squares c =
    let fronts : List ℕ = c.self.inside.fronts.items in
    let seen : fronts ≡ c.args.self.now = c.self.view_is in
    let row : c.from.result ≡ c.args.s = c.from.ensures in
    let within : c.args.s < length fronts = subst (λ (f : List ℕ). c.args.s < length f) (sym seen) c.requires.row in
    let before : (j : ℕ) → suc j ≡ c.args.k → below_fronts fronts c.args.s j ≡ true = subst (λ (f : List ℕ). (j : ℕ) → suc j ≡ c.args.k → below_fronts f c.args.s j ≡ true) (sym seen) c.requires.before in
    let absent : below_fronts fronts c.args.s c.args.k ≡ false = ap (λ (f : List ℕ). below_fronts f c.args.s c.args.k) seen ∙ c.requires.absent in
    let here : slice_index_or fronts c.args.s 0 ≡ c.args.k = stands_at_front fronts c.args.s c.args.k before absent in
    ap (λ (n : ℕ). below_fronts (set fronts n (c.args.k + 1))) row
    ∙ add_at_front fronts c.args.s c.args.k within here
    ∙ ap (λ (f : List ℕ). insert_square (below_fronts f) c.args.s c.args.k) seen
