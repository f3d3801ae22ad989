-- The number that is left stands in the row's first place, if it shares no digit with the diagonal.
use Rattle.std.proofs.Common.{◌≡◌, ◌∷◌, ◌++◌, ℕ, List, [], sym, subst, rules, slice_index, bit_and, bit_or}
use Rattle.milnor_basis.specs.Inside.FreeRows.{TurnsOverAll}
use Rattle.milnor_basis.proofs.FirstRow.{first_last_none, first_last}
use Rattle.milnor_basis.proofs.all_products.put_down.Goals as goal

pub returns-then-room-first-ne0-clause-turned : goal.returns-then-room-first-ne0-clause-turned
returns-then-room-first-ne0-clause-turned c = λ rows columns diagonals is.
    first_last_none c.args.first.now.degrees.0 c.args.first.now.degrees.1 c.args.first.now.width c.args.room c.args.above c.args.term.degree c.args.term.place c.args.first.now.left c.args.first.now.columns c.args.first.now.diagonals rows columns diagonals
    c.requires.degree c.requires.width is c.args.pairs.now.items c.if-room-first-ne0.true

pub returns-clause-turned : goal.returns-clause-turned
returns-clause-turned c =
    let pushed : c.push.new.self.items ≡ c.args.pairs.now.items ++ (c.args.first.now.left, c.args.term.place) ∷ [] = c.in_ok-push.ensures.items in
    let apart : bit_and c.args.room (bit_or (slice_index c.args.first.now.diagonals 0) c.args.above) ≡ 0 = search (rules, c.if-room-first-ne0.false) in
    λ rows columns diagonals is.
    subst (λ (xs : List (ℕ × ℕ)). TurnsOverAll c.args.first.now.degrees.0 c.args.first.now.degrees.1 c.args.first.now.width 1 0 c.args.room rows columns diagonals c.args.pairs.now.items xs) (sym pushed)
    (first_last c.args.first.now.degrees.0 c.args.first.now.degrees.1 c.args.first.now.width c.args.room c.args.above c.args.term.degree c.args.term.place c.args.first.now.left c.args.first.now.columns c.args.first.now.diagonals rows columns diagonals
    c.requires.degree c.requires.width is c.args.pairs.now.items c.requires.apart apart c.requires.weight)
