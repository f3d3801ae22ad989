use Rattle.std.proofs.Common.{◌≡◌, ℕ, List, [], ◌∷◌, ◌++◌, Some, ap, sym, subst, ◌∙◌}
use Rattle.std.specs.Prelude.{Option}
use Rattle.atomic_table.specs.Table.{opening}
use Rattle.turn_lock.specs.Inside.Rule.{Keeps, first_view}
use Rattle.turn_lock.proofs.Seats.{opens}
use Rattle.turn_lock.proofs.start.table_of.Goals as goal

pub new-requires : goal.new-requires
new-requires g c =
    let t = g.T.Told in
    let x = c.args.state in
    let ws = c.args.words.now in
    let name = g.T.Told.name x in
    let K : g.row.T-Name.Denot → List (Option g.row.T.Denot) → Type 0 = λ n slots. Keeps g.T.Told.entries g.T.Told.name (g.T.Told.front_of n) (g.T.Told.width n) n c.args.opening.now.passes (opening ws slots (first_view n)) in
    let slot : c.push_reserved.new.self.items ≡ Some x ∷ [] = c.push_reserved.ensures.items ∙ ap (λ (l : List (Option g.row.T.Denot)). l ++ Some x ∷ []) (c.reserve.ensures.items ∙ c.new-slot.ensures.items) in
    let here : K name (Some x ∷ []) = opens ws x c.requires.some c.requires.empty (λ i. name) c.requires.size c.requires.count
    (λ i h. c.requires.fronts i h ∙ ap (λ (l : List (ℕ × g.row.T-Entry.Denot)). g.T.Told.front_of name l i) c.requires.empty) in
    subst (λ (n : g.row.T-Name.Denot). K n c.push_reserved.new.self.items) (ap g.T.Told.name (sym c.requires.first)) (subst (λ (l : List (Option g.row.T.Denot)). K name l) (sym slot) here)
