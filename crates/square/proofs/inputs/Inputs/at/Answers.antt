use Rattle.std.proofs.Common.{◌≡◌, suc, w32, refl, ap, sym, ◌∙◌, arith}
use Rattle.std.proofs.lemmas.Int.{to_z-of_z}
use Rattle.std.specs.Arc.{arc_value}
use Rattle.finite_module.specs.Checked.{Checked}
use Rattle.square.specs.Tables.{Footing}
use Rattle.square.proofs.Looking.{seen_content, at_row, at_below, placed_there}
use Rattle.square.proofs.inputs.Inputs.at.Goals as goal
use Rattle.square.specs.Squares.{bottom_of}

pub returns-in-Some-eq0-clause-content : goal.returns-in-Some-eq0-clause-content
returns-in-Some-eq0-clause-content c =
    let low = c.bottom.ensures.bottom ∙ ap (λ (m : Checked). bottom_of m) (c.deref.ensures ∙ ap (λ (f : Footing). f.resolved) c.self.view_is) in
    let same = ap (λ (f : Footing). f.s) c.self.view_is in
    let e = c.in-Some-eq0.ensures in
    let zero = c.in-Some-eq0.field-0-test in
    seen_content c.get.result (λ a. arc_value a.now) c.self.inside.row.squares c.in_ok-k.k c.get.ensures
    ∙ sym (at_row c.args.self.now c.args.s c.in_ok-k.k c.args.t _ _ c.above_of.result c.self.inside.row.squares c.above_of.ensures c.in_ok-k.was (to_z-of_z w32 c.bottom.result (record { sfits = c.bottom.type_inv }) ∙ low) (to_z-of_z w32 c.args.t c.ranges.t) (omega (arith, e.0, e.1)) (ap (λ (f : Footing). f.squares) c.self.view_is))

pub returns-in-Some-eq1-clause-content : goal.returns-in-Some-eq1-clause-content
returns-in-Some-eq1-clause-content c =
    let low = c.bottom.ensures.bottom ∙ ap (λ (m : Checked). bottom_of m) (c.deref.ensures ∙ ap (λ (f : Footing). f.resolved) c.self.view_is) in
    let same = ap (λ (f : Footing). f.s) c.self.view_is in
    let e = c.in-Some-eq1.ensures in
    let one = c.in-Some-eq1.field-0-test in
    seen_content c.get-in-Some-eq1.result (λ a. arc_value a.now) c.self.inside.below.squares c.in_ok-k.k c.get-in-Some-eq1.ensures
    ∙ sym (at_below c.args.self.now c.args.s c.in_ok-k.k c.args.t _ _ c.above_of.result c.self.inside.below.squares c.above_of.ensures c.in_ok-k.was (to_z-of_z w32 c.bottom.result (record { sfits = c.bottom.type_inv }) ∙ low) (to_z-of_z w32 c.args.t c.ranges.t) (omega (arith, e.0, e.1)) (ap (λ n. Rattle.square.specs.Tables.under_row n (Rattle.square.specs.Tables.contents c.self.inside.below.squares)) (sym same) ∙ ap (λ (f : Footing). f.below) c.self.view_is))

pub returns-in-Some-eq0-clause-placed : goal.returns-in-Some-eq0-clause-placed
returns-in-Some-eq0-clause-placed c =
    let low = c.bottom.ensures.bottom ∙ ap (λ (m : Checked). bottom_of m) (c.deref.ensures ∙ ap (λ (f : Footing). f.resolved) c.self.view_is) in
    let e = c.in-Some-eq0.ensures in
    let value = c.in-Some-eq0.field-0-test in
    let above : c.self.inside.s ≡ c.args.s = omega (arith, e.0, e.1) in
    placed_there c.get.result (λ a. arc_value a.now) c.args.self.now.resolved _ c.args.s _ c.in_ok-k.k c.args.t _ _ c.above_of.result c.self.inside.row.squares c.get.ensures c.self.invariant.4 (ap (λ (f : Footing). f.resolved) c.self.view_is) above c.above_of.ensures c.in_ok-k.was (to_z-of_z w32 c.bottom.result (record { sfits = c.bottom.type_inv }) ∙ low) (to_z-of_z w32 c.args.t c.ranges.t)

pub returns-in-Some-eq1-clause-placed : goal.returns-in-Some-eq1-clause-placed
returns-in-Some-eq1-clause-placed c =
    let low = c.bottom.ensures.bottom ∙ ap (λ (m : Checked). bottom_of m) (c.deref.ensures ∙ ap (λ (f : Footing). f.resolved) c.self.view_is) in
    let e = c.in-Some-eq1.ensures in
    let value = c.in-Some-eq1.field-0-test in
    let above : suc c.args.s ≡ c.self.inside.s = omega (arith, e.0, e.1) in
    placed_there c.get-in-Some-eq1.result (λ a. arc_value a.now) c.args.self.now.resolved _ c.args.s _ c.in_ok-k.k c.args.t _ _ c.above_of.result c.self.inside.below.squares c.get-in-Some-eq1.ensures (c.self.invariant.5 c.args.s above) (ap (λ (f : Footing). f.resolved) c.self.view_is) refl c.above_of.ensures c.in_ok-k.was (to_z-of_z w32 c.bottom.result (record { sfits = c.bottom.type_inv }) ∙ low) (to_z-of_z w32 c.args.t c.ranges.t)
