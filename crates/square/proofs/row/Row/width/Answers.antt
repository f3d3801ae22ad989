use Rattle.std.proofs.Common.{◌<◌, ◌+◌, ◌*◌, ◌^◌, ℕ, Option, take, length, SomeIff, ap, sym, subst, ◌∙◌, arith}
use Rattle.std.proofs.lemmas.List.{length-map}
use Rattle.std.specs.Arc.{arc_value}
use Rattle.resolution_laws.specs.Resolution.{Content}
use Rattle.square.specs.Squares.{Placed, content_of}
use Rattle.square.specs.Tables.{Shelf, contents, row_width}
use Rattle.square.proofs.Rows.{square_at_place, IsWider, one_wider}
use Rattle.square.proofs.row.Row.width.Goals.{After-elements-elements}
use Rattle.square.proofs.row.Row.width.Goals as goal

wider : (c : After-elements-elements) → IsWider (contents c.args.self.now.squares) c.args.n c.loop-i.i c.args.k (c.loop-i.width + length c.gens.result.now * c.elements-elements.result)
wider c =
    let len = length-map c.args.self.now.squares content_of in
    let there = square_at_place arc_value c.self.inside.squares.items c.args.self.now.squares c.loop-i.i c.from.result c.index.result.now (ap (λ (r : Shelf). r.squares) c.self.view_is) (omega (arith, c.requires.within, c.loop-i-test.true)) c.from.ensures c.index.ensures in
    let images = c.gens.ensures ∙ ap (λ (q : Placed). q.content.images) c.deref.ensures ∙ ap (λ (x : Content). x.images) (sym there) in
    one_wider (contents c.args.self.now.squares) c.args.n c.loop-i.i c.args.k c.loop-i.width _ _ (omega (arith, c.requires.within)) c.loop-i-test.true c.requires.degree c.loop-i.invariant.is (ap length images) c.elements-elements.ensures

pub returns-in_err-checked_mul : goal.returns-in_err-checked_mul
returns-in_err-checked_mul c =
    let all = row_width (take c.args.n (contents c.args.self.now.squares)) c.args.k in
    subst (λ (x : Option ℕ). SomeIff x (all < 2 ^ 64) all) (sym c.from_residual.ensures) (λ fits. c.in_err-checked_mul.ensures (let w = wider (goal.at.returns-in_err-checked_mul c).After-elements-elements in omega arith))

pub returns-in_err-width : goal.returns-in_err-width
returns-in_err-width c =
    let all = row_width (take c.args.n (contents c.args.self.now.squares)) c.args.k in
    subst (λ (x : Option ℕ). SomeIff x (all < 2 ^ 64) all) (sym c.from_residual-in_err-width.ensures) (λ fits. c.in_err-width.ensures (let w = wider (goal.at.returns-in_err-width c).After-elements-elements in let product = c.in_ok-checked_mul.ensures in omega arith))

pub loop-i-preserved : goal.loop-i-preserved
loop-i-preserved c =
    let w = wider (goal.at.loop-i-preserved c).After-elements-elements in
    let product = c.in_ok-checked_mul.ensures in
    let sum = c.in_ok-width.ensures in
    record { is = omega arith; fits = omega arith }
