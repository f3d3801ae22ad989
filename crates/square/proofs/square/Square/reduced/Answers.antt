use Rattle.std.proofs.Common.{◌≡◌, Bool, List, Some, subst, sym, ◌∙◌, w32, to_z, of_z}
use Rattle.std.proofs.lemmas.Int.{to_z-of_z}
use Rattle.square.specs.Squares.{Placed, IsMeasured, over}
use Rattle.square.proofs.Footings.{kernel_of_reduction, IsMeasured-made}
use Rattle.square.proofs.square.Square.reduced.Goals as goal

pub invariant_of-result : goal.invariant_of-result
invariant_of-result c =
    let f = c.args.inputs.now in
    let kernel = kernel_of_reduction (over f.resolved) f.below f.squares (record { images = c.args.gens.items; kernel = c.args.quasi.kernel }) c.args.quasi c.requires.step c.requires.quasi in
    let P : List (List Bool) → Type 0 = λ rows. IsMeasured (record { resolved = c.of.result.value; start = c.again.result; s = c.s.result; above = c.above.result; content = record { images = c.args.gens.items; kernel = rows }; quasi = Some c.args.quasi }) (to_z w32 (of_z w32 c.t.result)) c.cols-target_width.result c.height-width.result in
    subst P (sym kernel)
    (IsMeasured-made f (record { images = c.args.gens.items; kernel = c.args.quasi.kernel }) c.args.quasi _ _ _ _ _ _ _ c.t.ensures.is_footing c.requires.step c.requires.quasi
    (c.of.ensures ∙ c.module.ensures) (c.again.ensures ∙ c.start.ensures) c.s.ensures c.above.ensures.above (to_z-of_z w32 c.t.result (record { sfits = c.t.type_inv }) ∙ c.t.ensures.t) c.cols-target_width.ensures c.height-width.ensures)

pub returns : goal.returns
returns c =
    let f = c.args.inputs.now in
    let kernel = kernel_of_reduction (over f.resolved) f.below f.squares (record { images = c.args.gens.items; kernel = c.args.quasi.kernel }) c.args.quasi c.requires.step c.requires.quasi in
    let resolved = c.of.ensures ∙ c.module.ensures in
    let start = c.again.ensures ∙ c.start.ensures in
    let p : Placed = record { resolved = c.of.result.value; start = c.again.result; s = c.s.result; above = c.above.result; content = record { images = c.args.gens.items; kernel = c.args.quasi.kernel }; quasi = Some c.args.quasi } in
    let q : Placed = record { resolved = f.resolved; start = f.start; s = f.s; above = f.above; content = record { images = c.args.gens.items; kernel = c.args.quasi.kernel }; quasi = Some c.args.quasi } in
    let e : p ≡ q = cc in
    e
