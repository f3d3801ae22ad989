use Rattle.std.proofs.Common.{ap, sym, subst, ◌∙◌, List, Bool, Some}
use Rattle.resolution_laws.specs.Resolution.{IsStep}
use Rattle.square.specs.Squares.{IsQuasi, over}
use Rattle.square.proofs.Footings.{kernel_of_reduction}
use Rattle.square.proofs.square.Square.made.Goals as goal

pub reduced-requires-clause-step : goal.reduced-requires-clause-step
reduced-requires-clause-step c =
    let f = c.args.inputs.now in
    let kernel = kernel_of_reduction (over f.resolved) f.below f.squares (record { images = c.args.gens.items; kernel = c.args.kernel.items }) c.args.quasi c.requires.step c.requires.quasi in
    subst (λ (rows : List (List Bool)). IsStep (over f.resolved) f.below f.squares (record { images = c.args.gens.items; kernel = rows })) (sym kernel) c.requires.step

pub reduced-requires-clause-quasi : goal.reduced-requires-clause-quasi
reduced-requires-clause-quasi c =
    let f = c.args.inputs.now in
    let kernel = kernel_of_reduction (over f.resolved) f.below f.squares (record { images = c.args.gens.items; kernel = c.args.kernel.items }) c.args.quasi c.requires.step c.requires.quasi in
    subst (λ (rows : List (List Bool)). IsQuasi (over f.resolved) f.below f.squares (record { images = c.args.gens.items; kernel = rows }) c.args.quasi) (sym kernel) c.requires.quasi

pub returns : goal.returns
returns c =
    let f = c.args.inputs.now in
    let kernel = kernel_of_reduction (over f.resolved) f.below f.squares (record { images = c.args.gens.items; kernel = c.args.kernel.items }) c.args.quasi c.requires.step c.requires.quasi in
    c.reduced.ensures ∙ ap (λ (rows : List (List Bool)). record { resolved = f.resolved; start = f.start; s = f.s; above = f.above; content = record { images = c.args.gens.items; kernel = rows }; quasi = Some c.args.quasi }) kernel
