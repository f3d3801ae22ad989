use Rattle.std.proofs.Common.{◌≡◌, pos, ◌+ℤ◌, arith}
use Rattle.std.proofs.lemmas.Int.{ints}
use Rattle.square.specs.Squares.{bottom_of}
use Rattle.square.specs.Tables.{Footing}
use Rattle.save_file.proofs.Behind.{IsLent, widths_lent, behind_lent}
use Rattle.save_file.proofs.differential.next_map.Goals as goal

pub invariant_of-result : goal.invariant_of-result
invariant_of-result c =
    let now = c.args.table.now in
    let f : Footing = c.in_ok-inputs.inputs in
    let at : c.args.t ≡ bottom_of now.resolved +ℤ pos f.above = omega (arith, ints, c.in_ok-inputs.ensures.t) in
    let h : IsLent now c.args.s c.args.t f = record { degree = at; resolved = c.in_ok-inputs.ensures.resolved; squares = c.in_ok-inputs.ensures.squares; below = c.in_ok-inputs.ensures.below } in
    record { widths = widths_lent now c.args.s c.args.t f h c.args.images.now c.in_ok-images.images.items c.in_ok-images.ensures c.requires.widths }

pub returns : goal.returns
returns c =
    let now = c.args.table.now in
    let f : Footing = c.in_ok-inputs.inputs in
    let at : c.args.t ≡ bottom_of now.resolved +ℤ pos f.above = omega (arith, ints, c.in_ok-inputs.ensures.t) in
    let h : IsLent now c.args.s c.args.t f = record { degree = at; resolved = c.in_ok-inputs.ensures.resolved; squares = c.in_ok-inputs.ensures.squares; below = c.in_ok-inputs.ensures.below } in
    behind_lent now c.args.s c.args.t f h c.args.images.now c.in_ok-images.images.items c.in_ok-images.ensures
