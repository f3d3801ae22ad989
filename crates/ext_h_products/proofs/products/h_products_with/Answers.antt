use Rattle.std.proofs.Common.{◌≡◌, ◌^◌, ap, sym, subst, ℕ, pos, arith}
use Rattle.std.proofs.lemmas.Int.{ints}
use Rattle.std.proofs.lemmas.Nat.{pow_pos}
use Rattle.bidegree.specs.declared.class.Class.{Class}
use Rattle.std.proofs.lemmas.Result.{IfOk-weaker}
use Rattle.h_products.specs.ReadOff.{resolution_in}
use Rattle.ext_products.specs.Products.{OneEach, factors, AreProductLines}
use Rattle.ext_h_products.specs.RowOne.{in_row_one, IsLineReadOff, IsAnswerOverImages}
use Rattle.ext_h_products.proofs.Told.{answer}
use Rattle.ext_h_products.proofs.products.h_products_with.Goals as goal

pub lines-requires-clause-positive : goal.lines-requires-clause-positive
lines-requires-clause-positive c =
    let is = c.requires.there in
    let degree : c.args.by.t ≡ pos (2 ^ is.exponent) = sym (ap (λ (class : Class). class.t) is.is) in
    omega (arith, ints, degree, is.degree, pow_pos is.exponent)

pub returns : goal.returns
returns c =
    let images = c.args.images.now in
    let is = c.requires.there in
    let v = is.exponent in
    let degree : c.args.by.t ≡ pos (2 ^ v) = sym (ap (λ (class : Class). class.t) is.is) in
    IfOk-weaker c.lines.result _ _
    (λ lines e.
    let each = subst (λ (n : ℕ). OneEach (IsLineReadOff (resolution_in images) n) (factors (resolution_in images) c.args.shape c.args.range (in_row_one n)) lines.items) (omega (arith, ints, degree, is.degree)) e in
    subst (λ (class : Class). IsAnswerOverImages (AreProductLines c.args.shape c.args.range class) images c.args.range lines.items) is.is
    (answer c.each_class_lifts.ensures c.row_one_has_squares.ensures c.classes_with_h_are_read_off_images.ensures c.rows_in_stems_are_whole.ensures c.squares_in_stems_are_those_of_table.ensures images c.args.range c.args.shape c.requires.through v is.row is.degree lines.items each))
    c.lines.ensures
