use Rattle.std.proofs.Common.{◌≡◌, ℕ, List, rules, length, ℤ, pos, ◌+ℤ◌, to_z, of_z, w64, refl, ap, sym, ◌∙◌}
use Rattle.std.proofs.lemmas.Int.{to_z-of_z}
use mir.Val.{SFits}
use Rattle.module_spec.specs.Spec.{Generator, degree_at}
use Rattle.milnor_basis.specs.Exponents.{degree_of}
use Rattle.f2_vec.specs.Vectors.{sum_of}
use Rattle.finite_module.specs.Module.{width, act_on}
use Rattle.finite_module.specs.Axioms.{one_by_one}
use Rattle.module_check.proofs.Sides.{one_by_one_width, one_by_one_none, one_by_one_zero, value_is_wide, one_by_one_is}
use Rattle.module_check.proofs.relations.Pair.add_one_by_one.Goals.{In_ok-image}
use Rattle.module_check.proofs.relations.Pair.add_one_by_one.Goals as goal

pub returns-in_default : goal.returns-in_default
returns-in_default c =
    record {
      width = one_by_one_width c.args.operators.now c.args.self.now.r c.args.self.now.s c.args.i c.args.self.now.second c.args.sum.now c.generators.ensures.widths c.args.self.now.second_at c.requires.width;
      sum = one_by_one_none c.args.operators.now c.args.self.now.r c.args.self.now.s c.args.i c.args.self.now.second c.args.sum.now c.generators.ensures.widths c.args.self.now.second_at c.requires.width (sym c.in_default.ensures);
    }

pub returns-then-is_zero : goal.returns-then-is_zero
returns-then-is_zero c =
    record {
      width = one_by_one_width c.args.operators.now c.args.self.now.r c.args.self.now.s c.args.i c.args.self.now.second c.args.sum.now c.generators.ensures.widths c.args.self.now.second_at c.requires.width;
      sum = one_by_one_zero c.args.operators.now c.args.self.now.r c.args.self.now.s c.args.i c.args.self.now.second c.args.sum.now c.generators.ensures.widths c.args.self.now.second_at c.requires.width c.in-Some.value.now (sym c.in-Some.ensures) (c.if-is_zero.ensures.0 refl);
    }

-- the degree of the second element's value, as the code passes it
degree_is : (gs gs' : List Generator) (i n k : ℕ) (t : ℤ) → SFits w64 t → t ≡ (degree_at gs' i +ℤ pos n) → gs' ≡ gs → n ≡ k → to_z w64 (of_z w64 t) ≡ (degree_at gs i +ℤ pos k)
degree_is gs gs' i n k t fits e same long =
    to_z-of_z w64 t fits ∙ e ∙ ap (λ g. degree_at g i +ℤ pos n) same ∙ ap (λ j. degree_at gs i +ℤ pos j) long

pub act_on-requires : goal.act_on-requires
act_on-requires c =
    value_is_wide c.args.operators.now c.args.self.now.r c.args.self.now.s c.args.i c.args.self.now.second c.args.sum.now c.generators.ensures.widths c.args.self.now.second_at c.requires.width c.in-Some.value.now (sym c.in-Some.ensures)
    ∙ ap (width c.args.operators.now.generators) (sym (degree_is c.args.operators.now.generators c.generators.result.now c.args.i c.degree.result (degree_of c.args.self.now.s) c.degree_above-t.result (search rules) c.degree_above-t.ensures.degree c.generators.ensures.generators c.degree.ensures.degree))

-- what the code adds is the first element on the second
image_is : (c : In_ok-image) → c.in_ok-image.image ≡ one_by_one c.args.operators.now c.args.self.now.r c.args.self.now.s c.args.i
image_is c =
    let t : to_z w64 (of_z w64 c.degree_above-t.result) ≡ (degree_at c.args.operators.now.generators c.args.i +ℤ pos (degree_of c.args.self.now.s)) =
    degree_is c.args.operators.now.generators c.generators.result.now c.args.i c.degree.result (degree_of c.args.self.now.s) c.degree_above-t.result (search rules) c.degree_above-t.ensures.degree c.generators.ensures.generators c.degree.ensures.degree
    in
    one_by_one_is c.args.operators.now c.args.self.now.r c.args.self.now.s c.args.i c.args.self.now.second c.args.sum.now c.generators.ensures.widths c.args.self.now.second_at c.requires.width c.in-Some.value.now c.in_ok-image.image (sym c.in-Some.ensures)
    (c.in_ok-image.ensures ∙ ap (λ d. act_on c.args.operators.now.generators c.args.operators.now.operators c.args.self.now.r d c.in-Some.value.now) t)

pub xor_with-requires : goal.xor_with-requires
xor_with-requires c =
    one_by_one_width c.args.operators.now c.args.self.now.r c.args.self.now.s c.args.i c.args.self.now.second c.args.sum.now c.generators.ensures.widths c.args.self.now.second_at c.requires.width ∙ ap length (sym (image_is (goal.at.xor_with-requires c).In_ok-image))

pub returns : goal.returns
returns c =
    record {
      width = one_by_one_width c.args.operators.now c.args.self.now.r c.args.self.now.s c.args.i c.args.self.now.second c.args.sum.now c.generators.ensures.widths c.args.self.now.second_at c.requires.width;
      sum = c.xor_with.ensures ∙ ap (sum_of c.args.sum.now) (image_is (goal.at.returns c).In_ok-image);
    }
