use Rattle.std.proofs.Common.{true, [], ◌∷◌, ◌++◌, refl, ap, sym, subst, ◌∙◌}
use Rattle.std.proofs.lemmas.Result.{IfOk-weaker}
use Rattle.f2_vec.specs.Vectors.{IsZero, IsFirstOne}
use Rattle.f2_matrix.specs.Preimages.{pivot_of, quasi_of, rest_of}
use Rattle.f2_matrix.specs.Inside.Extend.{IsWithRelation, IsWithPivot}
use Rattle.f2_matrix.proofs.OneRowMore.{ends_with_one, relation_extends, pivot_extends}
use Rattle.f2_matrix.proofs.reduced.Reduced.with_row.Goals as goal

pub with_kernel_row-requires-clause-pivot : goal.with_kernel_row-requires-clause-pivot
with_kernel_row-requires-clause-pivot c =
    subst (λ x. IsFirstOne x (pivot_of x)) (sym c.in_ok-push.ensures.ok) (ends_with_one c.in_ok-coefficients.coefficients)

pub returns-in-Some-clause-reduction : goal.returns-in-Some-clause-reduction
returns-in-Some-clause-reduction c =
    let self = c.args.self.now in
    let v = c.args.v.now in
    let q = c.in-Some.pivot in
    let w = c.in_ok-rest.ensures.rest in
    let k = c.in_ok-push.ensures.ok ∙ ap (λ x. x ++ true ∷ []) c.in_ok-coefficients.ensures.sum in
    IfOk-weaker c.with_image_row.result _ _
    (λ r is rows h.
    pivot_extends self.cols rows v q self r h c.requires (subst (λ x. IsFirstOne x q) w c.in-Some.ensures.first)
    (subst (λ y. IsWithPivot (rest_of self.cols self.image v) q y self r) k (subst (λ x. IsWithPivot x q c.push.new.self self r) w is)))
    c.with_image_row.ensures

pub returns-in-None-clause-reduction : goal.returns-in-None-clause-reduction
returns-in-None-clause-reduction c =
    let self = c.args.self.now in
    let v = c.args.v.now in
    let w = c.in_ok-rest.ensures.rest in
    let k = c.in_ok-push.ensures.ok ∙ ap (λ x. x ++ true ∷ []) c.in_ok-coefficients.ensures.sum in
    IfOk-weaker c.with_kernel_row.result _ _
    (λ r is rows h.
    relation_extends self.cols rows v self r h c.requires (subst IsZero w (c.in-None.ensures.none.0 refl)) (ends_with_one (quasi_of self.height self.image self.chosen v))
    (subst (λ y. IsWithRelation y self r) k is))
    c.with_kernel_row.ensures
