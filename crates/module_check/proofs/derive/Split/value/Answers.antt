use Rattle.std.proofs.Common.{◌≡◌, ◌+◌, pos, ◌+ℤ◌, [], ◌∷◌, length, map, to_z, of_z, w64, ap, sym, ◌∙◌, arith}
use Rattle.std.proofs.lemmas.Int.{ints}
use Rattle.f2_vec.specs.Vectors.{sum_of}
use Rattle.f2_vec.specs.Spans.{HaveWidth}
use Rattle.f2_vec.proofs.Combinations.{HaveWidth-map_where}
use Rattle.milnor_basis.specs.Exponents.{degree_of}
use Rattle.module_spec.specs.Spec.{degree_at}
use Rattle.finite_module.specs.Module.{width, value, act_on, total}
use Rattle.milnor_basis.specs.Front.{front}
use Rattle.finite_module.specs.DerivedAction.{other_terms}
use Rattle.milnor_basis.proofs.Fronts.{degree_of-front}
use Rattle.finite_module.proofs.Widths.{length-total, length-act_on, degree_of-single}
use Rattle.module_check.proofs.Fronts.{others_in_degree}
use Rattle.module_check.proofs.derive.Split.value.Goals as goal

pub sum_on-requires-clause-degrees : goal.sum_on-requires-clause-degrees
sum_on-requires-clause-degrees c =
    let split = c.args.self.now in
    others_in_degree split.exponent split.rest split.degree c.as_slice.result.now split.degree_is (c.as_slice.ensures.value ∙ split.others_are)

pub xor_with-requires : goal.xor_with-requires
xor_with-requires c =
    let gs = c.args.operators.now.generators in
    let operators = c.args.operators.now.operators in
    let split = c.args.self.now in
    let i = c.args.i in
    let widths = c.generators.ensures.widths in
    let t = to_z w64 (of_z w64 (to_z w64 (of_z w64 c.from.result) +ℤ to_z w64 (of_z w64 c.from-2.result))) in
    let degree : c.degree.result ≡ degree_at gs i = c.degree.ensures.degree ∙ ap (λ g. degree_at g i) c.generators.ensures.generators in
    let at : t ≡ degree_at gs i +ℤ pos (degree_of split.rest) = omega (arith, ints, c.from.ensures, c.from-2.ensures, c.degree.ensures.lowest, c.degree.ensures.highest, c.degree-2.ensures.degree) in
    let w = width gs (degree_at gs i +ℤ pos split.degree) in
    let square : degree_of split.square ≡ front (split.exponent ∷ split.rest) = ap degree_of split.square_is ∙ degree_of-single (front (split.exponent ∷ split.rest)) in
    let whole : split.degree ≡ front (split.exponent ∷ split.rest) + degree_of split.rest = split.degree_is ∙ degree_of-front split.exponent split.rest in
    let up : t +ℤ pos (degree_of split.square) ≡ degree_at gs i +ℤ pos split.degree = omega (arith, ints, at, square, whole) in
    let first : length c.in_ok-sum.sum ≡ w = ap length c.in_ok-sum.ensures ∙ length-act_on gs operators split.square t c.in_ok-value.value widths ∙ ap (width gs) up in
    let wide : HaveWidth w (map (λ r. value gs operators r i) c.as_slice.result.now) =
    HaveWidth-map_where (λ r. degree_of r ≡ split.degree) w (λ r. value gs operators r i) c.as_slice.result.now (λ r h. widths r i ∙ ap (λ n. width gs (degree_at gs i +ℤ pos n)) h) (others_in_degree split.exponent split.rest split.degree c.as_slice.result.now split.degree_is (c.as_slice.ensures.value ∙ split.others_are)) in
    first ∙ sym (ap length c.in_ok-others.ensures ∙ length-total w (map (λ r. value gs operators r i) c.as_slice.result.now) wide)

pub returns : goal.returns
returns c =
    let gs = c.args.operators.now.generators in
    let operators = c.args.operators.now.operators in
    let split = c.args.self.now in
    let i = c.args.i in
    let widths = c.generators.ensures.widths in
    let terms : c.as_slice.result.now ≡ other_terms split.exponent split.rest = c.as_slice.ensures.value ∙ split.others_are in
    let t = to_z w64 (of_z w64 (to_z w64 (of_z w64 c.from.result) +ℤ to_z w64 (of_z w64 c.from-2.result))) in
    let degree : c.degree.result ≡ degree_at gs i = c.degree.ensures.degree ∙ ap (λ g. degree_at g i) c.generators.ensures.generators in
    let at : t ≡ degree_at gs i +ℤ pos (degree_of split.rest) = omega (arith, ints, c.from.ensures, c.from-2.ensures, c.degree.ensures.lowest, c.degree.ensures.highest, c.degree-2.ensures.degree) in
    let sq = front (split.exponent ∷ split.rest) ∷ [] in
    let u = degree_at gs i +ℤ pos (degree_of split.rest) in
    let v = value gs operators split.rest i in
    let first : c.in_ok-sum.sum ≡ act_on gs operators sq u v =
    c.in_ok-sum.ensures ∙ ap (λ q. act_on gs operators q t c.in_ok-value.value) split.square_is ∙ ap (λ z. act_on gs operators sq z c.in_ok-value.value) at ∙ ap (act_on gs operators sq u) c.in_ok-value.ensures in
    let others : c.in_ok-others.others ≡ total (width gs (degree_at gs i +ℤ pos (degree_of (split.exponent ∷ split.rest)))) (map (λ r. value gs operators r i) (other_terms split.exponent split.rest)) =
    c.in_ok-others.ensures ∙ ap (λ n. total (width gs (degree_at gs i +ℤ pos n)) (map (λ r. value gs operators r i) c.as_slice.result.now)) split.degree_is ∙ ap (λ xs. total (width gs (degree_at gs i +ℤ pos (degree_of (split.exponent ∷ split.rest)))) (map (λ r. value gs operators r i) xs)) terms in
    c.xor_with.ensures ∙ ap (λ x. sum_of x c.in_ok-others.others) first ∙ ap (sum_of (act_on gs operators sq u v)) others
