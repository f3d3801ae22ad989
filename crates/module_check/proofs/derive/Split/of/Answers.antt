use Rattle.std.proofs.Common.{rules, ◌≡◌, [], ◌∷◌, not, nat_eq, drop, ap, sym, ◌∙◌, arith}
use Rattle.std.specs.List.{filter}
use Rattle.std.specs.Cmp.Lexicographic.{pointwise}
use Rattle.std.proofs.lemmas.Fn.{filter_same}
use Rattle.milnor_basis.specs.Exponents.{degree_of, entry}
use Rattle.milnor_basis.specs.Product.{product_terms}
use Rattle.milnor_basis.specs.Front.{front}
use Rattle.finite_module.proofs.Widths.{degree_of-single}
use Rattle.module_check.proofs.Fronts.{first_and_behind, front_and_behind}
use Rattle.module_check.proofs.derive.Split.of.Goals as goal

pub terms-requires : goal.terms-requires
terms-requires c =
    let first : degree_of c.sq-square.result ≡ front c.args.r.now = ap degree_of c.sq-square.ensures ∙ degree_of-single c.front.result ∙ c.front.ensures.front in
    let second : degree_of c.rest-rest.result ≡ degree_of (drop 1 c.args.r.now) = ap degree_of c.rest-rest.ensures in
    omega (arith, front_and_behind c.args.r.now (omega arith))

pub invariant_of-result : goal.invariant_of-result
invariant_of-result c =
    let r = c.args.r.now in
    let e = c.exponent.result in
    let s = c.rest-rest.result in
    let whole : e ∷ s ≡ r = ap (λ n. n ∷ s) c.exponent.ensures ∙ ap (λ t. entry r 0 ∷ t) c.rest-rest.ensures ∙ first_and_behind r (omega arith) in
    let square : c.sq-square.result ≡ front (e ∷ s) ∷ [] = c.sq-square.ensures ∙ ap (λ n. n ∷ []) (c.front.ensures.front ∙ ap front (sym whole)) in
    let kept : c.retain.new.self.items ≡ filter (λ t. not (pointwise nat_eq t r)) c.in_ok-others.others.items = filter_same _ (λ t. not (pointwise nat_eq t r)) _ (λ x b f t. search rules) _ _ c.retain.ensures.filtered in
    record {
      square_is = square;
      degree_is = c.degree.ensures.degree ∙ ap degree_of (sym whole);
      others_are = kept ∙ ap (filter (λ t. not (pointwise nat_eq t r))) (c.in_ok-others.ensures ∙ ap (λ q. product_terms q s) square) ∙ ap (λ q. filter (λ t. not (pointwise nat_eq t q)) (product_terms (front (e ∷ s) ∷ []) s)) (sym whole);
    }
