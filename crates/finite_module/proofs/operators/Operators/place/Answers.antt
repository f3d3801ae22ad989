use Rattle.std.proofs.Common.{◌≡◌, suc, ◌+◌, ◌<◌, ◌≤◌, true, false, Some, length, get_or, refl, ap, sym, ◌∙◌, inl, inr, arith}
use Rattle.std.proofs.lemmas.Bool.{cases_lt}
use Rattle.std.proofs.lemmas.List.FromFn.{length-map-range_with_len, get_or-map-range_with_len}
use Rattle.std.proofs.lemmas.Option.{slice_get_within}
use Rattle.milnor_basis.specs.Exponents.{degree_of}
use Rattle.milnor_basis.specs.Basis.{basis_of}
use Rattle.finite_module.specs.Module.{elements_below}
use Rattle.finite_module.proofs.Elements.{place_found, place_past, elements_below_grow}
use Rattle.finite_module.proofs.Values.{if_none}
use Rattle.finite_module.proofs.operators.Operators.place.Goals as goal

no : true ≡ false → ⊥
no e = cc

pub index-requires : goal.index-requires
index-requires c =
    let basis = c.self.inside.basis in
    let lens : length c.self.inside.below.items ≡ basis + 1 = ap length c.self.invariant.counts ∙ length-map-range_with_len elements_below 0 (basis + 1) in
    let within : degree_of c.args.r.now ≤ basis = elim (cases_lt basis (degree_of c.args.r.now)) [ inl a ↦ absurd (no (c.in_ok-degree.ensures.past.1 a)) | inr b ↦ b ] in
    omega (arith, c.self.inside.below.ok.0, c.in_ok-degree.ensures.degree)

pub overflow_add-result : goal.overflow_add-result
overflow_add-result c =
    let basis = c.self.inside.basis in
    let within : degree_of c.args.r.now ≤ basis = elim (cases_lt basis (degree_of c.args.r.now)) [ inl a ↦ absurd (no (c.in_ok-degree.ensures.past.1 a)) | inr b ↦ b ] in
    let degree = c.in_ok-degree.degree in
    let is : degree ≡ degree_of c.args.r.now = c.in_ok-degree.ensures.degree in
    let placed : c.in_ok-degree.place < length (basis_of degree) = slice_get_within (basis_of degree) c.in_ok-degree.place c.args.r.now c.in_ok-degree.ensures.place in
    let read : c.index.result.now ≡ elements_below degree =
    c.index.ensures ∙ ap (λ i. get_or c.self.inside.below.items i c.index.result.now) c.from.ensures ∙ ap (λ xs. get_or xs degree c.index.result.now) c.self.invariant.counts ∙ get_or-map-range_with_len elements_below 0 (basis + 1) degree degree c.index.result.now (omega arith) (omega arith) in
    let rise : elements_below (suc degree) ≤ elements_below (basis + 1) = elements_below_grow (suc degree) (basis + 1) (omega arith) in
    let fits = c.self.invariant.fits in
    omega arith

pub returns-clause-some : goal.returns-clause-some
returns-clause-some c =
    let basis = c.self.inside.basis in
    let within : degree_of c.args.r.now ≤ basis = elim (cases_lt basis (degree_of c.args.r.now)) [ inl a ↦ absurd (no (c.in_ok-degree.ensures.past.1 a)) | inr b ↦ b ] in
    let degree = c.in_ok-degree.degree in
    let is : degree ≡ degree_of c.args.r.now = c.in_ok-degree.ensures.degree in
    let read : c.index.result.now ≡ elements_below degree =
    c.index.ensures ∙ ap (λ i. get_or c.self.inside.below.items i c.index.result.now) c.from.ensures ∙ ap (λ xs. get_or xs degree c.index.result.now) c.self.invariant.counts ∙ get_or-map-range_with_len elements_below 0 (basis + 1) degree degree c.index.result.now (omega arith) (omega arith) in
    place_found degree c.in_ok-degree.place c.args.r.now is c.in_ok-degree.ensures.place ∙ ap (λ n. Some (n + c.in_ok-degree.place)) (sym read)

pub returns-in_err-degree-clause-beyond : goal.returns-in_err-degree-clause-beyond
returns-in_err-degree-clause-beyond c =
    let basis = c.self.inside.basis in
    let past : basis < degree_of c.args.r.now = c.in_err-degree.ensures.past.0 refl in
    let own : length c.self.inside.list.items ≡ length c.args.self.now.operators = ap (λ m. length m.operators) c.self.view_is in
    if_none c.from_residual.result _ (λ p e. omega (arith, c.self.invariant.within, place_past (basis + 1) p c.args.r.now e (omega arith)))
