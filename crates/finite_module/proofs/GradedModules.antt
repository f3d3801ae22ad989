-- A module whose relations hold on its generators is one over the Steenrod algebra on all vectors.
use Rattle.std.proofs.Common.{◌≡◌, ℕ, ◌+◌, ◌<◌, ℤ, pos, ◌+ℤ◌, Bool, List, length, map, All, ap, sym, ◌∙◌, arith}
use Rattle.std.proofs.lemmas.List.{length-map}
use Rattle.std.proofs.lemmas.List.Elements.{All-from_get_or}
use Rattle.std.proofs.lemmas.Int.{ints}
use Rattle.f2_vec.specs.Spans.{combination}
use Rattle.f2_vec.proofs.Combinations.{map-map, map_same_all, combination-combination, combination-exchange, combination-filter}
use Rattle.milnor_basis.specs.Exponents.{degree_of, IsTrimmed}
use Rattle.milnor_basis.specs.Basis.{basis_of}
use Rattle.milnor_basis.specs.Product.{coefficient, product_bits}
use Rattle.milnor_basis.proofs.BasisLemmas.{All-basis_of}
use Rattle.free_module.specs.Graded.{IsLinear, ActsByProducts}
use Rattle.milnor_laws.proofs.UnitActs.{acts_by_products}
use Rattle.module_spec.specs.Spec.{degree_at}
use Rattle.finite_module.specs.Module.{Module, generators_in, width, act_on}
use Rattle.finite_module.specs.Axioms.{IsModule, value_of}
use Rattle.finite_module.specs.Graded.{module_graded, ModulesAreSteenrodModules}
use Rattle.finite_module.specs.ModuleLaws.{generators_in-member, HaveWidth-values, module_HasUnit, module_KeepsWidths}

-- Sq(R) is given by a matrix
module_IsLinear : (m : Module) → IsModule m → IsLinear (module_graded m)
module_IsLinear m is r t c rows h =
    let gs = m.generators in
    combination-combination (width gs (t +ℤ pos (degree_of r))) (width gs t) c rows (map (value_of m r) (generators_in gs t)) (length-map (generators_in gs t) (value_of m r)) h (HaveWidth-values m is r t)

module _ (m : Module) (is : IsModule m) (r s : List ℕ) (t : ℤ) where
  abbrev degree : ℕ
  degree = degree_of r + degree_of s

  abbrev above : ℕ
  above = width m.generators (t +ℤ pos degree)

  abbrev numbers : List ℕ
  numbers = generators_in m.generators t

  -- i is a generator of degree t
  abbrev IsIn : ℕ → Type 0
  IsIn i = (i < length m.generators) × (degree_at m.generators i ≡ t)

  All-numbers : All IsIn numbers
  All-numbers = All-from_get_or IsIn numbers 0 (λ p h. generators_in-member m.generators t p h)

  -- what the product of Sq(R) and Sq(S) has on generator i
  abbrev product_on : ℕ → List Bool
  product_on i = combination above (product_bits r s) (map (λ q. value_of m q i) (basis_of degree))

  on_generator : IsTrimmed r → IsTrimmed s → 0 < degree_of r → 0 < degree_of s → (i : ℕ) → IsIn i → act_on m.generators m.operators r (t +ℤ pos (degree_of s)) (value_of m s i) ≡ product_on i
  on_generator hr hs pr ps i h =
      let w : ℤ → ℕ = λ d. width m.generators (d +ℤ pos degree) in
      ap (λ d. act_on m.generators m.operators r (d +ℤ pos (degree_of s)) (value_of m s i)) (sym h.1)
      ∙ is.relations r s i hr hs pr ps h.0
      ∙ sym (combination-filter (w (degree_at m.generators i)) (coefficient r s) (λ q. value_of m q i) (basis_of degree))
      ∙ ap (λ d. combination (w d) (product_bits r s) (map (λ q. value_of m q i) (basis_of degree))) h.1

  on_vector : IsTrimmed r → IsTrimmed s → 0 < degree_of r → 0 < degree_of s → (v : List Bool)
      → act_on m.generators m.operators r (t +ℤ pos (degree_of s)) (act_on m.generators m.operators s t v) ≡ combination above (product_bits r s) (map (λ q. act_on m.generators m.operators q t v) (basis_of degree))
  on_vector hr hs pr ps v =
      let gs = m.generators in
      let middle = t +ℤ pos (degree_of s) in
      let act : List Bool → List Bool = act_on gs m.operators r middle in
      let same : middle +ℤ pos (degree_of r) ≡ t +ℤ pos degree = omega (arith, ints) in
      let each : map act (map (value_of m s) numbers) ≡ map product_on numbers = map-map act (value_of m s) numbers ∙ map_same_all IsIn (λ i. act (value_of m s i)) product_on numbers All-numbers (on_generator hr hs pr ps) in
      let terms : map (λ q. combination above v (map (value_of m q) numbers)) (basis_of degree) ≡ map (λ q. act_on gs m.operators q t v) (basis_of degree) = map_same_all (λ q. IsTrimmed q × (degree_of q ≡ degree)) (λ q. combination above v (map (value_of m q) numbers)) (λ q. act_on gs m.operators q t v) (basis_of degree) (All-basis_of degree)
      (λ q h. ap (λ n. combination (width gs (t +ℤ pos n)) v (map (value_of m q) numbers)) (sym h.1)) in
      module_IsLinear m is r middle v (map (value_of m s) numbers) (HaveWidth-values m is s t)
      ∙ ap (λ d. combination (width gs d) v (map act (map (value_of m s) numbers))) same
      ∙ ap (combination above v) each
      ∙ sym (combination-exchange above (product_bits r s) v (λ q i. value_of m q i) (basis_of degree) numbers)
      ∙ ap (combination above (product_bits r s)) terms

module_ActsByProducts : (m : Module) → IsModule m → ActsByProducts (module_graded m)
module_ActsByProducts m is =
    acts_by_products (module_graded m) (module_HasUnit m is) (module_KeepsWidths m is) (λ r s t v hr hs pr ps l. on_vector m is r s t hr hs pr ps v)

pub module_IsSteenrodModule : ModulesAreSteenrodModules
module_IsSteenrodModule m is = record {
  unit = module_HasUnit m is;
  widths = module_KeepsWidths m is;
  linear = module_IsLinear m is;
  products = module_ActsByProducts m is;
}
