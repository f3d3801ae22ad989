-- Relations on generators and on vectors: operators of the right widths whose relations with squares Sq^n on the left hold, n a power
-- of two, make a module.
use Rattle.std.specs.Ordering.{int_eq}
use Rattle.std.specs.Int.{is_power_of_two}
use Rattle.std.proofs.Common.{◌≡◌, ℕ, zero, suc, ◌+◌, ◌<◌, ℤ, pos, ◌+ℤ◌, Bool, true, false, cond, List, [], ◌∷◌, length, map, take, get_or, All, refl, ap, sym, subst, ◌∙◌, inl, inr, arith}
use Rattle.std.proofs.lemmas.Bool.{cases_lt, false≢true}
use Rattle.std.proofs.lemmas.Bool.Decides.{Decides-int_eq}
use Rattle.std.proofs.lemmas.Int.{ints}
use Rattle.std.proofs.lemmas.List.{get_or-map, length-map}
use Rattle.std.proofs.lemmas.List.Elements.{All-from_get_or}
use Rattle.f2_vec.specs.Spans.{HaveWidth, combination}
use Rattle.f2_vec.proofs.Split.{length-unit_vector}
use Rattle.f2_vec.proofs.Combinations.{HaveWidth-map_where, map-map, map_same_all, combination-combination, combination-exchange, combination-filter, combination-unit_vector}
use Rattle.milnor_basis.specs.Exponents.{degree_of, IsTrimmed}
use Rattle.milnor_basis.specs.Basis.{basis_of}
use Rattle.milnor_basis.specs.Product.{coefficient, product_bits, product_terms}
use Rattle.milnor_basis.proofs.BasisLemmas.{All-basis_of}
use Rattle.free_module.specs.Graded.{IsLinear, KeepsWidths}
use Rattle.module_spec.specs.Spec.{Generator, degree_at}
use Rattle.module_spec.specs.WellFormed.{NeverFall}
use Rattle.finite_module.specs.Module.{Module, numbers_from, generators_in, width, unit, value, act_on}
use Rattle.finite_module.specs.ModuleLaws.{generators_in-member}
use Rattle.finite_module.specs.Axioms.{value_of, one_by_one, by_their_product}
use Rattle.finite_module.specs.DerivedAction.{span}
use Rattle.finite_module.specs.Graded.{module_graded}
use Rattle.finite_module.specs.Operators.{HaveWidths}
use Rattle.finite_module.proofs.AboveSpan.{generators_of_degree, width_above_span}
use Rattle.finite_module.proofs.Values.{both_empty}
use Rattle.finite_module.proofs.Widths.{degree_of-single, length-total, length-act_on, terms_of_degree}
use Rattle.generator_laws.specs.Powers.{PowersHold, PowersGiveModule}
use Rattle.generator_laws.proofs.Generated.{Acts, all_act}
use Rattle.generator_laws.proofs.Sums.{chosen}

-- ---- the two sides of a relation are of one width

pub length-one_by_one : (m : Module) (r s : List ℕ) (i n : ℕ) → HaveWidths m.generators m.operators → degree_of r + degree_of s ≡ n → length (one_by_one m r s i) ≡ width m.generators (degree_at m.generators i +ℤ pos n)
length-one_by_one m r s i n h e =
    let up : (degree_at m.generators i +ℤ pos (degree_of s)) +ℤ pos (degree_of r) ≡ degree_at m.generators i +ℤ pos n = omega (arith, ints) in
    length-act_on m.generators m.operators r (degree_at m.generators i +ℤ pos (degree_of s)) (value m.generators m.operators s i) h ∙ ap (width m.generators) up

pub length-by_their_product : (m : Module) (r s : List ℕ) (i n : ℕ) → HaveWidths m.generators m.operators → degree_of r + degree_of s ≡ n → length (by_their_product m r s i) ≡ width m.generators (degree_at m.generators i +ℤ pos n)
length-by_their_product m r s i n h e =
    let w = width m.generators (degree_at m.generators i +ℤ pos (degree_of r + degree_of s)) in
    length-total w (map (λ t. value m.generators m.operators t i) (product_terms r s))
    (HaveWidth-map_where (λ t. IsTrimmed t × (degree_of t ≡ degree_of r + degree_of s)) w (λ t. value m.generators m.operators t i) (product_terms r s)
    (λ t own. h t i ∙ ap (λ k. width m.generators (degree_at m.generators i +ℤ pos k)) own.1) (terms_of_degree r s))
    ∙ ap (λ k. width m.generators (degree_at m.generators i +ℤ pos k)) e

-- so a relation of a degree above the span holds
pub relation_past : (m : Module) (r s : List ℕ) (i : ℕ) → NeverFall m.generators → HaveWidths m.generators m.operators → span m.generators < degree_of r + degree_of s → i < length m.generators → one_by_one m r s i ≡ by_their_product m r s i
relation_past m r s i order h past l =
    let none : width m.generators (degree_at m.generators i +ℤ pos (degree_of r + degree_of s)) ≡ 0 = width_above_span m.generators i (degree_of r + degree_of s) order l past in
    both_empty (one_by_one m r s i) (by_their_product m r s i)
    (length-one_by_one m r s i (degree_of r + degree_of s) h refl ∙ none)
    (length-by_their_product m r s i (degree_of r + degree_of s) h refl ∙ none)

-- ---- generators as vectors

-- n stands in ns behind as many as are in xs
abbrev StandsBehind : List ℕ → List ℕ → ℕ → Type 0
StandsBehind ns xs n = (length xs < length ns) × (get_or ns (length xs) 0 ≡ n)

stands_first : (ns : List ℕ) (k n : ℕ) (b : Bool) → b ≡ true → k ≡ n → StandsBehind (cond b (k ∷ ns) ns) [] n
stands_first ns k n true e same = (omega arith, same)
stands_first ns k n false e same = absurd (false≢true e)

stands_later : (ns xs : List ℕ) (k n : ℕ) (b : Bool) → StandsBehind ns xs n → StandsBehind (cond b (k ∷ ns) ns) (cond b (k ∷ xs) xs) n
stands_later ns xs k n true h = (omega (arith, h.0), h.1)
stands_later ns xs k n false h = h

-- generator i stands among those of its degree behind the ones before it
own_place : (k : ℕ) (gs : List Generator) (i : ℕ) (t : ℤ) → i < length gs → degree_at gs i ≡ t → StandsBehind (numbers_from k gs t) (numbers_from k (take i gs) t) (k + i)
own_place k [] i t l e = absurd (omega arith)
own_place k (g ∷ gs) zero t l e = stands_first (numbers_from (suc k) gs t) k (k + 0) (int_eq g.degree t) ((Decides-int_eq g.degree t).1 e) (omega arith)
own_place k (g ∷ gs) (suc i) t l e =
    let next : suc k + i ≡ k + suc i = omega arith in
    stands_later (numbers_from (suc k) gs t) (numbers_from (suc k) (take i gs) t) k (k + suc i) (int_eq g.degree t)
    (subst (StandsBehind (numbers_from (suc k) gs t) (numbers_from (suc k) (take i gs) t)) next (own_place (suc k) gs i t (omega arith) e))

module _ (m : Module) (widths : HaveWidths m.generators m.operators) where
  abbrev gs : List Generator
  gs = m.generators

  HaveWidth-value : (r : List ℕ) (t : ℤ) → HaveWidth (width gs (t +ℤ pos (degree_of r))) (map (value_of m r) (generators_in gs t))
  HaveWidth-value r t =
      HaveWidth-map_where (λ j. degree_at gs j ≡ t) (width gs (t +ℤ pos (degree_of r))) (value_of m r) (generators_in gs t)
      (λ j at. widths r j ∙ ap (λ d. width gs (d +ℤ pos (degree_of r))) at) (generators_of_degree gs t)

  -- the value of a generator is that of its vector
  acted_unit : (r : List ℕ) (i : ℕ) → i < length gs → act_on gs m.operators r (degree_at gs i) (unit gs i) ≡ value_of m r i
  acted_unit r i l =
      let t = degree_at gs i in
      let ns = generators_in gs t in
      let p = width (take i gs) t in
      let found = own_place 0 gs i t l refl in
      let zero_more : 0 + i ≡ i = omega arith in
      let here : get_or ns p 0 ≡ i = found.1 ∙ zero_more in
      let w = width gs (t +ℤ pos (degree_of r)) in
      let rows = map (value_of m r) ns in
      combination-unit_vector w (width gs t) p rows (HaveWidth-value r t) (length-map ns (value_of m r)) found.0
      ∙ get_or-map (value_of m r) ns p 0 [] found.0
      ∙ ap (value_of m r) here

  graded_keeps : KeepsWidths (module_graded m)
  graded_keeps r t v l = length-act_on gs m.operators r t v widths

  graded_linear : IsLinear (module_graded m)
  graded_linear r t c rows h =
      combination-combination (width gs (t +ℤ pos (degree_of r))) (width gs t) c rows (map (value_of m r) (generators_in gs t)) (length-map (generators_in gs t) (value_of m r)) h (HaveWidth-value r t)

  -- a relation that holds on generators holds on vectors
  module _ (r s : List ℕ) (t : ℤ) (holds : (i : ℕ) → i < length gs → one_by_one m r s i ≡ by_their_product m r s i) where
    abbrev degree : ℕ
    degree = degree_of r + degree_of s

    abbrev above : ℕ
    above = width gs (t +ℤ pos degree)

    abbrev numbers : List ℕ
    numbers = generators_in gs t

    -- i is a generator of degree t
    abbrev IsIn : ℕ → Type 0
    IsIn i = (i < length gs) × (degree_at gs i ≡ t)

    -- what the product of Sq(R) and Sq(S) has on generator i
    abbrev product_on : ℕ → List Bool
    product_on i = combination above (product_bits r s) (map (λ q. value_of m q i) (basis_of degree))

    on_generator : (i : ℕ) → IsIn i → act_on gs m.operators r (t +ℤ pos (degree_of s)) (value_of m s i) ≡ product_on i
    on_generator i h =
        let w : ℤ → ℕ = λ d. width gs (d +ℤ pos degree) in
        ap (λ d. act_on gs m.operators r (d +ℤ pos (degree_of s)) (value_of m s i)) (sym h.1)
        ∙ holds i h.0
        ∙ sym (combination-filter (w (degree_at gs i)) (coefficient r s) (λ q. value_of m q i) (basis_of degree))
        ∙ ap (λ d. combination (w d) (product_bits r s) (map (λ q. value_of m q i) (basis_of degree))) h.1

    on_vector : (v : List Bool) → act_on gs m.operators r (t +ℤ pos (degree_of s)) (act_on gs m.operators s t v) ≡ chosen above degree (λ q. act_on gs m.operators q t v) (coefficient r s)
    on_vector v =
        let middle = t +ℤ pos (degree_of s) in
        let act : List Bool → List Bool = act_on gs m.operators r middle in
        let same : middle +ℤ pos (degree_of r) ≡ t +ℤ pos degree = omega (arith, ints) in
        let All-numbers : All IsIn numbers = All-from_get_or IsIn numbers 0 (λ p h. generators_in-member gs t p h) in
        let each : map act (map (value_of m s) numbers) ≡ map product_on numbers = map-map act (value_of m s) numbers ∙ map_same_all IsIn (λ i. act (value_of m s i)) product_on numbers All-numbers on_generator in
        let terms : map (λ q. combination above v (map (value_of m q) numbers)) (basis_of degree) ≡ map (λ q. act_on gs m.operators q t v) (basis_of degree) = map_same_all (λ q. IsTrimmed q × (degree_of q ≡ degree)) (λ q. combination above v (map (value_of m q) numbers)) (λ q. act_on gs m.operators q t v) (basis_of degree) (All-basis_of degree)
        (λ q h. ap (λ n. combination (width gs (t +ℤ pos n)) v (map (value_of m q) numbers)) (sym h.1)) in
        graded_linear r middle v (map (value_of m s) numbers) (HaveWidth-value s t)
        ∙ ap (λ d. combination (width gs d) v (map act (map (value_of m s) numbers))) same
        ∙ ap (combination above v) each
        ∙ sym (combination-exchange above (product_bits r s) v (λ q i. value_of m q i) (basis_of degree) numbers)
        ∙ ap (combination above (product_bits r s)) terms

  -- ---- the law

  module _ (order : NeverFall gs) (hold : PowersHold m) where
    power_holds : (n : ℕ) (s : List ℕ) → is_power_of_two n ≡ true → IsTrimmed s → 0 < degree_of s → (i : ℕ) → i < length gs → one_by_one m (n ∷ []) s i ≡ by_their_product m (n ∷ []) s i
    power_holds n s two hs positive i l =
        let single = degree_of-single n in
        elim (cases_lt (span gs) (n + degree_of s)) [
          | inl past ↦ relation_past m (n ∷ []) s i order widths (omega arith) l
          | inr within ↦ hold (n + degree_of s) within n s i two hs positive refl l
        ]

    powers_act : (n : ℕ) → is_power_of_two n ≡ true → Acts (module_graded m) graded_keeps graded_linear (n ∷ [])
    powers_act n two s t v hs positive l = on_vector (n ∷ []) s t (power_holds n s two hs positive) v

    relation_holds : (r s : List ℕ) (i : ℕ) → IsTrimmed r → IsTrimmed s → 0 < degree_of r → 0 < degree_of s → i < length gs → one_by_one m r s i ≡ by_their_product m r s i
    relation_holds r s i hr hs pr ps l =
        let t = degree_at gs i in
        let degree : ℕ = degree_of r + degree_of s in
        let w = width gs (t +ℤ pos degree) in
        let v = unit gs i in
        let long : length v ≡ width gs t = length-unit_vector (width gs t) (width (take i gs) t) in
        ap (act_on gs m.operators r (t +ℤ pos (degree_of s))) (sym (acted_unit s i l))
        ∙ all_act (module_graded m) graded_keeps graded_linear powers_act r hr pr s t v hs ps long
        ∙ combination-filter w (coefficient r s) (λ q. act_on gs m.operators q t v) (basis_of degree)
        ∙ ap (λ rows. combination w (map (λ q. true) rows) rows) (map_same_all (λ q. i < length gs) (λ q. act_on gs m.operators q t v) (λ q. value_of m q i) (product_terms r s) (λ k d b. l) (λ q b. acted_unit q i b))

pub powers_give_module : PowersGiveModule
powers_give_module m order identity widths hold = record {
  identity = identity;
  widths = widths;
  relations = relation_holds m widths order hold;
}
