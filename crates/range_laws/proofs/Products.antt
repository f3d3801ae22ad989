-- A product over tables is that over the least parts of them that have it, and these are the same for all.
use Rattle.std.proofs.Common.{◌≡◌, ℕ, ◌+◌, ◌<◌, ◌≤◌, ℤ, pos, ◌+ℤ◌, ◌-ℤ◌, Bool, true, nat_eq, if◌then◌else◌, List, [], ◌∷◌, length, map, take, drop, ap, sym, subst, ◌∙◌, arith}
use Rattle.std.specs.List.{range_with_len}
use Rattle.std.proofs.lemmas.Int.{ints}
use Rattle.f2_vec.specs.Vectors.{zeros}
use Rattle.f2_vec.specs.Spans.{combination}
use Rattle.f2_matrix.specs.Echelon.{KernelBasisIsUnique}
use Rattle.resolution_laws.specs.Resolution.{Module, Content, row_of, IsCanonicalTable}
use Rattle.resolution_laws.proofs.TableIsUnique.{table_is_unique}
use Rattle.lift_laws.specs.Lifts.{Resolution, gens, degree}
use Rattle.lift_laws.specs.Products.{first_of, count_of, old_width, on_square}
use Rattle.lift_laws.proofs.Cut.{degree-cut, IsLift-cut}
use Rattle.lift_laws.proofs.Sums.{IsLift-start}
use Rattle.bracket_laws.specs.Brackets.{dot}
use Rattle.yoneda_laws.specs.Elements.{Element, cochain_of, IsProduct, CanMultiply, ElementsHaveOneProduct}
use Rattle.range_laws.specs.Ranges.{resolution_in, part, ProductsAreSameInEachRange}
use Rattle.range_laws.proofs.Parts.{row-part, part-canonical}
use Rattle.lift_laws.proofs.Counts.{first_of-less, count_of-less, old_width-less, on_square-less}

module _ (kernels : KernelBasisIsUnique) (m w : Module) (table sphere : List (List Content)) (rs rt qs qt : ℕ) (a x : Element)
    (can : CanMultiply (resolution_in m table) (resolution_in w sphere) rs rt qs qt a x) where
  abbrev r : Resolution
  r = resolution_in m table

  abbrev q : Resolution
  q = resolution_in w sphere

  abbrev R : ℕ
  R = x.s + a.s

  abbrev N : ℕ
  N = a.above + x.above

  abbrev pub less_table : List (List Content)
  less_table = part R N table

  abbrev pub less_sphere : List (List Content)
  less_sphere = part a.s a.above sphere

  abbrev r_less : Resolution
  r_less = resolution_in m less_table

  abbrev q_less : Resolution
  q_less = resolution_in w less_sphere

  pub less_canonical : IsCanonicalTable m R N less_table
  less_canonical = part-canonical kernels m rs rt table can.canonical.canonical R N can.row can.degree

  pub less_canonical_sphere : IsCanonicalTable w a.s a.above less_sphere
  less_canonical_sphere = part-canonical kernels w qs qt sphere can.canonical_q.canonical a.s a.above can.row_q can.degree_q

  r_rows : (i : ℕ) → i ≤ R → row_of less_table i ≡ take (N + 1) (row_of table i)
  r_rows i h = row-part R N table i h (let long = can.canonical.canonical.rows in let e = can.row in omega arith)

  q_rows : (i : ℕ) → i ≤ a.s → row_of less_sphere i ≡ take (a.above + 1) (row_of sphere i)
  q_rows i h = row-part a.s a.above sphere i h (let long = can.canonical_q.canonical.rows in let e = can.row_q in omega arith)

  abbrev X : ℤ
  X = m.bottom +ℤ pos x.above

  -- the cochain, by the degree of the generator and the place of the square
  abbrev by_place : ℕ → ℤ → ℕ → ℕ → List Bool
  by_place g t first count =
      combination (w.graded.width (t -ℤ X)) x.on (map (λ j. if nat_eq g j then true ∷ [] else zeros (w.graded.width (t -ℤ X))) (range_with_len first count))

  cochain-less : (g : ℕ) → g < length (gens r_less x.s) → cochain_of r q x g ≡ cochain_of r_less q_less x g
  cochain-less g there =
      let same = degree-cut m R (N + 1) table less_table r_rows x.s g (omega arith) there in
      let at : row_of less_table x.s ≡ take (N + 1) (row_of table x.s) = r_rows x.s (omega arith) in
      let first = first_of-less m table less_table x.s N at x.above (omega arith) in
      let count = count_of-less m table less_table x.s N at x.above (omega arith) in
      ap (λ (t : ℤ). by_place g t (first_of r x.s x.above) (count_of r x.s x.above)) (sym same)
      ∙ (ap (λ (f : ℕ). by_place g (degree r_less x.s g) f (count_of r x.s x.above)) (sym first)
      ∙ ap (by_place g (degree r_less x.s g) (first_of r_less x.s x.above)) (sym count))

  -- the lift, and what it gives
  pub less_product : (v : List Bool) → IsProduct r q a x v → IsProduct r_less q_less a x v
  less_product v p =
      let less = m.bottom +ℤ pos N in
      let bottom = can.sphere.bottom in
      let z = cochain_of r q x in
      let cut = IsLift-cut m w R (N + 1) a.s (a.above + 1) table less_table sphere less_sphere r_rows q_rows x.s X z a.s p.top less p.phi (omega arith) (omega arith) p.reaches (omega (arith, ints)) (omega (arith, ints)) p.is_lift in
      let F : ℕ → ℕ → Bool = λ old g. dot a.on (drop old (p.phi a.s g)) in
      let old = old_width-less w sphere less_sphere a.s a.above (q_rows a.s (omega arith)) a.above (omega arith) in
      record {
        top = less;
        phi = p.phi;
        reaches = omega (arith, ints);
        is_lift = IsLift-start r_less q_less x.s X z (cochain_of r_less q_less x) a.s less p.phi (λ g l b. cochain-less g l) cut;
        gives = p.gives ∙ (sym (on_square-less m table less_table R N (r_rows R (omega arith)) N (F (old_width q a.s a.above)) (omega arith)) ∙ ap (λ (k : ℕ). on_square r_less R N (F k)) (sym old));
      }

  less_can : CanMultiply r_less q_less R N a.s a.above a x
  less_can = record {
    canonical = record { steenrod = can.canonical.steenrod; bounded = can.canonical.bounded; canonical = less_canonical };
    canonical_q = record { steenrod = can.canonical_q.steenrod; bounded = can.canonical_q.bounded; canonical = less_canonical_sphere };
    sphere = record { bottom = can.sphere.bottom; one = can.sphere.one; none = can.sphere.none };
    row = omega arith;
    degree = omega arith;
    row_q = omega arith;
    degree_q = omega arith;
    a_in = can.a_in ∙ sym (count_of-less w sphere less_sphere a.s a.above (q_rows a.s (omega arith)) a.above (omega arith));
    x_in = can.x_in ∙ sym (count_of-less m table less_table x.s N (r_rows x.s (omega arith)) x.above (omega arith));
  }

  pub less_only : ElementsHaveOneProduct → (v z : List Bool) → IsProduct r_less q_less a x v → IsProduct r_less q_less a x z → v ≡ z
  less_only one_product v z p k =
      let one = one_product r_less q_less R N a.s a.above a x less_can in
      one.only v p ∙ sym (one.only z k)

pub products_same : KernelBasisIsUnique → ElementsHaveOneProduct → ProductsAreSameInEachRange
products_same kernels one_product m w table other sphere other_sphere rs rt qs qt more_rs more_rt more_qs more_qt a x v z can more p k =
    let here = less_product kernels m w table sphere rs rt qs qt a x can v p in
    let there = less_product kernels m w other other_sphere more_rs more_rt more_qs more_qt a x more z k in
    let R = x.s + a.s in
    let N = a.above + x.above in
    let same : part R N other ≡ part R N table = table_is_unique kernels m R N (part R N other) (part R N table) (less_canonical kernels m w other other_sphere more_rs more_rt more_qs more_qt a x more) (less_canonical kernels m w table sphere rs rt qs qt a x can) in
    let same_q : part a.s a.above other_sphere ≡ part a.s a.above sphere = table_is_unique kernels w a.s a.above (part a.s a.above other_sphere) (part a.s a.above sphere) (less_canonical_sphere kernels m w other other_sphere more_rs more_rt more_qs more_qt a x more) (less_canonical_sphere kernels m w table sphere rs rt qs qt a x can) in
    less_only kernels m w table sphere rs rt qs qt a x can one_product v z here
    (subst (λ (t : List (List Content)). IsProduct (resolution_in m t) (resolution_in w (part a.s a.above sphere)) a x z) same
    (subst (λ (t : List (List Content)). IsProduct (resolution_in m (part R N other)) (resolution_in w t) a x z) same_q there))
