-- A table that is exact, with each generator needed, is a minimal resolution.
use Rattle.std.proofs.Common.{◌≡◌, inl, inr, ℕ, zero, suc, ◌+◌, ◌-◌, ◌<◌, ◌≤◌, Bool, false, ℤ, pos, ◌+ℤ◌, ◌<ℤ◌, List, [], ◌++◌, length, map, take, refl, sym, ◌∙◌, ap, subst, arith}
use Rattle.std.proofs.lemmas.Int.{ints}
use Rattle.std.proofs.lemmas.Bool.{cases_lt, both_ways}
use Rattle.std.proofs.lemmas.Bool.Decides.{nat_tests}
use Rattle.std.proofs.lemmas.List.{get_or_past, get_or-append_right, nil_from_length, length-append, length-map}
use Rattle.f2_vec.specs.Vectors.{bit, sum_of, zeros}
use Rattle.f2_vec.specs.Spans.{row, combination, unit_vector, IsInSpan, IsInKernel}
use Rattle.f2_vec.proofs.Combinations.{map-map, map_same_all, combination-combination, combination-zero_rows, combination-unit_vector}
use Rattle.f2_vec.proofs.Split.{bit-unit_vector, length-unit_vector}
use Rattle.f2_vec.proofs.Sums.{sum_of-self, zeros_from_bits}
use Rattle.f2_vec.proofs.Spans.{length-combination, combination-append, combination-IsInSpan, row-IsInSpan, span_within, zeros-IsInSpan}
use Rattle.milnor_basis.specs.Exponents.{degree_of}
use Rattle.milnor_basis.proofs.ExponentLemmas.{of_degree_zero}
use Rattle.milnor_laws.proofs.FreeModules.{free_modules_are_modules}
use Rattle.milnor_laws.proofs.LinearMaps.{maps_commute}
use Rattle.free_module.specs.FreeBasis.{IsOfDegree, element}
use Rattle.free_module.specs.FreeModule.{degree_at, free_basis, free_width, free_action}
use Rattle.free_module.specs.Graded.{IsSteenrodModule}
use Rattle.free_module.specs.LinearMap.{image_of, map_rows, mapped}
use Rattle.free_module.proofs.FreeBasis.{All-free_basis}
use Rattle.resolution_laws.specs.Resolution.{Module, Content, no_content, square_in, degrees_from, images_of, row_of}
use Rattle.resolution_laws.specs.Exactness.{degrees_in, target_of, differential, boundary, IsBoundedBelow, IsOperatedOn, IsComplexAt, IsExactAt, IsMinimalAt, CanonicalTableIsMinimalResolution}
use Rattle.resolution_laws.proofs.Complex.{action-zeros, length-differential}
use Rattle.resolution_laws.proofs.Generators.{generator_at, element-IsOfDegree, map_rows-take}
use Rattle.resolution_laws.proofs.Squares.{target_is_module, old_rows}
use Rattle.resolution_counts.specs.Counts.{IsMinimalTable}
use Rattle.resolution_counts.proofs.Counts.{counts_are_same, width_here}
use Rattle.resolution_counts.proofs.Cover.{images_fit, differential_widths, image_covered}
use Rattle.certificate_laws.specs.Certificates.{MinimalTableIsMinimalResolution, MinimalTableHasCanonicalCounts}
use Rattle.certificate_laws.proofs.Square.{stand_last, before_fit, before_widths, length-old_rows, square_rows}

module _ (m : Module) (s t : ℕ) (table : List (List Content)) (steenrod : IsSteenrodModule m.graded) (p : IsMinimalTable m s t table) where
  -- ---- d d = 0: the image of a generator is a relation of the row below, and so is Sq(R) on it

  on_element : (i : ℕ) (degree : ℤ) → i < s → (e : ℕ × List ℕ) → IsOfDegree (degrees_in m table (suc i)) degree e → boundary m table i degree (image_of (target_of m table (suc i)) (degrees_in m table (suc i)) (images_of (row_of table (suc i))) e) ≡ zeros ((target_of m table i).width degree)
  on_element i degree h e o =
      let target = target_of m table i in
      let ds = degrees_in m table (suc i) in
      let r = e.1 in
      let d = degree_at ds e.0 in
      let x = row (images_of (row_of table (suc i))) e.0 in
      let y = image_of (target_of m table (suc i)) ds (images_of (row_of table (suc i))) e in
      let good = target_is_module free_modules_are_modules m table i steenrod in
      let here = images_fit m s t table p.is_table (suc i) (omega arith) in
      let below = images_fit m s t table p.is_table i (omega arith) in
      let relation = image_covered m s t table steenrod p (suc i) (omega arith) e.0 o.generator in
      let through : target.action r d (boundary m table i d x) ≡ boundary m table i (d +ℤ pos (degree_of r)) y = maps_commute target (degrees_in m table i) (images_of (row_of table i)) good below r d x o.trimmed (here.widths e.0 o.generator) in
      let none : target.action r d (boundary m table i d x) ≡ zeros (target.width (d +ℤ pos (degree_of r))) = ap (target.action r d) relation.vanishes ∙ action-zeros target good.linear r d in
      let P : ℤ → Type 0 = λ z. boundary m table i z y ≡ zeros (target.width z) in
      subst P o.degree (sym through ∙ none)

  complex : (i : ℕ) (degree : ℤ) → i < s → IsComplexAt m table i degree
  complex i degree h v fits =
      let ds = degrees_in m table (suc i) in
      let n = (target_of m table i).width degree in
      let below = differential m table i degree in
      let rows = differential m table (suc i) degree in
      let f = image_of (target_of m table (suc i)) ds (images_of (row_of table (suc i))) in
      let basis = free_basis ds degree in
      let all : combination n (boundary m table (suc i) degree v) below ≡ combination n v (map (λ x. combination n x below) rows) =
      combination-combination n (free_width (degrees_in m table i) degree) v rows below (length-differential m table i degree) (differential_widths m s t table steenrod p.is_table (suc i) (omega arith) degree) (differential_widths m s t table steenrod p.is_table i (omega arith) degree) in
      let each : map (λ x. combination n x below) rows ≡ map (λ e. zeros n) basis =
      map-map (λ x. combination n x below) f basis ∙ map_same_all (IsOfDegree ds degree) (λ e. combination n (f e) below) (λ e. zeros n) basis (All-free_basis ds degree) (on_element i degree h) in
      all ∙ (ap (combination n v) each ∙ combination-zero_rows n v basis)

  -- ---- minimal above row 0: the image of a generator is a relation

  -- the row of a square's own generator, and its place
  record IsOwn (i k g : ℕ) : Type 0 where
    place : ℕ
    within : place < free_width (degrees_in m table i) (m.bottom +ℤ pos k)
    bare : (element (free_basis (degrees_in m table i) (m.bottom +ℤ pos k)) place).1 ≡ []
    image : row (differential m table i (m.bottom +ℤ pos k)) place ≡ row (square_in (row_of table i) k).images g

  own : (i k : ℕ) → i ≤ s → k ≤ t → (g : ℕ) → g < length (square_in (row_of table i) k).images → IsOwn i k g
  own i k h l g b =
      let u = m.bottom +ℤ pos k in
      let old = old_rows m table i k in
      let images = (square_in (row_of table i) k).images in
      let count = p.is_table.squares i h in
      let there : k < length (row_of table i) = omega arith in
      let width = width_here m.bottom (row_of table i) k there in
      let len = length-old_rows m table i k in
      let at = length old + g in
      let within : at < free_width (degrees_in m table i) u = omega arith in
      let last : at - length old ≡ g = omega arith in
      record {
        place = at;
        within = within;
        bare = (stand_last m table i k there at within).1 (omega arith);
        image = ap (λ (z : List (List Bool)). row z at) (square_rows m s t table steenrod p.is_table i k h l) ∙ (get_or-append_right old images (length old) at [] refl (omega arith) ∙ ap (row images) last);
      }

  image_is_relation : (i k : ℕ) → suc i ≤ s → k ≤ t → (g : ℕ) → g < length (square_in (row_of table (suc i)) k).images → IsInKernel ((target_of m table i).width (m.bottom +ℤ pos k)) (differential m table i (m.bottom +ℤ pos k)) (row (square_in (row_of table (suc i)) k).images g)
  image_is_relation i k h l g b =
      let u = m.bottom +ℤ pos k in
      let n = free_width (degrees_in m table i) u in
      let rows = differential m table (suc i) u in
      let o = own (suc i) k h l g b in
      let len = length-differential m table (suc i) u in
      let within = o.within in
      (p.exact (suc i) k h l (row (square_in (row_of table (suc i)) k).images g)).1 (subst (IsInSpan n rows) o.image (row-IsInSpan n rows o.place (differential_widths m s t table steenrod p.is_table (suc i) h u) (omega arith)))

  minimal_above : (i k : ℕ) → suc i ≤ s → k ≤ t → IsMinimalAt m table (suc i) k
  minimal_above i k h l g j a b is = p.needed i k (omega arith) l (row (square_in (row_of table (suc i)) k).images g) (image_is_relation i k h l g a) j b is

  -- ---- minimal in row 0: what operations make is in the span of the rows on earlier generators

  below_bottom : IsBoundedBelow m → (u : ℤ) (v : List Bool) (o : IsOperatedOn m.graded u v) → o.degree <ℤ m.bottom → v ≡ zeros (m.graded.width u)
  below_bottom bounded u v o h =
      let act = m.graded.action o.r o.degree in
      let none : m.graded.width o.degree ≡ 0 = bounded o.degree h in
      let x : o.vector ≡ zeros (m.graded.width o.degree) = nil_from_length o.vector (o.fits ∙ none) ∙ ap zeros (sym none) in
      o.is_value ∙ (ap act x ∙ (action-zeros m.graded steenrod.linear o.r o.degree ∙ ap (λ (z : ℤ). zeros (m.graded.width z)) o.degrees_add))

  from_lower : (k : ℕ) → k ≤ t → (v : List Bool) (o : IsOperatedOn m.graded (m.bottom +ℤ pos k) v) (j : ℕ) → j < k → m.bottom +ℤ pos j ≡ o.degree → IsInSpan (m.graded.width (m.bottom +ℤ pos k)) (old_rows m table 0 k) v
  from_lower k l v o j b at =
      let u = m.bottom +ℤ pos k in
      let n = m.graded.width u in
      let old = old_rows m table 0 k in
      let wide = before_widths m s t table steenrod p.is_table 0 k (omega arith) l in
      let d = o.degree in
      let r = o.r in
      let squares = row_of table 0 in
      let ds = degrees_from m.bottom (take k squares) in
      let images = images_of (take k squares) in
      let exact : IsExactAt m table 0 d = subst (λ (z : ℤ). IsExactAt m table 0 z) at (p.exact 0 j (omega arith) (omega arith)) in
      let x = exact o.vector o.fits in
      let rows : differential m table 0 d ≡ map_rows m.graded ds images d = map_rows-take m.graded m.bottom squares k d (omega (arith, ints)) in
      let len : length x.coefficients ≡ free_width ds d = x.one_each ∙ (ap length rows ∙ length-map (free_basis ds d) (image_of m.graded ds images)) in
      let is_map : o.vector ≡ mapped m.graded ds images d x.coefficients = sym x.sum ∙ ap (combination (m.graded.width d) x.coefficients) rows in
      let w = free_action ds r d x.coefficients in
      let through : m.graded.action r d (mapped m.graded ds images d x.coefficients) ≡ mapped m.graded ds images (d +ℤ pos (degree_of r)) w = maps_commute m.graded ds images steenrod (before_fit m s t table p.is_table 0 k (omega arith) l) r d x.coefficients o.trimmed len in
      let value : v ≡ m.graded.action r d (mapped m.graded ds images d x.coefficients) = o.is_value ∙ ap (m.graded.action r d) is_map in
      let sum : mapped m.graded ds images (d +ℤ pos (degree_of r)) w ≡ combination n w old = ap (λ (z : ℤ). mapped m.graded ds images z w) o.degrees_add in
      subst (IsInSpan n old) (sym (value ∙ (through ∙ sum))) (combination-IsInSpan n w old old wide (λ i a. row-IsInSpan n old i wide a))

  operated_is_old : IsBoundedBelow m → (k : ℕ) → k ≤ t → (v : List Bool) → IsOperatedOn m.graded (m.bottom +ℤ pos k) v → IsInSpan (m.graded.width (m.bottom +ℤ pos k)) (old_rows m table 0 k) v
  operated_is_old bounded k l v o =
      let n = m.graded.width (m.bottom +ℤ pos k) in
      let old = old_rows m table 0 k in
      let positive = o.positive in
      let add = o.degrees_add in
      elim (cases_lt k (degree_of o.r)) [
        | inl f ↦ subst (IsInSpan n old) (sym (below_bottom bounded (m.bottom +ℤ pos k) v o (omega (arith, ints)))) (zeros-IsInSpan n old (before_widths m s t table steenrod p.is_table 0 k (omega arith) l))
        | inr f ↦ from_lower k l v o (k - degree_of o.r) (omega arith) (omega (arith, ints))
      ]

  -- so a sum of images that operations make is a relation
  minimal_0 : IsBoundedBelow m → (k : ℕ) → k ≤ t → IsMinimalAt m table 0 k
  minimal_0 bounded k l c e made =
      let u = m.bottom +ℤ pos k in
      let n = m.graded.width u in
      let first : 0 ≤ s = omega arith in
      let old = old_rows m table 0 k in
      let images = (square_in (row_of table 0) k).images in
      let D = differential m table 0 u in
      let wide = before_widths m s t table steenrod p.is_table 0 k first l in
      let new_wide = p.is_table.widths 0 k first l in
      let x = span_within n made.terms old wide (λ i b. operated_is_old bounded k l (row made.terms i) (made.each i b)) (combination n c images) made.is_sum in
      let d = x.coefficients in
      let rows = square_rows m s t table steenrod p.is_table 0 k first l in
      let len : length d ≡ length old = x.one_each in
      let both = length-append old images in
      let one_each : length (d ++ c) ≡ length (old ++ images) = length-append d c ∙ omega arith in
      let zero_sum : combination n (d ++ c) (old ++ images) ≡ zeros n = combination-append n d c old images wide new_wide len ∙ (ap (λ (z : List Bool). sum_of z (combination n c images)) x.sum ∙ sum_of-self n (combination n c images) (length-combination n c images new_wide)) in
      let relation : IsInKernel n D (d ++ c) = subst (λ (z : List (List Bool)). IsInKernel n z (d ++ c)) (sym rows) (record { one_each = one_each; vanishes = zero_sum }) in
      let count = p.is_table.squares 0 first in
      let there : k < length (row_of table 0) = omega arith in
      let width = width_here m.bottom (row_of table 0) k there in
      let old_len = length-old_rows m table 0 k in
      zeros_from_bits (length images) c e (λ h. elim (cases_lt h (length images)) [
        | inr past ↦ get_or_past c h false (omega arith)
        | inl within ↦
            let j = length d + h in
            let place : j - length d ≡ h = omega arith in
            let b : j < free_width (degrees_in m table 0) u = omega arith in
            let same : bit (d ++ c) j ≡ bit c h = get_or-append_right d c (length d) j false refl (omega arith) ∙ ap (bit c) place in
            sym same ∙ p.needed 0 k first l (d ++ c) relation j b ((stand_last m table 0 k there j b).1 (omega arith))
      ])

  minimal : IsBoundedBelow m → (i k : ℕ) → i ≤ s → k ≤ t → IsMinimalAt m table i k
  minimal bounded zero k h l = minimal_0 bounded k l
  minimal bounded (suc i) k h l = minimal_above i k h l

  -- ---- late: an image of a row that starts early has terms without an operation alone, so it is zero, and its generator is not needed

  abbrev StartsLate : ℕ → Type 0
  StartsLate i = (k : ℕ) → k < i → (square_in (row_of table i) k).images ≡ []

  all_bare : (i k j : ℕ) → StartsLate i → k ≤ i → j < length (free_basis (degrees_in m table i) (m.bottom +ℤ pos k)) → (element (free_basis (degrees_in m table i) (m.bottom +ℤ pos k)) j).1 ≡ []
  all_bare i k j late h l =
      let o = element-IsOfDegree (degrees_in m table i) (m.bottom +ℤ pos k) j l in
      let e = element (free_basis (degrees_in m table i) (m.bottom +ℤ pos k)) j in
      let at = generator_at m.bottom (row_of table i) e.0 o.generator in
      let from : i ≤ at.k = elim (cases_lt at.k i) [
        | inl b ↦ let none = ap length (late at.k b) in let some = at.within in absurd (omega arith)
        | inr b ↦ b
      ] in
      let degree = o.degree in
      let here = at.degree in
      of_degree_zero e.1 o.trimmed (omega (arith, ints))

  -- a generator that goes to zero is superfluous
  zero_is_superfluous : (i k : ℕ) → i ≤ s → k ≤ t → (g : ℕ) → g < length (square_in (row_of table i) k).images → row (square_in (row_of table i) k).images g ≡ zeros ((target_of m table i).width (m.bottom +ℤ pos k)) → ⊥
  zero_is_superfluous i k h l g b none =
      let u = m.bottom +ℤ pos k in
      let n = (target_of m table i).width u in
      let w = free_width (degrees_in m table i) u in
      let rows = differential m table i u in
      let o = own i k h l g b in
      let v = unit_vector w o.place in
      let len = length-differential m table i u in
      let value : combination n v rows ≡ zeros n = combination-unit_vector n w o.place rows (differential_widths m s t table steenrod p.is_table i h u) len o.within ∙ (o.image ∙ none) in
      let clear = p.needed i k h l v (record { one_each = length-unit_vector w o.place ∙ sym len; vanishes = value }) o.place o.within o.bare in
      both_ways (bit v o.place) clear (bit-unit_vector w o.place o.place o.within ∙ grind (arith, nat_tests))

  starts_late : (i k : ℕ) → suc i ≤ s → k ≤ i → k ≤ t → StartsLate i → (square_in (row_of table (suc i)) k).images ≡ []
  starts_late i k h b l late =
      let u = m.bottom +ℤ pos k in
      let n = (target_of m table (suc i)).width u in
      let images = (square_in (row_of table (suc i)) k).images in
      let widths = p.is_table.widths (suc i) k h l in
      nil_from_length images (elim (cases_lt 0 (length images)) [
        | inl a ↦ absurd (zero_is_superfluous (suc i) k h l 0 a (zeros_from_bits n (row images 0) (widths 0 a) (λ j. elim (cases_lt j n) [
          | inl c ↦ minimal_above i k h l 0 j a c (all_bare i k j late b c)
          | inr c ↦ let len = widths 0 a in get_or_past (row images 0) j false (omega arith)
        ])))
        | inr a ↦ omega arith
      ])

  is_late : (i : ℕ) → i ≤ s → StartsLate i
  is_late zero h k b = absurd (omega arith)
  is_late (suc i) h k b =
      let n = p.is_table.squares (suc i) h in
      elim (cases_lt k (t + 1)) [
        | inl l ↦ starts_late i k h (omega arith) (omega arith) (is_late i (omega arith))
        | inr l ↦ ap (λ (c : Content). c.images) (get_or_past (row_of table (suc i)) k no_content (omega arith))
      ]

pub minimal_resolution : MinimalTableIsMinimalResolution
minimal_resolution m s t table steenrod bounded p = record {
  is_table = p.is_table;
  complex = complex m s t table steenrod p;
  exact = p.exact;
  minimal = minimal m s t table steenrod p bounded;
  needed = p.needed;
  late = λ i k h l. is_late m s t table steenrod p i h k l;
}

pub canonical_counts : CanonicalTableIsMinimalResolution → MinimalTableHasCanonicalCounts
canonical_counts law m s t table canonical steenrod bounded p is_canonical =
    let q = law m s t canonical steenrod bounded is_canonical in
    counts_are_same m s t table canonical steenrod p (record { is_table = q.is_table; exact = q.exact; needed = q.needed })
