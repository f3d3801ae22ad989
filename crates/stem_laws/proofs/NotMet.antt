-- No vector of a kernel and no image has a coordinate at a generator of its own degree in the row below.
use Rattle.std.proofs.Common.{◌≡◌, inl, inr, ℕ, suc, ◌+◌, ◌-◌, ◌<◌, ◌≤◌, false, ℤ, pos, ◌+ℤ◌, List, [], ◌++◌, length, take, drop, refl, sym, ◌∙◌, ap, arith}
use Rattle.std.proofs.lemmas.Int.{ints}
use Rattle.std.proofs.lemmas.Bool.{cases_lt}
use Rattle.std.proofs.lemmas.List.{get_or_append_left, get_or-append_right, get_or_default, get_or_past, length-append, length-map}
use Rattle.f2_vec.specs.Spans.{row}
use Rattle.milnor_basis.specs.Exponents.{degree_of}
use Rattle.milnor_basis.proofs.ExponentLemmas.{of_degree_zero}
use Rattle.free_module.specs.FreeModule.{free_basis_from, free_basis, free_width, degree_at}
use Rattle.free_module.specs.FreeBasis.{element, IsOfDegree}
use Rattle.free_module.proofs.FreeBasis.{free_basis_from-append, free_basis_is_pairs}
use Rattle.free_module.specs.LinearMap.{image_of}
use Rattle.resolution_laws.specs.Resolution.{Module, Content, square_in, degrees_from, images_of, row_of}
use Rattle.resolution_laws.specs.Exactness.{IsMinimalResolution, CanonicalTableIsMinimalResolution, degrees_in, target_of}
use Rattle.resolution_laws.proofs.Rows.{degrees_from-split, degrees_from-between}
use Rattle.resolution_laws.proofs.Generators.{element-IsOfDegree}
use Rattle.stem_laws.specs.Stems.{AreNotMet, NewGeneratorsAreNotMet}

-- from the first of the new generators on, elements of the basis are without an operation
new_is_bare : (b : ℤ) (squares : List Content) (k j : ℕ) → free_width (degrees_from b (take k squares)) (b +ℤ pos k) ≤ j → j < length (free_basis (degrees_from b squares) (b +ℤ pos k)) → (element (free_basis (degrees_from b squares) (b +ℤ pos k)) j).1 ≡ []
new_is_bare b squares k j from l =
    let u = b +ℤ pos k in
    let all = degrees_from b squares in
    let ds = degrees_from b (take k squares) in
    let later = degrees_from (b +ℤ pos k) (drop k squares) in
    let parts : all ≡ ds ++ later = degrees_from-split b squares k in
    let e = element (free_basis all u) j in
    let o = element-IsOfDegree all u j l in
    let degree = o.degree in
    elim (cases_lt e.0 (length ds)) [
      | inl a ↦
          let at : degree_at all e.0 ≡ degree_at ds e.0 = ap (λ (z : List ℤ). degree_at z e.0) parts ∙ get_or_append_left ds later (pos 0) e.0 a in
          let old : IsOfDegree ds u e = record { generator = a; trimmed = o.trimmed; degree = ap (λ (z : ℤ). z +ℤ pos (degree_of e.1)) (sym at) ∙ degree } in
          let c = ((free_basis_is_pairs ds u).members e).1 old in
          let place = c.0 in
          let here : element (free_basis ds u) place ≡ e = get_or_default (free_basis ds u) place (0, []) e c.1 ∙ c.2 in
          let back = free_basis_from (0 + length ds) later u in
          let split : free_basis all u ≡ free_basis ds u ++ back = ap (λ (z : List ℤ). free_basis z u) parts ∙ free_basis_from-append 0 ds later u in
          let there : element (free_basis all u) place ≡ e = ap (λ (z : List (ℕ × List ℕ)). element z place) split ∙ (get_or_append_left (free_basis ds u) back (0, []) place c.1 ∙ here) in
          let short : place < length (free_basis all u) = let f = c.1 in omega arith in
          let same : place ≡ j = (free_basis_is_pairs all u).once place j short l there in
          absurd (let f = c.1 in omega arith)
      | inr a ↦
          let g = o.generator in
          let count : length all ≡ length ds + length later = ap length parts ∙ length-append ds later in
          let at : degree_at all e.0 ≡ degree_at later (e.0 - length ds) = ap (λ (z : List ℤ). degree_at z e.0) parts ∙ get_or-append_right ds later (length ds) e.0 (pos 0) refl a in
          let late = (degrees_from-between (b +ℤ pos k) (drop k squares) (e.0 - length ds) (omega arith)).from in
          of_degree_zero e.1 o.trimmed (omega (arith, ints))
    ]

module _ (m : Module) (s t : ℕ) (table : List (List Content)) (p : IsMinimalResolution m s t table) where
  pub not_met : (i k : ℕ) → i ≤ s → k ≤ t → AreNotMet m s table i k
  not_met i k h l =
      let u = m.bottom +ℤ pos k in
      let ds = degrees_in m table i in
      let wide = length-map (free_basis ds u) (image_of (target_of m table i) ds (images_of (row_of table i))) in
      record {
        kernel = λ v r j b. elim (cases_lt j (free_width ds u)) [
          | inl c ↦ p.needed i k h l v r j c (new_is_bare m.bottom (row_of table i) k j b c)
          | inr c ↦ let n = r.one_each in get_or_past v j false (omega arith)
        ];
        images = λ q g b j c.
            let v = row (square_in (row_of table (suc i)) k).images g in
            elim (cases_lt j (free_width ds u)) [
              | inl d ↦ p.minimal (suc i) k q l g j b d (new_is_bare m.bottom (row_of table i) k j c d)
              | inr d ↦ let n = p.is_table.widths (suc i) k q l g b in get_or_past v j false (omega arith)
            ];
      }

pub are_not_met : CanonicalTableIsMinimalResolution → NewGeneratorsAreNotMet
are_not_met minimal m s t table p i k h l = not_met m s t table (minimal m s t table p.steenrod p.bounded p.canonical) i k h l
