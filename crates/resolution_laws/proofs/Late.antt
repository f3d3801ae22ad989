-- Row i has no generator in degrees below i above the bottom: its images would have terms without operations alone.
use Rattle.std.proofs.Common.{◌≡◌, inl, inr, ℕ, zero, suc, ◌+◌, ◌<◌, ◌≤◌, false, pos, ◌+ℤ◌, List, [], length, ap, arith}
use Rattle.std.proofs.lemmas.Int.{ints}
use Rattle.std.proofs.lemmas.Bool.{cases_lt}
use Rattle.std.proofs.lemmas.List.{get_or_past}
use Rattle.f2_vec.specs.Spans.{row}
use Rattle.f2_vec.proofs.Sums.{zeros_from_bits}
use Rattle.milnor_basis.proofs.ExponentLemmas.{of_degree_zero}
use Rattle.free_module.specs.FreeModule.{free_basis}
use Rattle.free_module.specs.FreeBasis.{element}
use Rattle.resolution_laws.specs.Resolution.{Module, Content, no_content, square_in, row_of}
use Rattle.resolution_laws.specs.Exactness.{degrees_in, target_of}
use Rattle.resolution_laws.proofs.NewGenerators.{HaveWidth-IsChosen}
use Rattle.resolution_laws.proofs.Chosen.{none_chosen}
use Rattle.resolution_laws.proofs.Generators.{generator_at, element-IsOfDegree}
use Rattle.resolution_laws.proofs.Squares.{IsResolved, old_rows, candidates_of, square_at}
use Rattle.resolution_laws.proofs.Minimal.{is_minimal}

-- row i has no generator in degrees below i above the bottom
abbrev StartsLate : List (List Content) → ℕ → Type 0
StartsLate table i = (k : ℕ) → k < i → (square_in (row_of table i) k).images ≡ []

-- in degrees through i above the bottom, all elements of the basis of row i are without an operation
bare : (m : Module) (table : List (List Content)) (i k j : ℕ) → StartsLate table i → k ≤ i → j < length (free_basis (degrees_in m table i) (m.bottom +ℤ pos k)) → (element (free_basis (degrees_in m table i) (m.bottom +ℤ pos k)) j).1 ≡ []
bare m table i k j late h l =
    let squares = row_of table i in
    let o = element-IsOfDegree (degrees_in m table i) (m.bottom +ℤ pos k) j l in
    let e = element (free_basis (degrees_in m table i) (m.bottom +ℤ pos k)) j in
    let at = generator_at m.bottom squares e.0 o.generator in
    let from : i ≤ at.k = elim (cases_lt at.k i) [
      | inl b ↦ let none = ap length (late at.k b) in let some = at.within in absurd (omega arith)
      | inr b ↦ b
    ] in
    let degree = o.degree in
    let here = at.degree in
    of_degree_zero e.1 o.trimmed (omega (arith, ints))

-- so an image of row i + 1 there is zero, by minimality, and zero is not chosen
starts_late : (m : Module) (s t : ℕ) (table : List (List Content)) → IsResolved m s t table → (i k : ℕ) → suc i ≤ s → k ≤ i → k ≤ t → StartsLate table i → (square_in (row_of table (suc i)) k).images ≡ []
starts_late m s t table p i k h b l late =
    let u = m.bottom +ℤ pos k in
    let n = (target_of m table (suc i)).width u in
    let images = (square_in (row_of table (suc i)) k).images in
    let square = square_at m s t table p (suc i) k h l in
    let old = old_rows m table (suc i) k in
    let candidates = candidates_of m table (suc i) k in
    let widths = HaveWidth-IsChosen n old candidates images square.candidate_widths square.chosen in
    none_chosen n old candidates images square.old_widths square.candidate_widths square.chosen (λ g a.
    zeros_from_bits n (row images g) (widths g a) (λ j. elim (cases_lt j n) [
      | inl c ↦ is_minimal m s t table p (suc i) k h l g j a c (bare m table i k j late b c)
      | inr c ↦ let len = widths g a in get_or_past (row images g) j false (omega arith)
    ]))

pub is_late : (m : Module) (s t : ℕ) (table : List (List Content)) → IsResolved m s t table → (i : ℕ) → i ≤ s → StartsLate table i
is_late m s t table p zero h k b = absurd (omega arith)
is_late m s t table p (suc i) h k b =
    let n = p.canonical.squares (suc i) h in
    elim (cases_lt k (t + 1)) [
      | inl l ↦ starts_late m s t table p i k h (omega arith) (omega arith) (is_late m s t table p i (omega arith))
      | inr l ↦ ap (λ (c : Content). c.images) (get_or_past (row_of table (suc i)) k no_content (omega arith))
    ]
