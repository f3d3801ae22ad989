-- Sums of the unit vectors of elements are columns of rows that stand at these places.
use Rattle.std.proofs.Common.{◌≡◌, ◌≢◌, ◌⊎◌, inl, inr, ℕ, ◌<◌, ◌≤◌, nat_eq, Bool, false, List, [], length, ap, sym, ◌∙◌, arith}
use Rattle.std.proofs.lemmas.Bool.{cases_lt, eq-eqb, ne_eqb}
use Rattle.std.proofs.lemmas.List.{ext_get_or, get_or-map, get_or_past, length-map}
use Rattle.f2_vec.specs.Vectors.{bit, IsZero}
use Rattle.f2_vec.specs.Spans.{row, combination, unit_vector}
use Rattle.f2_choice.specs.Inside.Columns.{column}
use Rattle.f2_vec.proofs.Spans.{length-combination}
use Rattle.f2_vec.proofs.Split.{bit-unit_vector}
use Rattle.f2_choice.specs.Inside.Coordinates.{element_of, pivot_units}
use Rattle.f2_choice.proofs.Dots.{dot, dot_zero, dot_only, bit-combination-dot}
use Rattle.f2_choice.proofs.OnCandidates.{HaveWidth-units, row-column}

-- what the unit vectors have at a place
bit-units : (n c t : ℕ) (image : List (List Bool)) → t < length image → element_of n (row image t) < n → bit (column c (pivot_units n image)) t ≡ nat_eq c (element_of n (row image t))
bit-units n c t image l w =
    let u = λ (r : List Bool). unit_vector n (element_of n r) in
    row-column c (pivot_units n image) t (omega (arith, length-map image u))
    ∙ ap (λ v. bit v c) (get_or-map u image t [] [] l)
    ∙ bit-unit_vector n (element_of n (row image t)) c w

past-units : (n c t : ℕ) (image : List (List Bool)) → length image ≤ t → bit (column c (pivot_units n image)) t ≡ false
past-units n c t image l = get_or_past (column c (pivot_units n image)) t false (omega (arith, length-map (pivot_units n image) (λ v. bit v c), length-map image (λ (r : List Bool). unit_vector n (element_of n r))))

-- elements of two image rows differ
abbrev pub AreApart : ℕ → List (List Bool) → Type 0
AreApart n image = (s t : ℕ) → s ≢ t → s < length image → t < length image → element_of n (row image s) ≢ element_of n (row image t)

abbrev pub AreWithin : ℕ → List (List Bool) → Type 0
AreWithin n image = (t : ℕ) → t < length image → element_of n (row image t) < n

-- n rows, of which each is the row of `rows` beside the image row of its element, or zero where there is no such image row
pub record IsSpread (n : ℕ) (image rows spread : List (List Bool)) : Type 0 where
  pub size : length spread ≡ n
  pub each : (e : ℕ) → e < n →
      ((t : ℕ) × (t < length image) × (element_of n (row image t) ≡ e) × (row spread e ≡ row rows t))
      ⊎ (IsZero (row spread e) × ((t : ℕ) → t < length image → element_of n (row image t) ≢ e))

pub combination-spread : (n i : ℕ) (image rows spread : List (List Bool)) → length rows ≡ length image → AreWithin n image → AreApart n image → IsSpread n image rows spread → combination n (column i rows) (pivot_units n image) ≡ column i spread
combination-spread n i image rows spread e w a s =
    let units = pivot_units n image in
    let v = combination n (column i rows) units in
    let lv : length v ≡ n = length-combination n (column i rows) units (HaveWidth-units n image) in
    let ls : length (column i spread) ≡ n = length-map spread (λ u. bit u i) ∙ s.size in
    ext_get_or false v (column i spread) (lv ∙ sym ls)
    (λ c l.
    let m : c < n = omega arith in
    bit-combination-dot n (column i rows) units c (HaveWidth-units n image) ∙ at c m ∙ sym (row-column i spread c (omega (arith, s.size))))
  where
    at : (c : ℕ) → c < n → dot (column i rows) (column c (pivot_units n image)) ≡ bit (row spread c) i
    at c m =
        let units = pivot_units n image in
        elim (s.each c m) [
          | inl f ↦
              let t = f.0 in
              let b : t < length image = f.1 in
              dot_only (column i rows) (column c units) t
              (λ j d. elim (cases_lt j (length image)) [
                | inl k ↦ bit-units n c j image k (w j k) ∙ ne_eqb c (element_of n (row image j)) (λ o. a j t d k b (sym o ∙ sym f.2))
                | inr k ↦ past-units n c j image k
              ])
              (bit-units n c t image b (w t b) ∙ eq-eqb c (element_of n (row image t)) (sym f.2))
              ∙ row-column i rows t (omega arith)
              ∙ ap (λ u. bit u i) (sym f.3)
          | inr f ↦
              dot_zero (column i rows) (column c units)
              (λ j. elim (cases_lt j (length image)) [
                | inl k ↦ bit-units n c j image k (w j k) ∙ ne_eqb c (element_of n (row image j)) (λ o. f.1 j k (sym o))
                | inr k ↦ past-units n c j image k
              ])
              ∙ sym (f.0 i)
        ]
