-- Stocks all squares of which are done.
use Rattle.std.proofs.Common.{◌≡◌, ℕ, suc, ◌+◌, ◌-◌, ◌<◌, ◌≤◌, List, take, Option, sym, subst, ◌∙◌, arith, inl, inr}
use Rattle.std.proofs.lemmas.Bool.{cases_lt}
use Rattle.std.proofs.lemmas.List.{take_all}
use Rattle.f2_matrix.specs.Reduction.{Rows}
use Rattle.resolution_laws.specs.Resolution.{Module, Content, IsCanonicalTable}
use Rattle.stem_laws.specs.Stems.{in_stems, RowsInStemsAreWhole}
use Rattle.resolution_images.specs.BareRows.{BareRow, bare_row_in, IsBareRowOf, AreOfCanonical, AreOfStems, AreOfRange}
use Rattle.resolution_images.specs.Made.{IsMadeThrough}
use Rattle.resolution_images.proofs.Making.{stem_lines}
use Rattle.resolution_images.proofs.Rectangle.{canonical_lines}
use Rattle.bidegree.specs.declared.range.Range.{Range}
use Rattle.bidegree.specs.declared.shape.Shape.{Shape}
use Rattle.bidegree.specs.declared.shape.Shape.TheVariants.{Rectangle, Stems}
use Rattle.image_worker.specs.Stocks.{HasStems, extent_in, squares_done, front_in}
use Rattle.image_worker.specs.Inside.Kept.{AreKept}
use Rattle.image_worker.proofs.Fronts.{started_below, started_from}

-- in a rectangle
pub whole_rectangle : (m : Module) (s t : ℕ) (rows : List BareRow) (starts : ℕ) (slot : ℕ → Option Rows) (above : List (List Content)) → IsCanonicalTable m s (t + s) above → AreKept m (record { last = s; n = t }) t rows starts slot → ((i : ℕ) → i ≤ s → t < front_in rows starts i) → AreOfCanonical m s t rows
whole_rectangle m s t rows starts slot above far h all =
    canonical_lines m s t rows above far h.count (record {
      done = λ i a b. absurd (omega arith);
      others = λ i a b.
          let l : i ≤ s = omega (arith, h.count) in
          let full : squares_done rows i ≡ suc t = elim (cases_lt i starts) [
            | inl c ↦ absurd (omega (arith, h.within i l, started_below starts i c, h.whole i c))
            | inr c ↦ omega (arith, h.within i l, all i l, started_from starts i c)
          ] in
          subst (λ j. IsMadeThrough m (record { last = s; n = t }) i j (bare_row_in rows i)) full (h.made i l);
    })

-- in stems
pub whole_stems : RowsInStemsAreWhole → (m : Module) (s n t : ℕ) (rows : List BareRow) (starts : ℕ) (slot : ℕ → Option Rows) → AreKept m (record { last = s; n = n }) t rows starts slot → ((i : ℕ) → i ≤ s → n + i < front_in rows starts i) → AreOfStems m s n rows
whole_stems whole m s n t rows starts slot h all =
    stem_lines whole m s n rows h.count (record {
      done = λ i a b. absurd (omega arith);
      others = λ i a b.
          let l : i ≤ s = omega (arith, h.count) in
          let full : squares_done rows i ≡ n + i + 1 = elim (cases_lt i starts) [
            | inl c ↦ h.whole i c
            | inr c ↦ omega (arith, h.short i l, all i l, started_from starts i c)
          ] in
          through i l full;
    })
  where
    through : (i : ℕ) → i ≤ s → squares_done rows i ≡ n + i + 1 → IsMadeThrough m (record { last = s; n = n }) i (suc (n + s)) (bare_row_in rows i)
    through i l full = λ table canonical.
        let squares = in_stems m n table i in
        let len = whole m s n table canonical i l in
        let a : take (squares_done rows i) squares ≡ squares = take_all (squares_done rows i) squares (omega (arith, len, full)) in
        let b : take (suc (n + s)) squares ≡ squares = take_all (suc (n + s)) squares (omega (arith, len)) in
        subst (λ (z : List Content). IsBareRowOf m.bottom z (bare_row_in rows i)) (a ∙ sym b) (h.made i l table canonical)

-- in a range of a shape
abbrev pub AreOfShape : Module → Shape → Range → List BareRow → Type 0
AreOfShape m Rectangle range rows = AreOfCanonical m range.s range.t rows
AreOfShape m Stems range rows = AreOfStems m range.s (extent_in Stems range).n rows

pub whole_range : RowsInStemsAreWhole → (m : Module) (shape : Shape) (range : Range) (rows : List BareRow) (starts : ℕ) (slot : ℕ → Option Rows) (table : List (List Content)) → IsCanonicalTable m range.s ((extent_in shape range).n + range.s) table → HasStems shape range → AreKept m (extent_in shape range) range.t rows starts slot → ((i k : ℕ) → i ≤ range.s → k ≤ range.t → k ≤ (extent_in shape range).n + i → k < front_in rows starts i) → AreOfShape m shape range rows
whole_range whole m Rectangle range rows starts slot table canonical stems h all =
    whole_rectangle m range.s range.t rows starts slot table canonical h (λ i l. all i range.t l (omega arith) (omega arith))
whole_range whole m Stems range rows starts slot table canonical stems h all =
    let n = (extent_in Stems range).n in
    whole_stems whole m range.s n range.t rows starts slot h (λ i l. all i (n + i) l (omega (arith, stems)) (omega arith))

pub range_of : (m : Module) (shape : Shape) (range : Range) (rows : List BareRow) → HasStems shape range → AreOfShape m shape range rows → AreOfRange m range.s range.t rows
range_of m Rectangle range rows stems h = inl h
range_of m Stems range rows stems h =
    let sum : (extent_in Stems range).n + range.s ≡ range.t = omega (arith, stems) in
    inr ((extent_in Stems range).n, sum, h)

pub of_rectangle : (m : Module) (shape : Shape) (range : Range) (rows : List BareRow) → shape ≡ Rectangle → AreOfShape m shape range rows → AreOfCanonical m range.s range.t rows
of_rectangle m shape range rows is h = subst (λ (x : Shape). AreOfShape m x range rows) is h

pub of_stems : (m : Module) (shape : Shape) (range : Range) (rows : List BareRow) → shape ≡ Stems → AreOfShape m shape range rows → AreOfStems m range.s (extent_in shape range).n rows
of_stems m shape range rows is h =
    subst (λ (x : Shape). AreOfStems m range.s (extent_in x range).n rows) (sym is) (subst (λ (x : Shape). AreOfShape m x range rows) is h)
