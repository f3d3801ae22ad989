-- A rectangle through degree t is made as the part of the stems 0 to t below it: its rows are the first squares of rows
-- in stems, which are not on the edge there.
use Rattle.std.proofs.Common.{◌≡◌, ℕ, suc, ◌+◌, ◌<◌, ◌≤◌, List, [], ◌∷◌, length, take, refl, ap, sym, subst, ◌∙◌, arith, inl, inr}
use Rattle.std.proofs.lemmas.Bool.{cases_lt}
use Rattle.std.proofs.lemmas.List.{ext_get_or, get_or-take, get_or_append_left, get_or_push, length_push, length-take-le}
use Rattle.resolution_laws.specs.Resolution.{Module, Content, no_content, square_in, row_of, IsCanonicalTable}
use Rattle.resolution_laws.proofs.StartLaws.{content_is_unique}
use Rattle.resolution_laws.proofs.StartTables.{empty_start}
use Rattle.f2_matrix.proofs.Unique.{kernel_basis_unique}
use Rattle.stem_laws.specs.Stems.{in_stems, on_edge}
use Rattle.resolution_images.specs.BareRows.{BareRow, bare_row_in, IsBareRowOf, AreOfCanonical}
use Rattle.resolution_images.specs.Inside.Columns.{AreMadeThrough}

-- off the edge, and in row 0 on it, a square in stems is that of the table
square_off : (m : Module) (n : ℕ) (table : List (List Content)) (i k : ℕ) → n + i ≤ length (row_of table i) → k ≤ n → square_in (in_stems m n table i) k ≡ square_in (row_of table i) k
square_off m n table i k long l =
    let xs = row_of table i in
    let first = take (n + i) xs in
    let len : length first ≡ n + i = length-take-le (n + i) xs long in
    elim (cases_lt k (n + i)) [
      | inl b ↦ get_or_append_left first (on_edge m table i (n + i) (square_in xs (n + i)) ∷ []) no_content k (omega (arith, len)) ∙ get_or-take (n + i) xs k no_content b
      | inr b ↦
          let none : i ≡ 0 = omega arith in
          let at : k ≡ n + i = omega arith in
          at_edge none at len
    ]
  where
    at_edge : i ≡ 0 → k ≡ n + i → length (take (n + i) (row_of table i)) ≡ n + i → square_in (in_stems m n table i) k ≡ square_in (row_of table i) k
    at_edge none at len =
        let xs = row_of table i in
        let first = take (n + i) xs in
        let edge = on_edge m table i (n + i) (square_in xs (n + i)) in
        let uncut : edge ≡ square_in xs (n + i) = subst (λ z. on_edge m table z (n + i) (square_in xs (n + i)) ≡ square_in xs (n + i)) (sym none) refl in
        get_or_push first edge no_content k (len ∙ sym at) ∙ uncut ∙ ap (square_in xs) (sym at)

module _ (m : Module) (s t : ℕ) (lines : List BareRow) (above : List (List Content)) (far : IsCanonicalTable m s (t + s) above) (len : length lines ≡ s + 1) (h : AreMadeThrough m (record { last = s; n = t }) 0 (suc t) lines) where
  row_same : (table : List (List Content)) → IsCanonicalTable m s t table → (i : ℕ) → i ≤ s → take (suc t) (in_stems m t above i) ≡ row_of table i
  row_same table canonical i l =
      let near = (empty_start kernel_basis_unique m s t table).1 canonical in
      let wide = (empty_start kernel_basis_unique m s (t + s) above).1 far in
      let size : length (row_of table i) ≡ t + 1 = near.squares i l in
      let long : length (row_of above i) ≡ t + s + 1 = wide.squares i l in
      let all = in_stems m t above i in
      let cut : length (take (suc t) all) ≡ suc t = length-take-le (suc t) all (in_length i l long) in
      ext_get_or no_content (take (suc t) all) (row_of table i) (cut ∙ (let e : suc t ≡ t + 1 = omega arith in e) ∙ sym size)
      (λ k b.
      let c : k < suc t = omega (arith, cut) in
      get_or-take (suc t) all k no_content c
      ∙ square_off m t above i k (omega (arith, long, l)) (omega arith)
      ∙ content_is_unique kernel_basis_unique m [] i k (square_in (row_of above i) k) (square_in (row_of table i) k) (wide.contents i k l (omega arith)) (near.contents i k l (omega arith)))
    where
      in_length : (i : ℕ) → i ≤ s → length (row_of above i) ≡ t + s + 1 → suc t ≤ length (in_stems m t above i)
      in_length i l long = omega (arith, length-take-le (t + i) (row_of above i) (omega (arith, long, l)), length_push (take (t + i) (row_of above i)) (on_edge m above i (t + i) (square_in (row_of above i) (t + i))))

  pub canonical_lines : AreOfCanonical m s t lines
  canonical_lines = record {
    rows = len;
    each = λ table canonical i l.
        subst (λ (z : List Content). IsBareRowOf m.bottom z (bare_row_in lines i)) (row_same table canonical i l)
        (h.others i (omega arith) (omega (arith, len)) above far);
  }
