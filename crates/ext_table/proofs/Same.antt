-- The table of squares that have the same numbers of classes is the same.
use Rattle.std.proofs.Common.{◌≡◌, ℕ, zero, suc, ◌+◌, ◌<◌, ◌≤◌, ℤ, pos, ◌+ℤ◌, inl, inr, true, List, [], ◌++◌, refl, ap, arith}
use Rattle.std.specs.Prelude.{◌==◌, nat_lt, if◌then◌else◌}
use Rattle.std.specs.List.{flat_map, range_with_len}
use Rattle.std.proofs.lemmas.Bool.{cases_lt, lt-ltb}
use Rattle.chart_lines.specs.Chart.{stems_line}
use Rattle.ext_products.proofs.Factors.{flat_map-same}
use Rattle.ext_table.specs.Listing.{Listing}
use Rattle.ext_table.specs.Table.{square_line, class_text, square_text, stem_text, table_text}

module _ (bottom : ℤ) (s : ℕ) (last : ℕ → ℕ) (lists : List Listing) (c d : ℕ → ℕ → ℕ) (same : (i k : ℕ) → i ≤ s → k ≤ last i → c i k ≡ d i k) where
  -- what is told of a square that is there
  abbrev told : ℕ → ℕ → ℕ → List ℕ
  told n i count =
      if count == 0 then []
      else square_line i (bottom +ℤ pos (n + i)) (bottom +ℤ pos n) count ++ flat_map (class_text lists i (bottom +ℤ pos (n + i))) (range_with_len 0 count)

  square_same : (n i : ℕ) → i ≤ s → square_text bottom last c lists n i ≡ square_text bottom last d lists n i
  square_same n i l = elim (cases_lt (last i) (n + i)) [
    | inl past ↦
        let test : nat_lt (last i) (n + i) ≡ true = lt-ltb (last i) (n + i) past in
        rw test refl
    | inr here ↦ ap (λ (count : ℕ). if nat_lt (last i) (n + i) then [] else told n i count) (same i (n + i) l here)
  ]

  pub table_same : table_text bottom s last c lists ≡ table_text bottom s last d lists
  table_same =
      ap (λ (text : List ℕ). text ++ stems_line bottom (last 0))
      (flat_map-same (stem_text bottom s last c lists) (stem_text bottom s last d lists) 0 (last 0 + 1) (λ n l.
      flat_map-same (square_text bottom last c lists n) (square_text bottom last d lists n) 0 (s + 1) (λ i b. square_same n i (omega arith))))
