use Rattle.std.proofs.Common.{◌≡◌, ℕ, ℤ, ◌+◌, ◌≤◌, Bool, List, length, ap, sym, ◌∙◌, arith}
use Rattle.std.proofs.lemmas.List.{ext_get_or}
use Rattle.finite_module.specs.ModuleLaws.{module_KeepsWidths}
use Rattle.resolution_laws.specs.Resolution.{Content, row_of}
use Rattle.stem_laws.specs.Stems.{in_stems}
use Rattle.square.specs.Squares.{over}
use Rattle.resolution_images.specs.BareRows.{BareRow, no_bare_row, bare_row_in, IsBareRowOf}
use Rattle.image_worker.proofs.laws.images_are_unique.Goals as goal

-- a row of the same squares
same_row : (b : ℤ) (squares : List Content) (x y : BareRow) → IsBareRowOf b squares x → IsBareRowOf b squares y → x ≡ y
same_row b squares x y p q =
    let row : List ℤ → List (List Bool) → List ℕ → BareRow = λ degrees images counts. record { degrees = degrees; images = images; counts = counts } in
    ap (λ (z : List ℤ). row z x.images x.counts) (p.degrees ∙ sym q.degrees)
    ∙ ap (λ (z : List (List Bool)). row y.degrees z x.counts) (p.images ∙ sym q.images)
    ∙ ap (row y.degrees y.images) (p.counts ∙ sym q.counts)

same_rows : (b : ℤ) (s : ℕ) (squares : ℕ → List Content) (xs ys : List BareRow) → length xs ≡ s + 1 → length ys ≡ s + 1 → ((i : ℕ) → i ≤ s → IsBareRowOf b (squares i) (bare_row_in xs i)) → ((i : ℕ) → i ≤ s → IsBareRowOf b (squares i) (bare_row_in ys i)) → xs ≡ ys
same_rows b s squares xs ys m n p q =
    ext_get_or no_bare_row xs ys (m ∙ sym n)
    (λ i l. same_row b (squares i) (bare_row_in xs i) (bare_row_in ys i) (p i (omega (arith, l, m))) (q i (omega (arith, l, m))))

pub returns : goal.returns
returns c = record {
  rectangle = λ m s t a b p q.
      let x = c.canonical_table_exists.ensures (over m) s t (module_KeepsWidths m.plain m.is_module) in
      same_rows (over m).bottom s (row_of x.0) a b p.rows q.rows (p.each x.0 x.1) (q.each x.0 x.1);
  stems = λ m s n a b p q.
      let x = c.canonical_table_exists.ensures (over m) s (n + s) (module_KeepsWidths m.plain m.is_module) in
      same_rows (over m).bottom s (in_stems (over m) n x.0) a b p.rows q.rows (p.each x.0 x.1) (q.each x.0 x.1);
}
