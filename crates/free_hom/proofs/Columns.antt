-- The table of places, and the columns to which the rows of a linear map are added generator by generator.
use Rattle.std.proofs.Common.{◌≡◌, ◌≢◌, inl, inr, ℕ, ◌+◌, ◌-◌, ◌<◌, ◌≤◌, Bool, false, Option, Some, None, List, [], ◌++◌, length, map, reverse, replicate, set, drop, get_or, length-set, ℤ, ◌-ℤ◌, refl, ap, sym, subst, ◌∙◌, arith}
use Rattle.std.proofs.lemmas.Bool.{cases_eq, cases_lt}
use Rattle.std.proofs.lemmas.List.{ext_get_or, get_or-map, length-map, length-append, get_or_past, get_or-replicate, length-replicate, get_or-set_same, get_or-set_other, length-reverse, get_or-reverse}
use Rattle.std.proofs.lemmas.Option.{none-some}
use Rattle.f2_vec.specs.Vectors.{plus, bit, zeros}
use Rattle.f2_vec.specs.Spans.{row}
use Rattle.f2_vec.proofs.Sums.{bit-zeros, length-zeros, plus-false}
use Rattle.milnor_product.specs.Times.{basis_at}
use Rattle.free_module.specs.FreeModule.{degree_at, free_basis_from, free_basis, free_width}
use Rattle.free_module.specs.Graded.{GradedModule}
use Rattle.free_module.specs.LinearMap.{image_of, map_rows}
use Rattle.free_module.specs.Columns.{column_at, IsTableOfColumns, AreAdded}
use Rattle.free_module.proofs.Columns.{added_none, added-append}
use Rattle.free_module.proofs.MapRows.{map_rows-more, map_rows-done}
use Rattle.free_hom.specs.Inside.Tables.{IsTableOf}

-- ---- the table

pub IsTableOf-more : (i n p : ℕ) (places : List ℕ) (table : List (Option ℕ)) → i < length places → p ≡ get_or places i 0 → p < n → ((j k : ℕ) → j < length places → k < length places → get_or places j 0 ≡ get_or places k 0 → j ≡ k) → IsTableOf i n places table → IsTableOf (i + 1) n places (set table p (Some i))
IsTableOf-more i n p places table l is within apart h = record {
  size = length-set table p (Some i) ∙ h.size;
  found = λ q j e.
      elim (cases_eq q p) [
        | inl o ↦
            let same : Some j ≡ Some i = sym e ∙ ap (column_at (set table p (Some i))) o ∙ here in
            let number : j ≡ i = cc in
            (omega (arith, number), ap (λ k. get_or places k 0) number ∙ sym is ∙ sym o)
        | inr d ↦
            let old = h.found q j (sym (get_or-set_other table p q (Some i) None d) ∙ e) in
            (omega (arith, old.0), old.1)
      ];
  there = λ j m.
      elim (cases_eq j i) [
        | inl o ↦ ap (λ k. column_at (set table p (Some i)) (get_or places k 0)) o ∙ ap (column_at (set table p (Some i))) (sym is) ∙ here ∙ ap Some (sym o)
        | inr d ↦
            let b : j < i = omega (arith, m, d) in
            let other : get_or places j 0 ≢ p = (λ s. d (apart j i (omega (arith, b, l)) l (s ∙ is))) in
            get_or-set_other table p (get_or places j 0) (Some i) None other ∙ h.there j b
      ];
}
  where
    here : column_at (set table p (Some i)) p ≡ Some i
    here = get_or-set_same table p (Some i) None (omega (arith, within, h.size))

pub IsTableOf-start : (n : ℕ) (places : List ℕ) (table : List (Option ℕ)) → table ≡ replicate n None → IsTableOf 0 n places table
IsTableOf-start n places table is = record {
  size = ap length is ∙ length-replicate {A = Option ℕ} n None;
  found = λ p j e. absurd (none-some j (sym (ap (λ z. column_at z p) is ∙ nothing n p) ∙ e));
  there = λ j l. absurd (omega arith);
}
  where
    nothing : (n p : ℕ) → column_at (replicate n None) p ≡ None
    nothing n p = elim (cases_lt p n) [
      | inl l ↦ get_or-replicate n p None None l
      | inr m ↦ get_or_past (replicate n None) p None (omega (arith, m, length-replicate {A = Option ℕ} n None))
    ]

pub table_of_columns : (n : ℕ) (places : List ℕ) (table : List (Option ℕ)) → IsTableOf (length places) n places table → IsTableOfColumns (length places) table
table_of_columns n places table h = record {
  within = λ p j e. (h.found p j e).0;
  apart = λ p q j e f. sym (h.found p j e).1 ∙ (h.found q j f).1;
}

-- ---- the rows, generator by generator

-- the columns, of length `height`, once the rows of the generators before number g are added, with the places from `end` on
pub record HaveBlocks (target : GradedModule) (degrees : List ℤ) (images : List (List Bool)) (t : ℤ) (table : List (Option ℕ)) (height g end : ℕ) (old new : List (List Bool)) : Type 0 where
  pub rows : List (List Bool)
  pub so_far : rows ++ map (image_of target degrees images) (free_basis_from g (drop g degrees) t) ≡ map_rows target degrees images t
  pub left : end + length rows ≡ height
  pub added : AreAdded table height rows old new

pub no_block : (target : GradedModule) (degrees : List ℤ) (images : List (List Bool)) (t : ℤ) (table : List (Option ℕ)) (height : ℕ) (old : List (List Bool)) → HaveBlocks target degrees images t table height 0 height old old
no_block target degrees images t table height old = record {
  rows = [];
  so_far = refl;
  left = omega arith;
  added = added_none table height [] old (λ k p l. absurd (omega arith));
}

-- the rows of one generator
abbrev pub block_of : GradedModule → List ℤ → List (List Bool) → ℤ → ℕ → List (List Bool)
block_of target degrees images t g = map (λ r. target.action r (degree_at degrees g) (row images g)) (basis_at (t -ℤ degree_at degrees g))

module _ (target : GradedModule) (degrees : List ℤ) (images : List (List Bool)) (t : ℤ) (table : List (Option ℕ)) (height g end : ℕ) (old mid : List (List Bool)) (whole : height ≡ free_width degrees t) (l : g < length degrees) (h : HaveBlocks target degrees images t table height g end old mid) where
  abbrev block : List (List Bool)
  block = block_of target degrees images t g

  longer : (h.rows ++ block) ++ map (image_of target degrees images) (free_basis_from (g + 1) (drop (g + 1) degrees) t) ≡ map_rows target degrees images t
  longer = sym (map_rows-more target degrees images t g h.rows l) ∙ h.so_far

  -- there is room for it
  pub block_room : length h.rows + length (basis_at (t -ℤ degree_at degrees g)) ≤ height
  block_room =
      let f = image_of target degrees images in
      let rest = map f (free_basis_from (g + 1) (drop (g + 1) degrees) t) in
      let all : length (map_rows target degrees images t) ≡ height = length-map (free_basis degrees t) f ∙ sym whole in
      let b : length block ≡ length (basis_at (t -ℤ degree_at degrees g)) = length-map (basis_at (t -ℤ degree_at degrees g)) (λ r. target.action r (degree_at degrees g) (row images g)) in
      omega (arith, ap length longer, all, b, length-append (h.rows ++ block) rest, length-append h.rows block)

  pub block_fits : length (basis_at (t -ℤ degree_at degrees g)) ≤ end
  block_fits = omega (arith, block_room, h.left)

  pub one_block : (next : ℕ) (new : List (List Bool)) → next ≡ end - length (basis_at (t -ℤ degree_at degrees g)) → AreAdded table end block mid new → HaveBlocks target degrees images t table height (g + 1) next old new
  one_block next new left more =
      let b : length block ≡ length (basis_at (t -ℤ degree_at degrees g)) = length-map (basis_at (t -ℤ degree_at degrees g)) (λ r. target.action r (degree_at degrees g) (row images g)) in
      let at : end ≡ height - length h.rows = omega (arith, h.left) in
      record {
        rows = h.rows ++ block;
        so_far = longer;
        left = omega (arith, left, block_fits, b, h.left, length-append h.rows block);
        added = added-append table height h.rows block old mid new (omega (arith, block_room, b)) h.added (subst (λ z. AreAdded table z block mid new) at more);
      }

-- ---- the columns

pub all_blocks : (target : GradedModule) (degrees : List ℤ) (images : List (List Bool)) (t : ℤ) (n height g end : ℕ) (places : List ℕ) (table : List (Option ℕ)) (new : List (List Bool)) → height ≡ free_width degrees t → length degrees ≤ g → IsTableOf (length places) n places table → HaveBlocks target degrees images t table height g end (replicate (length places) (zeros height)) new → new ≡ map (λ p. map (λ v. bit v p) (reverse (map_rows target degrees images t))) places
all_blocks target degrees images t n height g end places table new whole past is h =
    let rows = map_rows target degrees images t in
    let old = replicate (length places) (zeros height) in
    let f : ℕ → List Bool = λ p. map (λ v. bit v p) (reverse rows) in
    let all : h.rows ≡ rows = sym (map_rows-done target degrees images t g h.rows past) ∙ h.so_far in
    let tall : length rows ≡ height = length-map (free_basis degrees t) (image_of target degrees images) ∙ sym whole in
    let many : length new ≡ length places = h.added.as_many ∙ length-replicate (length places) (zeros height) in
    ext_get_or [] new (map f places) (many ∙ sym (length-map places f)) (λ j l.
    let m : j < length places = omega (arith, l, many) in
    let p = get_or places j 0 in
    let blank : row old j ≡ zeros height = get_or-replicate (length places) j (zeros height) [] m in
    let long : length (row new j) ≡ height = h.added.lengths j ∙ ap length blank ∙ length-zeros height in
    let size : length (f p) ≡ height = length-map (reverse rows) (λ v. bit v p) ∙ length-reverse rows ∙ tall in
    ext_get_or false (row new j) (f p) (long ∙ sym size) (λ i o.
    let b : i < height = omega (arith, o, long) in
    let k = height - 1 - i in
    let back : height - 1 - k ≡ i = omega (arith, b) in
    let within : k < length h.rows = omega (arith, b, ap length all, tall) in
    ap (bit (row new j)) (sym back)
    ∙ h.added.added p j k (is.there j m) within
    ∙ ap (λ v. plus (bit (row h.rows k) p) (bit v (height - 1 - k))) blank
    ∙ ap (plus (bit (row h.rows k) p)) (bit-zeros height (height - 1 - k))
    ∙ plus-false (bit (row h.rows k) p)
    ∙ ap (λ z. bit (row z k) p) all
    ∙ ap (λ z. bit (row rows (z - 1 - i)) p) (sym tall)
    ∙ ap (λ v. bit v p) (sym (get_or-reverse rows i [] (omega (arith, b, tall))))
    ∙ sym (get_or-map (λ v. bit v p) (reverse rows) i [] false (omega (arith, b, tall, length-reverse rows))))
    ∙ sym (get_or-map f places j 0 [] m))
