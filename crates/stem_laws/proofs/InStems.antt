-- The squares in stems, beside those of the whole table: of rows and of their targets, parts with zeros behind.
use Rattle.std.proofs.Common.{◌≡◌, inl, inr, ℕ, zero, suc, ◌+◌, ◌<◌, ◌≤◌, Bool, ℤ, pos, ◌+ℤ◌, List, [], ◌∷◌, ◌++◌, length, map, take, drop, refl, sym, ◌∙◌, ap, subst, arith}
use Rattle.std.proofs.lemmas.Int.{ints}
use Rattle.std.proofs.lemmas.Bool.{cases_lt}
use Rattle.std.proofs.lemmas.List.{get_or-take, get_or_append_left, get_or_push, length-map, length-take, length-take-le, length_push, take_all}
use Rattle.f2_vec.specs.Vectors.{bit}
use Rattle.f2_vec.specs.Spans.{row, HaveWidth}
use Rattle.free_module.specs.FreeModule.{free_width}
use Rattle.free_module.specs.Graded.{GradedModule, free_graded}
use Rattle.free_module.specs.LinearMap.{AreImages, map_rows}
use Rattle.resolution_laws.specs.Resolution.{Module, Content, no_content, square_in, degrees_from, images_of, row_of}
use Rattle.resolution_laws.specs.Exactness.{IsMinimalResolution, CanonicalTableIsMinimalResolution, degrees_in, target_of}
use Rattle.resolution_laws.proofs.Rows.{degrees_from-split, free_basis_from-above}
use Rattle.resolution_laws.proofs.Generators.{AreImages-row}
use Rattle.stem_laws.specs.Stems.{first_new, on_edge, in_stems, target_in_stems, degrees_in_stems, images_in_stems, IsCanonicalResolution, RowsInStemsAreWhole, IsThatOfTable, SquaresInStemsAreThoseOfTable, SquaresInStemsFit, ImagesInStemsFit}
use Rattle.stem_laws.proofs.Padded.{padded, bit-row_padded, nothing_padded, HaveWidth-unpadded, padded_back}
use Rattle.stem_laws.proofs.Parts.{IsPart, whole-IsPart, behind, free-IsPart, map_rows-part, degrees_same, row-images_of}
use Rattle.stem_laws.proofs.NotMet.{not_met}

-- as many of a row's squares as it has in stems through a degree
pub record IsReached (m : Module) (n : ℕ) (table : List (List Content)) (i k : ℕ) : Type 0 where
  pub q : ℕ
  pub few : q ≤ suc k
  pub within : q ≤ n + i + 1
  pub reach : (j : ℕ) → j ≤ k → j ≤ n + i → j < q
  pub same : take (suc k) (in_stems m n table i) ≡ take q (in_stems m n table i)

-- the target of a row in stems is part of the target of the row, and images are those of the row with zeros behind cut off
pub record IsPartAt (m : Module) (n : ℕ) (table : List (List Content)) (i k : ℕ) : Type 0 where
  pub w : ℤ → ℕ
  pub part : IsPart (target_in_stems m n table i k) (target_of m table i) w
  pub none : (j : ℕ) → j ≤ k → j < n + i → w (m.bottom +ℤ pos j) ≡ 0
  pub images : (j : ℕ) → j ≤ k → j ≤ n + i → (square_in (row_of table i) j).images ≡ map (padded (w (m.bottom +ℤ pos j))) (square_in (in_stems m n table i) j).images

edge_counts : (m : Module) (table : List (List Content)) (i k : ℕ) (c : Content) → length (on_edge m table i k c).images ≡ length c.images
edge_counts m table zero k c = refl
edge_counts m table (suc i) k c = length-map c.images (take (first_new m table i k))

edge_kernel : (m : Module) (table : List (List Content)) (i k : ℕ) (c : Content) → (on_edge m table i k c).kernel ≡ c.kernel
edge_kernel m table zero k c = refl
edge_kernel m table (suc i) k c = refl

length-stems : (m : Module) (n : ℕ) (table : List (List Content)) (i : ℕ) → n + i < length (row_of table i) → length (in_stems m n table i) ≡ n + i + 1
length-stems m n table i l =
    length_push (take (n + i) (row_of table i)) (on_edge m table i (n + i) (square_in (row_of table i) (n + i))) ∙ ap (λ (x : ℕ). x + 1) (length-take-le (n + i) (row_of table i) (omega arith))

pub rows_are_whole : RowsInStemsAreWhole
rows_are_whole m s n table p i h = let e = p.squares i h in length-stems m n table i (omega arith)

module _ (m : Module) (s n : ℕ) (table : List (List Content)) (p : IsMinimalResolution m s (n + s) table) where
  long : (i : ℕ) → i ≤ s → n + i < length (row_of table i)
  long i h = let e = p.is_table.squares i h in omega arith

  length-before : (i : ℕ) → i ≤ s → length (take (n + i) (row_of table i)) ≡ n + i
  length-before i h = let l = long i h in length-take-le (n + i) (row_of table i) (omega arith)

  pub length-in_stems : (i : ℕ) → i ≤ s → length (in_stems m n table i) ≡ n + i + 1
  length-in_stems i h = length-stems m n table i (long i h)

  -- off the edge the squares are those of the table
  square_off : (i j : ℕ) → i ≤ s → j < n + i → square_in (in_stems m n table i) j ≡ square_in (row_of table i) j
  square_off i j h l =
      let len = length-before i h in
      get_or_append_left (take (n + i) (row_of table i)) (on_edge m table i (n + i) (square_in (row_of table i) (n + i)) ∷ []) no_content j (omega arith) ∙ get_or-take (n + i) (row_of table i) j no_content l

  square_edge : (i : ℕ) → i ≤ s → square_in (in_stems m n table i) (n + i) ≡ on_edge m table i (n + i) (square_in (row_of table i) (n + i))
  square_edge i h = get_or_push (take (n + i) (row_of table i)) (on_edge m table i (n + i) (square_in (row_of table i) (n + i))) no_content (n + i) (length-before i h)

  pub square_kernel : (i j : ℕ) → i ≤ s → j ≤ n + i → (square_in (in_stems m n table i) j).kernel ≡ (square_in (row_of table i) j).kernel
  square_kernel i j h l =
      elim (cases_lt j (n + i)) [
        | inl b ↦ ap (λ (c : Content). c.kernel) (square_off i j h b)
        | inr b ↦
            let e : n + i ≡ j = omega arith in
            let P : ℕ → Type 0 = λ x. (square_in (in_stems m n table i) x).kernel ≡ (square_in (row_of table i) x).kernel in
            subst P e (ap (λ (c : Content). c.kernel) (square_edge i h) ∙ edge_kernel m table i (n + i) (square_in (row_of table i) (n + i)))
      ]

  square_counts : (i j : ℕ) → i ≤ s → j ≤ n + i → length (square_in (in_stems m n table i) j).images ≡ length (square_in (row_of table i) j).images
  square_counts i j h l =
      elim (cases_lt j (n + i)) [
        | inl b ↦ ap (λ (c : Content). length c.images) (square_off i j h b)
        | inr b ↦
            let e : n + i ≡ j = omega arith in
            let P : ℕ → Type 0 = λ x. length (square_in (in_stems m n table i) x).images ≡ length (square_in (row_of table i) x).images in
            subst P e (ap (λ (c : Content). length c.images) (square_edge i h) ∙ edge_counts m table i (n + i) (square_in (row_of table i) (n + i)))
      ]

  length-first : (i q : ℕ) → i ≤ s → q ≤ n + i + 1 → length (take q (in_stems m n table i)) ≡ q
  length-first i q h l = let len = length-in_stems i h in length-take-le q (in_stems m n table i) (omega arith)

  length-row : (i q : ℕ) → i ≤ s → q ≤ n + i + 1 → length (take q (row_of table i)) ≡ q
  length-row i q h l = let len = long i h in length-take-le q (row_of table i) (omega arith)

  -- and their generators are of the same degrees
  pub same_degrees : (i q : ℕ) → i ≤ s → q ≤ n + i + 1 → degrees_from m.bottom (take q (in_stems m n table i)) ≡ degrees_from m.bottom (take q (row_of table i))
  same_degrees i q h l =
      let a = length-first i q h l in
      let b = length-row i q h l in
      degrees_same m.bottom (take q (in_stems m n table i)) (take q (row_of table i)) (a ∙ sym b) (λ j c.
      let left : square_in (take q (in_stems m n table i)) j ≡ square_in (in_stems m n table i) j = get_or-take q (in_stems m n table i) j no_content (omega arith) in
      let right : square_in (take q (row_of table i)) j ≡ square_in (row_of table i) j = get_or-take q (row_of table i) j no_content (omega arith) in
      ap (λ (x : Content). length x.images) left ∙ (square_counts i j h (omega arith) ∙ sym (ap (λ (x : Content). length x.images) right)))

  pub reached : (i k : ℕ) → i ≤ s → IsReached m n table i k
  reached i k h =
      let len = length-in_stems i h in
      elim (cases_lt k (n + i + 1)) [
        | inl b ↦ record { q = suc k; few = omega arith; within = omega arith; reach = λ j c d. omega arith; same = refl }
        | inr b ↦ record {
          q = n + i + 1;
          few = omega arith;
          within = omega arith;
          reach = λ j c d. omega arith;
          same = take_all (suc k) (in_stems m n table i) (omega arith) ∙ sym (take_all (n + i + 1) (in_stems m n table i) (omega arith));
        }
      ]

  -- images in row 0 are as they are
  whole_images : (j : ℕ) → j ≤ n + 0 → (square_in (row_of table 0) j).images ≡ map (padded 0) (square_in (in_stems m n table 0) j).images
  whole_images j l =
      let squares : square_in (in_stems m n table 0) j ≡ square_in (row_of table 0) j = elim (cases_lt j (n + 0)) [
        | inl b ↦ square_off 0 j (omega arith) b
        | inr b ↦ let e : n + 0 ≡ j = omega arith in subst (λ (x : ℕ). square_in (in_stems m n table 0) x ≡ square_in (row_of table 0) x) e (square_edge 0 (omega arith))
      ] in
      sym (nothing_padded (square_in (in_stems m n table 0) j).images ∙ ap (λ (c : Content). c.images) squares)

  -- the free module on the row below, cut where the row in stems ends
  module _ (i k : ℕ) (h : suc i ≤ s) where
    under : IsReached m n table i k
    under = reached i k (omega arith)

    abbrev first : List ℤ
    first = degrees_from m.bottom (take under.q (row_of table i))

    abbrev later : List ℤ
    later = degrees_from (m.bottom +ℤ pos under.q) (drop under.q (row_of table i))

    target_first : target_in_stems m n table (suc i) k ≡ free_graded first
    target_first = ap (λ (z : List Content). free_graded (degrees_from m.bottom z)) under.same ∙ ap free_graded (same_degrees i under.q (omega arith) under.within)

    part_first : IsPart (target_in_stems m n table (suc i) k) (target_of m table (suc i)) (behind first later)
    part_first =
        let whole : free_graded (degrees_in m table i) ≡ free_graded (first ++ later) = ap free_graded (degrees_from-split m.bottom (row_of table i) under.q) in
        let P : GradedModule → Type 0 = λ x. IsPart x (target_of m table (suc i)) (behind first later) in
        let Q : GradedModule → Type 0 = λ y. IsPart (free_graded first) y (behind first later) in
        subst P (sym target_first) (subst Q (sym whole) (free-IsPart first later))

    none_first : (j : ℕ) → j ≤ k → j < n + suc i → behind first later (m.bottom +ℤ pos j) ≡ 0
    none_first j a b =
        let r = under.reach j a (omega arith) in
        ap length (free_basis_from-above (length first) (m.bottom +ℤ pos under.q) (drop under.q (row_of table i)) (m.bottom +ℤ pos j) (omega (arith, ints)))

    -- on the edge, images have zeros behind what is not cut
    images_edge : n + suc i ≤ k → (square_in (row_of table (suc i)) (n + suc i)).images ≡ map (padded (behind first later (m.bottom +ℤ pos (n + suc i)))) (square_in (in_stems m n table (suc i)) (n + suc i)).images
    images_edge a =
        let j = n + suc i in
        let u = m.bottom +ℤ pos j in
        let images = (square_in (row_of table (suc i)) j).images in
        let r = under.reach (n + i) (omega arith) (omega arith) in
        let l = under.within in
        let q : under.q ≡ j = omega arith in
        let cut : free_width first u ≡ first_new m table i j = ap (λ (x : ℕ). free_width (degrees_from m.bottom (take x (row_of table i))) u) q in
        let cut_width : (target_in_stems m n table (suc i) k).width u ≡ first_new m table i j = ap (λ (x : GradedModule). x.width u) target_first ∙ cut in
        let w = behind first later u in
        let wide : (target_of m table (suc i)).width u ≡ first_new m table i j + w = part_first.width u ∙ ap (λ (x : ℕ). x + w) cut_width in
        let widths : HaveWidth (first_new m table i j + w) images = subst (λ (x : ℕ). HaveWidth x images) wide (p.is_table.widths (suc i) j h (omega arith)) in
        padded_back (first_new m table i j) w images widths ((not_met m s (n + s) table p i j (omega arith) (omega arith)).images h)
        ∙ sym (ap (λ (c : Content). map (padded w) c.images) (square_edge (suc i) h))

    images_first : (j : ℕ) → j ≤ k → j ≤ n + suc i → (square_in (row_of table (suc i)) j).images ≡ map (padded (behind first later (m.bottom +ℤ pos j))) (square_in (in_stems m n table (suc i)) j).images
    images_first j a l =
        elim (cases_lt j (n + suc i)) [
          | inl b ↦
              let images = (square_in (in_stems m n table (suc i)) j).images in
              sym (ap (λ (x : ℕ). map (padded x) images) (none_first j a b) ∙ (nothing_padded images ∙ ap (λ (c : Content). c.images) (square_off (suc i) j h b)))
          | inr b ↦
              let e : n + suc i ≡ j = omega arith in
              let P : ℕ → Type 0 = λ x. (square_in (row_of table (suc i)) x).images ≡ map (padded (behind first later (m.bottom +ℤ pos x))) (square_in (in_stems m n table (suc i)) x).images in
              subst P e (images_edge (omega arith))
        ]

  pub part_at : (i k : ℕ) → i ≤ s → IsPartAt m n table i k
  part_at zero k h = record {
    w = λ t. 0;
    part = whole-IsPart m.graded;
    none = λ j a b. refl;
    images = λ j a l. whole_images j l;
  }
  part_at (suc i) k h = record {
    w = behind (first i k h) (later i k h);
    part = part_first i k h;
    none = none_first i k h;
    images = images_first i k h;
  }

  pub part_zero : (k : ℕ) (t : ℤ) (h : 0 ≤ s) → (part_at zero k h).w t ≡ 0
  unfolding part_at
  part_zero k t h = refl

  -- ---- images fit, and the matrices

  pub square_fits : (i j k : ℕ) → i ≤ s → j ≤ k → j ≤ n + i → HaveWidth ((target_in_stems m n table i k).width (m.bottom +ℤ pos j)) (square_in (in_stems m n table i) j).images
  square_fits i j k h a l =
      let u = m.bottom +ℤ pos j in
      let here = part_at i k h in
      let images = (square_in (in_stems m n table i) j).images in
      let wide : HaveWidth ((target_of m table i).width u) (map (padded (here.w u)) images) = subst (λ (z : List (List Bool)). HaveWidth ((target_of m table i).width u) z) (here.images j a l) (p.is_table.widths i j h (omega arith)) in
      HaveWidth-unpadded ((target_in_stems m n table i k).width u) (here.w u) images (subst (λ (x : ℕ). HaveWidth x (map (padded (here.w u)) images)) (here.part.width u) wide)

  pub images_fit : (i j k : ℕ) → i ≤ s → j ≤ suc k → AreImages (target_in_stems m n table i k) (degrees_in_stems m n table i j) (images_in_stems m n table i j)
  images_fit i j k h l =
      let whole = in_stems m n table i in
      let target = target_in_stems m n table i k in
      let len = length-in_stems i h in
      AreImages-row target m.bottom (take j whole) (λ g b.
      let few = length-take j whole in
      let same : square_in (take j whole) g ≡ square_in whole g = get_or-take j whole g no_content (omega arith) in
      subst (λ (c : Content). HaveWidth (target.width (m.bottom +ℤ pos g)) c.images) (sym same) (square_fits i g k h (omega arith) (omega arith)))

  -- the matrix on the first squares of a row is that on the row in stems, with zeros behind
  pub matrix_first : (i q k : ℕ) (t : ℤ) → (h : i ≤ s) → q ≤ suc k → q ≤ n + i + 1 → map_rows (target_of m table i) (degrees_from m.bottom (take q (row_of table i))) (images_of (take q (row_of table i))) t ≡ map (padded ((part_at i k h).w t)) (map_rows (target_in_stems m n table i k) (degrees_in_stems m n table i q) (images_in_stems m n table i q) t)
  matrix_first i q k t h l b =
      let here = part_at i k h in
      let xs = take q (in_stems m n table i) in
      let ys = take q (row_of table i) in
      let a = length-first i q h b in
      let c = length-row i q h b in
      let rows = row-images_of here.w m.bottom xs ys (a ∙ sym c) (λ j d.
      let left : square_in xs j ≡ square_in (in_stems m n table i) j = get_or-take q (in_stems m n table i) j no_content (omega arith) in
      let right : square_in ys j ≡ square_in (row_of table i) j = get_or-take q (row_of table i) j no_content (omega arith) in
      ap (λ (x : Content). x.images) right ∙ (here.images j (omega arith) (omega arith) ∙ ap (λ (x : Content). map (padded (here.w (m.bottom +ℤ pos j))) x.images) (sym left))) in
      ap (λ (ds : List ℤ). map_rows (target_of m table i) ds (images_of ys) t) (sym (same_degrees i q h b))
      ∙ map_rows-part (target_in_stems m n table i k) (target_of m table i) here.w (degrees_from m.bottom xs) (images_of xs) (images_of ys) t here.part (images_fit i q k h l) rows

  pub square_of_table : (i k : ℕ) → i ≤ s → k ≤ n + i → IsThatOfTable m n table i k
  square_of_table i k h l =
      let here = part_at i k h in
      let images = (square_in (in_stems m n table i) k).images in
      record {
        count = square_counts i k h l;
        coordinates = λ g j. sym (ap (λ (z : List (List Bool)). bit (row z g) j) (here.images k (omega arith) l) ∙ bit-row_padded (here.w (m.bottom +ℤ pos k)) images g j);
        kernel = square_kernel i k h l;
      }

-- ---- the laws

pub minimal_of : CanonicalTableIsMinimalResolution → (m : Module) (s t : ℕ) (table : List (List Content)) → IsCanonicalResolution m s t table → IsMinimalResolution m s t table
minimal_of minimal m s t table p = minimal m s t table p.steenrod p.bounded p.canonical

pub squares_of_table : CanonicalTableIsMinimalResolution → SquaresInStemsAreThoseOfTable
squares_of_table minimal m s n table p i k h l = square_of_table m s n table (minimal_of minimal m s (n + s) table p) i k h l

pub squares_fit : CanonicalTableIsMinimalResolution → SquaresInStemsFit
squares_fit minimal m s n table p i j k h l a = square_fits m s n table (minimal_of minimal m s (n + s) table p) i j k h a l

pub images_of_rows_fit : CanonicalTableIsMinimalResolution → ImagesInStemsFit
images_of_rows_fit minimal m s n table p i j k h l = images_fit m s n table (minimal_of minimal m s (n + s) table p) i j k h l
