-- What the canonical resolution has at a place may stand there.
use Rattle.std.proofs.Common.{◌≡◌, ℕ, zero, suc, ◌+◌, ◌-◌, ◌<◌, ◌≤◌, Bool, false, ℤ, pos, ◌+ℤ◌, List, [], ◌++◌, length, map, take, refl, ap, sym, subst, ◌∙◌, arith, inl, inr}
use Rattle.std.specs.List.{items_where_true}
use Rattle.std.proofs.lemmas.Bool.{cases_lt}
use Rattle.std.proofs.lemmas.Grind.{get_or_picked}
use Rattle.std.proofs.lemmas.List.{take_all, length-append, length-map, get_or-append-add}
use Rattle.bidegree.specs.declared.range.TheConstants.{MAX_S}
use Rattle.f2_vec.specs.Vectors.{bit, sum_of, zeros}
use Rattle.f2_vec.specs.Spans.{row, HaveWidth, combination, IsInKernel}
use Rattle.f2_vec.proofs.Sums.{length-zeros, bit-zeros, zeros_from_bits, sum_of-zeros_right}
use Rattle.f2_vec.proofs.Spans.{row-IsInSpan, combination-zeros, combination-append}
use Rattle.f2_vec.proofs.Split.{zeros-append, HaveWidth-left}
use Rattle.f2_vec.proofs.Combinations.{combination-padded_right}
use Rattle.f2_matrix.specs.Existence.{KernelBasisExists}
use Rattle.free_module.specs.FreeModule.{free_basis}
use Rattle.free_module.specs.Graded.{GradedModule, KeepsWidths, free_graded}
use Rattle.free_module.specs.LinearMap.{image_of, mapped}
use Rattle.free_module.proofs.MapRows.{HaveWidth-map_rows}
use Rattle.resolution_laws.specs.Resolution.{Module, Content, degrees_from, images_of, row_of, square_in, generator_count}
use Rattle.resolution_laws.specs.Exactness.{CanonicalTableIsMinimalResolution, target_of}
use Rattle.resolution_laws.proofs.Squares.{old_rows, image_widths, square_at}
use Rattle.stem_laws.specs.Stems.{first_new, in_stems, target_in_stems, degrees_in_stems, images_in_stems, differential_in_stems, ImagesInStemsFit, RowsInStemsAreWhole, SquaresInStemsAreSteps, SquaresInStemsAreThoseOfTable}
use Rattle.resolution_images.specs.BareRows.{BareRow, bare_row_in, squares_of}
use Rattle.chart_rows.specs.Standing.{target_below, boundary_below, whole_row, IsNextAt, AreIndependent, AreCycles, MayStand, AreCharted}
use Rattle.chart_rows.specs.Canonical.{bare_square, AreRowsOfResolution}
use Rattle.chart_rows.proofs.Widths.{width_at}
use Rattle.chart_rows.proofs.Stems.{IsKnown, resolved_of, put_back, count-bare_square, degrees_same_as, target_same, square_edge, first_whole, images_if_bare}

-- ---- images of new generators are independent

-- a relation between the images of a table's square is none
whole_independent : (m : Module) (s t : ℕ) (table : List (List Content)) → IsKnown m s t table → (i k : ℕ) → i ≤ s → k ≤ t → (c : List Bool) → IsInKernel ((target_of m table i).width (m.bottom +ℤ pos k)) (square_in (row_of table i) k).images c → c ≡ zeros (length c)
whole_independent m s t table a i k l b c p =
    let w = (target_of m table i).width (m.bottom +ℤ pos k) in
    let old = old_rows m table i k in
    let new = (square_in (row_of table i) k).images in
    let square = square_at m s t table (resolved_of m s t table a) i k l b in
    let wide = image_widths m s t table (resolved_of m s t table a) i k l b in
    let n = length old in
    let v = zeros n ++ c in
    let none : combination w v (old ++ new) ≡ zeros w =
    combination-append w (zeros n) c old new square.old_widths wide (length-zeros n)
    ∙ ap (λ (x : List Bool). sum_of x (combination w c new)) (combination-zeros w n old)
    ∙ ap (sum_of (zeros w)) p.vanishes ∙ sum_of-zeros_right w (zeros w) (length-zeros w) in
    let kernel : IsInKernel w (old ++ new) v = record {
      one_each = length-append (zeros n) c ∙ (let e = length-zeros n in let f = p.one_each in let g = length-append old new in omega arith);
      vanishes = none;
    } in
    let place : first_new m table i k ≡ n = sym (length-map (free_basis (degrees_from m.bottom (take k (row_of table i))) (m.bottom +ℤ pos k)) (image_of (target_of m table i) (degrees_from m.bottom (take k (row_of table i))) (images_of (take k (row_of table i))))) in
    let zero_from = (a.not_met m s t table a.resolution i k l b).kernel v (subst (λ (z : List (List Bool)). IsInKernel w z v) (sym square.rows) kernel) in
    zeros_from_bits (length c) c refl (λ j.
    let at : bit v (n + j) ≡ bit c j = ap (λ x. bit v (x + j)) (sym (length-zeros n)) ∙ get_or-append-add (zeros n) c j false in
    sym at ∙ zero_from (n + j) (omega (arith, place)))

-- nor is one between these without the coordinates that are zero
short_relation : (m : Module) (s t : ℕ) (table : List (List Content)) → IsKnown m s t table → (i k : ℕ) → i ≤ s → k ≤ t → (c : List Bool) → IsInKernel (bare_square m table i k).width (bare_square m table i k).images c → IsInKernel ((target_of m table i).width (m.bottom +ℤ pos k)) (square_in (row_of table i) k).images c
short_relation m s t table a zero k l b c p = p
short_relation m s t table a (suc i) k l b c p =
    let n = first_new m table i k in
    let w = generator_count table i k in
    let whole = (square_in (row_of table (suc i)) k).images in
    let short = (bare_square m table (suc i) k).images in
    let width : (target_of m table (suc i)).width (m.bottom +ℤ pos k) ≡ n + w = width_at m.bottom (row_of table i) k in
    let wide : HaveWidth (n + w) whole = subst (λ (x : ℕ). HaveWidth x whole) width (image_widths m s t table (resolved_of m s t table a) (suc i) k l b) in
    let back = put_back m s t table a i k l b in
    let none : combination (n + w) c (map (λ v. v ++ zeros w) short) ≡ zeros (n + w) =
    combination-padded_right n w c short (HaveWidth-left n w whole wide) ∙ ap (λ (x : List Bool). x ++ zeros w) p.vanishes ∙ sym (zeros-append n w) in
    subst (λ (x : ℕ). IsInKernel x whole c) (sym width) (subst (λ (z : List (List Bool)). IsInKernel (n + w) z c) back (record {
      one_each = p.one_each ∙ sym (length-map short (λ v. v ++ zeros w));
      vanishes = none;
    }))

pub independent : (m : Module) (s t : ℕ) (table : List (List Content)) → IsKnown m s t table → (i k : ℕ) → i ≤ s → k ≤ t → AreIndependent (bare_square m table i k)
independent m s t table a i k l b c p = whole_independent m s t table a i k l b c (short_relation m s t table a i k l b c p) ∙ ap zeros p.one_each

-- ---- they are cycles

-- what is known of the resolution in stems
pub record AreLaws : Type 0 where
  pub minimal : CanonicalTableIsMinimalResolution
  pub whole : RowsInStemsAreWhole
  pub those : SquaresInStemsAreThoseOfTable
  pub fit : ImagesInStemsFit
  pub steps : SquaresInStemsAreSteps
  pub basis : KernelBasisExists

keeps_in_stems : (m : Module) (s n : ℕ) (table : List (List Content)) → IsKnown m s (n + s) table → (i k : ℕ) → KeepsWidths (target_in_stems m n table i k)
keeps_in_stems m s n table a zero k = a.resolution.steenrod.widths
keeps_in_stems m s n table a (suc i) k = (a.free (degrees_from m.bottom (take (suc k) (in_stems m n table i)))).widths

module _ (laws : AreLaws) (m : Module) (i n : ℕ) (table : List (List Content)) (a : IsKnown m (suc i) (n + suc i) table) where
  -- d_i in stems takes the images of the square on the edge to zero
  taken : (h : ℕ) → h < length (bare_square m table (suc i) (n + suc i)).images → combination ((target_in_stems m n table i (n + suc i)).width (m.bottom +ℤ pos (n + suc i))) (row (bare_square m table (suc i) (n + suc i)).images h) (differential_in_stems m n table i (suc (n + suc i)) (n + suc i)) ≡ zeros ((target_in_stems m n table i (n + suc i)).width (m.bottom +ℤ pos (n + suc i)))
  taken h l =
      let k = n + suc i in
      let target = target_in_stems m n table i k in
      let d = differential_in_stems m n table i (suc k) k in
      let u = m.bottom +ℤ pos k in
      let are = laws.fit m (suc i) n table a.resolution i (suc k) k (omega arith) (omega arith) in
      let wide : HaveWidth (target.width u) d = HaveWidth-map_rows target (degrees_in_stems m n table i (suc k)) (images_in_stems m n table i (suc k)) u (keeps_in_stems m (suc i) n table a i k) are in
      let below = laws.basis (target.width u) d wide in
      let edge = square_in (in_stems m n table (suc i)) k in
      let step = (laws.steps m (suc i) n table a.resolution (suc i) k (omega arith) (omega arith) below.0 below.1 edge).1 refl in
      let chosen = step.chosen in
      let size = a.resolution.canonical.squares (suc i) (omega arith) in
      let short : edge.images ≡ (bare_square m table (suc i) k).images = ap (λ (c : Content). c.images) (square_edge m n table (suc i) (omega arith)) in
      let are_picked : (bare_square m table (suc i) k).images ≡ items_where_true chosen.kept below.0 = sym short ∙ chosen.chosen_are in
      let v : h < length (items_where_true chosen.kept below.0) = omega (arith, ap length are_picked) in
      let picked = (get_or_picked chosen.kept below.0 h [] v).1 in
      let same : row (bare_square m table (suc i) k).images h ≡ row below.0 picked.0 = ap (λ (z : List (List Bool)). row z h) are_picked ∙ picked.2 in
      let inside : IsInKernel (target.width u) d (row (bare_square m table (suc i) k).images h) =
      subst (IsInKernel (target.width u) d) (sym same) ((below.1.spans_kernel (row below.0 picked.0)).1 (row-IsInSpan (length d) below.0 picked.0 below.1.widths picked.1)) in
      inside.vanishes

  module _ (rows : List BareRow) (h : AreCharted m rows) (same : AreRowsOfResolution m rows) (low : i < MAX_S) (reach : n + suc i ≤ length (bare_row_in rows i).counts) where
    -- the row below the row below ends one square before it at most
    below : (x : ℕ) → suc x ≡ i → n + i ≤ length (bare_row_in rows x).counts
    below x e =
        let at : x + 1 ≡ i = omega arith in
        let step = subst (λ z. length (bare_row_in rows z).counts ≤ length (bare_row_in rows x).counts + 1) at (h.steps x (omega arith)) in
        omega (arith, reach)

    first_degrees : (x q : ℕ) → x ≤ i → q ≡ n + x + 1 → q ≤ length (bare_row_in rows x).counts → degrees_from m.bottom (take (suc (n + suc i)) (in_stems m n table x)) ≡ degrees_from m.bottom (take q (row_of (squares_of rows) x))
    first_degrees x q l e there =
        let xs = in_stems m n table x in
        let size : length xs ≡ n + x + 1 = laws.whole m (suc i) n table a.resolution.canonical x (omega arith) in
        let all : take (suc (n + suc i)) xs ≡ xs = take_all (suc (n + suc i)) xs (omega arith) in
        ap (degrees_from m.bottom) all ∙ degrees_same_as m rows (suc i) (n + suc i) table a same xs x q (omega arith) (omega arith) there (omega arith)
        (λ j c. (laws.those m (suc i) n table a.resolution x j (omega arith) (omega arith)).count)

    target_is : target_in_stems m n table i (n + suc i) ≡ target_below m (squares_of rows) i (n + suc i - 1)
    target_is = by_row i refl
      where
        by_row : (x : ℕ) → x ≡ i → target_in_stems m n table x (n + suc i) ≡ target_below m (squares_of rows) x (n + suc i - 1)
        by_row zero e = refl
        by_row (suc x) e = ap free_graded (first_degrees x (n + suc i - 1) (omega arith) (omega arith) (omega (arith, below x e)))

    images_are : images_in_stems m n table i (suc (n + suc i)) ≡ images_of (whole_row (squares_of rows) i (n + suc i - 1) (n + suc i))
    images_are =
        let xs = in_stems m n table i in
        let size : length xs ≡ n + i + 1 = laws.whole m (suc i) n table a.resolution.canonical i (omega arith) in
        let all : take (suc (n + suc i)) xs ≡ xs = take_all (suc (n + suc i)) xs (omega arith) in
        let most : take (n + suc i) xs ≡ xs = take_all (n + suc i) xs (omega arith) in
        let cut : n + i ≡ n + suc i - 1 = omega arith in
        let same_squares = first_whole m rows (suc i) n table a same laws.whole i (n + suc i) (omega arith) (omega arith) reach (λ x j e l b. omega (arith, below x e)) in
        ap images_of (all ∙ sym most)
        ∙ sym (images_if_bare (whole_row (squares_of rows) i (n + i) (n + suc i)) (take (n + suc i) xs) same_squares)
        ∙ ap (λ z. images_of (whole_row (squares_of rows) i z (n + suc i))) cut

    pub cycles_on_edge : AreCycles m (squares_of rows) (suc i) (n + suc i) (bare_square m table (suc i) (n + suc i)).images
    cycles_on_edge g l p =
        let k = n + suc i in
        let v = row (bare_square m table (suc i) k).images g in
        let u = m.bottom +ℤ pos k in
        let degrees_are = first_degrees i k (omega arith) (omega arith) reach in
        let there : mapped (target_in_stems m n table i k) (degrees_in_stems m n table i (suc k)) (images_in_stems m n table i (suc k)) u v ≡ boundary_below m (squares_of rows) i k v =
        ap (λ (x : GradedModule). mapped x (degrees_in_stems m n table i (suc k)) (images_in_stems m n table i (suc k)) u v) target_is
        ∙ ap (λ (ds : List ℤ). mapped (target_below m (squares_of rows) i (k - 1)) ds (images_in_stems m n table i (suc k)) u v) degrees_are
        ∙ ap (λ (xs : List (List Bool)). mapped (target_below m (squares_of rows) i (k - 1)) (degrees_from m.bottom (take k (row_of (squares_of rows) i))) xs u v) images_are in
        ap (λ (x : List Bool). bit x p) (sym there ∙ taken g l) ∙ bit-zeros ((target_in_stems m n table i k).width u) p

pub cycles : AreLaws → (m : Module) (s k : ℕ) (table : List (List Content)) → IsKnown m s k table → (rows : List BareRow) → AreCharted m rows → AreRowsOfResolution m rows → s ≤ MAX_S → IsNextAt rows s k → AreCycles m (squares_of rows) s k (bare_square m table s k).images
cycles laws m zero k table a rows h same low next = tt
cycles laws m (suc i) k table a rows h same low next = elim (cases_lt k (suc i)) [
  | inl late ↦ λ g l.
      let none = (laws.minimal m (suc i) k table a.resolution.steenrod a.resolution.bounded a.resolution.canonical).late (suc i) k (omega arith) late in
      absurd (omega (arith, ap length none, count-bare_square m table (suc i) k))
  | inr there ↦
      let n = k - suc i in
      let e : n + suc i ≡ k = omega arith in
      let reach = next.1 i refl in
      subst (λ z. AreCycles m (squares_of rows) (suc i) z (bare_square m table (suc i) z).images) e
      (cycles_on_edge laws m i n table (subst (λ z. IsKnown m (suc i) z table) (sym e) a) rows h same (omega arith) (omega arith))
]

-- ---- so they may stand

pub may_stand : AreLaws → (m : Module) (s k : ℕ) (table : List (List Content)) → IsKnown m s k table → (rows : List BareRow) → AreCharted m rows → AreRowsOfResolution m rows → s ≤ MAX_S → IsNextAt rows s k → MayStand m rows s k (bare_square m table s k)
may_stand laws m s k table a rows h same low next = record {
  next = next;
  width = ap (λ (x : GradedModule). x.width (m.bottom +ℤ pos k)) (target_same m rows s k table a same s k (omega arith) (omega arith) next.1);
  independent = independent m s k table a s k (omega arith) (omega arith);
  cycles = cycles laws m s k table a rows h same low next;
}
