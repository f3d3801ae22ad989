-- The squares of rows that are kept without kernels.
use Rattle.std.proofs.Common.{◌≡◌, ℕ, zero, suc, ◌+◌, ◌<◌, ◌≤◌, ℤ, pos, ◌+ℤ◌, Bool, List, [], ◌∷◌, ◌++◌, length, map, take, drop, replicate, get_or, refl, ap, sym, subst, ◌∙◌, arith, inl, inr}
use Rattle.std.proofs.lemmas.Bool.{cases_lt}
use Rattle.std.proofs.lemmas.List.{take_at, drop_at, drop_more, at_drop_more, get_or-map, get_or_past, take_all, length-map}
use Rattle.f2_vec.specs.Spans.{HaveWidth}
use Rattle.free_module.specs.Graded.{FreeModulesAreModules, free_graded}
use Rattle.free_module.specs.LinearMap.{MapsCommute}
use Rattle.resolution_laws.specs.Resolution.{Module, Content, no_content, square_in, row_of, degrees_from, images_of, IsCanonicalTable}
use Rattle.resolution_laws.specs.Exactness.{target_of}
use Rattle.resolution_laws.proofs.Squares.{image_widths}
use Rattle.resolution_images.specs.BareRows.{BareRow, no_bare_row, bare_row_in, cut, contents_of, squares_of, IsBareRowOf, AreOfCanonical, AreOfStems}
use Rattle.stem_laws.specs.Stems.{in_stems, target_in_stems, RowsInStemsAreWhole, SquaresInStemsFit}
use Rattle.resolution_images.specs.Inside.Bare.{target_over_rows, AreBareOf}
use Rattle.resolution_images.proofs.Standing.{IsResolvable}

-- ---- one row

pub length-cut : (counts : List ℕ) (images : List (List Bool)) → length (cut counts images) ≡ length counts
length-cut [] images = refl
length-cut (n ∷ counts) images = ap suc (length-cut counts (drop n images))

-- one square less
pub cut_more : (counts : List ℕ) (i : ℕ) (rest : List (List Bool)) (whole : List Content) → i < length counts → cut (drop i counts) rest ≡ drop i whole → length whole ≡ length counts → (cut (drop (i + 1) counts) (drop (get_or counts i 0) rest) ≡ drop (i + 1) whole) × (take (get_or counts i 0) rest ≡ (square_in whole i).images)
cut_more counts i rest whole l e len =
    let here = at_drop_more (λ ns. cut ns rest) counts i 0 l in
    let there : drop i whole ≡ square_in whole i ∷ drop (i + 1) whole = drop_more whole i no_content (omega arith) in
    let same : record { images = take (get_or counts i 0) rest; kernel = [] } ∷ cut (drop (i + 1) counts) (drop (get_or counts i 0) rest) ≡ square_in whole i ∷ drop (i + 1) whole = sym here ∙ e ∙ there in
    (ap (λ (z : List Content). drop 1 z) same, ap (λ (z : List Content). (square_in z 0).images) same)

-- the squares without their kernels
abbrev pub bare : Content → Content
bare c = record { images = c.images; kernel = [] }

cut_of : (squares : List Content) → cut (map (λ c. length c.images) squares) (images_of squares) ≡ map bare squares
cut_of [] = refl
cut_of (c ∷ squares) =
    let first : take (length c.images) (c.images ++ images_of squares) ≡ c.images = take_at c.images (images_of squares) (length c.images) refl in
    let rest : drop (length c.images) (c.images ++ images_of squares) ≡ images_of squares = drop_at c.images (images_of squares) (length c.images) refl in
    let counts = map (λ (x : Content). length x.images) squares in
    ap (λ (z : List (List Bool)). let d : Content = record { images = z; kernel = [] } in d ∷ cut counts (drop (length c.images) (c.images ++ images_of squares))) first
    ∙ ap (λ (z : List (List Bool)). bare c ∷ cut counts z) rest
    ∙ ap (λ (z : List Content). bare c ∷ z) (cut_of squares)

pub contents_bare : (b : ℤ) (squares : List Content) (line : BareRow) → IsBareRowOf b squares line → contents_of line ≡ map bare squares
contents_bare b squares line h = ap (λ (ns : List ℕ). cut ns line.images) h.counts ∙ ap (cut (map (λ c. length c.images) squares)) h.images ∙ cut_of squares

pub degrees_bare : (b : ℤ) (squares : List Content) → degrees_from b (map bare squares) ≡ degrees_from b squares
degrees_bare b [] = refl
degrees_bare b (c ∷ squares) = ap (λ (ds : List ℤ). replicate (length c.images) b ++ ds) (degrees_bare (b +ℤ pos 1) squares)

-- ---- all rows

pub row_of-squares : (lines : List BareRow) (s : ℕ) → row_of (squares_of lines) s ≡ contents_of (bare_row_in lines s)
row_of-squares lines s =
    elim (cases_lt s (length lines)) [
      | inl l ↦ get_or-map contents_of lines s no_bare_row [] l
      | inr l ↦ get_or_past (squares_of lines) s [] (omega (arith, length-map lines contents_of)) ∙ sym (ap contents_of (get_or_past lines s no_bare_row l))
    ]

pub length-row : (lines : List BareRow) (s : ℕ) → length (row_of (squares_of lines) s) ≡ length (bare_row_in lines s).counts
length-row lines s = ap length (row_of-squares lines s) ∙ length-cut (bare_row_in lines s).counts (bare_row_in lines s).images

module _ (m : Module) (s t : ℕ) (lines : List BareRow) (squares : ℕ → List Content) (h : AreBareOf m s t lines squares) where
  pub bare_row : (i : ℕ) → i ≤ s → row_of (squares_of lines) i ≡ map bare (squares i)
  bare_row i l = row_of-squares lines i ∙ contents_bare m.bottom (squares i) (bare_row_in lines i) (h.each i l)

  -- a row with squares is a row of the range, and its squares are of degrees of the range
  pub row_within : (i k : ℕ) → k < length (row_of (squares_of lines) i) → (i ≤ s) × (k < length (squares i)) × (k ≤ t)
  row_within i k l =
      elim (cases_lt s i) [
        | inl past ↦ absurd (let none = ap (λ (x : BareRow). length x.counts) (get_or_past lines i no_bare_row (omega (arith, h.rows))) in omega (arith, length-row lines i))
        | inr b ↦
            let in_row : k < length (squares i) = omega (arith, ap length (bare_row i b), length-map (squares i) bare) in
            (b, in_row, (let c : k ≤ t = omega (arith, h.short i b) in c))
      ]

  pub row_short : (i : ℕ) → length (row_of (squares_of lines) i) ≤ t + 1
  row_short i =
      elim (cases_lt s i) [
        | inl past ↦ let none = ap (λ (x : BareRow). length x.counts) (get_or_past lines i no_bare_row (omega (arith, h.rows))) in omega (arith, length-row lines i)
        | inr b ↦ omega (arith, ap length (bare_row i b), length-map (squares i) bare, h.short i b)
      ]

  target_same : (i : ℕ) → i ≤ s → target_of m (squares_of lines) i ≡ target_over_rows m squares i
  target_same zero l = refl
  target_same (suc i) l = ap (λ (x : List Content). free_graded (degrees_from m.bottom x)) (bare_row i (omega arith)) ∙ ap free_graded (degrees_bare m.bottom (squares i))

  -- the images of a square are vectors of the target
  pub square_widths : (i k : ℕ) → k < length (row_of (squares_of lines) i) → HaveWidth ((target_of m (squares_of lines) i).width (m.bottom +ℤ pos k)) (square_in (row_of (squares_of lines) i) k).images
  square_widths i k l =
      let w = row_within i k l in
      let r = h.fit i k w.0 w.1 in
      let images : (square_in (row_of (squares_of lines) i) k).images ≡ (square_in (squares i) k).images =
      ap (λ (x : List Content). (square_in x k).images) (bare_row i w.0) ∙ ap (λ (x : Content). x.images) (get_or-map bare (squares i) k no_content no_content w.1) in
      subst (λ (x : List (List Bool)). HaveWidth ((target_of m (squares_of lines) i).width (m.bottom +ℤ pos k)) x) (sym images) (subst (λ g. HaveWidth (g.width (m.bottom +ℤ pos k)) (square_in (squares i) k).images) (sym (target_same i w.0)) r)

-- ---- the rows of a rectangle, and those in stems

pub row_bare : (m : Module) (s t : ℕ) (lines : List BareRow) (table : List (List Content)) → IsCanonicalTable m s t table → AreOfCanonical m s t lines → (i : ℕ) → i ≤ s → row_of (squares_of lines) i ≡ map bare (row_of table i)
row_bare m s t lines table canonical h i l = row_of-squares lines i ∙ contents_bare m.bottom (row_of table i) (bare_row_in lines i) (h.each table canonical i l)

pub canonical_are_bare : FreeModulesAreModules → MapsCommute → (m : Module) (s t : ℕ) (lines : List BareRow) (table : List (List Content)) → IsResolvable m → IsCanonicalTable m s t table → AreOfCanonical m s t lines → AreBareOf m s t lines (row_of table)
canonical_are_bare free commute m s t lines table r canonical h = record {
  rows = h.rows;
  each = λ i l. h.each table canonical i l;
  short = λ i l. omega (arith, canonical.squares i l);
  fit = λ i k l b. target_there i k (square_in (row_of table i) k).images (image_widths m s t table (record { free = free; commute = commute; steenrod = r.steenrod; bounded = r.bounded; canonical = canonical }) i k l (omega (arith, canonical.squares i l)));
}
  where
    target_there : (i k : ℕ) (images : List (List Bool)) → HaveWidth ((target_of m table i).width (m.bottom +ℤ pos k)) images → HaveWidth ((target_over_rows m (row_of table) i).width (m.bottom +ℤ pos k)) images
    target_there zero k images w = w
    target_there (suc i) k images w = w

pub stems_are_bare : RowsInStemsAreWhole → SquaresInStemsFit → (m : Module) (s n : ℕ) (lines : List BareRow) (table : List (List Content)) → IsResolvable m → IsCanonicalTable m s (n + s) table → AreOfStems m s n lines → AreBareOf m s (n + s) lines (in_stems m n table)
stems_are_bare whole fit m s n lines table r canonical h = record {
  rows = h.rows;
  each = λ i l. h.each table canonical i l;
  short = λ i l. omega (arith, whole m s n table canonical i l);
  fit = λ i k l b.
      let long = whole m s n table canonical i l in
      target_there i k l (square_in (in_stems m n table i) k).images (fit m s n table (record { steenrod = r.steenrod; bounded = r.bounded; canonical = canonical }) i k (n + i) l (omega (arith, long)) (omega (arith, long)));
}
  where
    target_there : (i k : ℕ) → i ≤ s → (images : List (List Bool)) → HaveWidth ((target_in_stems m n table i (n + i)).width (m.bottom +ℤ pos k)) images → HaveWidth ((target_over_rows m (in_stems m n table) i).width (m.bottom +ℤ pos k)) images
    target_there zero k l images w = w
    target_there (suc i) k l images w =
        let below = in_stems m n table i in
        let all : take (suc (n + suc i)) below ≡ below = take_all (suc (n + suc i)) below (omega (arith, whole m s n table canonical i (omega arith))) in
        subst (λ (x : List Content). HaveWidth ((free_graded (degrees_from m.bottom x)).width (m.bottom +ℤ pos k)) images) all w

-- a row past the last one has no square
pub row_past : (lines : List BareRow) (s : ℕ) → length lines ≤ s → length (row_of (squares_of lines) s) ≡ 0
row_past lines s l = length-row lines s ∙ ap (λ (x : BareRow). length x.counts) (get_or_past lines s no_bare_row l)

pub row_there : (lines : List BareRow) (s k : ℕ) → k < length (row_of (squares_of lines) s) → s < length lines
row_there lines s k l = elim (cases_lt s (length lines)) [ inl b ↦ b | inr b ↦ absurd (let none = row_past lines s b in omega arith) ]
