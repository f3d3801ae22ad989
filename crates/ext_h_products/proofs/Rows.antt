-- What is read off images is what is read off the table whose images they are.
use Rattle.std.proofs.Common.{◌≡◌, ℕ, zero, suc, ◌+◌, ◌<◌, ◌≤◌, inl, inr, ℤ, pos, ◌+ℤ◌, Bool, List, [], ◌∷◌, ◌++◌, length, map, take, drop, replicate, refl, ap, sym, subst, ◌∙◌, arith}
use Rattle.std.specs.List.{range_with_len}
use Rattle.std.proofs.lemmas.List.{length-map, take_all, take-append-le}
use Rattle.f2_vec.specs.Vectors.{bit}
use Rattle.f2_vec.specs.Spans.{row}
use Rattle.free_module.specs.FreeModule.{free_width}
use Rattle.resolution_laws.specs.Resolution.{Content, square_in, degrees_from, images_of, row_of}
use Rattle.resolution_laws.proofs.Rows.{degrees_from-split}
use Rattle.resolution_laws.proofs.Generators.{length-images_of}
use Rattle.stem_laws.specs.Stems.{in_stems, IsCanonicalResolution, IsThatOfTable, RowsInStemsAreWhole, SquaresInStemsAreThoseOfTable}
use Rattle.square.specs.Squares.{over}
use Rattle.lift_laws.specs.Lifts.{Resolution, degree, gens, image}
use Rattle.lift_laws.specs.Products.{Class, first_of, count_of, number_of, on_square}
use Rattle.bracket_laws.proofs.Vectors.{on_square-same}
use Rattle.chain_map.proofs.Generators.{is_number}
use Rattle.h_laws.specs.Products.{first_on}
use Rattle.resolution_images.specs.BareRows.{BareTable, bare_row_in, squares_of, AreOfCanonical, AreOfStems, AreOfRange}
use Rattle.resolution_images.proofs.Contents.{bare, row_bare, row_of-squares, contents_bare}
use Rattle.bidegree.specs.LastDegrees.{last_degree}
use Rattle.bidegree.specs.declared.range.Range.{Range}
use Rattle.bidegree.specs.declared.shape.Shape.{Shape}
use Rattle.bidegree.specs.declared.shape.Shape.TheVariants.{Rectangle, Stems}
use Rattle.ext_chart.proofs.Bare.{images-bare}

-- a row ends at most a degree past the row below it
pub last-next : (range : Range) (shape : Shape) (s : ℕ) → last_degree shape range (s + 1) ≤ last_degree shape range s + 1
last-next range Rectangle s = omega arith
last-next range Stems s = omega arith

-- ---- squares that are the first of others

-- They have the numbers of generators of the others, and images with the same coordinates: those past the end of an image are 0.
pub record AreFirstOf (squares others : List Content) : Type 0 where
  pub long : length squares ≤ length others
  pub count : (k : ℕ) → k < length squares → length (square_in squares k).images ≡ length (square_in others k).images
  pub coordinates : (k h j : ℕ) → k < length squares → bit (row (square_in squares k).images h) j ≡ bit (row (square_in others k).images h) j

degrees_first : (b : ℤ) (xs ys : List Content) (k : ℕ) → k ≤ length xs → k ≤ length ys → ((j : ℕ) → j < k → length (square_in xs j).images ≡ length (square_in ys j).images) → degrees_from b (take k xs) ≡ degrees_from b (take k ys)
degrees_first b xs ys zero l m h = refl
degrees_first b [] ys (suc k) l m h = absurd (omega arith)
degrees_first b (x ∷ xs) [] (suc k) l m h = absurd (omega arith)
degrees_first b (x ∷ xs) (y ∷ ys) (suc k) l m h =
    let here : length x.images ≡ length y.images = h 0 (omega arith) in
    ap (λ (n : ℕ). replicate n b ++ degrees_from (b +ℤ pos 1) (take k xs)) here
    ∙ ap (λ (z : List ℤ). replicate (length y.images) b ++ z) (degrees_first (b +ℤ pos 1) xs ys k (omega arith) (omega arith) (λ j n. h (suc j) (omega arith)))

module _ (b : ℤ) (xs ys : List Content) (are : AreFirstOf xs ys) where
  first_degrees : (k : ℕ) → k ≤ length xs → degrees_from b (take k xs) ≡ degrees_from b (take k ys)
  first_degrees k l = degrees_first b xs ys k l (let long = are.long in omega arith) (λ j n. are.count j (omega arith))

  first_number : (k : ℕ) → k ≤ length xs → length (images_of (take k xs)) ≡ length (images_of (take k ys))
  first_number k l = length-images_of b (take k xs) ∙ (ap length (first_degrees k l) ∙ sym (length-images_of b (take k ys)))

  -- the first of their generators
  first_gens : (g : ℕ) → g ≤ length (degrees_from b xs) → take g (degrees_from b xs) ≡ take g (degrees_from b ys)
  first_gens g l =
      let n = length xs in
      let front = degrees_from b (take n ys) in
      let same : degrees_from b xs ≡ front = ap (degrees_from b) (sym (take_all n xs (omega arith))) ∙ first_degrees n (omega arith) in
      ap (take g) same
      ∙ sym (ap (take g) (degrees_from-split b ys n) ∙ take-append-le g front (degrees_from (b +ℤ pos n) (drop n ys)) (omega (arith, ap length same)))

-- ---- two tables of one module, of which one has the first squares of each row of the other

module _ (b r : Resolution) (bottom : b.base.bottom ≡ r.base.bottom) (s : ℕ) (first : (i : ℕ) → i ≤ s → AreFirstOf (row_of b.table i) (row_of r.table i)) where
  pub same_count : (i k : ℕ) → i ≤ s → k < length (row_of b.table i) → count_of b i k ≡ count_of r i k
  same_count i k l m = (first i l).count k m

  same_first : (i k : ℕ) → i ≤ s → k < length (row_of b.table i) → first_of b i k ≡ first_of r i k
  same_first i k l m = first_number b.base.bottom (row_of b.table i) (row_of r.table i) (first i l) k (omega arith)

  same_gens : (i g : ℕ) → i ≤ s → g ≤ length (gens b i) → take g (gens b i) ≡ take g (gens r i)
  same_gens i g l m =
      first_gens b.base.bottom (row_of b.table i) (row_of r.table i) (first i l) g m
      ∙ ap (λ (z : ℤ). take g (degrees_from z (row_of r.table i))) bottom

  -- the coefficient, in the image of number h of the square (i + 1, n), of the first operation on generator g
  same_first_on : (i g n h : ℕ) → suc i ≤ s → g ≤ length (gens b i) → n < length (row_of b.table (suc i)) → h < count_of b (suc i) n →
      first_on b i g (first_of b (suc i) n + h) ≡ first_on r i g (first_of r (suc i) n + h)
  same_first_on i g n h l m there number =
      let up = first (suc i) l in
      let long = up.long in
      let of_b = is_number b (suc i) n h there number in
      let of_r = is_number r (suc i) n h (omega arith) (omega (arith, up.count n there)) in
      let degrees : degree b (suc i) (first_of b (suc i) n + h) ≡ degree r (suc i) (first_of r (suc i) n + h) = of_b.degree_is ∙ (ap (λ (z : ℤ). z +ℤ pos n) bottom ∙ sym of_r.degree_is) in
      let place : ℕ = free_width (take g (gens r i)) (degree r (suc i) (first_of r (suc i) n + h)) in
      ap (λ (ds : List ℤ). bit (image b (suc i) (first_of b (suc i) n + h)) (free_width ds (degree b (suc i) (first_of b (suc i) n + h)))) (same_gens i g (omega arith) m)
      ∙ (ap (λ (t : ℤ). bit (image b (suc i) (first_of b (suc i) n + h)) (free_width (take g (gens r i)) t)) degrees
      ∙ (ap (λ (v : List Bool). bit v place) of_b.image_is
      ∙ (up.coordinates n h place there ∙ ap (λ (v : List Bool). bit v place) (sym of_r.image_is))))

  -- what is read off for a class
  pub same_read_off : (x : Class) (n : ℕ) → x.s + 1 ≤ s → x.above < length (row_of b.table x.s) → x.i < count_of b x.s x.above → n < length (row_of b.table (x.s + 1)) →
      on_square b (x.s + 1) n (first_on b x.s (number_of b x)) ≡ on_square r (x.s + 1) n (first_on r x.s (number_of r x))
  same_read_off x n l within number there =
      let up : x.s + 1 ≡ suc x.s = omega arith in
      let there_up : n < length (row_of b.table (suc x.s)) = subst (λ (i : ℕ). n < length (row_of b.table i)) up there in
      let of_x = (is_number b x.s x.above x.i within number).there in
      let numbers : number_of b x ≡ number_of r x = ap (λ (f : ℕ). f + x.i) (same_first x.s x.above (omega arith) within) in
      let P : ℕ → Type 0 = λ i. on_square b i n (first_on b x.s (number_of b x)) ≡ on_square r i n (first_on r x.s (number_of r x)) in
      let firsts = same_first (suc x.s) n (omega arith) there_up in
      subst P (sym up)
      (on_square-same b (suc x.s) n (first_on b x.s (number_of b x)) (first_on r x.s (number_of r x)) (λ h k.
      same_first_on x.s (number_of b x) n h (omega arith) (omega arith) there_up k
      ∙ (ap (λ (g : ℕ). first_on r x.s g (first_of r (suc x.s) n + h)) numbers
      ∙ ap (λ (f : ℕ). first_on r x.s (number_of r x) (f + h)) (sym firsts)))
      ∙ (ap (λ (f : ℕ). map (λ j. first_on r x.s (number_of r x) (f + j)) (range_with_len 0 (count_of b (suc x.s) n))) firsts
      ∙ ap (λ (c : ℕ). map (λ j. first_on r x.s (number_of r x) (first_of r (suc x.s) n + j)) (range_with_len 0 c)) (same_count (suc x.s) n (omega arith) there_up)))

-- ---- the rows of images

-- squares without their kernels
bare_first : (squares others : List Content) → AreFirstOf squares others → AreFirstOf (map bare squares) others
bare_first squares others are =
    let same : length (map bare squares) ≡ length squares = length-map squares bare in
    let long = are.long in
    record {
      long = omega arith;
      count = λ k l. ap length (images-bare squares k) ∙ are.count k (omega arith);
      coordinates = λ k h j l. ap (λ (images : List (List Bool)). bit (row images h) j) (images-bare squares k) ∙ are.coordinates k h j (omega arith);
    }

all_first : (squares : List Content) → AreFirstOf squares squares
all_first squares = record { long = omega arith; count = λ k l. refl; coordinates = λ k h j l. refl }

-- those of a range are the first of the canonical resolution, whether they are whole or in stems
pub rows_first : RowsInStemsAreWhole → SquaresInStemsAreThoseOfTable → (images : BareTable) (range : Range) (table : List (List Content)) → IsCanonicalResolution (over images.resolved) range.s range.t table → AreOfRange (over images.resolved) range.s range.t images.rows →
    (i : ℕ) → i ≤ range.s → AreFirstOf (row_of (squares_of images.rows) i) (row_of table i)
rows_first whole those images range table p are i l = elim are [
  | inl all ↦
      subst (λ (squares : List Content). AreFirstOf squares (row_of table i)) (sym (row_bare (over images.resolved) range.s range.t images.rows table p.canonical all i l))
      (bare_first (row_of table i) (row_of table i) (all_first (row_of table i)))
  | inr stems ↦
      let m = over images.resolved in
      let n = stems.0 in
      let of : AreOfStems m range.s n images.rows = stems.2 in
      let there : IsCanonicalResolution m range.s (n + range.s) table = subst (λ (t : ℕ). IsCanonicalResolution m range.s t table) (sym stems.1) p in
      let squares = in_stems m n table i in
      let row : row_of (squares_of images.rows) i ≡ map bare squares = row_of-squares images.rows i ∙ contents_bare m.bottom squares (bare_row_in images.rows i) (of.each table there.canonical i l) in
      let long : length squares ≡ n + i + 1 = whole m range.s n table there.canonical i l in
      let that : (k : ℕ) → k < length squares → IsThatOfTable m n table i k = λ k b. those m range.s n table there i k l (omega arith) in
      subst (λ (xs : List Content). AreFirstOf xs (row_of table i)) (sym row)
      (bare_first squares (row_of table i) (record {
        long = omega (arith, there.canonical.squares i l);
        count = λ k b. (that k b).count;
        coordinates = λ k h j b. (that k b).coordinates h j;
      }))
]
