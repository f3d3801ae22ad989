-- The generators of a row by squares: number i of a square is that many behind the row's generators before it.
use Rattle.std.proofs.Common.{◌≡◌, ℕ, zero, suc, ◌+◌, ◌<◌, ◌≤◌, ℤ, pos, ◌+ℤ◌, ◌-ℤ◌, ◌<ℤ◌, ◌≤ℤ◌, Bool, List, [], ◌∷◌, ◌++◌, length, map, replicate, take, drop, refl, ap, sym, subst, ◌∙◌, arith}
use Rattle.std.specs.List.{sum}
use Rattle.std.proofs.lemmas.Int.{ints}
use Rattle.std.proofs.lemmas.List.{get_or_append_left, get_or-append-add, get_or-map, length-append, length-take-le, map-append}
use Rattle.std.proofs.lemmas.List.Concat.{length-flat_map}
use Rattle.std.proofs.lemmas.List.FromFn.{sum_by-map-range_with_len_more}
use Rattle.std.proofs.lemmas.List.Sums.{sum-map}
use Rattle.f2_vec.specs.Spans.{row}
use Rattle.resolution_laws.specs.Resolution.{Content, square_in, degrees_from, images_of, row_of}
use Rattle.resolution_laws.proofs.Rows.{degrees_from-between, degrees_from-split}
use Rattle.resolution_laws.proofs.Generators.{length-images_of}
use Rattle.free_module.specs.FreeModule.{degree_at, IsWithinReach}
use Rattle.lift_laws.specs.Maps.{lowered_by}
use Rattle.lift_laws.specs.Lifts.{Resolution, gens, degree, image}
use Rattle.lift_laws.specs.Products.{first_of, count_of}
use Rattle.lift_laws.proofs.Coefficients.{is_new}
use Rattle.square.specs.Tables.{Staircase}
use Rattle.chain_map.specs.Lifting.{joined, counts, resolution_of}

-- the image of number h of square n
image_in : (squares : List Content) (n h : ℕ) → n < length squares → h < length (square_in squares n).images → row (images_of squares) (length (images_of (take n squares)) + h) ≡ row (square_in squares n).images h
image_in [] n h l b = absurd (omega arith)
image_in (c ∷ squares) zero h l b = let at : 0 + h ≡ h = omega arith in ap (row (c.images ++ images_of squares)) at ∙ get_or_append_left c.images (images_of squares) [] h b
image_in (c ∷ squares) (suc n) h l b =
    let before = images_of (take n squares) in
    let at : length (c.images ++ before) + h ≡ length c.images + (length before + h) = omega (arith, length-append c.images before) in
    ap (row (c.images ++ images_of squares)) at ∙ (get_or-append-add c.images (images_of squares) (length before + h) [] ∙ image_in squares n h (omega arith) b)

-- number h of the square (i, n)
pub record IsNumber (r : Resolution) (i n h : ℕ) : Type 0 where
  pub there : first_of r i n + h < length (gens r i)
  pub degree_is : degree r i (first_of r i n + h) ≡ r.base.bottom +ℤ pos n
  pub image_is : image r i (first_of r i n + h) ≡ row (square_in (row_of r.table i) n).images h

pub is_number : (r : Resolution) (i n h : ℕ) → n < length (row_of r.table i) → h < count_of r i n → IsNumber r i n h
is_number r i n h l b =
    let new = is_new r i n l h b in
    record { there = new.generator; degree_is = new.degree_is; image_is = image_in (row_of r.table i) n h l b }

-- fewer squares have no more generators
pub images_taken : (squares : List Content) (m n : ℕ) → m ≤ n → length (images_of (take m squares)) ≤ length (images_of (take n squares))
images_taken squares zero n h = omega arith
images_taken [] (suc m) n h = omega arith
images_taken (c ∷ squares) (suc m) zero h = absurd (omega arith)
images_taken (c ∷ squares) (suc m) (suc n) h =
    let rest = images_taken squares m n (omega arith) in
    omega (arith, length-append c.images (images_of (take m squares)), length-append c.images (images_of (take n squares)))

-- the squares before the next
images-next : (squares : List Content) (n : ℕ) → length (images_of (take (suc n) squares)) ≡ length (images_of (take n squares)) + length (square_in squares n).images
images-next [] zero = refl
images-next [] (suc n) = refl
images-next (c ∷ squares) zero = let len = length-append c.images [] in omega arith
images-next (c ∷ squares) (suc n) =
    omega (arith, length-append c.images (images_of (take (suc n) squares)), length-append c.images (images_of (take n squares)), images-next squares n)

pub first_of-more : (r : Resolution) (i n : ℕ) → first_of r i (n + 1) ≡ first_of r i n + count_of r i n
first_of-more r i n = let next : n + 1 ≡ suc n = omega arith in ap (first_of r i) next ∙ images-next (row_of r.table i) n

-- values on squares are as many as the generators before the next square
pub length-joined : (table : Staircase) (i n : ℕ) (squares : List (List (List Bool))) → map length squares ≡ counts table i n → length (joined squares) ≡ first_of (resolution_of table) i n
length-joined table i n squares each = length-flat_map (λ (z : List (List Bool)). z) squares ∙ (sym (sum-map length squares) ∙ (ap sum each ∙ sums n))
  where
    sums : (n : ℕ) → sum (counts table i n) ≡ first_of (resolution_of table) i n
    sums zero = refl
    sums (suc n) =
        let before = sums n in
        let last = sum_by-map-range_with_len_more (λ (z : ℕ). z) (count_of (resolution_of table) i) 0 n n (omega arith) in
        let next : suc n ≡ n + 1 = omega arith in
        let more : sum (counts table i (n + 1)) ≡ first_of (resolution_of table) i (n + 1) = omega (arith, first_of-more (resolution_of table) i n) in
        let P : ℕ → Type 0 = λ m. sum (counts table i m) ≡ first_of (resolution_of table) i m in
        subst P (sym next) more

-- a number is in one square alone, at one place
pub record IsSame (n m h c : ℕ) : Type 0 where
  pub square : n ≡ m
  pub place : h ≡ c

pub number_is_once : (r : Resolution) (i n m h c : ℕ) → n < length (row_of r.table i) → m < length (row_of r.table i) → h < count_of r i n → c < count_of r i m → first_of r i n + h ≡ first_of r i m + c → IsSame n m h c
number_is_once r i n m h c l k a b e =
    let p = (is_number r i n h l a).degree_is in
    let q = (is_number r i m c k b).degree_is in
    let degrees : degree r i (first_of r i n + h) ≡ degree r i (first_of r i m + c) = ap (degree r i) e in
    let same : n ≡ m = omega (arith, ints) in
    let firsts : first_of r i n ≡ first_of r i m = ap (first_of r i) same in
    record { square = same; place = omega arith }

map-replicate : (f : ℤ → ℤ) (n : ℕ) (x : ℤ) → map f (replicate n x) ≡ replicate n (f x)
map-replicate f zero x = refl
map-replicate f (suc n) x = ap (λ (z : List ℤ). f x ∷ z) (map-replicate f n x)

-- the generators of a row in degrees that are lower by x
lowered-from : (x b : ℤ) (squares : List Content) → lowered_by x (degrees_from b squares) ≡ degrees_from (b -ℤ x) squares
lowered-from x b [] = refl
lowered-from x b (c ∷ squares) =
    let n = length c.images in
    let low : ℤ → ℤ = λ d. d -ℤ x in
    let next : (b +ℤ pos 1) -ℤ x ≡ (b -ℤ x) +ℤ pos 1 = omega (arith, ints) in
    map-append low (replicate n b) (degrees_from (b +ℤ pos 1) squares)
    ∙ (ap (λ (z : List ℤ). z ++ lowered_by x (degrees_from (b +ℤ pos 1) squares)) (map-replicate low n b)
    ∙ ap (λ (z : List ℤ). replicate n (b -ℤ x) ++ z) (lowered-from x (b +ℤ pos 1) squares ∙ ap (λ (t : ℤ). degrees_from t squares) next))

pub lowered-row : (b : ℤ) (a : ℕ) (squares : List Content) → lowered_by (b +ℤ pos a) (degrees_from b squares) ≡ degrees_from (pos 0 -ℤ pos a) squares
lowered-row b a squares =
    let e : b -ℤ (b +ℤ pos a) ≡ pos 0 -ℤ pos a = omega (arith, ints) in
    lowered-from (b +ℤ pos a) b squares ∙ ap (λ (t : ℤ). degrees_from t squares) e

-- a degree is within reach of each generator, where it is of the bottom
pub within-reach : (b : ℤ) (squares : List Content) (max : ℕ) (t : ℤ) → t ≤ℤ (b +ℤ pos max) → IsWithinReach max (degrees_from b squares) t
within-reach b squares max t l g h = let p = degrees_from-between b squares g h in omega (arith, ints, p.from)

-- a generator of the first n squares of a row, among these
pub degree-first : (r : Resolution) (i n g : ℕ) → g < first_of r i n → degree_at (degrees_from r.base.bottom (take n (row_of r.table i))) g ≡ degree r i g
degree-first r i n g b =
    let squares = row_of r.table i in
    let base = r.base.bottom in
    let first = degrees_from base (take n squares) in
    let later = degrees_from (base +ℤ pos n) (drop n squares) in
    sym (ap (λ (z : List ℤ). degree_at z g) (degrees_from-split base squares n) ∙ get_or_append_left first later (pos 0) g (omega (arith, length-images_of base (take n squares))))

-- it is of a lower degree than the square behind them
pub degree-below : (r : Resolution) (i n g : ℕ) → n ≤ length (row_of r.table i) → g < first_of r i n → degree r i g <ℤ (r.base.bottom +ℤ pos n)
degree-below r i n g l b =
    let squares = row_of r.table i in
    let base = r.base.bottom in
    let count = length-images_of base (take n squares) in
    let same = degree-first r i n g b in
    let low = (degrees_from-between base (take n squares) g (omega arith)).below in
    let len : length (take n squares) ≡ n = length-take-le n squares l in
    omega (arith, ints)

-- its degree where those of the row are lowered
pub degree-lowered : (r : Resolution) (i n a g : ℕ) → g < first_of r i n → degree_at (degrees_from (pos 0 -ℤ pos a) (take n (row_of r.table i))) g ≡ degree r i g -ℤ (r.base.bottom +ℤ pos a)
degree-lowered r i n a g there =
    let squares = take n (row_of r.table i) in
    let base = r.base.bottom in
    ap (λ (z : List ℤ). degree_at z g) (sym (lowered-row base a squares))
    ∙ (get_or-map (λ (d : ℤ). d -ℤ (base +ℤ pos a)) (degrees_from base squares) g (pos 0) (pos 0) (omega (arith, length-images_of base squares))
    ∙ ap (λ (d : ℤ). d -ℤ (base +ℤ pos a)) (degree-first r i n g there))
