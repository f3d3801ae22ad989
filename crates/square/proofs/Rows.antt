-- A row of shared squares, read and copied square by square.
use Rattle.std.proofs.Common.{◌≡◌, ℕ, ◌+◌, ◌-◌, ◌*◌, ◌<◌, ◌≤◌, ℤ, pos, ◌+ℤ◌, ◌≤ℤ◌, Bool, List, ◌++◌, length, map, take, get_or, replicate, Some, refl, sym, ◌∙◌, ap, arith}
use Rattle.std.specs.List.{slice_get}
use Rattle.std.proofs.lemmas.List.{take_all, take_more, length-map, length-take-le, take-map}
use Rattle.std.proofs.lemmas.Option.{slice_get_read, slice_get-map}
use Rattle.std.specs.Option.{option_map}
use Rattle.milnor_basis.specs.Basis.{basis_of}
use Rattle.resolution_laws.specs.Resolution.{Content, no_content, square_in, degrees_from, images_of}
use Rattle.resolution_laws.proofs.Rows.{at_most-row, degrees_from-more, images_of-more}
use Rattle.free_module.specs.FreeModule.{degree_at}
use Rattle.square.specs.Squares.{Placed}
use Rattle.square.specs.Tables.{contents, row_width}
use Rattle.square.proofs.Places.{square_in-contents}
use Rattle.square.proofs.RowWidths.{row_width-more, row_width-le}

-- the first n items, seen through f
pub shared_first : {X Y : Type 0} (f : X → Y) (items items' : List X) (n i : ℕ) (rows wanted : List Y) → items' ≡ items → map f items ≡ wanted → rows ≡ map f (take i (take n items')) → length (take n items') ≤ i → rows ≡ take n wanted
shared_first f items items' n i rows wanted same seen e l =
    e ∙ ap (map f) (take_all i (take n items') l) ∙ ap (λ x. map f (take n x)) same ∙ sym (take-map f n items) ∙ ap (take n) seen

-- the square at place i of a row, given by the item there
pub square_at_place : {X : Type 0} (f : X → Placed) (items : List X) (squares : List Placed) (i j : ℕ) (x : X) → map f items ≡ squares → i < length squares → j ≡ i → x ≡ get_or items j x → square_in (contents squares) i ≡ (f x).content
square_at_place f items squares i j x seen l same e =
    let len : length items ≡ length squares = sym (length-map items f) ∙ ap length seen in
    let there : slice_get items i ≡ Some x = slice_get_read items (length items) i x refl (omega arith) (e ∙ ap (λ k. get_or items k x) same) in
    square_in-contents squares i (f x) (ap (λ (row : List Placed). slice_get row i) (sym seen) ∙ slice_get-map f items i ∙ ap (option_map f) there)

-- the dimension with one square more, which is at most that of the first n
pub record IsWider (squares : List Content) (n i k w : ℕ) : Type 0 where
  pub sum : w ≡ row_width (take (i + 1) squares) k
  pub at_most : w ≤ row_width (take n squares) k

pub one_wider : (squares : List Content) (n i k w g b : ℕ) → n ≤ length squares → i < n → n ≤ k + 1 → w ≡ row_width (take i squares) k → g ≡ length (square_in squares i).images → b ≡ length (basis_of (k - i)) → IsWider squares n i k (w + g * b)
one_wider squares n i k w g b within below degree e1 e2 e3 =
    let more = row_width-more squares i k (omega arith) (omega arith) in
    let le = row_width-le squares (i + 1) n k (omega arith) in
    let product : g * b ≡ length (square_in squares i).images * length (basis_of (k - i)) = ap (λ x. x * b) e2 ∙ ap (λ x. length (square_in squares i).images * x) e3 in
    record { sum = omega arith; at_most = omega arith }

-- the generators and the images with one square more
pub generators_more : (b t : ℤ) (squares : List Content) (i count : ℕ) (gens wider : List ℤ) → i < length squares → t ≡ b +ℤ pos i → count ≡ length (square_in squares i).images → gens ≡ degrees_from b (take i squares) → wider ≡ gens ++ replicate count t → wider ≡ degrees_from b (take (i + 1) squares)
generators_more b t squares i count gens wider l at n e more =
    degrees_from-more b (take i squares) (take (i + 1) squares) (square_in squares i) i gens wider t (take_more squares i no_content l) (length-take-le i squares (omega arith)) at e (more ∙ ap (λ k. gens ++ replicate k t) n)

pub generators_below : (b t : ℤ) (squares : List Content) (i : ℕ) (gens : List ℤ) → i ≤ length squares → t ≡ b +ℤ pos i → gens ≡ degrees_from b (take i squares) → (g : ℕ) → g < length gens → degree_at gens g ≤ℤ t
generators_below b t squares i gens l at e = at_most-row b (take i squares) i gens t at e (length-take-le i squares l)

pub images_more : (squares : List Content) (i : ℕ) (images wider new : List (List Bool)) → i < length squares → new ≡ (square_in squares i).images → images ≡ images_of (take i squares) → wider ≡ images ++ new → wider ≡ images_of (take (i + 1) squares)
images_more squares i images wider new l same e more =
    images_of-more (take i squares) (take (i + 1) squares) (square_in squares i) images wider (take_more squares i no_content l) e (more ∙ ap (λ x. images ++ x) same)
