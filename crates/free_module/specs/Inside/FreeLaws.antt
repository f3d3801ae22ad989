-- The laws of a free module: the action goes generator by generator, keeps widths, and has a unit.
use Rattle.std.proofs.Common.{◌≡◌, ◌≢◌, ℕ, suc, ◌+◌, ◌<◌, Bool, true, false, ◌&&◌, nat_eq, List, [], ◌∷◌, ◌++◌, length, map, take, drop, ℤ, pos, ◌+ℤ◌, ◌-ℤ◌, refl, ap, sym, ◌∙◌, arith, length-append}
use Rattle.std.proofs.lemmas.List.{length-take-le, length-drop, length-map, take-append-drop, map-append}
use Rattle.std.proofs.lemmas.Bool.{eq-eqb}
use Rattle.std.proofs.lemmas.Bool.Decides.{nat_tests}
use Rattle.std.proofs.lemmas.Int.{ints}
use Rattle.f2_vec.specs.Vectors.{zeros}
use Rattle.f2_vec.specs.Spans.{combination}
use Rattle.f2_vec.proofs.Spans.{length-combination}
use Rattle.f2_vec.proofs.Combinations.{map-map, HaveWidth-map, combination_blocks}
use Rattle.f2_vec.proofs.Split.{zeros-append}
use Rattle.milnor_basis.specs.Exponents.{degree_of}
use Rattle.milnor_basis.specs.Product.{coefficient}
use Rattle.free_module.specs.Graded.{HasUnit, KeepsWidths, free_graded}
use Rattle.milnor_product.specs.Times.{basis_at, times_at}
use Rattle.milnor_product.proofs.Multiples.{products, times_at-unit}
use Rattle.free_module.specs.FreeModule.{free_basis_from, free_basis, free_width, acted, free_action}

-- the blocks of Sq(R) on v, one for each generator
abbrev pub blocks : List ℕ → List ℤ → ℤ → List Bool → List Bool
blocks r [] t v = []
blocks r (d ∷ ds) t v =
    times_at r (t -ℤ d) (take (length (basis_at (t -ℤ d))) v) ++ blocks r ds t (drop (length (basis_at (t -ℤ d))) v)

-- the coefficient of f in Sq(R) on (g, S)
abbrev pub coefficient_at : ℕ → List ℕ → List ℕ → ℕ × List ℕ → Bool
coefficient_at g r s f = nat_eq f.0 g && coefficient r s f.1

-- Sq(R) on e, by its coefficients at these basis elements
abbrev pub acted_on : List (ℕ × List ℕ) → List ℕ → ℕ × List ℕ → List Bool
acted_on basis r e = map (coefficient_at e.0 r e.1) basis

-- the elements of one generator
abbrev pub on : ℕ → List (List ℕ) → List (ℕ × List ℕ)
on g xs = map (λ x. (g, x)) xs

pub nat_eq-refl : (g : ℕ) → nat_eq g g ≡ true
nat_eq-refl g = eq-eqb g g refl

nat_eq-other : (g h : ℕ) → g ≢ h → nat_eq g h ≡ false
nat_eq-other g h l = grind (arith, nat_tests)

-- Sq(R) on (g, S) at the elements of its own generator, and at those of another
pub own_part : (g : ℕ) (r s : List ℕ) (xs : List (List ℕ)) →
    map (coefficient_at g r s) (on g xs) ≡ map (coefficient r s) xs
own_part g r s [] = refl
own_part g r s (x ∷ xs) = cc (ap (λ b. b && coefficient r s x) (nat_eq-refl g), own_part g r s xs)

pub other_part : (g h : ℕ) (r s : List ℕ) (xs : List (List ℕ)) → g ≢ h →
    map (coefficient_at h r s) (on g xs) ≡ zeros (length xs)
other_part g h r s [] e = refl
other_part g h r s (x ∷ xs) e = cc (ap (λ b. b && coefficient r s x) (nat_eq-other g h e), other_part g h r s xs e)

pub later_parts : (g : ℕ) (ds : List ℤ) (h : ℕ) (r s : List ℕ) (t : ℤ) → h < g →
    map (coefficient_at h r s) (free_basis_from g ds t) ≡ zeros (length (free_basis_from g ds t))
later_parts g [] h r s t l = refl
later_parts g (d ∷ ds) h r s t l =
    let b = basis_at (t -ℤ d) in
    let rest = free_basis_from (suc g) ds t in
    let e : map (coefficient_at h r s) (on g b) ≡ zeros (length b) = other_part g h r s b (omega arith) in
    let f : map (coefficient_at h r s) rest ≡ zeros (length rest) = later_parts (suc g) ds h r s t (omega arith) in
    let k : length (on g b ++ rest) ≡ length b + length rest = length-append (on g b) rest ∙ ap (λ n. n + length rest) (length-map b (λ x. (g, x))) in
    cc (map-append (coefficient_at h r s) (on g b) rest, zeros-append (length b) (length rest))

-- the rows of the elements of g: their own columns, and zeros at the columns of later generators
own_rows : (g : ℕ) (r : List ℕ) (xs ys : List (List ℕ)) (k : ℕ) (ds : List ℤ) (t : ℤ) → g < k →
    map (acted_on (on g xs ++ free_basis_from k ds t) r) (on g ys)
    ≡ map (λ x. x ++ zeros (length (free_basis_from k ds t))) (map (λ s. map (coefficient r s) xs) ys)
own_rows g r xs [] k ds t l = refl
own_rows g r xs (y ∷ ys) k ds t l =
    cc (map-append (coefficient_at g r y) (on g xs) (free_basis_from k ds t), own_part g r y xs, later_parts k ds g r y t l, own_rows g r xs ys k ds t l)

-- the rows of a later generator have zeros at the columns of g
later_block : (g k : ℕ) (r : List ℕ) (xs ys : List (List ℕ)) (basis : List (ℕ × List ℕ)) → g < k →
    map (acted_on (on g xs ++ basis) r) (on k ys) ≡ map (λ e. zeros (length xs) ++ acted_on basis r e) (on k ys)
later_block g k r xs [] basis l = refl
later_block g k r xs (y ∷ ys) basis l =
    cc (map-append (coefficient_at k r y) (on g xs) basis, other_part g k r y xs (omega arith), later_block g k r xs ys basis l)

later_rows : (g k : ℕ) (r : List ℕ) (xs : List (List ℕ)) (basis : List (ℕ × List ℕ)) (ds : List ℤ) (t : ℤ) → g < k →
    map (acted_on (on g xs ++ basis) r) (free_basis_from k ds t)
    ≡ map (λ x. zeros (length xs) ++ x) (map (acted_on basis r) (free_basis_from k ds t))
later_rows g k r xs basis [] t l = refl
later_rows g k r xs basis (d ∷ ds) t l =
    let b = on k (basis_at (t -ℤ d)) in
    let rest = free_basis_from (suc k) ds t in
    let ih : map (acted_on (on g xs ++ basis) r) rest ≡ map (λ x. zeros (length xs) ++ x) (map (acted_on basis r) rest) = later_rows g (suc k) r xs basis ds t (omega arith) in
    let e : map (acted_on (on g xs ++ basis) r) b ≡ map (λ e. zeros (length xs) ++ acted_on basis r e) b = later_block g k r xs (basis_at (t -ℤ d)) basis l in
    let f : map (λ x. zeros (length xs) ++ x) (map (acted_on basis r) b) ≡ map (λ e. zeros (length xs) ++ acted_on basis r e) b = map-map (λ x. zeros (length xs) ++ x) (acted_on basis r) b in
    cc (map-append (acted_on (on g xs ++ basis) r) b rest, map-append (acted_on basis r) b rest, map-append (λ x. zeros (length xs) ++ x) (map (acted_on basis r) b) (map (acted_on basis r) rest))

pub free_action_from : (g : ℕ) (ds : List ℤ) (r : List ℕ) (t : ℤ) (v : List Bool) →
    length v ≡ length (free_basis_from g ds t) →
    combination (length (free_basis_from g ds (t +ℤ pos (degree_of r)))) v
    (map (acted_on (free_basis_from g ds (t +ℤ pos (degree_of r))) r) (free_basis_from g ds t))
    ≡ blocks r ds t v
free_action_from g [] r t [] e = refl
free_action_from g [] r t (x ∷ v) e = cc
free_action_from g (d ∷ ds) r t v e =
    let above = t +ℤ pos (degree_of r) in
    let a = basis_at (above -ℤ d) in
    let b = basis_at (t -ℤ d) in
    let f = free_basis_from (suc g) ds above in
    let q = free_basis_from (suc g) ds t in
    let p = map (λ s. map (coefficient r s) a) b in
    let c = take (length b) v in
    let w = drop (length b) v in
    let len : length v ≡ length b + length q = e ∙ length-append (on g b) q ∙ ap (λ n. n + length q) (length-map b (λ x. (g, x))) in
    let lc : length c ≡ length p = length-take-le (length b) v (omega arith) ∙ sym (length-map b (λ s. map (coefficient r s) a)) in
    let lw : length w ≡ length q = omega (arith, length-drop (length b) v) in
    let width : length (on g a ++ f) ≡ length a + length f = length-append (on g a) f ∙ ap (λ n. n + length f) (length-map a (λ x. (g, x))) in
    let rows : map (acted_on (on g a ++ f) r) (on g b ++ q) ≡ map (λ x. x ++ zeros (length f)) p ++ map (λ x. zeros (length a) ++ x) (map (acted_on f r) q) = cc (map-append (acted_on (on g a ++ f) r) (on g b) q, own_rows g r a b (suc g) ds above (omega arith), later_rows g (suc g) r a f ds t (omega arith)) in
    let ih : combination (length f) w (map (acted_on f r) q) ≡ blocks r ds t w = free_action_from (suc g) ds r t w lw in
    let two : combination (length a + length f) (c ++ w) (map (λ x. x ++ zeros (length f)) p ++ map (λ x. zeros (length a) ++ x) (map (acted_on f r) q)) ≡ combination (length a) c p ++ combination (length f) w (map (acted_on f r) q) = combination_blocks (length a) (length f) c w p (map (acted_on f r) q) (HaveWidth-map (length a) (λ s. map (coefficient r s) a) b (λ s. length-map a (coefficient r s))) (HaveWidth-map (length f) (acted_on f r) q (λ x. length-map f (coefficient_at x.0 r x.1))) lc in
    let z : above -ℤ d ≡ (t -ℤ d) +ℤ pos (degree_of r) = omega (arith, ints) in
    let own : combination (length a) c p ≡ times_at r (t -ℤ d) c = cc (ap (λ i. length (basis_at i)) z, products r (t -ℤ d) (above -ℤ d) z) in
    cc (width, rows, take-append-drop (length b) v, two, own, ih)

pub free_action_is_blocks : (ds : List ℤ) (r : List ℕ) (t : ℤ) (v : List Bool) → length v ≡ free_width ds t →
    free_action ds r t v ≡ blocks r ds t v
free_action_is_blocks ds r t v e = free_action_from 0 ds r t v e

pub free_KeepsWidths : (degrees : List ℤ) → KeepsWidths (free_graded degrees)
free_KeepsWidths degrees r t v e =
    let above = t +ℤ pos (degree_of r) in
    length-combination (free_width degrees above) v (map (acted degrees r above) (free_basis degrees t)) (HaveWidth-map (free_width degrees above) (acted degrees r above) (free_basis degrees t) (λ x. length-map (free_basis degrees above) (coefficient_at x.0 r x.1)))

-- how many coordinates each block takes
pub length-free_basis_from : (g : ℕ) (d : ℤ) (ds : List ℤ) (t : ℤ) →
    length (free_basis_from g (d ∷ ds) t) ≡ length (basis_at (t -ℤ d)) + length (free_basis_from (suc g) ds t)
length-free_basis_from g d ds t =
    let b = basis_at (t -ℤ d) in
    let rest = free_basis_from (suc g) ds t in
    length-append (on g b) rest ∙ ap (λ n. n + length rest) (length-map b (λ x. (g, x)))

blocks-unit : (g : ℕ) (ds : List ℤ) (t : ℤ) (v : List Bool) → length v ≡ length (free_basis_from g ds t) →
    blocks [] ds t v ≡ v
blocks-unit g [] t [] e = refl
blocks-unit g [] t (x ∷ v) e = cc
blocks-unit g (d ∷ ds) t v e =
    let n = length (basis_at (t -ℤ d)) in
    let l : length v ≡ n + length (free_basis_from (suc g) ds t) = e ∙ length-free_basis_from g d ds t in
    let a : times_at [] (t -ℤ d) (take n v) ≡ take n v = times_at-unit (t -ℤ d) (take n v) (length-take-le n v (omega arith)) in
    let b : blocks [] ds t (drop n v) ≡ drop n v = blocks-unit (suc g) ds t (drop n v) (omega (arith, length-drop n v)) in
    cc (take-append-drop n v)

pub free_HasUnit : (degrees : List ℤ) → HasUnit (free_graded degrees)
free_HasUnit degrees t v e = free_action_is_blocks degrees [] t v e ∙ blocks-unit 0 degrees t v e
