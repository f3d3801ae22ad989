-- Parities of common ones, and coefficients after a map.
use Rattle.std.proofs.Common.{◌≡◌, ℕ, zero, suc, ◌+◌, ◌<◌, ℤ, pos, ◌+ℤ◌, ◌-ℤ◌, ◌≤ℤ◌, Bool, true, false, not, ◌&&◌, List, [], ◌∷◌, ◌++◌, length, map, take, drop, refl, ap, sym, subst, ◌∙◌, arith}
use Rattle.std.specs.List.{range_with_len}
use Rattle.std.proofs.lemmas.Int.{ints}
use Rattle.std.proofs.lemmas.List.{length-map, get_or-map, get_or_append_left, length-take-le, take-append-drop, map-append}
use Rattle.f2_vec.specs.Vectors.{plus, bit, sum_of, zeros}
use Rattle.f2_vec.specs.Spans.{row, HaveWidth, combination}
use Rattle.f2_vec.proofs.Sums.{bit-zeros, bit-sum_of, plus-assoc}
use Rattle.f2_vec.proofs.Spans.{HaveWidth-tail, HaveWidth-front, HaveWidth-back, length-combination, combination-append, bit-combination-cons, bit-combination_zero}
use Rattle.f2_vec.proofs.Combinations.{map-map}
use Rattle.milnor_basis.specs.Exponents.{degree_of}
use Rattle.free_module.specs.FreeModule.{free_basis, free_width}
use Rattle.free_module.specs.FreeBasis.{element, IsOfDegree}
use Rattle.free_module.specs.Graded.{IsSteenrodModule}
use Rattle.resolution_laws.specs.Resolution.{row_of}
use Rattle.resolution_laws.proofs.Rows.{degrees_from-between}
use Rattle.resolution_laws.proofs.Generators.{element-IsOfDegree}
use Rattle.lift_laws.specs.Maps.{shifted, value_of, extended, FitThrough}
use Rattle.lift_laws.specs.Lifts.{Resolution, gens, degree, free, lowered}
use Rattle.lift_laws.proofs.Facts.{HasNoBare}
use Rattle.lift_laws.proofs.Bare.{action-HasNoBare}
use Rattle.lift_laws.proofs.Linear.{HaveWidth-extended, IsSteenrodModule-shifted}
use Rattle.milnor_laws.proofs.FreeModules.{free_modules_are_modules}
use Rattle.lift_laws.proofs.Resolved.{IsResolved}
use Rattle.lift_laws.specs.Products.{first_of, count_of, old_width, coefficients, on_square}
use Rattle.bracket_laws.specs.Brackets.{dot}
use Rattle.lift_laws.proofs.Coefficients.{map_range, basis-parts, width-parts, earlier, new, is_new}

-- ---- parities

pub dot-zeros : (n : ℕ) (c : List Bool) → dot (zeros n) c ≡ false
dot-zeros zero c = refl
dot-zeros (suc n) [] = refl
dot-zeros (suc n) (c ∷ cs) = dot-zeros n cs

pub dot-sum : (a b c : List Bool) → length a ≡ length b → dot (sum_of a b) c ≡ plus (dot a c) (dot b c)
dot-sum [] [] c e = refl
dot-sum [] (y ∷ b) c e = cc
dot-sum (x ∷ a) [] c e = cc
dot-sum (x ∷ a) (y ∷ b) [] e = refl
dot-sum (false ∷ a) (false ∷ b) (c ∷ cs) e = dot-sum a b cs (omega arith)
dot-sum (false ∷ a) (true ∷ b) (false ∷ cs) e = dot-sum a b cs (omega arith)
dot-sum (false ∷ a) (true ∷ b) (true ∷ cs) e = let ih : dot (sum_of a b) cs ≡ plus (dot a cs) (dot b cs) = dot-sum a b cs (omega arith) in swapped (dot (sum_of a b) cs) (dot a cs) (dot b cs) ih
  where
    swapped : (z x y : Bool) → z ≡ plus x y → plus true z ≡ plus x (plus true y)
    swapped z true y e = ap (plus true) e
    swapped z false y e = ap (plus true) e
dot-sum (true ∷ a) (false ∷ b) (false ∷ cs) e = dot-sum a b cs (omega arith)
dot-sum (true ∷ a) (false ∷ b) (true ∷ cs) e = let ih : dot (sum_of a b) cs ≡ plus (dot a cs) (dot b cs) = dot-sum a b cs (omega arith) in ap (plus true) ih ∙ sym (plus-assoc true (dot a cs) (dot b cs))
dot-sum (true ∷ a) (true ∷ b) (false ∷ cs) e = dot-sum a b cs (omega arith)
dot-sum (true ∷ a) (true ∷ b) (true ∷ cs) e = let ih : dot (sum_of a b) cs ≡ plus (dot a cs) (dot b cs) = dot-sum a b cs (omega arith) in both (dot (sum_of a b) cs) (dot a cs) (dot b cs) ih
  where
    both : (z x y : Bool) → z ≡ plus x y → z ≡ plus (plus true x) (plus true y)
    both z true true e = e
    both z true false e = e
    both z false true e = e
    both z false false e = e

-- a coordinate of a combination
pub bit-combination_dot : (n : ℕ) (c : List Bool) (rows : List (List Bool)) (j : ℕ) → HaveWidth n rows → bit (combination n c rows) j ≡ dot (map (λ r. bit r j) rows) c
bit-combination_dot n [] [] j h = bit-zeros n j
bit-combination_dot n [] (r ∷ rows) j h = bit-zeros n j
bit-combination_dot n (c ∷ cs) [] j h = bit-zeros n j
bit-combination_dot n (false ∷ cs) (r ∷ rows) j h = bit-combination_dot n cs rows j (HaveWidth-tail n r rows h) ∙ off (bit r j) (dot (map (λ r. bit r j) rows) cs)
  where
    off : (x z : Bool) → z ≡ plus (x && false) z
    off true z = refl
    off false z = refl
bit-combination_dot n (true ∷ cs) (r ∷ rows) j h = bit-combination-cons n cs r rows j h ∙ on (bit r j) (bit (combination n cs rows) j) (dot (map (λ r. bit r j) rows) cs) (bit-combination_dot n cs rows j (HaveWidth-tail n r rows h))
  where
    on : (x z w : Bool) → z ≡ w → plus x z ≡ plus (x && true) w
    on true z w e = ap not e
    on false z w e = e

-- ---- the coefficient of a bare place after a map goes by the coefficients at the generators of the square

pub bit-extended : (q : Resolution) (k m n : ℕ) (y top : ℤ) (f : ℕ → List Bool) (v : List Bool) (j : ℕ) → n < length (row_of q.table k) → IsSteenrodModule (shifted y (free q m)) → HaveWidth (free_width (gens q m) ((q.base.bottom +ℤ pos n) -ℤ y)) (map (value_of (shifted y (free q m)) (gens q k) f) (free_basis (gens q k) (q.base.bottom +ℤ pos n))) → FitThrough (shifted y (free q m)) (gens q k) top f → (q.base.bottom +ℤ pos n) ≤ℤ top → length v ≡ free_width (gens q k) (q.base.bottom +ℤ pos n) → j < free_width (gens q m) ((q.base.bottom +ℤ pos n) -ℤ y) → (element (free_basis (gens q m) ((q.base.bottom +ℤ pos n) -ℤ y)) j).1 ≡ [] →
    bit (extended (shifted y (free q m)) (gens q k) f (q.base.bottom +ℤ pos n) v) j ≡ dot (on_square q k n (λ g. bit (f g) j)) (coefficients q k n v)
bit-extended q k m n y top f v j there steenrod wide fit low len at bare =
    let t = q.base.bottom +ℤ pos n in
    let target = shifted y (free q m) in
    let w = target.width t in
    let value = value_of target (gens q k) f in
    let ds = earlier q k n there in
    let old = free_basis ds t in
    let fresh = new q k n there in
    let size : length old ≡ old_width q k n = refl in
    let parts : map value (free_basis (gens q k) t) ≡ map value old ++ map value fresh = ap (map value) (basis-parts q k n there) ∙ map-append value old fresh in
    let wide_parts : HaveWidth w (map value old ++ map value fresh) = subst (HaveWidth w) parts wide in
    let width_is = width-parts q k n there in
    let a = take (old_width q k n) v in
    let b = drop (old_width q k n) v in
    let la : length a ≡ length (map value old) = length-take-le (old_width q k n) v (omega arith) ∙ sym (length-map old value) in
    let wide_old = HaveWidth-front w (map value old) (map value fresh) wide_parts in
    let wide_new = HaveWidth-back w (map value old) (map value fresh) wide_parts in
    let split : extended target (gens q k) f t v ≡ sum_of (combination w a (map value old)) (combination w b (map value fresh)) =
    ap (combination w v) parts ∙ (ap (λ (z : List Bool). combination w z (map value old ++ map value fresh)) (sym (take-append-drop (old_width q k n) v)) ∙ combination-append w a b (map value old) (map value fresh) wide_old wide_new la) in
    let none : bit (combination w a (map value old)) j ≡ false = bit-combination_zero w a (map value old) j wide_old (λ i c.
    let d : i < length old = omega (arith, length-map old value) in
    let e = element old i in
    let o = element-IsOfDegree ds t i d in
    let deg = o.degree in
    let same : element (free_basis (gens q k) t) i ≡ e = ap (λ (z : List (ℕ × List ℕ)). element z i) (basis-parts q k n there) ∙ get_or_append_left old fresh (0, []) i d in
    let whole = element-IsOfDegree (gens q k) t i (omega (arith, width-parts q k n there)) in
    let oq : IsOfDegree (gens q k) t e = subst (IsOfDegree (gens q k) t) same whole in
    let degq = oq.degree in
    let below = (degrees_from-between q.base.bottom (take n (row_of q.table k)) e.0 o.generator).below in
    let count = length-take-le n (row_of q.table k) (omega arith) in
    let positive : 0 < degree_of e.1 = omega (arith, ints) in
    let here : row (map value old) i ≡ value e = get_or-map value old i (0, []) [] d in
    let sum : (degree q k e.0 -ℤ y) +ℤ pos (degree_of e.1) ≡ t -ℤ y = omega (arith, ints) in
    let P : ℤ → Type 0 = λ z. HasNoBare (gens q m) z (value e) in
    let no_bare : HasNoBare (gens q m) (t -ℤ y) (value e) = subst P sum (action-HasNoBare (gens q m) e.1 (degree q k e.0 -ℤ y) (f e.0) positive) in
    ap (λ (z : List Bool). bit z j) here ∙ no_bare j at bare) in
    let some : map (λ r. bit r j) (map value fresh) ≡ on_square q k n (λ g. bit (f g) j) =
    map-map (λ r. bit r j) value fresh
    ∙ (map-map (λ e. bit (value e) j) (λ i. (first_of q k n + i, [])) (range_with_len 0 (count_of q k n))
    ∙ map_range (λ i. bit (value (first_of q k n + i, [])) j) (λ i. bit (f (first_of q k n + i)) j) 0 (count_of q k n) (λ i l.
    let x = is_new q k n there i l in
    let g = first_of q k n + i in
    let z : 0 + i ≡ i = omega arith in
    let deg = x.degree_is in
    let unit : value (g, []) ≡ f g = steenrod.unit (degree q k g) (f g) (fit g x.generator (omega (arith, ints))) in
    let P : ℕ → Type 0 = λ i. bit (value (first_of q k n + i, [])) j ≡ bit (f (first_of q k n + i)) j in
    subst P (sym z) (ap (λ (v : List Bool). bit v j) unit))) in
    let lens : length (combination w a (map value old)) ≡ length (combination w b (map value fresh)) = length-combination w a (map value old) wide_old ∙ sym (length-combination w b (map value fresh) wide_new) in
    ap (λ (z : List Bool). bit z j) split
    ∙ (bit-sum_of (combination w a (map value old)) (combination w b (map value fresh)) j lens
    ∙ (ap (λ (z : Bool). plus z (bit (combination w b (map value fresh)) j)) none
    ∙ (bit-combination_dot w b (map value fresh) j wide_new ∙ ap (λ (z : List Bool). dot z b) some)))

-- a coefficient after a map, in the degree of a square
pub bit-lowered : (q : Resolution) (qs qt : ℕ) (o : IsResolved q qs qt) (k m n : ℕ) (y top u : ℤ) (f : ℕ → List Bool) (v : List Bool) (j : ℕ) → u ≡ q.base.bottom +ℤ pos n → n < length (row_of q.table k) → FitThrough (shifted y (free q m)) (gens q k) top f → u ≤ℤ top → length v ≡ free_width (gens q k) u → j < free_width (gens q m) (u -ℤ y) → (element (free_basis (gens q m) (u -ℤ y)) j).1 ≡ [] → bit (lowered q k q m y f u v) j ≡ dot (on_square q k n (λ g. bit (f g) j)) (coefficients q k n v)
bit-lowered q qs qt o k m n y top u f v j e h fit low len at bare =
    let good : IsSteenrodModule (shifted y (free q m)) = IsSteenrodModule-shifted y (free q m) (free_modules_are_modules (gens q m)) in
    let t = q.base.bottom +ℤ pos n in
    let P : ℤ → Type 0 = λ u. u ≤ℤ top → length v ≡ free_width (gens q k) u → j < free_width (gens q m) (u -ℤ y) → (element (free_basis (gens q m) (u -ℤ y)) j).1 ≡ [] → bit (lowered q k q m y f u v) j ≡ dot (on_square q k n (λ g. bit (f g) j)) (coefficients q k n v) in
    let here : P t = λ low len at bare. bit-extended q k m n y top f v j h good (HaveWidth-extended (shifted y (free q m)) good (gens q k) top f fit t low) fit low len at bare in
    subst P (sym e) here low len at bare
