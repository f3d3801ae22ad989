-- The classes whose product with a class of the sphere is in the squares of a shape.
use Rattle.std.proofs.Common.{◌≡◌, ℕ, zero, suc, ◌+◌, ◌-◌, ◌<◌, ◌≤◌, List, map, refl, ap, arith}
use Rattle.std.specs.List.{All, flat_map, range_with_len}
use Rattle.std.proofs.lemmas.List.Elements.{All-map}
use Rattle.bidegree.specs.LastDegrees.{last_degree}
use Rattle.bidegree.specs.declared.range.Range.{Range}
use Rattle.bidegree.specs.declared.shape.Shape.{Shape}
use Rattle.milnor_basis.proofs.MatrixList.{All-flat_map, All-range}
use Rattle.lift_laws.specs.Lifts.{Resolution}
use Rattle.lift_laws.specs.Products.{Class, count_of}
use Rattle.ext_chart.proofs.Seen.{last_within}
use Rattle.ext_products.specs.Products.{class_at, classes_of, classes_in_row, factors}

-- x is a class of r, and its product with a is in the squares of the shape
pub record IsFactor (r : Resolution) (shape : Shape) (range : Range) (a x : Class) : Type 0 where
  pub row : x.s + a.s ≤ range.s
  pub degree : a.above + x.above ≤ range.t
  pub near : a.above + x.above ≤ last_degree shape range (x.s + a.s)
  pub number : x.i < count_of r x.s x.above

pub are_factors : (r : Resolution) (shape : Shape) (range : Range) (a : Class) → All (IsFactor r shape range a) (factors r shape range a)
are_factors r shape range a =
    let P : Class → Type 0 = IsFactor r shape range a in
    let m = range.s + 1 - a.s in
    let n : ℕ → ℕ = λ s. last_degree shape range (s + a.s) + 1 - a.above in
    All-flat_map P (λ s. classes_in_row r (n s) s) (range_with_len 0 m) (All-range (λ s. All P (classes_in_row r (n s) s)) 0 m (λ s l b.
    All-flat_map P (classes_of r s) (range_with_len 0 (n s)) (All-range (λ k. All P (classes_of r s k)) 0 (n s) (λ k e f.
    let near : a.above + k ≤ last_degree shape range (s + a.s) = omega arith in
    let last = last_within range shape (s + a.s) in
    All-map P (class_at s k) (range_with_len 0 (count_of r s k)) (All-range (λ i. P (class_at s k i)) 0 (count_of r s k) (λ i c d.
    record { row = omega arith; degree = omega arith; near = near; number = omega arith }))))))

-- ---- two resolutions with the same numbers of classes in the range

pub flat_map-same : {X : Type 0} (f g : ℕ → List X) (a n : ℕ) → ((k : ℕ) → k < a + n → f k ≡ g k) → flat_map f (range_with_len a n) ≡ flat_map g (range_with_len a n)
flat_map-same f g a zero h = refl
flat_map-same f g a (suc n) h = cc (h a (omega arith), flat_map-same f g (a + 1) n (λ k l. h k (omega arith)))

pub factors-same : (r q : Resolution) (shape : Shape) (range : Range) (a : Class) → ((s k : ℕ) → s + a.s ≤ range.s → a.above + k ≤ last_degree shape range (s + a.s) → count_of r s k ≡ count_of q s k) → factors r shape range a ≡ factors q shape range a
factors-same r q shape range a same =
    let n : ℕ → ℕ = λ s. last_degree shape range (s + a.s) + 1 - a.above in
    flat_map-same (λ s. classes_in_row r (n s) s) (λ s. classes_in_row q (n s) s) 0 (range.s + 1 - a.s) (λ s l.
    flat_map-same (classes_of r s) (classes_of q s) 0 (n s) (λ k b.
    ap (λ (count : ℕ). map (class_at s k) (range_with_len 0 count)) (same s k (omega arith) (omega arith))))
