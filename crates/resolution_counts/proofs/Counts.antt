-- Two minimal tables of a module have equally many generators at each square.
use Rattle.std.proofs.Common.{◌≡◌, ℕ, zero, suc, ◌+◌, ◌<◌, ◌≤◌, ℤ, pos, ◌+ℤ◌, List, ◌++◌, length, map, take, replicate, refl, sym, ◌∙◌, ap, arith, add-one}
use Rattle.std.proofs.lemmas.Int.{ints}
use Rattle.std.proofs.lemmas.List.{map-id, take_more, length-take-le, length-append}
use Rattle.f2_vec.specs.Spans.{combination}
use Rattle.milnor_product.specs.Times.{basis_at}
use Rattle.free_module.specs.FreeModule.{free_basis_from, free_basis, free_width}
use Rattle.free_module.proofs.FreeBasis.{free_basis_from-append}
use Rattle.resolution_laws.specs.Resolution.{Module, Content, no_content, square_in, degrees_from, row_of}
use Rattle.resolution_laws.specs.Exactness.{degrees_in}
use Rattle.resolution_laws.proofs.NewGenerators.{minus_self}
use Rattle.resolution_laws.proofs.Rows.{degrees_from-push, free_basis-take}
use Rattle.resolution_counts.specs.Counts.{MinimalTablesHaveSameCounts, MinimalResolutionsHaveSameCounts}
use Rattle.resolution_counts.proofs.Compare.{IsComparison, ArePair, lift, not_fewer, next}

-- ---- the dimensions are the same

on_module : (m : Module) (t : ℕ) (a b : List (List Content)) → IsComparison m t a b 0
on_module m t a b = record {
  f = λ d v. v;
  is_map = record {
    fits = λ d v e. e;
    linear = λ d c rows w. ap (combination (m.graded.width d) c) (sym (map-id rows));
    acts = λ r d v trimmed e. refl;
  };
  into = λ k c v e. e;
  onto = λ k c w e. (w, e, refl);
  one_one = λ k c v e none. none;
}

turned : (m : Module) (s t : ℕ) (a b : List (List Content)) → ArePair m s t a b → ArePair m s t b a
turned m s t a b p = record { steenrod = p.steenrod; left = p.right; right = p.left }

record AreCompared (m : Module) (t : ℕ) (a b : List (List Content)) (i : ℕ) : Type 0 where
  there : IsComparison m t a b i
  back : IsComparison m t b a i

same_widths : (m : Module) (s t : ℕ) (a b : List (List Content)) → ArePair m s t a b → (i : ℕ) → i ≤ s → AreCompared m t a b i → (k : ℕ) → k ≤ t → free_width (degrees_in m a i) (m.bottom +ℤ pos k) ≡ free_width (degrees_in m b i) (m.bottom +ℤ pos k)
same_widths m s t a b pair i h p k c =
    let one = not_fewer m s t a b pair i h p.there (lift m s t a b pair i h p.there) k c in
    let two = not_fewer m s t b a (turned m s t a b pair) i h p.back (lift m s t b a (turned m s t a b pair) i h p.back) k c in
    omega arith

compared : (m : Module) (s t : ℕ) (a b : List (List Content)) → ArePair m s t a b → (i : ℕ) → i ≤ s → AreCompared m t a b i
compared m s t a b pair zero h = record { there = on_module m t a b; back = on_module m t b a }
compared m s t a b pair (suc i) h =
    let l : i ≤ s = omega arith in
    let p = compared m s t a b pair i l in
    let same = same_widths m s t a b pair i l p in
    let pair' = turned m s t a b pair in
    record {
      there = next m s t a b pair i l p.there (lift m s t a b pair i l p.there) same;
      back = next m s t b a pair' i l p.back (lift m s t b a pair' i l p.back) (λ k c. sym (same k c));
    }

-- ---- and so are the counts

new_count : (g n : ℕ) (u : ℤ) → length (free_basis_from g (replicate n u) u) ≡ n
new_count g zero u = refl
new_count g (suc n) u =
    let rest = free_basis_from (suc g) (replicate n u) u in
    ap (λ (z : ℤ). length (map (λ r. (g, r)) (basis_at z) ++ rest)) (minus_self u) ∙ ap suc (new_count (suc g) n u)

-- the dimension in the degree of a square is that on the generators before it and one for each new generator
pub width_here : (b : ℤ) (squares : List Content) (k : ℕ) → k < length squares → free_width (degrees_from b squares) (b +ℤ pos k) ≡ free_width (degrees_from b (take k squares)) (b +ℤ pos k) + length (square_in squares k).images
width_here b squares k l =
    let u = b +ℤ pos k in
    let c = square_in squares k in
    let before = degrees_from b (take k squares) in
    let len : length (take k squares) ≡ k = length-take-le k squares (omega arith) in
    let through : degrees_from b (take (k + 1) squares) ≡ before ++ replicate (length c.images) u =
    ap (degrees_from b) (take_more squares k no_content l) ∙ (degrees_from-push b (take k squares) c ∙ ap (λ (j : ℕ). before ++ replicate (length c.images) (b +ℤ pos j)) len) in
    let new = replicate (length c.images) u in
    ap length (free_basis-take b squares (k + 1) u (omega (arith, ints)))
    ∙ (ap (λ (z : List ℤ). free_width z u) through
    ∙ (ap length (free_basis_from-append 0 before new u)
    ∙ (length-append (free_basis before u) (free_basis_from (0 + length before) new u)
    ∙ ap (λ n. free_width before u + n) (new_count (0 + length before) (length c.images) u))))

pub degrees_more : (b : ℤ) (squares : List Content) (k : ℕ) → k < length squares → degrees_from b (take (suc k) squares) ≡ degrees_from b (take k squares) ++ replicate (length (square_in squares k).images) (b +ℤ pos k)
degrees_more b squares k l =
    let c = square_in squares k in
    let len : length (take k squares) ≡ k = length-take-le k squares (omega arith) in
    ap (λ n. degrees_from b (take n squares)) (sym (add-one k)) ∙ (ap (degrees_from b) (take_more squares k no_content l) ∙ (degrees_from-push b (take k squares) c ∙ ap (λ (j : ℕ). degrees_from b (take k squares) ++ replicate (length c.images) (b +ℤ pos j)) len))

module _ (b : ℤ) (t : ℕ) (xs ys : List Content) (x_len : length xs ≡ t + 1) (y_len : length ys ≡ t + 1) (same : (k : ℕ) → k ≤ t → free_width (degrees_from b xs) (b +ℤ pos k) ≡ free_width (degrees_from b ys) (b +ℤ pos k)) where
  count_here : (k : ℕ) → k ≤ t → degrees_from b (take k xs) ≡ degrees_from b (take k ys) → length (square_in xs k).images ≡ length (square_in ys k).images
  count_here k c e =
      let x = width_here b xs k (omega arith) in
      let y = width_here b ys k (omega arith) in
      let old : free_width (degrees_from b (take k xs)) (b +ℤ pos k) ≡ free_width (degrees_from b (take k ys)) (b +ℤ pos k) = ap (λ (z : List ℤ). free_width z (b +ℤ pos k)) e in
      let both = same k c in
      omega arith

  same_degrees : (k : ℕ) → k ≤ t → degrees_from b (take k xs) ≡ degrees_from b (take k ys)
  same_degrees zero c = refl
  same_degrees (suc k) c =
      let before = same_degrees k (omega arith) in
      let count = count_here k (omega arith) before in
      degrees_more b xs k (omega arith)
      ∙ (ap (λ (z : List ℤ). z ++ replicate (length (square_in xs k).images) (b +ℤ pos k)) before
      ∙ (ap (λ n. degrees_from b (take k ys) ++ replicate n (b +ℤ pos k)) count
      ∙ sym (degrees_more b ys k (omega arith))))

  pub same_counts : (k : ℕ) → k ≤ t → length (square_in xs k).images ≡ length (square_in ys k).images
  same_counts k c = count_here k c (same_degrees k c)

pub counts_are_same : MinimalTablesHaveSameCounts
counts_are_same m s t a b steenrod left right i k h c =
    let pair : ArePair m s t a b = record { steenrod = steenrod; left = left; right = right } in
    same_counts m.bottom t (row_of a i) (row_of b i) (left.is_table.squares i h) (right.is_table.squares i h) (same_widths m s t a b pair i h (compared m s t a b pair i h)) k c

pub resolution_counts : MinimalResolutionsHaveSameCounts
resolution_counts m s t a b steenrod left right i k h c =
    counts_are_same m s t a b steenrod
    (record { is_table = left.is_table; exact = left.exact; needed = left.needed })
    (record { is_table = right.is_table; exact = right.exact; needed = right.needed }) i k h c
