-- The images of a chart's rows as vectors of the free module on the row below, square by square.
use Rattle.std.proofs.Common.{◌≡◌, ℕ, ◌+◌, ℤ, pos, ◌+ℤ◌, List, [], ◌∷◌, ◌++◌, length, map, take, drop, replicate, get_or, refl, ap, ◌∙◌, arith, inl, inr}
use Rattle.std.proofs.lemmas.Bool.{cases_lt}
use Rattle.std.proofs.lemmas.List.{take_all, get_or_past}
use Rattle.free_module.specs.FreeModule.{free_width}
use Rattle.resolution_laws.specs.Resolution.{Content, no_content, degrees_from, square_in}
use Rattle.resolution_counts.proofs.Counts.{width_here}

-- the elements of the degree of square j are those on the squares before it, and its generators
pub width_at : (b : ℤ) (squares : List Content) (j : ℕ) → free_width (degrees_from b squares) (b +ℤ pos j) ≡ free_width (degrees_from b (take j squares)) (b +ℤ pos j) + length (square_in squares j).images
width_at b squares j = elim (cases_lt j (length squares)) [
  | inl l ↦ width_here b squares j l
  | inr l ↦
      let all : take j squares ≡ squares = take_all j squares l in
      let none : length (square_in squares j).images ≡ 0 = ap (λ (c : Content). length c.images) (get_or_past squares j no_content l) in
      let same = ap (λ (z : List Content). free_width (degrees_from b z) (b +ℤ pos j)) all in
      omega arith
]

-- squares with as many generators each are of the same degrees
pub degrees_by_count : (b : ℤ) (xs ys : List Content) → map (λ c. length c.images) xs ≡ map (λ c. length c.images) ys → degrees_from b xs ≡ degrees_from b ys
degrees_by_count b [] [] e = refl
degrees_by_count b [] (y ∷ ys) e = absurd (let l = ap length e in omega arith)
degrees_by_count b (x ∷ xs) [] e = absurd (let l = ap length e in omega arith)
degrees_by_count b (x ∷ xs) (y ∷ ys) e =
    let first : length x.images ≡ length y.images = ap (λ (ns : List ℕ). get_or ns 0 0) e in
    let rest : map (λ (c : Content). length c.images) xs ≡ map (λ c. length c.images) ys = ap (λ (ns : List ℕ). drop 1 ns) e in
    ap (λ n. replicate n b ++ degrees_from (b +ℤ pos 1) xs) first ∙ ap (λ (ds : List ℤ). replicate (length y.images) b ++ ds) (degrees_by_count (b +ℤ pos 1) xs ys rest)
