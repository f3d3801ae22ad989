-- How many generators of a row are of one degree.
use Rattle.std.proofs.Common.{◌≡◌, ℕ, zero, suc, ◌+◌, ◌<◌, ℤ, pos, ◌+ℤ◌, Bool, true, false, cond, List, [], ◌∷◌, length, replicate, refl, ◌∙◌, ap, arith}
use Rattle.std.specs.List.{filter}
use Rattle.std.specs.Ordering.{int_eq}
use Rattle.std.proofs.lemmas.Bool.{false_from_ne_true}
use Rattle.std.proofs.lemmas.Bool.Decides.{Decides-int_eq}
use Rattle.std.proofs.lemmas.Int.{ints}
use Rattle.std.proofs.lemmas.List.{get_or-replicate, length-append, length-replicate}
use Rattle.std.proofs.lemmas.List.Elements.{filter-append}
use Rattle.free_module.specs.FreeModule.{degree_at}
use Rattle.resolution_laws.specs.Resolution.{Content, square_in, row_of, degrees_from}
use Rattle.resolution_laws.proofs.Rows.{degrees_from-between}
use Rattle.resolution_counts.specs.Cochains.{GeneratorsAreCounted}

all_pass : (p : ℤ → Bool) (n : ℕ) (d : ℤ) → p d ≡ true → length (filter p (replicate n d)) ≡ n
all_pass p zero d e = refl
all_pass p (suc n) d e = ap (λ b. length (cond b (d ∷ filter p (replicate n d)) (filter p (replicate n d)))) e ∙ ap suc (all_pass p n d e)

none_passes : (p : ℤ → Bool) (ds : List ℤ) → ((g : ℕ) → g < length ds → p (degree_at ds g) ≡ false) → length (filter p ds) ≡ 0
none_passes p [] h = refl
none_passes p (d ∷ ds) h = ap (λ b. length (cond b (d ∷ filter p ds) (filter p ds))) (h 0 (omega arith)) ∙ none_passes p ds (λ g l. h (suc g) (omega arith))

other_degree : (d u : ℤ) → (d ≡ u → ⊥) → int_eq d u ≡ false
other_degree d u h = false_from_ne_true (int_eq d u) (λ e. h ((Decides-int_eq d u).0 e))

-- the generators of the first square, and those of the others
count_parts : (b u : ℤ) (c : Content) (squares : List Content) → length (filter (λ d. int_eq d u) (degrees_from b (c ∷ squares))) ≡ length (filter (λ d. int_eq d u) (replicate (length c.images) b)) + length (filter (λ d. int_eq d u) (degrees_from (b +ℤ pos 1) squares))
count_parts b u c squares =
    let p : ℤ → Bool = λ d. int_eq d u in
    let here = replicate (length c.images) b in
    let rest = degrees_from (b +ℤ pos 1) squares in
    ap length (filter-append p here rest) ∙ length-append (filter p here) (filter p rest)

count_at : (b u : ℤ) (squares : List Content) (k : ℕ) → u ≡ b +ℤ pos k → k < length squares → length (filter (λ d. int_eq d u) (degrees_from b squares)) ≡ length (square_in squares k).images
count_at b u [] k e l = absurd (omega arith)
count_at b u (c ∷ squares) zero e l =
    let n = length c.images in
    let p : ℤ → Bool = λ d. int_eq d u in
    let rest = degrees_from (b +ℤ pos 1) squares in
    let same : b ≡ u = omega (e, arith, ints) in
    let here : length (filter p (replicate n b)) ≡ n = all_pass p n b ((Decides-int_eq b u).1 same) in
    let none : length (filter p rest) ≡ 0 = none_passes p rest (λ g l. let above = degrees_from-between (b +ℤ pos 1) squares g l in other_degree (degree_at rest g) u (λ q. omega (q, e, arith, ints, above.from))) in
    count_parts b u c squares ∙ omega (here, none, arith)
count_at b u (c ∷ squares) (suc k) e l =
    let n = length c.images in
    let p : ℤ → Bool = λ d. int_eq d u in
    let same : u ≡ (b +ℤ pos 1) +ℤ pos k = omega (e, arith, ints) in
    let other : b ≡ u → ⊥ = λ q. omega (q, e, arith, ints) in
    let none : length (filter p (replicate n b)) ≡ 0 = none_passes p (replicate n b) (λ g l. let len = length-replicate n b in ap p (get_or-replicate n g b (pos 0) (omega arith)) ∙ other_degree b u other) in
    let rest = count_at (b +ℤ pos 1) u squares k same (omega arith) in
    count_parts b u c squares ∙ omega (none, rest, arith)

pub generators_counted : GeneratorsAreCounted
generators_counted m table s k l = count_at m.bottom (m.bottom +ℤ pos k) (row_of table s) k refl l
