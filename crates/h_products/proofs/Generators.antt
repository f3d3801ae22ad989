-- The first generators of a row.
use Rattle.std.proofs.Common.{◌≡◌, ℕ, ◌+◌, ◌<◌, ◌≤◌, ℤ, pos, ◌+ℤ◌, ◌≤ℤ◌, Bool, List, [], ◌∷◌, ◌++◌, length, map, take, drop, replicate, refl, ap, sym, subst, ◌∙◌, arith}
use Rattle.std.proofs.Math.Seq.{take-append-add}
use Rattle.std.proofs.lemmas.Int.{ints}
use Rattle.std.proofs.lemmas.List.{append_assoc, drop_more, length-replicate, length-take-le, length_push, replicate-append-replicate, take-append-le, take-replicate}
use Rattle.free_module.specs.FreeModule.{degree_at}
use Rattle.resolution_laws.specs.Resolution.{Content, no_content, square_in, degrees_from, images_of, row_of}
use Rattle.resolution_laws.proofs.Generators.{length-images_of}
use Rattle.resolution_laws.proofs.Rows.{degrees_from-between, degrees_from-push, degrees_from-split}
use Rattle.lift_laws.specs.Lifts.{Resolution, gens}
use Rattle.lift_laws.specs.Products.{first_of, count_of}
use Rattle.h_products.specs.ReadOff.{first_degrees}

module _ (r : Resolution) (s k : ℕ) (there : k < length (row_of r.table s)) where
  abbrev b : ℤ
  b = r.base.bottom

  abbrev squares : List Content
  squares = row_of r.table s

  abbrev before : List ℤ
  before = degrees_from b (take k squares)

  -- they are the beginning of the row's
  pub taken : (i : ℕ) → i ≤ count_of r s k → first_degrees r s k i ≡ take (first_of r s k + i) (gens r s)
  taken i l =
      let c = square_in squares k in
      let t : ℤ = b +ℤ pos k in
      let new = replicate (length c.images) t in
      let rest = degrees_from (t +ℤ pos 1) (drop (k + 1) squares) in
      let first = length-images_of b (take k squares) in
      let number : length before + i ≡ first_of r s k + i = ap (λ (n : ℕ). n + i) (sym first) in
      let whole : degrees_from b squares ≡ before ++ (new ++ rest) = degrees_from-split b squares k ∙ ap (λ (z : List Content). before ++ degrees_from t z) (drop_more squares k no_content there) in
      let enough : i ≤ length new = omega (arith, length-replicate (length c.images) t) in
      let last : take i (new ++ rest) ≡ replicate i t = take-append-le i new rest enough ∙ take-replicate i (length c.images) t l in
      sym (ap (λ (n : ℕ). take n (gens r s)) (sym number) ∙ (ap (take (length before + i)) whole ∙ (take-append-add before (new ++ rest) i ∙ ap (λ (z : List ℤ). before ++ z) last)))

  -- they are from the bottom through degree k above it
  pub record AreWithin (gs : List ℤ) : Type 0 where
    pub least : (g : ℕ) → g < length gs → b ≤ℤ degree_at gs g
    pub most : (g : ℕ) → g < length gs → degree_at gs g ≤ℤ (b +ℤ pos k)

  pub within : (i : ℕ) → AreWithin (first_degrees r s k i)
  within i =
      let nothing : List (List Bool) = replicate i [] in
      let c : Content = record { images = nothing; kernel = [] } in
      let len : length (take k squares) ≡ k = length-take-le k squares (omega arith) in
      let same : degrees_from b (take k squares ++ c ∷ []) ≡ first_degrees r s k i =
      degrees_from-push b (take k squares) c ∙ (ap (λ (n : ℕ). before ++ replicate (length nothing) (b +ℤ pos n)) len ∙ ap (λ (n : ℕ). before ++ replicate n (b +ℤ pos k)) (length-replicate i [])) in
      subst AreWithin same (record {
        least = λ g l. (degrees_from-between b (take k squares ++ c ∷ []) g l).from;
        most = λ g l. let p = (degrees_from-between b (take k squares ++ c ∷ []) g l).below in omega (arith, ints, p, len, length_push (take k squares) c);
      })

  -- one more of that degree
  pub one_more : (i : ℕ) (t : ℤ) → t ≡ b +ℤ pos k → first_degrees r s k i ++ t ∷ [] ≡ first_degrees r s k (i + 1)
  one_more i t e =
      let u : ℤ = b +ℤ pos k in
      ap (λ (z : ℤ). first_degrees r s k i ++ z ∷ []) e ∙ (append_assoc before (replicate i u) (u ∷ []) ∙ ap (λ (z : List ℤ). before ++ z) (replicate-append-replicate i 1 u))
