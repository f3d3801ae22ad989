-- The rows of a resolution, one square more at a time: their generators' degrees, images and kernels.
use Rattle.std.proofs.Common.{◌≡◌, inl, inr, ℕ, zero, suc, ◌+◌, ◌<◌, ◌≤◌, ℤ, pos, ◌-◌, ◌+ℤ◌, ◌-ℤ◌, ◌≤ℤ◌, ◌<ℤ◌, Bool, List, [], ◌∷◌, ◌++◌, length, map, take, drop, replicate, Option, refl, sym, ◌∙◌, ap, subst, arith}
use Rattle.std.proofs.lemmas.Int.{ints}
use Rattle.std.proofs.lemmas.Bool.{cases_lt}
use Rattle.std.proofs.lemmas.List.{length-take-le, append-nil, append_assoc, get_or_append_left, get_or-append_right, get_or-replicate, take_more, flat_map_more, length-append, length-replicate, length-map}
use Rattle.f2_vec.specs.Spans.{row, HaveWidth}
use Rattle.milnor_product.specs.Times.{basis_at}
use Rattle.free_module.specs.FreeModule.{free_basis_from, free_basis, free_width, degree_at, IsWithinReach}
use Rattle.free_module.specs.Graded.{GradedModule}
use Rattle.milnor_product.proofs.Multiples.{basis_at-negative}
use Rattle.free_module.proofs.FreeBasis.{free_basis_from-append}
use Rattle.free_module.specs.LinearMap.{map_rows, AreImages}
use Rattle.resolution_laws.specs.Resolution.{Module, Content, no_content, square_in, target_over, degrees_from, images_of, IsStepOver, IsStep, row_of, IsCanonicalTable, below_of}

-- each square of a row is the step over those before it and what it has below it
abbrev pub IsRowOver : Module → (ℕ → Option (List Content)) → List Content → Type 0
IsRowOver m below squares = (k : ℕ) → k < length squares → IsStep m (below k) (take k squares) (square_in squares k)

pub row_of-IsRowOver : (m : Module) (s t : ℕ) (table : List (List Content)) → IsCanonicalTable m s t table → (i : ℕ) → i ≤ s → IsRowOver m (below_of table i) (row_of table i)
row_of-IsRowOver m s t table p i h k l = let n = p.squares i h in p.steps i k h (omega arith)

pub degrees_from-push : (b : ℤ) (squares : List Content) (c : Content) → degrees_from b (squares ++ c ∷ []) ≡ degrees_from b squares ++ replicate (length c.images) (b +ℤ pos (length squares))
degrees_from-push b [] c =
    let e : b ≡ b +ℤ pos 0 = omega (arith, ints) in
    append-nil (replicate (length c.images) b) ∙ ap (replicate (length c.images)) e
degrees_from-push b (x ∷ squares) c =
    let e : (b +ℤ pos 1) +ℤ pos (length squares) ≡ b +ℤ pos (suc (length squares)) = omega (arith, ints) in
    let rest : degrees_from (b +ℤ pos 1) (squares ++ c ∷ []) ≡ degrees_from (b +ℤ pos 1) squares ++ replicate (length c.images) (b +ℤ pos (suc (length squares))) =
    degrees_from-push (b +ℤ pos 1) squares c ∙ ap (λ (t : ℤ). degrees_from (b +ℤ pos 1) squares ++ replicate (length c.images) t) e in
    ap (λ (z : List ℤ). replicate (length x.images) b ++ z) rest ∙ sym (append_assoc (replicate (length x.images) b) (degrees_from (b +ℤ pos 1) squares) (replicate (length c.images) (b +ℤ pos (suc (length squares)))))

pub images_of-push : (squares : List Content) (c : Content) → images_of (squares ++ c ∷ []) ≡ images_of squares ++ c.images
images_of-push squares c = sym (flat_map_more (λ (c : Content). c.images) [] squares c)

-- degree b is at most t, and t below b and n
pub record IsBetween (b : ℤ) (n : ℕ) (t : ℤ) : Type 0 where
  pub from : b ≤ℤ t
  pub below : t <ℤ (b +ℤ pos n)

-- each degree of a row from b on is between
pub degrees_from-between : (b : ℤ) (squares : List Content) (g : ℕ) → g < length (degrees_from b squares) → IsBetween b (length squares) (degree_at (degrees_from b squares) g)
degrees_from-between b [] g h = absurd (omega arith)
degrees_from-between b (x ∷ squares) g h =
    let n = length x.images in
    let here = replicate n b in
    let rest = degrees_from (b +ℤ pos 1) squares in
    let len : length here ≡ n = length-replicate n b in
    let whole = length-append here rest in
    elim (cases_lt g n) [
      | inl l ↦
          let e : degree_at (here ++ rest) g ≡ b = get_or_append_left here rest (pos 0) g (omega arith) ∙ get_or-replicate n g b (pos 0) l in
          subst (IsBetween b (suc (length squares))) (sym e) (record { from = omega (arith, ints); below = omega (arith, ints) })
      | inr l ↦
          let e : degree_at (here ++ rest) g ≡ degree_at rest (g - n) = get_or-append_right here rest n g (pos 0) len l in
          let p = degrees_from-between (b +ℤ pos 1) squares (g - n) (omega arith) in
          subst (IsBetween b (suc (length squares))) (sym e) (record { from = omega (arith, ints, p.from); below = omega (arith, ints, p.below) })
    ]

-- an image for each generator, and of a generator of degree t more for each new image
pub AreImages-more : (target : GradedModule) (degrees : List ℤ) (images new : List (List Bool)) (t : ℤ) → AreImages target degrees images → HaveWidth (target.width t) new → AreImages target (degrees ++ replicate (length new) t) (images ++ new)
AreImages-more target degrees images new t p w =
    let more = replicate (length new) t in
    let len : length more ≡ length new = length-replicate (length new) t in
    let one = p.one_each in
    record {
      one_each = length-append images new ∙ (omega arith ∙ sym (length-append degrees more));
      widths = λ g l. elim (cases_lt g (length degrees)) [
        | inl b ↦
            let e1 : row (images ++ new) g ≡ row images g = get_or_append_left images new [] g (omega arith) in
            let e2 : degree_at (degrees ++ more) g ≡ degree_at degrees g = get_or_append_left degrees more (pos 0) g b in
            ap length e1 ∙ (p.widths g b ∙ ap target.width (sym e2))
        | inr b ↦
            let i = g - length degrees in
            let whole = length-append degrees more in
            let h : i < length new = omega arith in
            let e1 : row (images ++ new) g ≡ row new i = get_or-append_right images new (length degrees) g [] one b in
            let e2 : degree_at (degrees ++ more) g ≡ t = get_or-append_right degrees more (length degrees) g (pos 0) refl b ∙ get_or-replicate (length new) i t (pos 0) h in
            ap length e1 ∙ (w i h ∙ ap target.width (sym e2))
      ];
    }

-- generators above degree t have nothing in that degree
pub free_basis_from-above : (g : ℕ) (b : ℤ) (squares : List Content) (t : ℤ) → t <ℤ b → free_basis_from g (degrees_from b squares) t ≡ []
free_basis_from-above g b squares t h = nothing g (degrees_from b squares) (λ k l. let p = degrees_from-between b squares k l in omega (arith, ints, p.from))
  where
    nothing : (g : ℕ) (ds : List ℤ) → ((k : ℕ) → k < length ds → t <ℤ degree_at ds k) → free_basis_from g ds t ≡ []
    nothing g [] l = refl
    nothing g (d ∷ ds) l =
        let above : t <ℤ d = l 0 (omega arith) in
        let none : basis_at (t -ℤ d) ≡ [] = sym (basis_at-negative (t -ℤ d) (omega (arith, ints))) in
        ap (λ (rs : List (List ℕ)). map (λ r. (g, r)) rs ++ free_basis_from (suc g) ds t) none ∙ nothing (suc g) ds (λ k m. l (suc k) (omega arith))

-- the degrees of the first n squares, and those of the others
pub degrees_from-split : (b : ℤ) (squares : List Content) (n : ℕ) → degrees_from b squares ≡ degrees_from b (take n squares) ++ degrees_from (b +ℤ pos n) (drop n squares)
degrees_from-split b squares zero = let e : b ≡ b +ℤ pos 0 = omega (arith, ints) in ap (λ (t : ℤ). degrees_from t squares) e
degrees_from-split b [] (suc n) = refl
degrees_from-split b (x ∷ squares) (suc n) =
    let e : (b +ℤ pos 1) +ℤ pos n ≡ b +ℤ pos (suc n) = omega (arith, ints) in
    let rest : degrees_from (b +ℤ pos 1) squares ≡ degrees_from (b +ℤ pos 1) (take n squares) ++ degrees_from (b +ℤ pos (suc n)) (drop n squares) =
    degrees_from-split (b +ℤ pos 1) squares n ∙ ap (λ (t : ℤ). degrees_from (b +ℤ pos 1) (take n squares) ++ degrees_from t (drop n squares)) e in
    ap (λ (z : List ℤ). replicate (length x.images) b ++ z) rest ∙ sym (append_assoc (replicate (length x.images) b) (degrees_from (b +ℤ pos 1) (take n squares)) (degrees_from (b +ℤ pos (suc n)) (drop n squares)))

-- in the degrees below that of square n, only the generators of the squares before it count
pub free_basis-take : (b : ℤ) (squares : List Content) (n : ℕ) (t : ℤ) → t <ℤ (b +ℤ pos n) → free_basis (degrees_from b squares) t ≡ free_basis (degrees_from b (take n squares)) t
free_basis-take b squares n t h =
    let front = degrees_from b (take n squares) in
    let back = degrees_from (b +ℤ pos n) (drop n squares) in
    let none : free_basis_from (0 + length front) back t ≡ [] = free_basis_from-above (0 + length front) (b +ℤ pos n) (drop n squares) t h in
    ap (λ (ds : List ℤ). free_basis ds t) (degrees_from-split b squares n)
    ∙ (free_basis_from-append 0 front back t ∙ (ap (λ (z : List (ℕ × List ℕ)). free_basis front t ++ z) none ∙ append-nil (free_basis front t)))

-- the kernels of a row are of the dimension of its free module in their degree
pub HaveWidth-kernels : (m : Module) (below : ℕ → Option (List Content)) (squares : List Content) → IsRowOver m below squares → (k : ℕ) → k < length squares → HaveWidth (free_width (degrees_from m.bottom squares) (m.bottom +ℤ pos k)) (square_in squares k).kernel
HaveWidth-kernels m below squares p k l =
    let b = m.bottom in
    let c = square_in squares k in
    let len : length (take k squares) ≡ k = length-take-le k squares (omega arith) in
    let t = b +ℤ pos (length (take k squares)) in
    let at : t ≡ b +ℤ pos k = ap (λ i. b +ℤ pos i) len in
    let degrees : degrees_from b (take k squares) ++ replicate (length c.images) t ≡ degrees_from b (take (k + 1) squares) =
    sym (degrees_from-push b (take k squares) c) ∙ ap (degrees_from b) (sym (take_more squares k no_content l)) in
    let wide = (p k l).kernel.widths in
    let count : length (map_rows (target_over m (below k)) (degrees_from b (take k squares) ++ replicate (length c.images) t) (images_of (take k squares) ++ c.images) t) ≡ free_width (degrees_from b squares) (b +ℤ pos k) =
    length-map (free_basis (degrees_from b (take k squares) ++ replicate (length c.images) t) t) _
    ∙ (ap (λ (ds : List ℤ). free_width ds t) degrees
    ∙ (ap (λ (u : ℤ). free_width (degrees_from b (take (k + 1) squares)) u) at
    ∙ ap length (sym (free_basis-take b squares (k + 1) (b +ℤ pos k) (omega (arith, ints)))))) in
    subst (λ n. HaveWidth n c.kernel) count wide

-- degree b + k is at most k above each generator of a row from b on
pub IsWithinReach-row : (b : ℤ) (squares : List Content) (k max : ℕ) (gens : List ℤ) (t : ℤ) → t ≡ b +ℤ pos k → gens ≡ degrees_from b squares → k ≤ max → IsWithinReach max gens t
IsWithinReach-row b squares k max gens t e f h =
    let P : List ℤ → Type 0 = λ z. IsWithinReach max z t in
    let Q : ℤ → Type 0 = λ u. IsWithinReach max (degrees_from b squares) u in
    subst P (sym f) (subst Q (sym e) (λ g l. let p = degrees_from-between b squares g l in omega (arith, ints, p.from)))

-- the generators of k squares from b on are below degree b + k
pub at_most-row : (b : ℤ) (squares : List Content) (k : ℕ) (gens : List ℤ) (t : ℤ) → t ≡ b +ℤ pos k → gens ≡ degrees_from b squares → length squares ≡ k → (g : ℕ) → g < length gens → degree_at gens g ≤ℤ t
at_most-row b squares k gens t e f len =
    let P : List ℤ → Type 0 = λ z. (g : ℕ) → g < length z → degree_at z g ≤ℤ t in
    let Q : ℤ → Type 0 = λ u. (g : ℕ) → g < length (degrees_from b squares) → degree_at (degrees_from b squares) g ≤ℤ u in
    subst P (sym f) (subst Q (sym e) (λ g l. let p = degrees_from-between b squares g l in omega (arith, ints, p.below, len)))

-- the degrees and the images of one square more
pub degrees_from-more : (b : ℤ) (squares more : List Content) (c : Content) (k : ℕ) (gens wider : List ℤ) (t : ℤ) → more ≡ squares ++ c ∷ [] → length squares ≡ k → t ≡ b +ℤ pos k → gens ≡ degrees_from b squares → wider ≡ gens ++ replicate (length c.images) t → wider ≡ degrees_from b more
degrees_from-more b squares more c k gens wider t m len e f h =
    let at : t ≡ b +ℤ pos (length squares) = e ∙ ap (λ i. b +ℤ pos i) (sym len) in
    h ∙ (ap (λ (z : List ℤ). z ++ replicate (length c.images) t) f
    ∙ (ap (λ (u : ℤ). degrees_from b squares ++ replicate (length c.images) u) at
    ∙ (sym (degrees_from-push b squares c) ∙ ap (degrees_from b) (sym m))))

pub images_of-more : (squares more : List Content) (c : Content) (images wider : List (List Bool)) → more ≡ squares ++ c ∷ [] → images ≡ images_of squares → wider ≡ images ++ c.images → wider ≡ images_of more
images_of-more squares more c images wider m f h =
    h ∙ (ap (λ (z : List (List Bool)). z ++ c.images) f ∙ (sym (images_of-push squares c) ∙ ap images_of (sym m)))

-- a step over a row from degree b on, put at its end
pub record IsExtended (target : GradedModule) (b : ℤ) (squares : List Content) (candidates : List (List Bool)) (k : ℕ) (more : List Content) : Type 0 where
  pub before : take k more ≡ squares
  pub len : length more ≡ k + 1
  pub step : IsStepOver target (degrees_from b squares) (images_of squares) candidates (b +ℤ pos k) (square_in more k)
  pub images : AreImages target (degrees_from b more) (images_of more)
