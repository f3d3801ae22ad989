-- The basis of a free module, block by block.
use Rattle.std.proofs.Common.{◌≡◌, ℕ, suc, ◌+◌, ◌-◌, ◌<◌, ◌≤◌, ℤ, pos, negsuc, ◌+ℤ◌, ◌-ℤ◌, List, [], ◌∷◌, ◌++◌, length, map, take, drop, get_or, Some, refl, sym, ◌∙◌, ap, subst, arith, inl, inr}
use Rattle.std.specs.List.{All, Contains, slice_get}
use Rattle.std.proofs.lemmas.Bool.{cases_lt}
use Rattle.std.proofs.lemmas.Int.{ints}
use Rattle.std.proofs.lemmas.List.{append_assoc, get_or_append_left, get_or-append_right, get_or-append-add, get_or-map, get_or_default, length-map, length-append, take_more, drop_more, take-append-drop, length-take-le}
use Rattle.std.proofs.lemmas.List.Elements.{All-from_get_or}
use Rattle.std.proofs.lemmas.Option.{slice_get-get_or, slice_get_within, get_or_from_slice_get}
use Rattle.milnor_basis.specs.Exponents.{entry, degree_of, IsTrimmed, IsRightLexBelow}
use Rattle.milnor_basis.proofs.BasisLemmas.{basis_is_milnors}
use Rattle.milnor_basis.proofs.Places.{basis_of-member}
use Rattle.milnor_product.specs.Times.{basis_at}
use Rattle.milnor_product.proofs.Multiples.{degree_of-basis_at}
use Rattle.free_module.specs.FreeModule.{degree_at, free_basis_from, free_basis, free_width}
use Rattle.free_module.specs.FreeBasis.{IsOfDegree, IsElementBelow, element, FreeBasisIsPairs}
use Rattle.free_module.specs.Inside.FreeLaws.{on, length-free_basis_from}

-- the generators of two lists
pub free_basis_from-append : (g : ℕ) (ds es : List ℤ) (t : ℤ) → free_basis_from g (ds ++ es) t ≡ free_basis_from g ds t ++ free_basis_from (g + length ds) es t
free_basis_from-append g [] es t = let P : ℕ → Type 0 = λ k. free_basis_from g es t ≡ free_basis_from k es t in let e : g ≡ g + 0 = omega arith in subst P e refl
free_basis_from-append g (d ∷ ds) es t =
    let e : suc g + length ds ≡ g + suc (length ds) = omega arith in
    let front = map (λ (r : List ℕ). let e : ℕ × List ℕ = (g, r) in e) (basis_at (t -ℤ d)) in
    let rest : free_basis_from (suc g) (ds ++ es) t ≡ free_basis_from (suc g) ds t ++ free_basis_from (g + suc (length ds)) es t =
    free_basis_from-append (suc g) ds es t ∙ ap (λ k. free_basis_from (suc g) ds t ++ free_basis_from k es t) e in
    ap (λ (z : List (ℕ × List ℕ)). front ++ z) rest ∙ sym (append_assoc front (free_basis_from (suc g) ds t) (free_basis_from (g + suc (length ds)) es t))

-- the elements of a generator, and those behind them
pub element-here : (k : ℕ) (d : ℤ) (ds : List ℤ) (t : ℤ) (i : ℕ) → i < length (basis_at (t -ℤ d)) → element (free_basis_from k (d ∷ ds) t) i ≡ (k, get_or (basis_at (t -ℤ d)) i [])
element-here k d ds t i l =
    let b = basis_at (t -ℤ d) in
    let w : i < length (on k b) = omega (arith, length-map {B = ℕ × List ℕ} b (λ r. (k, r))) in
    get_or_append_left (on k b) (free_basis_from (suc k) ds t) (0, []) i w ∙ get_or-map (λ r. (k, r)) b i [] (0, []) l

pub element-later : (k : ℕ) (d : ℤ) (ds : List ℤ) (t : ℤ) (i : ℕ) → length (basis_at (t -ℤ d)) ≤ i → element (free_basis_from k (d ∷ ds) t) i ≡ element (free_basis_from (suc k) ds t) (i - length (basis_at (t -ℤ d)))
element-later k d ds t i l =
    let b = basis_at (t -ℤ d) in
    get_or-append_right (on k b) (free_basis_from (suc k) ds t) (length b) i (0, []) (length-map b (λ r. (k, r))) l

trimmed-basis_at : (n : ℤ) (i : ℕ) → i < length (basis_at n) → IsTrimmed (get_or (basis_at n) i [])
trimmed-basis_at (pos n) i h = (basis_of-member n i h).0
trimmed-basis_at (negsuc n) i h = absurd (omega arith)

below-basis_at : (n : ℤ) (i j : ℕ) → i < j → j < length (basis_at n) → IsRightLexBelow (get_or (basis_at n) i []) (get_or (basis_at n) j [])
below-basis_at (pos n) i j l h = (basis_is_milnors n).in_order i j l h
below-basis_at (negsuc n) i j l h = absurd (omega arith)

-- e is an element of degree t on one of the generators of these degrees, which are numbered from k on
record IsFrom (k : ℕ) (ds : List ℤ) (t : ℤ) (e : ℕ × List ℕ) : Type 0 where
  place : ℕ
  within : place < length ds
  generator : e.0 ≡ k + place
  trimmed : IsTrimmed e.1
  degree : (degree_at ds place +ℤ pos (degree_of e.1)) ≡ t

element-from : (k : ℕ) (ds : List ℤ) (t : ℤ) (i : ℕ) → i < length (free_basis_from k ds t) → IsFrom k ds t (element (free_basis_from k ds t) i)
element-from k [] t i h = absurd (omega arith)
element-from k (d ∷ ds) t i h =
    let b = basis_at (t -ℤ d) in
    let n = length-free_basis_from k d ds t in
    elim (cases_lt i (length b)) [
      | inl l ↦
          let r = get_or b i [] in
          let e : pos (degree_of r) ≡ t -ℤ d = degree_of-basis_at (t -ℤ d) i l in
          subst (IsFrom k (d ∷ ds) t) (sym (element-here k d ds t i l)) (record {
            place = 0;
            within = omega arith;
            generator = omega arith;
            trimmed = trimmed-basis_at (t -ℤ d) i l;
            degree = omega (arith, ints);
          })
      | inr l ↦
          let f = element-from (suc k) ds t (i - length b) (omega arith) in
          let w : f.place < length ds = f.within in
          let g = f.generator in
          subst (IsFrom k (d ∷ ds) t) (sym (element-later k d ds t i l)) (record {
            place = suc f.place;
            within = omega arith;
            generator = g ∙ omega arith;
            trimmed = f.trimmed;
            degree = f.degree;
          })
    ]

in_order-from : (k : ℕ) (ds : List ℤ) (t : ℤ) (i j : ℕ) → i < j → j < length (free_basis_from k ds t) → IsElementBelow (element (free_basis_from k ds t) i) (element (free_basis_from k ds t) j)
in_order-from k [] t i j l h = absurd (omega arith)
in_order-from k (d ∷ ds) t i j l h =
    let b = basis_at (t -ℤ d) in
    let n = length-free_basis_from k d ds t in
    let Below : ℕ × List ℕ → ℕ × List ℕ → Type 0 = IsElementBelow in
    elim (cases_lt j (length b)) [
      | inl m ↦
          let e = element-here k d ds t i (omega arith) in
          let f = element-here k d ds t j m in
          subst (λ x. Below x (element (free_basis_from k (d ∷ ds) t) j)) (sym e) (subst (Below (k, get_or b i [])) (sym f) (inr (refl, below-basis_at (t -ℤ d) i j l m)))
      | inr m ↦
          let f = element-later k d ds t j m in
          let later = element-from (suc k) ds t (j - length b) (omega arith) in
          elim (cases_lt i (length b)) [
            | inl o ↦
                let e = element-here k d ds t i o in
                let g = later.generator in
                let less : k < (element (free_basis_from (suc k) ds t) (j - length b)).0 = omega arith in
                subst (λ x. Below x (element (free_basis_from k (d ∷ ds) t) j)) (sym e) (subst (Below (k, get_or b i [])) (sym f) (inl less))
            | inr o ↦
                let e = element-later k d ds t i o in
                subst (λ x. Below x (element (free_basis_from k (d ∷ ds) t) j)) (sym e) (subst (Below (element (free_basis_from (suc k) ds t) (i - length b))) (sym f) (in_order-from (suc k) ds t (i - length b) (j - length b) (omega arith) (omega arith)))
          ]
    ]

-- no element stands below itself
below_itself : (e f : ℕ × List ℕ) → e ≡ f → IsElementBelow e f → ⊥
below_itself e f same (inl l) = let g : e.0 ≡ f.0 = ap (λ x. x.0) same in omega arith
below_itself e f same (inr b) =
    let s = b.1 in
    let p = s.smaller in
    let h : entry e.1 s.place ≡ entry f.1 s.place = ap (λ x. entry x.1 s.place) same in
    omega arith

once-from : (ds : List ℤ) (t : ℤ) (i j : ℕ) → i < length (free_basis ds t) → j < length (free_basis ds t) → element (free_basis ds t) i ≡ element (free_basis ds t) j → i ≡ j
once-from ds t i j h l e =
    let a : ¬ (i < j) = λ m. below_itself (element (free_basis ds t) i) (element (free_basis ds t) j) e (in_order-from 0 ds t i j m l) in
    let b : ¬ (j < i) = λ m. below_itself (element (free_basis ds t) j) (element (free_basis ds t) i) (sym e) (in_order-from 0 ds t j i m h) in
    omega arith

-- the basis from the block of generator g on
pub free_basis-at : (ds : List ℤ) (t : ℤ) (g : ℕ) → g < length ds → free_basis ds t ≡ free_basis (take g ds) t ++ free_basis_from g (degree_at ds g ∷ drop (g + 1) ds) t
free_basis-at ds t g h =
    let at : drop g ds ≡ degree_at ds g ∷ drop (g + 1) ds = drop_more ds g (pos 0) h in
    let n : 0 + length (take g ds) ≡ g = omega (arith, length-take-le g ds (omega arith)) in
    ap (λ (xs : List ℤ). free_basis xs t) (sym (take-append-drop g ds))
    ∙ (free_basis_from-append 0 (take g ds) (drop g ds) t
    ∙ (ap (λ k. free_basis (take g ds) t ++ free_basis_from k (drop g ds) t) n ∙ ap (λ (xs : List ℤ). free_basis (take g ds) t ++ free_basis_from g xs t) at))

-- the block of generator g begins behind those of the generators before it
pub start_within : (ds : List ℤ) (t : ℤ) (g : ℕ) → g < length ds → free_width (take g ds) t + length (basis_at (t -ℤ degree_at ds g)) ≤ free_width ds t
start_within ds t g h =
    let rest = free_basis_from g (degree_at ds g ∷ drop (g + 1) ds) t in
    omega (arith, ap length (free_basis-at ds t g h), length-append (free_basis (take g ds) t) rest, length-free_basis_from g (degree_at ds g) (drop (g + 1) ds) t)

pub start_more : (ds : List ℤ) (t : ℤ) (g : ℕ) → g < length ds → free_width (take (g + 1) ds) t ≡ free_width (take g ds) t + length (basis_at (t -ℤ degree_at ds g))
start_more ds t g h =
    let d = degree_at ds g in
    let more : take (g + 1) ds ≡ take g ds ++ d ∷ [] = take_more ds g (pos 0) h in
    let split = free_basis_from-append 0 (take g ds) (d ∷ []) t in
    let last = free_basis_from (0 + length (take g ds)) (d ∷ []) t in
    ap (λ (xs : List ℤ). free_width xs t) more
    ∙ (ap length split ∙ (length-append (free_basis (take g ds) t) last ∙ omega (arith, length-free_basis_from (0 + length (take g ds)) d [] t)))

pub free_basis-place : (ds : List ℤ) (t : ℤ) (g p : ℕ) (r : List ℕ) → g < length ds → slice_get (basis_at (t -ℤ degree_at ds g)) p ≡ Some r → slice_get (free_basis ds t) (free_width (take g ds) t + p) ≡ Some (g, r)
free_basis-place ds t g p r h e =
    let d = degree_at ds g in
    let b = basis_at (t -ℤ d) in
    let rest = free_basis_from g (d ∷ drop (g + 1) ds) t in
    let front = free_basis (take g ds) t in
    let w : p < length b = slice_get_within b p r e in
    let inside : length front + p < length (free_basis ds t) = omega (arith, start_within ds t g h) in
    let pair : List ℕ → ℕ × List ℕ = λ y. (g, y) in
    let whole : element (free_basis ds t) (length front + p) ≡ (g, r) = ap (λ (xs : List (ℕ × List ℕ)). element xs (length front + p)) (free_basis-at ds t g h) ∙ (get_or-append-add front rest p (0, []) ∙ (element-here g d (drop (g + 1) ds) t p w ∙ ap pair (get_or_from_slice_get b p r [] e))) in
    slice_get-get_or (free_basis ds t) (length front + p) (0, []) inside ∙ ap Some whole

-- what the basis holds
held-IsOfDegree : (ds : List ℤ) (t : ℤ) (e : ℕ × List ℕ) → Contains (free_basis ds t) e → IsOfDegree ds t e
held-IsOfDegree ds t e c =
    let same : element (free_basis ds t) c.0 ≡ e = get_or_default (free_basis ds t) c.0 (0, []) e c.1 ∙ c.2 in
    let f = element-from 0 ds t c.0 c.1 in
    let g : f.place ≡ (element (free_basis ds t) c.0).0 = omega (arith, f.generator) in
    subst (IsOfDegree ds t) same (record {
      generator = subst (λ k. k < length ds) g f.within;
      trimmed = f.trimmed;
      degree = ap (λ k. degree_at ds k +ℤ pos (degree_of (element (free_basis ds t) c.0).1)) (sym g) ∙ f.degree;
    })

pub All-free_basis : (ds : List ℤ) (t : ℤ) → All (IsOfDegree ds t) (free_basis ds t)
All-free_basis ds t =
    All-from_get_or (IsOfDegree ds t) (free_basis ds t) (0, []) (λ i l.
    let e = element (free_basis ds t) i in
    held-IsOfDegree ds t e (i, l, get_or_default (free_basis ds t) i e (0, []) l))

IsOfDegree-held : (ds : List ℤ) (t : ℤ) (e : ℕ × List ℕ) → IsOfDegree ds t e → Contains (free_basis ds t) e
IsOfDegree-held ds t e o =
    let n = degree_of e.1 in
    let c = ((basis_is_milnors n).members e.1).1 (o.trimmed, refl) in
    let deg = o.degree in
    let z : pos n ≡ t -ℤ degree_at ds e.0 = omega (arith, ints) in
    let there : slice_get (basis_at (pos n)) c.0 ≡ Some e.1 = slice_get-get_or (basis_at (pos n)) c.0 e.1 c.1 ∙ ap Some c.2 in
    let q = free_width (take e.0 ds) t + c.0 in
    let place : slice_get (free_basis ds t) q ≡ Some e = free_basis-place ds t e.0 c.0 e.1 o.generator (ap (λ i. slice_get (basis_at i) c.0) (sym z) ∙ there) in
    (q, slice_get_within (free_basis ds t) q e place, get_or_from_slice_get (free_basis ds t) q e e place)

pub free_basis_is_pairs : FreeBasisIsPairs
free_basis_is_pairs ds t = record {
  members = λ e. (held-IsOfDegree ds t e, IsOfDegree-held ds t e);
  in_order = λ i j l h. in_order-from 0 ds t i j l h;
  once = once-from ds t;
}

-- what is read at a place of the basis is of its degree
pub read-IsOfDegree : (ds : List ℤ) (t : ℤ) (i : ℕ) (e : ℕ × List ℕ) → slice_get (free_basis ds t) i ≡ Some e → IsOfDegree ds t e
read-IsOfDegree ds t i e h =
    held-IsOfDegree ds t e (i, slice_get_within (free_basis ds t) i e h, get_or_from_slice_get (free_basis ds t) i e e h)

-- Sq(R) at its place in the block of its generator
pub block-place : (ds : List ℤ) (t : ℤ) (g n p : ℕ) (r : List ℕ) → (degree_at ds g +ℤ pos (degree_of r)) ≡ t → n ≡ degree_of r → slice_get (basis_at (pos n)) p ≡ Some r → slice_get (basis_at (t -ℤ degree_at ds g)) p ≡ Some r
block-place ds t g n p r e f h =
    let z : pos n ≡ t -ℤ degree_at ds g = omega (arith, ints) in
    ap (λ i. slice_get (basis_at i) p) (sym z) ∙ h
