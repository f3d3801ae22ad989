-- The elements of Milnor's bases in order of degree, and the place of each.
use Rattle.std.proofs.Common.{◌≡◌, ℕ, zero, suc, ◌+◌, ◌-◌, ◌<◌, ◌≤◌, Bool, true, false, cond, List, [], ◌∷◌, ◌++◌, length, get_or, slice_get, Option, Some, None, option_map, position, nat_eq, flat_map, refl, ap, sym, subst, ◌∙◌, inl, inr, arith, length-append}
use Rattle.std.specs.List.{range_with_len, position_or_len}
use Rattle.std.specs.Cmp.Lexicographic.{pointwise, bytes_decides}
use Rattle.std.proofs.Math.Numerals.{add-one}
use Rattle.std.proofs.lemmas.Bool.{cases_lt, lt-ltb}
use Rattle.std.proofs.lemmas.List.{append-nil}
use Rattle.std.proofs.lemmas.List.Concat.{flat_map-append}
use Rattle.std.proofs.lemmas.List.Quantifiers.{position-Some}
use Rattle.std.proofs.lemmas.List.Sums.{position_or_len_is}
use Rattle.std.proofs.lemmas.Cmp.{nat_list_eq_equiv}
use Rattle.std.proofs.lemmas.Option.{slice_get_within, slice_get-get_or, get_or_from_slice_get, same_Some, none-some}
use Rattle.f2_vec.proofs.Ones.{range_more}
use Rattle.milnor_basis.specs.Exponents.{degree_of, entry, IsRightLexBelow}
use Rattle.milnor_basis.specs.Basis.{basis_of}
use Rattle.milnor_basis.proofs.BasisLemmas.{basis_is_milnors}
use Rattle.finite_module.specs.Module.{elements_below, place_of}
use Rattle.finite_module.specs.DerivedAction.{elements}

pub slice_get-append_left : {A : Type 0} (xs ys : List A) (i : ℕ) → i < length xs → slice_get (xs ++ ys) i ≡ slice_get xs i
slice_get-append_left [] ys i h = absurd (omega arith)
slice_get-append_left (x ∷ xs) ys zero h = refl
slice_get-append_left (x ∷ xs) ys (suc i) h = slice_get-append_left xs ys i (omega arith)

pub slice_get-append_right : {A : Type 0} (xs ys : List A) (i j : ℕ) → i ≡ length xs + j → slice_get (xs ++ ys) i ≡ slice_get ys j
slice_get-append_right [] ys i j e = let same : i ≡ j = omega arith in ap (slice_get ys) same
slice_get-append_right (x ∷ xs) ys zero j e = absurd (omega arith)
slice_get-append_right (x ∷ xs) ys (suc i) j e = slice_get-append_right xs ys i j (omega arith)

-- one degree more
pub elements_more : (n : ℕ) → elements (suc n) ≡ elements n ++ basis_of n
elements_more n =
    ap (λ k. flat_map basis_of (range_with_len 0 k)) (sym (add-one n)) ∙ ap (flat_map basis_of) (range_more 0 n n (omega arith)) ∙ flat_map-append basis_of (range_with_len 0 n) (n ∷ []) ∙ ap (λ xs. elements n ++ xs) (append-nil (basis_of n))

pub length-elements : (n : ℕ) → length (elements n) ≡ elements_below n
length-elements zero = refl
length-elements (suc n) =
    ap length (elements_more n) ∙ length-append (elements n) (basis_of n) ∙ ap (λ k. k + length (basis_of n)) (length-elements n)

elements_below-le : (n k : ℕ) → elements_below n ≤ elements_below (k + n)
elements_below-le n zero = let e : 0 + n ≡ n = omega arith in subst (λ m. elements_below n ≤ elements_below m) (sym e) (omega arith)
elements_below-le n (suc k) =
    let e : suc k + n ≡ suc (k + n) = omega arith in
    let ih : elements_below n ≤ elements_below (k + n) = elements_below-le n k in
    subst (λ m. elements_below n ≤ elements_below m) (sym e) (omega arith)

-- no degree has its elements before those of the degrees below it
pub elements_below_grow : (n m : ℕ) → n ≤ m → elements_below n ≤ elements_below m
elements_below_grow n m h =
    let e : m - n + n ≡ m = omega arith in
    subst (λ k. elements_below n ≤ elements_below k) e (elements_below-le n (m - n))

-- What the place of an element says: how far it stands in the basis of its degree.
pub record IsPlace (r : List ℕ) (p : ℕ) : Type 0 where
  pub inner : ℕ
  pub whole : p ≡ elements_below (degree_of r) + inner
  pub there : slice_get (basis_of (degree_of r)) inner ≡ Some r

placed : (r : List ℕ) (o : Option ℕ) (p : ℕ) → position (pointwise nat_eq r) (basis_of (degree_of r)) ≡ o → option_map (λ q. elements_below (degree_of r) + q) o ≡ Some p → IsPlace r p
placed r None p e h = absurd (none-some p h)
placed r (Some q) p e h =
    let found = position-Some (pointwise nat_eq r) (basis_of (degree_of r)) q [] e in
    let same : r ≡ get_or (basis_of (degree_of r)) q [] = (bytes_decides r (get_or (basis_of (degree_of r)) q [])).0 found.1 in
    record {
      inner = q;
      whole = sym (same_Some (elements_below (degree_of r) + q) p h);
      there = slice_get-get_or (basis_of (degree_of r)) q [] found.0 ∙ ap Some (sym same);
    }

pub place_is : (r : List ℕ) (p : ℕ) → place_of r ≡ Some p → IsPlace r p
place_is r p h = placed r (position (pointwise nat_eq r) (basis_of (degree_of r))) p refl h

pub elements_at : (n : ℕ) (r : List ℕ) (p : ℕ) → IsPlace r p → degree_of r < n → slice_get (elements n) p ≡ Some r
elements_at zero r p h d = absurd (omega arith)
elements_at (suc n) r p h d =
    let long : length (elements n) ≡ elements_below n = length-elements n in
    let split : slice_get (elements (suc n)) p ≡ slice_get (elements n ++ basis_of n) p = ap (λ xs. slice_get xs p) (elements_more n) in
    elim (cases_lt (degree_of r) n) [
      | inl below ↦
          let here : slice_get (elements n) p ≡ Some r = elements_at n r p h below in
          split ∙ slice_get-append_left (elements n) (basis_of n) p (slice_get_within (elements n) p r here) ∙ here
      | inr above ↦
          let same : degree_of r ≡ n = omega arith in
          let q : p ≡ length (elements n) + h.inner = h.whole ∙ ap (λ k. elements_below k + h.inner) same ∙ ap (λ k. k + h.inner) (sym long) in
          split ∙ slice_get-append_right (elements n) (basis_of n) p h.inner q ∙ ap (λ k. slice_get (basis_of k) h.inner) (sym same) ∙ h.there
    ]

-- what stands among the elements at the place of R is R
pub element_at_place : (n : ℕ) (r s : List ℕ) (p : ℕ) → place_of r ≡ Some p → slice_get (elements n) p ≡ Some s → s ≡ r
element_at_place n r s p h e =
    let at = place_is r p h in
    let within : p < length (elements n) = slice_get_within (elements n) p s e in
    let long : length (elements n) ≡ elements_below n = length-elements n in
    elim (cases_lt (degree_of r) n) [
      | inl below ↦ same_Some s r (sym e ∙ elements_at n r p at below)
      | inr above ↦
          let grown : elements_below n ≤ elements_below (degree_of r) = elements_below_grow n (degree_of r) above in
          let whole : p ≡ elements_below (degree_of r) + at.inner = at.whole in
          absurd (omega arith)
    ]

-- a place past the elements of the degrees below n
pub place_past : (n p : ℕ) (r : List ℕ) → place_of r ≡ Some p → n ≤ degree_of r → elements_below n ≤ p
place_past n p r h l =
    let at = place_is r p h in
    let whole : p ≡ elements_below (degree_of r) + at.inner = at.whole in
    omega (arith, elements_below_grow n (degree_of r) l)

-- An element stands once in the basis of its degree.
before_differs : (n i j : ℕ) → i < j → j < length (basis_of n) → pointwise nat_eq (get_or (basis_of n) j []) (get_or (basis_of n) i []) ≡ false
before_differs n i j l m = by (pointwise nat_eq (get_or (basis_of n) j []) (get_or (basis_of n) i [])) refl where
  by : (b : Bool) → pointwise nat_eq (get_or (basis_of n) j []) (get_or (basis_of n) i []) ≡ b → b ≡ false
  by false e = refl
  by true e =
      let below : IsRightLexBelow (get_or (basis_of n) i []) (get_or (basis_of n) j []) = (basis_is_milnors n).in_order i j l m in
      let same : get_or (basis_of n) j [] ≡ get_or (basis_of n) i [] = (bytes_decides (get_or (basis_of n) j []) (get_or (basis_of n) i [])).0 e in
      let smaller : entry (get_or (basis_of n) i []) below.place < entry (get_or (basis_of n) j []) below.place = below.smaller in
      let equal : entry (get_or (basis_of n) j []) below.place ≡ entry (get_or (basis_of n) i []) below.place = ap (λ r. entry r below.place) same in
      absurd (omega arith)

-- where an element stands in the basis of its degree tells its place
pub place_found : (n p : ℕ) (r : List ℕ) → n ≡ degree_of r → slice_get (basis_of n) p ≡ Some r → place_of r ≡ Some (elements_below n + p)
place_found n p r e h =
    let basis = basis_of n in
    let within : p < length basis = slice_get_within basis p r h in
    let at : get_or basis p [] ≡ r = get_or_from_slice_get basis p r [] h in
    let first : position_or_len (pointwise nat_eq r) basis ≡ p =
    position_or_len_is (pointwise nat_eq r) basis p [] (omega arith)
    (λ k l. subst (λ s. pointwise nat_eq s (get_or basis k []) ≡ false) at (before_differs n k p l within))
    (λ l. ap (pointwise nat_eq r) at ∙ nat_list_eq_equiv.refl r) in
    let found : position (pointwise nat_eq r) basis ≡ Some p = found_at (pointwise nat_eq r) basis p first within in
    rw (← e) (ap (option_map (λ q. elements_below n + q)) found)
  where
    found_at : (f : List ℕ → Bool) (xs : List (List ℕ)) (p : ℕ) → position_or_len f xs ≡ p → p < length xs → position f xs ≡ Some p
    found_at f xs p e l = rw e (ap (λ b. cond b (Some p) None) (lt-ltb p (length xs) l))
