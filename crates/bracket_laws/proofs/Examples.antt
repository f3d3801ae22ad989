-- The bracket <h0, h1, h0> of the sphere, by what the definitions give through row 2 and degree 4: it has the member h1^2, and no
-- other, as <h_i, h_(i+1), h_i> = h_(i+1)^2 says.
use Rattle.std.proofs.Common.{◌≡◌, ℕ, zero, suc, ◌+◌, ◌<◌, ◌≤◌, ℤ, pos, ◌≤ℤ◌, Bool, true, false, List, [], ◌∷◌, length, refl, sym, ap, subst, ◌∙◌, arith}
use Rattle.std.proofs.lemmas.Int.{ints}
use Rattle.std.proofs.lemmas.Bool.{true≢false, false≢true}
use Rattle.std.proofs.lemmas.List.{nil_from_length}
use Rattle.f2_vec.specs.Vectors.{bit, plus, sum_of}
use Rattle.f2_vec.specs.Spans.{row}
use Rattle.resolution_laws.specs.Resolution.{Content}
use Rattle.lift_laws.specs.Lifts.{Resolution, degree, image, d, lowered}
use Rattle.lift_laws.specs.Products.{Class, coefficients, product_by, IsLiftOfClass}
use Rattle.bracket_laws.specs.Brackets.{IsNullHomotopy, composed, dot, HasRoom, IsBracketMember, HasZeroProduct, HasZeroLower}

-- ---- the sphere: the field with two elements in degree 0, and the images of the generators of its canonical resolution

abbrev f2_width : ℤ → ℕ
f2_width (pos zero) = 1
f2_width t = 0

abbrev f2_action : List ℕ → ℤ → List Bool → List Bool
f2_action [] t v = v
f2_action (x ∷ r) t v = []

abbrev none : Content
none = record { images = []; kernel = [] }

abbrev of : List Bool → Content
of image = record { images = image ∷ []; kernel = [] }

-- d(0,0) = x0; d(1,1) = Sq(1)*(0,0), d(1,2) = Sq(2)*(0,0), d(1,4) = Sq(4)*(0,0); d(2,2) = Sq(1)*(1,1), d(2,4) = Sq(3)*(1,1) + Sq(2)*(1,2)
abbrev sphere : Resolution
sphere = record {
  base = record { bottom = pos 0; graded = record { width = f2_width; action = f2_action } };
  table =
      (of (true ∷ []) ∷ none ∷ none ∷ none ∷ none ∷ []) ∷
      (none ∷ of (true ∷ []) ∷ of (true ∷ []) ∷ none ∷ of (true ∷ false ∷ []) ∷ []) ∷
      (none ∷ none ∷ of (true ∷ false ∷ []) ∷ none ∷ of (true ∷ false ∷ true ∷ false ∷ []) ∷ []) ∷ [];
}

abbrev h0 : Class
h0 = record { s = 1; above = 1; i = 0 }

abbrev h1 : Class
h1 = record { s = 1; above = 2; i = 0 }

-- ---- a member

-- maps from row 1 and from row 2, by their values on the generators in order
abbrev maps : List (List Bool) → List (List Bool) → ℕ → ℕ → List Bool
maps first second zero g = row first g
maps first second (suc k) g = row second g

-- the lift of h0: (1,1) to (0,0); (2,2) to (1,1), (2,4) to Sq(1)*(1,2)
abbrev gamma : ℕ → ℕ → List Bool
gamma = maps ((true ∷ []) ∷ (false ∷ []) ∷ (false ∷ false ∷ []) ∷ []) ((true ∷ []) ∷ (false ∷ true ∷ []) ∷ [])

-- the lift of h1: (1,2) to (0,0); (2,4) to (1,2)
abbrev beta : ℕ → ℕ → List Bool
beta = maps ([] ∷ (true ∷ []) ∷ (false ∷ []) ∷ []) ([] ∷ (false ∷ true ∷ []) ∷ [])

-- beta after gamma takes (2,4) to Sq(1)*(0,0), which is d(1,1): the homotopy takes (2,4) to (1,1)
abbrev H : ℕ → ℕ → List Bool
H = maps ([] ∷ [] ∷ (false ∷ []) ∷ []) ([] ∷ (true ∷ []) ∷ [])

two : (P Q : ℕ → Type 0) → Q 0 → Q 1 → (g : ℕ) → g < 2 → P g → Q g
two P Q p q zero lt le = p
two P Q p q (suc zero) lt le = q
two P Q p q (suc (suc g)) lt le = absurd (omega arith)

three : (P Q : ℕ → Type 0) → Q 0 → Q 1 → Q 2 → (g : ℕ) → g < 3 → P g → Q g
three P Q p q r zero lt le = p
three P Q p q r (suc g) lt le = two (λ g. P (suc g)) (λ g. Q (suc g)) q r g (omega arith) le

-- what is asked of the maps from row 1 and from row 2, and of those from row 2 over row 1
in_rows : (P : ℕ → ℕ → Type 0) → P 0 1 → P 1 2 → (k i : ℕ) → k ≤ 1 → i ≡ 1 + k → P k i
in_rows P p q zero i le e = subst (P 0) (sym e) p
in_rows P p q (suc zero) i le e = subst (P 1) (sym e) q
in_rows P p q (suc (suc k)) i le e = absurd (omega arith)

over_rows : (P : ℕ → ℕ → ℕ → Type 0) → P 0 2 1 → (k i j : ℕ) → k < 1 → j ≡ 1 + k → i ≡ suc j → P k i j
over_rows P p zero i j lt e f = subst (λ i. P 0 i j) (sym f) (subst (λ j. P 0 (suc j) j) (sym e) p)
over_rows P p (suc k) i j lt e f = absurd (omega arith)

gamma_lift : IsLiftOfClass sphere sphere h0 1 (pos 4) gamma
gamma_lift = record { fit = in_rows _ (three _ _ refl refl refl) (two _ _ refl refl); start = three _ _ refl refl refl; commutes = over_rows _ (two _ _ refl refl) }

beta_lift : IsLiftOfClass sphere sphere h1 1 (pos 3) beta
beta_lift = record { fit = in_rows _ (three _ _ refl refl refl) (two _ _ refl refl); start = three _ _ refl refl refl; commutes = over_rows _ (two _ _ refl refl) }

homotopy : IsNullHomotopy sphere sphere 1 (pos 3) (composed sphere 1 (pos 2) (pos 1) beta gamma) 1 (pos 4) H
homotopy = record { fit = in_rows _ (three _ _ refl refl refl) (two _ _ refl refl); bounds = over_rows _ (two _ _ refl refl) }

-- the bracket lies in row 2 and degree 4, and is defined: h0 h1 and h1 h0 are zero
room : HasRoom 2 4 2 4 h0 h1 h0 1 1
room = record { last = 0; low = 0; a_row = refl; b_row = refl; n_row = refl; l_row = refl; rows_r = omega arith; rows_q = omega arith; degrees_r = omega arith; degrees_q = omega arith }

zero_product : HasZeroProduct sphere sphere h0 h1 h0 1 (pos 4)
zero_product = record { beta = beta; beta_lift = beta_lift; zero = λ i lt. absurd (omega arith) }

zero_lower : HasZeroLower sphere sphere h0 h1 h0 1 1 (pos 4) gamma
zero_lower = record { gamma_lift = gamma_lift; zero = λ i lt. absurd (omega arith) }

square : product_by sphere sphere h1 beta 2 4 ≡ true ∷ []
square = refl

member : IsBracketMember sphere sphere h0 h1 h0 1 1 (pos 4) (product_by sphere sphere h1 beta 2 4)
member = record { gamma = gamma; beta = beta; H = H; e = []; gamma_lift = gamma_lift; beta_lift = beta_lift; homotopy = homotopy; one_each = refl; value = refl }

-- ---- no other, whichever lifts, homotopy and e are taken

abbrev pair : List Bool → List Bool → ℕ → List Bool
pair u v zero = u
pair u v (suc g) = v

-- a lift of h0, with these values on (1,1), (1,2) and (2,4), takes (2,4) to Sq(1)*(1,2), or to this and Sq(2)*(1,1)
gamma_at : (u v w : List Bool) → length u ≡ 1 → length v ≡ 1 → length w ≡ 2 → d sphere 0 (pos 0) u ≡ true ∷ [] → d sphere 1 (pos 3) w ≡ lowered sphere 1 sphere 0 (pos 1) (pair u v) (pos 4) (image sphere 2 1) → bit w 1 ≡ true
gamma_at (a ∷ []) (b ∷ []) (x ∷ true ∷ []) k m n e f = refl
gamma_at (false ∷ []) (b ∷ []) (x ∷ false ∷ []) k m n e f = absurd (false≢true (ap (λ v. bit v 0) e))
gamma_at (true ∷ []) (false ∷ []) (false ∷ false ∷ []) k m n e f = absurd (false≢true (ap (λ v. bit v 0) f))
gamma_at (true ∷ []) (false ∷ []) (true ∷ false ∷ []) k m n e f = absurd (true≢false (ap (λ v. bit v 1) f))
gamma_at (true ∷ []) (true ∷ []) (false ∷ false ∷ []) k m n e f = absurd (false≢true (ap (λ v. bit v 1) f))
gamma_at (true ∷ []) (true ∷ []) (true ∷ false ∷ []) k m n e f = absurd (true≢false (ap (λ v. bit v 0) f))
gamma_at u v w k m n e f = absurd (omega arith)

-- so a homotopy, with these values on (1,1), (1,2) and (2,4), takes (2,4) to (1,1), where beta has the values u and v on (1,1) and (1,2)
H_at : (p q h u v w : List Bool) → length p ≡ 0 → length q ≡ 0 → length h ≡ 1 → length u ≡ 0 → length v ≡ 1 → length w ≡ 2 → d sphere 0 (pos 0) v ≡ true ∷ [] → bit w 1 ≡ true → sum_of (d sphere 1 (pos 1) h) (lowered sphere 1 sphere 0 (pos 3) (pair p q) (pos 4) (image sphere 2 1)) ≡ lowered sphere 1 sphere 0 (pos 2) (pair u v) (pos 3) w → h ≡ true ∷ []
H_at [] [] (true ∷ []) [] (a ∷ []) (x ∷ y ∷ []) i j k l m n e f g = refl
H_at [] [] (false ∷ []) [] (false ∷ []) (x ∷ y ∷ []) i j k l m n e f g = absurd (false≢true (ap (λ v. bit v 0) e))
H_at [] [] (false ∷ []) [] (true ∷ []) (x ∷ false ∷ []) i j k l m n e f g = absurd (false≢true f)
H_at [] [] (false ∷ []) [] (true ∷ []) (false ∷ true ∷ []) i j k l m n e f g = absurd (false≢true (ap (λ v. bit v 0) g))
H_at [] [] (false ∷ []) [] (true ∷ []) (true ∷ true ∷ []) i j k l m n e f g = absurd (false≢true (ap (λ v. bit v 0) g))
H_at p q h u v w i j k l m n e f g = absurd (omega arith)

only : (v : List Bool) → IsBracketMember sphere sphere h0 h1 h0 1 1 (pos 4) v → v ≡ true ∷ []
only v m =
    let le : degree sphere 2 1 ≤ℤ pos 4 = omega (arith, ints) in
    let w = m.gamma_lift.fit 1 2 (omega arith) refl 1 (omega arith) le in
    let low = m.gamma_lift.commutes 0 2 1 (omega arith) refl refl 1 (omega arith) le in
    let w_value = gamma_at (m.gamma 0 0) (m.gamma 0 1) (m.gamma 1 1) (m.gamma_lift.fit 0 1 (omega arith) refl 0 (omega arith) (omega (arith, ints))) (m.gamma_lift.fit 0 1 (omega arith) refl 1 (omega arith) (omega (arith, ints))) w (m.gamma_lift.start 0 (omega arith) (omega (arith, ints))) low in
    let h_value = H_at (m.H 0 0) (m.H 0 1) (m.H 1 1) (m.beta 0 0) (m.beta 0 1) (m.gamma 1 1) (m.homotopy.fit 0 1 (omega arith) refl 0 (omega arith) (omega (arith, ints))) (m.homotopy.fit 0 1 (omega arith) refl 1 (omega arith) (omega (arith, ints))) (m.homotopy.fit 1 2 (omega arith) refl 1 (omega arith) le) (m.beta_lift.fit 0 1 (omega arith) refl 0 (omega arith) (omega (arith, ints))) (m.beta_lift.fit 0 1 (omega arith) refl 1 (omega arith) (omega (arith, ints))) w (m.beta_lift.start 1 (omega arith) (omega (arith, ints))) w_value (m.homotopy.bounds 0 2 1 (omega arith) refl refl 1 (omega arith) le) in
    m.value ∙ ap (λ h. plus (bit h 0) (dot m.e (coefficients sphere 1 3 (m.gamma 1 1))) ∷ []) h_value ∙ ap (λ e. plus true (dot e (coefficients sphere 1 3 (m.gamma 1 1))) ∷ []) (nil_from_length m.e m.one_each)

zero_is_none : IsBracketMember sphere sphere h0 h1 h0 1 1 (pos 4) (false ∷ []) → ⊥
zero_is_none m = false≢true (ap (λ v. bit v 0) (only (false ∷ []) m))
