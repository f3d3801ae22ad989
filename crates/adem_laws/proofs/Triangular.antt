-- A system of equations mod 2, as many as unknowns, in which unknown i has the coefficient 1 in equation i and 0 in the
-- later ones, has exactly one solution.
use Rattle.std.specs.Prelude.{nat_eq}
use Rattle.std.proofs.Common.{◌≡◌, ℕ, zero, suc, ◌<◌, inl, inr, Bool, true, false, ◌&&◌, if◌then◌else◌, List, [], ◌∷◌, length, refl, sym, ◌∙◌, ap, arith}
use Rattle.std.proofs.Math.Bool as Booleans
use Rattle.std.proofs.lemmas.Bool.{and_right, cases_eq, eq-eqb, ne_eqb}
use Rattle.f2_vec.specs.Vectors.{bit, plus}
use Rattle.f2_vec.specs.Spans.{row, HaveWidth, combination}
use Rattle.f2_vec.proofs.Spans.{HaveWidth-tail, bit-combination-cons, bit-combination_zero}
use Rattle.milnor_basis.specs.Inside.Walk.{is_odd_below}
use Rattle.f2_vec.proofs.Sums.{plus-false}
use Rattle.milnor_basis.proofs.Parity.{is_odd_below-same, is_odd_below-none}
use Rattle.milnor_laws.proofs.SumsModTwo.{plus-cancel, is_odd_below-first}

plus_twice : (a b : Bool) → plus a (plus a b) ≡ b
plus_twice true true = refl
plus_twice true false = refl
plus_twice false b = refl

pub record IsTriangular (n : ℕ) (f : ℕ → ℕ → Bool) : Type 0 where
  pub own : (i : ℕ) → i < n → f i i ≡ true
  pub later : (i j : ℕ) → i < j → j < n → f i j ≡ false

-- the left side of equation j, with the values c of the unknowns
abbrev pub equation : ℕ → (ℕ → ℕ → Bool) → (ℕ → Bool) → ℕ → Bool
equation n f c j = is_odd_below (λ i. c i && f i j) n

shorter : (n : ℕ) (f : ℕ → ℕ → Bool) → IsTriangular (suc n) f → IsTriangular n f
shorter n f h = record { own = λ i l. h.own i (omega arith); later = λ i j l k. h.later i j l (omega arith) }

-- the last equation has the last unknown alone
last_alone : (n : ℕ) (f : ℕ → ℕ → Bool) → IsTriangular (suc n) f → (c : ℕ → Bool) → equation n f c n ≡ false
last_alone n f h c = is_odd_below-none (λ i. c i && f i n) n (λ i l. and_right (c i) (f i n) (h.later i n l (omega arith)))

last_is : (n : ℕ) (f : ℕ → ℕ → Bool) → IsTriangular (suc n) f → (c : ℕ → Bool) → equation (suc n) f c n ≡ c n
last_is n f h c =
    ap (plus (c n && f n n)) (last_alone n f h c) ∙ plus-false (c n && f n n) ∙ ap (λ b. c n && b) (h.own n (omega arith)) ∙ Booleans.and-true (c n)

-- a solution of the other equations, in which the last unknown is put, and the last unknown
module _ (n : ℕ) (f : ℕ → ℕ → Bool) (h : IsTriangular (suc n) f) (v : ℕ → Bool) (before : (c : ℕ → Bool) × ((j : ℕ) → j < n → equation n f c j ≡ plus (v n && f n j) (v j))) where
  whole : ℕ → Bool
  whole i = if nat_eq i n then v n else before.0 i

  last : whole n ≡ v n
  unfolding whole
  last = rw (eq-eqb n n refl) refl

  others : (i : ℕ) → i < n → whole i ≡ before.0 i
  unfolding whole
  others i l = rw (ne_eqb i n (λ e. omega arith)) refl

  solves : (j : ℕ) → j < suc n → equation (suc n) f whole j ≡ v j
  solves j l = elim (cases_eq j n) [
    | inl same ↦ ap (equation (suc n) f whole) same ∙ last_is n f h whole ∙ last ∙ ap v (sym same)
    | inr other ↦
        ap (λ b. plus (b && f n j) (equation n f whole j)) last
        ∙ ap (plus (v n && f n j)) (is_odd_below-same (λ i. whole i && f i j) (λ i. before.0 i && f i j) n (λ i k. ap (λ b. b && f i j) (others i k)) ∙ before.1 j (omega arith))
        ∙ plus_twice (v n && f n j) (v j)
  ]

pub solution : (n : ℕ) (f : ℕ → ℕ → Bool) → IsTriangular n f → (v : ℕ → Bool) → (c : ℕ → Bool) × ((j : ℕ) → j < n → equation n f c j ≡ v j)
solution zero f h v = (λ _. false, λ j l. absurd (omega arith))
solution (suc n) f h v =
    let before = solution n f (shorter n f h) (λ j. plus (v n && f n j) (v j)) in
    (whole n f h v before, solves n f h v before)

pub one_solution : (n : ℕ) (f : ℕ → ℕ → Bool) → IsTriangular n f → (c d : ℕ → Bool) → ((j : ℕ) → j < n → equation n f c j ≡ equation n f d j) → (i : ℕ) → i < n → c i ≡ d i
one_solution zero f h c d e i l = absurd (omega arith)
one_solution (suc n) f h c d e i l =
    let last : c n ≡ d n = sym (last_is n f h c) ∙ e n (omega arith) ∙ last_is n f h d in
    elim (cases_eq i n) [
      | inl same ↦ ap c same ∙ last ∙ ap d (sym same)
      | inr other ↦ one_solution n f (shorter n f h) c d (λ j k. plus-cancel (c n && f n j) (equation n f c j) (equation n f d j) (e j (omega arith) ∙ ap (λ b. plus (b && f n j) (equation n f d j)) (sym last))) i (omega arith)
    ]

-- a combination of rows is such a sum
pub bit-combination : (w : ℕ) (c : List Bool) (rows : List (List Bool)) (j : ℕ) → HaveWidth w rows → length c ≡ length rows → bit (combination w c rows) j ≡ is_odd_below (λ i. bit c i && bit (row rows i) j) (length rows)
bit-combination w [] [] j h e = bit-combination_zero w [] [] j h (λ i l. absurd (omega arith))
bit-combination w [] (r ∷ rows) j h e = absurd (omega arith)
bit-combination w (x ∷ c) [] j h e = absurd (omega arith)
bit-combination w (false ∷ c) (r ∷ rows) j h e =
    bit-combination w c rows j (HaveWidth-tail w r rows h) (omega arith)
    ∙ sym (is_odd_below-first (λ i. bit (false ∷ c) i && bit (row (r ∷ rows) i) j) (length rows))
bit-combination w (true ∷ c) (r ∷ rows) j h e =
    bit-combination-cons w c r rows j h
    ∙ ap (plus (bit r j)) (bit-combination w c rows j (HaveWidth-tail w r rows h) (omega arith))
    ∙ sym (is_odd_below-first (λ i. bit (true ∷ c) i && bit (row (r ∷ rows) i) j) (length rows))
