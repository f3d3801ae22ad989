-- Values that quasi-inverses give are a lift: their dimensions for all tables, and that d takes them to what it has to where
-- the squares are canonical.
use Rattle.std.proofs.Common.{◌≡◌, inl, inr, ℕ, zero, suc, ◌+◌, ◌<◌, ◌≤◌, Bool, true, ℤ, pos, ◌+ℤ◌, ◌-ℤ◌, ◌<ℤ◌, ◌≤ℤ◌, if◌then◌else◌, List, [], ◌∷◌, length, take, refl, ap, sym, subst, ◌∙◌, arith}
use Rattle.std.proofs.lemmas.Int.{ints}
use Rattle.std.proofs.lemmas.Bool.{cases_lt}
use Rattle.std.proofs.lemmas.Bool.Decides.{eqb_tells}
use Rattle.bidegree.specs.declared.range.Range.{Range}
use Rattle.f2_vec.specs.Vectors.{zeros}
use Rattle.f2_vec.proofs.Sums.{length-zeros}
use Rattle.free_module.specs.FreeModule.{free_width}
use Rattle.milnor_laws.proofs.FreeModules.{free_modules_are_modules}
use Rattle.resolution_laws.specs.Resolution.{Content, degrees_from, row_of}
use Rattle.resolution_laws.proofs.Generators.{length-images_of}
use Rattle.square.specs.Squares.{over, bottom_of}
use Rattle.square.specs.Tables.{Staircase, row_in, plain_rows, IsTable}
use Rattle.square.proofs.Places.{length-row_of}
use Rattle.lift_laws.specs.Maps.{shifted, FitThrough}
use Rattle.lift_laws.specs.Lifts.{Resolution, gens, degree, free, image, d, lowered, IsLift, IsSphere}
use Rattle.lift_laws.specs.Products.{first_of, count_of}
use Rattle.lift_laws.proofs.Linear.{length-extended, IsSteenrodModule-shifted}
use Rattle.lift_laws.proofs.Resolved.{IsResolved}
use Rattle.lift_laws.proofs.Existence.{cycle}
use Rattle.lift_laws.proofs.Cut.{degree-cut, image-cut, basis-cut, lowered-cut, IsLift-uncut}
use Rattle.chain_map.specs.Lifting.{IsInverseAt, chosen_preimage, resolution_of, LiftValues, row_values, joined, map_of, IsChosenFor, next_goal}
use Rattle.chain_map.specs.Classes.{through}
use Rattle.chain_map.specs.Inside.{class_of, goal_of, IsMade}
use Rattle.chain_map.proofs.Applied.{mapped-is}
use Rattle.chain_map.proofs.Classes.{rows_through}
use Rattle.chain_map.proofs.Generators.{is_number, images_taken, degree-below}
use Rattle.chain_map.proofs.Widths.{HasPlace, value_width}
use Rattle.square.proofs.Pushing.{never_rises}
use Rattle.chain_map.proofs.Resolved.{long-row}
use Rattle.chain_map.proofs.Preimages.{gives-of}

module _ (table sphere : Staircase) (h : IsTable table) (hq : IsTable sphere) (is_sphere : IsSphere (resolution_of sphere))
    (s above n far c count upto : ℕ) (lift : LiftValues) (made : IsMade table sphere s above n far c count lift)
    (long : n ≤ length (row_in table.rows (s + upto))) (enough : n ≤ above + far) (reach : far ≤ length (row_in sphere.rows upto)) (within : count ≤ upto + 1) where
  abbrev r : Resolution
  r = resolution_of table

  abbrev q : Resolution
  q = resolution_of sphere

  abbrev x : ℤ
  x = bottom_of table.resolved +ℤ pos above

  abbrev phi : ℕ → ℕ → List Bool
  phi = map_of lift

  long-at : (k : ℕ) → k ≤ upto → n ≤ length (row_of r.table (s + k))
  long-at k l =
      let more = never_rises table h (s + k) (s + upto) (omega arith) in
      omega (arith, length-row_of table.rows (s + k))

  reach-at : (k : ℕ) → k ≤ upto → far ≤ length (row_in sphere.rows k)
  reach-at k l = let more = never_rises sphere hq k upto l in omega arith

  -- the degrees of values are places of the sphere's rows, or below its bottom
  pub has-place : (k g : ℕ) → k ≤ upto → g < first_of r (s + k) n → HasPlace sphere k (degree r (s + k) g -ℤ x)
  has-place k g l b j e =
      let low = degree-below r (s + k) n g (long-at k l) b in
      let there = reach-at k l in
      let at : j < far = omega (arith, ints) in
      omega arith

  pub value-fits : (k g : ℕ) → k < count → g < length (joined (row_values lift k)) → length (phi k g) ≡ free_width (gens q k) (degree r (s + k) g -ℤ x)
  value-fits k g l b =
      let row_made = made.values k l in
      value_width sphere k (degree r (s + k) g -ℤ x) (has-place k g (omega arith) (omega arith)) (goal_of table sphere s above n far c lift k g) (phi k g) (row_made.chosen.each g b)

  -- ---- over canonical squares

  module _ (t tq : ℕ) (n_more : t + 1 ≤ n) (far_more : tq + 1 ≤ far) (near : t ≤ above + tq) (all : count ≡ upto + 1) (class_there : above < length (row_in table.rows s)) (class : c < count_of r s above)
      (inside : t < length (row_in table.rows (s + upto))) (inside_q : tq < length (row_in sphere.rows upto))
      (p : IsResolved (through (record { s = s + upto; t = t }) table) (s + upto) t) (o : IsResolved (through (record { s = upto; t = tq }) sphere) upto tq) where
    abbrev near_r : Range
    near_r = record { s = s + upto; t = t }

    abbrev near_q : Range
    near_q = record { s = upto; t = tq }

    abbrev rc : Resolution
    rc = through near_r table

    abbrev qc : Resolution
    qc = through near_q sphere

    abbrev top : ℤ
    top = bottom_of table.resolved +ℤ pos t

    abbrev z : ℕ → List Bool
    z = class_of table sphere s above c

    r_rows : (i : ℕ) → i ≤ s + upto → row_of rc.table i ≡ take (t + 1) (row_of r.table i)
    r_rows = rows_through table near_r

    q_rows : (i : ℕ) → i ≤ upto → row_of qc.table i ≡ take (tq + 1) (row_of q.table i)
    q_rows = rows_through sphere near_q

    -- the generators of the part are those with values
    with-value : (i g : ℕ) → i ≤ s + upto → g < length (gens rc i) → g < first_of r i (t + 1)
    with-value i g l b = omega (arith, ap (λ (w : List Content). length (degrees_from (bottom_of table.resolved) w)) (r_rows i l), length-images_of (bottom_of table.resolved) (take (t + 1) (row_of r.table i)))

    same-degree : (i g : ℕ) → i ≤ s + upto → g < length (gens rc i) → degree rc i g ≡ degree r i g
    same-degree i g l b = degree-cut (over table.resolved) (s + upto) (t + 1) (plain_rows table.rows) rc.table r_rows i g l b

    same-image : (i g : ℕ) → i ≤ s + upto → g < length (gens rc i) → image rc i g ≡ image r i g
    same-image i g l b = image-cut (over table.resolved) (s + upto) (t + 1) (plain_rows table.rows) rc.table r_rows i g l b

    low-degree : (i g : ℕ) → i ≤ s + upto → g < length (gens rc i) → degree rc i g <ℤ (bottom_of table.resolved +ℤ pos (t + 1))
    low-degree i g l b =
        let same = same-degree i g l b in
        let low = degree-below r i (t + 1) g (let len = long-row table h near_r inside i l in omega arith) (with-value i g l b) in
        omega (arith, ints)

    -- what was made, for a generator of the part
    chosen : (k g : ℕ) → k ≤ upto → g < length (gens rc (s + k)) → IsChosenFor sphere k (degree r (s + k) g -ℤ x) (goal_of table sphere s above n far c lift k g) (phi k g)
    chosen k g l b =
        let row_made = made.values k (omega arith) in
        let there = with-value (s + k) g (omega arith) b in
        row_made.chosen.each g (omega (arith, images_taken (row_of r.table (s + k)) (t + 1) n n_more))

    fits-part : (k g : ℕ) → k ≤ upto → g < length (gens rc (s + k)) → length (phi k g) ≡ free_width (gens qc k) (degree rc (s + k) g -ℤ x)
    fits-part k g l b =
        let i = s + k in
        let there = with-value i g (omega arith) b in
        let row_made = made.values k (omega arith) in
        let more = images_taken (row_of r.table i) (t + 1) n n_more in
        let same = same-degree i g (omega arith) b in
        let low = low-degree i g (omega arith) b in
        value-fits k g (omega arith) (omega arith)
        ∙ (ap (λ (u : ℤ). free_width (gens q k) (u -ℤ x)) (sym same)
        ∙ sym (ap length (basis-cut (over sphere.resolved) upto (tq + 1) (plain_rows sphere.rows) qc.table q_rows k (degree rc i g -ℤ x) l (omega (arith, ints)))))

    fit-part : (k i : ℕ) → k ≤ upto → i ≡ s + k → FitThrough (shifted x (free qc k)) (gens rc i) top (phi k)
    fit-part k i l e =
        let P : ℕ → Type 0 = λ i. FitThrough (shifted x (free qc k)) (gens rc i) top (phi k) in
        subst P (sym e) (λ g b low. fits-part k g l b)

    z-fits-at : (g : ℕ) → g < length (gens rc s) → length (z g) ≡ q.base.graded.width (degree r s g -ℤ x)
    z-fits-at g b = elim (eqb_tells g (first_of r s above + c)) [
      | inl m ↦
          let own = is_number r s above c (let len = length-row_of table.rows s in omega arith) class in
          let at : degree r s g -ℤ x ≡ pos 0 = omega (arith, ints, ap (degree r s) m.1 ∙ own.degree_is) in
          ap (λ (y : Bool). length (if y then true ∷ [] else zeros (q.base.graded.width (degree r s g -ℤ x)))) m.0 ∙ sym (ap q.base.graded.width at ∙ is_sphere.one)
      | inr m ↦ ap (λ (y : Bool). length (if y then true ∷ [] else zeros (q.base.graded.width (degree r s g -ℤ x)))) m.0 ∙ length-zeros (q.base.graded.width (degree r s g -ℤ x))
    ]

    z-fits : FitThrough (shifted x qc.base.graded) (gens rc s) top z
    z-fits g b low = z-fits-at g b ∙ ap (λ (u : ℤ). q.base.graded.width (u -ℤ x)) (sym (same-degree s g (omega arith) b))

    -- ---- the rows, one after the other

    first-start : (g : ℕ) → g < length (gens rc s) → degree rc s g ≤ℤ top → d qc 0 (degree rc s g -ℤ x) (phi 0 g) ≡ z g
    first-start g b low =
        let e : s + 0 ≡ s = omega arith in
        let P : ℕ → Type 0 = λ i. g < length (gens rc i) → IsChosenFor sphere 0 (degree r i g -ℤ x) (z g) (phi 0 g) in
        let made_here : IsChosenFor sphere 0 (degree r s g -ℤ x) (z g) (phi 0 g) = subst P e (chosen 0 g (omega arith)) b in
        let same = same-degree s g (omega arith) b in
        let Q : ℕ → Type 0 = λ i. g < length (gens rc i) → length (phi 0 g) ≡ free_width (gens qc 0) (degree rc i g -ℤ x) in
        let fits = subst Q e (fits-part 0 g (omega arith)) b in
        let S : ℤ → Type 0 = λ w. IsInverseAt sphere 0 (w -ℤ x) made_here.inverse in
        let low_g = low-degree s g (omega arith) b in
        gives-of sphere hq near_q inside_q o 0 (degree rc s g -ℤ x) (z g) (phi 0 g) made_here.inverse (omega arith) (omega (arith, ints)) (subst S (sym same) made_here.is) made_here.value fits (z-fits g b low) tt

    next-value : (k g : ℕ) → k < upto → IsLift rc qc s x z k top phi → g < length (gens rc (suc (s + k))) → degree rc (suc (s + k)) g ≤ℤ top → d qc (suc k) (degree rc (suc (s + k)) g -ℤ x) (phi (suc k) g) ≡ lowered rc (s + k) qc k x (phi k) (degree rc (suc (s + k)) g) (image rc (suc (s + k)) g)
    next-value k g l lift_k b low =
        let i = s + k in
        let e : s + suc k ≡ suc i = omega arith in
        let wanted = lowered rc i qc k x (phi k) (degree rc (suc i) g) (image rc (suc i) g) in
        let same = same-degree (suc i) g (omega arith) b in
        let im = same-image (suc i) g (omega arith) b in
        let u = degree rc (suc i) g -ℤ x in
        let P : ℕ → Type 0 = λ i'. g < length (gens rc i') → IsChosenFor sphere (suc k) (degree r i' g -ℤ x) (next_goal table sphere i k above n far (joined (row_values lift k)) g) (phi (suc k) g) in
        let made_here = subst P e (chosen (suc k) g (omega arith)) b in
        let Q : ℕ → Type 0 = λ i'. g < length (gens rc i') → length (phi (suc k) g) ≡ free_width (gens qc (suc k)) (degree rc i' g -ℤ x) in
        let fits = subst Q e (fits-part (suc k) g (omega arith)) b in
        let deg = degree r (suc i) g in
        let im_g = image r (suc i) g in
        let low_g = low-degree (suc i) g (omega arith) b in
        let goal_is : next_goal table sphere i k above n far (joined (row_values lift k)) g ≡ wanted =
        mapped-is table sphere i k above n far x (joined (row_values lift k)) (phi k) deg im_g refl (omega (arith, ints)) (omega (arith, ints)) (λ g l. refl)
        ∙ (sym (lowered-cut (over table.resolved) (over sphere.resolved) (s + upto) (t + 1) upto (tq + 1) (plain_rows table.rows) rc.table (plain_rows sphere.rows) qc.table r_rows q_rows i k x (phi k) deg im_g (omega arith) (omega arith) (omega (arith, ints)) (omega (arith, ints)))
        ∙ (ap (λ (w : ℤ). lowered rc i qc k x (phi k) w im_g) (sym same) ∙ ap (lowered rc i qc k x (phi k) (degree rc (suc i) g)) (sym im))) in
        let good = IsSteenrodModule-shifted x (free qc k) (free_modules_are_modules (gens qc k)) in
        let len : length wanted ≡ free_width (gens qc k) u = length-extended (shifted x (free qc k)) good (gens rc i) top (phi k) (lift_k.fit k i (omega arith) refl) (degree rc (suc i) g) (image rc (suc i) g) low in
        let reach_top : (top -ℤ x) ≤ℤ (qc.base.bottom +ℤ pos tq) = omega (arith, ints) in
        let cyc = cycle rc qc (s + upto) t upto tq p o (record { bottom = is_sphere.bottom; one = is_sphere.one; none = is_sphere.none }) s x top reach_top z z-fits k i phi lift_k refl (omega arith) (omega arith) g b low in
        let S : ℤ → Type 0 = λ w. IsInverseAt sphere (suc k) (w -ℤ x) made_here.inverse in
        gives-of sphere hq near_q inside_q o (suc k) u wanted (phi (suc k) g) made_here.inverse (omega arith) (omega (arith, ints)) (subst S (sym same) made_here.is) (made_here.value ∙ ap (chosen_preimage made_here.inverse) goal_is) fits len cyc

    lift-part : (k : ℕ) → k ≤ upto → IsLift rc qc s x z k top phi
    lift-part zero l = record { fit = λ k i b e. fit-part k i (omega arith) e; start = first-start; commutes = λ k i j b e f g there low. absurd (omega arith) }
    lift-part (suc k) l =
        let before = lift-part k (omega arith) in
        record {
          fit = λ m i b e. fit-part m i (omega arith) e;
          start = first-start;
          commutes = λ m i j b e f g there low. elim (cases_lt m k) [
            | inl small ↦ before.commutes m i j small e f g there low
            | inr big ↦
                let same : k ≡ m = omega arith in
                let at : s + k ≡ j = omega arith in
                let up : suc j ≡ i = sym f in
                let P : ℕ → Type 0 = λ j. g < length (gens rc (suc j)) → degree rc (suc j) g ≤ℤ top → d qc (suc k) (degree rc (suc j) g -ℤ x) (phi (suc k) g) ≡ lowered rc j qc k x (phi k) (degree rc (suc j) g) (image rc (suc j) g) in
                let Q : ℕ → Type 0 = λ i. g < length (gens rc i) → degree rc i g ≤ℤ top → d qc (suc k) (degree rc i g -ℤ x) (phi (suc k) g) ≡ lowered rc j qc k x (phi k) (degree rc i g) (image rc i g) in
                let R : ℕ → Type 0 = λ m. d qc (suc m) (degree rc i g -ℤ x) (phi (suc m) g) ≡ lowered rc j qc m x (phi m) (degree rc i g) (image rc i g) in
                subst R same (subst Q up (subst P at (next-value k g (omega arith) before)) there low)
          ];
        }

    pub is-lift : IsLift r q s x z upto top phi
    is-lift =
        IsLift-uncut (over table.resolved) (over sphere.resolved) (s + upto) (t + 1) upto (tq + 1) (plain_rows table.rows) rc.table (plain_rows sphere.rows) qc.table r_rows q_rows s x z upto top phi (omega arith) (omega arith) (omega (arith, ints)) (omega (arith, ints)) (lift-part upto (omega arith))
