-- What a value has to be a preimage of, by the numbers of generators and by their places in squares.
use Rattle.std.proofs.Common.{◌≡◌, inl, inr, ℕ, suc, ◌+◌, ◌<◌, ◌≤◌, Bool, true, false, ◌&&◌, nat_eq, if◌then◌else◌, ℤ, pos, ◌+ℤ◌, ◌-ℤ◌, ◌<ℤ◌, List, [], ◌∷◌, length, take, ap, sym, ◌∙◌, arith}
use Rattle.std.proofs.lemmas.Int.{ints}
use Rattle.std.proofs.lemmas.Bool.Decides.{eqb_tells}
use Rattle.f2_vec.specs.Vectors.{zeros}
use Rattle.f2_vec.specs.Spans.{row, unit_vector}
use Rattle.free_module.specs.FreeModule.{degree_at, free_width}
use Rattle.free_module.specs.Graded.{free_graded}
use Rattle.free_module.specs.LinearMap.{AreImages, mapped}
use Rattle.resolution_laws.specs.Resolution.{Content, degrees_from, row_of}
use Rattle.resolution_laws.proofs.Generators.{length-images_of}
use Rattle.square.specs.Squares.{over, bottom_of}
use Rattle.square.specs.Tables.{Staircase, row_in, plain_rows, content_at, IsTable}
use Rattle.square.proofs.Places.{length-row_of}
use Rattle.lift_laws.specs.Maps.{lowered_by}
use Rattle.lift_laws.specs.Lifts.{gens, degree, image, IsSphere}
use Rattle.lift_laws.specs.Products.{first_of, count_of}
use Rattle.lift_laws.proofs.Bridge.{basis-lowered}
use Rattle.chain_map.specs.Lifting.{lowered_row, resolution_of, LiftValues, row_values, joined, next_goal, target_of}
use Rattle.chain_map.specs.Inside.{class_of, class_value, IsMade, Reaches}
use Rattle.chain_map.proofs.Generators.{is_number, number_is_once, lowered-row, degree-below, degree-lowered}
use Rattle.chain_map.proofs.Widths.{image_widths, width-take}
use Rattle.chain_map.proofs.MadeLifts.{value-fits}

-- ---- the class, on number h of the square (s, n)

module _ (table sphere : Staircase) (s above class n h : ℕ) (is_sphere : IsSphere (resolution_of sphere))
    (there : above < length (row_of (plain_rows table.rows) s)) (class_there : class < count_of (resolution_of table) s above)
    (n_there : n < length (row_of (plain_rows table.rows) s)) (h_there : h < count_of (resolution_of table) s n) where
  abbrev number : ℕ
  number = first_of (resolution_of table) s above + class

  abbrev g : ℕ
  g = first_of (resolution_of table) s n + h

  abbrev width : ℕ
  width = (over sphere.resolved).graded.width (pos n -ℤ pos above)

  width-is : (resolution_of sphere).base.graded.width (degree (resolution_of table) s g -ℤ (bottom_of table.resolved +ℤ pos above)) ≡ width
  width-is =
      let at : degree (resolution_of table) s g -ℤ (bottom_of table.resolved +ℤ pos above) ≡ pos n -ℤ pos above = omega (arith, ints, (is_number (resolution_of table) s n h n_there h_there).degree_is) in
      ap (over sphere.resolved).graded.width at

  -- its own generator
  own-value : n ≡ above → h ≡ class → class_value width true ≡ class_of table sphere s above class g
  own-value same_n same_h =
      let zero : pos n -ℤ pos above ≡ pos 0 = omega (arith, ints) in
      let one : width ≡ 1 = ap (over sphere.resolved).graded.width zero ∙ is_sphere.one in
      let first : first_of (resolution_of table) s n ≡ first_of (resolution_of table) s above = ap (first_of (resolution_of table) s) same_n in
      elim (eqb_tells g number) [
        | inl m ↦ ap (λ (w : ℕ). unit_vector w 0) one ∙ sym (ap (λ (y : Bool). if y then true ∷ [] else zeros ((resolution_of sphere).base.graded.width (degree (resolution_of table) s g -ℤ (bottom_of table.resolved +ℤ pos above)))) m.0)
        | inr m ↦ absurd (m.1 (omega arith))
      ]

  -- another
  other-value : (n ≡ above → h ≡ class → ⊥) → class_value width false ≡ class_of table sphere s above class g
  other-value apart =
      elim (eqb_tells g number) [
        | inl m ↦ let once = number_is_once (resolution_of table) s n above h class n_there there h_there class_there m.1 in absurd (apart once.square once.place)
        | inr m ↦ sym (ap (λ (y : Bool). if y then true ∷ [] else zeros ((resolution_of sphere).base.graded.width (degree (resolution_of table) s g -ℤ (bottom_of table.resolved +ℤ pos above)))) m.0 ∙ ap zeros width-is)
      ]

  pub class_value_is : class_value width (nat_eq n above && nat_eq h class) ≡ class_of table sphere s above class g
  class_value_is =
      elim (eqb_tells n above) [
        | inl p ↦ elim (eqb_tells h class) [
          | inl q ↦ ap (class_value width) (ap (λ b. b && nat_eq h class) p.0 ∙ q.0) ∙ own-value p.1 q.1
          | inr q ↦ ap (class_value width) (ap (λ b. b && nat_eq h class) p.0 ∙ q.0) ∙ other-value (λ a b. q.1 b)
        ]
        | inr p ↦ ap (class_value width) (ap (λ b. b && nat_eq h class) p.0) ∙ other-value (λ a b. p.1 a)
      ]

-- ---- the map below, on the image of number h of the square (i + 1, m)

-- the dimension of a row's generators of lowered degrees
pub low_width : (b : ℤ) (squares : List Content) (a n : ℕ) (t u : ℤ) → t <ℤ (b +ℤ pos n) → u ≡ t -ℤ (b +ℤ pos a) → free_width (degrees_from (pos 0 -ℤ pos a) (take n squares)) u ≡ free_width (degrees_from b squares) t
low_width b squares a n t u l at =
    let ds = degrees_from b (take n squares) in
    ap (λ (z : List ℤ). free_width z u) (sym (lowered-row b a (take n squares)))
    ∙ (ap (free_width (lowered_by (b +ℤ pos a) ds)) at
    ∙ (ap length (basis-lowered (b +ℤ pos a) 0 ds t) ∙ width-take b squares n t l))

pub image_width : (table : Staircase) → IsTable table → (i above n m h : ℕ) (source : List ℤ) (v : List Bool) → m < n → m < length (row_in table.rows (suc i)) → h < count_of (resolution_of table) (suc i) m → source ≡ lowered_row table i n above → v ≡ row (content_at table.rows (suc i) m).images h → length v ≡ free_width source (pos m -ℤ pos above)
image_width table is i above n m h source v within there b same at =
    let b0 = bottom_of table.resolved in
    ap length at ∙ (image_widths table is i m there h b ∙ sym (ap (λ (z : List ℤ). free_width z (pos m -ℤ pos above)) same ∙ low_width b0 (row_of (plain_rows table.rows) i) above n (b0 +ℤ pos m) (pos m -ℤ pos above) (omega (arith, ints)) (omega (arith, ints))))

pub next_goal_is : (table sphere : Staircase) (i k above n far m h : ℕ) (source target : List ℤ) (images : List (List Bool)) (v : List Bool) → m < length (row_of (plain_rows table.rows) (suc i)) → h < count_of (resolution_of table) (suc i) m → source ≡ lowered_row table i n above → target ≡ target_of sphere k far → v ≡ row (content_at table.rows (suc i) m).images h
    → mapped (free_graded target) source images (pos m -ℤ pos above) v ≡ next_goal table sphere i k above n far images (first_of (resolution_of table) (suc i) m + h)
next_goal_is table sphere i k above n far m h source target images v there b source_is target_is at =
    let r = resolution_of table in
    let number = is_number r (suc i) m h there b in
    let x = bottom_of table.resolved +ℤ pos above in
    let g = first_of r (suc i) m + h in
    let low : pos m -ℤ pos above ≡ degree r (suc i) g -ℤ x = omega (arith, ints, number.degree_is) in
    let same : v ≡ image r (suc i) g = at ∙ sym number.image_is in
    cc

-- ---- values as images

-- vectors of F_k for the generators of the first n squares of row i
pub are_images : (table sphere : Staircase) (i k above n far : ℕ) (vectors : List (List Bool)) → IsSphere (resolution_of sphere) → n ≤ length (row_in table.rows i) → n ≤ above + far → length vectors ≡ first_of (resolution_of table) i n → ((g : ℕ) → g < length vectors → length (row vectors g) ≡ free_width (gens (resolution_of sphere) k) (degree (resolution_of table) i g -ℤ (bottom_of table.resolved +ℤ pos above))) → AreImages (free_graded (target_of sphere k far)) (lowered_row table i n above) vectors
are_images table sphere i k above n far vectors is_sphere here enough one widths =
    let r = resolution_of table in
    let b0 = bottom_of table.resolved in
    let squares = take n (row_of (plain_rows table.rows) i) in
    let size : length (lowered_row table i n above) ≡ first_of r i n = sym (length-images_of (pos 0 -ℤ pos above) squares) in
    let len = length-row_of table.rows i in
    record {
      one_each = one ∙ sym size;
      widths = λ g l.
          let there : g < first_of r i n = omega arith in
          let low = degree-below r i n g (omega arith) there in
          let u = degree r i g -ℤ (b0 +ℤ pos above) in
          let v : degree_at (lowered_row table i n above) g ≡ u = degree-lowered r i n above g there in
          widths g (omega arith) ∙ (sym (width-take (bottom_of sphere.resolved) (row_of (plain_rows sphere.rows) k) far u (omega (arith, ints))) ∙ ap (free_width (target_of sphere k far)) (sym v));
    }

-- the values of map k of a lift
pub values_are_images : (table sphere : Staircase) (s above n far c count k : ℕ) (lift : LiftValues) → IsSphere (resolution_of sphere) → Reaches table sphere s above (suc k) n far → IsMade table sphere s above n far c count lift → count ≡ suc k → AreImages (free_graded (target_of sphere k far)) (lowered_row table (s + k) n above) (joined (row_values lift k))
values_are_images table sphere s above n far c count k lift is_sphere reaches made count_is =
    let i = s + k in
    let rise = reaches.is_table.never_rise i in
    let e : s + suc k ≡ suc i = omega arith in
    let same_row = ap (λ (z : ℕ). length (row_in table.rows z)) e in
    are_images table sphere i k above n far (joined (row_values lift k)) is_sphere (omega arith) reaches.enough (made.values k (omega arith)).chosen.one_each
    (λ g l. value-fits table sphere reaches.is_table reaches.is_sphere_table is_sphere s above n far c count (suc k) lift made reaches.here reaches.enough reaches.there (omega arith) k g (omega arith) l)
