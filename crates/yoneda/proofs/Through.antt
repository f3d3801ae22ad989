-- The part of the tables through a range, and lifts over it.
use Rattle.std.proofs.Common.{◌≡◌, ℕ, ◌+◌, ◌≤◌, ℤ, pos, ◌+ℤ◌, ◌-ℤ◌, ◌≤ℤ◌, Bool, true, nat_eq, if◌then◌else◌, List, [], ◌∷◌, ap, sym, ◌∙◌, arith}
use Rattle.std.proofs.lemmas.Int.{ints}
use Rattle.bidegree.specs.declared.range.Range.{Range}
use Rattle.f2_vec.specs.Vectors.{bit, zeros}
use Rattle.square.specs.Squares.{over, bottom_of}
use Rattle.square.specs.Tables.{Staircase, plain_rows}
use Rattle.lift_laws.specs.Lifts.{Resolution, dual_of, degree}
use Rattle.lift_laws.specs.Products.{Class, first_of, count_of, number_of, degree_of_class, IsLiftOfClass, coefficient_of, on_square, product_by}
use Rattle.lift_laws.proofs.Sums.{IsLift-start}
use Rattle.lift_laws.proofs.Cut.{IsLift-cut, degree-cut}
use Rattle.chain_map.specs.Lifting.{resolution_of}
use Rattle.chain_map.specs.Classes.{through}
use Rattle.chain_map.proofs.Classes.{rows_through}
use Rattle.lift_laws.proofs.Counts.{first_of-less, count_of-less, old_width-less, on_square-less}
use Rattle.yoneda.proofs.Cut.{product_by-part}

module _ (table : Staircase) (range : Range) where
  abbrev r : Resolution
  r = resolution_of table

  abbrev rc : Resolution
  rc = through range table

  pub first_through : (k n : ℕ) → k ≤ range.s → n ≤ range.t → first_of rc k n ≡ first_of r k n
  first_through k n l b = first_of-less (over table.resolved) (plain_rows table.rows) rc.table k range.t (rows_through table range k l) n b

  pub count_through : (k n : ℕ) → k ≤ range.s → n ≤ range.t → count_of rc k n ≡ count_of r k n
  count_through k n l b = count_of-less (over table.resolved) (plain_rows table.rows) rc.table k range.t (rows_through table range k l) n b

  pub on_square_through : (k n : ℕ) (f : ℕ → Bool) → k ≤ range.s → n ≤ range.t → on_square rc k n f ≡ on_square r k n f
  on_square_through k n f l b = on_square-less (over table.resolved) (plain_rows table.rows) rc.table k range.t (rows_through table range k l) n f b

  pub coefficient_through : (a : Class) (v : List Bool) → a.s ≤ range.s → a.above ≤ range.t → coefficient_of rc a v ≡ coefficient_of r a v
  coefficient_through a v l b = ap (λ (old : ℕ). bit v (old + a.i)) (old_width-less (over table.resolved) (plain_rows table.rows) rc.table a.s range.t (rows_through table range a.s l) a.above b)

-- products and lifts over two tables, each through a range of its own
module _ (table sphere : Staircase) (range far : Range) where
  pub product_through : (a : Class) (k n : ℕ) (phi : ℕ → ℕ → List Bool) → k ≤ range.s → n ≤ range.t → a.s ≤ far.s → a.above ≤ far.t → product_by (through range table) (through far sphere) a phi k n ≡ product_by (resolution_of table) (resolution_of sphere) a phi k n
  product_through a k n phi l b l_q b_q = product_by-part (over table.resolved) (over sphere.resolved) (plain_rows table.rows) (through range table).table (plain_rows sphere.rows) (through far sphere).table range.t far.t k n a (rows_through table range k l) (rows_through sphere far a.s l_q) b b_q phi

  pub class_through : (c : Class) (upto : ℕ) (top less : ℤ) (phi : ℕ → ℕ → List Bool) → c.s + upto ≤ range.s → upto ≤ far.s → c.above ≤ range.t → less ≤ℤ top → less ≤ℤ (bottom_of table.resolved +ℤ pos range.t) → (less -ℤ (bottom_of table.resolved +ℤ pos c.above)) ≤ℤ (bottom_of sphere.resolved +ℤ pos far.t)
      → IsLiftOfClass (resolution_of table) (resolution_of sphere) c upto top phi → IsLiftOfClass (through range table) (through far sphere) c upto less phi
  class_through c upto top less phi rows rows_q small low in_range in_range_q lift =
      let r = resolution_of table in
      let q = resolution_of sphere in
      let rc = through range table in
      let qc = through far sphere in
      let x = degree_of_class r c in
      let cut = IsLift-cut (over table.resolved) (over sphere.resolved) range.s (range.t + 1) far.s (far.t + 1) (plain_rows table.rows) rc.table (plain_rows sphere.rows) qc.table (rows_through table range) (rows_through sphere far) c.s x (dual_of r q c.s x (number_of r c)) upto top less phi rows rows_q low (omega (arith, ints)) (omega (arith, ints)) lift in
      let number : number_of r c ≡ number_of rc c = ap (λ (n : ℕ). n + c.i) (sym (first_through table range c.s c.above (omega arith) small)) in
      IsLift-start rc qc c.s x (dual_of r q c.s x (number_of r c)) (dual_of rc qc c.s x (number_of rc c)) upto less phi
      (λ g there b.
      ap (λ (n : ℕ). let w : List Bool = if nat_eq g n then true ∷ [] else zeros (q.base.graded.width (degree r c.s g -ℤ x)) in w) number
      ∙ ap (λ (t : ℤ). let w : List Bool = if nat_eq g (number_of rc c) then true ∷ [] else zeros (q.base.graded.width (t -ℤ x)) in w) (sym (degree-cut (over table.resolved) range.s (range.t + 1) (plain_rows table.rows) rc.table (rows_through table range) c.s g (omega arith) there))) cut
