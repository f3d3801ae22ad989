-- What is had where nothing is refused: a class is there, and a square is in the range.
use Rattle.std.proofs.Common.{◌≡◌, ℕ, ℤ, pos, ◌+ℤ◌, ◌≤ℤ◌, Bool, true, false, refl, sym, ◌∙◌, arith}
use Rattle.std.specs.Prelude.{Some, None, option_map, nat_lt, int_lt, if◌then◌else◌}
use Rattle.std.proofs.lemmas.Bool.{true≢false, or_parts}
use Rattle.std.proofs.lemmas.Bool.Decides.{nat_tests}
use Rattle.std.proofs.lemmas.Int.{ints, by_lt_z}
use Rattle.bidegree.specs.Above.{above_of}
use Rattle.bidegree.specs.declared.range.Range.{Range}
use Rattle.bidegree.specs.declared.class.Class.{Class}
use Rattle.lift_laws.specs.Lifts.{Resolution}
use Rattle.chain_map.specs.Classes.{class_count, passes, no_class, out_of_range}
use Rattle.ext_products.specs.declared.refusal.Refusal.{Refusal}
use Rattle.ext_products.proofs.Answers.{IsFound, found}

count_of-none : (found : Bool) (n : ℕ) (f : ℕ → Refusal) → option_map f (if found then None else Some n) ≡ None → found ≡ true
count_of-none true n f e = refl
count_of-none false n f e = absurd (cc)

pub found_there : (c : Class) (r : Resolution) → nat_lt c.i (class_count r c.s c.t) ≡ true → IsFound r c
found_there c r test = found r c (above_of r.base.bottom c.t) refl (grind (arith, nat_tests, test))

-- a class that is not missing is there
pub class_there : (say : ℕ → Refusal) (c : Class) (r : Resolution) → no_class say r c ≡ None → IsFound r c
class_there say c r none = found_there c r (count_of-none (nat_lt c.i (class_count r c.s c.t)) (class_count r c.s c.t) say none)

past-none : (far : Bool) (e : Refusal) → (if far then Some e else None) ≡ None → far ≡ false
past-none false e h = refl
past-none true e h = absurd (cc)

int_lt-true : (x y : ℤ) → int_lt x y ≡ false → y ≤ℤ x
int_lt-true x y e = by_lt_z x y (λ l. let t : int_lt x y ≡ true = grind (arith, ints) in absurd (true≢false (sym t ∙ e))) (λ h. h)

-- a square that is not past the range is in it
pub record IsNear (r : Resolution) (range : Range) (s t : ℤ) : Type 0 where
  pub row : s ≤ℤ pos range.s
  pub degree : t ≤ℤ (r.base.bottom +ℤ pos range.t)

pub near_within : (range : Range) (r : Resolution) (s t : ℤ) → passes range r s t ≡ false → IsNear r range s t
near_within range r s t e =
    let near = or_parts (int_lt (pos range.s) s) (int_lt (r.base.bottom +ℤ pos range.t) t) e in
    record { row = int_lt-true (pos range.s) s near.0; degree = int_lt-true (r.base.bottom +ℤ pos range.t) t near.1 }

pub square_near : (say : ℤ → ℤ → Refusal) (range : Range) (r : Resolution) (s t : ℤ) → out_of_range say range r s t ≡ None → IsNear r range s t
square_near say range r s t none = near_within range r s t (past-none (passes range r s t) (say s t) none)
