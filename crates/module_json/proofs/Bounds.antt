-- What holds of dimensions that are not refused.
use Rattle.std.proofs.Common.{◌≡◌, ℕ, ◌≤◌, ℤ, pos, negsuc, neg_ℤ, true, ◌+ℤ◌, ◌≤ℤ◌, int_le, nat_le, ◌&&◌, Option, Some, None, Ok, refl, sym, ap, ◌∙◌, arith}
use Rattle.std.specs.Option.{option_or}
use Rattle.std.proofs.lemmas.Bool.{and_parts, leb-true}
use Rattle.std.proofs.lemmas.Int.{ints}
use Rattle.module_json.specs.Checks.{unless}
use Rattle.module_json.specs.Spaces.{count_between}
use Rattle.module_spec.specs.Spec.{within_limit}
use Rattle.module_json.specs.ModuleFile.{bounds_refusal, space_between, space_file, unless_refused}
use Rattle.module_spec.specs.declared.limits.TheConstants.{MAX_GENERATORS, MAX_DEGREE}
use Rattle.module_json.specs.declared.malformed.Malformed.TheVariants.{Limit, Bounds}
use Rattle.module_json.specs.declared.malformed.What.TheVariants.{Gens, Degree}
use Rattle.module_json.proofs.Basis.{option_or-none, unless_none, limits}

pub record AreBounds (min max : ℤ) : Type 0 where
  pub lowest : neg_ℤ MAX_DEGREE ≤ℤ min
  pub highest : max ≤ℤ MAX_DEGREE
  pub ordered : min ≤ℤ max
  pub few : count_between min max ≤ MAX_GENERATORS

pub count_is : (min max : ℤ) → min ≤ℤ max → pos (count_between min max) ≡ max +ℤ pos 1 +ℤ neg_ℤ min
count_is min max h = at (max +ℤ pos 1 +ℤ neg_ℤ min) refl
  where
    at : (z : ℤ) → z ≡ max +ℤ pos 1 +ℤ neg_ℤ min → pos (count_between min max) ≡ max +ℤ pos 1 +ℤ neg_ℤ min
    at (pos n) e = rw (← e) refl
    at (negsuc n) e = absurd (omega (arith, ints))

pub bounds_fine : (min max : ℤ) → bounds_refusal min max ≡ None → AreBounds min max
bounds_fine min max h =
    let more = option_or (unless (int_le min max) (Bounds min max)) (option_or (unless (nat_le (count_between min max) MAX_GENERATORS) (Limit Gens)) None) in
    let parts = option_or-none (unless (within_limit min && within_limit max) (Limit Degree)) more h in
    let rest = option_or-none (unless (int_le min max) (Bounds min max)) (option_or (unless (nat_le (count_between min max) MAX_GENERATORS) (Limit Gens)) None) parts.1 in
    let last = option_or-none (unless (nat_le (count_between min max) MAX_GENERATORS) (Limit Gens)) None rest.1 in
    let both = and_parts (within_limit min) (within_limit max) (unless_none (within_limit min && within_limit max) (Limit Degree) parts.0) in
    let up : int_le min max ≡ true = unless_none (int_le min max) (Bounds min max) rest.0 in
    record {
      lowest = (limits min both.0).0;
      highest = (limits max both.1).1;
      ordered = grind (arith, ints);
      few = leb-true (count_between min max) MAX_GENERATORS (unless_none (nat_le (count_between min max) MAX_GENERATORS) (Limit Gens) last.0);
    }

pub space_is : (o p : Option ℤ) (min max m : ℤ) (n : ℕ) → o ≡ Some min → p ≡ Some max → bounds_refusal min max ≡ None → m ≡ min → pos n ≡ max +ℤ pos 1 +ℤ neg_ℤ min → space_between o p ≡ Ok (space_file m n)
space_is o p min max m n e f fine at many =
    let up : min ≤ℤ max = (bounds_fine min max fine).ordered in
    let same : count_between min max ≡ n = (let c = count_is min max up in omega (arith, ints)) in
    ap (λ x. space_between x p) e ∙ ap (λ x. space_between (Some min) x) f
    ∙ ap (λ r. unless_refused r (Ok (space_file min (count_between min max)))) fine
    ∙ ap (λ k. Ok (space_file min k)) same ∙ ap (λ z. Ok (space_file z n)) (sym at)
