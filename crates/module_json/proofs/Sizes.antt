-- The size of a file: bytes with a value are few, and all bytes that are too many have one refusal.
use Rattle.std.specs.Prelude.{◌≡◌, ℕ, ◌<◌, ◌≤◌, nat_le, Bool, true, false, List, length, Some, None, Result, Ok}
use Rattle.std.proofs.Common.{refl, sym, ap, ◌∙◌}
use Rattle.std.proofs.lemmas.Bool.{leb-true, lt-leb}
use Rattle.serde_json.specs.Data.{Data}
use Rattle.module_json.specs.Checks.{unless, size_refusal, IsValueOf, too_long, no_json, value}
use Rattle.module_spec.specs.declared.limits.TheConstants.{MAX_FILE_BYTES}
use Rattle.module_json.specs.declared.malformed.Malformed.{Malformed}
use Rattle.module_json.specs.declared.malformed.Malformed.TheVariants.{Limit}
use Rattle.module_json.specs.declared.malformed.What.TheVariants.{Bytes}

size_refusal-long : (bytes : List ℕ) → MAX_FILE_BYTES < length bytes → size_refusal bytes ≡ Some (Limit Bytes)
size_refusal-long bytes h = ap (λ b. unless b (Limit Bytes)) (lt-leb (length bytes) MAX_FILE_BYTES h)

never_both : (bytes : List ℕ) → size_refusal bytes ≡ None → MAX_FILE_BYTES < length bytes → ⊥
never_both bytes e h = let same : None ≡ Some (Limit Bytes) = sym e ∙ size_refusal-long bytes h in cc

-- other bytes that are too many have the same refusal
pub value_of_longer : (read bytes : List ℕ) (r : Result Data Malformed) → MAX_FILE_BYTES < length read → MAX_FILE_BYTES < length bytes → IsValueOf read r → IsValueOf bytes r
value_of_longer read bytes r h k (too_long e s) = too_long e (size_refusal-long bytes k ∙ (sym (size_refusal-long read h) ∙ s))
value_of_longer read bytes r h k (no_json few none) = absurd (never_both read few h)
value_of_longer read bytes r h k (value few d json) = absurd (never_both read few h)

within : (n m : ℕ) (e : Malformed) (b : Bool) → nat_le n m ≡ b → unless b e ≡ None → n ≤ m
within n m e true same h = leb-true n m same
within n m e false same h = absurd cc

pub value_fits : (bytes : List ℕ) (r : Result Data Malformed) (d : Data) → IsValueOf bytes r → r ≡ Ok d → length bytes ≤ MAX_FILE_BYTES
value_fits bytes r d (too_long e long) same = absurd cc
value_fits bytes r d (no_json few none) same = absurd cc
value_fits bytes r d (value few e json) same = within (length bytes) MAX_FILE_BYTES (Limit Bytes) (nat_le (length bytes) MAX_FILE_BYTES) refl few
