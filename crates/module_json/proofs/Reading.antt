-- What bytes describe, from what their value describes.
use Rattle.std.specs.Prelude.{◌≡◌, ◌≢◌, ℕ, List, Some, None, Result, Ok, Err, IfOk, IfErr}
use Rattle.std.proofs.Common.{refl, sym, ap, ◌∙◌, subst}
use Rattle.serde_json.specs.Data.{Data}
use Rattle.serde_json.specs.View.{view}
use Rattle.serde_json.specs.declared.value.Value.{Value}
use Rattle.module_json.specs.Checks.{IsJson, size_refusal, IsValueOf, too_long, no_json, value}
use Rattle.module_json.specs.ModuleFile.{file_of, no_value, described, FileIsUnique}
use Rattle.module_json.specs.Parts.{modules_of, no_value as no_parts, described as described_parts, PartsAreUnique}
use Rattle.module_json.specs.declared.malformed.Malformed.{Malformed}
use Rattle.module_json.specs.declared.malformed.Malformed.TheVariants.{Json, Memory}

-- ---- answers

-- what a call answers that reads the JSON value of bytes that are not too many
pub value_ok : (bytes : List ℕ) (r : Result Value Malformed) → size_refusal bytes ≡ None → IfOk r (λ v. IsJson bytes (view v)) → IfOk r (λ v. IsValueOf bytes (Ok (view v)))
value_ok bytes (Ok v) few json = value few (view v) json
value_ok bytes (Err e) few json = tt

pub value_err : (bytes : List ℕ) (r : Result Value Malformed) → size_refusal bytes ≡ None → IfErr r (λ e. e ≢ Memory → e ≡ Json) → IfErr r (λ e. e ≢ Memory → (d : Data) → ¬ IsJson bytes d) → IfErr r (λ e. e ≢ Memory → IsValueOf bytes (Err e))
value_err bytes (Ok v) few is none = tt
value_err bytes (Err e) few is none = λ other. subst (λ f. IsValueOf bytes (Err f)) (sym (is other)) (no_json few (none other))

-- what holds of a meaning holds of the answer that it is
pub holds_ok : {A B : Type 0} (P : Result B Malformed → Type 0) (m : Result B Malformed) (told : A → B) (r : Result A Malformed) → P m → IfOk r (λ a. m ≡ Ok (told a)) → IfOk r (λ a. P (Ok (told a)))
holds_ok P m told (Ok a) p is = subst P is p
holds_ok P m told (Err e) p is = tt

pub holds_err : {A B : Type 0} (P : Result B Malformed → Type 0) (m : Result B Malformed) (r : Result A Malformed) → P m → IfErr r (λ e. e ≢ Memory → m ≡ Err e) → IfErr r (λ e. e ≢ Memory → P (Err e))
holds_err P m (Ok a) p is = tt
holds_err P m (Err e) p is = λ other. subst P (is other) p

-- ---- one meaning at most

value_unique : (bytes : List ℕ) (r s : Result Data Malformed) → IsValueOf bytes r → IsValueOf bytes s → r ≡ s
value_unique bytes r s (too_long e long) (too_long f also) = let same : e ≡ f = cc in ap Err same
value_unique bytes r s (too_long e long) (no_json few none) = absurd (cc)
value_unique bytes r s (too_long e long) (value few d q) = absurd (cc)
value_unique bytes r s (no_json few none) (too_long e long) = absurd (cc)
value_unique bytes r s (no_json few none) (no_json also other) = refl
value_unique bytes r s (no_json few none) (value also d q) = absurd (none d q)
value_unique bytes r s (value few d p) (too_long e long) = absurd (cc)
value_unique bytes r s (value few d p) (no_json also none) = absurd (none d p)
value_unique bytes r s (value few d p) (value also e q) = let both : Some d ≡ Some e = sym p.reads ∙ q.reads in cc

pub file_unique : FileIsUnique
file_unique bytes r s (no_value e p) (no_value f q) = let same = value_unique bytes (Err e) (Err f) p q in cc
file_unique bytes r s (no_value e p) (described d q) = let same = value_unique bytes (Err e) (Ok d) p q in absurd (cc)
file_unique bytes r s (described d p) (no_value f q) = let same = value_unique bytes (Ok d) (Err f) p q in absurd (cc)
file_unique bytes r s (described d p) (described e q) = let both = value_unique bytes (Ok d) (Ok e) p q in let same : d ≡ e = cc in ap file_of same

pub parts_unique : PartsAreUnique
parts_unique want bytes r s (no_parts e p) (no_parts f q) = let same = value_unique bytes (Err e) (Err f) p q in cc
parts_unique want bytes r s (no_parts e p) (described_parts d q) = let same = value_unique bytes (Err e) (Ok d) p q in absurd (cc)
parts_unique want bytes r s (described_parts d p) (no_parts f q) = let same = value_unique bytes (Ok d) (Err f) p q in absurd (cc)
parts_unique want bytes r s (described_parts d p) (described_parts e q) = let both = value_unique bytes (Ok d) (Ok e) p q in let same : d ≡ e = cc in ap (modules_of want) same
