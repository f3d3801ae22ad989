-- The answer of `build`: bytes describe one list of files, of which at most one module is built, which passes one limit at most.
use Rattle.std.proofs.Common.{◌≡◌, ◌≢◌, ℕ, ◌+◌, ◌^◌, ◌<◌, ◌≤◌, ℤ, Bool, true, false, List, [], ◌∷◌, length, get_or, map, refl, sym, ap, subst, ◌∙◌, arith}
use Rattle.std.specs.Prelude.{◌==◌, Option, Some, None, MatchOption, IfSome, Result, Ok, Err, IfOk, IfErr}
use Rattle.std.specs.Option.{option_or}
use Rattle.std.proofs.lemmas.List.{length-map}
use Rattle.std.proofs.lemmas.Bool.{eqb-true}
use Rattle.std.proofs.lemmas.Result.{IfOk-weaker, IfErr-weaker}
use Rattle.serde_json.specs.Data.{Data, Items, no_items, item}
use Rattle.serde_json.specs.Find.{as_array}
use Rattle.module_json.specs.Checks.{IsValueOf, items_count}
use Rattle.module_spec.specs.Spec.{Generator, File}
use Rattle.module_json.specs.ModuleFile.{file_of, unless_refused, items_or}
use Rattle.module_json.specs.Parts.{ArePartsOf, no_value, described, array_refusal, with_file, files_of, modules_of}
use Rattle.module_json.proofs.Reading.{parts_unique}
use Rattle.module_json.proofs.Sizes.{value_fits}
use Rattle.module_json.specs.declared.malformed.Malformed.{Malformed}
use Rattle.module_json.specs.declared.malformed.What.TheVariants.{Gens, Degree, Span}
use Rattle.finite_module.specs.Module.{Module as SteenrodModule}
use Rattle.finite_module.specs.Checked.{Checked}
use Rattle.finite_module.specs.DerivedAction.{derived_module}
use Rattle.module_check.specs.declared.fault.CheckFault.{CheckFault}
use Rattle.built_laws.specs.Constructed.{sum_module, tensor_module, dual_module, shift_module}
use Rattle.module_build.specs.Names.{numbered_name}
use Rattle.module_build.specs.Limits.{limit_passed, unless}
use Rattle.module_build.specs.FileText.{file_text}
use Rattle.module_build.specs.declared.fault.BuildFault.{BuildFault}
use Rattle.module_build.specs.declared.fault.BuildFault.TheVariants.{Limit, Memory as NoRoom}
use Rattle.ext_words.specs.declared.command.Build.{Build}
use Rattle.ext_words.specs.declared.command.Build.TheVariants.{Sum, Tensor, Dual, Shift}
use Rattle.ext_report.specs.declared.failure.Failure.{Failure}
use Rattle.ext_report.specs.declared.failure.Failure.TheVariants.{Words, Malformed as NoModuleFile, NotModule, PastLimit, Reading, Memory}
use Rattle.ext_build.specs.Building.{wanted, built_of, first_refused, IsBuilt, IsAnswerToFiles, no_module, past_limit, file_of as file_of_built, IsBuildAnswer, no_files, of_files, IsBuildable, ArePartsFrom, IsBuildAnswerFrom, IsBuildCauseFrom}
use Rattle.ext_report.specs.Failure.{IsTold, build_failure}
use Rattle.read_module.specs.Input.{HasValue}

-- ---- one answer

-- the answer by the first file that is refused, by what is built, and by the limit that this passes
abbrev limit_answer : SteenrodModule → Option BuildFault → Result (List ℕ) Failure
limit_answer m (Some (Limit what)) = Err (PastLimit what)
limit_answer m (Some NoRoom) = Err Memory
limit_answer m None = Ok (file_text m)

abbrev answer_by : Option (File × CheckFault) → Option SteenrodModule → Result (List ℕ) Failure
answer_by (Some refused) built = Err (NotModule refused.0 refused.1)
answer_by None (Some m) = limit_answer m (limit_passed m.generators)
answer_by None None = Err Memory

files_answer_is : (made : Build) (files : List File) (a : Result (List ℕ) Failure) → IsAnswerToFiles made files a → a ≡ answer_by (first_refused files) (built_of made (map derived_module files))
files_answer_is made files a (no_module f e p) = rw p refl
files_answer_is made files a (past_limit m what built passed) = rw (built.accepted, built.is_built, passed) refl
files_answer_is made files a (file_of_built m built kept) = rw (built.accepted, built.is_built, kept) refl

pub build_answer_unique : (made : Build) (bytes : List ℕ) (a b : Result (List ℕ) Failure) → IsBuildAnswer made bytes a → IsBuildAnswer made bytes b → a ≡ b
build_answer_unique made bytes a b (no_files e p) (no_files d q) = let same = parts_unique (wanted made) bytes (Err e) (Err d) p q in cc
build_answer_unique made bytes a b (no_files e p) (of_files files y q answer) = let same = parts_unique (wanted made) bytes (Err e) (Ok files) p q in absurd cc
build_answer_unique made bytes a b (of_files files x p answer) (no_files e q) = let same = parts_unique (wanted made) bytes (Ok files) (Err e) p q in absurd cc
build_answer_unique made bytes a b (of_files files x p answer) (of_files others y q other) =
    let same = parts_unique (wanted made) bytes (Ok files) (Ok others) p q in
    let one : files ≡ others = cc in
    files_answer_is made others a (subst (λ (fs : List File). IsAnswerToFiles made fs a) one answer) ∙ sym (files_answer_is made others b other)

-- ---- what the answer is not

files_not_words : (made : Build) (files : List File) (a : Result (List ℕ) Failure) → IsAnswerToFiles made files a → a ≡ Err Words → ⊥
files_not_words made files a (no_module f e p) h = cc
files_not_words made files a (past_limit m what built passed) h = cc
files_not_words made files a (file_of_built m built kept) h = cc

pub build_not_words : (made : Build) (bytes : List ℕ) (a : Result (List ℕ) Failure) → IsBuildAnswer made bytes a → a ≡ Err Words → ⊥
build_not_words made bytes a (no_files e p) h = cc
build_not_words made bytes a (of_files files x p answer) h = files_not_words made files a answer h

-- modules that are built within the limits leave no failure
buildable_answer : (made : Build) (bytes : List ℕ) (failure : Failure) → IsBuildable made bytes → IsBuildAnswer made bytes (Err failure) → ⊥
buildable_answer made bytes failure has p =
    let same = build_answer_unique made bytes (Ok (file_text has.built)) (Err failure) (of_files has.files (Ok (file_text has.built)) has.are_files (file_of_built has.built has.is_built has.within)) p in
    cc

pub buildable_failure : (made : Build) (left : Option (List ℕ)) (bytes : List ℕ) (failure : Failure) → IfSome left (λ l. bytes ≡ l) → MatchOption left ⊥ (IsBuildable made) → IsBuildAnswer made bytes (Err failure) → ⊥
buildable_failure made None bytes failure all has p = has
buildable_failure made (Some l) bytes failure all has p = buildable_answer made bytes failure (subst (IsBuildable made) (sym all) has) p

-- ---- the size of a file

parts_fit : (want : ℕ) (bytes : List ℕ) (files : List File) (r : Result (List File) Malformed) → ArePartsOf want bytes r → r ≡ Ok files → length bytes ≤ 2 ^ 20
parts_fit want bytes files r (no_value e p) same = absurd cc
parts_fit want bytes files r (described d p) same = value_fits bytes (Ok d) d p refl

pub build_fits : (made : Build) (bytes : List ℕ) (a : Result (List ℕ) Failure) → IsTold a → IsBuildAnswer made bytes a → length bytes ≤ 2 ^ 20
build_fits made bytes a told (no_files e p) = absurd told
build_fits made bytes a told (of_files files x p answer) = parts_fit (wanted made) bytes files (Ok files) p refl

-- ---- files are so many as are wanted

with_file_count : (first : Result File Malformed) (rest : Result (List File) Malformed) (n : ℕ) (files : List File) → ((fs : List File) → rest ≡ Ok fs → length fs ≡ n) → with_file first rest ≡ Ok files → length files ≡ 1 + n
with_file_count (Err e) rest n files counted h = absurd cc
with_file_count (Ok f) (Err e) n files counted h = absurd cc
with_file_count (Ok f) (Ok fs) n files counted h =
    let same : f ∷ fs ≡ files = cc in
    let all = ap length same in
    let rest = counted fs refl in
    omega (arith, all, rest)

files_count : (values : Items) (files : List File) → files_of values ≡ Ok files → length files ≡ items_count values
files_count no_items files h = let none : [] ≡ files = cc in sym (ap length none)
files_count (item d ds) files h = with_file_count (file_of d) (files_of ds) (items_count ds) files (files_count ds) h

array_count : (want : ℕ) (array : Option Items) (files : List File) → unless_refused (array_refusal want array) (files_of (items_or array)) ≡ Ok files → length files ≡ want
array_count want None files h = absurd cc
array_count want (Some ds) files h = counted (items_count ds == want) refl h
  where
    counted : (same : Bool) → (items_count ds == want) ≡ same → unless_refused (array_refusal want (Some ds)) (files_of ds) ≡ Ok files → length files ≡ want
    counted true is p = files_count ds files (rw is at p) ∙ eqb-true (items_count ds) want is
    counted false is p = absurd (let q = rw is at p in cc)

parts_count : (want : ℕ) (bytes : List ℕ) (files : List File) (r : Result (List File) Malformed) → ArePartsOf want bytes r → r ≡ Ok files → length files ≡ want
parts_count want bytes files r (no_value e p) h = absurd cc
parts_count want bytes files r (described d p) h = array_count want (as_array d) files h

pub count_of_parts : (want : ℕ) (bytes : List ℕ) (files : List File) → ArePartsOf want bytes (Ok files) → length files ≡ want
count_of_parts want bytes files p = parts_count want bytes files (Ok files) p refl

-- ---- an answer

there_of : (made : Build) (modules : List SteenrodModule) → length modules ≡ wanted made → (m : SteenrodModule) × (built_of made modules ≡ Some m)
there_of Sum (m ∷ k ∷ []) h = (_, refl)
there_of Tensor (m ∷ k ∷ []) h = (_, refl)
there_of Dual (m ∷ []) h = (_, refl)
there_of (Shift n) (m ∷ []) h = (_, refl)
there_of made modules h = absurd (omega (arith, h))

-- no limit that is passed is want of memory
never_memory : (few within near : Bool) → option_or (unless few Gens) (option_or (unless within Degree) (unless near Span)) ≡ Some NoRoom → ⊥
never_memory false within near h = cc
never_memory true false near h = cc
never_memory true true false h = cc
never_memory true true true h = cc

pub limit_is_no_memory : (gs : List Generator) → limit_passed gs ≡ Some NoRoom → ⊥
limit_is_no_memory gs h = never_memory _ _ _ h

module _ (made : Build) (files : List File) where
  of_limit : (m : SteenrodModule) → IsBuilt made files m → (found : Option BuildFault) → limit_passed m.generators ≡ found → (answer : Result (List ℕ) Failure) × IsAnswerToFiles made files answer
  of_limit m built None h = (Ok (file_text m), file_of_built m built h)
  of_limit m built (Some (Limit what)) h = (Err (PastLimit what), past_limit m what built h)
  of_limit m built (Some NoRoom) h = absurd (limit_is_no_memory m.generators h)

  of_refusal : length files ≡ wanted made → (found : Option (File × CheckFault)) → first_refused files ≡ found → (answer : Result (List ℕ) Failure) × IsAnswerToFiles made files answer
  of_refusal count (Some (f, e)) h = (Err (NotModule f e), no_module f e h)
  of_refusal count None h =
      let there = there_of made (map derived_module files) (length-map files derived_module ∙ count) in
      of_limit there.0 (record { accepted = h; is_built = there.1 }) (limit_passed there.0.generators) refl

of_parts : (made : Build) (bytes : List ℕ) (parts : Result (List File) Malformed) → ArePartsOf (wanted made) bytes parts → (answer : Result (List ℕ) Failure) × IsBuildAnswer made bytes answer
of_parts made bytes (Err e) p = (Err (NoModuleFile e), no_files e p)
of_parts made bytes (Ok files) p =
    let answer = of_refusal made files (count_of_parts (wanted made) bytes files p) (first_refused files) refl in
    (answer.0, of_files files answer.0 p answer.1)

of_value : (made : Build) (bytes : List ℕ) (value : Result Data Malformed) → IsValueOf bytes value → (answer : Result (List ℕ) Failure) × IsBuildAnswer made bytes answer
of_value made bytes (Err e) p = of_parts made bytes (Err e) (no_value e p)
of_value made bytes (Ok d) p = of_parts made bytes (modules_of (wanted made) d) (described d p)

pub build_answer_exists : (made : Build) (bytes : List ℕ) → HasValue bytes → (answer : Result (List ℕ) Failure) × IsBuildAnswer made bytes answer
build_answer_exists made bytes has = of_value made bytes has.value has.is_value

-- ---- from modules to what is built of them

-- modules that are two, and one
two_modules : (modules : List Checked) (a b : Checked) → a ≡ get_or modules 0 a → b ≡ get_or modules 1 b → 2 ≤ length modules → length modules < 3 → map (λ m. m.plain) modules ≡ a.plain ∷ b.plain ∷ []
two_modules [] a b first second least most = absurd (omega (arith, least))
two_modules (x ∷ []) a b first second least most = absurd (omega (arith, least))
two_modules (x ∷ y ∷ []) a b first second least most = rw (first, second) refl
two_modules (x ∷ y ∷ z ∷ rest) a b first second least most = absurd (omega (arith, most))

one_module : (modules : List Checked) (a : Checked) → a ≡ get_or modules 0 a → 1 ≤ length modules → length modules < 2 → map (λ m. m.plain) modules ≡ a.plain ∷ []
one_module [] a first least most = absurd (omega (arith, least))
one_module (x ∷ []) a first least most = rw first refl
one_module (x ∷ y ∷ rest) a first least most = absurd (omega (arith, most))

module _ (made : Build) (modules : List Checked) (a b : Checked) (first : a ≡ get_or modules 0 a) (second : b ≡ get_or modules 1 b) (least : 2 ≤ length modules) (most : length modules < 3) where
  pub sum_is : made ≡ Sum → built_of made (map (λ m. m.plain) modules) ≡ Some (sum_module numbered_name a.plain b.plain)
  sum_is is = ap (built_of made) (two_modules modules a b first second least most) ∙ ap (λ x. built_of x (a.plain ∷ b.plain ∷ [])) is

  pub tensor_is : made ≡ Tensor → built_of made (map (λ m. m.plain) modules) ≡ Some (tensor_module numbered_name a.plain b.plain)
  tensor_is is = ap (built_of made) (two_modules modules a b first second least most) ∙ ap (λ x. built_of x (a.plain ∷ b.plain ∷ [])) is

module _ (made : Build) (modules : List Checked) (a : Checked) (first : a ≡ get_or modules 0 a) (least : 1 ≤ length modules) (most : length modules < 2) where
  pub dual_is : made ≡ Dual → built_of made (map (λ m. m.plain) modules) ≡ Some (dual_module numbered_name a.plain)
  dual_is is = ap (built_of made) (one_module modules a first least most) ∙ ap (λ x. built_of x (a.plain ∷ [])) is

  pub shift_is : (n : ℤ) → made ≡ Shift n → built_of made (map (λ m. m.plain) modules) ≡ Some (shift_module numbered_name n a.plain)
  shift_is n is = ap (built_of made) (one_module modules a first least most) ∙ ap (λ x. built_of x (a.plain ∷ [])) is

module _ (r : Result Checked BuildFault) (found : Option SteenrodModule) (m : SteenrodModule) (is : found ≡ Some m) where
  pub built_ok : IfOk r (λ x. x.plain ≡ m) → IfOk r (λ x. found ≡ Some x.plain)
  built_ok p = IfOk-weaker r _ _ (λ x q. is ∙ ap Some (sym q)) p

  pub built_err : IfErr r (λ e. e ≢ NoRoom → limit_passed m.generators ≡ Some e) → IfErr r (λ e. e ≢ NoRoom → (x : SteenrodModule) × (found ≡ Some x) × (limit_passed x.generators ≡ Some e))
  built_err p = IfErr-weaker r _ _ (λ e q. λ n. (m, is, q n)) p

-- ---- from files to an answer

-- files that are refused have that answer
pub refused_files : (made : Build) (files : List File) (failure : Failure) → ((f : File) × (e : CheckFault) × (failure ≡ NotModule f e) × (first_refused files ≡ Some (f, e))) → IsAnswerToFiles made files (Err failure)
refused_files made files failure w = subst (λ (x : Failure). IsAnswerToFiles made files (Err x)) (sym w.2) (no_module w.0 w.1 w.3)

-- so have files of which what is built passes a limit
pub limited_files : (made : Build) (files : List File) (modules : List SteenrodModule) (e : BuildFault) → first_refused files ≡ None → modules ≡ map derived_module files →
    (e ≢ NoRoom → (m : SteenrodModule) × (built_of made modules ≡ Some m) × (limit_passed m.generators ≡ Some e)) → build_failure e ≢ Memory → IsAnswerToFiles made files (Err (build_failure e))
limited_files made files modules (Limit what) accepted same w other =
    let p = w (λ h. cc) in
    past_limit p.0 what (record { accepted = accepted; is_built = ap (built_of made) (sym same) ∙ p.1 }) p.2
limited_files made files modules NoRoom accepted same w other = absurd (other refl)

pub built_files : (made : Build) (files : List File) (modules : List SteenrodModule) (m : SteenrodModule) (text : List ℕ) → first_refused files ≡ None → modules ≡ map derived_module files → built_of made modules ≡ Some m → limit_passed m.generators ≡ None → text ≡ file_text m → IsAnswerToFiles made files (Ok text)
built_files made files modules m text accepted same is within told =
    subst (λ (x : List ℕ). IsAnswerToFiles made files (Ok x)) (sym told) (file_of_built m (record { accepted = accepted; is_built = ap (built_of made) (sym same) ∙ is }) within)

-- ---- from what a source has left to an answer

module _ (made : Build) (left : Option (List ℕ)) (files : List File) where
  pub count_of_input : ArePartsFrom (wanted made) left (Ok files) → length files ≡ wanted made
  count_of_input p = count_of_parts (wanted made) p.bytes files p.holds

  pub files_answer : (answer : Result (List ℕ) Failure) → ArePartsFrom (wanted made) left (Ok files) → IsAnswerToFiles made files answer → IsBuildAnswerFrom made left answer
  files_answer answer p q = record { bytes = p.bytes; all = p.all; holds = of_files files answer p.holds q }

  by_answer : (a : Result (List ℕ) Failure) (failure : Failure) → ArePartsFrom (wanted made) left (Ok files) → IsAnswerToFiles made files a → a ≡ Err failure → IsBuildCauseFrom made left failure
  by_answer a failure p (no_module f e refused) h = let same : NotModule f e ≡ failure = cc in subst (IsBuildCauseFrom made left) same (files_answer (Err (NotModule f e)) p (no_module f e refused))
  by_answer a failure p (past_limit m what built passed) h = let same : PastLimit what ≡ failure = cc in subst (IsBuildCauseFrom made left) same (files_answer (Err (PastLimit what)) p (past_limit m what built passed))
  by_answer a failure p (file_of_built m built kept) h = absurd cc

  pub files_cause : (failure : Failure) → ArePartsFrom (wanted made) left (Ok files) → (failure ≢ Memory → IsAnswerToFiles made files (Err failure)) → IsBuildCauseFrom made left failure
  files_cause Memory p w = tt
  files_cause failure p w = by_answer (Err failure) failure p (w (λ h. cc)) refl

  not_reading : (a : Result (List ℕ) Failure) → IsAnswerToFiles made files a → a ≡ Err Reading → ⊥
  not_reading a (no_module f e p) h = cc
  not_reading a (past_limit m what built passed) h = cc
  not_reading a (file_of_built m built kept) h = cc

  pub result_not_reading : {X : Type 0} (r : Result X Failure) → IfErr r (λ e. e ≢ Memory → IsAnswerToFiles made files (Err e)) → r ≡ Err Reading → ⊥
  result_not_reading (Ok x) w h = absurd cc
  result_not_reading (Err e) w h = let same : e ≡ Reading = cc in not_reading (Err e) (w (λ m. cc)) (ap Err same)
