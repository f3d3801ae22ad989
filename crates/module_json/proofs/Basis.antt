-- What holds of the basis of generators that are not refused.
use Rattle.std.specs.Prelude.{◌≡◌, ◌≢◌, ℕ, suc, ◌≤◌, ℤ, pos, neg_ℤ, ◌+ℤ◌, ◌≤ℤ◌, int_le, Bool, true, false, cond, if◌then◌else◌, codes, List, [], ◌∷◌, length, All, AllPairs, IsTrue, Option, Some, None, String, string_bytes, Result, Ok, Err}
use Rattle.std.specs.List.{list_all, AllByRecursion}
use Rattle.std.specs.List.Sorted.{IsStrictlySortedBy}
use Rattle.std.specs.Option.{option_or}
use Rattle.std.specs.Map.{keys_of}
use Rattle.std.specs.String.{string_cmp}
use Rattle.std.specs.declared.alloc.Global.{Global}
use Rattle.std.specs.Ordering.{nat_cmp}
use Rattle.std.specs.Cmp.Lexicographic.{slice_cmp}
use Rattle.std.proofs.Common.{Less, Equal, get_or, refl, sym, ap, arith, subst}
use Rattle.std.proofs.lemmas.Int.{ints}
use Rattle.std.proofs.lemmas.Cmp.{nat_list_cmp_total, tied_itself}
use Rattle.std.proofs.lemmas.List.Elements.{All-from_recursion}
use Rattle.std.proofs.lemmas.List.Sums.{AllPass-from_list_all}
use Rattle.serde_json.specs.Data.{Members, no_members, member, Data}
use Rattle.serde_json.specs.View.{view, members_view}
use Rattle.serde_json.specs.declared.value.Value.{Value}
use Rattle.module_spec.specs.declared.limits.TheConstants.{MAX_GENERATORS, MAX_ACTIONS, MAX_DEGREE, MAX_SPAN}
use Rattle.module_spec.specs.Names.{is_name}
use Rattle.module_json.specs.Checks.{unless, members_count, header_refusal, is_space}
use Rattle.module_json.specs.Spaces.{count_between}
use Rattle.module_spec.specs.WellFormed.{IsEntryOf, Agree, IsWellFormed, NeverFall}
use Rattle.module_json.proofs.Counts.{members_counted}
use Rattle.module_spec.specs.Spec.{Generator, Entry, within_limit, by_degree, File, is_near}
use Rattle.module_json.specs.ModuleFile.{degree_of, degree_refusal, generator_refusal, generators_refusal, listed, basis, spans, span_refusal, IsFileOf, no_value, described, gens_of, actions_of, entries_from, with_entries, unless_refused, listed_refusal, listed_of, number_at, bounds_refusal, space_between, space_of, space_file}
use Rattle.module_json.specs.declared.malformed.Malformed.{Malformed}
use Rattle.module_json.specs.declared.malformed.Malformed.TheVariants.{Name}
use Rattle.module_spec.specs.Sorting.{inserted}
use Rattle.module_json.proofs.Cells.{cells_in_order}
use Rattle.module_spec.proofs.Sorting.{EachPair, EachPair-by_place, Rises, Rises-sorted_by, All-inserted, All-sorted_by, length-sorted_by}

-- ---- each generator

-- the name and the degree of one that is not refused
pub record IsFine (g : Generator) : Type 0 where
  pub name : IsTrue (is_name g.name)
  pub lowest : neg_ℤ MAX_DEGREE ≤ℤ g.degree
  pub highest : g.degree ≤ℤ MAX_DEGREE

pub option_or-none : {A : Type 0} (p q : Option A) → option_or p q ≡ None → (p ≡ None) × (q ≡ None)
option_or-none None q h = (refl, h)
option_or-none (Some x) q h = cc

pub unless_none : (b : Bool) (e : Malformed) → unless b e ≡ None → b ≡ true
unless_none true e h = refl
unless_none false e h = absurd (cc)

pub limits : (z : ℤ) → within_limit z ≡ true → (neg_ℤ MAX_DEGREE ≤ℤ z) × (z ≤ℤ MAX_DEGREE)
limits z h = (grind (arith, ints), grind (arith, ints))

degree_fine : (i : ℕ) (o : Option ℤ) → degree_refusal i o ≡ None → (z : ℤ) × (o ≡ Some z) × ((neg_ℤ MAX_DEGREE ≤ℤ z) × (z ≤ℤ MAX_DEGREE))
degree_fine i None h = absurd (cc)
degree_fine i (Some z) h = (z, refl, limits z (unless_none (within_limit z) _ h))

listed_fine : (i : ℕ) (ms : Members) → generators_refusal i ms ≡ None → AllByRecursion IsFine (listed ms)
listed_fine i no_members h = tt
listed_fine i (member name d ms) h =
    let parts = option_or-none (generator_refusal i name d) (generators_refusal (suc i) ms) h in
    let own = option_or-none (unless (is_name name) (Name i)) (option_or (degree_refusal i (degree_of d)) None) parts.0 in
    let fine = degree_fine i (degree_of d) (option_or-none (degree_refusal i (degree_of d)) None own.1).0 in
    rw fine.1 (record { name = unless_none (is_name name) (Name i) own.0; lowest = fine.2.0; highest = fine.2.1 }, listed_fine (suc i) ms parts.1)

listed_few : (ms : Members) → length (listed ms) ≤ members_count ms
listed_few no_members = omega arith
listed_few (member name d ms) = by (degree_of d) refl (listed_few ms)
  where
    by : (o : Option ℤ) → degree_of d ≡ o → length (listed ms) ≤ members_count ms → length (listed (member name d ms)) ≤ members_count (member name d ms)
    by None e few = rw e (omega (arith, few))
    by (Some z) e few = rw e (omega (arith, few))

-- ---- the names differ

abbrev Apart : List Generator → Type 0
Apart = EachPair (λ g h. g.name ≢ h.name)

Apart-inserted : (g : Generator) (hs : List Generator) → AllByRecursion (λ h. g.name ≢ h.name) hs → Apart hs → Apart (inserted (λ k. k.degree) g hs)
Apart-inserted g [] other apart = (tt, tt)
Apart-inserted g (h ∷ hs) other apart = by (int_le g.degree h.degree) (Apart-inserted g hs other.1 apart.1)
  where
    by : (b : Bool) → Apart (inserted (λ k. k.degree) g hs) → Apart (cond b (g ∷ h ∷ hs) (h ∷ inserted (λ k. k.degree) g hs))
    by true later = (other, apart)
    by false later = (All-inserted (λ (k : Generator). k.degree) (λ k. h.name ≢ k.name) g hs (λ e. other.0 (sym e)) apart.0, later)

Apart-by_degree : (gs : List Generator) → Apart gs → Apart (by_degree gs)
Apart-by_degree [] apart = tt
Apart-by_degree (g ∷ gs) apart = Apart-inserted g (by_degree gs) (All-sorted_by (λ (k : Generator). k.degree) (λ h. g.name ≢ h.name) gs apart.0) (Apart-by_degree gs apart.1)

below_differs : (x y : String Global) → string_cmp x y ≡ Less → string_bytes x ≢ string_bytes y
below_differs x y below = λ same. let tied : slice_cmp nat_cmp (string_bytes x) (string_bytes y) ≡ Equal = rw same (tied_itself nat_list_cmp_total (string_bytes y)) in absurd (cc)

below_all : (x : String Global) (es : List (String Global × Value)) → AllByRecursion (λ y. string_cmp x y ≡ Less) (keys_of es) → AllByRecursion (λ h. string_bytes x ≢ h.name) (listed (members_view es))
below_all x [] h = tt
below_all x (e ∷ es) h = by (degree_of (view e.1)) refl (below_all x es h.1)
  where
    by : (o : Option ℤ) → degree_of (view e.1) ≡ o → AllByRecursion (λ h. string_bytes x ≢ h.name) (listed (members_view es)) → AllByRecursion (λ h. string_bytes x ≢ h.name) (listed (members_view (e ∷ es)))
    by None is later = rw is later
    by (Some z) is later = rw is (below_differs x e.0 h.0, later)

listed_apart : (es : List (String Global × Value)) → IsStrictlySortedBy string_cmp (keys_of es) → Apart (listed (members_view es))
unfolding IsStrictlySortedBy
listed_apart [] up = tt
listed_apart (e ∷ es) up = by (degree_of (view e.1)) refl (listed_apart es up.1)
  where
    by : (o : Option ℤ) → degree_of (view e.1) ≡ o → Apart (listed (members_view es)) → Apart (listed (members_view (e ∷ es)))
    by None is later = rw is later
    by (Some z) is later = rw is (below_all e.0 es up.0, later)

-- ---- pairs by their places

near : (z y : ℤ) → is_near z y ≡ true → z ≤ℤ (y +ℤ pos MAX_SPAN)
near z y h = grind (arith, ints)

spans_pairs : (gs : List Generator) → spans gs ≡ true → AllPairs (λ g h. h.degree ≤ℤ (g.degree +ℤ pos MAX_SPAN)) gs
spans_pairs gs all i j d l m =
    let g = get_or gs i d in
    let h = get_or gs j d in
    let one : list_all (λ k. is_near h.degree k.degree) gs ≡ true = AllPass-from_list_all (λ k. list_all (λ n. is_near k.degree n.degree) gs) gs all j d m in
    near h.degree g.degree (AllPass-from_list_all (λ k. is_near h.degree k.degree) gs one i d (omega arith))

-- ---- the module

-- A module whose generators and entries are not refused is well formed.
pub accepted : (es : List (String Global × Value)) (gs : List Generator) (entries : List Entry) → gs ≡ basis (members_view es) → IsStrictlySortedBy string_cmp (keys_of es) → length es ≤ MAX_GENERATORS → generators_refusal 0 (members_view es) ≡ None → span_refusal gs ≡ None → length entries ≤ MAX_ACTIONS → All (IsEntryOf gs) entries → AllPairs Agree entries → IsWellFormed (record { generators = gs; entries = entries })
accepted es gs entries is up few fine spanned few_entries actions agree =
    let each : AllByRecursion IsFine gs = rw is (All-sorted_by (λ (g : Generator). g.degree) IsFine (listed (members_view es)) (listed_fine 0 (members_view es) fine)) in
    let all = All-from_recursion IsFine gs each in
    let apart : Apart gs = rw is (Apart-by_degree (listed (members_view es)) (listed_apart es up)) in
    let rises : Rises (λ (g : Generator). g.degree) gs = rw is (Rises-sorted_by (λ (g : Generator). g.degree) (listed (members_view es))) in
    let count : length gs ≡ length (listed (members_view es)) = rw is (length-sorted_by (λ (g : Generator). g.degree) (listed (members_view es))) in
    record {
      by_degree = record {
        few = omega (arith, count, listed_few (members_view es), members_counted es);
        lowest = λ k d l. (all k d l).lowest;
        highest = λ k d l. (all k d l).highest;
        ordered = EachPair-by_place (λ g h. g.degree ≤ℤ h.degree) gs rises;
        span = spans_pairs gs (unless_none (spans gs) _ spanned);
      };
      names = λ k d l. (all k d l).name;
      distinct = EachPair-by_place (λ g h. g.name ≢ h.name) gs apart;
      few_entries = few_entries;
      actions = actions;
      agree = agree;
    }

-- ---- the generators of a file stand by degree

pub not_refused : {A : Type 0} (refusal : Option Malformed) (r : Result A Malformed) (a : A) → unless_refused refusal r ≡ Ok a → r ≡ Ok a
not_refused (Some e) r a h = cc
not_refused None r a h = h

generators_same : (gs : List Generator) (es : Result (List Entry) Malformed) (f : File) → with_entries gs es ≡ Ok f → gs ≡ f.generators
generators_same gs (Err e) f h = cc
generators_same gs (Ok es) f h = let made : File = record { generators = gs; entries = es } in let same : made ≡ f = cc in ap (λ (x : File). x.generators) same

listed_in_order : (d : Data) (f : File) → listed_of d ≡ Ok f → NeverFall f.generators
listed_in_order d f h =
    let gs = basis (gens_of d) in
    let es = entries_from gs [] (actions_of d) in
    subst NeverFall (generators_same gs es f (not_refused (listed_refusal d) (with_entries gs es) f h)) (EachPair-by_place (λ g h. g.degree ≤ℤ h.degree) gs (Rises-sorted_by (λ (g : Generator). g.degree) (listed (gens_of d))))

space_in_order : (min max : Option ℤ) (f : File) → space_between min max ≡ Ok f → NeverFall f.generators
space_in_order None max f h = cc
space_in_order (Some a) None f h = cc
space_in_order (Some a) (Some b) f h =
    let is = not_refused (bounds_refusal a b) (Ok (space_file a (count_between a b))) f h in
    let same : space_file a (count_between a b) ≡ f = cc in
    subst (λ (x : File). NeverFall x.generators) same (cells_in_order a (count_between a b))

in_order_behind : (space : Bool) (d : Data) (f : File) → (if space then space_of d else listed_of d) ≡ Ok f → NeverFall f.generators
in_order_behind true d f h = space_in_order (number_at (codes "min") d) (number_at (codes "max") d) f h
in_order_behind false d f h = listed_in_order d f h

pub file_in_order : (bytes : List ℕ) (r : Result File Malformed) → IsFileOf bytes r → (f : File) → r ≡ Ok f → NeverFall f.generators
file_in_order bytes r (no_value e is) f h = cc
file_in_order bytes r (described d is) f h = in_order_behind (is_space d) d f (not_refused (header_refusal d) (if is_space d then space_of d else listed_of d) f h)
