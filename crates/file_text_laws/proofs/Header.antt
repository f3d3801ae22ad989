-- What a module's file describes, but for its actions: no check refuses it, and its generators are those of the module.
use Rattle.std.specs.Prelude.{nat_lt, nat_le, int_le}
use Rattle.std.specs.Cmp.Lexicographic.{slice_cmp}
use Rattle.std.specs.List.{list_all, range_with_len}
use Rattle.std.specs.Option.{option_or}
use Rattle.std.specs.Ordering.{nat_cmp}
use Rattle.std.proofs.Common.{◌≡◌, ℕ, suc, ◌+◌, ◌<◌, ◌≤◌, ◌^◌, ℤ, pos, neg_ℤ, negsuc, Bool, true, false, not, ◌||◌, if◌then◌else◌, Ordering, Less, Equal, Greater, List, [], ◌∷◌, ◌++◌, length, codes, Option, Some, None, option_map, option_and_then, refl, sym, ap, subst, ◌∙◌, arith}
use Rattle.std.proofs.lemmas.Bool.{and_parts, lt-ltb, le-leb, false≢true}
use Rattle.std.proofs.lemmas.Int.{ints}
use Rattle.std.proofs.lemmas.List.{length-append}
use lib.Signed.{mag}
use Rattle.serde_json.specs.Data.{Data, number, unsigned, string, array, object, no_members, member, put}
use Rattle.serde_json.specs.Read.{of_json, of_items, of_members}
use Rattle.serde_json.specs.Written.{outline, items_outline, members_outline}
use Rattle.serde_json.proofs.Numbers.{number_of-decimal}
use Rattle.module_spec.specs.Names.{is_name}
use Rattle.module_json.specs.Checks.{unless, members_count, items_count, first_of}
use Rattle.module_spec.specs.Spec.{Generator, within_limit, by_degree}
use Rattle.module_json.specs.ModuleFile.{degree_of, degree_refusal, generators_refusal, listed, spans, file_of, unless_refused, with_entries, entries_from}
use Rattle.module_json.specs.declared.malformed.Malformed.{Malformed}
use Rattle.module_json.specs.declared.malformed.Malformed.TheVariants.{Limit, Name}
use Rattle.module_json.specs.declared.malformed.What.TheVariants.{Gens as ManyGens, Actions as ManyActions, Degree, Span}
use Rattle.module_spec.specs.declared.limits.TheConstants.{MAX_ACTIONS, MAX_DEGREE}
use Rattle.module_build.specs.Names.{numbered_name}
use Rattle.file_text_laws.proofs.Written.{number_from, members_of, items_of, data_of}
use Rattle.file_text_laws.proofs.Members.{Behind, BehindAll, Rise, members_read, items_read}
use Rattle.milnor_basis.proofs.Ranges.{list_all-holds}

-- ---- names rise with the number

abbrev is_behind : Ordering → Bool
is_behind Less = false
is_behind Equal = false
is_behind Greater = true

behind_is : (o : Ordering) → is_behind o ≡ true → o ≡ Greater
behind_is Less h = absurd (false≢true h)
behind_is Equal h = absurd (false≢true h)
behind_is Greater h = refl

abbrev in_order : ℕ → ℕ → Bool
in_order i j = not (nat_lt j i) || is_behind (slice_cmp nat_cmp (numbered_name i) (numbered_name j))

abbrev are_in_order : ℕ → Bool
are_in_order i = list_all (in_order i) (range_with_len 0 64)

all_in_order : list_all are_in_order (range_with_len 0 64) ≡ true
all_in_order = refl

name_behind : (i j : ℕ) → j < i → i < 64 → Behind (numbered_name i) (numbered_name j)
name_behind i j l few = behind_is (slice_cmp nat_cmp (numbered_name i) (numbered_name j)) (at (nat_lt j i) (lt-ltb j i l) (list_all-holds (in_order i) 0 64 j (omega arith) (omega arith) (list_all-holds are_in_order 0 64 i (omega arith) few all_in_order)))
  where
    at : (b : Bool) → b ≡ true → (not b || is_behind (slice_cmp nat_cmp (numbered_name i) (numbered_name j))) ≡ true → is_behind (slice_cmp nat_cmp (numbered_name i) (numbered_name j)) ≡ true
    at true e h = h
    at false e h = absurd (false≢true e)

all_named : list_all (λ i. is_name (numbered_name i)) (range_with_len 0 64) ≡ true
all_named = refl

-- The generators are named by their numbers, from i on, and their degrees are within the limit.
abbrev pub Numbered : ℕ → List Generator → Type 0
Numbered i [] = Unit {0}
Numbered i (g ∷ gs) = (g.name ≡ numbered_name i) × (within_limit g.degree ≡ true) × Numbered (suc i) gs

pub small : (z : ℤ) → within_limit z ≡ true → mag z < 2 ^ 63
small (pos n) h = let both = and_parts (int_le (neg_ℤ MAX_DEGREE) (pos n)) (int_le (pos n) MAX_DEGREE) h in grind (arith, ints)
small (negsuc n) h = let both = and_parts (int_le (neg_ℤ MAX_DEGREE) (negsuc n)) (int_le (negsuc n) MAX_DEGREE) h in grind (arith, ints)

behind_before : (b i : ℕ) (before : List Generator) → Numbered b before → b + length before ≤ i → i < 64 → BehindAll (numbered_name i) before
behind_before b i [] h l few = tt
behind_before b i (g ∷ gs) h l few = (ap (slice_cmp nat_cmp (numbered_name i)) h.0 ∙ name_behind i b (omega arith) few, behind_before (suc b) i gs h.2 (omega arith) few)

numbered_more : (b : ℕ) (before : List Generator) (g : Generator) → Numbered b before → g.name ≡ numbered_name (b + length before) → within_limit g.degree ≡ true → Numbered b (before ++ g ∷ [])
numbered_more b [] g h e w = let z : b + 0 ≡ b = omega arith in (e ∙ ap numbered_name z, w, tt)
numbered_more b (x ∷ xs) g h e w = let z : b + suc (length xs) ≡ suc b + length xs = omega arith in (h.0, h.1, numbered_more (suc b) xs g h.2 (e ∙ ap numbered_name z) w)

names_rise : (before gs : List Generator) → Numbered 0 before → Numbered (length before) gs → length before + length gs ≤ 64 → Rise before gs
names_rise before [] h k few = tt
names_rise before (g ∷ gs) h k few =
    let one : length (before ++ g ∷ []) ≡ suc (length before) = omega (arith, length-append before (g ∷ [])) in
    let z : length before ≡ 0 + length before = omega arith in (
      subst (λ n. BehindAll n before) (sym k.0) (behind_before 0 (length before) before h (omega arith) (omega arith)),
      small g.degree k.1,
      names_rise (before ++ g ∷ []) gs (numbered_more 0 before g h (k.0 ∙ ap numbered_name z) k.1) (subst (λ n. Numbered n gs) (sym one) k.2) (omega arith),
    )

pub rise : (gs : List Generator) → Numbered 0 gs → length gs ≤ 64 → Rise [] gs
rise gs h few = names_rise [] gs tt h (omega arith)

-- ---- the value

abbrev pub value_of_file : List Generator → List (List ℕ) → Data
value_of_file gs ts = object (member (codes "actions") (array (items_of ts)) (member (codes "gens") (object (members_of gs)) (member (codes "p") (number (unsigned 2)) (member (codes "type") (string (codes "finite dimensional module")) no_members))))

pub data_read : (gs : List Generator) (ts : List (List ℕ)) → Rise [] gs → of_json (outline (data_of gs ts)) ≡ Some (value_of_file gs ts)
data_read gs ts h =
    ap (λ n. option_map object (option_and_then (λ d. option_and_then (λ e. option_and_then (λ f. Some (put (codes "actions") f (put (codes "gens") e (put (codes "p") d (member (codes "type") (string (codes "finite dimensional module")) no_members))))) (option_map array (of_items (items_outline (items_of ts))))) (option_map object (of_members (members_outline (members_of gs)) no_members))) (option_map number n))) (number_of-decimal 2 (omega arith))
    ∙ ap (λ o. option_map object (option_and_then (λ e. option_and_then (λ f. Some (put (codes "actions") f (put (codes "gens") e (put (codes "p") (number (unsigned 2)) (member (codes "type") (string (codes "finite dimensional module")) no_members))))) (option_map array (of_items (items_outline (items_of ts))))) (option_map object o))) (members_read [] gs h)
    ∙ ap (λ o. option_map object (option_and_then (λ f. Some (put (codes "actions") f (put (codes "gens") (object (members_of gs)) (put (codes "p") (number (unsigned 2)) (member (codes "type") (string (codes "finite dimensional module")) no_members))))) (option_map array o))) (items_read ts)

-- ---- no refusal

members_are : (gs : List Generator) → members_count (members_of gs) ≡ length gs
members_are [] = refl
members_are (g ∷ gs) = ap (λ n. 1 + n) (members_are gs) ∙ omega arith

items_are : (ts : List (List ℕ)) → items_count (items_of ts) ≡ length ts
items_are [] = refl
items_are (t ∷ ts) = ap (λ n. 1 + n) (items_are ts) ∙ omega arith

degree_read : (z : ℤ) → mag z < 2 ^ 63 → degree_of (number (number_from z)) ≡ Some z
degree_read (pos n) h = ap (λ b. if b then Some (pos n) else None) (lt-ltb n (2 ^ 63) (omega arith))
degree_read (negsuc n) h = refl

none_refused : (i : ℕ) (gs : List Generator) → Numbered i gs → i + length gs ≤ 64 → generators_refusal i (members_of gs) ≡ None
none_refused i [] h few = refl
none_refused i (g ∷ gs) h few =
    ap (λ b. option_or (first_of (unless b (Name i) ∷ after (degree_of (number (number_from g.degree))) ∷ [])) rest) (ap is_name h.0 ∙ list_all-holds (λ i. is_name (numbered_name i)) 0 64 i (omega arith) (omega arith) all_named)
    ∙ ap (λ o. option_or (first_of (after o ∷ [])) rest) (degree_read g.degree (small g.degree h.1))
    ∙ ap (λ b. option_or (first_of (unless b (Limit Degree) ∷ [])) rest) h.1
    ∙ none_refused (suc i) gs h.2 (omega arith)
  where
    rest : Option Malformed
    rest = generators_refusal (suc i) (members_of gs)

    after : Option ℤ → Option Malformed
    after o = degree_refusal i o

pub all_listed : (i : ℕ) (gs : List Generator) → Numbered i gs → listed (members_of gs) ≡ gs
all_listed i [] h = refl
all_listed i (g ∷ gs) h = onto (degree_of (number (number_from g.degree))) (degree_read g.degree (small g.degree h.1)) (all_listed (suc i) gs h.2)
  where
    onto : (o : Option ℤ) → o ≡ Some g.degree → listed (members_of gs) ≡ gs → listed (members_of (g ∷ gs)) ≡ g ∷ gs
    onto o e ih = rw (degree_read g.degree (small g.degree h.1), ih)

pub described : (gs : List Generator) (ts : List (List ℕ)) → Numbered 0 gs → length gs ≤ 64 → length ts ≤ 4096 → by_degree gs ≡ gs → spans gs ≡ true → file_of (value_of_file gs ts) ≡ with_entries gs (entries_from gs [] (items_of ts))
described gs ts h few few_actions stand near =
    let bs : listed (members_of gs) ≡ gs = all_listed 0 gs h in
    ap (λ b. unless_refused (first_of (unless b (Limit ManyGens) ∷ generators_refusal 0 (members_of gs) ∷ unless (spans (by_degree (listed (members_of gs)))) (Limit Span) ∷ unless (nat_le (items_count (items_of ts)) MAX_ACTIONS) (Limit ManyActions) ∷ [])) (with_entries (by_degree (listed (members_of gs))) (entries_from (by_degree (listed (members_of gs))) [] (items_of ts)))) (ap (λ n. nat_le n 64) (members_are gs) ∙ le-leb (length gs) 64 few)
    ∙ ap (λ o. unless_refused (first_of (o ∷ unless (spans (by_degree (listed (members_of gs)))) (Limit Span) ∷ unless (nat_le (items_count (items_of ts)) MAX_ACTIONS) (Limit ManyActions) ∷ [])) (with_entries (by_degree (listed (members_of gs))) (entries_from (by_degree (listed (members_of gs))) [] (items_of ts)))) (none_refused 0 gs h (omega arith))
    ∙ ap (λ xs. unless_refused (first_of (unless (spans xs) (Limit Span) ∷ unless (nat_le (items_count (items_of ts)) MAX_ACTIONS) (Limit ManyActions) ∷ [])) (with_entries xs (entries_from xs [] (items_of ts)))) (ap by_degree bs ∙ stand)
    ∙ ap (λ b. unless_refused (first_of (unless b (Limit Span) ∷ unless (nat_le (items_count (items_of ts)) MAX_ACTIONS) (Limit ManyActions) ∷ [])) (with_entries gs (entries_from gs [] (items_of ts)))) near
    ∙ ap (λ b. unless_refused (first_of (unless b (Limit ManyActions) ∷ [])) (with_entries gs (entries_from gs [] (items_of ts)))) (ap (λ n. nat_le n 4096) (items_are ts) ∙ le-leb (length ts) 4096 few_actions)
