-- The module file of a sample: its generators stand by degree, and its actions are plain.
use Rattle.std.proofs.Common.{◌≡◌, ℕ, zero, suc, ◌+◌, ◌/◌, ◌%◌, ◌^◌, ◌<◌, ◌≤◌, pos, ◌≤ℤ◌, Bool, true, false, cond, nat_eq, nat_lt, List, [], ◌∷◌, ◌++◌, length, take, get_or, All, Option, Some, None, option_map, option_and_then, option_to_list, filter_map, refl, ap, sym, subst, ◌∙◌, arith, length-append}
use Rattle.std.specs.Int.{is_power_of_two}
use lib.Count.{ones}
use Rattle.std.specs.List.{range_with_len, cons_option, AllByRecursion}
use Rattle.std.specs.Str.{bytes_eq}
use Rattle.std.specs.Cmp.Lexicographic.{bytes_decides}
use Rattle.std.proofs.lemmas.Int.{ints}
use Rattle.std.proofs.lemmas.List.{take_more, append-nil, append_assoc}
use Rattle.std.proofs.lemmas.List.Elements.{All-cons, All-nil, All-append, filter_map-append, recursion_from_All, All-from_recursion}
use Rattle.std.proofs.lemmas.List.Quantifiers.{position-Some}
use Rattle.std.proofs.Math.Nat.{mod-lt}
use Rattle.std.proofs.lemmas.Option.{same_Some}
use Rattle.f2_vec.proofs.Ones.{range_more}
use Rattle.milnor_basis.specs.Exponents.{IsTrimmed}
use Rattle.module_spec.specs.Spec.{Generator, Entry, no_generator, by_degree, number_of}
use Rattle.module_spec.specs.WellFormed.{AreByDegree}
use Rattle.module_spec.proofs.Sorting.{EachPair-by_place, length-sorted_by, Rises-sorted_by, All-sorted_by}
use Rattle.finite_module.specs.DerivedAction.{derived_operator, derived_module}
use Rattle.finite_module.specs.Text.{name_at}
use Rattle.finite_module.specs.Axioms.{IsModule}
use Rattle.finite_module.specs.Sample.{drawn, square_of, piece, piece_count, cell_name, cell_degree, cell_of, by_text, named, entry_of, sample_generators, sample_entries, sample_file}
use Rattle.finite_module.specs.declared.sample.Cell.{Cell}
use Rattle.finite_module.specs.declared.sample.Cell.TheVariants.{Bottom, Top}
use Rattle.finite_module.proofs.Derivation.{derived_to}
use Rattle.finite_module.proofs.Plain.{ArePlain}
use Rattle.finite_module.proofs.PlainModule.{plain_operator, next_plain, plain_is_module}

-- ---- lists of what there is

cons_option-nil : {Y : Type 0} (o : Option Y) → cons_option o [] ≡ option_to_list o
cons_option-nil None = refl
cons_option-nil (Some y) = refl

pub filter_map_take : {X Y : Type 0} (h : X → Option Y) (xs : List X) (i : ℕ) (d : X) → i < length xs → filter_map h (take (i + 1) xs) ≡ filter_map h (take i xs) ++ option_to_list (h (get_or xs i d))
filter_map_take h xs i d l =
    ap (filter_map h) (take_more xs i d l) ∙ filter_map-append h (take i xs) (get_or xs i d ∷ []) ∙ ap (λ ys. filter_map h (take i xs) ++ ys) (cons_option-nil (h (get_or xs i d)))

pub filter_map_range : {Y : Type 0} (h : ℕ → Option Y) (k : ℕ) → filter_map h (range_with_len 0 (k + 1)) ≡ filter_map h (range_with_len 0 k) ++ option_to_list (h k)
filter_map_range h k =
    ap (filter_map h) (range_more 0 k k (omega arith)) ∙ filter_map-append h (range_with_len 0 k) (k ∷ []) ∙ ap (λ ys. filter_map h (range_with_len 0 k) ++ ys) (cons_option-nil (h k))

-- one more in a loop over a list, after those that stand before
module _ {X Y : Type 0} (h : X → Option Y) (xs : List X) (i : ℕ) (d : X) (l : i < length xs) (front items : List Y) (before : items ≡ front ++ filter_map h (take i xs)) where
  longer : front ++ filter_map h (take (i + 1) xs) ≡ items ++ option_to_list (h (get_or xs i d))
  longer =
      ap (λ ys. front ++ ys) (filter_map_take h xs i d l) ∙ sym (append_assoc front (filter_map h (take i xs)) (option_to_list (h (get_or xs i d)))) ∙ ap (λ ys. ys ++ option_to_list (h (get_or xs i d))) (sym before)

  pub some_more : (items' : List Y) (o : Option Y) (y : Y) → o ≡ h (get_or xs i d) → o ≡ Some y → items' ≡ items ++ y ∷ [] → items' ≡ front ++ filter_map h (take (i + 1) xs)
  some_more items' o y e f pushed = pushed ∙ ap (λ p. items ++ option_to_list p) (sym f ∙ e) ∙ sym longer

  pub none_more : (o : Option Y) → o ≡ h (get_or xs i d) → o ≡ None → items ≡ front ++ filter_map h (take (i + 1) xs)
  none_more o e f = sym (append-nil items) ∙ ap (λ p. items ++ option_to_list p) (sym f ∙ e) ∙ sym longer

-- the same over a range
module _ {Y : Type 0} (h : ℕ → Option Y) (k : ℕ) (items : List Y) (before : items ≡ filter_map h (range_with_len 0 k)) where
  pub some_in_range : (items' : List Y) (o : Option Y) (y : Y) → o ≡ h k → o ≡ Some y → items' ≡ items ++ y ∷ [] → items' ≡ filter_map h (range_with_len 0 (k + 1))
  some_in_range items' o y e f pushed =
      pushed ∙ ap (λ p. items ++ option_to_list p) (sym f ∙ e) ∙ ap (λ ys. ys ++ option_to_list (h k)) before ∙ sym (filter_map_range h k)

  pub none_in_range : (o : Option Y) → o ≡ h k → o ≡ None → items ≡ filter_map h (range_with_len 0 (k + 1))
  none_in_range o e f =
      sym (append-nil items) ∙ ap (λ p. items ++ option_to_list p) (sym f ∙ e) ∙ ap (λ ys. ys ++ option_to_list (h k)) before ∙ sym (filter_map_range h k)

All-filter_map : {X Y : Type 0} (P : Y → Type 0) (h : X → Option Y) (xs : List X) → ((x : X) (y : Y) → h x ≡ Some y → P y) → All P (filter_map h xs)
All-filter_map P h [] f = All-nil P
All-filter_map P h (x ∷ xs) f = by P (h x) (f x) (filter_map h xs) (All-filter_map P h xs f)
  where
    by : {Y : Type 0} (P : Y → Type 0) (o : Option Y) → ((y : Y) → o ≡ Some y → P y) → (ys : List Y) → All P ys → All P (cons_option o ys)
    by P None g ys later = later
    by P (Some y) g ys later = All-cons P y ys (g y refl) later

filter_map_short : {X Y : Type 0} (h : X → Option Y) (xs : List X) → length (filter_map h xs) ≤ length xs
filter_map_short h [] = omega arith
filter_map_short h (x ∷ xs) = by (h x) (filter_map h xs) (length xs) (filter_map_short h xs)
  where
    by : {Y : Type 0} (o : Option Y) (ys : List Y) (n : ℕ) → length ys ≤ n → length (cons_option o ys) ≤ suc n
    by None ys n l = omega arith
    by (Some y) ys n l = omega arith

-- ---- the actions are plain

-- a square that a piece has
pub record IsSquare (m : ℕ) : Type 0 where
  pub exponent : ℕ
  pub power : m ≡ 2 ^ exponent
  pub test : is_power_of_two m ≡ true
  pub small : m ≤ 8

one_is : IsSquare 1
unfolding ones
one_is = record { exponent = 0; power = refl; test = refl; small = omega arith }

two_is : IsSquare 2
unfolding ones
two_is = record { exponent = 1; power = refl; test = refl; small = omega arith }

four_is : IsSquare 4
unfolding ones
four_is = record { exponent = 2; power = refl; test = refl; small = omega arith }

eight_is : IsSquare 8
unfolding ones
eight_is = record { exponent = 3; power = refl; test = refl; small = omega arith }

square_is : (kind m : ℕ) → square_of kind ≡ Some m → IsSquare m
square_is zero m e = cc
square_is (suc zero) m e = subst IsSquare (same_Some 1 m e) one_is
square_is (suc (suc zero)) m e = subst IsSquare (same_Some 2 m e) two_is
square_is (suc (suc (suc zero))) m e = subst IsSquare (same_Some 4 m e) four_is
square_is (suc (suc (suc (suc kind)))) m e = subst IsSquare (same_Some 8 m e) eight_is

-- the parts of an entry
entry_parts : (o p q : Option ℕ) (e : Entry) → option_and_then (λ m. option_and_then (λ i. option_map (λ j. record { n = m; generator = i; sum = j ∷ [] }) q) p) o ≡ Some e → (o ≡ Some e.n) × (p ≡ Some e.generator) × ((j : ℕ) × (q ≡ Some j) × (e.sum ≡ j ∷ []))
entry_parts None p q e h = cc
entry_parts (Some m) None q e h = cc
entry_parts (Some m) (Some i) None e h = cc
entry_parts (Some m) (Some i) (Some j) e h =
    let one : Entry = record { n = m; generator = i; sum = j ∷ [] } in
    let same : one ≡ e = same_Some one e h in
    (ap (λ x. Some x.n) same, ap (λ x. Some x.generator) same, (j, refl, sym (ap (λ x. x.sum) same)))

-- whether a generator is a top cell, by its letter
abbrev pub is_top : List Generator → ℕ → Bool
is_top gs j = nat_eq (get_or (name_at gs j) 0 0) 121

name_found : (gs : List Generator) (name : List ℕ) (j : ℕ) → number_of gs name ≡ Some j → name_at gs j ≡ name
name_found gs name j e = (bytes_decides (name_at gs j) name).0 (position-Some (λ g. bytes_eq g.name name) gs j no_generator e).1

top_found : (gs : List Generator) (k j : ℕ) → number_of gs (cell_name Top k) ≡ Some j → is_top gs j ≡ true
top_found gs k j e = ap (λ name. nat_eq (get_or name 0 0) 121) (name_found gs (cell_name Top k) j e)

bottom_found : (gs : List Generator) (k i : ℕ) → number_of gs (cell_name Bottom k) ≡ Some i → is_top gs i ≡ false
bottom_found gs k i e = ap (λ name. nat_eq (get_or name 0 0) 121) (name_found gs (cell_name Bottom k) i e)

abbrev parts_of : (n k : ℕ) (e : Entry) → entry_of n k ≡ Some e → ((piece n k).square ≡ Some e.n) × (number_of (sample_generators n) (cell_name Bottom k) ≡ Some e.generator) × ((j : ℕ) × (number_of (sample_generators n) (cell_name Top k) ≡ Some j) × (e.sum ≡ j ∷ []))
parts_of n k e h = entry_parts (piece n k).square (number_of (sample_generators n) (cell_name Bottom k)) (number_of (sample_generators n) (cell_name Top k)) e h

pub sample_is_plain : (n : ℕ) → ArePlain (is_top (sample_generators n)) (sample_entries n)
unfolding sample_entries
sample_is_plain n =
    record {
      powers = All-filter_map (λ e. (v : ℕ) × (e.n ≡ 2 ^ v)) (entry_of n) (range_with_len 0 (piece_count n)) (λ k e h.
          let s = square_is (drawn n (suc k) / 65536 % 5) e.n (parts_of n k e h).0 in (s.exponent, s.power));
      tests = All-filter_map (λ e. is_power_of_two e.n ≡ true) (entry_of n) (range_with_len 0 (piece_count n)) (λ k e h. (square_is (drawn n (suc k) / 65536 % 5) e.n (parts_of n k e h).0).test);
      starts = All-filter_map (λ e. is_top (sample_generators n) e.generator ≡ false) (entry_of n) (range_with_len 0 (piece_count n)) (λ k e h. bottom_found (sample_generators n) k e.generator (parts_of n k e h).1);
      ends = All-filter_map (λ e. All (λ j. is_top (sample_generators n) j ≡ true) e.sum) (entry_of n) (range_with_len 0 (piece_count n)) (λ k e h.
          let top = (parts_of n k e h).2 in
          subst (All (λ j. is_top (sample_generators n) j ≡ true)) (sym top.2) (All-cons (λ j. is_top (sample_generators n) j ≡ true) top.0 [] (top_found (sample_generators n) k top.0 top.1) (All-nil (λ j. is_top (sample_generators n) j ≡ true))));
    }

pub sample_is_module : (n : ℕ) → IsModule (derived_module (sample_file n))
sample_is_module n = plain_is_module (sample_file n) (is_top (sample_generators n)) (sample_is_plain n)

pub next_operator : (n degree k : ℕ) (r : List ℕ) (operators : List (List (List Bool))) (gs : List Generator) (entries : List Entry) (operator : List (List Bool)) → gs ≡ sample_generators n → entries ≡ sample_entries n → operators ≡ derived_to (sample_file n) degree k → IsTrimmed r → operator ≡ plain_operator gs entries r → operator ≡ derived_operator (sample_file n) operators r
next_operator n degree k r operators gs entries operator a b e tight is =
    is ∙ ap (λ xs. plain_operator xs entries r) a ∙ ap (λ es. plain_operator (sample_generators n) es r) b ∙ next_plain (sample_file n) (is_top (sample_generators n)) (sample_is_plain n) degree k r operators e tight

-- ---- the generators stand by degree

-- a degree of a cell
pub record IsLow (g : Generator) : Type 0 where
  pub degree : ℕ
  pub is : g.degree ≡ pos degree
  pub low : degree ≤ 15

low_of : (name : List ℕ) (o : Option ℕ) (g : Generator) → ((d : ℕ) → o ≡ Some d → d ≤ 15) → option_map (λ d. record { name = name; degree = pos d }) o ≡ Some g → IsLow g
low_of name None g low h = cc
low_of name (Some d) g low h =
    let one : Generator = record { name = name; degree = pos d } in
    let same : one ≡ g = same_Some one g h in
    record { degree = d; is = sym (ap (λ x. x.degree) same); low = low d refl }

top_low : (shift : ℕ) (o : Option ℕ) → shift < 8 → ((m : ℕ) → o ≡ Some m → m ≤ 8) → (d : ℕ) → option_map (λ m. shift + m) o ≡ Some d → d ≤ 15
top_low shift None l small d h = cc
top_low shift (Some m) l small d h = omega (arith, same_Some (shift + m) d h, small m refl)

below_eight : (x : ℕ) → x % 8 < 8
below_eight x = mod-lt x (omega arith)

cell_low : (n k : ℕ) (cell : Cell) (d : ℕ) → cell_degree (piece n k) cell ≡ Some d → d ≤ 15
cell_low n k Bottom d h = omega (arith, same_Some (drawn n (suc k) / 256 % 8) d h, below_eight (drawn n (suc k) / 256))
cell_low n k Top d h = top_low (drawn n (suc k) / 256 % 8) (square_of (drawn n (suc k) / 65536 % 5)) (below_eight (drawn n (suc k) / 256)) (λ m e. (square_is (drawn n (suc k) / 65536 % 5) m e).small) d h

low_cells : (n : ℕ) (cell : Cell) → All IsLow (filter_map (cell_of n cell) by_text)
low_cells n cell = All-filter_map IsLow (cell_of n cell) by_text (λ k g h. by (nat_lt k (piece_count n)) k g h)
  where
    by : (b : Bool) (k : ℕ) (g : Generator) → cond b (option_map (λ degree. record { name = cell_name cell k; degree = pos degree }) (cell_degree (piece n k) cell)) None ≡ Some g → IsLow g
    by true k g h = low_of (cell_name cell k) (cell_degree (piece n k) cell) g (λ d e. cell_low n k cell d e) h
    by false k g h = cc

pub named_by_degree : (n : ℕ) → AreByDegree (by_degree (named n))
unfolding named
named_by_degree n =
    let gs : List Generator = by_degree (named n) in
    let low : AllByRecursion IsLow gs = All-sorted_by (λ (g : Generator). g.degree) IsLow (named n) (recursion_from_All IsLow (named n) (All-append IsLow (filter_map (cell_of n Bottom) by_text) (filter_map (cell_of n Top) by_text) (low_cells n Bottom) (low_cells n Top))) in
    let each = All-from_recursion IsLow gs low in
    let count : length gs ≡ length (filter_map (cell_of n Bottom) by_text) + length (filter_map (cell_of n Top) by_text) = length-sorted_by (λ (g : Generator). g.degree) (named n) ∙ length-append (filter_map (cell_of n Bottom) by_text) (filter_map (cell_of n Top) by_text) in
    record {
      few = omega (arith, filter_map_short (cell_of n Bottom) by_text, filter_map_short (cell_of n Top) by_text);
      lowest = λ k d l. let g = each k d l in omega (arith, ints, g.is);
      highest = λ k d l. let g = each k d l in omega (arith, ints, g.is, g.low);
      ordered = EachPair-by_place (λ g h. g.degree ≤ℤ h.degree) gs (Rises-sorted_by (λ (g : Generator). g.degree) (named n));
      span = λ i j d l m. let g = each i d (omega (arith, m)) in let h = each j d m in omega (arith, ints, g.is, h.is, h.low);
    }

-- ---- what the loops make

pub named_made : (n : ℕ) (none bottom all : List Generator) → none ≡ [] → bottom ≡ none ++ filter_map (cell_of n Bottom) by_text → all ≡ bottom ++ filter_map (cell_of n Top) by_text → all ≡ named n
unfolding named
named_made n none bottom all a b e =
    e ∙ ap (λ gs. gs ++ filter_map (cell_of n Top) by_text) (b ∙ ap (λ gs. gs ++ filter_map (cell_of n Bottom) by_text) a)

pub generators_made : (n : ℕ) (all : List Generator) → all ≡ named n → by_degree all ≡ sample_generators n
unfolding sample_generators
generators_made n all e = ap by_degree e

pub entries_made : (n k : ℕ) (items : List Entry) → items ≡ filter_map (entry_of n) (range_with_len 0 k) → k ≡ piece_count n → items ≡ sample_entries n
unfolding sample_entries
entries_made n k items e f = e ∙ ap (λ m. filter_map (entry_of n) (range_with_len 0 m)) f

-- ---- the generators of a sample

pub sample_by_degree : (n : ℕ) → AreByDegree (sample_generators n)
unfolding sample_generators
sample_by_degree n = named_by_degree n
