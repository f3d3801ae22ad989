-- The text of a module's file is of ASCII characters, and is short.
use Rattle.std.specs.Prelude.{nat_le, nat_lt, int_le}
use Rattle.std.specs.Fmt.{digits, signed_decimal}
use Rattle.std.specs.List.{AllByRecursion, flat_map, list_all, range_with_len}
use Rattle.std.proofs.Common.{◌≡◌, ℕ, zero, suc, ◌+◌, ◌*◌, ◌<◌, ◌≤◌, ℤ, pos, neg_ℤ, negsuc, Bool, true, false, ◌&&◌, ◌||◌, ◌==◌, if◌then◌else◌, List, [], ◌∷◌, ◌++◌, length, map, codes, decimal, refl, sym, ap, subst, ◌∙◌, arith, append_assoc}
use Rattle.std.proofs.lemmas.Bool.{and_parts, and_from, leb-true}
use Rattle.std.proofs.lemmas.Int.{ints}
use Rattle.std.proofs.lemmas.List.{length-append, length-map}
use Rattle.std.proofs.lemmas.List.Folds.{list_all-append}
use Rattle.json.proofs.Printed.Utf8.{are_ascii}
use Rattle.module_spec.specs.Spec.{Generator, within_limit, powers}
use Rattle.module_spec.specs.declared.limits.TheConstants.{MAX_DEGREE}
use Rattle.finite_module.specs.Module.{Module}
use Rattle.finite_module.specs.Axioms.{IsModule}
use Rattle.finite_module.specs.Text.{name_at, joined_by_plus}
use Rattle.file_laws.specs.Files.{squares_of}
use Rattle.module_build.specs.Names.{numbered_name}
use Rattle.module_build.specs.FileText.{escaped, quoted, joined_by_comma, member}
use Rattle.file_text_laws.proofs.Written.{is_plain, are_plain, have_plain_names, text_of}
use Rattle.file_text_laws.proofs.Header.{Numbered}
use Rattle.file_text_laws.proofs.Lines.{is_visible, IsSquare, line}
use Rattle.file_text_laws.proofs.Sums.{RisesFrom}
use Rattle.file_text_laws.proofs.Described.{numbers, line_of, lines_of, is_there, IsKey, keys, below, rising}
use Rattle.milnor_basis.proofs.Ranges.{list_all-holds}

-- ---- characters

abbrev is_ascii : List ℕ → Bool
is_ascii = list_all (λ x. nat_lt x 128)

pub ascii_is : (xs : List ℕ) → is_ascii xs ≡ true → are_ascii xs ≡ true
ascii_is [] h = refl
ascii_is (x ∷ xs) h = let both = and_parts (nat_lt x 128) (is_ascii xs) h in and_from (nat_lt x 128) (are_ascii xs) both.0 (ascii_is xs both.1)

both_ascii : (xs ys : List ℕ) → is_ascii xs ≡ true → is_ascii ys ≡ true → is_ascii (xs ++ ys) ≡ true
both_ascii xs ys h k = list_all-append (λ x. nat_lt x 128) xs ys ∙ and_from (is_ascii xs) (is_ascii ys) h k

both_visible : (xs ys : List ℕ) → is_visible xs ≡ true → is_visible ys ≡ true → is_visible (xs ++ ys) ≡ true
both_visible xs ys h k = list_all-append (λ x. nat_le 32 x && nat_lt x 128) xs ys ∙ and_from (is_visible xs) (is_visible ys) h k

pub plain_is : (xs : List ℕ) → is_visible xs ≡ true → is_plain xs ≡ true
plain_is [] h = refl
plain_is (x ∷ xs) h =
    let both = and_parts (nat_le 32 x && nat_lt x 128) (is_visible xs) h in
    and_from (nat_le 32 x) (is_plain xs) (and_parts (nat_le 32 x) (nat_lt x 128) both.0).0 (plain_is xs both.1)

visible_ascii : (xs : List ℕ) → is_visible xs ≡ true → is_ascii xs ≡ true
visible_ascii [] h = refl
visible_ascii (x ∷ xs) h =
    let both = and_parts (nat_le 32 x && nat_lt x 128) (is_visible xs) h in
    and_from (nat_lt x 128) (is_ascii xs) (and_parts (nat_le 32 x) (nat_lt x 128) both.0).1 (visible_ascii xs both.1)

-- a text of ASCII characters, of this length at most
pub record Fits (b : ℕ) (xs : List ℕ) : Type 0 where
  pub ascii : is_ascii xs ≡ true
  pub short : length xs ≤ b

one_escaped : (x : ℕ) (c : Bool) → nat_lt x 128 ≡ true → Fits 2 (if c then 92 ∷ x ∷ [] else x ∷ [])
one_escaped x true h = record { ascii = and_from (nat_lt x 128) true h refl; short = omega arith }
one_escaped x false h = record { ascii = and_from (nat_lt x 128) true h refl; short = omega arith }

all_escaped : (xs : List ℕ) → is_ascii xs ≡ true → Fits (2 * length xs) (flat_map escaped xs)
all_escaped [] h = record { ascii = refl; short = omega arith }
all_escaped (x ∷ xs) h =
    let both = and_parts (nat_lt x 128) (is_ascii xs) h in
    let one = one_escaped x (x == 34 || x == 92) both.0 in
    let more = all_escaped xs both.1 in
    let a = one.short in
    let b = more.short in
    record { ascii = both_ascii (escaped x) (flat_map escaped xs) one.ascii more.ascii; short = omega (arith, length-append (escaped x) (flat_map escaped xs)) }

quoted_fits : (b : ℕ) (xs : List ℕ) → Fits b xs → Fits (2 * b + 2) (quoted xs)
quoted_fits b xs h =
    let inner = all_escaped xs h.ascii in
    let a = h.short in
    let c = inner.short in
    record { ascii = both_ascii (flat_map escaped xs) (34 ∷ []) inner.ascii refl; short = omega (arith, length-append (flat_map escaped xs) (34 ∷ [])) }

abbrev AllFit : ℕ → List (List ℕ) → Type 0
AllFit b = AllByRecursion (Fits b)

joined_fits : (b : ℕ) (xs : List (List ℕ)) → AllFit b xs → Fits ((b + 1) * length xs) (joined_by_comma xs)
joined_fits b [] h = record { ascii = refl; short = omega arith }
joined_fits b (x ∷ []) h = let a = h.0.short in record { ascii = h.0.ascii; short = omega arith }
joined_fits b (x ∷ y ∷ rest) h =
    let more = joined_fits b (y ∷ rest) h.1 in
    let a = h.0.short in
    let c = more.short in
    record { ascii = both_ascii x (44 ∷ joined_by_comma (y ∷ rest)) h.0.ascii more.ascii; short = omega (arith, length-append x (44 ∷ joined_by_comma (y ∷ rest))) }

all_quoted : (b : ℕ) (xs : List (List ℕ)) → AllFit b xs → AllFit (2 * b + 2) (map quoted xs)
all_quoted b [] h = tt
all_quoted b (x ∷ xs) h = (quoted_fits b x h.0, all_quoted b xs h.1)

-- ---- generators

abbrev is_short : ℕ → Bool
is_short n = is_visible (decimal n) && nat_le (length (decimal n)) 3

all_short : list_all is_short (range_with_len 0 130) ≡ true
unfolding digits
all_short = refl

decimal_short : (n : ℕ) → n < 130 → (is_visible (decimal n) ≡ true) × (length (decimal n) ≤ 3)
decimal_short n l =
    let both = and_parts (is_visible (decimal n)) (nat_le (length (decimal n)) 3) (list_all-holds is_short 0 130 n (omega arith) (omega arith) all_short) in
    (both.0, leb-true (length (decimal n)) 3 both.1)

degree_fits : (z : ℤ) → within_limit z ≡ true → Fits 4 (signed_decimal z)
degree_fits (pos n) h =
    let both = and_parts (int_le (neg_ℤ MAX_DEGREE) (pos n)) (int_le (pos n) MAX_DEGREE) h in
    let few : n < 130 = grind (arith, ints) in
    let d = decimal_short n few in
    let e = d.1 in
    record { ascii = visible_ascii (decimal n) d.0; short = omega arith }
degree_fits (negsuc n) h =
    let both = and_parts (int_le (neg_ℤ MAX_DEGREE) (negsuc n)) (int_le (negsuc n) MAX_DEGREE) h in
    let few : suc n < 130 = grind (arith, ints) in
    let d = decimal_short (suc n) few in
    let e = d.1 in
    record { ascii = visible_ascii (decimal (suc n)) d.0; short = omega arith }

abbrev is_small_name : ℕ → Bool
is_small_name i = is_visible (numbered_name i) && nat_le (length (numbered_name i)) 4

all_small_names : list_all is_small_name (range_with_len 0 64) ≡ true
all_small_names = refl

pub record IsSmallName (w : List ℕ) : Type 0 where
  pub visible : is_visible w ≡ true
  pub short : length w ≤ 4

small_name : (i : ℕ) → i < 64 → IsSmallName (numbered_name i)
small_name i l =
    let both = and_parts (is_visible (numbered_name i)) (nat_le (length (numbered_name i)) 4) (list_all-holds is_small_name 0 64 i (omega arith) (omega arith) all_small_names) in
    record { visible = both.0; short = leb-true (length (numbered_name i)) 4 both.1 }

members_fit : (i : ℕ) (gs : List Generator) → Numbered i gs → i + length gs ≤ 64 → AllFit 15 (map member gs)
members_fit i [] h few = tt
members_fit i (g ∷ gs) h few =
    let small : IsSmallName g.name = subst IsSmallName (sym h.0) (small_name i (omega arith)) in
    let name = quoted_fits 4 g.name (record { ascii = visible_ascii g.name small.visible; short = small.short }) in
    let degree = degree_fits g.degree h.1 in
    let a = name.short in
    let b = degree.short in (
      record { ascii = both_ascii (quoted g.name) (58 ∷ signed_decimal g.degree) name.ascii degree.ascii; short = omega (arith, length-append (quoted g.name) (58 ∷ signed_decimal g.degree)) },
      members_fit (suc i) gs h.2 (omega arith),
    )

pub plain_names : (i : ℕ) (gs : List Generator) → Numbered i gs → i + length gs ≤ 64 → have_plain_names gs ≡ true
plain_names i [] h few = refl
plain_names i (g ∷ gs) h few =
    let small : IsSmallName g.name = subst IsSmallName (sym h.0) (small_name i (omega arith)) in
    and_from (is_plain g.name) (have_plain_names gs) (plain_is g.name small.visible) (plain_names (suc i) gs h.2 (omega arith))

name_small : (b : ℕ) (gs : List Generator) (i : ℕ) → Numbered b gs → b + length gs ≤ 64 → i < length gs → IsSmallName (name_at gs i)
name_small b [] i h few l = absurd (omega arith)
name_small b (g ∷ gs) zero h few l = subst IsSmallName (sym h.0) (small_name b (omega arith))
name_small b (g ∷ gs) (suc i) h few l = name_small (suc b) gs i h.2 (omega arith) (omega arith)

-- ---- lines

pub record IsVisible (b : ℕ) (xs : List ℕ) : Type 0 where
  pub visible : is_visible xs ≡ true
  pub short : length xs ≤ b

sum_visible : (ws : List (List ℕ)) → AllByRecursion IsSmallName ws → IsVisible (7 * length ws) (joined_by_plus ws)
sum_visible [] h = record { visible = refl; short = omega arith }
sum_visible (w ∷ []) h = let a = h.0.short in record { visible = h.0.visible; short = omega arith }
sum_visible (w ∷ x ∷ xs) h =
    let more = sum_visible (x ∷ xs) h.1 in
    let a = h.0.short in
    let b = more.short in
    record { visible = both_visible w (32 ∷ 43 ∷ 32 ∷ joined_by_plus (x ∷ xs)) h.0.visible more.visible; short = omega (arith, length-append w (32 ∷ 43 ∷ 32 ∷ joined_by_plus (x ∷ xs))) }

line_visible : (n : ℕ) (name : List ℕ) (ws : List (List ℕ)) → IsSquare n → IsSmallName name → AllByRecursion IsSmallName ws → length ws ≤ 64 → IsVisible 460 (line n name ws)
line_visible n name ws s small h few =
    let square : List ℕ = codes "Sq" ++ decimal n in
    let sum = sum_visible ws h in
    let right : List ℕ = 32 ∷ 61 ∷ 32 ∷ joined_by_plus ws in
    let same : line n name ws ≡ square ++ 32 ∷ (name ++ right) = sym (append_assoc (codes "Sq") (decimal n) (32 ∷ (name ++ right))) in
    let a = leb-true (length square) 4 s.short in
    let b = small.short in
    let c = sum.short in
    record {
      visible = ap is_visible same ∙ both_visible square (32 ∷ (name ++ right)) s.visible (both_visible name right small.visible sum.visible);
      short = omega (arith, ap length same, length-append square (32 ∷ (name ++ right)), length-append name right);
    }

few_rise : (a n : ℕ) (js : List ℕ) → RisesFrom a js → AllByRecursion (λ j. j < a + n) js → length js ≤ n
few_rise a n [] h k = omega arith
few_rise a zero (j ∷ js) h k = let l = h.0 in let m = k.0 in absurd (omega arith)
few_rise a (suc n) (j ∷ js) h k = let l = h.0 in omega (arith, few_rise (suc a) n js (RisesFrom-later js h.1) (weaker js k.1))
  where
    RisesFrom-later : (js : List ℕ) → RisesFrom (suc j) js → RisesFrom (suc a) js
    RisesFrom-later [] r = tt
    RisesFrom-later (i ∷ is) r = let l = r.0 in let m = h.0 in (omega arith, r.1)

    weaker : (js : List ℕ) → AllByRecursion (λ j. j < a + suc n) js → AllByRecursion (λ j. j < suc a + n) js
    weaker [] r = tt
    weaker (i ∷ is) r = let l = r.0 in (omega arith, weaker is r.1)

module _ (m : Module) (is : IsModule m) (named : Numbered 0 m.generators) (few : length m.generators ≤ 64) where
  abbrev gs : List Generator
  gs = m.generators

  names_small : (js : List ℕ) → AllByRecursion (λ j. j < length gs) js → AllByRecursion IsSmallName (map (name_at gs) js)
  names_small [] h = tt
  names_small (j ∷ js) h = (name_small 0 gs j named (omega arith) h.0, names_small js h.1)

  within : (js : List ℕ) → AllByRecursion (λ j. j < length gs) js → AllByRecursion (λ j. j < 0 + length gs) js
  within [] h = tt
  within (j ∷ js) h = let l = h.0 in (omega arith, within js h.1)

  one_line : (k : ℕ × ℕ) → IsKey m k → IsVisible 460 (line_of m k)
  one_line k key =
      let js : List ℕ = numbers m k.0 k.1 in
      let few_numbers : length js ≤ length gs = few_rise 0 (length gs) js (rising m is named few k.0 k.1) (within js (below m is named few k.0 k.1)) in
      line_visible k.1 (name_at gs k.0) (map (name_at gs) js) key.square (name_small 0 gs k.0 named (omega arith) key.generator) (names_small js (below m is named few k.0 k.1)) (omega (arith, length-map js (name_at gs)))

  pub lines_visible : (ks : List (ℕ × ℕ)) → AllByRecursion (IsKey m) ks → AllByRecursion (IsVisible 460) (flat_map (lines_of m) ks)
  lines_visible [] h = tt
  lines_visible (k ∷ ks) h = at (is_there m k) (lines_visible ks h.1)
    where
      at : (b : Bool) → AllByRecursion (IsVisible 460) (flat_map (lines_of m) ks) → AllByRecursion (IsVisible 460) ((if b then line_of m k ∷ [] else []) ++ flat_map (lines_of m) ks)
      at true e = (one_line k h.0, e)
      at false e = e

  pub few_lines : (ks : List (ℕ × ℕ)) → length (flat_map (lines_of m) ks) ≤ length ks
  few_lines [] = omega arith
  few_lines (k ∷ ks) = at (is_there m k) (few_lines ks)
    where
      at : (b : Bool) → length (flat_map (lines_of m) ks) ≤ length ks → length ((if b then line_of m k ∷ [] else []) ++ flat_map (lines_of m) ks) ≤ length (k ∷ ks)
      at true e = omega arith
      at false e = omega arith

  abbrev row : ℕ → List (ℕ × ℕ)
  row i = map (λ p. (i, p)) powers

  seven_each : (a n : ℕ) → length (flat_map row (range_with_len a n)) ≡ 7 * n
  seven_each a zero = refl
  seven_each a (suc n) = omega (arith, length-append (row a) (flat_map row (range_with_len (a + 1) n)), seven_each (a + 1) n)

  pub few_squares : length (squares_of m) ≡ 7 * length gs
  few_squares = seven_each 0 (length gs)

  plain_lines : (ts : List (List ℕ)) → AllByRecursion (IsVisible 460) ts → are_plain ts ≡ true
  plain_lines [] h = refl
  plain_lines (t ∷ ts) h = and_from (is_plain t) (are_plain ts) (plain_is t h.0.visible) (plain_lines ts h.1)

  abbrev texts : List (List ℕ)
  texts = flat_map (lines_of m) (squares_of m)

  pub plain_texts : are_plain texts ≡ true
  plain_texts = plain_lines texts (lines_visible (squares_of m) (keys m))

  lines_fit : (ts : List (List ℕ)) → AllByRecursion (IsVisible 460) ts → AllFit 460 ts
  lines_fit [] h = tt
  lines_fit (t ∷ ts) h = (record { ascii = visible_ascii t h.0.visible; short = h.0.short }, lines_fit ts h.1)

  pub text_fits : Fits 1000000 (text_of gs texts)
  text_fits =
      let before : List ℕ = codes "{\"type\":\"finite dimensional module\",\"p\":2,\"gens\":{" in
      let middle : List ℕ = codes "},\"actions\":[" in
      let end : List ℕ = codes "]}" ++ 10 ∷ [] in
      let ms : List ℕ = joined_by_comma (map member gs) in
      let ls : List ℕ = joined_by_comma (map quoted texts) in
      let members = joined_fits 15 (map member gs) (members_fit 0 gs named (omega arith)) in
      let lines = joined_fits 922 (map quoted texts) (all_quoted 460 texts (lines_fit texts (lines_visible (squares_of m) (keys m)))) in
      let a = members.short in
      let b = lines.short in
      let c : length texts ≤ 448 = omega (arith, few_lines (squares_of m), few_squares) in
      record {
        ascii = both_ascii before (ms ++ (middle ++ (ls ++ end))) refl (both_ascii ms (middle ++ (ls ++ end)) members.ascii (both_ascii middle (ls ++ end) refl (both_ascii ls end lines.ascii refl)));
        short = omega (arith, length-append before (ms ++ (middle ++ (ls ++ end))), length-append ms (middle ++ (ls ++ end)), length-append middle (ls ++ end), length-append ls end, length-map gs member, length-map texts quoted);
      }
