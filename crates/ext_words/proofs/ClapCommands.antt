-- A command of the table: its arguments as `clap` is told of them, and that its matches give what the grammar does.
use Rattle.std.proofs.Common.{◌≡◌, ℕ, ◌+◌, refl, List, [], ◌∷◌, ◌++◌, Bool, true, false, Option, Some, None, inl, inr, ap, ap₂, sym, subst, ◌∙◌}
use Rattle.std.specs.Prelude.{◌&&◌, ◌||◌, not, cond, find, map, is_some, option_map, option_and_then, IfSome, if◌then◌else◌}
use Rattle.std.specs.List.{list_all, list_any}
use Rattle.std.specs.Option.{option_or}
use Rattle.std.specs.Str.{bytes_eq}
use Rattle.std.proofs.lemmas.Bool.{and_parts, or_cases, or_parts, true≢false}
use Rattle.std.proofs.lemmas.List.Folds.{find-append}
use Rattle.std.proofs.lemmas.Slice.Eq.{bytes_eq-Decides}
use Rattle.clap.specs.Walk.{Row, Rule, Text, arg_by_id, arg_by_long, has_long, is_empty}
use Rattle.clap.specs.Takes.{is_given}
use Rattle.clap.proofs.SimpleLemmas.{is_false}
use Rattle.ext_words.specs.Words.{Grammar, Part, is_in, fits, plain_words, parts_of, given_from, each_once, given_to}
use Rattle.ext_words.specs.Inside.CommandLine.{has_stray, given_by}
use Rattle.ext_words.proofs.ClapWords.{Arguments, Named, Kind, flag, single, several, is_option, is_unknown, option_rule}
use Rattle.ext_words.proofs.ClapParts.{word_rule, Stand, IsCommand, uses, after_parts}
use Rattle.ext_words.proofs.ClapUses.{AreApart, are_apart, rows_with, after-first, known-parts, same-given}

-- ---- the arguments of a command

-- the words, from a position on
abbrev words_from : ℕ → List Text → List Rule
words_from position [] = []
words_from position (id ∷ ids) = word_rule position id ∷ words_from (position + 1) ids

-- an option that takes a value, by the names of those that may be given more than once
abbrev kind_of : Bool → Kind
kind_of again = if again then several else single

abbrev valued_rule : List Text → Text → Rule
valued_rule repeated name = option_rule (kind_of (is_in repeated name)) name

abbrev pub rules_of : Grammar → List Rule
rules_of g = words_from 1 g.words ++ (map (valued_rule g.options.repeated) g.options.valued ++ map (option_rule flag) g.options.flags)

abbrev pub arguments : Grammar → Arguments
arguments g = record { rules = rules_of g; words = g.words; options = g.options }

-- none of the names is among the others
abbrev are_others : List Text → List Text → Bool
are_others names others = list_all (λ n. not (is_in others n)) names

-- no name stands twice, no flag may be given more than once, the words stand in their order, and no argument has a default value or is
-- required
pub record IsSound (g : Grammar) : Type 0 where
  pub words : are_apart g.words ≡ true
  pub valued : are_others g.options.valued g.words ≡ true
  pub flags : are_others g.options.flags g.words ≡ true
  pub flags_once : are_others g.options.flags g.options.repeated ≡ true
  pub stands : Stand (arguments g) 1 g.words
  pub no_defaults : list_all (λ a. is_empty a.defaults) (rules_of g) ≡ true
  pub none_lacking : (rows : List Row) → list_any (λ a. a.required && not (is_given a.id rows)) (rules_of g) ≡ false

abbrev pub AreSound : List Grammar → Type 0
AreSound [] = Unit {0}
AreSound (g ∷ list) = IsSound g × AreSound list

-- ---- what is found of a name

-- a name that is apart from others
not-among : (names others : List Text) (name : Text) → are_others names others ≡ true → is_in names name ≡ true → is_in others name ≡ false
not-among [] others name apart has = absurd (true≢false (sym has))
not-among (n ∷ names) others name apart has =
    let parts = and_parts _ _ apart in
    elim (or_cases (bytes_eq n name) (is_in names name) has) [
      | inl here ↦ subst (λ (t : Text). is_in others t ≡ false) ((bytes_eq-Decides n name).0 here) (is_false (is_in others n) parts.0)
      | inr there ↦ not-among names others name parts.1 there
    ]

-- where the test is that of the name
found-by : (rule : Text → Rule) (test : Rule → Bool) (name : Text) → ((n : Text) → test (rule n) ≡ bytes_eq n name) → (names : List Text) → find test (map rule names) ≡ (if is_in names name then Some (rule name) else None)
found-by rule test name same [] = refl
found-by rule test name same (n ∷ names) = here (bytes_eq n name) refl (found-by rule test name same names)
  where
    here : (b : Bool) → bytes_eq n name ≡ b → find test (map rule names) ≡ (if is_in names name then Some (rule name) else None) →
        cond (test (rule n)) (Some (rule n)) (find test (map rule names)) ≡ (if bytes_eq n name || is_in names name then Some (rule name) else None)
    here true e rest = rw (same n, e) (ap (λ (t : Text). Some (rule t)) ((bytes_eq-Decides n name).0 e))
    here false e rest = rw (same n, e) rest

no-word-long : (position : ℕ) (ids : List Text) (name : Text) → arg_by_long (words_from position ids) name ≡ None
no-word-long position [] name = refl
no-word-long position (id ∷ ids) name = no-word-long (position + 1) ids name

no-word-named : (position : ℕ) (ids : List Text) (name : Text) → is_in ids name ≡ false → arg_by_id (words_from position ids) name ≡ None
no-word-named position [] name none = refl
no-word-named position (id ∷ ids) name none =
    let parts = or_parts (bytes_eq id name) (is_in ids name) none in
    rw (parts.0) (no-word-named (position + 1) ids name parts.1)

or-false : (a : Bool) → (a || false) ≡ a
or-false true = refl
or-false false = refl

module _ (g : Grammar) (name : Text) where
  -- an option or a flag of this name
  abbrev of_name : Option Rule
  of_name = option_or (if is_in g.options.valued name then Some (valued_rule g.options.repeated name) else None) (if is_in g.options.flags name then Some (option_rule flag name) else None)

  named-is : (test : Rule → Bool) → find test (words_from 1 g.words) ≡ None → ((kind : Kind) (n : Text) → test (option_rule kind n) ≡ bytes_eq n name) → find test (rules_of g) ≡ of_name
  named-is test none same =
      find-append test (words_from 1 g.words) (map (valued_rule g.options.repeated) g.options.valued ++ map (option_rule flag) g.options.flags)
      ∙ ap₂ option_or none (find-append test (map (valued_rule g.options.repeated) g.options.valued) (map (option_rule flag) g.options.flags)
      ∙ ap₂ option_or (found-by (valued_rule g.options.repeated) test name (λ n. same (kind_of (is_in g.options.repeated n)) n) g.options.valued) (found-by (option_rule flag) test name (same flag) g.options.flags))

  long-is : arg_by_long (rules_of g) name ≡ of_name
  long-is = named-is (λ a. not (is_some a.index) && has_long a name) (no-word-long 1 g.words name) same
    where
      same : (kind : Kind) (n : Text) → (not (is_some (option_rule kind n).index) && has_long (option_rule kind n) name) ≡ bytes_eq n name
      same flag n = or-false (bytes_eq n name)
      same single n = or-false (bytes_eq n name)
      same several n = or-false (bytes_eq n name)

  id-is : is_in g.words name ≡ false → arg_by_id (rules_of g) name ≡ of_name
  id-is none = named-is (λ a. bytes_eq a.id name) (no-word-named 1 g.words name none) same
    where
      same : (kind : Kind) (n : Text) → bytes_eq (option_rule kind n).id name ≡ bytes_eq n name
      same flag n = refl
      same single n = refl
      same several n = refl

-- ---- a sound command

module _ (g : Grammar) (sound : IsSound g) where
  named : (name : Text) → Named (arguments g) name
  named name = by (is_in g.options.valued name) (is_in g.options.flags name) (is_in g.options.repeated name) refl refl refl
    where
      by : (valued flags again : Bool) → is_in g.options.valued name ≡ valued → is_in g.options.flags name ≡ flags → is_in g.options.repeated name ≡ again → Named (arguments g) name
      by true flags false v f a =
          let no_word = not-among g.options.valued g.words name sound.valued v in
          is_option single (record { by_long = long-is g name ∙ rw (v, a) refl; by_id = id-is g name no_word ∙ rw (v, a) refl; takes = v; again = a; listed = refl; no_word = no_word })
      by true flags true v f a =
          let no_word = not-among g.options.valued g.words name sound.valued v in
          is_option several (record { by_long = long-is g name ∙ rw (v, a) refl; by_id = id-is g name no_word ∙ rw (v, a) refl; takes = v; again = a; listed = refl; no_word = no_word })
      by false true again v f a =
          let no_word = not-among g.options.flags g.words name sound.flags f in
          is_option flag (record { by_long = long-is g name ∙ rw (v, f) refl; by_id = id-is g name no_word ∙ rw (v, f) refl; takes = v; again = not-among g.options.flags g.options.repeated name sound.flags_once f; listed = f; no_word = no_word })
      by false false again v f a = is_unknown (long-is g name ∙ rw (v, f) refl) v f

  pub is_command : IsCommand (arguments g)
  is_command = record { named = named; no_defaults = sound.no_defaults; none_lacking = sound.none_lacking }

  -- ---- what its matches give

  by-rows : (parts : List Part) (kept : Bool) → option_map given_by (if kept then Some (rows_with [] (uses parts g.words)) else None) ≡ (if kept then Some (given_from parts g.words) else None)
  by-rows parts true = ap Some (same-given parts g.words)
  by-rows parts false = refl

  by-parts : (taken : Option (List Part)) → IfSome taken (AreApart g.words) →
      option_map given_by (option_and_then (after_parts g.options.repeated g.words []) taken)
      ≡ option_and_then (λ parts. if each_once g.options.repeated parts && fits (plain_words parts) g.words then Some (given_from parts g.words) else None) taken
  by-parts None known = refl
  by-parts (Some parts) known =
      ap (option_map given_by) (after-first g.options.repeated parts g.words sound.words known) ∙ by-rows parts (each_once g.options.repeated parts && fits (plain_words parts) g.words)

  -- the rows that `clap` has after the words give what the grammar finds in them
  pub gives-same : (words : List Text) → has_stray words ≡ false → option_map given_by (option_and_then (after_parts g.options.repeated g.words []) (parts_of g.options words)) ≡ given_to g words
  gives-same words kept = by-parts (parts_of g.options words) (known-parts (arguments g) is_command words kept)
