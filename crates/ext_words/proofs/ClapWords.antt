-- What `clap` makes of one word, at a command with these arguments.
use Rattle.std.proofs.Common.{◌≡◌, ℕ, refl, List, [], ◌∷◌, Bool, true, false, Option, Some, None, ap, sym, subst, ◌∙◌}
use Rattle.std.specs.Prelude.{◌==◌, ◌||◌, not, is_some, option_to_list}
use Rattle.std.specs.Str.{bytes_eq}
use Rattle.std.proofs.lemmas.Bool.{eqb-true, eqb-false, ne_eqb, true≢false, false_from_ne_true}
use Rattle.std.proofs.lemmas.Slice.Eq.{bytes_eq-Decides}
use Rattle.std.specs.Option.{option_map_or}
use Rattle.clap.specs.Lexer.{long_of, short_of}
use Rattle.clap.specs.Simple.{filled, with_index}
use Rattle.clap.specs.Walk.{Rule, Text, Held, Waiting, idle, next, option as waits_for, arg_by_id, arg_by_long, long_or_other, short_or_plain, plain_word, reacted, settled}
use Rattle.clap.specs.Kinds.{Kinds, or_else}
use Rattle.clap.specs.Faults.{flag_word_fault, bundle_fault, react_fault, settle_fault}
use Rattle.clap.specs.declared.error.kind.ErrorKind.{ErrorKind}
use Rattle.clap.specs.declared.error.kind.ErrorKind.TheVariants.{UnknownArgument, TooManyValues}
use Rattle.ext_words.specs.Words.{Part, plain, option, Options, is_in, has_equals, before_equals, after_equals, with_next, with_word}
use Rattle.ext_words.specs.Inside.CommandLine.{option_named, flag_named, is_stray}

-- there is an error
pub record Fails (kinds : Kinds) : Type 0 where
  pub first : ErrorKind
  pub others : Kinds
  pub is : kinds ≡ first ∷ others

pub fails-first : (a b : Kinds) → Fails a → Fails (or_else a b)
fails-first a b fails = record { first = fails.first; others = fails.others; is = ap (λ (k : Kinds). or_else k b) fails.is }

pub fails-as : (a b : Kinds) → a ≡ b → Fails b → Fails a
fails-as a b e fails = record { first = fails.first; others = fails.others; is = e ∙ fails.is }

-- ---- the arguments of a command

-- its rules for `clap`, the names of its words in their order, and its options
pub record Arguments : Type 0 where
  pub rules : List Rule
  pub words : List Text
  pub options : Options

-- a flag, an option that takes a value once, and one that takes a value each time
pub data Kind : Type 0 where
  flag : Kind
  single : Kind
  several : Kind

abbrev pub takes_value : Kind → Bool
takes_value flag = false
takes_value single = true
takes_value several = true

abbrev pub repeats : Kind → Bool
repeats flag = false
repeats single = false
repeats several = true

-- the rule of an option as it is built
abbrev pub option_rule : Kind → Text → Rule
option_rule flag name = with_index 1 (filled (flag_named name))
option_rule single name = with_index 1 (filled (option_named false name))
option_rule several name = with_index 1 (filled (option_named true name))

-- the command has an option of this kind and name
pub record IsOption (c : Arguments) (kind : Kind) (name : Text) : Type 0 where
  pub by_long : arg_by_long c.rules name ≡ Some (option_rule kind name)
  pub by_id : arg_by_id c.rules name ≡ Some (option_rule kind name)
  pub takes : is_in c.options.valued name ≡ takes_value kind
  pub again : is_in c.options.repeated name ≡ repeats kind
  pub listed : (takes_value kind || is_in c.options.flags name) ≡ true
  pub no_word : is_in c.words name ≡ false

-- what the command has of this name
pub data Named (c : Arguments) (name : Text) : Type 0 where
  is_option : (kind : Kind) → IsOption c kind name → Named c name
  is_unknown : arg_by_long c.rules name ≡ None → is_in c.options.valued name ≡ false → is_in c.options.flags name ≡ false → Named c name

-- ---- what a word is

-- the word is taken as one that is no flag
pub record Passes (c : List Rule) (word : Text) : Type 0 where
  pub fault : (h : Held) → flag_word_fault c false (long_of word) word h ≡ []
  pub met : (waiting : Waiting) (h : Held) → long_or_other c waiting word (long_of word) h ≡ plain_word c waiting word h

-- the word is taken as a flag that the command does not have
abbrev pub Refuses : List Rule → Text → Type 0
Refuses c word = (h : Held) → Fails (flag_word_fault c false (long_of word) word h)

-- the word is an option that waits for its value
pub record Starts (c : List Rule) (name word : Text) : Type 0 where
  pub fault : (h : Held) → flag_word_fault c false (long_of word) word h ≡ settle_fault c false h
  pub met : (h : Held) → long_or_other c idle word (long_of word) h ≡ (record (settled c h) { pending = Some (name, []) }, next (waits_for name))

-- the word is an option with all its values
pub record Uses (c : List Rule) (a : Rule) (values : List Text) (word : Text) : Type 0 where
  pub fault : (h : Held) → flag_word_fault c false (long_of word) word h ≡ react_fault c false a values h
  pub met : (h : Held) → long_or_other c idle word (long_of word) h ≡ (reacted c a values h, next idle)

-- what `clap` takes a word for, and what the grammar does
pub data Meets (c : Arguments) (word : Text) : Type 0 where
  meets_plain : Passes c.rules word → ((parts : List Part) → with_word c.options word parts ≡ Some (plain word ∷ parts)) → Meets c word
  meets_none : Refuses c.rules word → ((parts : List Part) → with_word c.options word parts ≡ None) → Meets c word
  meets_alone : (name : Text) (kind : Kind) → takes_value kind ≡ true → IsOption c kind name → Starts c.rules name word → ((parts : List Part) → with_word c.options word parts ≡ with_next name parts) → Meets c word
  meets_used : (name : Text) (value : Option Text) (kind : Kind) → takes_value kind ≡ is_some value → IsOption c kind name → Uses c.rules (option_rule kind name) (option_to_list value) word → ((parts : List Part) → with_word c.options word parts ≡ Some (option name value ∷ parts)) → Meets c word

pub apart : (x : ℕ) → (x == 45) ≡ false → (45 == x) ≡ false
apart x e = ne_eqb 45 x (λ same. eqb-false x 45 e (sym same))

-- ---- a word with two hyphens in front, and something behind them

module _ (c : Arguments) (z : ℕ) (zs : Text) where
  abbrev name : Text
  name = before_equals (z ∷ zs)

  by-name : (valued : Bool) → has_equals (z ∷ zs) ≡ valued → Named c name → Meets c (45 ∷ 45 ∷ z ∷ zs)
  by-name true e (is_option single is) =
      meets_used name (Some (after_equals (z ∷ zs))) single refl is (record { fault = λ h. rw (e, is.by_long) refl; met = λ h. rw (e, is.by_long) refl }) (λ parts. rw (e, is.takes) refl)
  by-name false e (is_option single is) =
      meets_alone name single refl is (record { fault = λ h. rw (e, is.by_long) refl; met = λ h. rw (e, is.by_long) refl }) (λ parts. rw (e, is.takes) refl)
  by-name true e (is_option several is) =
      meets_used name (Some (after_equals (z ∷ zs))) several refl is (record { fault = λ h. rw (e, is.by_long) refl; met = λ h. rw (e, is.by_long) refl }) (λ parts. rw (e, is.takes) refl)
  by-name false e (is_option several is) =
      meets_alone name several refl is (record { fault = λ h. rw (e, is.by_long) refl; met = λ h. rw (e, is.by_long) refl }) (λ parts. rw (e, is.takes) refl)
  by-name true e (is_option flag is) =
      meets_none (λ h. record { first = TooManyValues; others = []; is = rw (e, is.by_long) refl }) (λ parts. rw (e, is.takes) refl)
  by-name false e (is_option flag is) =
      meets_used name None flag refl is (record { fault = λ h. rw (e, is.by_long) refl; met = λ h. rw (e, is.by_long) refl }) (λ parts. rw (e, is.takes, is.listed) refl)
  by-name true e (is_unknown none unlisted unflagged) =
      meets_none (λ h. record { first = UnknownArgument; others = []; is = rw none refl }) (λ parts. rw (e, unlisted) refl)
  by-name false e (is_unknown none unlisted unflagged) =
      meets_none (λ h. record { first = UnknownArgument; others = []; is = rw none refl }) (λ parts. rw (e, unlisted, unflagged) refl)

-- ---- any word that is not stray

-- a word without a hyphen in front
no-flag : (c : List Rule) (word : Text) → long_of word ≡ None → short_of word ≡ None → Passes c word
no-flag c word long short = record {
  fault = λ h. ap (λ (l : Option (Text × Option Text)). flag_word_fault c false l word h) long ∙ ap (λ (f : Option Text). option_map_or (λ f. bundle_fault c false f h) f []) short;
  met = λ waiting h. ap (λ (l : Option (Text × Option Text)). long_or_other c waiting word l h) long ∙ ap (λ (f : Option Text). short_or_plain c waiting word f h) short;
}

not-false : (b : Bool) → not b ≡ false → b ≡ true
not-false true e = refl
not-false false e = absurd (true≢false e)

module _ (c : Arguments) (named : (name : Text) → Named c name) where
  hyphens : (xs : Text) → is_stray (45 ∷ xs) ≡ false → Meets c (45 ∷ xs)
  hyphens [] kept = absurd (true≢false kept)
  hyphens (y ∷ []) kept = absurd (true≢false kept)
  hyphens (y ∷ z ∷ zs) kept =
      subst (λ (x : ℕ). Meets c (45 ∷ x ∷ z ∷ zs)) (sym (eqb-true y 45 (not-false (y == 45) kept))) (by-name c z zs (has_equals (z ∷ zs)) refl (named (before_equals (z ∷ zs))))

  begun : (x : ℕ) (xs : Text) (b : Bool) → (x == 45) ≡ b → is_stray (x ∷ xs) ≡ false → Meets c (x ∷ xs)
  begun x xs false e kept =
      let long : long_of (x ∷ xs) ≡ None = rw e refl in
      let short : short_of (x ∷ xs) ≡ None = rw e refl in
      meets_plain (no-flag c.rules (x ∷ xs) long short) (λ parts. rw (apart x e) refl)
  begun x xs true e kept =
      let is = eqb-true x 45 e in
      subst (λ (y : ℕ). Meets c (y ∷ xs)) (sym is) (hyphens xs (subst (λ (y : ℕ). is_stray (y ∷ xs) ≡ false) is kept))

  pub meets : (word : Text) → is_stray word ≡ false → Meets c word
  meets [] kept = meets_plain (record { fault = λ h. refl; met = λ waiting h. refl }) (λ parts. refl)
  meets (x ∷ xs) kept = begun x xs (x == 45) refl kept

-- a word that is not stray is not `--`
pub no-dashes : (word : Text) → is_stray word ≡ false → bytes_eq word (45 ∷ 45 ∷ []) ≡ false
no-dashes word kept = false_from_ne_true _ (λ e. true≢false (sym (ap is_stray ((bytes_eq-Decides word (45 ∷ 45 ∷ [])).0 e)) ∙ kept))
