-- The arguments of a command, and its parts as they are used one after another.
use Rattle.std.proofs.Common.{◌≡◌, ℕ, refl, List, [], ◌∷◌, ◌++◌, Bool, true, false, Option, Some, None, arith, ap, sym, ◌∙◌, append-nil}
use Rattle.std.specs.Prelude.{length, not, ◌&&◌, option_to_list, is_some, if◌then◌else◌}
use Rattle.std.specs.List.{fold, list_all, list_any}
use Rattle.std.specs.Str.{bytes_eq}
use Rattle.std.proofs.lemmas.Bool.{and_parts, eqb-true, or_parts, or_right, true≢false}
use Rattle.clap.specs.Walk.{Row, Rule, Text, arg_by_id, arg_by_index, at_row, used, has_row, is_empty, more_values, next_position, with_default, with_values, without, reading_by}
use Rattle.clap.specs.Simple.{Shape, filled, new_shape, with_index}
use Rattle.clap.specs.Kinds.{or_else}
use Rattle.clap.specs.Takes.{is_given}
use Rattle.clap.specs.Faults.{given_default_fault, use_fault, defaults_fault}
use Rattle.clap.specs.declared.error.kind.ErrorKind.TheVariants.{ArgumentConflict}
use Rattle.clap.specs.declared.parser.matches.ValueSource.TheVariants.{CommandLine}
use Rattle.ext_words.specs.Words.{Part, plain, option, is_in, fits, plain_words}
use Rattle.ext_words.specs.Inside.CommandLine.{word_named}
use Rattle.ext_words.proofs.ClapWords.{Fails, Arguments, Named, Kind, flag, single, several, takes_value, repeats, option_rule}

-- ---- the commands, as they are built

-- what all of them have
abbrev pub settings : Shape → Shape
settings s = record s { no_binary_name = true; disable_help_flag = true; disable_help_subcommand = true; is_built = true }

-- a command with these arguments
abbrev pub leaf : Text → List Rule → Shape
leaf name rules = settings (record (new_shape name) { rules = rules })

-- the word that stands at a position
abbrev pub word_rule : ℕ → Text → Rule
word_rule position id = with_index position (filled (word_named id))

-- the words stand from a position on, and none behind them; none has the name of an option that may be given more than once
abbrev pub Stand : Arguments → ℕ → List Text → Type 0
Stand c position [] = arg_by_index c.rules position ≡ None
Stand c position (id ∷ ids) = (arg_by_index c.rules position ≡ Some (word_rule position id)) × (arg_by_id c.rules id ≡ Some (word_rule position id))
    × (is_in c.options.repeated id ≡ false) × Stand c (next_position (word_rule position id) position) ids

-- the command has these arguments and no others; none of them has a default value, and none is required
pub record IsCommand (c : Arguments) : Type 0 where
  pub named : (name : Text) → Named c name
  pub no_defaults : list_all (λ a. is_empty a.defaults) c.rules ≡ true
  pub none_lacking : (rows : List Row) → list_any (λ a. a.required && not (is_given a.id rows)) c.rules ≡ false

empty-is : {X : Type 0} (xs : List X) → is_empty xs ≡ true → xs ≡ []
empty-is [] e = refl
empty-is (x ∷ xs) e = let none : length (x ∷ xs) ≡ 0 = eqb-true (length (x ∷ xs)) 0 e in absurd (omega arith)

same-both : (given : Bool) (rows : List Row) → (if given then rows else rows) ≡ rows
same-both true rows = refl
same-both false rows = refl

pub no-defaults : (rules : List Rule) (rows : List Row) → list_all (λ a. is_empty a.defaults) rules ≡ true → (defaults_fault rows rules ≡ []) × (fold with_default rows rules ≡ rows)
unfolding defaults_fault
no-defaults [] rows e = (refl, refl)
no-defaults (a ∷ rules) rows e =
    let parts = and_parts _ _ e in
    let same : with_default rows a ≡ rows = rw (empty-is a.defaults parts.0) (same-both (has_row a.id rows) rows) in
    let rest = no-defaults rules rows parts.1 in (
      ap (λ (b : Bool). or_else (if b then [] else given_default_fault a a.defaults) (defaults_fault (with_default rows a) rules)) (or_right (has_row a.id rows) (is_empty a.defaults) parts.0)
          ∙ (ap (λ (r : List Row). defaults_fault r rules) same ∙ rest.0),
      ap (λ (r : List Row). fold with_default r rules) same ∙ rest.1,
    )

-- ---- one use

-- what is found for an argument that is used once, with these values
abbrev pub use_row : Text → List Text → Row
use_row id values = record { id = id; values = values; count = None; source = Some CommandLine; reading = reading_by (option_rule single []) }

-- the rows with the values of one more use; the row of its name gets them, if there is one
abbrev pub added : Row → List Row → List Row
added u rows = at_row u.id (more_values CommandLine u.values) (u ∷ []) rows

-- whether an argument that has a row may not be used
abbrev pub spent : Bool → Bool → Bool
spent again has = not again && has

at-end : (id : Text) (change : Row → List Row) (missing rows : List Row) → has_row id rows ≡ false → at_row id change missing rows ≡ rows ++ missing
at-end id change missing [] none = refl
at-end id change missing (r ∷ rows) none =
    let parts = or_parts (bytes_eq r.id id) (has_row id rows) none in
    rw (parts.0) (ap (λ (rest : List Row). r ∷ rest) (at-end id change missing rows parts.1))

one-more : (id : Text) (values : List Text) (rows : List Row) → has_row id rows ≡ false → with_values id (reading_by (option_rule single [])) CommandLine values (without id rows) ≡ added (use_row id values) rows
one-more id values rows none =
    ap (λ (r : List Row). with_values id (reading_by (option_rule single [])) CommandLine values r) (at-end id (λ _. []) [] rows none ∙ append-nil rows)

-- an argument that may be used, once or again and again, with these values
pub record IsUse (again : Bool) (id : Text) (a : Rule) (values : List Text) : Type 0 where
  pub free : (rows : List Row) → spent again (has_row id rows) ≡ false → use_fault false a values rows ≡ []
  pub new : (rows : List Row) → spent again (has_row id rows) ≡ false → used a values rows ≡ added (use_row id values) rows
  pub taken : (rows : List Row) → spent again (has_row id rows) ≡ true → Fails (use_fault false a values rows)

pub word-use : (position : ℕ) (id word : Text) → IsUse false id (word_rule position id) (word ∷ [])
word-use position id word = record {
  free = λ rows e. rw e refl;
  new = λ rows e. one-more id (word ∷ []) rows e;
  taken = λ rows e. record { first = ArgumentConflict; others = []; is = rw e refl };
}

pub option-use : (name : Text) (value : Option Text) (kind : Kind) → takes_value kind ≡ is_some value → IsUse (repeats kind) name (option_rule kind name) (option_to_list value)
option-use name (Some text) single takes = record {
  free = λ rows e. rw e refl;
  new = λ rows e. one-more name (text ∷ []) rows e;
  taken = λ rows e. record { first = ArgumentConflict; others = []; is = rw e refl };
}
option-use name (Some text) several takes = record { free = λ rows e. refl; new = λ rows e. refl; taken = λ rows e. absurd (true≢false (sym e)) }
option-use name (Some text) flag takes = absurd (true≢false (sym takes))
option-use name None flag takes = record {
  free = λ rows e. rw e refl;
  new = λ rows e. one-more name [] rows e;
  taken = λ rows e. record { first = ArgumentConflict; others = []; is = rw e refl };
}
option-use name None single takes = absurd (true≢false takes)
option-use name None several takes = absurd (true≢false takes)

-- ---- the parts, used one after another

-- the rows of parts, whose words have these names
abbrev pub uses : List Part → List Text → List Row
uses [] ids = []
uses (plain word ∷ parts) [] = uses parts []
uses (plain word ∷ parts) (id ∷ ids) = use_row id (word ∷ []) ∷ uses parts ids
uses (option name value ∷ parts) ids = use_row name (option_to_list value) ∷ uses parts ids

-- whether this use is one too many behind these rows, where the arguments of these names may be used more than once
abbrev pub is_spent : List Text → Row → List Row → Bool
is_spent repeated u rows = spent (is_in repeated u.id) (has_row u.id rows)

-- the rows with one use more, none where it is one too many
abbrev pub once : List Text → Row → List Row → Option (List Row)
once repeated u rows = if is_spent repeated u rows then None else Some (added u rows)

-- the rows with more uses, one after another
abbrev pub appended : List Text → List Row → List Row → Option (List Row)
appended repeated rows [] = Some rows
appended repeated rows (u ∷ more) = if is_spent repeated u rows then None else appended repeated (added u rows) more

-- the rows after the parts, none where one of them cannot be used
abbrev pub after_parts : List Text → List Text → List Row → List Part → Option (List Row)
after_parts repeated ids rows parts = if fits (plain_words parts) ids then appended repeated rows (uses parts ids) else None
