-- What `clap` is told of the command line, and what is read from its matches.
use Rattle.std.specs.Prelude.{◌==◌, ◌&&◌, not, Bool, true, false, List, [], ◌∷◌, Option, Some, None, map, option_map, if◌then◌else◌, option_and_then, codes}
use Rattle.std.specs.List.{fold, list_any}
use Rattle.clap.specs.Walk.{Row, Rule, Text, all_of}
use Rattle.clap.specs.Simple.{App, new_app, new_rule, on_top, with_rule, with_subcommand}
use Rattle.clap.specs.Words.{found_of, rows_of}
use Rattle.clap.specs.declared.parser.matches.ArgMatches.{ArgMatches}
use Rattle.clap.specs.declared.builder.action.ArgAction.TheVariants.{Set, Append}
use Rattle.ext_words.specs.declared.command.Command.{Command}
use Rattle.ext_words.specs.Words.{Given, Grammar, Options, is_in, commands, grammar_of}

-- ---- words that `clap` is not told of: `--`, behind which it takes words as they are, and those behind one hyphen, of which it
-- takes some as plain words

abbrev pub is_stray : Text → Bool
is_stray [] = false
is_stray (x ∷ []) = x == 45
is_stray (x ∷ y ∷ []) = x == 45
is_stray (x ∷ y ∷ z ∷ word) = x == 45 && not (y == 45)

abbrev pub has_stray : List Text → Bool
has_stray words = list_any is_stray words

-- ---- the command line

-- a word that is no option. No word and no option is marked as required: where one is missing, what reads it finds none
abbrev pub word_named : Text → Rule
word_named id = new_rule id

-- an option with a value; one that may be given more than once has the values of all its uses
abbrev pub option_named : Bool → Text → Rule
option_named repeats name = record (new_rule name) { long = Some name; action = if repeats then Some Append else None }

-- an option without a value
abbrev pub flag_named : Text → Rule
flag_named name = record (new_rule name) {
  long = Some name;
  action = Some Set;
  range = Some (record { start_inclusive = 0; end_inclusive = 0 });
}

-- a command with these words, options and flags
abbrev pub command_with : Text → List Text → Options → App
command_with name words options = fold with_rule
    (fold with_rule (fold with_rule (new_app name) (map word_named words))
    (map (λ n. option_named (is_in options.repeated n) n) options.valued))
    (map flag_named options.flags)

-- one more command below
abbrev pub with_command : App → Grammar → App
with_command line g = with_subcommand line (command_with g.name g.words g.options).top

-- no command, and no help
abbrev pub no_command : App
no_command = on_top
    (λ top. record top {
      no_binary_name = true;
      disable_help_flag = true;
      disable_help_subcommand = true;
      subcommand_required = true;
    })
    (new_app (codes "ext"))

-- all commands
abbrev pub command_line : App
command_line = fold with_command no_command commands

-- ---- what is read from the matches

-- what a command's matches give to it: the values that they have under a name
abbrev pub given_by : List Row → Given
given_by rows name = all_of name rows

abbrev pub given_in : ArgMatches → Given
given_in matches = given_by (rows_of (found_of matches))

-- what is given to the command that matches name
abbrev pub given_below : Option (Text × List Row) → Option Given
given_below matches = option_map (λ p. given_by p.1) matches

-- the command of a name, with its matches
abbrev pub command_named : Text → List Row → Option Command
command_named name rows = option_and_then (λ g. g.make (given_by rows)) (grammar_of name)

abbrev pub command_in : Option (Text × List Row) → Option Command
command_in matches = option_and_then (λ p. command_named p.0 p.1) matches
