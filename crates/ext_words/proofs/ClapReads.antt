-- The matches of `clap` are those of the grammar, where no word is stray.
use Rattle.std.proofs.Common.{◌≡◌, refl, List, [], ◌∷◌, drop, Bool, true, false, Option, Some, None, ◌⊎◌, inl, inr, ap, sym, subst, ◌∙◌}
use Rattle.std.specs.Prelude.{◌&&◌, ◌||◌, cond, codes, find, map, option_map, option_and_then, is_some, IfSome, ◌≢◌}
use Rattle.std.specs.List.{fold}
use Rattle.std.specs.Option.{option_map_or}
use Rattle.std.specs.Str.{bytes_eq}
use Rattle.std.proofs.lemmas.Bool.{and_right, or_parts}
use Rattle.std.proofs.lemmas.Slice.Eq.{bytes_eq-Decides}
use Rattle.clap.specs.Lexer.{long_of}
use Rattle.clap.specs.Walk.{Names, Row, Text, Held, Step, idle, Walk, answers_to, nothing_held, walked, stop_after, subcommand_met, finished, settled, word_met, long_or_other}
use Rattle.clap.specs.Simple.{App, Shape, built, entered, label_of, names_of, new_shape, rows_at, subcommand_of}
use Rattle.clap.specs.Kinds.{Kinds, or_else}
use Rattle.clap.specs.Faults.{fault_of, built_fault, level_fault, walk_fault, defaults_fault, entered_fault, flag_word_fault, settle_fault, step_fault, turn_fault, word_fault, check_fault}
use Rattle.clap.specs.declared.error.kind.ErrorKind.TheVariants.{UnknownArgument, InvalidSubcommand, MissingSubcommand}
use Rattle.clap.proofs.WalkLemmas.{walk_stopped, find-map}
use Rattle.clap.proofs.FaultLemmas.{stopped_fault}
use Rattle.ext_words.specs.Words.{Grammar, commands, parts_of, given_to, given_of, read_by, grammar_of, command_of}
use Rattle.ext_words.specs.Inside.CommandLine.{is_stray, has_stray, command_line, given_by, given_below, command_named, command_in}
use Rattle.ext_words.proofs.ClapWords.{Fails, fails-first, fails-as, Arguments, Passes, no-dashes, meets, meets_plain, meets_none, meets_alone, meets_used, is_unknown}
use Rattle.ext_words.proofs.ClapParts.{settings, leaf, after_parts}
use Rattle.ext_words.proofs.ClapLevels.{stand, rest_fault, Ends, follows}
use Rattle.ext_words.proofs.ClapCommands.{rules_of, arguments, IsSound, AreSound, is_command, gives-same}

-- ---- a command line as it is built

-- a command without arguments, which has others below it
abbrev top : Shape
top = settings (record (new_shape (codes "ext")) { is_leaf = false; subcommand_required = true })

abbrev level : Grammar → Shape
level g = leaf g.name (rules_of g)

abbrev ready : List Grammar → App
ready list = record { top = top; subs = map level list }

-- where the walk of a level begins
abbrev start : Walk
start = stand idle nothing_held 1

-- ---- words where there are no arguments

abbrev no_arguments : Arguments
no_arguments = record { rules = []; words = []; options = record { valued = []; repeated = []; flags = [] } }

flag-or-word : (word : Text) → is_stray word ≡ false → Fails (flag_word_fault [] false (long_of word) word nothing_held) ⊎ Passes [] word
flag-or-word word kept = elim (meets no_arguments (λ name. is_unknown refl refl refl) word kept) [
  | meets_plain passes given ↦ inr passes
  | meets_none refused given ↦ inl (refused nothing_held)
  | meets_alone name kind takes is starts given ↦ absurd (let bad = is.by_long in cc)
  | meets_used name value kind takes is used given ↦ absurd (let bad = is.by_long in cc)
]

top-fails : (names : Names) (word : Text) → subcommand_met names idle word ≡ None → is_stray word ≡ false → Fails (turn_fault top names start word)
top-fails names word unnamed kept =
    let dashes = no-dashes word kept in
    let h = nothing_held in
    let met : word_met [] names false idle 1 word h ≡ long_or_other [] idle word (long_of word) h = rw (unnamed, dashes) refl in
    let fault : word_fault top names false idle word h ≡ flag_word_fault [] false (long_of word) word h = rw (unnamed, dashes) refl in
    elim (flag-or-word word kept) [
      | inl fails ↦ fails-first _ _ (fails-as _ _ fault fails)
      | inr passes ↦ fails-as _ _ (ap (λ (k : Kinds). or_else k (step_fault top 1 (word_met [] names false idle 1 word h).0 (word_met [] names false idle 1 word h).1)) (fault ∙ passes.fault h)
          ∙ ap (λ (m : Held × Step). step_fault top 1 m.0 m.1) (met ∙ passes.met idle h)) (record { first = UnknownArgument; others = InvalidSubcommand ∷ []; is = refl })
    ]

-- ---- a first word that names a command

-- the walk behind a command's name
abbrev stopped : Text → List Text → Walk
stopped name words = record start { stopped = Some (name, words) }

module _ (names : Names) (name : Text) (met : subcommand_met names idle name ≡ Some name) where
  turn-passes : turn_fault top names start name ≡ []
  turn-passes = let no_help : (bytes_eq name (codes "help") && false) ≡ false = and_right _ false refl in rw (met, no_help) refl

  turn-stops : walked [] names start name ≡ stopped name []
  unfolding walked
  turn-stops = rw met refl

  all-passes : (words : List Text) → walk_fault top names start (name ∷ words) ≡ []
  unfolding walk_fault
  all-passes words =
      ap (λ (turn : Kinds). or_else turn (walk_fault top names (walked [] names start name) words)) turn-passes
      ∙ (ap (λ (w : Walk). walk_fault top names w words) turn-stops ∙ stopped_fault top names start (name, []) words)

  all-stops : (words : List Text) → fold (walked [] names) start (name ∷ words) ≡ stopped name words
  all-stops words = ap (λ (w : Walk). fold (walked [] names) w words) turn-stops ∙ sym (walk_stopped [] names start name [] words)

or_else-nil : (a : Kinds) → or_else a [] ≡ a
or_else-nil [] = refl
or_else-nil (k ∷ ks) = refl

module _ (name : Text) where
  levels-named : (list : List Grammar) → find (λ s. answers_to name (label_of s)) (map level list) ≡ option_map level (find (λ g. bytes_eq g.name name) list)
  levels-named [] = refl
  levels-named (g ∷ list) = here (bytes_eq g.name name) refl (levels-named list)
    where
      here : (b : Bool) → bytes_eq g.name name ≡ b → find (λ s. answers_to name (label_of s)) (map level list) ≡ option_map level (find (λ h. bytes_eq h.name name) list) →
          cond (bytes_eq g.name name || false) (Some (level g)) (find (λ s. answers_to name (label_of s)) (map level list)) ≡ option_map level (cond (bytes_eq g.name name) (Some g) (find (λ h. bytes_eq h.name name) list))
      here true e rest = rw e refl
      here false e rest = rw e rest

  names-met : (list : List Grammar) → subcommand_met (map label_of (map level list)) idle name ≡ option_map (λ g. g.name) (find (λ g. bytes_eq g.name name) list)
  names-met list =
      ap (option_map (λ s. s.0)) (sym (find-map (answers_to name) label_of (map level list)) ∙ ap (option_map label_of) (levels-named list)) ∙ label-name (find (λ g. bytes_eq g.name name) list)
    where
      label-name : (found : Option Grammar) → option_map (λ s. s.0) (option_map label_of (option_map level found)) ≡ option_map (λ g. g.name) found
      label-name None = refl
      label-name (Some g) = refl

  found-sound : (list : List Grammar) → AreSound list → IfSome (find (λ g. bytes_eq g.name name) list) (λ g. IsSound g × (bytes_eq g.name name ≡ true))
  found-sound [] all = tt
  found-sound (g ∷ list) all = here (bytes_eq g.name name) refl (found-sound list all.1)
    where
      here : (b : Bool) → bytes_eq g.name name ≡ b → IfSome (find (λ h. bytes_eq h.name name) list) (λ h. IsSound h × (bytes_eq h.name name ≡ true)) →
          IfSome (cond b (Some g) (find (λ h. bytes_eq h.name name) list)) (λ h. IsSound h × (bytes_eq h.name name ≡ true))
      here true e rest = (all.0, e)
      here false e rest = rest

-- a command of a list that its name finds
module _ (list : List Grammar) (g : Grammar) (own : find (λ h. bytes_eq h.name g.name) list ≡ Some g) where
  met : subcommand_met (names_of (ready list)) idle g.name ≡ Some g.name
  met = names-met g.name list ∙ ap (option_map (λ h. h.name)) own

  below : find (λ s. answers_to g.name (label_of s)) (map level list) ≡ Some (level g)
  below = levels-named g.name list ∙ ap (option_map level) own

  -- its errors
  fault-named : (words : List Text) → built_fault (ready list) nothing_held (g.name ∷ words) ≡ rest_fault (level g) start words
  unfolding defaults_fault
  fault-named words =
      ap (λ (walking : Kinds). or_else walking (after (fold (walked [] (names_of (ready list))) start (g.name ∷ words)))) (all-passes (names_of (ready list)) g.name met words)
      ∙ (ap after (all-stops (names_of (ready list)) g.name met words)
      ∙ (ap (λ (found : Option Shape). or_else (option_map_or (λ s. level_fault s [] nothing_held words false []) found []) (check_fault top [] (is_some (option_map (λ s. rows_at s words) found)))) below
      ∙ or_else-nil (rest_fault (level g) start words)))
    where
      after : Walk → Kinds
      after w = or_else (entered_fault (ready list) w.stopped) (or_else (settle_fault [] false w.held) (or_else (defaults_fault (settled [] w.held).rows []) (check_fault top (finished [] w.held) (is_some (entered (ready list) w.stopped)))))

  -- its matches
  matches-named : (words : List Text) → entered (ready list) (stop_after [] (names_of (ready list)) (g.name ∷ words)) ≡ Some (g.name, finished (rules_of g) (fold (walked (rules_of g) []) start words).held)
  matches-named words =
      ap (λ (w : Walk). entered (ready list) w.stopped) (all-stops (names_of (ready list)) g.name met words)
      ∙ ap (λ (found : Option Shape). option_map (λ s. rows_at s words) found) below

-- ---- the program's command line

are_sound : AreSound commands
are_sound =
    let table : AreSound (drop 13 commands) = (record { words = refl; valued = refl; flags = refl; flags_once = refl; stands = (refl, refl, refl, (refl, refl, refl, refl)); no_defaults = refl; none_lacking = λ rows. refl }, tt) in
    let verify : AreSound (drop 12 commands) = (record { words = refl; valued = refl; flags = refl; flags_once = refl; stands = (refl, refl, refl, (refl, refl, refl, refl)); no_defaults = refl; none_lacking = λ rows. refl }, table) in
    let migrate : AreSound (drop 11 commands) = (record { words = refl; valued = refl; flags = refl; flags_once = refl; stands = refl; no_defaults = refl; none_lacking = λ rows. refl }, verify) in
    let sq : AreSound (drop 10 commands) = (record { words = refl; valued = refl; flags = refl; flags_once = refl; stands = (refl, refl, refl, refl); no_defaults = refl; none_lacking = λ rows. refl }, migrate) in
    let sample : AreSound (drop 9 commands) = (record { words = refl; valued = refl; flags = refl; flags_once = refl; stands = (refl, refl, refl, (refl, refl, refl, (refl, refl, refl, refl))); no_defaults = refl; none_lacking = λ rows. refl }, sq) in
    let build : AreSound (drop 8 commands) = (record { words = refl; valued = refl; flags = refl; flags_once = refl; stands = (refl, refl, refl, refl); no_defaults = refl; none_lacking = λ rows. refl }, sample) in
    let check : AreSound (drop 7 commands) = (record { words = refl; valued = refl; flags = refl; flags_once = refl; stands = refl; no_defaults = refl; none_lacking = λ rows. refl }, build) in
    let bracket : AreSound (drop 6 commands) = (record { words = refl; valued = refl; flags = refl; flags_once = refl; stands = refl; no_defaults = refl; none_lacking = λ rows. refl }, check) in
    let product : AreSound (drop 5 commands) = (record { words = refl; valued = refl; flags = refl; flags_once = refl; stands = refl; no_defaults = refl; none_lacking = λ rows. refl }, bracket) in
    let massey : AreSound (drop 4 commands) = (record { words = refl; valued = refl; flags = refl; flags_once = refl; stands = (refl, refl, refl, (refl, refl, refl, refl)); no_defaults = refl; none_lacking = λ rows. refl }, product) in
    let products : AreSound (drop 3 commands) = (record { words = refl; valued = refl; flags = refl; flags_once = refl; stands = (refl, refl, refl, (refl, refl, refl, refl)); no_defaults = refl; none_lacking = λ rows. refl }, massey) in
    let dump : AreSound (drop 2 commands) = (record { words = refl; valued = refl; flags = refl; flags_once = refl; stands = (refl, refl, refl, (refl, refl, refl, refl)); no_defaults = refl; none_lacking = λ rows. refl }, products) in
    let resolve : AreSound (drop 1 commands) = (record { words = refl; valued = refl; flags = refl; flags_once = refl; stands = (refl, refl, refl, (refl, refl, refl, refl)); no_defaults = refl; none_lacking = λ rows. refl }, dump) in
    (record { words = refl; valued = refl; flags = refl; flags_once = refl; stands = (refl, refl, refl, (refl, refl, refl, refl)); no_defaults = refl; none_lacking = λ rows. refl }, resolve)

is_ready : built command_line ≡ ready commands
is_ready = refl

fault-is : (words : List Text) → fault_of command_line words ≡ built_fault (ready commands) nothing_held words
fault-is words = ap (λ (line : App). built_fault line nothing_held words) is_ready

subcommand-is : (words : List Text) → subcommand_of command_line words ≡ entered (ready commands) (stop_after [] (names_of (ready commands)) words)
subcommand-is words = ap (λ (line : App). entered line (stop_after line.top.rules (names_of line) words)) is_ready

-- `clap` refuses the words, which give no command, or its matches give the command, and to it what the words do
pub data Reads (words : List Text) : Type 0 where
  refused_words : Fails (fault_of command_line words) → given_of words ≡ None → command_of words ≡ None → Reads words
  read_words : fault_of command_line words ≡ [] → given_below (subcommand_of command_line words) ≡ given_of words →
      command_in (subcommand_of command_line words) ≡ command_of words → Reads words

module _ (g : Grammar) (own : grammar_of g.name ≡ Some g) where
  given : (words : List Text) → given_of (g.name ∷ words) ≡ given_to g words
  given words = ap (option_and_then (λ h. given_to h words)) own

  asked : (words : List Text) → command_of (g.name ∷ words) ≡ option_and_then g.make (given_to g words)
  asked words = ap (option_and_then (λ h. read_by h words)) own

  made : (rows : List Row) → command_named g.name rows ≡ g.make (given_by rows)
  made rows = ap (option_and_then (λ h. h.make (given_by rows))) own

  reads-ended : (words : List Text) (rows : Option (List Row)) → Ends (level g) start words rows → option_map given_by rows ≡ given_to g words → Reads (g.name ∷ words)
  reads-ended words None fails is =
      refused_words (fails-as _ _ (fault-is (g.name ∷ words) ∙ fault-named commands g own words) fails) (given words ∙ sym is) (asked words ∙ ap (option_and_then g.make) (sym is))
  reads-ended words (Some rows) ends is =
      let found : subcommand_of command_line (g.name ∷ words) ≡ Some (g.name, rows) =
      subcommand-is (g.name ∷ words) ∙ (matches-named commands g own words ∙ ap (λ (r : List Row). Some (g.name, r)) ends.1) in
      read_words (fault-is (g.name ∷ words) ∙ (fault-named commands g own words ∙ ends.0))
      (ap given_below found ∙ (is ∙ sym (given words)))
      (ap command_in found ∙ (made rows ∙ (ap (option_and_then g.make) is ∙ sym (asked words))))

  reads-own : IsSound g → (words : List Text) → has_stray words ≡ false → Reads (g.name ∷ words)
  reads-own sound words kept =
      reads-ended words (option_and_then (after_parts g.options.repeated g.words []) (parts_of g.options words)) ((follows g.name (arguments g) (is_command g sound) words kept).goes nothing_held g.words 1 sound.stands refl) (gives-same g sound words kept)

-- ---- the words, by the first of them

reads-nothing : Reads []
unfolding walk_fault defaults_fault
reads-nothing = refused_words (fails-as _ _ (fault-is []) (record { first = MissingSubcommand; others = []; is = refl })) refl refl

by-first : (word : Text) (words : List Text) (found : Option Grammar) → grammar_of word ≡ found → IfSome found (λ g. IsSound g × (bytes_eq g.name word ≡ true)) → is_stray word ≡ false → has_stray words ≡ false → Reads (word ∷ words)
unfolding walk_fault
by-first word words None none is kept more =
    let unnamed = names-met word commands ∙ ap (option_map (λ g. g.name)) none in
    let fails = fails-first _ _ (fails-first _ _ (top-fails (names_of (ready commands)) word unnamed kept)) in
    refused_words (fails-as _ _ (fault-is (word ∷ words)) fails) (ap (option_and_then (λ g. given_to g words)) none) (ap (option_and_then (λ g. read_by g words)) none)
by-first word words (Some g) found is kept more =
    let same = (bytes_eq-Decides g.name word).0 is.1 in
    subst (λ (w : Text). Reads (w ∷ words)) same (reads-own g (ap grammar_of same ∙ found) is.0 words more)

pub clap-reads : (words : List Text) → has_stray words ≡ false → Reads words
clap-reads [] kept = reads-nothing
clap-reads (word ∷ words) kept =
    let parts = or_parts (is_stray word) (has_stray words) kept in
    by-first word words (grammar_of word) refl (found-sound word commands are_sound) parts.0 parts.1

-- the matches of words that are taken give what the words do
pub taken-reads : (words : List Text) → has_stray words ≡ false → fault_of command_line words ≡ [] →
    (given_below (subcommand_of command_line words) ≡ given_of words) × (command_in (subcommand_of command_line words) ≡ command_of words)
taken-reads words kept taken = elim (clap-reads words kept) [
  | refused_words fails none gone ↦ absurd (let bad : [] ≡ fails.first ∷ fails.others = sym taken ∙ fails.is in cc)
  | read_words passes gives is ↦ (gives, is)
]

-- words that are refused give nothing
pub refused-none : (words : List Text) → has_stray words ≡ false → (fault_of command_line words ≢ []) → (given_of words ≡ None) × (command_of words ≡ None)
refused-none words kept refused = elim (clap-reads words kept) [
  | refused_words fails none gone ↦ (none, gone)
  | read_words passes gives is ↦ absurd (refused passes)
]
