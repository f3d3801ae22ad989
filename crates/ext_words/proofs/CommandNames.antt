-- The command of matches, by the name that they have.
use Rattle.std.proofs.Common.{◌≡◌, false, refl, List, [], ◌∷◌, Option, Some, None, ap, ap₂, sym, ◌∙◌}
use Rattle.std.specs.Prelude.{find, option_and_then, option_map, ◌≢◌}
use Rattle.std.specs.Str.{bytes_eq}
use Rattle.std.proofs.lemmas.Bool.{false_from_ne_true}
use Rattle.std.proofs.lemmas.Slice.Eq.{bytes_eq-Decides}
use Rattle.clap.specs.Walk.{Row, Text}
use Rattle.clap.specs.Words.{subcommand_name_of, subcommand_rows_of}
use Rattle.clap.specs.declared.parser.matches.ArgMatches.{ArgMatches}
use Rattle.ext_words.specs.Words.{Grammar, commands}
use Rattle.ext_words.specs.Inside.CommandLine.{given_by, command_named}

-- ---- the name of matches, and their rows

compose : {X Y Z : Type 0} (f : Y → Z) (g : X → Y) (o : Option X) → option_map f (option_map g o) ≡ option_map (λ x. f (g x)) o
compose f g None = refl
compose f g (Some x) = refl

named-rows : (m : ArgMatches) → option_map (λ p. p.0) (subcommand_rows_of m) ≡ subcommand_name_of m
named-rows m = compose _ _ _

both : (found : Option (Text × List Row)) (name : Text) (rows : List Row) → Some name ≡ option_map (λ p. p.0) found → Some rows ≡ option_map (λ p. p.1) found → found ≡ Some (name, rows)
both None name rows n r = absurd (cc)
both (Some p) name rows n r =
    let same_name : name ≡ p.0 = cc in
    let same_rows : rows ≡ p.1 = cc in
    ap₂ (λ (a : Text) (b : List Row). Some (a, b)) (sym same_name) (sym same_rows)

pub matches-are : (m : ArgMatches) (name : Text) (rows : List Row) → Some name ≡ subcommand_name_of m → Some rows ≡ option_map (λ p. p.1) (subcommand_rows_of m) → subcommand_rows_of m ≡ Some (name, rows)
matches-are m name rows n r = both (subcommand_rows_of m) name rows (n ∙ sym (named-rows m)) r

-- ---- a name that no command has

pub other-text : (text name : Text) → name ≢ text → bytes_eq text name ≡ false
other-text text name apart = false_from_ne_true (bytes_eq text name) (λ e. apart (sym ((bytes_eq-Decides text name).0 e)))

-- the name is that of none of the commands
abbrev pub IsOther : Text → List Grammar → Type 0
IsOther name [] = Unit {0}
IsOther name (g ∷ list) = (name ≢ g.name) × IsOther name list

none-named : (name : Text) (list : List Grammar) → IsOther name list → find (λ g. bytes_eq g.name name) list ≡ None
none-named name [] other = refl
none-named name (g ∷ list) other = rw (other-text g.name name other.0) (none-named name list other.1)

pub other-name : (name : Text) (rows : List Row) → IsOther name commands → command_named name rows ≡ None
other-name name rows other = ap (option_and_then (λ g. g.make (given_by rows))) (none-named name commands other)
