use Rattle.std.proofs.Common.{◌≡◌, ◌∙◌, ap, sym, true, false, List, [], Option, Some, None}
use Rattle.std.specs.Prelude.{◌≢◌, Result, Ok, Err, IfOk, IfSome, IfNone, OnSome, option_and_then}
use Rattle.std.proofs.lemmas.Result.{IfOk-weaker}
use Rattle.clap.proofs.WalkLemmas.{list_any-map}
use Rattle.clap.specs.Walk.{Text}
use Rattle.clap.specs.Faults.{fault_of}
use Rattle.clap.specs.Simple.{subcommand_of}
use Rattle.clap.specs.Words.{subcommand_rows_of}
use Rattle.clap.specs.declared.parser.matches.ArgMatches.{ArgMatches}
use Rattle.ext_words.specs.Words.{texts_of, given_of, command_of}
use Rattle.ext_words.specs.Inside.CommandLine.{has_stray, command_line, given_below, command_in}
use Rattle.ext_words.proofs.ClapReads.{taken-reads, refused-none}
use Rattle.ext_words.proofs.Strays.{stray-none}
use Rattle.ext_words.proofs.words.read.Goals as goal

-- the matches give what the words do
abbrev Gives : List Text → Option ArgMatches → Type 0
Gives words found =
    (option_and_then (λ matches. given_below (subcommand_rows_of matches)) found ≡ given_of words)
    × (option_and_then (λ matches. command_in (subcommand_rows_of matches)) found ≡ command_of words)

found-gives : (words : List Text) → has_stray words ≡ false → (found : Option ArgMatches) → OnSome found (fault_of command_line words ≡ []) →
    IfSome found (λ matches. subcommand_rows_of matches ≡ subcommand_of command_line words) → IfNone found (fault_of command_line words ≢ []) → Gives words found
found-gives words kept None taken rows refused = let none = refused-none words kept refused in (sym none.0, sym none.1)
found-gives words kept (Some matches) taken rows refused = let reads = taken-reads words kept taken in (ap given_below rows ∙ reads.0, ap command_in rows ∙ reads.1)

result-gives : {E : Type 0} (words : List Text) → has_stray words ≡ false → (result : Result (Option ArgMatches) E) → IfOk result (λ found. OnSome found (fault_of command_line words ≡ [])) →
    IfOk result (λ found. IfSome found (λ matches. subcommand_rows_of matches ≡ subcommand_of command_line words)) → IfOk result (λ found. IfNone found (fault_of command_line words ≢ [])) → IfOk result (Gives words)
result-gives words kept (Err e) taken rows refused = tt
result-gives words kept (Ok found) taken rows refused = found-gives words kept found taken rows refused

pub returns-then-has_stray-clause-given : goal.returns-then-has_stray-clause-given
returns-then-has_stray-clause-given c =
    let stray : has_stray (texts_of c.args.words.now) ≡ true = sym (list_any-map _ _ c.args.words.now) ∙ (sym c.has_stray.ensures ∙ c.if-has_stray.true) in
    sym (stray-none (texts_of c.args.words.now) stray).0

pub returns-then-has_stray-clause-command : goal.returns-then-has_stray-clause-command
returns-then-has_stray-clause-command c =
    let stray : has_stray (texts_of c.args.words.now) ≡ true = sym (list_any-map _ _ c.args.words.now) ∙ (sym c.has_stray.ensures ∙ c.if-has_stray.true) in
    sym (stray-none (texts_of c.args.words.now) stray).1

pub returns-clause-given : goal.returns-clause-given
returns-clause-given c =
    let plain : has_stray (texts_of c.args.words.now) ≡ false = sym (list_any-map _ _ c.args.words.now) ∙ (sym c.has_stray.ensures ∙ c.if-has_stray.false) in
    IfOk-weaker c.matches_of.result _ _ (λ found both. both.0)
    (result-gives (texts_of c.args.words.now) plain c.matches_of.result c.matches_of.ensures.taken c.matches_of.ensures.rows c.matches_of.ensures.refused)

pub returns-clause-command : goal.returns-clause-command
returns-clause-command c =
    let plain : has_stray (texts_of c.args.words.now) ≡ false = sym (list_any-map _ _ c.args.words.now) ∙ (sym c.has_stray.ensures ∙ c.if-has_stray.false) in
    IfOk-weaker c.matches_of.result _ _ (λ found both. both.1)
    (result-gives (texts_of c.args.words.now) plain c.matches_of.result c.matches_of.ensures.taken c.matches_of.ensures.rows c.matches_of.ensures.refused)
