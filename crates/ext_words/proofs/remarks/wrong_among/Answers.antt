use Rattle.std.proofs.Common.{◌≡◌, ◌∙◌, Some, ap, sym}
use Rattle.std.specs.Prelude.{option_and_then}
use Rattle.std.proofs.lemmas.Result.{IfOk-weaker}
use Rattle.clap.specs.Words.{found_of, rows_of, subcommand_rows_of}
use Rattle.ext_words.specs.Words.{texts_of, given_of}
use Rattle.ext_words.specs.Inside.CommandLine.{given_in, given_below}
use Rattle.ext_words.specs.Remark.{value_names, first_wrong}
use Rattle.ext_words.proofs.CommandNames.{matches-are}
use Rattle.ext_words.proofs.remarks.wrong_among.Goals as goal

pub returns-in-Some-subcommand : goal.returns-in-Some-subcommand
returns-in-Some-subcommand c =
    let inner = c.in-Some-subcommand.inner.now in
    let found = matches-are c.in-Some.matches c.in-Some-subcommand.field-0-0.now (rows_of (found_of inner)) c.in-Some-subcommand.ensures.name c.in-Some-subcommand.ensures.rows in
    let read : given_below (subcommand_rows_of c.in-Some.matches) ≡ given_of (texts_of c.args.words.now) =
    ap (option_and_then (λ matches. given_below (subcommand_rows_of matches))) (sym c.in-Some.is) ∙ c.in_ok-matches.ensures.given in
    let given : Some (given_in inner) ≡ given_of (texts_of c.args.words.now) = ap given_below (sym found) ∙ read in
    IfOk-weaker c.first_wrong.result _ _ (λ line is. is ∙ ap (option_and_then (first_wrong value_names)) given) c.first_wrong.ensures
