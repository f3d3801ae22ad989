use Rattle.std.proofs.Common.{◌≡◌, ◌∙◌, ap₂, false}
use Rattle.std.proofs.lemmas.Result.{IfOk-weaker, err_from_is_err_and}
use Rattle.clap.specs.Words.{AddsSubcommand}
use Rattle.clap.specs.Simple.{App, app_of, with_subcommand}
use Rattle.clap.specs.declared.builder.command.Command.{Command}
use Rattle.clap.specs.declared.builder.command.Command.TheViews.{out-Command}
use Rattle.ext_words.proofs.words.command_line.Goals as goal

-- one more command
more : (old sub new : Command) (line app : App) → app_of old ≡ line → app_of sub ≡ app → (out-Command sub).has_globals ≡ false → AddsSubcommand old sub new → app_of new ≡ with_subcommand line app.top
more old sub new line app is made local added = added.shape local ∙ ap₂ (λ (a b : App). with_subcommand a b.top) is made

pub returns : goal.returns
returns c =
    let sphere = more _ _ _ _ _ c.no_command.ensures c.in_ok-command_with.ensures.app c.in_ok-command_with.ensures.local c.in_ok-subcommand.ensures in
    let resolve = more _ _ _ _ _ sphere c.in_ok-command_with-2.ensures.app c.in_ok-command_with-2.ensures.local c.in_ok-subcommand-2.ensures in
    let dump = more _ _ _ _ _ resolve c.in_ok-command_with-3.ensures.app c.in_ok-command_with-3.ensures.local c.in_ok-subcommand-3.ensures in
    let products = more _ _ _ _ _ dump c.in_ok-command_with-4.ensures.app c.in_ok-command_with-4.ensures.local c.in_ok-subcommand-4.ensures in
    let massey = more _ _ _ _ _ products c.in_ok-command_with-5.ensures.app c.in_ok-command_with-5.ensures.local c.in_ok-subcommand-5.ensures in
    let product = more _ _ _ _ _ massey c.in_ok-command_with-6.ensures.app c.in_ok-command_with-6.ensures.local c.in_ok-subcommand-6.ensures in
    let bracket = more _ _ _ _ _ product c.in_ok-command_with-7.ensures.app c.in_ok-command_with-7.ensures.local c.in_ok-subcommand-7.ensures in
    let check = more _ _ _ _ _ bracket c.in_ok-command_with-8.ensures.app c.in_ok-command_with-8.ensures.local c.in_ok-subcommand-8.ensures in
    let build = more _ _ _ _ _ check c.in_ok-command_with-9.ensures.app c.in_ok-command_with-9.ensures.local c.in_ok-subcommand-9.ensures in
    let sample = more _ _ _ _ _ build c.in_ok-command_with-10.ensures.app c.in_ok-command_with-10.ensures.local c.in_ok-subcommand-10.ensures in
    let sq = more _ _ _ _ _ sample c.in_ok-command_with-11.ensures.app c.in_ok-command_with-11.ensures.local c.in_ok-subcommand-11.ensures in
    let migrate = more _ _ _ _ _ sq c.in_ok-command_with-12.ensures.app c.in_ok-command_with-12.ensures.local c.in_ok-subcommand-12.ensures in
    let verify = more _ _ _ _ _ migrate c.in_ok-command_with-13.ensures.app c.in_ok-command_with-13.ensures.local c.in_ok-subcommand-13.ensures in
    IfOk-weaker c.subcommand-14.result _ _ (λ line added. more _ _ _ _ _ verify c.in_ok-command_with-14.ensures.app c.in_ok-command_with-14.ensures.local added) c.subcommand-14.ensures

-- what the last calls that may fail hand out
pub returns-in_err-command_with-12 : goal.returns-in_err-command_with-12
returns-in_err-command_with-12 c =
    let p = err_from_is_err_and c.from_residual-in_err-command_with-12.result c.from_residual-in_err-command_with-12.ensures.1 in
    rw p.1 tt

pub returns-in_err-command_with-13 : goal.returns-in_err-command_with-13
returns-in_err-command_with-13 c =
    let p = err_from_is_err_and c.from_residual-in_err-command_with-13.result c.from_residual-in_err-command_with-13.ensures.1 in
    rw p.1 tt

pub returns-in_err-command_with-14 : goal.returns-in_err-command_with-14
returns-in_err-command_with-14 c =
    let p = err_from_is_err_and c.from_residual-in_err-command_with-14.result c.from_residual-in_err-command_with-14.ensures.1 in
    rw p.1 tt
