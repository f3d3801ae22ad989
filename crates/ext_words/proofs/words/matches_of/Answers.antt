use Rattle.std.proofs.Common.{◌≡◌, ◌∙◌, refl, ap, sym, subst, true, inl, inr}
use Rattle.std.proofs.lemmas.Bool.{true≢false}
use Rattle.clap.specs.Values.{kind_of}
use Rattle.clap.specs.declared.error.kind.ErrorKind.TheVariants.{OutOfMemory}
use Rattle.clap.specs.Simple.{App, is_simple, subcommand_of}
use Rattle.clap.specs.Faults.{fault_of, is_simple_and_free}
use Rattle.clap.specs.Kinds.{HasKind, Kinds}
use Rattle.ext_words.specs.Words.{texts_of}
use Rattle.ext_words.specs.Inside.CommandLine.{command_line}
use Rattle.ext_words.proofs.words.matches_of.Goals as goal

-- the command line is one of which `clap` says all
free_line : is_simple_and_free command_line ≡ true
free_line = refl

simple_line : is_simple command_line ≡ true
simple_line = refl

pub returns-in-Ok-clause-taken : goal.returns-in-Ok-clause-taken
returns-in-Ok-clause-taken c =
    let line = c.in_ok-command_line.ensures in
    sym (ap (λ (a : App). fault_of a (texts_of c.args.words.now)) line) ∙ c.in-Ok.ensures.kinds (ap is_simple_and_free line ∙ free_line)

pub returns-in-Ok-clause-rows : goal.returns-in-Ok-clause-rows
returns-in-Ok-clause-rows c =
    let line = c.in_ok-command_line.ensures in
    let both = c.in-Ok.ensures.matches (ap is_simple line ∙ simple_line) in
    both.1 ∙ ap (λ (a : App). subcommand_of a (texts_of c.args.words.now)) line

pub returns-clause-refused : goal.returns-clause-refused
returns-clause-refused c = λ none.
    let line = c.in_ok-command_line.ensures in
    let kind = c.in-Err-2.ensures.kinds (ap is_simple_and_free line ∙ free_line) in
    let now = subst (λ (k : Kinds). HasKind k c.in-Err-2.field-0) (ap (λ (a : App). fault_of a (texts_of c.args.words.now)) line ∙ none) kind in
    elim now [
      | inl memory ↦
          let same : c.in-Err-2.field-0 ≡ c.in-Err.e = cc in
          let kind_is : c.kind.result ≡ OutOfMemory = c.kind.ensures ∙ (sym (ap kind_of same) ∙ memory) in
          let yes : c.eq.result ≡ true = rw kind_is at c.eq.ensures in
          true≢false (sym yes ∙ c.if-eq.false)
      | inr never ↦ never
    ]
