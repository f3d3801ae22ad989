-- The arguments so far.
use Rattle.std.proofs.Common.{◌≡◌, false, take}
use Rattle.std.specs.Prelude.{map}
use Rattle.std.specs.List.{fold}
use Rattle.clap.specs.Words.{app_of, new_app, with_rule}
use Rattle.clap.specs.declared.builder.command.Command.TheViews.{out-Command}
use Rattle.ext_words.specs.Words.{texts_of, is_in}
use Rattle.ext_words.specs.Inside.CommandLine.{word_named, option_named, flag_named}
use Rattle.ext_words.proofs.words.command_with.Given as goal

abbrev pub invariant-loop-word : goal.invariant-loop-word
invariant-loop-word l = record {
  app : app_of l.command ≡ fold with_rule (new_app l.name) (map word_named (texts_of (take l.word-index l.words)));
  local : (out-Command l.command).has_globals ≡ false;
}

abbrev pub invariant-loop-option : goal.invariant-loop-option
invariant-loop-option l = record {
  app : app_of l.command ≡ fold with_rule (fold with_rule (new_app l.name) (map word_named (texts_of l.words)))
      (map (λ n. option_named (is_in (texts_of l.repeated) n) n) (texts_of (take l.option-index l.options)));
  local : (out-Command l.command).has_globals ≡ false;
}

abbrev pub invariant-loop-flag : goal.invariant-loop-flag
invariant-loop-flag l = record {
  app : app_of l.command ≡ fold with_rule
      (fold with_rule (fold with_rule (new_app l.name) (map word_named (texts_of l.words))) (map (λ n. option_named (is_in (texts_of l.repeated) n) n) (texts_of l.options)))
      (map flag_named (texts_of (take l.flag-index l.flags)));
  local : (out-Command l.command).has_globals ≡ false;
}
