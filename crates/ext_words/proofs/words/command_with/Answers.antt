use Rattle.std.proofs.Common.{◌≡◌, ◌∙◌, ◌<◌, ◌+◌, ℕ, List, [], ◌∷◌, length, take, get_or, ap, ap₂, sym, refl, Bool}
use Rattle.std.specs.Prelude.{◌||◌, map}
use Rattle.std.specs.Borrow.{Bor}
use Rattle.std.specs.List.{fold, list_any}
use Rattle.std.specs.Str.{bytes_eq}
use Rattle.std.proofs.lemmas.List.Sums.{fold_more}
use Rattle.clap.proofs.WalkLemmas.{list_any-map}
use Rattle.clap.specs.Simple.{App, new_app, with_rule}
use Rattle.clap.specs.Walk.{Rule, Text}
use Rattle.ext_words.specs.Words.{texts_of, is_in}
use Rattle.ext_words.specs.Inside.CommandLine.{word_named, option_named, flag_named}
use Rattle.ext_words.proofs.words.command_with.Goals as goal

-- the arguments, one after another
each : (rule : Text → Rule) (app : App) (names : List (Bor Text)) → fold with_rule app (map rule (texts_of names)) ≡ fold (λ a n. with_rule a (rule n.now)) app names
each rule app [] = refl
each rule app (name ∷ names) = each rule (with_rule app (rule name.now)) names

one-more : (rule : Text → Rule) (app : App) (names : List (Bor Text)) (i : ℕ) (d : Bor Text) → i < length names →
    fold with_rule app (map rule (texts_of (take (i + 1) names))) ≡ with_rule (fold with_rule app (map rule (texts_of (take i names)))) (rule (get_or names i d).now)
one-more rule app names i d within =
    each rule app (take (i + 1) names)
    ∙ (fold_more (λ a n. with_rule a (rule n.now)) app names i d within ∙ ap (λ (a : App). with_rule a (rule (get_or names i d).now)) (sym (each rule app (take i names))))

-- the option of a name, as it is listed among those that repeat
named : (repeated : List (Bor Text)) (again : Bool) (name : Text) (rule : Rule) → rule ≡ option_named again name → again ≡ list_any (λ other. bytes_eq other.now name) repeated → rule ≡ option_named (is_in (texts_of repeated) name) name
named repeated again name rule is among = is ∙ ap (λ (b : Bool). option_named b name) (among ∙ list_any-map (λ (t : Text). bytes_eq t name) (λ (w : Bor Text). w.now) repeated)

pub loop-word-preserved : goal.loop-word-preserved
loop-word-preserved c = record {
  app = c.in_ok-command.ensures.shape c.new.ensures.optional.1 ∙ (ap₂ with_rule c.loop-word.invariant.app c.new.ensures.rule ∙ sym (one-more word_named (new_app c.args.name.now) c.args.words.now c.loop-word.word-index _ c.loop-word-test.true));
  local = c.in_ok-command.ensures.globals ∙ ap₂ (λ (a b : Bool). a || b) c.loop-word.invariant.local c.new.ensures.optional.1;
}

pub loop-option-preserved : goal.loop-option-preserved
loop-option-preserved c = record {
  app = c.in_ok-command-2.ensures.shape c.option_named.ensures.local ∙ (ap₂ with_rule c.loop-option.invariant.app (named c.args.repeated.now c.is_in.result _ _ c.option_named.ensures.rule c.is_in.ensures) ∙ sym (one-more (λ n. option_named (is_in (texts_of c.args.repeated.now) n) n) (fold with_rule (new_app c.args.name.now) (map word_named (texts_of c.args.words.now))) c.args.options.now c.loop-option.option-index _ c.loop-option-test.true));
  local = c.in_ok-command-2.ensures.globals ∙ ap₂ (λ (a b : Bool). a || b) c.loop-option.invariant.local c.option_named.ensures.local;
}

pub loop-flag-preserved : goal.loop-flag-preserved
loop-flag-preserved c = record {
  app = c.in_ok-command-3.ensures.shape c.flag_named.ensures.local ∙ (ap₂ with_rule c.loop-flag.invariant.app c.flag_named.ensures.rule ∙ sym (one-more flag_named (fold with_rule (fold with_rule (new_app c.args.name.now) (map word_named (texts_of c.args.words.now))) (map (λ n. option_named (is_in (texts_of c.args.repeated.now) n) n) (texts_of c.args.options.now))) c.args.flags.now c.loop-flag.flag-index _ c.loop-flag-test.true));
  local = c.in_ok-command-3.ensures.globals ∙ ap₂ (λ (a b : Bool). a || b) c.loop-flag.invariant.local c.flag_named.ensures.local;
}
