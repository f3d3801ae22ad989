use Rattle.std.proofs.Common.{ℕ, ◌≤◌, [], ◌∷◌, Option, Some, IfSome, sym, subst, ◌∙◌}
use Rattle.std.specs.List.{All}
use Rattle.std.proofs.lemmas.List.Elements.{All-nil, All-cons, All-append}
use Rattle.ext_words.specs.Words.{positive_up_to}
use Rattle.ext_words.proofs.Factors.{one-read, none-read, all-read}
use Rattle.ext_words.proofs.numbers.positive_numbers.Goals as goal

pub loop-text-preserved : goal.loop-text-preserved
loop-text-preserved c =
    let number = c.in-Some.number in
    let numbers = c.loop-text.numbers.items in
    let within : IfSome (Some number) (λ n. (1 ≤ n) × (n ≤ c.args.limit)) = subst (λ (o : Option ℕ). IfSome o (λ n. (1 ≤ n) × (n ≤ c.args.limit))) c.in-Some.is c.positive_up_to.ensures.within in
    record {
      numbers = c.loop-text.invariant.numbers ∙ one-read (positive_up_to c.args.limit) numbers _ c.args.texts.now c.loop-text.text-index number _ c.loop-text-test.true (sym c.positive_up_to.ensures.number ∙ c.in-Some.is) c.in_ok-push.ensures.items;
      positive = subst (All (λ n. 1 ≤ n)) (sym c.in_ok-push.ensures.items) (All-append (λ n. 1 ≤ n) numbers (number ∷ []) c.loop-text.invariant.positive (All-cons (λ n. 1 ≤ n) number [] within.0 (All-nil (λ n. 1 ≤ n))));
    }

pub returns-in_default-clause-numbers : goal.returns-in_default-clause-numbers
returns-in_default-clause-numbers c =
    sym (c.loop-text.invariant.numbers ∙ none-read (positive_up_to c.args.limit) c.loop-text.numbers.items c.args.texts.now c.loop-text.text-index _ c.loop-text-test.true (sym c.positive_up_to.ensures.number ∙ c.in_default.is))

pub returns-clause-numbers : goal.returns-clause-numbers
returns-clause-numbers c = sym (c.loop-text.invariant.numbers ∙ all-read (positive_up_to c.args.limit) c.loop-text.numbers.items c.args.texts.now c.loop-text.text-index c.loop-text-test.false)
