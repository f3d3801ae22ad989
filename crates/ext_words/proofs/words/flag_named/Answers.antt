use Rattle.std.proofs.Common.{rules, ap, ap₂, ◌≡◌, ◌∙◌}
use Rattle.std.specs.Prelude.{Option, Some, None, IsSomeAnd}
use Rattle.clap.specs.Simple.{new_rule}
use Rattle.clap.specs.Walk.{Rule, rule_of}
use Rattle.clap.specs.declared.builder.action.ArgAction.TheVariants.{Set}
use Rattle.clap.specs.declared.builder.range.ValueRange.{ValueRange}
use Rattle.ext_words.proofs.words.flag_named.Goals as goal

the_range : (o : Option ValueRange) (v : ValueRange) → IsSomeAnd o (λ r. r ≡ v) → o ≡ Some v
the_range None v h = absurd h
the_range (Some r) v h = ap (λ (x : ValueRange). Some x) h

pub returns-clause-rule : goal.returns-clause-rule
returns-clause-rule c =
    let name = c.args.name.now in
    let set : rule_of c.action.result ≡ record (new_rule name) { long = Some name; action = Some Set } = search rules in
    let none : c.num_args.result.num_vals ≡ Some (record { start_inclusive = 0; end_inclusive = 0 }) = the_range c.num_args.result.num_vals _ c.num_args.ensures.1 in
    ap rule_of c.num_args.ensures.0 ∙ ap₂ (λ (r : Rule) (range : Option ValueRange). record r { range = range }) set none
