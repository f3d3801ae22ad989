use Rattle.std.proofs.Common.{◌≡◌, ◌∙◌, ap, rules}
use Rattle.std.proofs.lemmas.Fn.{always_returns_same}
use Rattle.module_spec.specs.Spec.{Generator, by_degree}
use Rattle.module_spec.proofs.Sorting.{stable_sort}
use Rattle.module_json.proofs.generator.generators.Goals as goal

pub returns-clause-basis : goal.returns-clause-basis
returns-clause-basis c =
    stable_sort (λ (g : Generator). g.degree) c.in_ok-generators.generators.items c.sort_by_key.new.self.items
    (c.in_ok-sort_by_key.ensures.sorted (λ g. g.degree) (always_returns_same _ (λ a r. r ≡ a.0.now.degree) _ (λ a r f k. search rules)))
    (c.sort_by_key.ensures.stable (λ g. g.degree) (always_returns_same _ (λ a r. r ≡ a.0.now.degree) _ (λ a r f k. search rules)))
    ∙ ap by_degree c.in_ok-generators.ensures.listed
