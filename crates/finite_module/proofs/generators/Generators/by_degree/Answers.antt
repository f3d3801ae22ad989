use Rattle.std.proofs.Common.{◌≡◌, sym, subst, rules}
use Rattle.std.proofs.lemmas.Fn.{always_returns_same}
use Rattle.module_spec.specs.Spec.{Generator, by_degree}
use Rattle.module_spec.specs.WellFormed.{AreByDegree}
use Rattle.module_spec.proofs.Sorting.{stable_sort}
use Rattle.finite_module.proofs.generators.Generators.by_degree.Goals as goal

pub returns : goal.returns
returns c =
    stable_sort (λ (g : Generator). g.degree) c.args.list.items c.sort_by_key.new.self.items
    (c.in_ok-sort_by_key.ensures.sorted (λ g. g.degree) (always_returns_same _ (λ a r. r ≡ a.0.now.degree) _ (λ a r f k. search rules)))
    (c.sort_by_key.ensures.stable (λ g. g.degree) (always_returns_same _ (λ a r. r ≡ a.0.now.degree) _ (λ a r f k. search rules)))

pub invariant_of-result : goal.invariant_of-result
invariant_of-result c =
    let same : c.sort_by_key.new.self.items ≡ by_degree c.args.list.items =
    stable_sort (λ (g : Generator). g.degree) c.args.list.items c.sort_by_key.new.self.items
    (c.in_ok-sort_by_key.ensures.sorted (λ g. g.degree) (always_returns_same _ (λ a r. r ≡ a.0.now.degree) _ (λ a r f k. search rules)))
    (c.sort_by_key.ensures.stable (λ g. g.degree) (always_returns_same _ (λ a r. r ≡ a.0.now.degree) _ (λ a r f k. search rules))) in
    subst AreByDegree (sym same) c.requires
