use Rattle.std.proofs.Common.{◌≡◌, map, ap, sym, ◌∙◌, rules}
use Rattle.std.specs.List.{range_with_len}
use Rattle.std.proofs.lemmas.Fn.{always_returns_same}
use Rattle.module_spec.specs.Sorting.{sorted_by}
use Rattle.built_laws.proofs.Sorted.{sorted_by-map}
use Rattle.module_spec.proofs.Sorting.{stable_sort}
use Rattle.module_build.specs.declared.order.Placed.{Placed}
use Rattle.module_build.specs.Inside.Construction.{placed, size_of}
use Rattle.module_build.proofs.order.in_order.Goals as goal

pub returns : goal.returns
returns c =
    stable_sort (λ (p : Placed). p.degree) c.in_ok-order.order.items c.sort_by_key.new.self.items
    (c.in_ok-sort_by_key.ensures.sorted (λ p. p.degree) (always_returns_same _ (λ a r. r ≡ a.0.now.degree) _ (λ a r f k. search rules)))
    (c.sort_by_key.ensures.stable (λ p. p.degree) (always_returns_same _ (λ a r. r ≡ a.0.now.degree) _ (λ a r f k. search rules)))
    ∙ ap (sorted_by (λ (p : Placed). p.degree)) c.in_ok-order.ensures
    ∙ sym (sorted_by-map (λ (p : Placed). p.degree) (placed c.args.construction.now) (range_with_len 0 (size_of c.args.construction.now)))
