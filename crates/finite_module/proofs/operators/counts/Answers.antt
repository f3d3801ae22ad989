use Rattle.std.proofs.Common.{◌≡◌, ℕ, ◌+◌, ◌++◌, ◌∷◌, [], List, length, map, sym, ap, ◌∙◌, arith, add-one}
use Rattle.std.specs.List.{range_with_len}
use Rattle.std.proofs.lemmas.List.FromFn.{map-range_with_len_more}
use Rattle.milnor_basis.specs.Basis.{basis_of}
use Rattle.finite_module.specs.Module.{elements_below}
use Rattle.finite_module.proofs.operators.counts.Goals as goal
use Rattle.finite_module.proofs.operators.counts.Goals.{else-loop-n-test, then-loop-n-test+in_ok-push+in-Some+else-n-n-end}

-- one more count
count_more : (counts counts' : List ℕ) (count n : ℕ) → counts ≡ map elements_below (range_with_len 0 n) → count ≡ elements_below n → counts' ≡ counts ++ count ∷ [] → counts' ≡ map elements_below (range_with_len 0 (n + 1))
count_more counts counts' count n before here pushed =
    pushed ∙ ap (λ xs. xs ++ count ∷ []) before ∙ ap (λ m. map elements_below (range_with_len 0 n) ++ m ∷ []) here ∙ sym (map-range_with_len_more elements_below 0 n n (omega arith))

elements_below-more : (n : ℕ) → elements_below (n + 1) ≡ elements_below n + length (basis_of n)
elements_below-more n = ap elements_below (add-one n)

by_length : (more count n len : ℕ) → count ≡ elements_below n → len ≡ length (basis_of n) → more ≡ count + len → more ≡ elements_below (n + 1)
by_length more count n len e f g = omega (arith, elements_below-more n)

pub loop-n-preserved : goal.loop-n-preserved
loop-n-preserved c = record {
  counts = count_more c.loop-n.counts.items c.push.new.self.items c.loop-n.count c.loop-n.n c.loop-n.invariant.counts c.loop-n.invariant.count c.in_ok-push.ensures.items;
  count = by_length c.in-Some.more c.loop-n.count c.loop-n.n (length c.of_degree.result.now) c.loop-n.invariant.count (ap length c.of_degree.ensures) c.in-Some.ensures.1;
}

pub returns-clause-counts : goal.returns-clause-counts
returns-clause-counts c =
    elim c.loop-n-test.branch [
      | else-loop-n-test w ↦ absurd (omega (arith))
      | then-loop-n-test+in_ok-push+in-Some+else-n-n-end w ↦
          let made = count_more c.loop-n.counts.items w.push.new.self.items c.loop-n.count c.loop-n.n c.loop-n.invariant.counts c.loop-n.invariant.count w.in_ok-push.ensures.items in
          let last : c.loop-n.n ≡ c.args.basis.now = omega (arith, c.max-n-end.ensures) in
          ap (λ v. v.items) w.counts-is ∙ made ∙ ap (λ n. map elements_below (range_with_len 0 (n + 1))) last
    ]
