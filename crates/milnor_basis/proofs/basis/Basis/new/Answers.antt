use Rattle.std.proofs.Common.{◌≡◌, ◌+◌, ◌++◌, ◌∷◌, [], List, ℕ, map, sym, ap, ◌∙◌, arith}
use Rattle.std.specs.List.{range_with_len}
use Rattle.std.proofs.lemmas.List.FromFn.{map-range_with_len_more}
use Rattle.milnor_basis.specs.Basis.{basis_of}
use Rattle.milnor_basis.proofs.basis.Basis.new.Goals as goal
use Rattle.milnor_basis.proofs.basis.Basis.new.Goals.{else-loop-n-test, then-loop-n-test+in_ok-of_degree+in_ok-push+else-n-max}

-- one more level
level_more : (levels levels' : List (List (List ℕ))) (level : List (List ℕ)) (n : ℕ) → levels ≡ map basis_of (range_with_len 0 n) → level ≡ basis_of n → levels' ≡ levels ++ level ∷ [] → levels' ≡ map basis_of (range_with_len 0 (n + 1))
level_more levels levels' level n before here pushed =
    pushed ∙ ap (λ xs. xs ++ level ∷ []) before ∙ ap (λ l. map basis_of (range_with_len 0 n) ++ l ∷ []) here ∙ sym (map-range_with_len_more basis_of 0 n n (omega arith))

pub loop-n-preserved : goal.loop-n-preserved
loop-n-preserved c = level_more c.loop-n.levels.items c.push.new.self.items c.in_ok-of_degree.field-0 c.loop-n.n c.loop-n.invariant c.in_ok-of_degree.ensures c.in_ok-push.ensures.items

pub invariant_of-result : goal.invariant_of-result
invariant_of-result c =
    elim c.loop-n-test.branch [
      | else-loop-n-test w ↦ absurd (omega arith)
      | then-loop-n-test+in_ok-of_degree+in_ok-push+else-n-max w ↦
          let made = level_more c.loop-n.levels.items w.push.new.self.items w.in_ok-of_degree.field-0 c.loop-n.n c.loop-n.invariant w.in_ok-of_degree.ensures w.in_ok-push.ensures.items in
          let last : c.loop-n.n ≡ c.args.max = omega arith in
          (c.requires, ap (λ v. v.items) w.levels-is ∙ made ∙ ap (λ n. map basis_of (range_with_len 0 (n + 1))) last, c.in_ok-counts.ensures, c.in_ok-kept.ensures)
    ]
