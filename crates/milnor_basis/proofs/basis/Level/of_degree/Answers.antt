use Rattle.std.proofs.Common.{◌≡◌, ◌<◌, ◌-◌, ◌^◌, ◌++◌, [], Result, Ok, Err, IfOk, List, ℕ, suc, ap, ◌∙◌, arith}
use Rattle.milnor_basis.specs.Basis.{basis_of}
use Rattle.milnor_basis.proofs.BasisLemmas.{placed, placed_basis}
use Rattle.milnor_basis.proofs.basis.Level.of_degree.Goals as goal

made : {E : Type 0} (result : Result (List (List ℕ)) E) (none : List (List ℕ)) (k n : ℕ) → none ≡ [] → n < 2 ^ suc k - 1 → IfOk result (λ level. level ≡ none ++ placed k n []) → IfOk result (λ level. level ≡ basis_of n)
made (Ok level) none k n e fits h = h ∙ ap (λ xs. xs ++ placed k n []) e ∙ placed_basis k n fits
made (Err m) none k n e fits h = tt

pub returns : goal.returns
returns c = made c.with_lists.result c.new.result.items 8 c.args.n c.new.ensures.items (omega arith) c.with_lists.ensures
