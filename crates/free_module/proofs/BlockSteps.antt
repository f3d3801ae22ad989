-- The steps of the loops over the generators of a free module.
use Rattle.std.proofs.Common.{◌≡◌, ℕ, suc, ◌+◌, ◌<◌, List, ◌∷◌, length, drop, get_or, ℤ, pos, ◌-ℤ◌, ap, ◌∙◌, arith}
use Rattle.std.proofs.lemmas.List.{drop_more}
use Rattle.std.proofs.lemmas.Int.{ints}
use mir.Val.{SFits, to_z, of_z}
use mir.Syntax.{w32, w64}
use Rattle.milnor_product.specs.Times.{basis_at}
use Rattle.free_module.specs.FreeModule.{free_basis_from}
use Rattle.free_module.specs.Inside.FreeLaws.{length-free_basis_from}

-- the generators from k on, and those after it
pub length-rest : (ds : List ℤ) (t : ℤ) (k : ℕ) → k < length ds → length (free_basis_from k (drop k ds) t) ≡ length (basis_at (t -ℤ get_or ds k (pos 0))) + length (free_basis_from (k + 1) (drop (k + 1) ds) t)
length-rest ds t k h =
    let e : drop k ds ≡ get_or ds k (pos 0) ∷ drop (k + 1) ds = drop_more ds k (pos 0) h in
    let f : suc k ≡ k + 1 = omega arith in
    ap (λ xs. length (free_basis_from k xs t)) e ∙ length-free_basis_from k (get_or ds k (pos 0)) (drop (k + 1) ds) t ∙ ap (λ j. length (basis_at (t -ℤ get_or ds k (pos 0))) + length (free_basis_from j (drop (k + 1) ds) t)) f

-- the difference of two numbers of 32 bits, computed in 64 bits
pub difference : (a b t d : ℤ) → SFits w32 t → SFits w32 d → a ≡ to_z w32 (of_z w32 t) → b ≡ to_z w32 (of_z w32 d) → to_z w64 (of_z w64 (to_z w64 (of_z w64 a) -ℤ to_z w64 (of_z w64 b))) ≡ t -ℤ d
difference a b t d h k e f = omega (arith, ints)
