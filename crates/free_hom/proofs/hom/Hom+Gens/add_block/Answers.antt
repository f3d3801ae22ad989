use Rattle.std.proofs.Common.{◌≡◌, List, Bool, ℕ, pos, length, map, to_z, of_z, w32, ap, sym, subst, arith}
use Rattle.std.proofs.lemmas.Int.{ints}
use Rattle.std.proofs.lemmas.List.{length-map}
use Rattle.milnor_product.proofs.Multiples.{basis_at-negative}
use Rattle.milnor_basis.specs.Basis.{basis_of}
use Rattle.milnor_product.specs.Times.{basis_at}
use Rattle.free_module.specs.FreeModule.{free_action}
use Rattle.free_module.specs.Columns.{AreAdded}
use Rattle.free_module.proofs.Columns.{added_none}
use Rattle.free_hom.proofs.hom.Hom+Gens.add_block.Goals as goal

pub returns-in_default-clause-left : goal.returns-in_default-clause-left
returns-in_default-clause-left c =
    let none = basis_at-negative c.args.above (grind (arith, ints)) in
    omega (arith, ap length none)

pub returns-in_default-clause-added : goal.returns-in_default-clause-added
returns-in_default-clause-added c =
    let none = basis_at-negative c.args.above (grind (arith, ints)) in
    let f : List ℕ → List Bool = λ r. free_action c.args.self.now.target.now r c.args.degree c.args.image.now in
    added_none c.args.table.now c.args.end (map f (basis_at c.args.above)) c.args.columns.now (λ k p l. absurd (omega (arith, l, ap length none, length-map (basis_at c.args.above) f)))

pub returns-clause-added : goal.returns-clause-added
returns-clause-added c =
    let n = c.in-Ok.above in
    let e : c.args.above ≡ pos n = grind (arith, ints) in
    let d : to_z w32 (of_z w32 c.args.degree) ≡ c.args.degree = omega (arith, ints) in
    let f : List ℕ → List Bool = λ r. free_action c.args.self.now.target.now r c.args.degree c.args.image.now in
    let added : AreAdded c.args.table.now c.args.end (map f (basis_of n)) c.args.columns.now c.add_to_columns.new.columns = simp d at c.in_ok-add_to_columns.ensures in
    subst (λ (xs : List (List ℕ)). AreAdded c.args.table.now c.args.end (map f xs) c.args.columns.now c.add_to_columns.new.columns) (sym (ap basis_at e)) added
