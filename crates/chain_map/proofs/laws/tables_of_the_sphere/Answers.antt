use Rattle.std.proofs.Common.{◌≡◌, ℕ, Bool, true, false, if◌then◌else◌, ℤ, pos, List, [], ◌∷◌, length, refl, ap, sym, ◌∙◌}
use Rattle.std.specs.Ordering.{int_eq}
use Rattle.std.proofs.lemmas.Bool.Decides.{Decides-int_eq}
use Rattle.finite_module.specs.Module.{Module, width, bottom}
use Rattle.chain_map.proofs.laws.tables_of_the_sphere.Goals as goal

unequal : (t : ℤ) (b : Bool) → int_eq (pos 0) t ≡ b → (t ≡ pos 0 → ⊥) → (let numbers : List ℕ = if b then 0 ∷ [] else [] in length numbers) ≡ 0
unequal t true e apart = absurd (apart (sym ((Decides-int_eq (pos 0) t).0 e)))
unequal t false e apart = refl

pub returns : goal.returns
returns c = λ table is. record {
  bottom = ap (λ (m : Module). bottom m.generators) is;
  one = ap (λ (m : Module). width m.generators (pos 0)) is;
  none = λ t apart. ap (λ (m : Module). width m.generators t) is ∙ unequal t (int_eq (pos 0) t) refl apart;
}
