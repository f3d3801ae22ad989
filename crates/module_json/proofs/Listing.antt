-- The generators of a file, member by member.
use Rattle.std.specs.Prelude.{◌≡◌, ℕ, suc, List, [], ◌∷◌, ◌++◌, length, Some, None}
use Rattle.std.proofs.Common.{sym, ap, ◌∙◌, arith, append_assoc, length-append}
use Rattle.serde_json.specs.Data.{Data, Members, member}
use Rattle.module_spec.specs.Spec.{Generator}
use Rattle.module_json.specs.ModuleFile.{degree_of, generator_refusal, generators_refusal, listed}

-- what is left to look at after the generators gs of the members `all`
pub record IsLeft (all : Members) (gs : List Generator) (rest : Members) : Type 0 where
  pub refusal : generators_refusal 0 all ≡ generators_refusal (length gs) rest
  pub listed : listed all ≡ gs ++ listed rest

named : (name key : List ℕ) (d : Data) (rest : Members) (g : Generator) → g.name ≡ name → name ≡ key → degree_of d ≡ Some g.degree → listed (member key d rest) ≡ g ∷ listed rest
named name key d rest g is same z = rw (sym same, sym is, z)

-- a member that is not refused gives the next generator
pub IsLeft-next : (all : Members) (gs : List Generator) (i : ℕ) (name key : List ℕ) (d : Data) (rest : Members) (g : Generator) → IsLeft all gs (member key d rest) → i ≡ length gs → name ≡ key → generator_refusal i name d ≡ None → g.name ≡ name → degree_of d ≡ Some g.degree → IsLeft all (gs ++ g ∷ []) rest
IsLeft-next all gs i name key d rest g left at same fine is z =
    let one : length (gs ++ g ∷ []) ≡ suc (length gs) = omega (arith, length-append gs (g ∷ [])) in
    let here : generator_refusal (length gs) key d ≡ None = rw (sym at, sym same) fine in
    let later : generators_refusal (length gs) (member key d rest) ≡ generators_refusal (suc (length gs)) rest = rw here in
    let this : listed (member key d rest) ≡ g ∷ listed rest = named name key d rest g is same z in
    record {
      refusal = left.refusal ∙ later ∙ ap (λ n. generators_refusal n rest) (sym one);
      listed = left.listed ∙ ap (λ hs. gs ++ hs) this ∙ sym (append_assoc gs (g ∷ []) (listed rest));
    }
