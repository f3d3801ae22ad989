-- What each image has is in each later one, where every image stands for a list or for that list with one entry more.
use Rattle.std.proofs.Common.{◌≡◌, ◌⊎◌, inl, inr, ℕ, suc, ◌+◌, ◌-◌, List, [], ◌∷◌, ◌++◌, length, take, Option, Some, sym, ◌∙◌, ap, subst, arith, append_assoc, length-append}
use Rattle.std.proofs.lemmas.List.{append-nil, take_at}
use Rattle.std.proofs.lemmas.Option.{same_Some}
use Rattle.resolution_laws.specs.Start.{Entry}
use Rattle.square.specs.Keeping.{HasFirst}

-- so many entries of a list behind others
take_past : (xs ys : List Entry) (k : ℕ) → take (length xs + k) (xs ++ ys) ≡ xs ++ take k ys
take_past [] ys k = let e : 0 + k ≡ k = omega arith in ap (λ n. take n ys) e
take_past (x ∷ xs) ys k =
    let e : suc (length xs) + k ≡ suc (length xs + k) = omega arith in
    ap (λ n. take n (x ∷ (xs ++ ys))) e ∙ ap (λ (l : List Entry). x ∷ l) (take_past xs ys k)

-- a list that is shorter than one with an entry more begins the list
shorter_first : (kept first : List Entry) (e x : Entry) (more : List Entry) → kept ++ e ∷ [] ≡ first ++ x ∷ more → HasFirst first (Some kept)
shorter_first kept first e x more is =
    let n = length kept - length first in
    let lens = ap length is in
    let a = length-append kept (e ∷ []) in
    let b = length-append first (x ∷ more) in
    let at : length kept ≡ length first + n = omega arith in
    record {
      more = take n (x ∷ more);
      is = ap (λ (l : List Entry). Some l)
          (sym (take_at kept (e ∷ []) (length kept) (omega arith)) ∙ ap (take (length kept)) is ∙ ap (λ m. take m (first ++ x ∷ more)) at ∙ take_past first (x ∷ more) n);
    }

first_of_longer : (kept first : List Entry) (e : Entry) → HasFirst first (Some kept) → HasFirst first (Some (kept ++ e ∷ []))
first_of_longer kept first e h =
    let is : kept ≡ first ++ h.more = same_Some kept (first ++ h.more) h.is in
    record { more = h.more ++ e ∷ []; is = ap (λ (l : List Entry). Some l) (ap (λ (l : List Entry). l ++ e ∷ []) is ∙ append_assoc first h.more (e ∷ [])) }

module _ {C : Type 0} (now later before after : C → Type 0) (value : C → Option (List Entry)) (kept : List Entry) (e : Entry) where
  pub retained_entries : ((c : C) → now c → before c ⊎ after c) → ((c : C) → later c → before c ⊎ after c) → ((c : C) → before c → value c ≡ Some kept) → ((c : C) → after c → value c ≡ Some (kept ++ e ∷ [])) → ((c : C) × now c) → (((c : C) → now c → after c) → (c : C) → later c → after c)
      → (first : List Entry) → ((c : C) → now c → HasFirst first (value c)) → (c : C) → later c → HasFirst first (value c)
  retained_entries here there old new some law first all =
      let d = some.0 in
      let has : HasFirst first (value d) = all d some.1 in
      let longer : HasFirst first (Some (kept ++ e ∷ [])) = elim (here d some.1) [
        | inl b ↦ first_of_longer kept first e (subst (HasFirst first) (old d b) has)
        | inr a ↦ subst (HasFirst first) (new d a) has
      ] in
      by_rest longer.more (same_Some (kept ++ e ∷ []) (first ++ longer.more) longer.is)
    where
      by_rest : (more : List Entry) → kept ++ e ∷ [] ≡ first ++ more → (c : C) → later c → HasFirst first (value c)
      by_rest [] is =
          let whole : kept ++ e ∷ [] ≡ first = is ∙ append-nil first in
          let only : (c : C) → now c → after c = λ c at. elim (here c at) [
            | inr a ↦ a
            | inl b ↦
                let short : HasFirst first (Some kept) = subst (HasFirst first) (old c b) (all c at) in
                let parts : kept ≡ first ++ short.more = same_Some kept (first ++ short.more) short.is in
                let x = ap length parts in
                let y = length-append first short.more in
                let z = ap length whole in
                let w = length-append kept (e ∷ []) in
                absurd (omega arith)
          ] in
          λ c at. record { more = []; is = new c (law only c at) ∙ ap (λ (l : List Entry). Some l) is }
      by_rest (x ∷ more) is = λ c at. elim (there c at) [
        | inl b ↦ subst (HasFirst first) (sym (old c b)) (shorter_first kept first e x more is)
        | inr a ↦ subst (HasFirst first) (sym (new c a)) (record { more = x ∷ more; is = ap (λ (l : List Entry). Some l) is })
      ]
