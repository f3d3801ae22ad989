-- The maps of a null homotopy grow, map by map.
use Rattle.std.proofs.Common.{◌≡◌, ◌⊎◌, inl, inr, ℕ, suc, ◌+◌, ◌<◌, ◌≤◌, Bool, List, refl, sym, subst, ◌∙◌, arith}
use Rattle.std.proofs.lemmas.Bool.{cases_lt}
use Rattle.square.specs.Tables.{Staircase}
use Rattle.chain_map.specs.Lifting.{LiftValues}
use Rattle.massey.specs.declared.places.Places.{Places}
use Rattle.massey.specs.Inside.{AreNext, zero_map}

-- the maps through one, and another behind them
grown_by : (maps : ℕ → List (List Bool)) (new : List (List Bool)) (j k : ℕ) → (k < j) ⊎ (j ≤ k) → List (List Bool)
grown_by maps new j k (inl l) = new
grown_by maps new j k (inr l) = maps j

old_map : (maps : ℕ → List (List Bool)) (new : List (List Bool)) (j k : ℕ) (d : (k < j) ⊎ (j ≤ k)) → j ≤ k → grown_by maps new j k d ≡ maps j
unfolding grown_by
old_map maps new j k (inl l) b = absurd (omega arith)
old_map maps new j k (inr l) b = refl

new_map : (maps : ℕ → List (List Bool)) (new : List (List Bool)) (j k : ℕ) (d : (k < j) ⊎ (j ≤ k)) → k < j → grown_by maps new j k d ≡ new
unfolding grown_by
new_map maps new j k (inl l) b = refl
new_map maps new j k (inr l) b = absurd (omega arith)

-- the maps through H_k, with the values of the last of them
pub record AreMaps (table sphere : Staircase) (p : Places) (n : ℕ) (beta gamma : LiftValues) (k : ℕ)
    (last : List (List Bool)) : Type 0 where
  pub maps : ℕ → List (List Bool)
  pub here : maps k ≡ last
  pub first : maps 0 ≡ zero_map table sphere p n
  pub next : (j : ℕ) → j < k → AreNext table sphere p n beta gamma j (maps j) (maps (suc j))

module _ (table sphere : Staircase) (p : Places) (n : ℕ) (beta gamma : LiftValues) where
  pub maps_first : (first : List (List Bool)) → first ≡ zero_map table sphere p n → AreMaps table sphere p n beta gamma 0 first
  maps_first first e = record { maps = λ k. first; here = refl; first = e; next = λ j l. absurd (omega arith) }

  pub maps_more : (k : ℕ) (old new : List (List Bool)) → AreMaps table sphere p n beta gamma k old → AreNext table sphere p n beta gamma k old new → AreMaps table sphere p n beta gamma (k + 1) new
  maps_more k old new m next =
      let maps : ℕ → List (List Bool) = λ j. grown_by m.maps new j k (cases_lt k j) in
      let before : (j : ℕ) → j ≤ k → maps j ≡ m.maps j = λ j b. old_map m.maps new j k (cases_lt k j) b in
      let behind : (j : ℕ) → k < j → maps j ≡ new = λ j b. new_map m.maps new j k (cases_lt k j) b in
      record {
        maps = maps;
        here = behind (k + 1) (omega arith);
        first = before 0 (omega arith) ∙ m.first;
        next = λ j l. elim (cases_lt j k) [
          | inl b ↦
              subst (λ (v : List (List Bool)). AreNext table sphere p n beta gamma j v (maps (suc j))) (sym (before j (omega arith)))
              (subst (AreNext table sphere p n beta gamma j (m.maps j)) (sym (before (suc j) (omega arith))) (m.next j b))
          | inr b ↦
              let same : k ≡ j = omega arith in
              let at : AreNext table sphere p n beta gamma k (maps k) (maps (suc k)) =
              subst (λ (v : List (List Bool)). AreNext table sphere p n beta gamma k v (maps (suc k))) (sym (before k (omega arith) ∙ m.here))
              (subst (AreNext table sphere p n beta gamma k old) (sym (behind (suc k) (omega arith))) next) in
              subst (λ (j : ℕ). AreNext table sphere p n beta gamma j (maps j) (maps (suc j))) same at
        ];
      }
