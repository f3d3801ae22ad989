-- A lift commutes with d on all vectors; with fewer rows it is still one.
use Rattle.std.proofs.Common.{◌≡◌, ℕ, suc, ◌+◌, ◌<◌, ◌≤◌, ℤ, ◌-ℤ◌, ◌≤ℤ◌, Bool, List, refl, sym, subst, ◌∙◌, arith}
use Rattle.std.proofs.lemmas.Int.{ints}
use Rattle.resolution_laws.proofs.Squares.{AreImages-all}
use Rattle.lift_laws.specs.Maps.{shifted, extended, FitThrough}
use Rattle.lift_laws.specs.Lifts.{Resolution, gens, degree, free, image, d, lowered, IsLift, HasImages, LiftsAreChainMaps, CanonicalTablesHaveImages}
use Rattle.lift_laws.specs.Maps.{IsMap}
use Rattle.lift_laws.proofs.Linear.{IsMap-shifted, IsMap-extended, extended-same, extended-after, IsSteenrodModule-shifted}
use Rattle.milnor_laws.proofs.FreeModules.{free_modules_are_modules}
use Rattle.lift_laws.proofs.Resolved.{IsResolved}

-- fewer rows
pub IsLift-less : (r q : Resolution) (s : ℕ) (x : ℤ) (z : ℕ → List Bool) (upto less : ℕ) (top : ℤ) (phi : ℕ → ℕ → List Bool) → less ≤ upto → IsLift r q s x z upto top phi → IsLift r q s x z less top phi
IsLift-less r q s x z upto less top phi h a = record {
  fit = λ k i l e. a.fit k i (omega arith) e;
  start = a.start;
  commutes = λ k i j l e f. a.commutes k i j (omega arith) e f;
}

-- a lift through a degree is one through each lesser
pub IsLift-lower : (r q : Resolution) (s : ℕ) (x : ℤ) (z : ℕ → List Bool) (upto : ℕ) (top less : ℤ) (phi : ℕ → ℕ → List Bool) → less ≤ℤ top → IsLift r q s x z upto top phi → IsLift r q s x z upto less phi
IsLift-lower r q s x z upto top less phi low a = record {
  fit = λ k i h e g l d. a.fit k i h e g l (omega (arith, ints, low, d));
  start = λ g l d. a.start g l (omega (arith, ints, low, d));
  commutes = λ k i j h e f g l d. a.commutes k i j h e f g l (omega (arith, ints, low, d));
}

module _ (r q : Resolution) (n : ℕ) (x : ℤ) (upto : ℕ) (top : ℤ) (images : HasImages r n upto top) (images_q : HasImages q 0 upto (top -ℤ x)) where
  -- d of row k + 1, on the degrees that are lowered
  d-map : (k : ℕ) → k < upto → IsMap top (shifted x (free q (suc k))) (shifted x (free q k)) (λ t. d q (suc k) (t -ℤ x))
  d-map k h =
      IsMap-shifted x (top -ℤ x) top (free q (suc k)) (free q k) (d q (suc k)) (omega (arith, ints))
      (IsMap-extended (free q k) (free_modules_are_modules (gens q k)) (gens q (suc k)) (top -ℤ x) (image q (suc k)) (images_q.widths (suc k) k (omega arith) (omega arith) refl))

  -- the map commutes with d on each vector
  pub commutes-with_d : (z : ℕ → List Bool) (phi : ℕ → ℕ → List Bool) → IsLift r q n x z upto top phi → (k i j : ℕ) → k < upto → j ≡ n + k → i ≡ suc j → (t : ℤ) (v : List Bool) → t ≤ℤ top → d q (suc k) (t -ℤ x) (lowered r i q (suc k) x (phi (suc k)) t v) ≡ lowered r j q k x (phi k) t (extended (free r j) (gens r i) (image r i) t v)
  commutes-with_d z phi a k i j h e f t v b =
      let op = lowered r j q k x (phi k) in
      let low = a.fit k j (omega arith) e in
      let is_op : IsMap top (free r j) (shifted x (free q k)) op = IsMap-extended (shifted x (free q k)) (IsSteenrodModule-shifted x (free q k) (free_modules_are_modules (gens q k))) (gens r j) top (phi k) low in
      let fi : FitThrough (free r j) (gens r i) top (image r i) = images.widths i j (omega arith) (omega arith) f in
      extended-after (shifted x (free q (suc k))) (IsSteenrodModule-shifted x (free q (suc k)) (free_modules_are_modules (gens q (suc k)))) (gens r i) top (phi (suc k)) (a.fit (suc k) i (omega arith) (omega arith)) (shifted x (free q k)) (λ t. d q (suc k) (t -ℤ x)) (d-map k h) t v b
      ∙ (extended-same (shifted x (free q k)) (gens r i) top (λ g. d q (suc k) (degree r i g -ℤ x) (phi (suc k) g)) (λ g. op (degree r i g) (image r i g)) (λ g l c. a.commutes k i j h e f g l c) t v b
      ∙ sym (extended-after (free r j) (free_modules_are_modules (gens r j)) (gens r i) top (image r i) fi (shifted x (free q k)) op is_op t v b))

pub chain_maps : LiftsAreChainMaps
chain_maps r q s x z upto top phi images images_q lift = record {
  maps = λ k i h e. IsMap-extended (shifted x (free q k)) (IsSteenrodModule-shifted x (free q k) (free_modules_are_modules (gens q k))) (gens r i) top (phi k) (lift.fit k i h e);
  commutes = λ k i j h e f t v b.
      let P : ℕ → Type 0 = λ i. d q (suc k) (t -ℤ x) (lowered r i q (suc k) x (phi (suc k)) t v) ≡ lowered r j q k x (phi k) t (d r i t v) in
      subst P (sym f) (commutes-with_d r q s x upto top images images_q z phi lift k (suc j) j h e refl t v b);
}

pub canonical_images : CanonicalTablesHaveImages
canonical_images r s t from rows top canonical inside = record {
  widths = λ i j low high e.
      let P : ℕ → Type 0 = λ i. FitThrough (free r j) (gens r i) top (image r i) in
      subst P (sym e) (λ g l b. (AreImages-all r.base s t r.table canonical (suc j) (omega arith)).widths g l);
}

-- the same over canonical tables
module _ (r q : Resolution) (rs rt qs qt : ℕ) (p : IsResolved r rs rt) (o : IsResolved q qs qt)
    (n : ℕ) (x : ℤ) (upto : ℕ) (top : ℤ) (inside : n + upto ≤ rs) (within : upto ≤ qs) where
  pub lift-commutes : (z : ℕ → List Bool) (phi : ℕ → ℕ → List Bool) → IsLift r q n x z upto top phi → (k i j : ℕ) → k < upto → j ≡ n + k → i ≡ suc j → (t : ℤ) (v : List Bool) → t ≤ℤ top → d q (suc k) (t -ℤ x) (lowered r i q (suc k) x (phi (suc k)) t v) ≡ lowered r j q k x (phi k) t (extended (free r j) (gens r i) (image r i) t v)
  lift-commutes = commutes-with_d r q n x upto top (canonical_images r rs rt n upto top p.canonical inside) (canonical_images q qs qt 0 upto (top -ℤ x) o.canonical (omega arith))
