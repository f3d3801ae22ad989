-- How a run of calls of a disk goes on.
use Rattle.std.proofs.Common.{◌≡◌, ◌↔◌, inl, inr, ⊎_elim, ℕ, ◌<◌, ◌≤◌, List, Option, None, Some, refl, subst, arith}
use Rattle.std.specs.Prelude.{IfSome}
use Rattle.std.specs.Option.{option_map}
use Rattle.std.proofs.lemmas.Bool.{cases_lt}
use Rattle.edge.specs.Disk.{Elapses, LeavesOnly, Passes, HavePast, Retains, IsTold, AreTold}

-- what the laws of the trait say of its disks
pub record Lawful {D : Type 0} (now : D → Option (List ℕ)) (moment : D → ℕ) (images : D → List ℕ → Type 0) (since : D → ℕ → List ℕ → Type 0) : Type 0 where
  pub now_is_image : (d : D) → IfSome (now d) (λ file. images d file)
  pub counts_now : (d : D) (c : List ℕ) → images d c → since d (moment d) c
  pub only_now : (d : D) (c : List ℕ) → since d (moment d) c → images d c
  pub since_earlier : (d : D) (t u : ℕ) (c : List ℕ) → t ≤ u → since d u c → since d t c

-- what follows of what is told
pub where_told : (o : Option (List ℕ)) (P Q : List ℕ → Type 0) → IfSome o P → ((x : List ℕ) → o ≡ Some x → P x → Q x) → IfSome o Q
where_told None P Q p f = tt
where_told (Some x) P Q p f = f x refl p

pub at_told : (o : Option (List ℕ)) (P : List ℕ → Type 0) (x : List ℕ) → o ≡ Some x → IfSome o P → P x
at_told None P x is p = absurd (cc)
at_told (Some y) P x is p = let same : y ≡ x = cc in subst_told P y x same p
  where
    subst_told : (P : List ℕ → Type 0) (y x : List ℕ) → y ≡ x → P y → P x
    subst_told P y x e p = rw (← e) p

pub is_told : (o : Option (List ℕ)) (P : List ℕ → Type 0) (x : List ℕ) → o ≡ Some x → P x → IsTold o P
is_told None P x is p = absurd (cc)
is_told (Some y) P x is p = let same : y ≡ x = cc in rw same p

pub where_some : (o : Option (List ℕ)) (Q : List ℕ → Type 0) → ((x : List ℕ) → o ≡ Some x → Q x) → IfSome o Q
where_some None Q f = tt
where_some (Some x) Q f = f x refl

-- what is told after a step was told before
pub told_before : (o : Option (List ℕ)) (g : List ℕ → List ℕ) (f : List ℕ) → option_map g o ≡ Some f → (x : List ℕ) × (o ≡ Some x)
told_before None g f is = absurd (cc)
told_before (Some x) g f is = (x, refl)

-- both are told or neither is
pub both_then : (o p : Option (List ℕ)) (R : List ℕ → List ℕ → Type 0) → AreTold R o p → AreTold (λ _ _. Unit {0}) o p
both_then None None R t = tt
both_then None (Some y) R t = t
both_then (Some x) None R t = t
both_then (Some x) (Some y) R t = tt

pub both_mapped : (o p : Option (List ℕ)) (g : List ℕ → List ℕ) → p ≡ option_map g o → AreTold (λ _ _. Unit {0}) o p
both_mapped None None g is = tt
both_mapped None (Some y) g is = absurd (cc)
both_mapped (Some x) None g is = absurd (cc)
both_mapped (Some x) (Some y) g is = tt

pub both_along : (o p q : Option (List ℕ)) → AreTold (λ _ _. Unit {0}) o p → AreTold (λ _ _. Unit {0}) p q → AreTold (λ _ _. Unit {0}) o q
both_along None None q t u = u
both_along None (Some y) q t u = absurd t
both_along (Some x) None q t u = absurd t
both_along (Some x) (Some y) None t u = u
both_along (Some x) (Some y) (Some z) t u = tt

pub both_told : (o p : Option (List ℕ)) (R : List ℕ → List ℕ → Type 0) → AreTold (λ _ _. Unit {0}) o p → ((x y : List ℕ) → o ≡ Some x → p ≡ Some y → R x y) → AreTold R o p
both_told None None R t f = tt
both_told None (Some y) R t f = t
both_told (Some x) None R t f = t
both_told (Some x) (Some y) R t f = f x y refl refl

module _ {D : Type 0} (now : D → Option (List ℕ)) (moment : D → ℕ) (images : D → List ℕ → Type 0) (since : D → ℕ → List ℕ → Type 0) (laws : Lawful now moment images since) where
  -- before the first call
  pub started : (old : D) (P : List ℕ → Type 0) → ((c : List ℕ) → images old c → P c) → LeavesOnly moment since old old P
  started old P here = record { later = omega arith; each = λ c left. here c (laws.only_now old c left); earlier = λ t c le left. inl left; keeps = λ t c le left. left }

  -- one call more, after which a crash leaves what has P
  pub goes_on : (old mid new : D) (P : List ℕ → Type 0) → LeavesOnly moment since old mid P → Elapses (moment mid) (moment new) (since mid) (since new) (images new)
      → ((c : List ℕ) → images new c → P c) → LeavesOnly moment since old new P
  goes_on old mid new P so_far time here =
      let le : moment old ≤ moment new = omega (arith, so_far.later, time.later) in
      record {
        later = le;
        each = λ c left. ⊎_elim (so_far.each c) (here c) (time.nothing_else (moment old) c so_far.later left);
        earlier = λ t c before left. elim (time.nothing_else t c (omega (arith, before, so_far.later)) left) [
          | inl past ↦ ⊎_elim (λ old_past. inl old_past) (λ run. inr (time.keeps (moment old) c so_far.later run)) (so_far.earlier t c before past)
          | inr image ↦ inr (laws.since_earlier new (moment old) (moment new) c le (laws.counts_now new c image))
        ];
        keeps = λ t c before left. time.keeps t c (omega (arith, before, so_far.later)) (so_far.keeps t c before left);
      }

  -- what has P has Q
  pub weaker : (old new : D) (P Q : List ℕ → Type 0) → LeavesOnly moment since old new P → ((c : List ℕ) → P c → Q c) → LeavesOnly moment since old new Q
  weaker old new P Q so_far also = record { later = so_far.later; each = λ c left. also c (so_far.each c left); earlier = so_far.earlier; keeps = so_far.keeps }

  -- one run after another
  pub then_on : (old mid new : D) (P : List ℕ → Type 0) → LeavesOnly moment since old mid P → LeavesOnly moment since mid new P → LeavesOnly moment since old new P
  then_on old mid new P first second =
      let le : moment old ≤ moment new = omega (arith, first.later, second.later) in
      record {
        later = le;
        each = λ c left. ⊎_elim (first.each c) (second.each c) (second.earlier (moment old) c first.later left);
        earlier = λ t c before left. elim (second.earlier t c (omega (arith, before, first.later)) left) [
          | inl past ↦ ⊎_elim (λ old_past. inl old_past) (λ run. inr (second.keeps (moment old) c first.later run)) (first.earlier t c before past)
          | inr run ↦ inr (laws.since_earlier new (moment old) (moment mid) c first.later run)
        ];
        keeps = λ t c before left. second.keeps t c (omega (arith, before, first.later)) (first.keeps t c before left);
      }

-- ---- what is retained

module _ {D : Type 0} (moment : D → ℕ) (at : D → ℕ → List ℕ → Type 0) where
  -- the images at earlier moments, over one run after another
  pub past_then : (old mid new : D) → moment old ≤ moment mid → HavePast moment at old mid → HavePast moment at mid new → HavePast moment at old new
  past_then old mid new later first second t c le =
      let there = second t c (omega (arith, le, later)) in
      let here = first t c le in
      (λ x. here.0 (there.0 x), λ x. there.1 (here.1 x))

  -- before the first call
  pub retains_started : (old : D) (P : List ℕ → Type 0) → Retains moment at old old P
  retains_started old P u v from le within all c image =
      let same : v ≡ u = omega (arith, from, le, within) in
      all c (subst (λ t. at old t c) same image)

  -- one run after another
  pub retains_then : (old mid new : D) (P : List ℕ → Type 0) → HavePast moment at mid new → Retains moment at old mid P → Retains moment at mid new P → Retains moment at old new P
  retains_then old mid new P past first second u v from le within all =
      let early : u ≤ moment mid → (c : List ℕ) → at mid u c → P c = λ l c image. all c ((past u c l).1 image) in
      elim (cases_lt (moment mid) v) [
        | inr before ↦ λ c image. first u v from le before (early (omega (arith, le, before))) c ((past v c before).0 image)
        | inl behind ↦ elim (cases_lt (moment mid) u) [
          | inl after ↦ second u v (omega (arith, after)) le within all
          | inr upto ↦ second (moment mid) v (omega arith) (omega (arith, behind)) within
              (λ c image. first u (moment mid) from upto (omega arith) (early upto) c ((past (moment mid) c (omega arith)).0 image))
        ]
      ]

  -- one call
  pub retains_once : (images : D → List ℕ → Type 0) → ((d : D) (c : List ℕ) → at d (moment d) c ↔ images d c) → (mid new : D) (P : List ℕ → Type 0) → Passes (moment mid) (moment new) (at mid) (at new) (images new) → (((c : List ℕ) → images mid c → P c) → (c : List ℕ) → images new c → P c)
      → Retains moment at mid new P
  retains_once images law mid new P passes step u v from le within all =
      elim (cases_lt (moment mid) v) [
        | inr before ↦ λ c image. let same : v ≡ u = omega (arith, from, le, before) in all c (subst (λ t. at new t c) same image)
        | inl behind ↦ λ c image.
            let now : images new c = (passes.present v c behind within).0 image in
            elim (cases_lt (moment mid) u) [
              | inl after ↦ all c ((passes.present u c after (omega (arith, le, within))).1 now)
              | inr upto ↦
                  let same : moment mid ≡ u = omega (arith, from, upto) in
                  step (λ d held. all d (subst (λ t. at new t d) same ((passes.past (moment mid) d (omega arith)).1 ((law mid d).1 held)))) c now
            ]
      ]

-- two calls, the second of which leaves the images as they are
pub passes_then : (a b c : ℕ) (first second third : ℕ → List ℕ → Type 0) (mid new : List ℕ → Type 0) → a ≤ b → ((x : List ℕ) → new x ↔ mid x) → Passes a b first second mid → Passes b c second third new → Passes a c first third new
passes_then a b c first second third mid new le same p q = record {
  past = λ t x l.
      let there = q.past t x (omega (arith, l, le)) in
      let here = p.past t x l in
      (λ y. here.0 (there.0 y), λ y. there.1 (here.1 y));
  present = λ t x above within. elim (cases_lt b t) [
    | inl behind ↦ q.present t x behind within
    | inr upto ↦
        let there = q.past t x upto in
        let here = p.present t x above upto in
        (λ y. (same x).1 (here.0 (there.0 y)), λ y. there.1 (here.1 ((same x).0 y)))
  ];
}
