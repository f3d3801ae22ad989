-- A lift over tables is a lift over the tables cut to fewer degrees, as far as these go.
use Rattle.std.proofs.Common.{◌≡◌, ◌-◌, inr, inl, ℕ, zero, suc, ◌+◌, ◌<◌, ◌≤◌, ℤ, pos, ◌+ℤ◌, ◌-ℤ◌, ◌≤ℤ◌, ◌<ℤ◌, Bool, List, [], ◌++◌, length, map, take, drop, refl, ap, sym, subst, ◌∙◌, arith}
use Rattle.std.proofs.lemmas.Int.{ints}
use Rattle.std.proofs.lemmas.Bool.{cases_lt}
use Rattle.std.proofs.lemmas.List.{get_or_append_left, length-append, get_or-append_right}
use Rattle.f2_vec.specs.Spans.{row, combination}
use Rattle.f2_vec.proofs.Combinations.{map_same_all}
use Rattle.free_module.specs.FreeModule.{degree_at, free_basis, free_width}
use Rattle.free_module.specs.FreeBasis.{IsOfDegree}
use Rattle.free_module.specs.Graded.{GradedModule, free_graded}
use Rattle.free_module.proofs.FreeBasis.{All-free_basis}
use Rattle.resolution_laws.specs.Resolution.{Module, Content, degrees_from, images_of, row_of}
use Rattle.resolution_laws.specs.Exactness.{target_of}
use Rattle.resolution_laws.proofs.Rows.{degrees_from-between, degrees_from-split, free_basis-take}
use Rattle.resolution_laws.proofs.Generators.{length-images_of, AgreeIn, AgreeIn-take, images_of-split}
use Rattle.lift_laws.specs.Maps.{shifted, value_of, extended}
use Rattle.lift_laws.specs.Lifts.{Resolution, gens, degree, free, image, d, lowered, IsLift}

pub AgreeIn-shifted : (x t : ℤ) (m n : GradedModule) → AgreeIn (t -ℤ x) m n → AgreeIn t (shifted x m) (shifted x n)
AgreeIn-shifted x t m n a = record { width = a.width; action = λ r u v e. a.action r (u -ℤ x) v (omega (arith, ints)) }

AgreeIn-self : (t : ℤ) (m : GradedModule) → AgreeIn t m m
AgreeIn-self t m = record { width = refl; action = λ r u v e. refl }

-- the same basis, values and module in degree t
pub extended-cut : (m n : GradedModule) (ds es : List ℤ) (f h : ℕ → List Bool) (t : ℤ) (v : List Bool) → AgreeIn t m n → free_basis ds t ≡ free_basis es t → ((g : ℕ) → g < length ds → degree_at ds g ≡ degree_at es g) → ((g : ℕ) → g < length ds → f g ≡ h g) → extended m ds f t v ≡ extended n es h t v
extended-cut m n ds es f h t v a basis degrees values =
    let each : map (value_of m ds f) (free_basis ds t) ≡ map (value_of n es h) (free_basis ds t) = map_same_all (IsOfDegree ds t) (value_of m ds f) (value_of n es h) (free_basis ds t) (All-free_basis ds t) (λ e o.
    a.action e.1 (degree_at ds e.0) (f e.0) o.degree
    ∙ (ap (λ (u : ℤ). n.action e.1 u (f e.0)) (degrees e.0 o.generator) ∙ ap (n.action e.1 (degree_at es e.0)) (values e.0 o.generator))) in
    ap (combination (m.width t) v) (each ∙ ap (map (value_of n es h)) basis) ∙ ap (λ (w : ℕ). combination w v (map (value_of n es h) (free_basis es t))) a.width

module _ (m : Module) (s n : ℕ) (table cut : List (List Content)) (rows : (i : ℕ) → i ≤ s → row_of cut i ≡ take n (row_of table i)) where
  abbrev big : Resolution
  big = record { base = m; table = table }

  abbrev small : Resolution
  small = record { base = m; table = cut }

  gens-cut : (i : ℕ) → i ≤ s → gens small i ≡ degrees_from m.bottom (take n (row_of table i))
  gens-cut i h = ap (degrees_from m.bottom) (rows i h)

  pub gens-split : (i : ℕ) → i ≤ s → gens big i ≡ gens small i ++ degrees_from (m.bottom +ℤ pos n) (drop n (row_of table i))
  gens-split i h = degrees_from-split m.bottom (row_of table i) n ∙ ap (λ (z : List ℤ). z ++ degrees_from (m.bottom +ℤ pos n) (drop n (row_of table i))) (sym (gens-cut i h))

  pub there-cut : (i g : ℕ) → i ≤ s → g < length (gens small i) → g < length (gens big i)
  there-cut i g h l = omega (arith, ap length (gens-split i h), length-append (gens small i) (degrees_from (m.bottom +ℤ pos n) (drop n (row_of table i))))

  -- a generator of a degree that is not cut off is kept
  pub kept-cut : (i g : ℕ) → i ≤ s → g < length (gens big i) → degree big i g <ℤ (m.bottom +ℤ pos n) → g < length (gens small i)
  kept-cut i g h l low = elim (cases_lt g (length (gens small i))) [
    | inl b ↦ b
    | inr b ↦
        let rest = drop n (row_of table i) in
        let later = degrees_from (m.bottom +ℤ pos n) rest in
        let split = gens-split i h in
        let all : length (gens big i) ≡ length (gens small i) + length later = ap length split ∙ length-append (gens small i) later in
        let at : degree big i g ≡ degree_at later (g - length (gens small i)) = ap (λ (z : List ℤ). degree_at z g) split ∙ get_or-append_right (gens small i) later (length (gens small i)) g (pos 0) refl b in
        let high = (degrees_from-between (m.bottom +ℤ pos n) rest (g - length (gens small i)) (omega arith)).from in
        absurd (omega (arith, ints))
  ]

  pub degree-cut : (i g : ℕ) → i ≤ s → g < length (gens small i) → degree small i g ≡ degree big i g
  degree-cut i g h l = sym (ap (λ (z : List ℤ). degree_at z g) (gens-split i h) ∙ get_or_append_left (gens small i) (degrees_from (m.bottom +ℤ pos n) (drop n (row_of table i))) (pos 0) g l)

  pub image-cut : (i g : ℕ) → i ≤ s → g < length (gens small i) → image small i g ≡ image big i g
  image-cut i g h l =
      let squares = row_of table i in
      let parts : images_of squares ≡ images_of (row_of cut i) ++ images_of (drop n squares) = images_of-split squares n ∙ ap (λ (z : List Content). images_of z ++ images_of (drop n squares)) (sym (rows i h)) in
      sym (ap (λ (z : List (List Bool)). row z g) parts ∙ get_or_append_left (images_of (row_of cut i)) (images_of (drop n squares)) [] g (omega (arith, length-images_of m.bottom (row_of cut i))))

  pub basis-cut : (i : ℕ) (t : ℤ) → i ≤ s → t <ℤ (m.bottom +ℤ pos n) → free_basis (gens small i) t ≡ free_basis (gens big i) t
  basis-cut i t h l = ap (λ (z : List ℤ). free_basis z t) (gens-cut i h) ∙ sym (free_basis-take m.bottom (row_of table i) n t l)

  pub agree-cut : (i : ℕ) (t : ℤ) → i ≤ s → t <ℤ (m.bottom +ℤ pos n) → AgreeIn t (free small i) (free big i)
  agree-cut i t h l = subst (λ (z : List ℤ). AgreeIn t (free_graded z) (free big i)) (sym (gens-cut i h)) (AgreeIn-take m.bottom (row_of table i) n t l)

  target-cut : (k : ℕ) (t : ℤ) → k ≤ s → t <ℤ (m.bottom +ℤ pos n) → AgreeIn t (target_of m cut k) (target_of m table k)
  target-cut zero t h l = AgreeIn-self t m.graded
  target-cut (suc k) t h l = agree-cut k t (omega arith) l

  pub d-cut : (k : ℕ) (t : ℤ) (v : List Bool) → k ≤ s → t <ℤ (m.bottom +ℤ pos n) → d small k t v ≡ d big k t v
  d-cut k t v h l = extended-cut (target_of m cut k) (target_of m table k) (gens small k) (gens big k) (image small k) (image big k) t v (target-cut k t h l) (basis-cut k t h l) (λ g b. degree-cut k g h b) (λ g b. image-cut k g h b)

module _ (m w : Module) (rs rn qs qn : ℕ) (rt rc qt qc : List (List Content))
    (r_rows : (i : ℕ) → i ≤ rs → row_of rc i ≡ take rn (row_of rt i)) (q_rows : (i : ℕ) → i ≤ qs → row_of qc i ≡ take qn (row_of qt i)) where
  abbrev r : Resolution
  r = record { base = m; table = rt }

  abbrev r_cut : Resolution
  r_cut = record { base = m; table = rc }

  abbrev q : Resolution
  q = record { base = w; table = qt }

  abbrev q_cut : Resolution
  q_cut = record { base = w; table = qc }

  pub lowered-cut : (i k : ℕ) (x : ℤ) (f : ℕ → List Bool) (t : ℤ) (v : List Bool) → i ≤ rs → k ≤ qs → t <ℤ (m.bottom +ℤ pos rn) → (t -ℤ x) <ℤ (w.bottom +ℤ pos qn) → lowered r_cut i q_cut k x f t v ≡ lowered r i q k x f t v
  lowered-cut i k x f t v h e l b =
      extended-cut (shifted x (free q_cut k)) (shifted x (free q k)) (gens r_cut i) (gens r i) f f t v (AgreeIn-shifted x t (free q_cut k) (free q k) (agree-cut w qs qn qt qc q_rows k (t -ℤ x) e b)) (basis-cut m rs rn rt rc r_rows i t h l) (λ g c. degree-cut m rs rn rt rc r_rows i g h c) (λ g c. refl)

  pub IsLift-cut : (s : ℕ) (x : ℤ) (z : ℕ → List Bool) (upto : ℕ) (top less : ℤ) (phi : ℕ → ℕ → List Bool) → s + upto ≤ rs → upto ≤ qs → less ≤ℤ top → less <ℤ (m.bottom +ℤ pos rn) → (less -ℤ x) <ℤ (w.bottom +ℤ pos qn) → IsLift r q s x z upto top phi → IsLift r_cut q_cut s x z upto less phi
  IsLift-cut s x z upto top less phi inside within low l b a = record {
    fit = λ k i h e g there c.
        let same = degree-cut m rs rn rt rc r_rows i g (omega arith) there in
        a.fit k i h e g (there-cut m rs rn rt rc r_rows i g (omega arith) there) (omega (arith, ints))
        ∙ (ap (λ (u : ℤ). free_width (gens q k) (u -ℤ x)) (sym same)
        ∙ sym (ap length (basis-cut w qs qn qt qc q_rows k (degree r_cut i g -ℤ x) (omega arith) (omega (arith, ints)))));
    start = λ g there c.
        let same = degree-cut m rs rn rt rc r_rows s g (omega arith) there in
        d-cut w qs qn qt qc q_rows 0 (degree r_cut s g -ℤ x) (phi 0 g) (omega arith) (omega (arith, ints))
        ∙ (ap (λ (u : ℤ). d q 0 (u -ℤ x) (phi 0 g)) same
        ∙ a.start g (there-cut m rs rn rt rc r_rows s g (omega arith) there) (omega (arith, ints)));
    commutes = λ k i j h e f g there c.
        let same = degree-cut m rs rn rt rc r_rows i g (omega arith) there in
        let im = image-cut m rs rn rt rc r_rows i g (omega arith) there in
        d-cut w qs qn qt qc q_rows (suc k) (degree r_cut i g -ℤ x) (phi (suc k) g) (omega arith) (omega (arith, ints))
        ∙ (ap (λ (u : ℤ). d q (suc k) (u -ℤ x) (phi (suc k) g)) same
        ∙ (a.commutes k i j h e f g (there-cut m rs rn rt rc r_rows i g (omega arith) there) (omega (arith, ints))
        ∙ (ap (λ (u : ℤ). lowered r j q k x (phi k) u (image r i g)) (sym same)
        ∙ (ap (lowered r j q k x (phi k) (degree r_cut i g)) (sym im)
        ∙ sym (lowered-cut j k x (phi k) (degree r_cut i g) (image r_cut i g) (omega arith) (omega arith) (omega (arith, ints)) (omega (arith, ints)))))));
  }

  -- and back, where the generators that are cut off are of greater degree
  pub IsLift-uncut : (s : ℕ) (x : ℤ) (z : ℕ → List Bool) (upto : ℕ) (top : ℤ) (phi : ℕ → ℕ → List Bool) → s + upto ≤ rs → upto ≤ qs → top <ℤ (m.bottom +ℤ pos rn) → (top -ℤ x) <ℤ (w.bottom +ℤ pos qn) → IsLift r_cut q_cut s x z upto top phi → IsLift r q s x z upto top phi
  IsLift-uncut s x z upto top phi inside within l b a = record {
    fit = λ k i h e g there c.
        let kept = kept-cut m rs rn rt rc r_rows i g (omega arith) there (omega (arith, ints)) in
        let same = degree-cut m rs rn rt rc r_rows i g (omega arith) kept in
        a.fit k i h e g kept (omega (arith, ints))
        ∙ (ap (λ (u : ℤ). free_width (gens q_cut k) (u -ℤ x)) same
        ∙ ap length (basis-cut w qs qn qt qc q_rows k (degree r i g -ℤ x) (omega arith) (omega (arith, ints))));
    start = λ g there c.
        let kept = kept-cut m rs rn rt rc r_rows s g (omega arith) there (omega (arith, ints)) in
        let same = degree-cut m rs rn rt rc r_rows s g (omega arith) kept in
        sym (d-cut w qs qn qt qc q_rows 0 (degree r s g -ℤ x) (phi 0 g) (omega arith) (omega (arith, ints)))
        ∙ (ap (λ (u : ℤ). d q_cut 0 (u -ℤ x) (phi 0 g)) (sym same)
        ∙ a.start g kept (omega (arith, ints)));
    commutes = λ k i j h e f g there c.
        let kept = kept-cut m rs rn rt rc r_rows i g (omega arith) there (omega (arith, ints)) in
        let same = degree-cut m rs rn rt rc r_rows i g (omega arith) kept in
        let im = image-cut m rs rn rt rc r_rows i g (omega arith) kept in
        sym (d-cut w qs qn qt qc q_rows (suc k) (degree r i g -ℤ x) (phi (suc k) g) (omega arith) (omega (arith, ints)))
        ∙ (ap (λ (u : ℤ). d q_cut (suc k) (u -ℤ x) (phi (suc k) g)) (sym same)
        ∙ (a.commutes k i j h e f g kept (omega (arith, ints))
        ∙ (ap (λ (u : ℤ). lowered r_cut j q_cut k x (phi k) u (image r_cut i g)) same
        ∙ (ap (lowered r_cut j q_cut k x (phi k) (degree r i g)) im
        ∙ lowered-cut j k x (phi k) (degree r i g) (image r i g) (omega arith) (omega arith) (omega (arith, ints)) (omega (arith, ints))))));
  }
