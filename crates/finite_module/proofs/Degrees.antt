-- The generators of one degree, and how far apart the degrees are.
use Rattle.std.proofs.Common.{◌≡◌, ◌⊎◌, inl, inr, ℕ, zero, suc, ◌+◌, ◌-◌, ◌<◌, ◌≤◌, ℤ, pos, ◌+ℤ◌, ◌≤ℤ◌, ◌<ℤ◌, Bool, true, false, cond, Some, option_map, List, [], ◌∷◌, ◌++◌, length, take, get_or, refl, sym, subst, ap, ◌∙◌, arith, slice_get, slice_index_or}
use Rattle.std.specs.Prelude.{int_lt, int_le, neg_ℤ}
use Rattle.std.specs.List.Sorted.{IsPartitionPoint, IsPartitionedBy}
use Rattle.std.specs.Ordering.{int_eq}
use Rattle.std.specs.List.{count_by, range_with_len}
use Rattle.std.proofs.lemmas.Int.{ints, by_lt_z}
use Rattle.module_spec.specs.Spec.{Generator, degree_at, no_generator}
use Rattle.std.proofs.lemmas.Bool.Decides.{Decides-int_eq}
use Rattle.std.proofs.lemmas.List.{take_more}
use Rattle.std.proofs.lemmas.List.FromFn.{length-range_with_len, get_or-range_with_len}
use Rattle.f2_vec.specs.Spans.{unit_vector}
use Rattle.std.proofs.lemmas.Option.{slice_get-get_or}
use Rattle.std.proofs.lemmas.List.Sums.{sum_by-cons, count_by-le-length}
use Rattle.std.proofs.lemmas.Bool.{cases_lt}
use Rattle.module_spec.specs.WellFormed.{NeverFall, AreByDegree}
use Rattle.module_spec.specs.declared.limits.TheConstants.{MAX_DEGREE, MAX_SPAN}
use Rattle.finite_module.specs.Module.{numbers_from, generators_in, width, unit, bottom}
use Rattle.finite_module.specs.DerivedAction.{top}

-- ---- the last generator

top_at : (g : Generator) (gs : List Generator) → top (g ∷ gs) ≡ degree_at (g ∷ gs) (length gs)
top_at g [] = refl
top_at g (h ∷ gs) = top_at h gs

pub top_last : (gs : List Generator) (last : ℕ) → suc last ≡ length gs → top gs ≡ degree_at gs last
top_last [] last e = cc
top_last (g ∷ gs) last e =
    let f : last ≡ length gs = omega arith in
    rw f (top_at g gs)

-- how far apart the least and the greatest degree are
pub record AreNear (gs : List Generator) : Type 0 where
  pub lowest : neg_ℤ MAX_DEGREE ≤ℤ bottom gs
  pub above : bottom gs ≤ℤ top gs
  pub near : top gs ≤ℤ (bottom gs +ℤ pos MAX_SPAN)
  pub highest : top gs ≤ℤ MAX_DEGREE

pub are_near : (gs : List Generator) → AreByDegree gs → AreNear gs
are_near [] h = record { lowest = omega (arith, ints); above = omega (arith, ints); near = omega (arith, ints); highest = omega (arith, ints) }
are_near (g ∷ []) h = record { lowest = h.lowest 0 no_generator (omega arith); above = omega (arith, ints); near = omega (arith, ints); highest = h.highest 0 no_generator (omega arith) }
are_near (g ∷ x ∷ gs) h =
    let e : top (x ∷ gs) ≡ degree_at (x ∷ gs) (length gs) = top_at x gs in
    record {
      lowest = h.lowest 0 no_generator (omega arith);
      above = rw e (h.ordered 0 (suc (length gs)) no_generator (omega arith) (omega arith));
      near = rw e (h.span 0 (suc (length gs)) no_generator (omega arith) (omega arith));
      highest = rw e (h.highest (suc (length gs)) no_generator (omega arith));
    }

-- ---- the generators of one degree

pub NeverFall-tail : (g : Generator) (gs : List Generator) → NeverFall (g ∷ gs) → NeverFall gs
NeverFall-tail g gs h i j d l m = h (suc i) (suc j) d (omega arith) (omega arith)

-- whether a generator is of a degree below t, and of degree t
abbrev pub is_below : ℤ → Generator → Bool
is_below t = λ g. int_lt g.degree t

abbrev pub is_in : ℤ → Generator → Bool
is_in t = λ g. int_eq g.degree t

lt_yes : (x y : ℤ) → x <ℤ y → int_lt x y ≡ true
lt_yes x y h = grind (arith, ints)

lt_no : (x y : ℤ) → y ≤ℤ x → int_lt x y ≡ false
lt_no x y h = grind (arith, ints)

pub le_yes : (x y : ℤ) → x ≤ℤ y → int_le x y ≡ true
le_yes x y h = grind (arith, ints)

le_no : (x y : ℤ) → y <ℤ x → int_le x y ≡ false
le_no x y h = grind (arith, ints)

eq_yes : (x y : ℤ) → x ≡ y → int_eq x y ≡ true
eq_yes x y e = (Decides-int_eq x y).1 e

eq_no : (x y : ℤ) → ¬ (x ≡ y) → int_eq x y ≡ false
eq_no x y n = by (int_eq x y) refl where
  by : (b : Bool) → int_eq x y ≡ b → b ≡ false
  by true e = absurd (n ((Decides-int_eq x y).0 e))
  by false e = refl

by_order : (P : Type 0) (x y : ℤ) → (x <ℤ y → P) → (x ≡ y → P) → (y <ℤ x → P) → P
by_order P x y below same above =
    by_lt_z x y below (λ h. by_lt_z y x above (λ k. same (omega (arith, ints))))

count-cons : {X : Type 0} (p : X → Bool) (x : X) (xs : List X) (b : Bool) → p x ≡ b → count_by p (x ∷ xs) ≡ cond b 1 0 + count_by p xs
count-cons p x xs b e =
    sum_by-cons (λ y. cond (p y) 1 0) x xs ∙ ap (λ c. cond c 1 0 + count_by p xs) e

count_none : (p : Generator → Bool) (gs : List Generator) → ((j : ℕ) → j < length gs → p (slice_index_or gs j no_generator) ≡ false) → count_by p gs ≡ 0
count_none p [] h = refl
count_none p (g ∷ gs) h =
    count-cons p g gs false (h 0 (omega arith)) ∙ omega (arith, count_none p gs (λ j l. h (suc j) (omega arith)))

length_numbers : (i : ℕ) (gs : List Generator) (t : ℤ) → length (numbers_from i gs t) ≡ count_by (is_in t) gs
length_numbers i [] t = refl
length_numbers i (g ∷ gs) t = by (int_eq g.degree t) refl (length_numbers (suc i) gs t) where
  by : (b : Bool) → int_eq g.degree t ≡ b → length (numbers_from (suc i) gs t) ≡ count_by (is_in t) gs → length (cond b (i ∷ numbers_from (suc i) gs t) (numbers_from (suc i) gs t)) ≡ count_by (is_in t) (g ∷ gs)
  by true e later = omega (arith, count-cons (is_in t) g gs true e)
  by false e later = omega (arith, count-cons (is_in t) g gs false e)

pub width_is : (gs : List Generator) (t : ℤ) → width gs t ≡ count_by (is_in t) gs
width_is gs t = length_numbers 0 gs t

-- no generator of a degree above the greatest
pub width_past : (gs : List Generator) (t : ℤ) → AreByDegree gs → MAX_DEGREE <ℤ t → width gs t ≡ 0
width_past gs t h l =
    width_is gs t ∙ count_none (is_in t) gs (λ j m. let k : degree_at gs j ≤ℤ MAX_DEGREE = h.highest j no_generator m in eq_no (degree_at gs j) t (λ e. omega (arith, ints)))

range_same : (a b m n : ℕ) → a ≡ b → m ≡ n → range_with_len a m ≡ range_with_len b n
range_same a b m n e f = cc

-- those of degree t stand behind those of lower degrees
numbers_from_are : (i : ℕ) (gs : List Generator) (t : ℤ) → NeverFall gs → numbers_from i gs t ≡ range_with_len (i + count_by (is_below t) gs) (count_by (is_in t) gs)
numbers_from_are i [] t h = refl
numbers_from_are i (g ∷ gs) t h =
    let later = numbers_from_are (suc i) gs t (NeverFall-tail g gs h) in
    let rest = numbers_from (suc i) gs t in
    let pick = λ (b : Bool). cond b (i ∷ rest) rest in
    by_order (numbers_from i (g ∷ gs) t ≡ range_with_len (i + count_by (is_below t) (g ∷ gs)) (count_by (is_in t) (g ∷ gs))) g.degree t
    (λ l.
    let no : int_eq g.degree t ≡ false = eq_no g.degree t (λ e. omega (arith, ints)) in
    let a : count_by (is_below t) (g ∷ gs) ≡ 1 + count_by (is_below t) gs = count-cons (is_below t) g gs true (lt_yes g.degree t l) in
    let b : count_by (is_in t) (g ∷ gs) ≡ 0 + count_by (is_in t) gs = count-cons (is_in t) g gs false no in
    ap pick no ∙ later ∙ range_same _ _ _ _ (omega arith) (omega arith))
    (λ s.
    let yes : int_eq g.degree t ≡ true = eq_yes g.degree t s in
    let none : count_by (is_below t) gs ≡ 0 = count_none (is_below t) gs (λ j m. let k : g.degree ≤ℤ degree_at gs j = h 0 (suc j) no_generator (omega arith) (omega arith) in lt_no (degree_at gs j) t (omega (arith, ints))) in
    let a : count_by (is_below t) (g ∷ gs) ≡ 0 + count_by (is_below t) gs = count-cons (is_below t) g gs false (lt_no g.degree t (omega (arith, ints))) in
    let b : count_by (is_in t) (g ∷ gs) ≡ suc (count_by (is_in t) gs) = count-cons (is_in t) g gs true yes ∙ omega arith in
    let here : i + count_by (is_below t) (g ∷ gs) ≡ i = omega arith in
    ap pick yes ∙ ap (λ xs. i ∷ xs) (later ∙ range_same _ (i + 1) _ _ (omega arith) refl) ∙ sym (range_same _ _ _ _ here b))
    (λ l.
    let no : int_eq g.degree t ≡ false = eq_no g.degree t (λ e. omega (arith, ints)) in
    let none : count_by (is_in t) gs ≡ 0 = count_none (is_in t) gs (λ j m. let k : g.degree ≤ℤ degree_at gs j = h 0 (suc j) no_generator (omega arith) (omega arith) in eq_no (degree_at gs j) t (λ e. omega (arith, ints))) in
    let b : count_by (is_in t) (g ∷ gs) ≡ 0 = count-cons (is_in t) g gs false no ∙ omega arith in
    ap pick no ∙ later ∙ range_same _ (suc i + count_by (is_below t) gs) _ 0 refl none ∙ sym (range_same _ (i + count_by (is_below t) (g ∷ gs)) _ 0 refl b))

-- ---- searched by halves

-- where a test passes up to i and fails from there on, i generators pass it
pub count_by-point : (p : Generator → Bool) (gs : List Generator) (i : ℕ) → i ≤ length gs → IsPartitionPoint (λ g. p g ≡ true) (λ g. p g ≡ false) gs i → i ≡ count_by p gs
count_by-point p [] i l h = omega arith
count_by-point p (g ∷ gs) zero l h = sym (count_none p (g ∷ gs) (λ j m. h.1 j no_generator (omega arith) m))
count_by-point p (g ∷ gs) (suc i) l h =
    let later = count_by-point p gs i (omega arith) ((λ k d m n. h.0 (suc k) d (omega arith) (omega arith)), (λ k d m n. h.1 (suc k) d (omega arith) (omega arith))) in
    omega (arith, count-cons p g gs true (h.0 0 no_generator (omega arith) (omega arith)))

never_falls : (gs : List Generator) (i j : ℕ) (d : Generator) → NeverFall gs → i ≤ j → j < length gs → (slice_index_or gs i d).degree ≤ℤ (slice_index_or gs j d).degree
never_falls gs i j d h l m = by (cases_lt i j) where
  by : (i < j) ⊎ (j ≤ i) → (slice_index_or gs i d).degree ≤ℤ (slice_index_or gs j d).degree
  by (inl k) = h i j d k m
  by (inr k) = let e : i ≡ j = omega arith in rw e (omega (arith, ints))

-- whether a generator is of a degree of at most t
abbrev pub is_upto : ℤ → Generator → Bool
is_upto t = λ g. int_le g.degree t

below_back : (t x y : ℤ) → x ≤ℤ y → int_lt y t ≡ true → int_lt x t ≡ true
below_back t x y l e = grind (arith, ints)

upto_back : (t x y : ℤ) → x ≤ℤ y → int_le y t ≡ true → int_le x t ≡ true
upto_back t x y l e = grind (arith, ints)

pub below_is_partitioned : (gs : List Generator) (t : ℤ) → NeverFall gs → IsPartitionedBy (is_below t) gs
below_is_partitioned gs t h i j d l m e = below_back t _ _ (never_falls gs i j d h l m) e

pub upto_is_partitioned : (gs : List Generator) (t : ℤ) → NeverFall gs → IsPartitionedBy (is_upto t) gs
upto_is_partitioned gs t h i j d l m e = upto_back t _ _ (never_falls gs i j d h l m) e

-- those of a degree of at most t are those below t and those in t
count_upto : (gs : List Generator) (t : ℤ) → count_by (is_upto t) gs ≡ count_by (is_below t) gs + count_by (is_in t) gs
count_upto [] t = refl
count_upto (g ∷ gs) t =
    let later = count_upto gs t in
    by_order (count_by (is_upto t) (g ∷ gs) ≡ count_by (is_below t) (g ∷ gs) + count_by (is_in t) (g ∷ gs)) g.degree t
    (λ l. omega (arith, count-cons (is_upto t) g gs true (le_yes g.degree t (omega (arith, ints))), count-cons (is_below t) g gs true (lt_yes g.degree t l), count-cons (is_in t) g gs false (eq_no g.degree t (λ e. omega (arith, ints)))))
    (λ s. omega (arith, count-cons (is_upto t) g gs true (le_yes g.degree t (omega (arith, ints))), count-cons (is_below t) g gs false (lt_no g.degree t (omega (arith, ints))), count-cons (is_in t) g gs true (eq_yes g.degree t s)))
    (λ l. omega (arith, count-cons (is_upto t) g gs false (le_no g.degree t l), count-cons (is_below t) g gs false (lt_no g.degree t (omega (arith, ints))), count-cons (is_in t) g gs false (eq_no g.degree t (λ e. omega (arith, ints)))))

-- the numbers of the generators of degree t, from where those below end to where those of at most t end
pub record AreBetween (gs : List Generator) (t : ℤ) (start end : ℕ) : Type 0 where
  pub numbers : generators_in gs t ≡ range_with_len start (end - start)
  pub in_order : start ≤ end
  pub within : end ≤ length gs

pub are_between : (gs : List Generator) (t : ℤ) (start end : ℕ) → AreByDegree gs → start ≡ count_by (is_below t) gs → end ≡ count_by (is_upto t) gs → AreBetween gs t start end
are_between gs t start end h a b =
    let upto = count_upto gs t in
    record {
      numbers = numbers_from_are 0 gs t h.ordered ∙ range_same _ _ _ _ (omega arith) (omega arith);
      in_order = omega arith;
      within = omega (arith, count_by-le-length (is_upto t) gs);
    }

-- generator i is one of those of its degree, behind those before it
module _ (t : ℤ) where
  located : (j : ℕ) (gs : List Generator) (i : ℕ) → i < length gs → degree_at gs i ≡ t → (length (numbers_from j (take i gs) t) < length (numbers_from j gs t)) × (get_or (numbers_from j gs t) (length (numbers_from j (take i gs) t)) 0 ≡ j + i)
  located j [] i l e = absurd (omega arith)
  located j (g ∷ gs) zero l e =
      let rest = numbers_from (suc j) gs t in
      subst (λ b. (0 < length (cond b (j ∷ rest) rest)) × (get_or (cond b (j ∷ rest) rest) 0 0 ≡ j + 0)) (sym (eq_yes g.degree t e)) (omega arith, omega arith)
  located j (g ∷ gs) (suc i) l e = by (int_eq g.degree t) (located (suc j) gs i (omega arith) e)
    where
      earlier : List ℕ
      earlier = numbers_from (suc j) (take i gs) t

      all : List ℕ
      all = numbers_from (suc j) gs t

      by : (b : Bool) → (length earlier < length all) × (get_or all (length earlier) 0 ≡ suc j + i) → (length (cond b (j ∷ earlier) earlier) < length (cond b (j ∷ all) all)) × (get_or (cond b (j ∷ all) all) (length (cond b (j ∷ earlier) earlier)) 0 ≡ j + suc i)
      by true (within, at) = (omega arith, at ∙ omega arith)
      by false (within, at) = (omega arith, at ∙ omega arith)

-- its place among them, where they are a range
pub record IsPlaced (gs : List Generator) (i start n : ℕ) : Type 0 where
  pub behind : start ≤ i
  pub within : i - start < n
  pub vector : unit_vector n (i - start) ≡ unit gs i

pub placed : (gs : List Generator) (i start n : ℕ) → i < length gs → generators_in gs (degree_at gs i) ≡ range_with_len start n → IsPlaced gs i start n
placed gs i start n l numbers =
    let t : ℤ = degree_at gs i in
    let at : ℕ = width (take i gs) t in
    let here = located t 0 gs i l refl in
    let wide : width gs t ≡ n = ap length numbers ∙ length-range_with_len start n in
    let number : start + at ≡ i = sym (get_or-range_with_len start n at 0 (omega (arith, here.0))) ∙ ap (λ ns. get_or ns at 0) (sym numbers) ∙ here.1 ∙ omega arith in
    let place : i - start ≡ at = omega arith in
    record {
      behind = omega arith;
      within = omega (arith, here.0);
      vector = ap (unit_vector n) place ∙ ap (λ m. unit_vector m at) (sym wide);
    }

-- ---- what a module file gives

-- one more generator of the file
pub one_more : (gs xs ys : List Generator) (i : ℕ) (name name' : List ℕ) (degree degree' : ℤ) → xs ≡ take i gs → i < length gs → option_map (λ g. g.name) (slice_get gs i) ≡ Some name → option_map (λ g. g.degree) (slice_get gs i) ≡ Some degree → name' ≡ name → degree' ≡ degree → ys ≡ xs ++ record { name = name'; degree = degree' } ∷ []
    → ys ≡ take (i + 1) gs
one_more gs xs ys i name name' degree degree' before within named placed e f pushed =
    let here = slice_index_or gs i no_generator in
    let found : slice_get gs i ≡ Some here = slice_get-get_or gs i no_generator within in
    let a : Some here.name ≡ Some name = sym (ap (option_map (λ g. g.name)) found) ∙ named in
    let b : Some here.degree ≡ Some degree = sym (ap (option_map (λ g. g.degree)) found) ∙ placed in
    let made : record { name = name'; degree = degree' } ≡ record { name = here.name; degree = here.degree } = cc in
    pushed ∙ ap (λ zs. zs ++ record { name = name'; degree = degree' } ∷ []) before ∙ ap (λ g. take i gs ++ g ∷ []) made ∙ sym (take_more gs i no_generator within)
