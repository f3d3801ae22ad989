-- A stable sort by a degree gives the list in the order of that degree.
use Rattle.std.specs.Prelude.{◌≡◌, ◌≢◌, ℕ, suc, ◌<◌, ◌≤◌, ℤ, ◌≤ℤ◌, ◌<ℤ◌, int_le, Bool, true, false, not, ◌&&◌, cond, List, [], ◌∷◌, length, filter, slice_index_or}
use Rattle.std.specs.Bool.{MatchBool}
use Rattle.std.specs.List.{All, AllByRecursion, AllPairs}
use Rattle.std.specs.List.Sorted.{ties, IsSortedBy, IsStableBy}
use Rattle.std.specs.Ordering.{is_lt, int_cmp, MatchOrdering}
use Rattle.std.specs.Cmp.{int_ranks}
use Rattle.std.proofs.Common.{Ordering, Less, Equal, Greater, if◌then◌else◌, sym, ap, ◌∙◌, arith, refl, subst}
use Rattle.std.proofs.lemmas.Bool.{false≢true}
use Rattle.std.proofs.lemmas.Cmp.{int_cmp_total}
use Rattle.std.proofs.lemmas.Int.{ints}
use Rattle.std.proofs.lemmas.List.Elements.{recursion_from_All, All-from_recursion, All-from_get_or, All-head}
use Rattle.std.proofs.lemmas.List.Kept.{AllPairs-cons}
use Rattle.std.proofs.lemmas.List.Sorted.{sorted_far, ranks_by}
use Rattle.module_spec.specs.Sorting.{inserted, sorted_by}

pub AllPairs-tail : {X : Type 0} → (R : X → X → Type 0) (x : X) (xs : List X) → AllPairs R (x ∷ xs) → AllPairs R xs
AllPairs-tail R x xs h i j d l m = h (suc i) (suc j) d (omega arith) (omega arith)

pub AllPairs-head : {X : Type 0} → (R : X → X → Type 0) (x : X) (xs : List X) → AllPairs R (x ∷ xs) → All (R x) xs
AllPairs-head R x xs h = All-from_get_or (R x) xs x (λ i l. h 0 (suc i) x (omega arith) (omega arith))

pub AllPairs-nil : {X : Type 0} → (R : X → X → Type 0) → AllPairs R []
AllPairs-nil R i j d l m = absurd (omega arith)

-- R holds of each and each later one
abbrev pub EachPair : {X : Type 0} → (X → X → Type 0) → List X → Type 0
EachPair R [] = Unit {0}
EachPair R (x ∷ xs) = AllByRecursion (R x) xs × EachPair R xs

pub EachPair-by_place : {X : Type 0} → (R : X → X → Type 0) (xs : List X) → EachPair R xs → AllPairs R xs
EachPair-by_place R [] h = AllPairs-nil R
EachPair-by_place R (x ∷ xs) h = AllPairs-cons R x xs (All-from_recursion (R x) xs h.0) (EachPair-by_place R xs h.1)

module _ {X : Type 0} (degree : X → ℤ) where
  abbrev pub lower : X → X → Bool
  lower g h = is_lt (int_cmp (degree g) (degree h))

  -- of one degree
  abbrev level : X → X → Bool
  level = ties lower

  lower_by : (x y : ℤ) (o : Ordering) → MatchOrdering o (x <ℤ y) (x ≡ y) (y <ℤ x) → MatchBool (is_lt o) (x <ℤ y) (y ≤ℤ x)
  lower_by x y Less h = h
  lower_by x y Equal h = omega (arith, ints, h)
  lower_by x y Greater h = omega (arith, ints, h)

  lower_tells : (g h : X) → MatchBool (lower g h) ((degree g) <ℤ (degree h)) ((degree h) ≤ℤ (degree g))
  lower_tells g h = lower_by (degree g) (degree h) (int_cmp (degree g) (degree h)) (int_ranks (degree g) (degree h))

  level_by : (x y : ℤ) (a b : Bool) → MatchBool a (x <ℤ y) (y ≤ℤ x) → MatchBool b (y <ℤ x) (x ≤ℤ y) → MatchBool (not a && not b) (x ≡ y) (x ≢ y)
  level_by x y true b h i = λ e. omega (arith, ints, h, e)
  level_by x y false true h i = λ e. omega (arith, ints, i, e)
  level_by x y false false h i = omega (arith, ints, h, i)

  level_tells : (g h : X) → MatchBool (level g h) ((degree g) ≡ (degree h)) ((degree g) ≢ (degree h))
  level_tells g h = level_by (degree g) (degree h) (lower g h) (lower h g) (lower_tells g h) (lower_tells h g)

  level_itself : (g : X) → level g g ≡ true
  level_itself g = by (level g g) (level_tells g g)
    where
      by : (b : Bool) → MatchBool b ((degree g) ≡ (degree g)) ((degree g) ≢ (degree g)) → b ≡ true
      by true h = refl
      by false h = absurd (h refl)

  -- ---- degrees that do not fall

  abbrev pub Rises : List X → Type 0
  Rises = EachPair (λ g h. (degree g) ≤ℤ (degree h))

  Rises-by_index : (gs : List X) → ((i j : ℕ) (d : X) → i ≤ j → j < length gs → degree (slice_index_or gs i d) ≤ℤ degree (slice_index_or gs j d)) → Rises gs
  Rises-by_index [] h = tt
  Rises-by_index (g ∷ gs) h = (recursion_from_All (λ k. (degree g) ≤ℤ (degree k)) gs (λ k d l. h 0 (suc k) d (omega arith) (omega (arith, l))), Rises-by_index gs (λ i j d l m. h (suc i) (suc j) d (omega (arith, l)) (omega (arith, m))))

  not_lower : (g h : X) → lower h g ≡ false → (degree g) ≤ℤ (degree h)
  not_lower g h e = by (lower h g) e (lower_tells h g)
    where
      by : (b : Bool) → b ≡ false → MatchBool b ((degree h) <ℤ (degree g)) ((degree g) ≤ℤ (degree h)) → (degree g) ≤ℤ (degree h)
      by true f k = absurd (false≢true (sym f))
      by false f k = k

  Rises-from_sorted : (gs : List X) → IsSortedBy lower gs → Rises gs
  Rises-from_sorted gs up = Rises-by_index gs (λ i j d l m. not_lower (slice_index_or gs i d) (slice_index_or gs j d) (sorted_far lower (ranks_by int_cmp_total degree) gs up i j d l m))

  pub All-inserted : (P : X → Type 0) (g : X) (hs : List X) → P g → AllByRecursion P hs → AllByRecursion P (inserted degree g hs)
  All-inserted P g [] p q = (p, tt)
  All-inserted P g (h ∷ hs) p q = by (int_le (degree g) (degree h)) (All-inserted P g hs p q.1)
    where
      by : (b : Bool) → AllByRecursion P (inserted degree g hs) → AllByRecursion P (cond b (g ∷ h ∷ hs) (h ∷ inserted degree g hs))
      by true later = (p, q)
      by false later = (q.0, later)

  All-weaker : (P Q : X → Type 0) (gs : List X) → ((g : X) → P g → Q g) → AllByRecursion P gs → AllByRecursion Q gs
  All-weaker P Q [] f h = tt
  All-weaker P Q (g ∷ gs) f h = (f g h.0, All-weaker P Q gs f h.1)

  le_tells : (y z : ℤ) → MatchBool (int_le y z) (y ≤ℤ z) (z ≤ℤ y)
  le_tells y z = by (int_le y z) refl
    where
      by : (b : Bool) → int_le y z ≡ b → MatchBool b (y ≤ℤ z) (z ≤ℤ y)
      by true e = grind (arith, ints)
      by false e = grind (arith, ints)

  Rises-inserted : (g : X) (hs : List X) → Rises hs → Rises (inserted degree g hs)
  Rises-inserted g [] r = (tt, tt)
  Rises-inserted g (h ∷ hs) r = by (int_le (degree g) (degree h)) (le_tells (degree g) (degree h)) (Rises-inserted g hs r.1)
    where
      by : (b : Bool) → MatchBool b ((degree g) ≤ℤ (degree h)) ((degree h) ≤ℤ (degree g)) → Rises (inserted degree g hs) → Rises (cond b (g ∷ h ∷ hs) (h ∷ inserted degree g hs))
      by true le later = ((le, All-weaker (λ k. (degree h) ≤ℤ (degree k)) (λ k. (degree g) ≤ℤ (degree k)) hs (λ k l. omega (arith, ints, le, l)) r.0), r)
      by false le later = (All-inserted (λ k. (degree h) ≤ℤ (degree k)) g hs le r.0, later)

  pub Rises-sorted_by : (gs : List X) → Rises (sorted_by degree gs)
  Rises-sorted_by [] = tt
  Rises-sorted_by (g ∷ gs) = Rises-inserted g (sorted_by degree gs) (Rises-sorted_by gs)

  pub All-sorted_by : (P : X → Type 0) (gs : List X) → AllByRecursion P gs → AllByRecursion P (sorted_by degree gs)
  All-sorted_by P [] h = tt
  All-sorted_by P (g ∷ gs) h = All-inserted P g (sorted_by degree gs) h.0 (All-sorted_by P gs h.1)

  -- ---- those of one degree keep their order

  -- two of which at most one passes may change places
  exchanged : (a b : Bool) (g h : X) (rest : List X) → (a && b) ≡ false → cond b (h ∷ cond a (g ∷ rest) rest) (cond a (g ∷ rest) rest) ≡ cond a (g ∷ cond b (h ∷ rest) rest) (cond b (h ∷ rest) rest)
  exchanged true true g h rest e = absurd (false≢true (sym e))
  exchanged true false g h rest e = refl
  exchanged false true g h rest e = refl
  exchanged false false g h rest e = refl

  apart : (x g h : X) → int_le (degree g) (degree h) ≡ false → (level x g && level x h) ≡ false
  apart x g h e = by (level x g) (level x h) (level_tells x g) (level_tells x h)
    where
      by : (a b : Bool) → MatchBool a ((degree x) ≡ (degree g)) ((degree x) ≢ (degree g)) → MatchBool b ((degree x) ≡ (degree h)) ((degree x) ≢ (degree h)) → (a && b) ≡ false
      by true true p q = absurd (false≢true (sym e ∙ grind (arith, ints)))
      by true false p q = refl
      by false b p q = refl

  filter-inserted : (x g : X) (hs : List X) → filter (level x) (inserted degree g hs) ≡ filter (level x) (g ∷ hs)
  filter-inserted x g [] = refl
  filter-inserted x g (h ∷ hs) = by (int_le (degree g) (degree h)) refl (filter-inserted x g hs)
    where
      by : (b : Bool) → int_le (degree g) (degree h) ≡ b → filter (level x) (inserted degree g hs) ≡ filter (level x) (g ∷ hs) → filter (level x) (cond b (g ∷ h ∷ hs) (h ∷ inserted degree g hs)) ≡ filter (level x) (g ∷ h ∷ hs)
      by true e later = refl
      by false e later = rw later (exchanged (level x g) (level x h) g h (filter (level x) hs) (apart x g h e))

  filter-cons : (x g : X) (gs hs : List X) → filter (level x) gs ≡ filter (level x) hs → filter (level x) (g ∷ gs) ≡ filter (level x) (g ∷ hs)
  filter-cons x g gs hs e = rw e

  filter-sorted_by : (x : X) (gs : List X) → filter (level x) (sorted_by degree gs) ≡ filter (level x) gs
  filter-sorted_by x [] = refl
  filter-sorted_by x (g ∷ gs) = filter-inserted x g (sorted_by degree gs) ∙ filter-cons x g (sorted_by degree gs) gs (filter-sorted_by x gs)

  -- ---- and there is but one such list

  -- the first one that passes has what all have
  first_has : (P : X → Type 0) (p : X → Bool) (x : X) (gs rest : List X) → filter p gs ≡ x ∷ rest → AllByRecursion P gs → P x
  first_has P p x [] rest e h = cc
  first_has P p x (g ∷ gs) rest e h = by (p g) refl (first_has P p x gs rest)
    where
      by : (b : Bool) → p g ≡ b → (filter p gs ≡ x ∷ rest → AllByRecursion P gs → P x) → P x
      by true is later = let same : g ≡ x = cc in subst P same h.0
      by false is later = later (rw is at e) h.1

  -- the heads of two such lists are of one degree
  head_below : (x : X) (xs : List X) (y : X) (ys : List X) → Rises (y ∷ ys) → filter (level x) (y ∷ ys) ≡ filter (level x) (x ∷ xs) → (degree y) ≤ℤ (degree x)
  head_below x xs y ys r e =
      let here : filter (level x) (x ∷ xs) ≡ x ∷ filter (level x) xs = rw (level_itself x) in
      first_has (λ k. (degree y) ≤ℤ (degree k)) (level x) x (y ∷ ys) (filter (level x) xs) (e ∙ here) (omega (arith, ints), r.0)

  level_heads : (x : X) (xs : List X) (y : X) (ys : List X) → Rises (x ∷ xs) → Rises (y ∷ ys) → ((z : X) → filter (level z) (x ∷ xs) ≡ filter (level z) (y ∷ ys)) → level x y ≡ true
  level_heads x xs y ys rx ry same = by (level x y) (level_tells x y)
    where
      by : (b : Bool) → MatchBool b ((degree x) ≡ (degree y)) ((degree x) ≢ (degree y)) → b ≡ true
      by true h = refl
      by false h =
          let one : (degree y) ≤ℤ (degree x) = head_below x xs y ys ry (sym (same x)) in
          let two : (degree x) ≤ℤ (degree y) = head_below y ys x xs rx (same y) in
          absurd (h (omega (arith, ints, one, two)))

  same_heads : (x : X) (xs : List X) (y : X) (ys : List X) → level x y ≡ true → filter (level x) (x ∷ xs) ≡ filter (level x) (y ∷ ys) → x ≡ y
  same_heads x xs y ys is e =
      let one : filter (level x) (x ∷ xs) ≡ x ∷ filter (level x) xs = rw (level_itself x) in
      let two : filter (level x) (y ∷ ys) ≡ y ∷ filter (level x) ys = rw is in
      cc

  same_tails : (z x : X) (xs ys : List X) → filter (level z) (x ∷ xs) ≡ filter (level z) (x ∷ ys) → filter (level z) xs ≡ filter (level z) ys
  same_tails z x xs ys e = by (level z x) refl
    where
      by : (b : Bool) → level z x ≡ b → filter (level z) xs ≡ filter (level z) ys
      by true is = let both : x ∷ filter (level z) xs ≡ x ∷ filter (level z) ys = rw is at e in cc
      by false is = rw is at e

  unique : (xs ys : List X) → Rises xs → Rises ys → ((z : X) → filter (level z) xs ≡ filter (level z) ys) → xs ≡ ys
  unique [] [] rx ry same = refl
  unique [] (y ∷ ys) rx ry same = let here : filter (level y) (y ∷ ys) ≡ y ∷ filter (level y) ys = rw (level_itself y) in absurd (cc (same y))
  unique (x ∷ xs) [] rx ry same = let here : filter (level x) (x ∷ xs) ≡ x ∷ filter (level x) xs = rw (level_itself x) in absurd (cc (same x))
  unique (x ∷ xs) (y ∷ ys) rx ry same =
      let head : x ≡ y = same_heads x xs y ys (level_heads x xs y ys rx ry same) (same x) in
      let tails = λ (z : X). same_tails z x xs ys (rw (sym head) at (same z)) in
      let tail : xs ≡ ys = unique xs ys rx.1 ry.1 tails in
      cc

  -- what a stable sort by degree makes of a list
  pub stable_sort : (gs hs : List X) → IsSortedBy lower hs → IsStableBy lower gs hs → hs ≡ sorted_by degree gs
  stable_sort gs hs up stable = unique hs (sorted_by degree gs) (Rises-from_sorted hs up) (Rises-sorted_by gs) (λ z. stable z ∙ sym (filter-sorted_by z gs))

  -- in the order of degree
  abbrev pub IsRising : List X → Type 0
  IsRising = AllPairs (λ x y. degree x ≤ℤ degree y)

  pub sorted_by_rises : (xs : List X) → IsRising (sorted_by degree xs)
  sorted_by_rises xs = EachPair-by_place (λ x y. degree x ≤ℤ degree y) (sorted_by degree xs) (Rises-sorted_by xs)

  length-inserted : (x : X) (ys : List X) → length (inserted degree x ys) ≡ suc (length ys)
  length-inserted x [] = refl
  length-inserted x (y ∷ ys) = at (int_le (degree x) (degree y)) (length-inserted x ys)
    where
      at : (b : Bool) → length (inserted degree x ys) ≡ suc (length ys) → length (if b then x ∷ y ∷ ys else y ∷ inserted degree x ys) ≡ suc (suc (length ys))
      at true e = refl
      at false e = ap suc e

  pub length-sorted_by : (xs : List X) → length (sorted_by degree xs) ≡ length xs
  length-sorted_by [] = refl
  length-sorted_by (x ∷ xs) = length-inserted x (sorted_by degree xs) ∙ ap suc (length-sorted_by xs)

  -- what rises stays
  inserted-first : (x : X) (ys : List X) → All (λ y. degree x ≤ℤ degree y) ys → inserted degree x ys ≡ x ∷ ys
  inserted-first x [] h = refl
  inserted-first x (y ∷ ys) h = let l : degree x ≤ℤ degree y = All-head (λ y. degree x ≤ℤ degree y) y ys h in let e : int_le (degree x) (degree y) ≡ true = grind (arith, ints) in ap (λ b. if b then x ∷ y ∷ ys else y ∷ inserted degree x ys) e

  pub sorted_by-rising : (xs : List X) → IsRising xs → sorted_by degree xs ≡ xs
  sorted_by-rising [] h = refl
  sorted_by-rising (x ∷ xs) h = ap (inserted degree x) (sorted_by-rising xs (AllPairs-tail (λ y z. degree y ≤ℤ degree z) x xs h)) ∙ inserted-first x xs (AllPairs-head (λ y z. degree y ≤ℤ degree z) x xs h)
