-- Which limit a basis passes, case by case, and what holds where it passes none.
use Rattle.std.specs.List.{All, AllPairs, list_all}
use Rattle.std.proofs.Common.{◌≡◌, ◌≢◌, ℕ, zero, suc, ◌<◌, ◌≤◌, ℤ, pos, neg_ℤ, ◌+ℤ◌, ◌≤ℤ◌, int_le, nat_le, Bool, true, false, ◌&&◌, if◌then◌else◌, List, [], ◌∷◌, ◌+◌, ◌++◌, length, map, take, get_or, None, Some, Option, refl, ap, sym, subst, ◌∙◌, arith}
use Rattle.std.specs.Option.{option_or}
use Rattle.std.proofs.lemmas.Bool.{and_parts, le-leb}
use Rattle.std.proofs.lemmas.Int.{ints}
use Rattle.std.proofs.lemmas.List.{length-map, get_or-map, take_more, length-take-le}
use Rattle.std.proofs.lemmas.List.Folds.{list_all-map}
use Rattle.module_spec.specs.Spec.{Generator, no_generator, by_degree, within_limit, is_near}
use Rattle.module_spec.proofs.Sorting.{sorted_by-rising}
use Rattle.module_spec.specs.WellFormed.{NeverFall, AreByDegree}
use Rattle.module_spec.specs.declared.limits.TheConstants.{MAX_GENERATORS, MAX_DEGREE, MAX_SPAN}
use Rattle.module_json.specs.declared.malformed.What.{What}
use Rattle.module_json.specs.declared.malformed.What.TheVariants.{Gens, Degree, Span}
use Rattle.finite_module.proofs.Degrees.{NeverFall-tail}
use Rattle.built_laws.specs.Constructed.{generators_from}
use Rattle.module_build.specs.Names.{numbered_name}
use Rattle.module_build.specs.Limits.{are_near, unless, limit_of}
use Rattle.module_build.specs.declared.fault.BuildFault.{BuildFault}
use Rattle.module_build.specs.declared.fault.BuildFault.TheVariants.{Limit}
use Rattle.module_build.specs.declared.order.Placed.{Placed}
use Rattle.module_build.specs.Inside.Construction.{nowhere, degrees_of, generators_of}

-- ---- the cases

abbrev pub within_of : List Placed → Bool
within_of ps = list_all (λ p. within_limit p.degree) ps

abbrev pub near_of : List Placed → Bool
near_of ps = list_all (λ p. list_all (λ q. is_near p.degree q.degree) ps) ps

near_is : (ps : List Placed) → are_near (degrees_of ps) ≡ near_of ps
near_is ps =
    list_all-map (λ d. list_all (λ e. is_near d e) (degrees_of ps)) (λ p. p.degree) ps
    ∙ same ps
  where
    same : (qs : List Placed) → list_all (λ p. list_all (λ e. is_near p.degree e) (degrees_of ps)) qs ≡ list_all (λ p. list_all (λ q. is_near p.degree q.degree) ps) qs
    same [] = refl
    same (q ∷ qs) = ap (λ b. b && list_all (λ p. list_all (λ e. is_near p.degree e) (degrees_of ps)) qs) (list_all-map (λ e. is_near q.degree e) (λ p. p.degree) ps) ∙ ap (λ b. list_all (λ r. is_near q.degree r.degree) ps && b) (same qs)

few : (ps : List Placed) → length ps ≤ MAX_GENERATORS → limit_of (degrees_of ps) ≡ option_or (unless (within_of ps) Degree) (unless (near_of ps) Span)
few ps l =
    ap (λ b. option_or (unless b Gens) (option_or (unless (list_all within_limit (degrees_of ps)) Degree) (unless (are_near (degrees_of ps)) Span))) (le-leb (length (degrees_of ps)) MAX_GENERATORS (omega (arith, length-map ps (λ (p : Placed). p.degree))))
    ∙ ap (λ b. option_or (unless b Degree) (unless (are_near (degrees_of ps)) Span)) (list_all-map within_limit (λ p. p.degree) ps)
    ∙ ap (λ b. option_or (unless (within_of ps) Degree) (unless b Span)) (near_is ps)

pub limit_degree : (ps : List Placed) (b : Bool) → length ps ≤ MAX_GENERATORS → b ≡ within_of ps → b ≡ false → Some (Limit Degree) ≡ limit_of (degrees_of ps)
limit_degree ps b l e fails = sym (few ps l ∙ ap (λ b. option_or (unless b Degree) (unless (near_of ps) Span)) (sym e ∙ fails))

pub limit_span : (ps : List Placed) (b c : Bool) → length ps ≤ MAX_GENERATORS → b ≡ within_of ps → b ≡ true → c ≡ near_of ps → c ≡ false → Some (Limit Span) ≡ limit_of (degrees_of ps)
limit_span ps b c l e holds f fails = sym (few ps l ∙ ap (λ b. option_or (unless b Degree) (unless (near_of ps) Span)) (sym e ∙ holds) ∙ ap (λ b. unless b Span) (sym f ∙ fails))

pub limit_none : (ps : List Placed) (b c : Bool) → length ps ≤ MAX_GENERATORS → b ≡ within_of ps → b ≡ true → c ≡ near_of ps → c ≡ true → None ≡ limit_of (degrees_of ps)
limit_none ps b c l e holds f also = sym (few ps l ∙ ap (λ b. option_or (unless b Degree) (unless (near_of ps) Span)) (sym e ∙ holds) ∙ ap (λ b. unless b Span) (sym f ∙ also))

-- ---- no limit is passed

pub record KeepsLimits (ds : List ℤ) : Type 0 where
  pub few : length ds ≤ MAX_GENERATORS
  pub within : list_all within_limit ds ≡ true
  pub near : are_near ds ≡ true

pub keeps_limits : (ds : List ℤ) → limit_of ds ≡ None → KeepsLimits ds
keeps_limits ds e = by (nat_le (length ds) MAX_GENERATORS) (list_all within_limit ds) (are_near ds) refl refl refl e
  where
    small : nat_le (length ds) MAX_GENERATORS ≡ true → length ds ≤ MAX_GENERATORS
    small h = grind arith

    by : (a b c : Bool) → nat_le (length ds) MAX_GENERATORS ≡ a → list_all within_limit ds ≡ b → are_near ds ≡ c → option_or (unless a Gens) (option_or (unless b Degree) (unless c Span)) ≡ None → KeepsLimits ds
    by true true true h i j k = record { few = small h; within = i; near = j }
    by true true false h i j k = cc
    by true false c h i j k = cc
    by false b c h i j k = cc

all_at : {X : Type 0} (p : X → Bool) (xs : List X) (i : ℕ) (d : X) → list_all p xs ≡ true → i < length xs → p (get_or xs i d) ≡ true
all_at p [] i d h l = absurd (omega arith)
all_at p (x ∷ xs) zero d h l = (and_parts (p x) (list_all p xs) h).0
all_at p (x ∷ xs) (suc i) d h l = all_at p xs i d (and_parts (p x) (list_all p xs) h).1 (omega arith)

-- degrees that a generator may have
pub record IsWithin (z : ℤ) : Type 0 where
  pub low : neg_ℤ MAX_DEGREE ≤ℤ z
  pub high : z ≤ℤ MAX_DEGREE

int-le : (a b : ℤ) → int_le a b ≡ true → a ≤ℤ b
int-le a b e = grind (arith, ints)

is_within : (z : ℤ) → within_limit z ≡ true → IsWithin z
is_within z h = let two = and_parts (int_le (neg_ℤ MAX_DEGREE) z) (int_le z MAX_DEGREE) h in record { low = int-le (neg_ℤ MAX_DEGREE) z two.0; high = int-le z MAX_DEGREE two.1 }

pub degree_within : (ds : List ℤ) (i : ℕ) (d : ℤ) → KeepsLimits ds → i < length ds → IsWithin (get_or ds i d)
degree_within ds i d k l = is_within (get_or ds i d) (all_at within_limit ds i d k.within l)

pub placed_within : (ps : List Placed) (i : ℕ) → limit_of (degrees_of ps) ≡ None → i < length ps → IsWithin (get_or ps i nowhere).degree
placed_within ps i e l = subst IsWithin (get_or-map (λ (p : Placed). p.degree) ps i nowhere (pos 0) l) (degree_within (degrees_of ps) i (pos 0) (keeps_limits (degrees_of ps) e) (omega (arith, length-map ps (λ (p : Placed). p.degree))))

near_at : (ds : List ℤ) (i j : ℕ) (d : ℤ) → KeepsLimits ds → i < length ds → j < length ds → get_or ds j d ≤ℤ (get_or ds i d +ℤ pos MAX_SPAN)
near_at ds i j d k l m = int-le (get_or ds j d) (get_or ds i d +ℤ pos MAX_SPAN) (all_at (is_near (get_or ds j d)) ds i d (all_at (λ c. list_all (is_near c) ds) ds j d k.near m) l)

-- ---- the generators

pub generators-degrees : (i : ℕ) (ps : List Placed) → map (λ (g : Generator). g.degree) (generators_from numbered_name (λ p. p.degree) i ps) ≡ degrees_of ps
generators-degrees i [] = refl
generators-degrees i (p ∷ ps) = ap (λ ds. p.degree ∷ ds) (generators-degrees (suc i) ps)

pub length-generators_of : (ps : List Placed) → length (generators_of ps) ≡ length ps
length-generators_of ps = sym (length-map (generators_of ps) (λ (g : Generator). g.degree)) ∙ ap length (generators-degrees 0 ps) ∙ length-map ps (λ (p : Placed). p.degree)

degree_of_generator : (ps : List Placed) (i : ℕ) (g : Generator) → i < length (generators_of ps) → (get_or (generators_of ps) i g).degree ≡ get_or (degrees_of ps) i (pos 0)
degree_of_generator ps i g l = sym (get_or-map (λ (h : Generator). h.degree) (generators_of ps) i g (pos 0) l) ∙ ap (λ ds. get_or ds i (pos 0)) (generators-degrees 0 ps)

pub are_by_degree : (ps : List Placed) → NeverFall (generators_of ps) → limit_of (degrees_of ps) ≡ None → AreByDegree (generators_of ps)
are_by_degree ps falls e =
    let k = keeps_limits (degrees_of ps) e in
    let few = k.few in
    let long : length (degrees_of ps) ≡ length ps = length-map ps (λ (p : Placed). p.degree) in
    record {
      few = omega (arith, length-generators_of ps);
      lowest = λ i g l. let w = degree_within (degrees_of ps) i (pos 0) k (omega (arith, length-generators_of ps)) in let low = w.low in omega (arith, ints, degree_of_generator ps i g l);
      highest = λ i g l. let w = degree_within (degrees_of ps) i (pos 0) k (omega (arith, length-generators_of ps)) in let high = w.high in omega (arith, ints, degree_of_generator ps i g l);
      ordered = falls;
      span = λ i j g l m. let near = near_at (degrees_of ps) i j (pos 0) k (omega (arith, length-generators_of ps)) (omega (arith, length-generators_of ps)) in omega (arith, ints, degree_of_generator ps i g (omega arith), degree_of_generator ps j g m);
    }

-- generators that stand by degree stay
pub by_degree-standing : (gs : List Generator) → NeverFall gs → by_degree gs ≡ gs
by_degree-standing gs h = sorted_by-rising (λ (g : Generator). g.degree) gs h

-- one generator more
pub generators_more : (ps : List Placed) (i : ℕ) → i < length ps → generators_of (take (i + 1) ps) ≡ generators_of (take i ps) ++ record { name = numbered_name i; degree = (get_or ps i nowhere).degree } ∷ []
generators_more ps i l =
    ap generators_of (take_more ps i nowhere l)
    ∙ append 0 (take i ps)
    ∙ ap (λ k. generators_of (take i ps) ++ record { name = numbered_name k; degree = p.degree } ∷ []) (ap (λ n. n + 0) (length-take-le i ps (omega arith)) ∙ omega arith)
  where
    p : Placed
    p = get_or ps i nowhere

    append : (k : ℕ) (qs : List Placed) → generators_from numbered_name (λ p. p.degree) k (qs ++ p ∷ []) ≡ generators_from numbered_name (λ p. p.degree) k qs ++ record { name = numbered_name (length qs + k); degree = p.degree } ∷ []
    append k [] = ap (λ j. record { name = numbered_name j; degree = p.degree } ∷ []) (omega arith)
    append k (q ∷ qs) = ap (λ gs. record { name = numbered_name k; degree = q.degree } ∷ gs) (append (suc k) qs ∙ ap (λ j. generators_from numbered_name (λ p. p.degree) (suc k) qs ++ record { name = numbered_name j; degree = p.degree } ∷ []) (omega arith))
