-- How a save file and its table get quasi-inverses, one after the other.
use Rattle.std.proofs.Common.{◌≡◌, ℕ, suc, ◌<◌, ◌⊎◌, inl, inr, List, [], ◌∷◌, ◌++◌, length, take, Option, Some, None, Result, ap, sym, subst, ◌∙◌, refl, arith, append_assoc}
use Rattle.std.specs.Prelude.{Ok, IfSome, IsSome}
use Rattle.std.specs.Option.{option_map}
use Rattle.std.specs.List.{All, AllPairs}
use Rattle.std.proofs.lemmas.Bool.{cases_lt}
use Rattle.std.proofs.lemmas.List.Elements.{All-nil, All-append, All-weaker}
use Rattle.edge.specs.Disk.{LeavesOnly, HavePast}
use Rattle.edge.proofs.Moments.{Lawful, started, weaker, then_on, past_then}
use Rattle.f2_matrix.proofs.Unique.{kernel_basis_unique}
use Rattle.f2_matrix.specs.Reduction.{Reduction}
use Rattle.finite_module.specs.Checked.{Checked}
use Rattle.finite_module.specs.Module.{Module as SteenrodModule}
use Rattle.resolution_laws.specs.Resolution.{Content, row_of, below_of, IsStep}
use Rattle.resolution_laws.specs.Start.{Entry, IsOf, IsCanonicalStart, squares_below, row_below}
use Rattle.resolution_laws.proofs.StartLaws.{canonical_content, content_is_unique, IsOf-over, squares_below-same, row_below-same}
use Rattle.resolution_step.proofs.Orders.{AllPairs-nil, AllPairs-append}
use Rattle.square.specs.Squares.{IsQuasi, over}
use Rattle.square.specs.Tables.{Staircase, row_in, plain_rows, content_at, IsTable}
use Rattle.square.proofs.Footings.{kernel_of_reduction}
use Rattle.square.proofs.Places.{table_content, table_before, table_below}
use Rattle.save_journal.specs.Journals.{IsSettled, ComeFromEarlier}
use Rattle.save_file.specs.Bodies.{Kept, entries}
use Rattle.save_file.specs.Reading.{squares_alone}
use Rattle.save_file.specs.Files.{standing_of, of_squares, of_records, kept_list, kept_by, first_kept}
use Rattle.save_file.specs.Saving.{SaveState, HasSquares, TakesSquares, quasis_in}
use Rattle.ext_run.specs.Devices.{Store}
use Rattle.ext_run.specs.Saving.{kept_of}
use Rattle.ext_run.specs.Migrating.{Added, IsAddedBefore, with_added, Keeps, KeepsAmid, KeepsAtPart, KeepsOn}
use Rattle.ext_run.specs.Inside.Adding.{LeavesOf, HasAdded}
use Rattle.ext_run.proofs.Added.{with_added-append}
use Rattle.ext_run.proofs.Lasting.{at_some, AreDisks}
use Rattle.save_file.proofs.Adding.{kept_first}

-- ---- a file all of whose records are counted

module _ (m : Checked) (start : List Entry) (count : ℕ) (file : List ℕ) (has : HasSquares m start count file) where
  pub kept_is : kept_of m.plain file ≡ has.kept
  kept_is = ap (kept_by (over m)) has.records ∙ ap kept_list has.kept_are

  stands_is : standing_of m.plain file ≡ Ok (entries has.kept)
  stands_is = ap (of_records (over m)) has.records ∙ ap (λ (r : Result (List Kept) ℕ). of_squares has.bodies (squares_alone r)) has.kept_are

  keeps_counted : Keeps m.plain (first_kept m count file) file
  keeps_counted = record { stands = stands_is ∙ ap (λ (l : List Kept). Ok (entries l)) (sym (kept_first m start count file has)); quasis = kept_is ∙ sym (kept_first m start count file has) }

-- ---- lists

added_both : (at then : ℕ → ℕ → Type 0) (a b : List Added) → ((i j k l : ℕ) → at i j → then k l → (i < k) ⊎ ((i ≡ k) × (j < l))) → All (λ q. at q.s q.above) a → All (λ q. then q.s q.above) b → AllPairs IsAddedBefore a → AllPairs IsAddedBefore b → AllPairs IsAddedBefore (a ++ b)
added_both at then a b before p q h k =
    let A : Added → Type 0 = λ e. at e.s e.above in
    let B : Added → Type 0 = λ e. then e.s e.above in
    let Q : Added → Type 0 = λ e. All (IsAddedBefore e) b in
    AllPairs-append IsAddedBefore a b h k (All-weaker A Q (λ e x. All-weaker B (IsAddedBefore e) (λ f y. before e.s e.above f.s f.above x y) b q) a p)

pub neither_given : (a b : List Added) → a ++ b ≡ [] → (a ≡ []) × (b ≡ [])
neither_given [] b none = (refl, none)
neither_given (q ∷ a) b none = absurd (cc)

-- what is kept with a first part of what is given, with more given behind it
amid_more : (m : SteenrodModule) (kept : List Kept) (a b : List Added) (c : List ℕ) → KeepsAmid m kept a c → KeepsAmid m kept (a ++ b) c
amid_more m kept a b c h = record { first = h.first; rest = h.rest ++ b; parts = ap (λ (l : List Added). l ++ b) h.parts ∙ append_assoc h.first h.rest b; more = h.more; at_most_one = h.at_most_one; keeps = h.keeps }

part_more : (m : SteenrodModule) (kept : List Kept) (a b : List Added) (c : List ℕ) → KeepsAtPart m kept a c → KeepsAtPart m kept (a ++ b) c
part_more m kept a b c h = record { first = h.first; rest = h.rest ++ b; parts = ap (λ (l : List Added). l ++ b) h.parts ∙ append_assoc h.first h.rest b; keeps = h.keeps }

-- and behind what was given
amid_behind : (m : SteenrodModule) (kept : List Kept) (a b : List Added) (c : List ℕ) → KeepsAmid m (with_added kept a) b c → KeepsAmid m kept (a ++ b) c
amid_behind m kept a b c h = record {
  first = a ++ h.first;
  rest = h.rest;
  parts = ap (λ (l : List Added). a ++ l) h.parts ∙ sym (append_assoc a h.first h.rest);
  more = h.more;
  at_most_one = h.at_most_one;
  keeps = subst (λ (l : List Kept). Keeps m l c) (sym (ap (with_added kept) (append_assoc a h.first h.more) ∙ with_added-append kept a (h.first ++ h.more))) h.keeps;
}

part_behind : (m : SteenrodModule) (kept : List Kept) (a b : List Added) (c : List ℕ) → KeepsAtPart m (with_added kept a) b c → KeepsAtPart m kept (a ++ b) c
part_behind m kept a b c h = record {
  first = a ++ h.first;
  rest = h.rest;
  parts = ap (λ (l : List Added). a ++ l) h.parts ∙ sym (append_assoc a h.first h.rest);
  keeps = subst (λ (l : List Kept). Keeps m l c) (sym (with_added-append kept a h.first)) h.keeps;
}

keeps_on_both : (m : SteenrodModule) (b d c : List ℕ) → KeepsOn m b d → KeepsOn m d c → KeepsOn m b c
keeps_on_both m b d c first second = record { stands = second.stands ∙ first.stands; quasis = λ s k r h. second.quasis s k r (first.quasis s k r h) }

keeps_on_same : (m : SteenrodModule) (c : List ℕ) → KeepsOn m c c
keeps_on_same m c = record { stands = refl; quasis = λ s k r h. h }

-- ---- squares of the canonical resolution

-- each is the step over those before it, and has the kernel rows of its reduction
module _ (table : Staircase) (is_table : IsTable table) (reads : IsCanonicalStart (over table.resolved) table.start) (s k : ℕ) (l : k < length (row_in table.rows s)) where
  canonical_at : (i j : ℕ) → j < length (row_in table.rows i) → IsOf (over table.resolved) [] i j (content_at table.rows i j)
  canonical_at i j there = canonical_content (over table.resolved) table.start reads i j (content_at table.rows i j) (table_content table is_table i j there)

  below_reaches : (i : ℕ) → suc i ≡ s → k < length (row_in table.rows i)
  below_reaches i e =
      let falls = is_table.never_rise i in
      let here : k < length (row_in table.rows (suc i)) = subst (λ (n : ℕ). k < length (row_in table.rows n)) (sym e) l in
      omega arith

  step_at : IsStep (over table.resolved) (below_of (plain_rows table.rows) s k) (take k (row_of (plain_rows table.rows) s)) (content_at table.rows s k)
  step_at =
      let m = over table.resolved in
      let c = content_at table.rows s k in
      let o = IsOf-over m [] s k c (canonical_at s k l) in
      let left : squares_below o.at s k ≡ take k (row_of (plain_rows table.rows) s) =
      squares_below-same o.at (content_at table.rows) s k (λ j b. content_is_unique kernel_basis_unique m [] s j _ _ (o.before j b) (canonical_at s j (omega arith))) ∙ table_before table.rows s k (omega arith) in
      let under : row_below o.at s k ≡ below_of (plain_rows table.rows) s k =
      row_below-same o.at (content_at table.rows) s k (λ i j e b. content_is_unique kernel_basis_unique m [] i j _ _ (o.below i j e b) (canonical_at i j (let n = below_reaches i e in omega arith))) ∙ table_below table.rows s k below_reaches in
      subst (λ (x : Option (List Content)). IsStep m x (take k (row_of (plain_rows table.rows) s)) c) under (subst (λ (x : List Content). IsStep m (row_below o.at s k) x c) left o.here)

  pub kernel_at : (r : Reduction) → IsQuasi (over table.resolved) (below_of (plain_rows table.rows) s k) (take k (row_of (plain_rows table.rows) s)) (content_at table.rows s k) r → r.kernel ≡ (content_at table.rows s k).kernel
  kernel_at r quasi = kernel_of_reduction (over table.resolved) (below_of (plain_rows table.rows) s k) (take k (row_of (plain_rows table.rows) s)) (content_at table.rows s k) r step_at quasi

-- ---- a save file that gets quasi-inverses

module _ {D : Type 0} (store : Store D) (laws : AreDisks store) where
  lawful : Lawful store.now store.moment store.images store.since
  lawful = record { now_is_image = laws.now_is_image; counts_now = laws.counts_now; only_now = laws.only_now; since_earlier = laws.since_earlier }

  -- what is left of a file that takes records is what it keeps
  pub settled_keeps : (k : SaveState D) → TakesSquares store.now store.images k → (o : Option (List ℕ)) → store.now k.journal.disk ≡ o → IfSome (option_map (first_kept k.resolved k.count) o) (λ kept. (c : List ℕ) → store.images k.journal.disk c → Keeps k.resolved.plain kept c)
  settled_keeps k takes None is = tt
  settled_keeps k takes (Some file) is = λ c image.
      let has = at_some (store.now k.journal.disk) (HasSquares k.resolved k.start k.count) file is takes.has in
      let settled = at_some (store.now k.journal.disk) (λ f. IsSettled k.journal.digest k.journal.end f (store.images k.journal.disk)) file is takes.live.settled in
      subst (Keeps k.resolved.plain (first_kept k.resolved k.count file)) (sym (settled.only c image)) (keeps_counted k.resolved k.start k.count file has)

  where_kept : (o : Option (List Kept)) (P Q : List Kept → Type 0) → ((kept : List Kept) → P kept → Q kept) → IfSome o P → IfSome o Q
  where_kept None P Q f p = tt
  where_kept (Some x) P Q f p = f x p

  both_kept : (o : Option (List Kept)) (P Q R : List Kept → Type 0) → ((kept : List Kept) → P kept → Q kept → R kept) → IfSome o P → IfSome o Q → IfSome o R
  both_kept None P Q R f p q = tt
  both_kept (Some x) P Q R f p q = f x p q

  -- nothing was added
  pub none_added : (at : ℕ → ℕ → Type 0) (k : SaveState D) → TakesSquares store.now store.images k → HasAdded store at k k
  none_added at k takes =
      let m = k.resolved.plain in
      let kept = settled_keeps k takes (store.now k.journal.disk) refl in
      let none : (x : List Kept) (c : List ℕ) → Keeps m x c → KeepsAmid m x [] c = λ x c h. record { first = []; rest = []; parts = refl; more = []; at_most_one = omega arith; keeps = h } in
      let part : (x : List Kept) (c : List ℕ) → Keeps m x c → KeepsAtPart m x [] c = λ x c h. record { first = []; rest = []; parts = refl; keeps = h } in
      record {
        given = [];
        places = All-nil (λ q. at q.s q.above);
        ordered = AllPairs-nil IsAddedBefore;
        same_module = refl;
        same_start = refl;
        squares = refl;
        quasis = same_map (quasis_in store.now k);
        never_falls = omega arith;
        later = omega arith;
        moments = where_kept (quasis_in store.now k) _ _ (λ x h. started store.now store.moment store.images store.since lawful k.journal.disk (KeepsAmid m x []) (λ c image. none x c (h c image))) kept;
        exact = λ live. where_kept (quasis_in store.now k) _ _ (λ x h. started store.now store.moment store.images store.since lawful k.journal.disk (KeepsAtPart m x []) (λ c image. part x c (h c image))) kept;
        past = λ t c le. (λ x. x, λ x. x);
        retained = if_told (store.now k.journal.disk) (λ u v from le within c image. let same : v ≡ u = omega (arith, from, le, within) in (c, subst (λ (t : ℕ). store.images_at k.journal.disk t c) same image, keeps_on_same m c));
      }
    where
      same_map : (o : Option (List Kept)) → o ≡ option_map (λ (x : List Kept). x) o
      same_map None = refl
      same_map (Some x) = refl

      if_told : {P : Type 0} (o : Option (List ℕ)) → P → IfSome o (λ _. P)
      if_told None p = tt
      if_told (Some x) p = p

  -- at fewer places
  pub weaker_added : (at more : ℕ → ℕ → Type 0) → ((i j : ℕ) → at i j → more i j) → (a b : SaveState D) → HasAdded store at a b → HasAdded store more a b
  weaker_added at more wide a b h = record {
    given = h.given;
    places = All-weaker (λ q. at q.s q.above) (λ q. more q.s q.above) (λ q x. wide q.s q.above x) h.given h.places;
    ordered = h.ordered;
    same_module = h.same_module;
    same_start = h.same_start;
    squares = h.squares;
    quasis = h.quasis;
    never_falls = h.never_falls;
    later = h.later;
    moments = h.moments;
    exact = h.exact;
    past = h.past;
    retained = h.retained;
  }

  pub weaker_given : (at more : ℕ → ℕ → Type 0) (wide : (i j : ℕ) → at i j → more i j) (a b : SaveState D) (h : HasAdded store at a b) → (weaker_added at more wide a b h).given ≡ h.given
  unfolding weaker_added
  weaker_given at more wide a b h = refl

  -- images that come from images, and these from others
  pub come_then : (m : SteenrodModule) (a b c : D) → HavePast store.moment store.images_at b c → ComeFromEarlier store.moment store.images_at a b (KeepsOn m) → ComeFromEarlier store.moment store.images_at b c (KeepsOn m) → ComeFromEarlier store.moment store.images_at a c (KeepsOn m)
  come_then m a b c past first second u v from le within x image = elim (cases_lt (store.moment b) v) [
    | inr before ↦
        let was = first u v from le before x ((past v x before).0 image) in
        (was.0, (past u was.0 (omega (arith, le, before))).1 was.1, was.2)
    | inl behind ↦ elim (cases_lt (store.moment b) u) [
      | inl after ↦ second u v (omega (arith, after)) le within x image
      | inr upto ↦
          let mid = second (store.moment b) v (omega arith) (omega (arith, behind)) within x image in
          let was = first u (store.moment b) from upto (omega arith) mid.0 ((past (store.moment b) mid.0 (omega arith)).0 mid.1) in
          (was.0, (past u was.0 upto).1 was.1, keeps_on_both m was.0 mid.0 x was.2 mid.2)
    ]
  ]

  -- one after the other
  module _ (at then both : ℕ → ℕ → Type 0) (first : (i j : ℕ) → at i j → both i j) (second : (i j : ℕ) → then i j → both i j) (apart : (i j k l : ℕ) → at i j → then k l → (i < k) ⊎ ((i ≡ k) × (j < l))) (a b c : SaveState D) (live : TakesSquares store.now store.images b) (p : HasAdded store at a b) (q : HasAdded store then b c) where
    all_given : List Added
    all_given = p.given ++ q.given

    leaves_both : (P Q R : List Kept → List ℕ → Type 0) → ((x : List Kept) (f : List ℕ) → P x f → R x f) → ((x : List Kept) (f : List ℕ) → Q (with_added x p.given) f → R x f) → (o o' : Option (List Kept)) → o' ≡ option_map (λ kept. with_added kept p.given) o → IfSome o (λ kept. LeavesOnly store.moment store.since a.journal.disk b.journal.disk (P kept))
        → IfSome o' (λ kept. LeavesOnly store.moment store.since b.journal.disk c.journal.disk (Q kept)) → IfSome o (λ kept. LeavesOnly store.moment store.since a.journal.disk c.journal.disk (R kept))
    leaves_both P Q R f g None o' is one two = tt
    leaves_both P Q R f g (Some x) o' is one two =
        let here : LeavesOnly store.moment store.since b.journal.disk c.journal.disk (Q (with_added x p.given)) = subst (λ (o : Option (List Kept)). IfSome o (λ kept. LeavesOnly store.moment store.since b.journal.disk c.journal.disk (Q kept))) is two in
        then_on store.now store.moment store.images store.since lawful a.journal.disk b.journal.disk c.journal.disk (R x) (weaker store.now store.moment store.images store.since lawful a.journal.disk b.journal.disk (P x) (R x) one (f x))
        (weaker store.now store.moment store.images store.since lawful b.journal.disk c.journal.disk (Q (with_added x p.given)) (R x) here (g x))

    quasis_both : (o o' : Option (List Kept)) → o' ≡ option_map (λ kept. with_added kept p.given) o → option_map (λ kept. with_added kept q.given) o' ≡ option_map (λ kept. with_added kept (p.given ++ q.given)) o
    quasis_both None o' is = ap (option_map (λ kept. with_added kept q.given)) is
    quasis_both (Some x) o' is = ap (option_map (λ kept. with_added kept q.given)) is ∙ ap (λ (l : List Kept). Some l) (sym (with_added-append x p.given q.given))

    come_both : (o o' : Option (List ℕ)) → (IsSome o → IsSome o') → IfSome o (λ _. ComeFromEarlier store.moment store.images_at a.journal.disk b.journal.disk (KeepsOn a.resolved.plain)) → IfSome o' (λ _. ComeFromEarlier store.moment store.images_at b.journal.disk c.journal.disk (KeepsOn a.resolved.plain))
        → IfSome o (λ _. ComeFromEarlier store.moment store.images_at a.journal.disk c.journal.disk (KeepsOn a.resolved.plain))
    come_both None o' f one two = tt
    come_both (Some x) None f one two = absurd (let none = f refl in cc)
    come_both (Some x) (Some y) f one two = come_then a.resolved.plain a.journal.disk b.journal.disk c.journal.disk q.past one two

    -- what is told before is told behind it
    told : IsSome (store.now a.journal.disk) → IsSome (store.now b.journal.disk)
    told is = told_by (store.now a.journal.disk) (store.now b.journal.disk) p.quasis is
      where
        told_by : (o o' : Option (List ℕ)) → option_map (first_kept b.resolved b.count) o' ≡ option_map (λ kept. with_added kept p.given) (option_map (first_kept a.resolved a.count) o) → IsSome o → IsSome o'
        told_by None o' same is = absurd (cc)
        told_by (Some x) None same is = absurd (cc)
        told_by (Some x) (Some y) same is = refl

    pub then_added : HasAdded store both a c
    then_added =
        let m = a.resolved.plain in
        let moments_b = subst (λ (r : Checked). LeavesOf store b c (λ kept. KeepsAmid r.plain kept q.given)) p.same_module q.moments in
        let exact_b : TakesSquares store.now store.images c → LeavesOf store b c (λ kept. KeepsAtPart m kept q.given) = λ h. subst (λ (r : Checked). LeavesOf store b c (λ kept. KeepsAtPart r.plain kept q.given)) p.same_module (q.exact h) in
        let come_b = subst (λ (r : Checked). IfSome (store.now b.journal.disk) (λ _. ComeFromEarlier store.moment store.images_at b.journal.disk c.journal.disk (KeepsOn r.plain))) p.same_module q.retained in
        record {
          given = p.given ++ q.given;
          places = All-append (λ x. both x.s x.above) p.given q.given (All-weaker (λ x. at x.s x.above) (λ x. both x.s x.above) (λ x h. first x.s x.above h) p.given p.places) (All-weaker (λ x. then x.s x.above) (λ x. both x.s x.above) (λ x h. second x.s x.above h) q.given q.places);
          ordered = added_both at then p.given q.given apart p.places q.places p.ordered q.ordered;
          same_module = q.same_module ∙ p.same_module;
          same_start = q.same_start ∙ p.same_start;
          squares = q.squares ∙ p.squares;
          quasis = q.quasis ∙ quasis_both (quasis_in store.now a) (quasis_in store.now b) p.quasis;
          never_falls = omega (arith, p.never_falls, q.never_falls);
          later = omega (arith, p.later, q.later);
          moments = leaves_both (λ x. KeepsAmid m x p.given) (λ x. KeepsAmid m x q.given) (λ x. KeepsAmid m x (p.given ++ q.given)) (λ x f h. amid_more m x p.given q.given f h) (λ x f h. amid_behind m x p.given q.given f h) (quasis_in store.now a) (quasis_in store.now b) p.quasis p.moments moments_b;
          exact = λ h. leaves_both (λ x. KeepsAtPart m x p.given) (λ x. KeepsAtPart m x q.given) (λ x. KeepsAtPart m x (p.given ++ q.given)) (λ x f g. part_more m x p.given q.given f g) (λ x f g. part_behind m x p.given q.given f g) (quasis_in store.now a) (quasis_in store.now b) p.quasis (p.exact live) (exact_b h);
          past = past_then store.moment store.images_at a.journal.disk b.journal.disk c.journal.disk p.later p.past q.past;
          retained = come_both (store.now a.journal.disk) (store.now b.journal.disk) told p.retained come_b;
        }

    pub then_given : then_added.given ≡ p.given ++ q.given
    unfolding then_added
    then_given = refl
