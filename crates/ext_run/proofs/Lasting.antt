-- What is left of the disk of a run that kept its squares, at each moment and in the end.
use Rattle.std.proofs.Common.{◌≡◌, ℕ, ◌≤◌, ◌⊎◌, inl, inr, List, [], ◌∷◌, ◌++◌, length, Bool, true, false, ap, sym, subst, ◌∙◌, refl, arith, append-nil}
use Rattle.std.proofs.lemmas.Bool.{and_parts, eqb-true}
use Rattle.std.proofs.lemmas.Option.{none-some, same_Some}
use Rattle.std.proofs.lemmas.List.{take_all}
use Rattle.std.proofs.lemmas.List.Elements.{All-nil, All-cons, All-head, All-tail, All-append, All-weaker}
use Rattle.std.specs.Prelude.{Option, Some, None, IfSome, IsSome, Ok, Err, nat_eq, take, ◌&&◌, ◌↔◌, if◌then◌else◌}
use Rattle.std.specs.List.{All}
use Rattle.std.specs.Option.{option_map}
use Rattle.std.specs.Result.{result_ok}
use Rattle.bidegree.specs.declared.range.Range.{Range}
use Rattle.edge.specs.Disk.{LeavesOnly, WasImageSince}
use Rattle.finite_module.specs.Checked.{Checked}
use Rattle.finite_module.specs.Module.{Module as SteenrodModule}
use Rattle.resolution_laws.specs.Resolution.{Module, Content}
use Rattle.resolution_laws.specs.Start.{Entry, entry_at, IsOf, AreOf, IsCanonicalStart}
use Rattle.resolution_laws.proofs.StartLaws.{canonical_content}
use Rattle.square.specs.Squares.{over, module_over}
use Rattle.square.specs.Keeping.{Keeper, HasFirst, Retains, HasKept, IsImageWith, IsImageAmid, IsImagePart, with_squares}
use Rattle.save_journal.specs.Records.{Records}
use Rattle.save_journal.specs.Journals.{HasRecordsOf, IsSettled}
use Rattle.save_file.specs.Bodies.{Kept}
use Rattle.save_file.specs.Files.{Standing, digest_of, of_records, standing_of, squares_in, first_records, first_squares, first_kept, kept_by}
use Rattle.save_file.specs.Saving.{HasSquares, kept_in}
use Rattle.save_file.specs.Inside.SavingLaws.{left_is_kept}
use Rattle.save_file.proofs.Entries.{some_is}
use Rattle.save_file.proofs.Adding.{kept_whole, made_are}
use Rattle.resolution_step.specs.Alone.{IsInRange, IsUntouched}
use Rattle.run_file.specs.RunFile.{HasQuasi, KeepsQuasis, RunState, TakesMore, telling_run}
use Rattle.run_file.proofs.Running.{telling_file, of_file, had_stays}
use Rattle.ext_run.specs.Devices.{Store}
use Rattle.ext_run.specs.Saving.{AreCanonical, StandsWith, StandsAmid, StandsAtPart, StandsAsOneOf, squares_of, kept_of, KeepsWhole, IsOurs, MayBeLeft, IsUnwritten, StaysIfWhole, HasRetained, HasLasted, HasRange}

-- ---- what is told

pub at_some : {X : Type 0} (o : Option X) (P : X → Type 0) (x : X) → o ≡ Some x → IfSome o P → P x
at_some {X = X} o P x is h = subst (λ (p : Option X). IfSome p P) is h

-- ---- canonical squares

pub all_first : {X : Type 0} (P : X → Type 0) (xs ys : List X) → All P (xs ++ ys) → All P xs
all_first P [] ys h = All-nil P
all_first P (x ∷ xs) ys h = All-cons P x xs (All-head P x (xs ++ ys) h) (all_first P xs ys (All-tail P x (xs ++ ys) h))

found_here : (m : Module) (e : Entry) (s k : ℕ) (content : Content) (rest : Option Content) (here : Bool) → (nat_eq e.s s && nat_eq e.above k) ≡ here → IsOf m [] e.s e.above e.content → (rest ≡ Some content → IsOf m [] s k content) →
    (if here then Some e.content else rest) ≡ Some content → IsOf m [] s k content
found_here m e s k content rest true at own others is =
    let parts = and_parts (nat_eq e.s s) (nat_eq e.above k) at in
    let same : e.content ≡ content = cc in
    let row = subst (λ (x : ℕ). IsOf m [] x e.above e.content) (eqb-true e.s s parts.0) own in
    let place = subst (λ (x : ℕ). IsOf m [] s x e.content) (eqb-true e.above k parts.1) row in
    subst (IsOf m [] s k) same place
found_here m e s k content rest false at own others is = others is

-- a list of canonical squares is a canonical start
pub canonical_start : (m : Module) (list : List Entry) → AreOf m [] list → IsCanonicalStart m list
canonical_start m [] h s k content is = absurd (cc)
canonical_start m (e ∷ es) h s k content is =
    found_here m e s k content (entry_at es s k) (nat_eq e.s s && nat_eq e.above k) refl (All-head (λ e. IsOf m [] e.s e.above e.content) e es h)
    (canonical_start m es (All-tail (λ e. IsOf m [] e.s e.above e.content) e es h) s k content) is

-- the squares of a canonical start's table are canonical
canonical_squares : (m : Module) (start list : List Entry) → IsCanonicalStart m start → AreOf m start list → AreOf m [] list
canonical_squares m start list reads h =
    All-weaker (λ e. IsOf m start e.s e.above e.content) (λ e. IsOf m [] e.s e.above e.content) (λ e is. canonical_content m start reads e.s e.above e.content is) list h

-- ---- what files stand for

pub standing_ok : (standing : Standing) (list : List Entry) → result_ok standing ≡ Some list → standing ≡ Ok list
standing_ok (Ok l) list e = let same : l ≡ list = cc in ap (λ (x : List Entry). Ok x) same
standing_ok (Err f) list e = absurd (cc)

stands_with : (m : Checked) (start list : List Entry) (c : List ℕ) → IsCanonicalStart (over m) start → AreCanonical m.plain list → IsImageWith (over m) start list (squares_in m c) → StandsWith m.plain list c
stands_with m start list c reads canonical image = record {
  more = image.more;
  at_most_one = image.at_most_one;
  canonical = All-append (λ e. IsOf (over m) [] e.s e.above e.content) list image.more canonical (canonical_squares (over m) start image.more reads image.are_of);
  stands = standing_ok (standing_of m.plain c) (list ++ image.more) image.is;
}

stands_amid : (m : Checked) (start list given : List Entry) (c : List ℕ) → IsCanonicalStart (over m) start → AreCanonical m.plain list → AreCanonical m.plain given → IsImageAmid (over m) start list given (squares_in m c) → StandsAmid m.plain list given c
stands_amid m start list given c reads canonical more image =
    let P : Entry → Type 0 = λ e. IsOf (over m) [] e.s e.above e.content in
    let front = all_first P image.first image.rest (subst (All P) image.parts more) in
    record {
      first = image.first;
      rest = image.rest;
      parts = image.parts;
      with_more = stands_with m start (list ++ image.first) c reads (All-append P list image.first canonical front) image.with_more;
    }

-- a file that stands for what another one does stands for its list
pub as_one : (m : SteenrodModule) (list : List Entry) (c d : List ℕ) → standing_of m c ≡ standing_of m d → StandsWith m list d → StandsWith m list c
as_one m list c d same with = record { more = with.more; at_most_one = with.at_most_one; canonical = with.canonical; stands = same ∙ with.stands }

-- a file of which the same squares are read as of one that stands for squares stands for them
standing_same : (m : Checked) (list : List Entry) (c d : List ℕ) → squares_in m c ≡ squares_in m d → standing_of m.plain d ≡ Ok list → standing_of m.plain c ≡ standing_of m.plain d
standing_same m list c d same stands = standing_ok (standing_of m.plain c) list (same ∙ ap (λ (s : Standing). result_ok s) stands) ∙ sym stands

-- ---- a disk on which nothing was written

where_some : {X : Type 0} (o : Option X) (P Q : Type 0) → (P → Q) → IfSome o (λ _. P) → IfSome o (λ _. Q)
where_some None P Q f p = tt
where_some (Some x) P Q f p = f p

pub if_some : {X : Type 0} (o : Option X) (P : Type 0) → P → IfSome o (λ _. P)
if_some None P p = tt
if_some (Some x) P p = p

-- ---- what a file keeps

-- no squares stand at its end
keeps_none : (m : SteenrodModule) (c : List ℕ) → KeepsWhole m [] c
keeps_none m c = record { first = kept_of m c; rest = []; parts = sym (append-nil (kept_of m c)); squares = refl; whole = All-nil (λ (k : Kept). IsSome k.quasi) }

-- a file that takes squares has the given ones behind those of its start
keeps_whole : (m : Checked) (start given : List Entry) (n : ℕ) (file : List ℕ) → HasSquares m start n file → first_squares m n file ≡ start ++ given → KeepsWhole m.plain given file
keeps_whole m start given n file has is = record {
  first = has.read;
  rest = has.made;
  parts = kept_whole m start n file has ∙ has.parts;
  squares = made_are m start given n file has is;
  whole = has.whole;
}

-- as many records as are counted are all of them
first_kept_all : (m : Checked) (start : List Entry) (n : ℕ) (file : List ℕ) (has : HasSquares m start n file) → first_kept m n file ≡ kept_of m.plain file
first_kept_all m start n file has =
    let all : take n has.bodies ≡ has.bodies = take_all n has.bodies (let few = has.counted in omega (arith, few)) in
    ap (kept_by (over m)) (ap (first_records n) has.records ∙ ap (λ (l : List (List ℕ)). Ok l) all ∙ sym has.records)

-- ---- a run

-- what the laws of the trait say of its disks
pub record AreDisks {D : Type 0} (store : Store D) : Type 0 where
  pub now_is_image : (d : D) → IfSome (store.now d) (λ file. store.images d file)
  pub counts_now : (d : D) (c : List ℕ) → store.images d c → store.since d (store.moment d) c
  pub only_now : (d : D) (c : List ℕ) → store.since d (store.moment d) c → store.images d c
  pub since_earlier : (d : D) (t u : ℕ) (c : List ℕ) → t ≤ u → store.since d u c → store.since d t c
  pub since_at : (d : D) (t u : ℕ) (c : List ℕ) → t ≤ u → u ≤ store.moment d → store.images_at d u c → store.since d t c
  pub at_since : (d : D) (t : ℕ) (c : List ℕ) → store.since d t c → WasImageSince (store.moment d) (store.images_at d) t c

-- what contracts see of the keeper of a run, and of it with the moments of its file
abbrev pub running : {D : Type 0} → Store D → RunState D → Keeper
running store k = telling_run store.now store.moment store.images store.images_at store.since store.faults k

abbrev in_file : {D : Type 0} → Store D → RunState D → Keeper
in_file store k = telling_file store.now store.moment store.images store.images_at store.since store.faults k

module _ {D : Type 0} (store : Store D) (laws : AreDisks store) where
  -- what was left since the beginning, and what is left now, was left before it
  pub unwritten_since : (old new : D) → store.now new ≡ store.now old → IfSome (store.now old) (λ _. LeavesOnly store.moment store.since old new (store.images old)) → IsUnwritten store old new
  unwritten_since old new same was = (
    same,
    where_some (store.now old) (LeavesOnly store.moment store.since old new (store.images old)) ((c : List ℕ) → MayBeLeft store old new c → store.images old c) (λ leaves c may. elim may [
      | inl left ↦ leaves.each c left
      | inr image ↦ leaves.each c (laws.since_earlier new (store.moment old) (store.moment new) c leaves.later (laws.counts_now new c image))
    ]) was,
  )

  pub unwritten_same : (d : D) → IsUnwritten store d d
  unwritten_same d = (
    refl,
    if_some (store.now d) ((c : List ℕ) → MayBeLeft store d d c → store.images d c) (λ c may. elim may [
      | inl left ↦ laws.only_now d c left
      | inr image ↦ image
    ]),
  )

  -- nothing is away again at one moment alone
  pub at_once : (m : SteenrodModule) (d : D) (first : List Entry) (t u : ℕ) → store.moment d ≤ t → t ≤ u → u ≤ store.moment d → ((c : List ℕ) → store.images_at d t c → HasFirst first (squares_of m c)) →
      (c : List ℕ) → store.images_at d u c → HasFirst first (squares_of m c)
  at_once m d first t u from le within all c there = let same : u ≡ t = omega (arith, from, le, within) in all c (subst (λ (v : ℕ). store.images_at d v c) same there)

  -- on a disk no square was put: what is left of it stands for what was there
  pub none_put : (m : SteenrodModule) (range : Range) (list : List Entry) (had_answer unfailed : Type 0) (disk d : D) → (had_answer → ⊥) → (unfailed → IsUnwritten store disk d) → IsSome (store.now disk) → IsOurs m list (store.images disk) → store.moment disk ≤ store.moment d →
      ((c : List ℕ) → store.since d (store.moment disk) c → StandsAsOneOf m (store.images disk) c) → HasLasted store m range list had_answer unfailed disk d
  none_put m range list had_answer unfailed disk d never unwritten told ours later stood =
      let found = some_is (store.now disk) told in
      let here = ours found.0 (at_some (store.now disk) (λ f. store.images disk f) found.0 found.1 (laws.now_is_image disk)) in
      let same : (list ++ []) ++ [] ≡ list = append-nil (list ++ []) ∙ append-nil list in
      let stands : (c : List ℕ) → store.since d (store.moment disk) c → StandsWith m list c = λ c was. let one = stood c was in as_one m list c one.0 one.2 (ours one.0 one.1) in
      record {
        more = [];
        given = [];
        from_file = λ h. absurd (never h);
        places = All-nil (λ e. IsInRange range e.s e.above);
        at_most_one = omega arith;
        canonical = subst (AreCanonical m) (sym same) (all_first (λ e. IsOf (module_over m) [] e.s e.above e.content) list here.more here.canonical);
        moments = λ c was. inl (stands c was);
        ours = subst (λ (l : List Entry). IsOurs m l (store.images d)) (sym same) (λ c image. stands c (laws.since_earlier d (store.moment disk) (store.moment d) c later (laws.counts_now d c image)));
        retained = record { taken_up = store.moment d; until = λ t from upto c there. stood c (laws.since_at d (store.moment disk) t c from upto there); from = at_once m d };
        keeps = λ worked c was. inl (stood c was);
        settled = λ worked. inl (refl, refl, unwritten worked);
        made = λ worked c image. keeps_none m c;
        stay = λ worked. inl (unwritten worked);
        idle = λ worked none file is whole. unwritten worked;
        exact = λ h. absurd (never h);
        whole = λ h. absurd (never h);
      }

  module _ (m : Checked) (range : Range) (list more given : List Entry) (had_answer unfailed : Type 0) (disk : D) (k after : RunState D)
      (file_stands : (file : List ℕ) → store.now disk ≡ Some file → standing_of m.plain file ≡ Ok (list ++ more)) (at_most_one : length more ≤ 1) (canonical : AreCanonical m.plain (list ++ more)) (ours : IsOurs m.plain list (store.images disk)) (resolved : k.file.resolved ≡ m) (start_is : k.file.start ≡ list ++ more) (kept_is : kept_in store.now k.file ≡ Some (list ++ more)) (had_is : (file : List ℕ) → store.now disk ≡ Some file → kept_of m.plain file ≡ k.had)
      (opening : LeavesOnly store.moment store.since disk k.file.journal.disk (HasRecordsOf (digest_of m.plain) (store.images disk))) (keeping : HasKept (over m) (list ++ more) (running store k) (running store after) given) (places : All (λ e. IsInRange range e.s e.above) given)
      (answered : had_answer → unfailed) (live : unfailed → TakesMore store.now store.images after) (untouched : IsUntouched (running store) k after) (stays : StaysIfWhole store m.plain disk k.file.journal.disk) (whole : had_answer → IfSome (kept_in store.now after.file) (HasRange range)) where
    abbrev start : List Entry
    start = list ++ more

    kept : HasKept (over m) start (in_file store k) (in_file store after) given
    kept = of_file store.now store.moment store.images store.images_at store.since store.faults (over m) start given k after keeping

    reads : IsCanonicalStart (over m) start
    reads = canonical_start (over m) start canonical

    given_canonical : AreCanonical m.plain given
    given_canonical = canonical_squares (over m) start given reads kept.are_of

    all_canonical : AreCanonical m.plain (start ++ given)
    all_canonical = All-append (λ e. IsOf (over m) [] e.s e.above e.content) start given canonical given_canonical

    after_resolved : after.file.resolved ≡ m
    after_resolved = let same : Some after.file.resolved ≡ Some k.file.resolved = kept.same_module in let one : after.file.resolved ≡ k.file.resolved = cc in one ∙ resolved

    read_after : (c : List ℕ) → squares_in after.file.resolved c ≡ squares_in m c
    read_after c = ap (λ (q : Checked). squares_in q c) after_resolved

    -- what is told of the list that was kept before
    at_start : (P : List Entry → Type 0) → IfSome (kept_in store.now k.file) P → P start
    at_start P h = subst (λ (o : Option (List Entry)). IfSome o P) kept_is h

    after_kept : kept_in store.now after.file ≡ Some (start ++ given)
    after_kept = kept.kept ∙ ap (λ (o : Option (List Entry)). with_squares o given) kept_is

    -- what was left before the file was taken up stands for what a file from before the run stands for
    stood : (c d : List ℕ) → store.since k.file.journal.disk (store.moment disk) d → squares_in after.file.resolved c ≡ squares_in k.file.resolved d → StandsAsOneOf m.plain (store.images disk) c
    stood c d was is =
        let found = opening.each d was in
        let read : squares_in m c ≡ squares_in m d = sym (read_after c) ∙ is ∙ ap (λ (q : Checked). squares_in q d) resolved in
        let with = ours found.0 found.1 in
        let alike = ap (λ (r : Records). of_records (over m) r) found.2 in
        (found.0, found.1, standing_same m (list ++ with.more) c d read (alike ∙ with.stands) ∙ alike)

    moments : (c : List ℕ) → store.since after.file.journal.disk (store.moment disk) c → StandsWith m.plain list c ⊎ StandsAmid m.plain start given c
    moments c left =
        let image = squares_in after.file.resolved c in
        let T = in_file store k in
        let U = in_file store after in
        let earlier = at_start (λ (l : List Entry). (t : ℕ) (i : Option (List Entry)) → t ≤ T.moment → U.since t i ↔ (T.since t i ⊎ U.since T.moment i)) kept.earlier in
        let between = at_start (λ (l : List Entry). (i : Option (List Entry)) → U.since T.moment i → IsImageAmid (over m) start l given i) kept.since in
        elim ((earlier (store.moment disk) image opening.later).0 (c, left, refl)) [
          | inl before ↦ let one = stood c before.0 before.1 before.2 in inl (as_one m.plain list c one.0 one.2 (ours one.0 one.1))
          | inr now_left ↦
              inr (stands_amid m start start given c reads canonical given_canonical (subst (IsImageAmid (over m) start start given) (read_after c) (between image now_left)))
        ]

    in_the_end : IsOurs m.plain (start ++ given) (store.images after.file.journal.disk)
    in_the_end c image =
        let U = in_file store after in
        let ending = at_start (λ (l : List Entry). (i : Option (List Entry)) → U.since U.moment i → IsImageWith (over m) start (l ++ given) i) kept.now in
        stands_with m start (start ++ given) c reads all_canonical
        (subst (IsImageWith (over m) start (start ++ given)) (read_after c) (ending (squares_in after.file.resolved c) (c, laws.counts_now after.file.journal.disk c image, refl)))

    retained : HasRetained store m.plain disk after.file.journal.disk
    retained = record {
      taken_up = store.moment k.file.journal.disk;
      until = λ t from upto c there.
          let was = (kept.past t (squares_in after.file.resolved c) upto).0 (c, there, refl) in
          stood c was.0 (laws.since_at k.file.journal.disk (store.moment disk) t was.0 from upto was.1) was.2;
      from = λ first t u from le within all c there.
          let retains = at_start (λ (l : List Entry). Retains (in_file store k) (in_file store after)) kept.retained in
          let has : HasFirst first (squares_in after.file.resolved c) =
          retains first t u from le within (λ image was. subst (HasFirst first) (sym (was.2 ∙ read_after was.0)) (all was.0 was.1)) (squares_in after.file.resolved c) (c, there, refl) in
          subst (HasFirst first) (read_after c) has;
    }

    keeps : unfailed → (c : List ℕ) → store.since after.file.journal.disk (store.moment disk) c → StandsAsOneOf m.plain (store.images disk) c ⊎ StandsAtPart m.plain start given c
    keeps worked c left =
        let image = squares_in after.file.resolved c in
        let T = in_file store k in
        let U = in_file store after in
        let earlier = at_start (λ (l : List Entry). (t : ℕ) (i : Option (List Entry)) → t ≤ T.moment → U.since t i ↔ (T.since t i ⊎ U.since T.moment i)) kept.earlier in
        let exact = at_start (λ (l : List Entry). (i : Option (List Entry)) → U.since T.moment i → IsImagePart l given i) (kept.exact (live worked)) in
        elim ((earlier (store.moment disk) image opening.later).0 (c, left, refl)) [
          | inl before ↦ inl (stood c before.0 before.1 before.2)
          | inr now_left ↦
              let at = exact image now_left in
              inr (record { first = at.first; rest = at.rest; parts = at.parts; stands = standing_ok (standing_of m.plain c) (start ++ at.first) (sym (read_after c) ∙ at.is) })
        ]

    only : unfailed → (c : List ℕ) → store.images after.file.journal.disk c → standing_of m.plain c ≡ Ok (start ++ given)
    only worked c image =
        let is_kept = left_is_kept store.now store.moment store.images store.since laws.only_now after.file (live worked).takes in
        let U = in_file store after in
        let exact = subst (λ (o : Option (List Entry)). IfSome o (λ (l : List Entry). (i : Option (List Entry)) → U.since U.moment i → i ≡ Some l)) after_kept is_kept in
        standing_ok (standing_of m.plain c) (start ++ given) (sym (read_after c) ∙ exact (squares_in after.file.resolved c) (c, laws.counts_now after.file.journal.disk c image, refl))

    -- what it has now
    squares_here : (file : List ℕ) → HasSquares after.file.resolved after.file.start after.file.count file → HasSquares m start after.file.count file
    squares_here file has =
        let same_start : Some after.file.start ≡ Some k.file.start = kept.same_start in
        let begun : after.file.start ≡ start = same_Some after.file.start k.file.start same_start ∙ start_is in
        subst (λ (q : Checked). HasSquares q start after.file.count file) after_resolved (subst (λ (l : List Entry). HasSquares after.file.resolved l after.file.count file) begun has)

    has_given : (o : Option (List ℕ)) → store.now after.file.journal.disk ≡ o → IfSome o (HasSquares after.file.resolved after.file.start after.file.count) → IfSome o (λ file. IsSettled after.file.journal.digest after.file.journal.end file (store.images after.file.journal.disk)) → (c : List ℕ) → store.images after.file.journal.disk c → KeepsWhole m.plain given c
    has_given None is has settled c image = absurd (none-some (start ++ given) (sym (ap (option_map (first_squares after.file.resolved after.file.count)) is) ∙ after_kept))
    has_given (Some file) is has settled c image =
        let here = squares_here file has in
        let squares : Some (first_squares after.file.resolved after.file.count file) ≡ Some (start ++ given) = sym (ap (option_map (first_squares after.file.resolved after.file.count)) is) ∙ after_kept in
        let counted : first_squares m after.file.count file ≡ start ++ given = ap (λ (q : Checked). first_squares q after.file.count file) (sym after_resolved) ∙ same_Some _ _ squares in
        subst (KeepsWhole m.plain given) (sym (settled.only c image)) (keeps_whole m start given after.file.count file here counted)

    made : unfailed → (c : List ℕ) → store.images after.file.journal.disk c → KeepsWhole m.plain given c
    made worked = has_given (store.now after.file.journal.disk) refl (live worked).takes.has (live worked).takes.live.settled

    has_had : (o : Option (List ℕ)) → IfSome o (HasSquares after.file.resolved after.file.start after.file.count) → IfSome o (λ file. IsSettled after.file.journal.digest after.file.journal.end file (store.images after.file.journal.disk)) → IfSome (option_map (first_kept after.file.resolved after.file.count) o) (KeepsQuasis after.had) →
        (o ≡ None → ⊥) → (c : List ℕ) → store.images after.file.journal.disk c → KeepsQuasis after.had (kept_of m.plain c)
    has_had None has settled stay told c image = absurd (told refl)
    has_had (Some file) has settled stay told c image =
        let here = squares_here file has in
        let all : first_kept after.file.resolved after.file.count file ≡ kept_of m.plain file = ap (λ (q : Checked). first_kept q after.file.count file) after_resolved ∙ first_kept_all m start after.file.count file here in
        subst (λ (d : List ℕ). KeepsQuasis after.had (kept_of m.plain d)) (sym (settled.only c image)) (subst (KeepsQuasis after.had) all stay)

    stay : unfailed → (file : List ℕ) → store.now disk ≡ Some file → (c : List ℕ) → store.images after.file.journal.disk c → KeepsQuasis (kept_of m.plain file) (kept_of m.plain c)
    stay worked file is c image s j r has =
        let told : store.now after.file.journal.disk ≡ None → ⊥ = λ none. none-some (start ++ given) (sym (ap (option_map (first_squares after.file.resolved after.file.count)) none) ∙ after_kept) in
        has_had (store.now after.file.journal.disk) (live worked).takes.has (live worked).takes.live.settled (live worked).stay told c image s j r
        (had_stays store.now store.moment store.images store.images_at store.since store.faults (over m) start given k after keeping s j r (subst (λ (l : List Kept). HasQuasi l s j r) (had_is file is) has))

    -- where nothing was given, nothing was written since the file was taken up
    same_file : unfailed → given ≡ [] → after ≡ k
    same_file worked none =
        let still : kept_in store.now after.file ≡ Some start = after_kept ∙ ap (λ (l : List Entry). Some (start ++ l)) none ∙ ap (λ (l : List Entry). Some l) (append-nil start) in
        untouched (live worked) start kept_is still

    pub lasting : HasLasted store m.plain range list had_answer unfailed disk after.file.journal.disk
    lasting = record {
      more = more;
      given = given;
      from_file = λ has. file_stands;
      places = places;
      at_most_one = at_most_one;
      canonical = all_canonical;
      moments = moments;
      retained = retained;
      ours = in_the_end;
      keeps = keeps;
      settled = λ worked. inr (only worked);
      made = made;
      stay = λ worked. inr (stay worked);
      idle = λ worked none. subst (λ (s : RunState D). StaysIfWhole store m.plain disk s.file.journal.disk) (sym (same_file worked none)) stays;
      exact = λ has. only (answered has);
      whole = λ has. subst (λ (o : Option (List Entry)). IfSome o (HasRange range)) after_kept (whole has);
    }
