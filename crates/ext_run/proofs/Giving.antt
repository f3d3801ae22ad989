-- A save file gets the quasi-inverse of one square, which it has without one.
use Rattle.std.proofs.Common.{◌≡◌, ℕ, ◌<◌, ◌≤◌, ◌⊎◌, inl, inr, ℤ, pos, ◌+ℤ◌, true, nat_eq, List, [], ◌∷◌, length, Some, None, Result, ap, sym, subst, ◌∙◌, refl, arith}
use Rattle.std.specs.Prelude.{Ok, Err}
use Rattle.std.specs.Option.{option_map}
use Rattle.std.proofs.lemmas.Bool.{cases_lt, and_parts, eqb-true}
use Rattle.std.proofs.lemmas.Int.{ints}
use Rattle.std.proofs.lemmas.Option.{same_Some}
use Rattle.edge.specs.Disk.{LeavesOnly, HavePast}
use Rattle.f2_matrix.specs.Reduction.{Reduction}
use Rattle.finite_module.specs.Module.{Module as SteenrodModule}
use Rattle.resolution_laws.specs.Resolution.{Module}
use Rattle.resolution_laws.specs.Start.{Entry}
use Rattle.square.specs.Squares.{module_over, bottom_of}
use Rattle.square.specs.Tables.{Staircase, IsQuasiAt}
use Rattle.save_journal.specs.Records.{Records, records_of}
use Rattle.save_journal.specs.Journals.{ComeFromEarlier}
use Rattle.save_file.specs.Bodies.{Kept, entries, is_at, kept_at, given_quasi, with_quasi_at}
use Rattle.save_file.specs.Reading.{squares_alone, kept_of_bodies}
use Rattle.save_file.specs.Files.{digest_of, standing_of, of_squares, of_records, kept_list, kept_by}
use Rattle.save_file.specs.Saving.{SaveState, IsKeptBare, HasQuasiOrNot}
use Rattle.save_file.proofs.Keeping.{quasi_once}
use Rattle.save_file.proofs.Rules.{entries-with_quasi_at}
use Rattle.ext_run.specs.Devices.{Store}
use Rattle.ext_run.specs.Saving.{kept_of}
use Rattle.ext_run.specs.Migrating.{Added, Keeps, KeepsAmid, KeepsAtPart, KeepsOn}
use Rattle.ext_run.proofs.Lasting.{AreDisks}
use Rattle.ext_run.proofs.Added.{longer_given, found_given, place_is, quasi_given_is, quasi_stays_given}

-- ---- files that keep something

by_list : (bodies : List (List ℕ)) (l : Result (List Kept) ℕ) (x : Kept) (xs : List Kept) → kept_list l ≡ x ∷ xs → of_squares bodies (squares_alone l) ≡ Ok (entries (x ∷ xs))
by_list bodies (Ok l) x xs is = ap (λ (l : List Kept). Ok (entries l)) is
by_list bodies (Err n) x xs is = absurd (cc)

by_records : (m : Module) (r : Records) (x : Kept) (xs : List Kept) → kept_by m r ≡ x ∷ xs → of_records m r ≡ Ok (entries (x ∷ xs))
by_records m (Ok bodies) x xs is = by_list bodies (kept_of_bodies m bodies) x xs is
by_records m (Err fault) x xs is = absurd (cc)

-- a file that keeps a square is not refused
stands_keeps : (m : SteenrodModule) (file : List ℕ) (kept : List Kept) → 0 < length kept → kept_of m file ≡ kept → Keeps m kept file
stands_keeps m file [] some is = absurd (omega (arith, some))
stands_keeps m file (x ∷ xs) some is = record { stands = by_records (module_over m) (records_of (digest_of m) file) x xs is; quasis = is }

-- ---- one square

module _ {D : Type 0} (store : Store D) (laws : AreDisks store) (table : Staircase) (s k : ℕ) (t : ℤ) (r : Reduction) (degree : t ≡ bottom_of table.resolved +ℤ pos k) (is_quasi : IsQuasiAt table s t r) where
  -- it is this one, and no other
  named : (before now : List Kept) → HasQuasiOrNot table s t before now → (now ≡ before) ⊎ (now ≡ with_quasi_at before s k r)
  named before now (inl same) = inl same
  named before now (inr h) =
      let d = h.2 in
      let at : h.0 ≡ k = omega (arith, ints, d, degree) in
      let one : h.1 ≡ r = quasi_once table s t h.1 r h.3 is_quasi in
      inr (h.4 ∙ ap (λ (n : ℕ). with_quasi_at before s n h.1) at ∙ ap (with_quasi_at before s k) one)

  module _ (m : SteenrodModule) (kept : List Kept) (bare : IsKeptBare kept s k) where
    some : 0 < length kept
    some = by_kept kept bare.there
      where
        by_kept : (l : List Kept) → kept_at l s k ≡ Some bare.square → 0 < length l
        by_kept [] is = absurd (cc)
        by_kept (x ∷ xs) is = omega arith

    -- an image keeps what was kept, or that and the quasi-inverse
    image_keeps : (c : List ℕ) → HasQuasiOrNot table s t kept (kept_of m c) → Keeps m kept c ⊎ Keeps m (with_quasi_at kept s k r) c
    image_keeps c h = elim (named kept (kept_of m c) h) [
      | inl same ↦ inl (stands_keeps m c kept some same)
      | inr more ↦ inr (stands_keeps m c (with_quasi_at kept s k r) (let n = some in omega (arith, n, longer_given s k r kept)) more)
    ]

    stands_here : (c : List ℕ) → Keeps m kept c ⊎ Keeps m (with_quasi_at kept s k r) c → standing_of m c ≡ Ok (entries kept)
    stands_here c (inl h) = h.stands
    stands_here c (inr h) = h.stands ∙ ap (λ (l : List Entry). Ok l) (entries-with_quasi_at kept s k r)

    -- a quasi-inverse that an image has at that place is this one
    at_place : (d : List ℕ) → Keeps m kept d ⊎ Keeps m (with_quasi_at kept s k r) d → (i j : ℕ) (x : Kept) (q : Reduction) → kept_at (kept_of m d) i j ≡ Some x → x.quasi ≡ Some q → is_at x.entry s k ≡ true → q ≡ r
    at_place d h i j x q there is test =
        let p = and_parts (nat_eq x.entry.s s) (nat_eq x.entry.above k) test in
        let place = place_is s k r (kept_of m d) i j x there in
        let row : i ≡ s = sym place.0 ∙ eqb-true x.entry.s s p.0 in
        let above : j ≡ k = sym place.1 ∙ eqb-true x.entry.above k p.1 in
        let here : kept_at (kept_of m d) s k ≡ Some x = subst (λ (n : ℕ). kept_at (kept_of m d) n k ≡ Some x) row (subst (λ (n : ℕ). kept_at (kept_of m d) i n ≡ Some x) above there) in
        by_image h here
      where
        by_image : Keeps m kept d ⊎ Keeps m (with_quasi_at kept s k r) d → kept_at (kept_of m d) s k ≡ Some x → q ≡ r
        by_image (inl keeps) here =
            let old : kept_at kept s k ≡ Some x = ap (λ (l : List Kept). kept_at l s k) (sym keeps.quasis) ∙ here in
            let same : bare.square ≡ x = same_Some bare.square x (sym bare.there ∙ old) in
            let none : x.quasi ≡ None = subst (λ (z : Kept). z.quasi ≡ None) same bare.bare in
            absurd (cc)
        by_image (inr keeps) here =
            let old : option_map (given_quasi s k r) (kept_at kept s k) ≡ Some x = sym (found_given s k r kept s k) ∙ ap (λ (l : List Kept). kept_at l s k) (sym keeps.quasis) ∙ here in
            let new : Some (given_quasi s k r bare.square) ≡ Some x = ap (option_map (given_quasi s k r)) (sym bare.there) ∙ old in
            let same : given_quasi s k r bare.square ≡ x = same_Some _ x new in
            elim (quasi_given_is s k r bare.square (is_at bare.square.entry s k) refl q (subst (λ (z : Kept). z.quasi ≡ Some q) (sym same) is)) [
              | inl was ↦ let none = bare.bare in absurd (cc)
              | inr given ↦ given.1
            ]

    -- an image keeps on what one before it has
    keeps_on : (d c : List ℕ) → Keeps m kept d ⊎ Keeps m (with_quasi_at kept s k r) d → Keeps m kept c ⊎ Keeps m (with_quasi_at kept s k r) c → (kept_of m c ≡ kept_of m d) ⊎ (kept_of m c ≡ with_quasi_at (kept_of m d) s k r) → KeepsOn m d c
    keeps_on d c was is step = record {
      stands = stands_here c is ∙ sym (stands_here d was);
      quasis = λ i j q has. elim step [
        | inl same ↦ record { square = has.square; there = ap (λ (l : List Kept). kept_at l i j) same ∙ has.there; is = has.is }
        | inr more ↦ record {
          square = given_quasi s k r has.square;
          there = ap (λ (l : List Kept). kept_at l i j) more ∙ found_given s k r (kept_of m d) i j ∙ ap (option_map (given_quasi s k r)) has.there;
          is = quasi_stays_given s k r has.square (is_at has.square.entry s k) refl q has.is (at_place d was i j has.square q has.there has.is);
        }
      ];
    }

  -- ---- the call

  module _ (old new : SaveState D) (past : HavePast store.moment store.images_at old.journal.disk new.journal.disk) (later : store.moment old.journal.disk ≤ store.moment new.journal.disk) where
    abbrev before : D
    before = old.journal.disk

    abbrev after : D
    after = new.journal.disk

    -- what is left since a moment, by the images at moments
    leaves_of : (P : List ℕ → Type 0) → ((c : List ℕ) → store.since after (store.moment before) c → P c) → LeavesOnly store.moment store.since before after P
    leaves_of P each = record {
      later = later;
      each = each;
      earlier = λ u c le left.
          let was = laws.at_since after u c left in
          elim (cases_lt (store.moment before) was.moment) [
            | inl behind ↦ inr (laws.since_at after (store.moment before) was.moment c (omega (arith, behind)) was.within was.image)
            | inr upto ↦ inl (laws.since_at before u was.moment c was.from upto ((past was.moment c upto).0 was.image))
          ];
      keeps = λ u c le left.
          let was = laws.at_since before u c left in
          laws.since_at after u was.moment c was.from (omega (arith, was.within, later)) ((past was.moment c was.within).1 was.image);
    }

    module _ (kept : List Kept) (bare : IsKeptBare kept s k) (between : (c : List ℕ) → store.since after (store.moment before) c → HasQuasiOrNot table s t kept (kept_of old.resolved.plain c)) where
      each_keeps : (c : List ℕ) → store.since after (store.moment before) c → Keeps old.resolved.plain kept c ⊎ Keeps old.resolved.plain (with_quasi_at kept s k r) c
      each_keeps c left = image_keeps old.resolved.plain kept bare c (between c left)

      pub come_here : ComeFromEarlier store.moment store.images_at before after (λ d c. HasQuasiOrNot table s t (kept_of old.resolved.plain d) (kept_of old.resolved.plain c)) → ComeFromEarlier store.moment store.images_at before after (KeepsOn old.resolved.plain)
      come_here come u v from le within c image =
          let was = come u v from le within c image in
          (was.0, was.1, keeps_on old.resolved.plain kept bare was.0 c (each_keeps was.0 (laws.since_at after (store.moment before) u was.0 from (omega (arith, le, within)) was.1)) (each_keeps c (laws.since_at after (store.moment before) v c (omega (arith, from, le)) within image)) (named (kept_of old.resolved.plain was.0) (kept_of old.resolved.plain c) was.2))

      abbrev given_one : Added
      given_one = record { s = s; above = k; reduction = r }

      pub amid_one : LeavesOnly store.moment store.since before after (KeepsAmid old.resolved.plain kept (given_one ∷ []))
      amid_one = leaves_of (KeepsAmid old.resolved.plain kept (given_one ∷ [])) (λ c left. elim (each_keeps c left) [
        | inl h ↦ record { first = []; rest = given_one ∷ []; parts = refl; more = []; at_most_one = omega arith; keeps = h }
        | inr h ↦ record { first = given_one ∷ []; rest = []; parts = refl; more = []; at_most_one = omega arith; keeps = h }
      ])

      pub part_one : LeavesOnly store.moment store.since before after (KeepsAtPart old.resolved.plain kept (given_one ∷ []))
      part_one = leaves_of (KeepsAtPart old.resolved.plain kept (given_one ∷ [])) (λ c left. elim (each_keeps c left) [
        | inl h ↦ record { first = []; rest = given_one ∷ []; parts = refl; keeps = h }
        | inr h ↦ record { first = given_one ∷ []; rest = []; parts = refl; keeps = h }
      ])

      -- where it was not put there, an image may have it all the same
      pub amid_none : LeavesOnly store.moment store.since before after (KeepsAmid old.resolved.plain kept [])
      amid_none = leaves_of (KeepsAmid old.resolved.plain kept []) (λ c left. elim (each_keeps c left) [
        | inl h ↦ record { first = []; rest = []; parts = refl; more = []; at_most_one = omega arith; keeps = h }
        | inr h ↦ record { first = []; rest = []; parts = refl; more = given_one ∷ []; at_most_one = omega arith; keeps = h }
      ])
