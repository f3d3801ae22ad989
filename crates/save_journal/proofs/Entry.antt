-- The calls of an opening, over any disk.
use Rattle.std.proofs.Common.{◌≡◌, ◌↔◌, ℕ, ◌+◌, ◌≤◌, List, [], ◌∷◌, ◌++◌, length, drop, Option, None, Some, cond, refl, sym, ◌∙◌, ap, subst, arith, length-append}
use Rattle.std.specs.Prelude.{IfSome}
use Rattle.std.specs.Option.{option_map}
use Rattle.std.proofs.lemmas.Bool.{le-leb}
use Rattle.std.proofs.lemmas.Option.{same_Some}
use Rattle.std.proofs.lemmas.List.{append-nil, drop_all}
use Rattle.std.proofs.lemmas.List.Elements.{All-nil}
use Rattle.edge.specs.Disk.{written, Torn, Follows, Only, Elapses, LeavesOnly, Passes}
use Rattle.edge.proofs.Moments.{Lawful}
use Rattle.edge.proofs.Moments.{where_some, at_told, told_before, started, goes_on, then_on, weaker}
use Rattle.save_journal.specs.Records.{Records, records_of, header, fresh, opened}
use Rattle.save_journal.specs.Journals.{IsSayable, IsAtRest, HasRecordsOf, HaveSameRecords, ComeFromEarlier}
use Rattle.save_journal.specs.Inside.Held.{IsHeld}
use Rattle.save_journal.proofs.Walk.{records_few}
use Rattle.save_journal.proofs.Retaining.{Goes, stays, shrinks, adds_none}

-- our header and a closed gate
pub fresh_at_rest : (digest file : List ℕ) → length digest ≡ 32 → file ≡ fresh digest → IsAtRest digest 40 [] file
fresh_at_rest digest file width is = record {
  gate = 0;
  behind = [];
  closed = omega arith;
  split = is ∙ ap (λ (l : List ℕ). l ++ 0 ∷ []) (sym (append-nil (header digest)));
  place = refl;
  width = width;
  sayable = All-nil IsSayable;
}

pub length-fresh : (digest : List ℕ) → length digest ≡ 32 → length (fresh digest) ≡ 41
length-fresh digest width = omega (arith, length-append (header digest) (0 ∷ []), length-append (0x45 ∷ 0x58 ∷ 0x54 ∷ 0x53 ∷ 0x41 ∷ 0x56 ∷ 0x45 ∷ 0x31 ∷ []) digest, width)

written_fresh : (digest file : List ℕ) → length digest ≡ 32 → length file ≤ 41 → written 0 (fresh digest) file ≡ fresh digest
written_fresh digest file width few =
    let none : drop (0 + length (fresh digest)) file ≡ [] = drop_all (0 + length (fresh digest)) file (omega (arith, length-fresh digest width)) in
    ap (λ (l : List ℕ). fresh digest ++ l) none ∙ append-nil (fresh digest)

-- what is written into a file without room for a record
pub opened_few : (digest file : List ℕ) → length file ≤ 41 → opened digest file ≡ fresh digest
opened_few digest file few = ap (λ b. cond b (fresh digest) file) (le-leb (length file) 41 few)

written_told : (o : Option (List ℕ)) (digest bytes : List ℕ) → length digest ≡ 32 → length bytes ≤ 41 → IfSome o (λ f. bytes ≡ f) → option_map (written 0 (fresh digest)) o ≡ option_map (opened digest) o
written_told None digest bytes width few read = refl
written_told (Some file) digest bytes width few read =
    let short : length file ≤ 41 = omega (arith, ap length read) in
    ap (λ (f : List ℕ). Some f) (written_fresh digest file width short ∙ sym (opened_few digest file short))

module _ {D : Type 0} {now : D → Option (List ℕ)} {moment : D → ℕ} {images : D → List ℕ → Type 0} {since : D → ℕ → List ℕ → Type 0} (laws : Lawful now moment images since) (digest : List ℕ) (d0 : D) where
  abbrev P : List ℕ → Type 0
  P = HasRecordsOf digest (images d0)

  abbrev Same : List ℕ → List ℕ → Type 0
  Same = HaveSameRecords digest

  same_itself : (c : List ℕ) → Same c c
  same_itself c = refl

  module _ (d1 : D) (fewer1 : (c : List ℕ) → images d1 c → images d0 c) (time1 : Elapses (moment d0) (moment d1) (since d0) (since d1) (images d1)) where
    pub leaves1 : LeavesOnly moment since d0 d1 P
    leaves1 = goes_on now moment images since laws d0 d0 d1 P (started now moment images since laws d0 P (λ c left. (c, left, refl))) time1 (λ c left. (c, fewer1 c left, refl))

    pub leaves1_told : IfSome (now d0) (λ _. LeavesOnly moment since d0 d1 P)
    leaves1_told = where_some (now d0) (λ _. LeavesOnly moment since d0 d1 P) (λ _ _. leaves1)

    pub goes1 : (at : D → ℕ → List ℕ → Type 0) (law : (d : D) (c : List ℕ) → at d (moment d) c ↔ images d c) (passes1 : Passes (moment d0) (moment d1) (at d0) (at d1) (images d1)) → Goes moment at Same d0 d1
    goes1 at law passes1 = shrinks moment images at law Same same_itself d0 d0 d1 (stays moment at digest d0) time1.later passes1 fewer1

    pub retained1 : (at : D → ℕ → List ℕ → Type 0) (law : (d : D) (c : List ℕ) → at d (moment d) c ↔ images d c) (passes1 : Passes (moment d0) (moment d1) (at d0) (at d1) (images d1)) → IfSome (now d0) (λ _. ComeFromEarlier moment at d0 d1 Same)
    retained1 at law passes1 = where_some (now d0) (λ _. ComeFromEarlier moment at d0 d1 Same) (λ _ _. (goes1 at law passes1).2)

    module _ (d2 : D) (leaves12 : LeavesOnly moment since d1 d2 (images d1)) where
      pub leaves2 : LeavesOnly moment since d0 d2 P
      leaves2 = then_on now moment images since laws d0 d1 d2 P leaves1 (weaker now moment images since laws d1 d2 (images d1) P leaves12 (λ c left. (c, fewer1 c left, refl)))

      pub leaves2_told : IfSome (now d0) (λ _. LeavesOnly moment since d0 d2 P)
      leaves2_told = where_some (now d0) (λ _. LeavesOnly moment since d0 d2 P) (λ _ _. leaves2)

      -- no image is new
      pub alone2 : LeavesOnly moment since d0 d2 (images d0)
      alone2 =
          let first = goes_on now moment images since laws d0 d0 d1 (images d0) (started now moment images since laws d0 (images d0) (λ c left. left)) time1 fewer1 in
          then_on now moment images since laws d0 d1 d2 (images d0) first (weaker now moment images since laws d1 d2 (images d1) (images d0) leaves12 fewer1)

      -- whatever calls come behind
      pub timed3 : (d3 : D) → Elapses (moment d2) (moment d3) (since d2) (since d3) (images d3) → LeavesOnly moment since d0 d3 (λ _. Unit {0})
      timed3 d3 time3 = goes_on now moment images since laws d0 d2 d3 (λ _. Unit {0}) (weaker now moment images since laws d0 d2 P (λ _. Unit {0}) leaves2 (λ c has. tt)) time3 (λ c left. tt)

      pub timed4 : (d3 d4 : D) → Elapses (moment d2) (moment d3) (since d2) (since d3) (images d3) → Elapses (moment d3) (moment d4) (since d3) (since d4) (images d4) → LeavesOnly moment since d0 d4 (λ _. Unit {0})
      timed4 d3 d4 time3 time4 = goes_on now moment images since laws d0 d3 d4 (λ _. Unit {0}) (timed3 d3 time3) time4 (λ c left. tt)

      pub goes2 : (at : D → ℕ → List ℕ → Type 0) (law : (d : D) (c : List ℕ) → at d (moment d) c ↔ images d c) (passes1 : Passes (moment d0) (moment d1) (at d0) (at d1) (images d1)) (passes2 : Passes (moment d1) (moment d2) (at d1) (at d2) (images d2)) (fewer : (c : List ℕ) → images d2 c → images d1 c) → Goes moment at Same d0 d2
      goes2 at law passes1 passes2 fewer = shrinks moment images at law Same same_itself d0 d1 d2 (goes1 at law passes1) leaves12.later passes2 fewer

      pub retained2 : (at : D → ℕ → List ℕ → Type 0) (law : (d : D) (c : List ℕ) → at d (moment d) c ↔ images d c) (passes1 : Passes (moment d0) (moment d1) (at d0) (at d1) (images d1)) (passes2 : Passes (moment d1) (moment d2) (at d1) (at d2) (images d2)) (fewer : (c : List ℕ) → images d2 c → images d1 c) → IfSome (now d0) (λ _. ComeFromEarlier moment at d0 d2 Same)
      retained2 at law passes1 passes2 fewer = where_some (now d0) (λ _. ComeFromEarlier moment at d0 d2 Same) (λ _ _. (goes2 at law passes1 passes2 fewer).2)

      module _ (durable1 : IfSome (now d0) (λ f. Only f (images d1))) (fewer2 : (c : List ℕ) → images d2 c → images d1 c) (same1 : now d1 ≡ now d0) (same2 : now d2 ≡ now d1) (bytes : List ℕ) (read : IfSome (now d1) (λ f. bytes ≡ f)) where
        read_is : (file : List ℕ) → now d0 ≡ Some file → bytes ≡ file
        read_is file here = at_told (now d1) (λ f. bytes ≡ f) file (same1 ∙ here) read

        only2 : (file : List ℕ) → now d0 ≡ Some file → Only file (images d2)
        only2 file here c left = at_told (now d0) (λ f. Only f (images d1)) file here durable1 c (fewer2 c left)

        told0 : (f : List ℕ) → now d2 ≡ Some f → now d0 ≡ Some f
        told0 f there = sym same1 ∙ sym same2 ∙ there

        -- what was read holds at the end
        pub held2 : (end : ℕ) (list : List (List ℕ)) → IsAtRest digest end list bytes → IfSome (now d2) (λ f. IsHeld digest end list f (images d2))
        held2 end list r = where_some (now d2) (λ f. IsHeld digest end list f (images d2)) (λ f there. record {
          at_rest = subst (IsAtRest digest end list) (read_is f (told0 f there)) r;
          only = only2 f (told0 f there);
        })

        pub refused2 : (Q : Records → Type 0) → Q (records_of digest bytes) → IfSome (now d0) (λ f. Q (records_of digest f))
        refused2 Q q = where_some (now d0) (λ f. Q (records_of digest f)) (λ f here. subst (λ b. Q (records_of digest b)) (read_is f here) q)

        module _ (few : length bytes ≤ 41) (width : length digest ≡ 32) (d3 : D) (follows3 : Follows (Torn 0 41) (images d2) (images d3)) (time3 : Elapses (moment d2) (moment d3) (since d2) (since d3) (images d3)) where
          stage3 : (file : List ℕ) → now d0 ≡ Some file → (c : List ℕ) → images d3 c → P c
          stage3 file here c left =
              let from = follows3 c left in
              let torn : Torn 0 41 file c = subst (λ f. Torn 0 41 f c) (only2 file here from.0 from.1) from.2 in
              let short : length file ≤ 41 = omega (arith, ap length (read_is file here)) in
              (file, at_told (now d0) (λ f. images d0 f) file here (laws.now_is_image d0), records_few digest c (omega (arith, torn.no_longer)) ∙ sym (records_few digest file short))

          pub leaves3 : IfSome (now d0) (λ _. LeavesOnly moment since d0 d3 P)
          leaves3 = where_some (now d0) (λ _. LeavesOnly moment since d0 d3 P) (λ file here. goes_on now moment images since laws d0 d2 d3 P leaves2 time3 (stage3 file here))

          adds3 : (file : List ℕ) → now d0 ≡ Some file → (c : List ℕ) → images d3 c → (d : List ℕ) × images d2 d × Same d c
          adds3 file here c left =
              let from = follows3 c left in
              let torn : Torn 0 41 file c = subst (λ f. Torn 0 41 f c) (only2 file here from.0 from.1) from.2 in
              let short : length file ≤ 41 = omega (arith, ap length (read_is file here)) in
              let there : now d2 ≡ Some file = same2 ∙ same1 ∙ here in
              (file, at_told (now d2) (λ f. images d2 f) file there (laws.now_is_image d2), records_few digest c (omega (arith, torn.no_longer)) ∙ sym (records_few digest file short))

          goes3 : (at : D → ℕ → List ℕ → Type 0) (law : (d : D) (c : List ℕ) → at d (moment d) c ↔ images d c) (passes1 : Passes (moment d0) (moment d1) (at d0) (at d1) (images d1)) (passes2 : Passes (moment d1) (moment d2) (at d1) (at d2) (images d2)) (passes3 : Passes (moment d2) (moment d3) (at d2) (at d3) (images d3)) (file : List ℕ) → now d0 ≡ Some file → Goes moment at Same d0 d3
          goes3 at law passes1 passes2 passes3 file here = adds_none moment images at law digest d0 d2 d3 (goes2 at law passes1 passes2 fewer2) time3.later passes3 (adds3 file here)

          pub retained3 : (at : D → ℕ → List ℕ → Type 0) (law : (d : D) (c : List ℕ) → at d (moment d) c ↔ images d c) (passes1 : Passes (moment d0) (moment d1) (at d0) (at d1) (images d1)) (passes2 : Passes (moment d1) (moment d2) (at d1) (at d2) (images d2)) (passes3 : Passes (moment d2) (moment d3) (at d2) (at d3) (images d3)) → IfSome (now d0) (λ _. ComeFromEarlier moment at d0 d3 Same)
          retained3 at law passes1 passes2 passes3 = where_some (now d0) (λ _. ComeFromEarlier moment at d0 d3 Same) (λ file here. (goes3 at law passes1 passes2 passes3 file here).2)

          module _ (d4 : D) (fewer4 : (c : List ℕ) → images d4 c → images d3 c) (time4 : Elapses (moment d3) (moment d4) (since d3) (since d4) (images d4)) where
            pub leaves4 : IfSome (now d0) (λ _. LeavesOnly moment since d0 d4 P)
            leaves4 = where_some (now d0) (λ _. LeavesOnly moment since d0 d4 P) (λ file here.
                goes_on now moment images since laws d0 d3 d4 P (at_told (now d0) (λ _. LeavesOnly moment since d0 d3 P) file here leaves3) time4 (λ c left. stage3 file here c (fewer4 c left)))

            pub retained4 : (at : D → ℕ → List ℕ → Type 0) (law : (d : D) (c : List ℕ) → at d (moment d) c ↔ images d c) (passes1 : Passes (moment d0) (moment d1) (at d0) (at d1) (images d1)) (passes2 : Passes (moment d1) (moment d2) (at d1) (at d2) (images d2)) (passes3 : Passes (moment d2) (moment d3) (at d2) (at d3) (images d3)) (passes4 : Passes (moment d3) (moment d4) (at d3) (at d4) (images d4)) → IfSome (now d0) (λ _. ComeFromEarlier moment at d0 d4 Same)
            retained4 at law passes1 passes2 passes3 passes4 = where_some (now d0) (λ _. ComeFromEarlier moment at d0 d4 Same) (λ file here.
                (shrinks moment images at law Same same_itself d0 d3 d4 (goes3 at law passes1 passes2 passes3 file here) time4.later passes4 fewer4).2)

            pub held4 : now d3 ≡ option_map (written 0 (fresh digest)) (now d2) → now d4 ≡ now d3 → IfSome (now d3) (λ f. Only f (images d4)) → IfSome (now d4) (λ f. IsHeld digest 40 [] f (images d4))
            held4 written3 same4 durable4 = where_some (now d4) (λ f. IsHeld digest 40 [] f (images d4)) (λ f there.
                let back = told_before (now d2) (written 0 (fresh digest)) f (sym written3 ∙ sym same4 ∙ there) in
                let file = back.0 in
                let short : length file ≤ 41 = omega (arith, ap length (read_is file (told0 file back.1))) in
                let is3 : now d3 ≡ Some (fresh digest) = written3 ∙ ap (option_map (written 0 (fresh digest))) back.1 ∙ ap (λ (x : List ℕ). Some x) (written_fresh digest file width short) in
                let same : f ≡ fresh digest = same_Some f (fresh digest) (sym there ∙ same4 ∙ is3) in
                record {
                  at_rest = fresh_at_rest digest f width same;
                  only = subst (λ x. Only x (images d4)) (sym same) (at_told (now d3) (λ x. Only x (images d4)) (fresh digest) is3 durable4);
                })

            -- the file at the end
            pub file4 : now d3 ≡ option_map (written 0 (fresh digest)) (now d2) → now d4 ≡ now d3 → now d4 ≡ option_map (opened digest) (now d0)
            file4 written3 same4 =
                let back : now d2 ≡ now d0 = same2 ∙ same1 in
                same4 ∙ written3 ∙ ap (option_map (written 0 (fresh digest))) back ∙ written_told (now d0) digest bytes width few (subst (λ o. IfSome o (λ f. bytes ≡ f)) same1 read)
