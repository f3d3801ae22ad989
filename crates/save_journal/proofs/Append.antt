-- The four calls of an append, over any disk.
use Rattle.std.proofs.Common.{◌≡◌, ◌⊎◌, ◌↔◌, inl, ℕ, ◌+◌, ◌≤◌, List, [], ◌∷◌, ◌++◌, length, drop, Option, Some, refl, sym, ◌∙◌, ap, subst, arith}
use Rattle.std.specs.Prelude.{IfSome}
use Rattle.std.specs.Option.{option_map}
use Rattle.std.proofs.lemmas.Option.{same_Some}
use Rattle.edge.specs.Disk.{written, Torn, Follows, Only, IsTold, AreTold, Elapses, LeavesOnly, Passes}
use Rattle.edge.proofs.Moments.{Lawful}
use Rattle.edge.proofs.Moments.{where_told, at_told, is_told, both_told, told_before, where_some, started, goes_on}
use Rattle.save_journal.specs.Records.{records_of, and_last, framed, encoded, header}
use Rattle.save_journal.specs.Journals.{IsSayable, IsAtRest, IsSettled, IsBeforeOrAfter, HaveSameRecords, ComeFromEarlier}
use Rattle.save_journal.proofs.Frames.{length-framed}
use Rattle.save_journal.proofs.Walk.{at_rest_records}
use Rattle.save_journal.proofs.Retaining.{Goes, WithBody, come_also, stays, shrinks, adds_none, adds_body}
use Rattle.save_journal.proofs.Torn.{length-at_rest, torn_behind, staged, with_gate, length-with_gate, open_gate, torn_gate, written_gate}

module _ {D : Type 0} {now : D → Option (List ℕ)} {moment : D → ℕ} {images : D → List ℕ → Type 0} {since : D → ℕ → List ℕ → Type 0} (laws : Lawful now moment images since) (digest : List ℕ) (end : ℕ) (body bytes : List ℕ) (is : bytes ≡ framed body) (says : IsSayable body) (d0 : D) where
  abbrev Settled : List ℕ → Type 0
  Settled file = IsSettled digest end file (images d0)

  abbrev P : List ℕ → List ℕ → Type 0
  P file = IsBeforeOrAfter digest (records_of digest file) body

  abbrev Same : List ℕ → List ℕ → Type 0
  Same = HaveSameRecords digest

  same_itself : (c : List ℕ) → Same c c
  same_itself c = refl

  abbrev Step : List ℕ → List ℕ → Type 0
  Step = WithBody digest body

  -- what a read gives after the call, where it was told before
  pub told_of : (d : D) → AreTold (λ _ _. Unit {0}) (now d0) (now d) → IfSome (now d0) (λ file. LeavesOnly moment since d0 d (P file)) → AreTold P (now d0) (now d)
  told_of d told leaves = both_told (now d0) (now d) P told (λ file f here there.
      let all = at_told (now d0) (λ file. LeavesOnly moment since d0 d (P file)) file here leaves in
      let image = at_told (now d) (λ f. images d f) f there (laws.now_is_image d) in
      all.each f (laws.since_earlier d (moment d0) (moment d) f all.later (laws.counts_now d f image)))

  module _ (settled : IfSome (now d0) (λ file. IsSettled digest end file (images d0))) where
    pub place_behind : IfSome (now d0) (λ file. end + 1 ≤ length file)
    place_behind = where_told (now d0) Settled (λ file. end + 1 ≤ length file) settled (λ file _ s. omega (arith, length-at_rest digest end s.list file s.at_rest))

    same_before : (file : List ℕ) (s : Settled file) (c : List ℕ) → IsAtRest digest end s.list c → Same file c
    same_before file s c r = at_rest_records digest end s.list c r ∙ sym (at_rest_records digest end s.list file s.at_rest)

    before : (file : List ℕ) (s : Settled file) (c : List ℕ) → IsAtRest digest end s.list c → P file c
    before file s c r = inl (same_before file s c r)

    opening : (file : List ℕ) (s : Settled file) → LeavesOnly moment since d0 d0 (P file)
    opening file s = started now moment images since laws d0 (P file) (λ c left. inl (ap (records_of digest) (s.only c left)))

    module _ (d1 : D) (follows1 : Follows (Torn (end + 1) (length bytes)) (images d0) (images d1)) (time1 : Elapses (moment d0) (moment d1) (since d0) (since d1) (images d1)) where
      stage1 : (file : List ℕ) (s : Settled file) (c : List ℕ) → images d1 c → IsAtRest digest end s.list c
      stage1 file s c left =
          let from = follows1 c left in
          torn_behind digest end s.list file s.at_rest (length bytes) c (subst (λ f. Torn (end + 1) (length bytes) f c) (s.only from.0 from.1) from.2)

      leaves1_at : (file : List ℕ) (s : Settled file) → LeavesOnly moment since d0 d1 (P file)
      leaves1_at file s = goes_on now moment images since laws d0 d0 d1 (P file) (opening file s) time1 (λ c left. before file s c (stage1 file s c left))

      pub leaves1 : IfSome (now d0) (λ file. LeavesOnly moment since d0 d1 (P file))
      leaves1 = where_told (now d0) Settled (λ file. LeavesOnly moment since d0 d1 (P file)) settled (λ file _ s. leaves1_at file s)

      adds1 : (file : List ℕ) (s : Settled file) → now d0 ≡ Some file → (c : List ℕ) → images d1 c → (d : List ℕ) × images d0 d × Same d c
      adds1 file s here c left = (file, at_told (now d0) (λ f. images d0 f) file here (laws.now_is_image d0), same_before file s c (stage1 file s c left))

      goes1 : (at : D → ℕ → List ℕ → Type 0) (law : (d : D) (c : List ℕ) → at d (moment d) c ↔ images d c) (passes1 : Passes (moment d0) (moment d1) (at d0) (at d1) (images d1)) (file : List ℕ) (s : Settled file) → now d0 ≡ Some file → Goes moment at Same d0 d1
      goes1 at law passes1 file s here = adds_none moment images at law digest d0 d0 d1 (stays moment at digest d0) time1.later passes1 (adds1 file s here)

      pub retained1 : (at : D → ℕ → List ℕ → Type 0) (law : (d : D) (c : List ℕ) → at d (moment d) c ↔ images d c) (passes1 : Passes (moment d0) (moment d1) (at d0) (at d1) (images d1)) → IfSome (now d0) (λ _. ComeFromEarlier moment at d0 d1 Step)
      retained1 at law passes1 = where_told (now d0) Settled (λ _. ComeFromEarlier moment at d0 d1 Step) settled (λ file here s. come_also moment at d0 d1 Same Step (λ d c s. inl s) (goes1 at law passes1 file s here).2)

      module _ (d2 : D) (fewer2 : (c : List ℕ) → images d2 c → images d1 c) (time2 : Elapses (moment d1) (moment d2) (since d1) (since d2) (images d2)) where
        leaves2_at : (file : List ℕ) (s : Settled file) → LeavesOnly moment since d0 d2 (P file)
        leaves2_at file s = goes_on now moment images since laws d0 d1 d2 (P file) (leaves1_at file s) time2 (λ c left. before file s c (stage1 file s c (fewer2 c left)))

        pub leaves2 : IfSome (now d0) (λ file. LeavesOnly moment since d0 d2 (P file))
        leaves2 = where_told (now d0) Settled (λ file. LeavesOnly moment since d0 d2 (P file)) settled (λ file _ s. leaves2_at file s)

        goes2 : (at : D → ℕ → List ℕ → Type 0) (law : (d : D) (c : List ℕ) → at d (moment d) c ↔ images d c) (passes1 : Passes (moment d0) (moment d1) (at d0) (at d1) (images d1)) (passes2 : Passes (moment d1) (moment d2) (at d1) (at d2) (images d2)) (file : List ℕ) (s : Settled file) → now d0 ≡ Some file → Goes moment at Same d0 d2
        goes2 at law passes1 passes2 file s here = shrinks moment images at law Same same_itself d0 d1 d2 (goes1 at law passes1 file s here) time2.later passes2 fewer2

        pub retained2 : (at : D → ℕ → List ℕ → Type 0) (law : (d : D) (c : List ℕ) → at d (moment d) c ↔ images d c) (passes1 : Passes (moment d0) (moment d1) (at d0) (at d1) (images d1)) (passes2 : Passes (moment d1) (moment d2) (at d1) (at d2) (images d2)) → IfSome (now d0) (λ _. ComeFromEarlier moment at d0 d2 Step)
        retained2 at law passes1 passes2 = where_told (now d0) Settled (λ _. ComeFromEarlier moment at d0 d2 Step) settled (λ file here s. come_also moment at d0 d2 Same Step (λ d c s. inl s) (goes2 at law passes1 passes2 file s here).2)

        module _ (written1 : now d1 ≡ option_map (written (end + 1) bytes) (now d0)) (same2 : now d2 ≡ now d1) (durable2 : IfSome (now d1) (λ f. Only f (images d2))) where
          abbrev rest : List ℕ → List ℕ
          rest file = drop (end + 1 + length bytes) file

          abbrev gated : (file : List ℕ) → Settled file → ℕ → List ℕ
          gated file s gate = with_gate digest s.list body (rest file) gate

          now1 : (file : List ℕ) (s : Settled file) → now d0 ≡ Some file → now d1 ≡ Some (gated file s s.at_rest.gate)
          now1 file s here =
              written1 ∙ ap (option_map (written (end + 1) bytes)) here
              ∙ ap (λ (f : List ℕ). Some f) (staged digest end s.list file s.at_rest bytes ∙ ap (λ (b : List ℕ). header digest ++ encoded s.list ++ s.at_rest.gate ∷ (b ++ rest file)) is)

          only2 : (file : List ℕ) (s : Settled file) → now d0 ≡ Some file → Only (gated file s s.at_rest.gate) (images d2)
          only2 file s here = at_told (now d1) (λ f. Only f (images d2)) (gated file s s.at_rest.gate) (now1 file s here) durable2

          now2 : (file : List ℕ) (s : Settled file) → now d0 ≡ Some file → now d2 ≡ Some (gated file s s.at_rest.gate)
          now2 file s here = same2 ∙ now1 file s here

          pub place_gate : IfSome (now d2) (λ f. end ≤ length f)
          place_gate = where_some (now d2) (λ f. end ≤ length f) (λ f there.
              let back0 = told_before (now d0) (written (end + 1) bytes) f (sym written1 ∙ sym same2 ∙ there) in
              let file = back0.0 in
              let s : Settled file = at_told (now d0) Settled file back0.1 settled in
              let same : f ≡ gated file s s.at_rest.gate = same_Some f (gated file s s.at_rest.gate) (sym there ∙ now2 file s back0.1) in
              omega (arith, ap length same, length-with_gate digest end s.list body (rest file) s.at_rest.place s.at_rest.width s.at_rest.sayable says s.at_rest.gate))

          module _ (d3 : D) (follows3 : Follows (Torn end 1) (images d2) (images d3)) (time3 : Elapses (moment d2) (moment d3) (since d2) (since d3) (images d3)) where
            stage3 : (file : List ℕ) (s : Settled file) → now d0 ≡ Some file → (c : List ℕ) → images d3 c → P file c
            stage3 file s here c left =
                let from = follows3 c left in
                let torn : Torn end 1 (gated file s s.at_rest.gate) c = subst (λ f. Torn end 1 f c) (only2 file s here from.0 from.1) from.2 in
                let found = torn_gate digest end s.list body (rest file) s.at_rest.place s.at_rest.width s.at_rest.sayable says s.at_rest.gate c torn in
                subst (λ r. (records_of digest c ≡ r) ⊎ (records_of digest c ≡ and_last r body)) (sym (at_rest_records digest end s.list file s.at_rest)) found

            leaves3_at : (file : List ℕ) (s : Settled file) → now d0 ≡ Some file → LeavesOnly moment since d0 d3 (P file)
            leaves3_at file s here = goes_on now moment images since laws d0 d2 d3 (P file) (leaves2_at file s) time3 (stage3 file s here)

            pub leaves3 : IfSome (now d0) (λ file. LeavesOnly moment since d0 d3 (P file))
            leaves3 = where_told (now d0) Settled (λ file. LeavesOnly moment since d0 d3 (P file)) settled (λ file here s. leaves3_at file s here)

            adds3 : (file : List ℕ) (s : Settled file) → now d0 ≡ Some file → (c : List ℕ) → images d3 c → (d : List ℕ) × images d2 d × IsBeforeOrAfter digest (records_of digest d) body c
            adds3 file s here c left =
                let from = follows3 c left in
                let same : records_of digest from.0 ≡ records_of digest file = at_rest_records digest end s.list from.0 (stage1 file s from.0 (fewer2 from.0 from.1)) ∙ sym (at_rest_records digest end s.list file s.at_rest) in
                (from.0, from.1, subst (λ r. (records_of digest c ≡ r) ⊎ (records_of digest c ≡ and_last r body)) (sym same) (stage3 file s here c left))

            goes3 : (at : D → ℕ → List ℕ → Type 0) (law : (d : D) (c : List ℕ) → at d (moment d) c ↔ images d c) (passes1 : Passes (moment d0) (moment d1) (at d0) (at d1) (images d1)) (passes2 : Passes (moment d1) (moment d2) (at d1) (at d2) (images d2)) (passes3 : Passes (moment d2) (moment d3) (at d2) (at d3) (images d3)) (file : List ℕ) (s : Settled file) → now d0 ≡ Some file → Goes moment at Step d0 d3
            goes3 at law passes1 passes2 passes3 file s here = adds_body moment images at law digest body d0 d2 d3 (goes2 at law passes1 passes2 file s here) time3.later passes3 (adds3 file s here)

            pub retained3 : (at : D → ℕ → List ℕ → Type 0) (law : (d : D) (c : List ℕ) → at d (moment d) c ↔ images d c) (passes1 : Passes (moment d0) (moment d1) (at d0) (at d1) (images d1)) (passes2 : Passes (moment d1) (moment d2) (at d1) (at d2) (images d2)) (passes3 : Passes (moment d2) (moment d3) (at d2) (at d3) (images d3)) → IfSome (now d0) (λ _. ComeFromEarlier moment at d0 d3 Step)
            retained3 at law passes1 passes2 passes3 = where_told (now d0) Settled (λ _. ComeFromEarlier moment at d0 d3 Step) settled (λ file here s. (goes3 at law passes1 passes2 passes3 file s here).2)

            module _ (d4 : D) (fewer4 : (c : List ℕ) → images d4 c → images d3 c) (time4 : Elapses (moment d3) (moment d4) (since d3) (since d4) (images d4)) where
              leaves4_at : (file : List ℕ) (s : Settled file) → now d0 ≡ Some file → LeavesOnly moment since d0 d4 (P file)
              leaves4_at file s here = goes_on now moment images since laws d0 d3 d4 (P file) (leaves3_at file s here) time4 (λ c left. stage3 file s here c (fewer4 c left))

              pub leaves4 : IfSome (now d0) (λ file. LeavesOnly moment since d0 d4 (P file))
              leaves4 = where_told (now d0) Settled (λ file. LeavesOnly moment since d0 d4 (P file)) settled (λ file here s. leaves4_at file s here)

              goes4 : (at : D → ℕ → List ℕ → Type 0) (law : (d : D) (c : List ℕ) → at d (moment d) c ↔ images d c) (passes1 : Passes (moment d0) (moment d1) (at d0) (at d1) (images d1)) (passes2 : Passes (moment d1) (moment d2) (at d1) (at d2) (images d2)) (passes3 : Passes (moment d2) (moment d3) (at d2) (at d3) (images d3)) (passes4 : Passes (moment d3) (moment d4) (at d3) (at d4) (images d4)) (file : List ℕ) (s : Settled file) → now d0 ≡ Some file → Goes moment at Step d0 d4
              goes4 at law passes1 passes2 passes3 passes4 file s here = shrinks moment images at law Step (λ c. inl refl) d0 d3 d4 (goes3 at law passes1 passes2 passes3 file s here) time4.later passes4 fewer4

              pub retained4 : (at : D → ℕ → List ℕ → Type 0) (law : (d : D) (c : List ℕ) → at d (moment d) c ↔ images d c) (passes1 : Passes (moment d0) (moment d1) (at d0) (at d1) (images d1)) (passes2 : Passes (moment d1) (moment d2) (at d1) (at d2) (images d2)) (passes3 : Passes (moment d2) (moment d3) (at d2) (at d3) (images d3)) (passes4 : Passes (moment d3) (moment d4) (at d3) (at d4) (images d4)) → IfSome (now d0) (λ _. ComeFromEarlier moment at d0 d4 Step)
              retained4 at law passes1 passes2 passes3 passes4 = where_told (now d0) Settled (λ _. ComeFromEarlier moment at d0 d4 Step) settled (λ file here s. (goes4 at law passes1 passes2 passes3 passes4 file s here).2)

              module _ (written3 : now d3 ≡ option_map (written end (0xA5 ∷ [])) (now d2)) (same4 : now d4 ≡ now d3) (durable4 : IfSome (now d3) (λ f. Only f (images d4))) where
                now3 : (file : List ℕ) (s : Settled file) → now d0 ≡ Some file → now d3 ≡ Some (gated file s 0xA5)
                now3 file s here =
                    written3 ∙ ap (option_map (written end (0xA5 ∷ []))) (now2 file s here)
                    ∙ ap (λ (f : List ℕ). Some f) (written_gate digest end s.list body (rest file) s.at_rest.place s.at_rest.width s.at_rest.sayable says s.at_rest.gate)

                after : (file : List ℕ) (s : Settled file) → IsAtRest digest (end + length bytes) (s.list ++ body ∷ []) (gated file s 0xA5)
                after file s =
                    let e : end + 41 + length body ≡ end + length bytes = omega (arith, ap length is, length-framed body) in
                    subst (λ n. IsAtRest digest n (s.list ++ body ∷ []) (gated file s 0xA5)) e (open_gate digest end s.list body (rest file) s.at_rest.place s.at_rest.width s.at_rest.sayable says)

                pub told4 : IfSome (now d0) (λ file. IsTold (now d4) (λ f. records_of digest f ≡ and_last (records_of digest file) body))
                told4 = where_told (now d0) Settled (λ file. IsTold (now d4) (λ f. records_of digest f ≡ and_last (records_of digest file) body)) settled (λ file here s.
                    is_told (now d4) (λ f. records_of digest f ≡ and_last (records_of digest file) body) (gated file s 0xA5) (same4 ∙ now3 file s here)
                    (at_rest_records _ _ _ _ (after file s) ∙ ap (λ r. and_last r body) (sym (at_rest_records digest end s.list file s.at_rest))))

                only4 : (file : List ℕ) (s : Settled file) → now d0 ≡ Some file → Only (gated file s 0xA5) (images d4)
                only4 file s here = at_told (now d3) (λ x. Only x (images d4)) (gated file s 0xA5) (now3 file s here) durable4

                pub durable : IfSome (now d0) (λ file. (c : List ℕ) → images d4 c → records_of digest c ≡ and_last (records_of digest file) body)
                durable = where_told (now d0) Settled (λ file. (c : List ℕ) → images d4 c → records_of digest c ≡ and_last (records_of digest file) body) settled (λ file here s c left.
                    ap (records_of digest) (only4 file s here c left) ∙ at_rest_records _ _ _ _ (after file s) ∙ ap (λ r. and_last r body) (sym (at_rest_records digest end s.list file s.at_rest)))

                pub settled4 : IfSome (now d4) (λ f. IsSettled digest (end + length bytes) f (images d4))
                settled4 = where_some (now d4) (λ f. IsSettled digest (end + length bytes) f (images d4)) (λ f there.
                    let back2 = told_before (now d2) (written end (0xA5 ∷ [])) f (sym written3 ∙ sym same4 ∙ there) in
                    let back0 = told_before (now d0) (written (end + 1) bytes) back2.0 (sym written1 ∙ sym same2 ∙ back2.1) in
                    let file = back0.0 in
                    let s : Settled file = at_told (now d0) Settled file back0.1 settled in
                    let is3 = now3 file s back0.1 in
                    let same : gated file s 0xA5 ≡ f = same_Some (gated file s 0xA5) f (sym is3 ∙ sym same4 ∙ there) in
                    subst (λ x. IsSettled digest (end + length bytes) x (images d4)) same (record {
                      list = s.list ++ body ∷ [];
                      at_rest = after file s;
                      only = only4 file s back0.1;
                    }))

-- time goes on, whatever is told
pub passing : {D : Type 0} {now : D → Option (List ℕ)} {moment : D → ℕ} {images : D → List ℕ → Type 0} {since : D → ℕ → List ℕ → Type 0} (laws : Lawful now moment images since) (old mid new : D) → LeavesOnly moment since old mid (λ _. Unit {0}) → Elapses (moment mid) (moment new) (since mid) (since new) (images new) → LeavesOnly moment since old new (λ _. Unit {0})
passing {now = now} {moment = moment} {images = images} {since = since} laws old mid new so_far time = goes_on now moment images since laws old mid new (λ _. Unit {0}) so_far time (λ _ _. tt)

pub beginning : {D : Type 0} {now : D → Option (List ℕ)} {moment : D → ℕ} {images : D → List ℕ → Type 0} {since : D → ℕ → List ℕ → Type 0} (laws : Lawful now moment images since) (old : D) → LeavesOnly moment since old old (λ _. Unit {0})
beginning {now = now} {moment = moment} {images = images} {since = since} laws old = started now moment images since laws old (λ _. Unit {0}) (λ _ _. tt)
