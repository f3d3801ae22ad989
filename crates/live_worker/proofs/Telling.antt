-- Reports one after another.
use Rattle.std.proofs.Common.{arith, inl, inr, ◌≡◌, ℕ, ◌<◌, ◌≤◌, true, false, Bool, List, [], ◌∷◌, ◌++◌, ap, sym, subst, refl, ◌∙◌}
use Rattle.std.specs.Prelude.{Option}
use Rattle.std.proofs.lemmas.Grind.{flat_map-append}
use Rattle.std.proofs.lemmas.List.{append-nil}
use Rattle.edge.specs.Faults.{HasRisen}
use Rattle.edge.specs.Sink.{with_more, HasPrefixMore}
use Rattle.live_worker.specs.declared.reports.Reports.{Reports}
use Rattle.live_worker.specs.Reports.{live_line, live_lines, RiseTo}
use Rattle.live_worker.specs.Inside.Roles.{HasTold}
use Rattle.edge.proofs.Written.{with_more-nil, HasPrefixMore-whole, HasPrefixMore-behind, with_more-two}

-- rising numbers behind rising numbers
rise_on : (low mid high : ℕ) (some more : List ℕ) → RiseTo low some mid → RiseTo mid more high → RiseTo low (some ++ more) high
rise_on low mid high [] more one two = subst (λ (n : ℕ). RiseTo n more high) (sym one) two
rise_on low mid high (n ∷ some) more one two = (one.0, rise_on n mid high some more one.1 two)

module _ {E : Type 0} (written : E → Option (List ℕ)) (faults : E → ℕ) where
  -- nothing was reported
  pub told_none : (r : Reports E) → HasTold written faults r r
  told_none r = record {
    numbers = [];
    rise = refl;
    all = refl;
    within = λ low. low;
    first_bytes = HasPrefixMore-whole [] (written r.err) (written r.err) (with_more-nil (written r.err));
    whole = λ e. with_more-nil (written r.err);
    never_fall = omega arith;
    no_fault = λ e. refl;
    cause = λ e. inl e;
    after_fault = λ e. refl;
  }

  -- after the sink has failed, nothing more is reported
  told_failed : (a b c : Reports E) → HasTold written faults a b → HasTold written faults b c → b.failed ≡ true → HasTold written faults a c
  told_failed a b c one two fails = subst (HasTold written faults a) (sym (two.after_fault fails)) one

  told_well : (a b c : Reports E) → HasTold written faults a b → HasTold written faults b c → b.failed ≡ false → HasTold written faults a c
  told_well a b c one two well =
      let before = one.never_fall in
      let after = two.never_fall in
      let mid : written b.err ≡ with_more (written a.err) (live_lines a.all one.numbers) = one.whole well in
      let lines : live_lines b.all two.numbers ≡ live_lines a.all two.numbers = ap (λ (q : ℕ). live_lines q two.numbers) one.all in
      let joined : live_lines a.all (one.numbers ++ two.numbers) ≡ live_lines a.all one.numbers ++ live_lines a.all two.numbers = flat_map-append (live_line a.all) one.numbers two.numbers in
      let bytes : HasPrefixMore (live_lines a.all two.numbers) (written b.err) (written c.err) = subst (λ (t : List ℕ). HasPrefixMore t (written b.err) (written c.err)) lines two.first_bytes in
      record {
        numbers = one.numbers ++ two.numbers;
        rise = rise_on a.most b.most c.most one.numbers two.numbers one.rise two.rise;
        all = two.all ∙ one.all;
        within = λ low. two.within (one.within low);
        first_bytes = subst (λ (t : List ℕ). HasPrefixMore t (written a.err) (written c.err)) (sym joined) (HasPrefixMore-behind (live_lines a.all one.numbers) (live_lines a.all two.numbers) (written a.err) (written b.err) (written c.err) mid bytes);
        whole = λ e. with_more-two (written a.err) (written b.err) (written c.err) (live_lines a.all one.numbers) (live_lines a.all two.numbers) mid (two.whole e ∙ ap (with_more (written b.err)) lines) ∙ ap (with_more (written a.err)) (sym joined);
        never_fall = omega arith;
        no_fault = λ e. two.no_fault e ∙ one.no_fault well;
        cause = λ e. elim (two.cause e) [
          | inl already ↦ absurd (let f = well in cc)
          | inr risen ↦ inr (subst (λ (n : ℕ). HasRisen n (faults c.err)) (one.no_fault well) risen)
        ];
        after_fault = λ e. absurd (let f = one.after_fault e in let g = ap (λ (r : Reports E). r.failed) f in cc);
      }

  at : (a b c : Reports E) → HasTold written faults a b → HasTold written faults b c → (failed : Bool) → b.failed ≡ failed → HasTold written faults a c
  at a b c one two true is = told_failed a b c one two is
  at a b c one two false is = told_well a b c one two is

  -- reports, and then more of them
  pub told_twice : (a b c : Reports E) → HasTold written faults a b → HasTold written faults b c → HasTold written faults a c
  told_twice a b c one two = at a b c one two b.failed refl

  -- one line of a greater number was written
  pub told_one : (old new : Reports E) (line : List ℕ) → old.failed ≡ false → old.most < new.most → new.most ≤ old.all → new.all ≡ old.all → new.failed ≡ false → line ≡ live_line old.all new.most → written new.err ≡ with_more (written old.err) line → faults new.err ≡ faults old.err → HasTold written faults old new
  told_one old new line well less within all still is whole same =
      let lines : line ≡ live_line old.all new.most ++ [] = is ∙ sym (append-nil (live_line old.all new.most)) in
      let got : written new.err ≡ with_more (written old.err) (live_line old.all new.most ++ []) = whole ∙ ap (with_more (written old.err)) lines in
      record {
        numbers = new.most ∷ [];
        rise = (less, refl);
        all = all;
        within = λ low. omega arith;
        first_bytes = HasPrefixMore-whole (live_line old.all new.most ++ []) (written old.err) (written new.err) got;
        whole = λ e. got;
        never_fall = omega (arith, same);
        no_fault = λ e. same;
        cause = λ e. absurd (let f = still in cc);
        after_fault = λ e. absurd (let f = well in cc);
      }

  -- the sink failed at the line of a greater number
  pub told_fault : (old new : Reports E) (line : List ℕ) → old.failed ≡ false → old.most < new.most → new.most ≤ old.all → new.all ≡ old.all → new.failed ≡ true → line ≡ live_line old.all new.most → HasPrefixMore line (written old.err) (written new.err) → HasRisen (faults old.err) (faults new.err) → faults old.err ≤ faults new.err → HasTold written faults old new
  told_fault old new line well less within all fails is some risen never =
      let lines : line ≡ live_line old.all new.most ++ [] = is ∙ sym (append-nil (live_line old.all new.most)) in
      record {
        numbers = new.most ∷ [];
        rise = (less, refl);
        all = all;
        within = λ low. omega arith;
        first_bytes = subst (λ (t : List ℕ). HasPrefixMore t (written old.err) (written new.err)) lines some;
        whole = λ e. absurd (let f = fails in cc);
        never_fall = never;
        no_fault = λ e. absurd (let f = fails in cc);
        cause = λ e. inr risen;
        after_fault = λ e. absurd (let f = well in cc);
      }
