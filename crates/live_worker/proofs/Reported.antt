-- Reports from the first on, as the caller sees them.
use Rattle.std.proofs.Common.{arith, inl, inr, ◌≡◌, ℕ, ◌≤◌, true, false, List, [], refl, ap, subst, ◌∙◌, Result, Ok, Err}
use Rattle.std.specs.Prelude.{Option}
use Rattle.std.specs.Result.{OnOk, OnErr}
use Rattle.edge.specs.Sink.{HasPrefixMore, with_more}
use Rattle.live_worker.specs.declared.reports.Reports.{Reports}
use Rattle.live_worker.specs.Reports.{live_lines, RiseTo, HasReported}
use Rattle.live_worker.specs.Inside.Roles.{HasTold}
use Rattle.edge.proofs.Written.{HasPrefixMore-whole, with_more-nil}

pub on_ok : {T E : Type 0} (r : Result T E) (P Q : Type 0) → (P → Q) → OnOk r P → OnOk r Q
on_ok (Ok x) P Q f p = f p
on_ok (Err e) P Q f p = tt

on_err : {T E : Type 0} (r : Result T E) (P Q : Type 0) → (P → Q) → OnErr r P → OnErr r Q
on_err (Ok x) P Q f p = tt
on_err (Err e) P Q f p = f p

-- nothing was reported, and there is no table
pub reported_none : {T C F : Type 0} (all : ℕ) (cause : C) (text : Option (List ℕ)) (faults : ℕ) → HasReported {T = T} {E = C} {F = F} all (Err cause) (Ok tt) text text faults faults
reported_none all cause text faults = record {
  numbers = [];
  most = 0;
  rise = refl;
  within = omega arith;
  first_bytes = HasPrefixMore-whole [] text text (with_more-nil text);
  whole = with_more-nil text;
  finished = tt;
  never_fall = omega arith;
  no_fault = refl;
  cause = tt;
}

-- it is told of what is there only if what was made is
pub retold : {T C X Y F : Type 0} (all : ℕ) (made : Result T C) (text : Result X Y) (told : Result (Unit {0}) F) (old new : Option (List ℕ)) (before after : ℕ) → OnOk text (OnErr made ⊥) → HasReported all made told old new before after → HasReported all text told old new before after
retold all made text told old new before after there r = record {
  numbers = r.numbers;
  most = r.most;
  rise = r.rise;
  within = r.within;
  first_bytes = r.first_bytes;
  whole = r.whole;
  finished = on_ok told _ _ (only (r.most ≡ all) made text there) r.finished;
  never_fall = r.never_fall;
  no_fault = r.no_fault;
  cause = r.cause;
}
  where
    only : (P : Type 0) {T C X Y : Type 0} (made : Result T C) (text : Result X Y) → OnOk text (OnErr made ⊥) → OnOk made P → OnOk text P
    only P (Ok t) (Ok x) there p = p
    only P (Err c) (Ok x) there p = absurd there
    only P made (Err e) there p = tt

pub reported : {E T C F : Type 0} (written : E → Option (List ℕ)) (faults : E → ℕ) (start last : Reports E) (all : ℕ) (result : Result T C) (told : Result (Unit {0}) F) → start.most ≡ 0 → start.failed ≡ false → start.all ≡ all → HasTold written faults start last → OnOk told (last.failed ≡ false) → OnErr told (last.failed ≡ true) → OnOk result (last.failed ≡ false → all ≤ last.most) → HasReported all result told (written start.err) (written last.err) (faults start.err) (faults last.err)
reported written faults start last all result told zero well of_all t fine fails done =
    let lines : live_lines start.all t.numbers ≡ live_lines all t.numbers = ap (λ (q : ℕ). live_lines q t.numbers) of_all in
    let same = t.all in
    let most : last.most ≤ last.all = t.within (omega arith) in
    let within : last.most ≤ all = omega arith in
    record {
      numbers = t.numbers;
      most = last.most;
      rise = subst (λ (n : ℕ). RiseTo n t.numbers last.most) zero t.rise;
      within = within;
      first_bytes = subst (λ (l : List ℕ). HasPrefixMore l (written start.err) (written last.err)) lines t.first_bytes;
      whole = on_ok told _ _ (λ f. t.whole f ∙ ap (with_more (written start.err)) lines) fine;
      finished = on_ok told _ _ (λ f. on_ok result _ _ (λ more. let high = more f in omega arith) done) fine;
      never_fall = t.never_fall;
      no_fault = on_ok told _ _ (λ f. t.no_fault f) fine;
      cause = on_err told _ _ (λ f. elim (t.cause f) [
        | inl already ↦ absurd (let e = well in cc)
        | inr risen ↦ risen
      ]) fails;
    }
