-- What is retained over the calls of an append and of an opening.
use Rattle.std.proofs.Common.{◌≡◌, ◌⊎◌, ◌↔◌, inl, inr, ℕ, ◌≤◌, List, [], ◌∷◌, ◌++◌, refl, ◌∙◌, ap, subst, arith, append_assoc}
use Rattle.std.specs.Prelude.{Ok}
use Rattle.std.proofs.lemmas.Bool.{cases_lt}
use Rattle.edge.specs.Disk.{Follows, Passes, HavePast}
use Rattle.edge.proofs.Moments.{past_then}
use Rattle.save_journal.specs.Records.{Records, records_of, and_last}
use Rattle.save_journal.specs.Journals.{HaveSameRecords, ComeFromEarlier, IsBeforeOrAfter}

-- the file has these records, and maybe more behind them
pub record HasFirst (digest : List ℕ) (first : List (List ℕ)) (c : List ℕ) : Type 0 where
  pub more : List (List ℕ)
  pub records : records_of digest c ≡ Ok (first ++ more)

-- a file with the same records, or with one more, has them too
pub more_first : (digest : List ℕ) (first : List (List ℕ)) (body file c : List ℕ) → HasFirst digest first file → IsBeforeOrAfter digest (records_of digest file) body c → HasFirst digest first c
more_first digest first body file c h (inl is) = record { more = h.more; records = is ∙ h.records }
more_first digest first body file c h (inr is) = record {
  more = h.more ++ body ∷ [];
  records = is ∙ ap (λ (r : Records). and_last r body) h.records ∙ ap (λ (l : List (List ℕ)). Ok l) (append_assoc first h.more (body ∷ []));
}

-- each step is one of another kind
pub come_also : {D : Type 0} (moment : D → ℕ) (at : D → ℕ → List ℕ → Type 0) (old new : D) (step other : List ℕ → List ℕ → Type 0) → ((d c : List ℕ) → step d c → other d c) → ComeFromEarlier moment at old new step → ComeFromEarlier moment at old new other
come_also moment at old new step other also come u v from le within c image =
    let d = come u v from le within c image in
    (d.0, d.1, also d.0 c d.2)

-- ---- one call after another

-- before the first call
pub come_started : {D : Type 0} (moment : D → ℕ) (at : D → ℕ → List ℕ → Type 0) (old : D) (step : List ℕ → List ℕ → Type 0) → ((c : List ℕ) → step c c) → ComeFromEarlier moment at old old step
come_started moment at old step itself u v from le within c image =
    let same : v ≡ u = omega (arith, from, le, within) in
    (c, subst (λ t. at old t c) same image, itself c)

-- one run after another
come_then : {D : Type 0} (moment : D → ℕ) (at : D → ℕ → List ℕ → Type 0) (old mid new : D) (first second step : List ℕ → List ℕ → Type 0) → HavePast moment at mid new → ((d c : List ℕ) → first d c → step d c) → ((d c : List ℕ) → second d c → step d c) → ((d e c : List ℕ) → first d e → second e c → step d c)
    → ComeFromEarlier moment at old mid first → ComeFromEarlier moment at mid new second → ComeFromEarlier moment at old new step
come_then moment at old mid new first second step past alone behind both one two u v from le within c image =
    elim (cases_lt (moment mid) v) [
      | inr before ↦
          let d = one u v from le before c ((past v c before).0 image) in
          (d.0, (past u d.0 (omega (arith, le, before))).1 d.1, alone d.0 c d.2)
      | inl later ↦ elim (cases_lt (moment mid) u) [
        | inl after ↦
            let d = two u v (omega (arith, after)) le within c image in
            (d.0, d.1, behind d.0 c d.2)
        | inr upto ↦
            let e = two (moment mid) v (omega arith) (omega (arith, later)) within c image in
            let d = one u (moment mid) from upto (omega arith) e.0 ((past (moment mid) e.0 (omega arith)).0 e.1) in
            (d.0, (past u d.0 upto).1 d.1, both d.0 e.0 c d.2 e.2)
      ]
    ]

-- one call
come_once : {D : Type 0} (moment : D → ℕ) (images : D → List ℕ → Type 0) (at : D → ℕ → List ℕ → Type 0) (law : (d : D) (c : List ℕ) → at d (moment d) c ↔ images d c) (mid new : D) (step : List ℕ → List ℕ → Type 0) → ((c : List ℕ) → step c c) → Passes (moment mid) (moment new) (at mid) (at new) (images new) → Follows step (images mid) (images new)
    → ComeFromEarlier moment at mid new step
come_once moment images at law mid new step itself passes follows u v from le within c image =
    elim (cases_lt (moment mid) v) [
      | inr before ↦ let same : v ≡ u = omega (arith, from, le, before) in (c, subst (λ t. at new t c) same image, itself c)
      | inl behind ↦
          let now : images new c = (passes.present v c behind within).0 image in
          elim (cases_lt (moment mid) u) [
            | inl after ↦ (c, (passes.present u c after (omega (arith, le, within))).1 now, itself c)
            | inr upto ↦
                let same : moment mid ≡ u = omega (arith, from, upto) in
                let d = follows c now in
                (d.0, subst (λ t. at new t d.0) same ((passes.past (moment mid) d.0 (omega arith)).1 ((law mid d.0).1 d.1)), d.2)
          ]
    ]

abbrev pub Goes : {D : Type 0} (moment : D → ℕ) (at : D → ℕ → List ℕ → Type 0) (step : List ℕ → List ℕ → Type 0) (old new : D) → Type 0
Goes moment at step old new = (moment old ≤ moment new) × HavePast moment at old new × ComeFromEarlier moment at old new step

pub stays : {D : Type 0} (moment : D → ℕ) (at : D → ℕ → List ℕ → Type 0) (digest : List ℕ) (d : D) → Goes moment at (HaveSameRecords digest) d d
stays moment at digest d = (omega arith, λ t c l. (λ x. x, λ x. x), come_started moment at d (HaveSameRecords digest) (λ c. refl))

-- a call that adds no image
pub shrinks : {D : Type 0} (moment : D → ℕ) (images : D → List ℕ → Type 0) (at : D → ℕ → List ℕ → Type 0) (law : (d : D) (c : List ℕ) → at d (moment d) c ↔ images d c) (step : List ℕ → List ℕ → Type 0) (itself : (c : List ℕ) → step c c) (old mid new : D) → Goes moment at step old mid → moment mid ≤ moment new → Passes (moment mid) (moment new) (at mid) (at new) (images new)
    → ((c : List ℕ) → images new c → images mid c) → Goes moment at step old new
shrinks moment images at law step itself old mid new so_far later passes fewer = (
  omega (arith, so_far.0, later),
  past_then moment at old mid new so_far.0 so_far.1 passes.past,
  come_then moment at old mid new step (λ d c. d ≡ c) step passes.past (λ d c s. s) (λ d c is. subst (step d) is (itself d)) (λ d e c s is. subst (step d) is s) so_far.2
      (come_once moment images at law mid new (λ d c. d ≡ c) (λ c. refl) passes (λ c image. (c, fewer c image, refl))),
)

-- a call whose images come from those before it by such a step, behind calls that change no records
adds : {D : Type 0} (moment : D → ℕ) (images : D → List ℕ → Type 0) (at : D → ℕ → List ℕ → Type 0) (law : (d : D) (c : List ℕ) → at d (moment d) c ↔ images d c) (digest : List ℕ) (step : List ℕ → List ℕ → Type 0) (alone : (d c : List ℕ) → HaveSameRecords digest d c → step d c) (both : (d e c : List ℕ) → HaveSameRecords digest d e → step e c → step d c) (old mid new : D)
    → Goes moment at (HaveSameRecords digest) old mid → moment mid ≤ moment new → Passes (moment mid) (moment new) (at mid) (at new) (images new) → Follows step (images mid) (images new) → Goes moment at step old new
adds moment images at law digest step alone both old mid new so_far later passes follows = (
  omega (arith, so_far.0, later),
  past_then moment at old mid new so_far.0 so_far.1 passes.past,
  come_then moment at old mid new (HaveSameRecords digest) step step passes.past alone (λ d c s. s) both so_far.2
      (come_once moment images at law mid new step (λ c. alone c c refl) passes follows),
)

-- by a call that changes no records
pub adds_none : {D : Type 0} (moment : D → ℕ) (images : D → List ℕ → Type 0) (at : D → ℕ → List ℕ → Type 0) (law : (d : D) (c : List ℕ) → at d (moment d) c ↔ images d c) (digest : List ℕ) (old mid new : D) → Goes moment at (HaveSameRecords digest) old mid → moment mid ≤ moment new → Passes (moment mid) (moment new) (at mid) (at new) (images new) → Follows (HaveSameRecords digest) (images mid) (images new)
    → Goes moment at (HaveSameRecords digest) old new
adds_none moment images at law digest = adds moment images at law digest (HaveSameRecords digest) (λ d c s. s) (λ d e c s t. t ∙ s)

-- by one that puts a body behind the records, or does not
abbrev pub WithBody : List ℕ → List ℕ → List ℕ → List ℕ → Type 0
WithBody digest body d c = IsBeforeOrAfter digest (records_of digest d) body c

pub adds_body : {D : Type 0} (moment : D → ℕ) (images : D → List ℕ → Type 0) (at : D → ℕ → List ℕ → Type 0) (law : (d : D) (c : List ℕ) → at d (moment d) c ↔ images d c) (digest body : List ℕ) (old mid new : D) → Goes moment at (HaveSameRecords digest) old mid → moment mid ≤ moment new → Passes (moment mid) (moment new) (at mid) (at new) (images new) → Follows (WithBody digest body) (images mid) (images new)
    → Goes moment at (WithBody digest body) old new
adds_body moment images at law digest body = adds moment images at law digest (WithBody digest body) (λ d c s. inl s) (λ d e c s t. subst (λ r. (records_of digest c ≡ r) ⊎ (records_of digest c ≡ and_last r body)) s t)
