-- A part that was kept, or not.
use Rattle.std.proofs.Common.{◌≡◌, inl, inr, ℕ, List, [], ◌∷◌, ◌++◌, Option, None, Some, sym, ◌∙◌, ap, subst}
use Rattle.std.specs.Prelude.{IfSome}
use Rattle.std.proofs.lemmas.Option.{IfSome_then}
use Rattle.edge.specs.Disk.{LeavesOnly, IsTold, AreTold}
use Rattle.edge.proofs.Moments.{Lawful, started, weaker}
use Rattle.save_journal.specs.Records.{records_of, and_last}
use Rattle.save_journal.specs.Journals.{IsSettled, IsBeforeOrAfter, ComeFromEarlier}
use Rattle.save_journal.proofs.Retaining.{come_started, come_also}
use Rattle.chart_file.specs.Parts.{Part, IsPart, part_bytes}
use Rattle.chart_file.specs.Files.{HasParts}
use Rattle.chart_file.proofs.Files.{parts_still, one_part_more}
use Rattle.chart_keep.specs.Files.{HasPartsOrMore}

-- what an append does to a file, in the words of parts
abbrev pub Goes : List ℕ → Part → List ℕ → List ℕ → Type 0
Goes digest p file f = (ps : List Part) → HasParts digest ps file → HasPartsOrMore digest ps p f

abbrev pub Grows : List ℕ → Part → List ℕ → List ℕ → Type 0
Grows digest p file f = (ps : List Part) → HasParts digest ps file → HasParts digest (ps ++ p ∷ []) f

module _ (digest body : List ℕ) (p : Part) (is : IsPart p) (bytes : body ≡ part_bytes p) where
  pub grows : (file f : List ℕ) → records_of digest f ≡ and_last (records_of digest file) body → Grows digest p file f
  grows file f e ps h = one_part_more digest file f ps h p is (e ∙ ap (and_last (records_of digest file)) bytes)

  pub goes : (file f : List ℕ) → IsBeforeOrAfter digest (records_of digest file) body f → Goes digest p file f
  goes file f e ps h = elim e [
    | inl same ↦ inl (parts_still digest file f ps h same)
    | inr more ↦ inr (grows file f more ps h)
  ]

  pub kept : (o n : Option (List ℕ)) → AreTold (λ file f. IsBeforeOrAfter digest (records_of digest file) body f) o n → IfSome o (λ file. IsTold n (λ f. records_of digest f ≡ and_last (records_of digest file) body)) → AreTold (Grows digest p) o n
  kept None None both more = tt
  kept None (Some f) both more = absurd both
  kept (Some file) None both more = absurd both
  kept (Some file) (Some f) both more = grows file f more

  pub told : (o n : Option (List ℕ)) → AreTold (λ file f. IsBeforeOrAfter digest (records_of digest file) body f) o n → AreTold (Goes digest p) o n
  told None None both = tt
  told None (Some f) both = absurd both
  told (Some file) None both = absurd both
  told (Some file) (Some f) both = goes file f both

  pub durable : (o : Option (List ℕ)) (images : List ℕ → Type 0) → IfSome o (λ file. (c : List ℕ) → images c → records_of digest c ≡ and_last (records_of digest file) body) → IfSome o (λ file. (ps : List Part) → HasParts digest ps file → (c : List ℕ) → images c → HasParts digest (ps ++ p ∷ []) c)
  durable o images all = IfSome_then o all (λ file each ps h c image. grows file c (each c image) ps h)

  pub retained : {D : Type 0} (moment : D → ℕ) (at : D → ℕ → List ℕ → Type 0) (old new : D) (o : Option (List ℕ)) → IfSome o (λ _. ComeFromEarlier moment at old new (λ d c. IsBeforeOrAfter digest (records_of digest d) body c)) → IfSome o (λ _. ComeFromEarlier moment at old new (Goes digest p))
  retained moment at old new o come = IfSome_then o come (λ file so. come_also moment at old new (λ d c. IsBeforeOrAfter digest (records_of digest d) body c) (Goes digest p) goes so)

  pub moments : {D : Type 0} (now : D → Option (List ℕ)) (moment : D → ℕ) (images : D → List ℕ → Type 0) (since : D → ℕ → List ℕ → Type 0) → Lawful now moment images since → (old new : D) (o : Option (List ℕ)) → IfSome o (λ file. LeavesOnly moment since old new (IsBeforeOrAfter digest (records_of digest file) body)) → IfSome o (λ file. (ps : List Part) → HasParts digest ps file → LeavesOnly moment since old new (HasPartsOrMore digest ps p))
  moments now moment images since laws old new o leaves = IfSome_then o leaves (λ file so ps h. weaker now moment images since laws old new (IsBeforeOrAfter digest (records_of digest file) body) (HasPartsOrMore digest ps p) so (λ c e. goes file c e ps h))

-- ---- where nothing was called

itself : (digest : List ℕ) (p : Part) (file : List ℕ) → Goes digest p file file
itself digest p file ps h = inl h

pub told_alone : (digest : List ℕ) (p : Part) (o : Option (List ℕ)) → AreTold (Goes digest p) o o
told_alone digest p None = tt
told_alone digest p (Some file) = itself digest p file

pub retained_alone : {D : Type 0} (moment : D → ℕ) (at : D → ℕ → List ℕ → Type 0) (d : D) (digest : List ℕ) (p : Part) (o : Option (List ℕ)) → IfSome o (λ _. ComeFromEarlier moment at d d (Goes digest p))
retained_alone moment at d digest p None = tt
retained_alone moment at d digest p (Some file) = come_started moment at d (Goes digest p) (itself digest p)

pub moments_alone : {D : Type 0} (now : D → Option (List ℕ)) (moment : D → ℕ) (images : D → List ℕ → Type 0) (since : D → ℕ → List ℕ → Type 0) → Lawful now moment images since → (d : D) (digest : List ℕ) (end : ℕ) (p : Part) (o : Option (List ℕ)) → IfSome o (λ file. IsSettled digest end file (images d)) → IfSome o (λ file. (ps : List Part) → HasParts digest ps file → LeavesOnly moment since d d (HasPartsOrMore digest ps p))
moments_alone now moment images since laws d digest end p o settled =
    IfSome_then o settled (λ file s ps h. started now moment images since laws d (HasPartsOrMore digest ps p) (λ c image. inl (subst (HasParts digest ps) (sym (s.only c image)) h)))
