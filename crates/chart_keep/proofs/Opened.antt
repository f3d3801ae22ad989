-- A chart file that was opened, or refused.
use Rattle.std.proofs.Common.{◌≡◌, ◌≢◌, ◌⊎◌, inl, inr, ℕ, List, [], length, map, Option, refl, sym, ◌∙◌, ap, arith}
use Rattle.std.specs.Prelude.{All, IfSome, Ok, Err}
use Rattle.std.specs.Option.{option_map}
use Rattle.std.proofs.lemmas.Option.{IfSome_then}
use Rattle.save_journal.specs.Records.{Records, records_of, opened}
use Rattle.save_journal.specs.declared.fault.OpenFault.{OpenFault}
use Rattle.save_journal.specs.declared.fault.OpenFault.TheVariants as opening
use Rattle.save_journal.proofs.Opened.{HasBodies, records_before, file_kept}
use Rattle.chart_file.specs.Parts.{Part, IsPart, part_bytes}
use Rattle.chart_file.specs.Files.{HasParts, IsRefusal}
use Rattle.chart_file.specs.declared.fault.PartsFault.{PartsFault}
use Rattle.chart_file.specs.declared.fault.PartsFault.TheVariants as parts
use Rattle.chart_keep.specs.Files.{of_opening, of_parts, IsRefused}
use Rattle.chart_keep.specs.declared.fault.ChartFault.{ChartFault}
use Rattle.chart_keep.specs.declared.fault.ChartFault.TheVariants.{Failed as DiskFailed, Memory as OutOfMemory}

-- an answer for a file: the disk failed, memory ended, or the file is refused for this
abbrev pub MayRefuse : List ℕ → ChartFault → Option (List ℕ) → Type 0
MayRefuse digest fault o = (fault ≡ DiskFailed) ⊎ (fault ≡ OutOfMemory) ⊎ IfSome o (IsRefused digest fault)

pub refused_opening : (digest : List ℕ) (cause : OpenFault) (fault : ChartFault) (o : Option (List ℕ)) → fault ≡ of_opening cause → ((cause ≡ opening.Failed) ⊎ (cause ≡ opening.Memory) ⊎ IfSome o (λ file. records_of digest file ≡ Err cause)) → MayRefuse digest fault o
refused_opening digest cause fault o is r = elim r [
  | inl failed ↦ inl (is ∙ ap of_opening failed)
  | inr other ↦ elim other [
    | inl memory ↦ inr (inl (is ∙ ap of_opening memory))
    | inr told ↦ inr (inr (IfSome_then o told (λ file wrong. inl (cause, is, wrong))))
  ]
]

pub failed_opening : (cause : OpenFault) → of_opening cause ≡ DiskFailed → cause ≡ opening.Failed
failed_opening opening.Failed e = refl
failed_opening opening.NotSave e = absurd (cc)
failed_opening (opening.Other kept ours) e = absurd (cc)
failed_opening (opening.Damaged number place kept found) e = absurd (cc)
failed_opening (opening.Short number place) e = absurd (cc)
failed_opening opening.Memory e = absurd (cc)

pub not_failed : (cause : PartsFault) → of_parts cause ≡ DiskFailed → ⊥
not_failed (parts.Strange number fault) e = absurd (cc)
not_failed parts.Memory e = absurd (cc)

pub refused_parts : (digest : List ℕ) (bodies : List (List ℕ)) (cause : PartsFault) (fault : ChartFault) (o p : Option (List ℕ)) → length digest ≡ 32 → p ≡ option_map (opened digest) o → HasBodies digest bodies p → IsRefusal bodies cause → fault ≡ of_parts cause → MayRefuse digest fault o
refused_parts digest bodies cause fault o p width file has refusal is =
    inr (inr (IfSome_then o (records_before digest bodies width o p file has) (λ f are. inr (bodies, cause, is, are, refusal))))

some_body : (bodies : List (List ℕ)) (cause : PartsFault) → of_parts cause ≢ OutOfMemory → IsRefusal bodies cause → bodies ≡ [] → ⊥
some_body bodies (parts.Strange number fault) other refusal none =
    let few = refusal.0 in
    let n = ap (λ (l : List (List ℕ)). length l) none in
    omega arith
some_body bodies parts.Memory other refusal none = other refl

-- a file with a strange body is as it was
pub left_alone : (digest : List ℕ) (bodies : List (List ℕ)) (cause : PartsFault) (fault : ChartFault) (o p : Option (List ℕ)) → length digest ≡ 32 → p ≡ option_map (opened digest) o → HasBodies digest bodies p → IsRefusal bodies cause → fault ≡ of_parts cause → fault ≢ OutOfMemory → p ≡ o
left_alone digest bodies cause fault o p width file has refusal is other =
    file ∙ file_kept digest bodies (some_body bodies cause (λ e. other (is ∙ e)) refusal) o (records_before digest bodies width o p file has)

pub has_parts : (digest : List ℕ) (bodies : List (List ℕ)) (ps : List Part) (p : Option (List ℕ)) → HasBodies digest bodies p → map part_bytes ps ≡ bodies → All IsPart ps → IfSome p (HasParts digest ps)
has_parts digest bodies ps p has bytes are =
    let ok : List (List ℕ) → Records = λ list. Ok list in
    IfSome_then p has (λ file is. record { records = is ∙ ap ok (sym bytes); are = are })
