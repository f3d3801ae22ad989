-- What a file has once it was opened.
use Rattle.std.proofs.Common.{◌≡◌, inl, inr, ℕ, ◌<◌, List, [], length, Option, None, Some, cond, refl, sym, ◌∙◌, ap, subst, arith}
use Rattle.std.specs.Prelude.{IfSome, Ok}
use Rattle.std.specs.Option.{option_map}
use Rattle.std.proofs.lemmas.Bool.{cases_lt, lt-leb}
use Rattle.save_journal.specs.Records.{records_of, fresh, opened}
use Rattle.save_journal.proofs.Entry.{length-fresh, opened_few}
use Rattle.save_journal.proofs.Walk.{records_few}

opened_many : (digest file : List ℕ) → 41 < length file → opened digest file ≡ file
opened_many digest file many = ap (λ b. cond b (fresh digest) file) (lt-leb (length file) 41 many)

-- it has the records that it had
opened_records : (digest file : List ℕ) → length digest ≡ 32 → records_of digest (opened digest file) ≡ records_of digest file
opened_records digest file width = elim (cases_lt (length file) 42) [
  | inl few ↦ ap (records_of digest) (opened_few digest file (omega arith)) ∙ records_few digest (fresh digest) (omega (arith, length-fresh digest width)) ∙ sym (records_few digest file (omega arith))
  | inr many ↦ ap (records_of digest) (opened_many digest file (omega arith))
]

-- the file, where it is told, has just the records with these bodies
abbrev pub HasBodies : List ℕ → List (List ℕ) → Option (List ℕ) → Type 0
HasBodies digest bodies o = IfSome o (λ file. records_of digest file ≡ Ok bodies)

pub records_before : (digest : List ℕ) (bodies : List (List ℕ)) → length digest ≡ 32 → (o p : Option (List ℕ)) → p ≡ option_map (opened digest) o → HasBodies digest bodies p → HasBodies digest bodies o
records_before digest bodies width None p e is = tt
records_before digest bodies width (Some file) p e is =
    let here : HasBodies digest bodies (Some (opened digest file)) = subst (HasBodies digest bodies) e is in
    sym (opened_records digest file width) ∙ here

-- one that has a record is as it was
pub kept_file : (digest file : List ℕ) (bodies : List (List ℕ)) → records_of digest file ≡ Ok bodies → (bodies ≡ [] → ⊥) → opened digest file ≡ file
kept_file digest file bodies is some = elim (cases_lt (length file) 42) [
  | inl few ↦ let none = records_few digest file (omega arith) in let empty : bodies ≡ [] = cc in absurd (some empty)
  | inr many ↦ opened_many digest file (omega arith)
]

pub file_kept : (digest : List ℕ) (bodies : List (List ℕ)) → (bodies ≡ [] → ⊥) → (o : Option (List ℕ)) → HasBodies digest bodies o → option_map (opened digest) o ≡ o
file_kept digest bodies some None is = refl
file_kept digest bodies some (Some file) is = ap (λ (x : List ℕ). Some x) (kept_file digest file bodies is some)
