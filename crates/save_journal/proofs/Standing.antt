-- What is read of a file stands in it.
use Rattle.std.proofs.Common.{◌≡◌, ◌≢◌, inl, inr, ℕ, zero, suc, ◌+◌, ◌<◌, ◌≤◌, Bool, true, false, cond, List, [], ◌∷◌, ◌++◌, length, get_or, take, drop, refl, sym, ◌∙◌, ap, subst, arith}
use Rattle.std.specs.Prelude.{Ok, Err}
use Rattle.std.specs.Str.{bytes_eq}
use Rattle.std.proofs.lemmas.List.{drop_more, length-drop, length-take-le}
use Rattle.std.proofs.lemmas.Bool.{cases_lt, cases_eq, cases_Bool, lt-leb, false_from_ne_true}
use Rattle.std.proofs.lemmas.Slice.Eq.{bytes_eq-Decides}
use Rattle.sha2.specs.Sha256.{sha256}
use Rattle.save_journal.specs.declared.fault.OpenFault.{OpenFault}
use Rattle.save_journal.specs.declared.fault.OpenFault.TheVariants.{Failed, NotSave, Other, Damaged, Short, Memory}
use Rattle.save_journal.specs.Records.{Records, magic, header, body_length, body_of, kept_of, of_header, records_from, records_of, encoded}
use Rattle.save_journal.specs.Laws.{AreBytes, HasRecords, RecordsAreRead, IsOpenAt, IsWrong, RefusalsAreRead}
use Rattle.save_journal.proofs.Bytes.{number_below}
use Rattle.save_journal.proofs.Walk.{with_bodies, with_bodies-Err, at_short, at_damaged, records_split, records_few, at_rest_records}
use Rattle.save_journal.proofs.ReadTo.{IsReadTo, at_start, one_more, is_at_rest}

-- what stands in a file that is read so
abbrev Stands : List ℕ → List ℕ → Records → Type 0
Stands digest file (Ok list) = HasRecords digest list file
Stands digest file (Err fault) = (41 < length file) × IsWrong digest file fault

abbrev Outcome : List ℕ → List ℕ → Type 0
Outcome digest file = (r : Records) × (records_of digest file ≡ r) × Stands digest file r

pub differ : (xs ys : List ℕ) → bytes_eq xs ys ≡ false → xs ≢ ys
differ xs ys apart same = let together = (bytes_eq-Decides xs ys).1 same in absurd (cc)

-- ---- the first forty bytes

module _ (digest file : List ℕ) (big : 41 < length file) where
  read_so : (a b : Bool) → bytes_eq (take 8 file) magic ≡ a → bytes_eq (take 32 (drop 8 file)) digest ≡ b → records_of digest file ≡ of_header a b digest file
  read_so a b ea eb =
      ap (λ (x : Bool). cond x (Ok []) (of_header (bytes_eq (take 8 file) magic) (bytes_eq (take 32 (drop 8 file)) digest) digest file)) (lt-leb _ _ big)
      ∙ ap (λ (x : Bool). of_header x (bytes_eq (take 32 (drop 8 file)) digest) digest file) ea ∙ ap (λ (x : Bool). of_header a x digest file) eb

  pub not_ours : take 8 file ≢ magic → records_of digest file ≡ Err NotSave
  not_ours other = read_so false _ (false_from_ne_true _ (λ e. other ((bytes_eq-Decides _ _).0 e))) refl

  pub of_others : take 8 file ≡ magic → take 32 (drop 8 file) ≢ digest → records_of digest file ≡ Err (Other (take 32 (drop 8 file)) digest)
  of_others first other = read_so true false ((bytes_eq-Decides (take 8 file) magic).1 first) (false_from_ne_true _ (λ e. other ((bytes_eq-Decides _ _).0 e)))

-- ---- an open gate

module _ (digest file : List ℕ) (big : 41 < length file) (place : ℕ) (list : List (List ℕ)) (behind : List ℕ) (open_at : IsOpenAt digest place list behind file) where
  from_gate : records_of digest file ≡ with_bodies list (records_from (length list) place 0 (0xA5 ∷ behind))
  from_gate =
      records_split digest file (0xA5 ∷ behind) list open_at.width open_at.split open_at.sayable big (omega arith)
      ∙ ap (λ (p : ℕ). with_bodies list (records_from (length list) p 0 (0xA5 ∷ behind))) (sym open_at.here)

  is_short : length behind < 41 + body_length behind → records_of digest file ≡ Err (Short (length list) place)
  is_short less = from_gate ∙ ap (with_bodies list) (at_short (length list) place behind less) ∙ with_bodies-Err list (Short (length list) place)

  is_damaged : 41 + body_length behind ≤ length behind → kept_of behind ≢ sha256 (body_of behind) → records_of digest file ≡ Err (Damaged (length list) place (kept_of behind) (sha256 (body_of behind)))
  is_damaged whole other = from_gate ∙ ap (with_bodies list) (at_damaged (length list) place behind whole (false_from_ne_true _ (λ e. other (sym ((bytes_eq-Decides _ _).0 e))))) ∙ with_bodies-Err list _

-- ---- from gate to gate

module _ (digest file : List ℕ) (fits : AreBytes file) (big : 41 < length file) where
  opened_at : (list : List (List ℕ)) (place : ℕ) → IsReadTo digest file list place → get_or file place 0 ≡ 0xA5 → IsOpenAt digest place list (drop (place + 1) file) file
  opened_at list place r gate = record {
    split = r.split ∙ ap (λ (l : List ℕ). header digest ++ encoded list ++ l) (drop_more file place 0 r.inside ∙ ap (λ (g : ℕ). g ∷ drop (place + 1) file) gate);
    here = r.at;
    width = r.width;
    sayable = r.sayable;
  }

  walk : (more : ℕ) (list : List (List ℕ)) (place : ℕ) → IsReadTo digest file list place → length file ≤ place + more → Outcome digest file
  walk zero list place r near = absurd (omega (arith, r.inside))
  walk (suc more) list place r near = elim (cases_eq (get_or file place 0) 0xA5) [
    | inr shut ↦ let rest = is_at_rest digest file list place r shut in (Ok list, at_rest_records digest place list file rest, inr (place, rest))
    | inl gate ↦
        let b = drop (place + 1) file in
        let here = opened_at list place r gate in
        elim (cases_lt (length (drop (place + 1) file)) (41 + body_length (drop (place + 1) file))) [
          | inl less ↦ (Err (Short (length list) place), is_short digest file big place list b here less, (big, (list, b, here, refl, less)))
          | inr whole ↦ elim (cases_Bool (bytes_eq (sha256 (body_of (drop (place + 1) file))) (kept_of (drop (place + 1) file)))) [
            | inr wrong ↦
                let other : kept_of b ≢ sha256 (body_of b) = λ same. differ _ _ wrong (sym same) in
                (Err (Damaged (length list) place (kept_of b) (sha256 (body_of b))), is_damaged digest file big place list b here whole other, (big, (list, b, here, refl, whole, refl, refl, other)))
            | inl right ↦
                walk more (list ++ body_of b ∷ []) (place + (41 + body_length b))
                (one_more digest file list place r gate fits whole ((bytes_eq-Decides (sha256 (body_of b)) (kept_of b)).0 right) (number_below (place + 1) file fits))
                (omega arith)
          ]
        ]
  ]

  of_long : Outcome digest file
  of_long = elim (cases_Bool (bytes_eq (take 8 file) magic)) [
    | inr apart ↦ let other = differ (take 8 file) magic apart in (Err NotSave, not_ours digest file big other, (big, other))
    | inl together ↦
        let first : take 8 file ≡ magic = (bytes_eq-Decides (take 8 file) magic).0 together in
        elim (cases_Bool (bytes_eq (take 32 (drop 8 file)) digest)) [
          | inr apart ↦ let other = differ (take 32 (drop 8 file)) digest apart in (Err (Other (take 32 (drop 8 file)) digest), of_others digest file big first other, (big, (first, refl, refl, other)))
          | inl same ↦
              let second : take 32 (drop 8 file) ≡ digest = (bytes_eq-Decides (take 32 (drop 8 file)) digest).0 same in
              let width : length digest ≡ 32 = ap length (sym second) ∙ length-take-le 32 (drop 8 file) (omega (arith, length-drop 8 file)) in
              walk (length file) [] 40 (at_start digest file width big first second) (omega arith)
        ]
  ]

outcome : (digest file : List ℕ) → AreBytes file → Outcome digest file
outcome digest file fits = elim (cases_lt 41 (length file)) [
  | inl big ↦ of_long digest file fits big
  | inr few ↦ (Ok [], records_few digest file few, inl (few, refl))
]

stands : (digest file : List ℕ) (r : Records) → AreBytes file → records_of digest file ≡ r → Stands digest file r
stands digest file r fits e = let o = outcome digest file fits in subst (Stands digest file) (sym o.1 ∙ e) o.2

-- ---- the laws

has_records : (digest file : List ℕ) (list : List (List ℕ)) → HasRecords digest list file → records_of digest file ≡ Ok list
has_records digest file list (inl few) = records_few digest file few.0 ∙ ap Ok (sym few.1)
has_records digest file list (inr rest) = at_rest_records digest rest.0 list file rest.1

pub records_read : RecordsAreRead
records_read digest file list fits = (stands digest file (Ok list) fits, has_records digest file list)

abbrev pub other_digest : List ℕ → List ℕ → Records
other_digest kept ours = Err (Other kept ours)

abbrev damaged : ℕ → ℕ → List ℕ → List ℕ → Records
damaged place number kept found = Err (Damaged number place kept found)

abbrev short : ℕ → ℕ → Records
short place number = Err (Short number place)

is_wrong : (digest file : List ℕ) (fault : OpenFault) → 41 < length file → IsWrong digest file fault → records_of digest file ≡ Err fault
is_wrong digest file Failed big wrong = absurd wrong
is_wrong digest file NotSave big wrong = not_ours digest file big wrong
is_wrong digest file (Other kept ours) big (first, is_kept, is_ours, other) =
    of_others digest file big first (subst (λ (x : List ℕ). take 32 (drop 8 file) ≢ x) is_ours (subst (λ (x : List ℕ). x ≢ ours) is_kept other)) ∙ sym (ap (λ (x : List ℕ). other_digest x ours) is_kept ∙ ap (other_digest (take 32 (drop 8 file))) is_ours)
is_wrong digest file (Damaged number place kept found) big (list, behind, here, is_number, whole, is_kept, is_found, other) =
    is_damaged digest file big place list behind here whole (subst (λ (x : List ℕ). kept_of behind ≢ x) is_found (subst (λ (x : List ℕ). x ≢ found) is_kept other))
    ∙ sym (ap (λ (x : ℕ). damaged place x kept found) is_number ∙ ap (λ (x : List ℕ). damaged place (length list) x found) is_kept ∙ ap (damaged place (length list) (kept_of behind)) is_found)
is_wrong digest file (Short number place) big (list, behind, here, is_number, less) = is_short digest file big place list behind here less ∙ sym (ap (short place) is_number)
is_wrong digest file Memory big wrong = absurd wrong

pub refusals_read : RefusalsAreRead
refusals_read digest file fault fits = (stands digest file (Err fault) fits, λ h. is_wrong digest file fault h.0 h.1)
