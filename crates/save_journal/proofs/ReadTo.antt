-- A file read record by record.
use Rattle.std.proofs.Common.{◌≡◌, ◌⊎◌, inl, inr, ℕ, ◌+◌, ◌^◌, ◌<◌, ◌≤◌, Bool, true, false, not, List, [], ◌∷◌, ◌++◌, length, get_or, take, drop, refl, sym, ◌∙◌, ap, arith, length-append, append_assoc, take-append-drop}
use Rattle.std.specs.Prelude.{All, Vec, Err}
use Rattle.std.specs.declared.alloc.Global.{Global}
use Rattle.std.specs.Str.{bytes_eq}
use Rattle.std.specs.Int.{w64, to_be_bytes}
use Rattle.std.proofs.Math.Seq.{take-add}
use Rattle.std.proofs.lemmas.List.{append-nil, drop-drop, drop_more, length-take-le, length-drop, get_or-drop, map_push}
use Rattle.std.proofs.lemmas.List.Elements.{All-nil, All-cons, All-append}
use Rattle.std.proofs.lemmas.Bool.{cases_Bool}
use Rattle.std.proofs.lemmas.Slice.Eq.{bytes_eq-Decides}
use Rattle.std.proofs.lemmas.Nat.{be_bytes_8}
use Rattle.sha2.specs.Sha256.{sha256}
use Rattle.save_journal.specs.Records.{Records, magic, body_length, body_of, kept_of, records_from, records_of, encoded, header}
use Rattle.save_journal.specs.Journals.{IsSayable, IsAtRest, contents}
use Rattle.save_journal.specs.declared.fault.OpenFault.{OpenFault}
use Rattle.save_journal.specs.declared.fault.OpenFault.TheVariants.{Memory}
use Rattle.save_journal.specs.Laws.{AreBytes}
use Rattle.save_journal.proofs.Bytes.{AreBytes-part}
use Rattle.save_journal.proofs.Walk.{record_of, with_bodies, with_bodies-Err, records_split, encoded_cons, encoded-append, length-encoded}

-- the file is our header, these records_of, and what stands from this place on
pub record IsReadTo (digest file : List ℕ) (list : List (List ℕ)) (place : ℕ) : Type 0 where
  pub split : file ≡ header digest ++ encoded list ++ drop place file
  pub at : place ≡ 40 + length (encoded list)
  pub inside : place < length file
  pub width : length digest ≡ 32
  pub sayable : All IsSayable list

-- behind a header of ours there is none yet
pub at_header : (digest file : List ℕ) → length digest ≡ 32 → 41 < length file → take 40 file ≡ header digest → IsReadTo digest file [] 40
at_header digest file width long ours = record {
  split = sym (take-append-drop 40 file) ∙ ap (λ (l : List ℕ). l ++ drop 40 file) (ours ∙ sym (append-nil (header digest)));
  at = refl;
  inside = omega arith;
  width = width;
  sayable = All-nil IsSayable;
}

pub at_start : (digest file : List ℕ) → length digest ≡ 32 → 41 < length file → take 8 file ≡ magic → take 32 (drop 8 file) ≡ digest → IsReadTo digest file [] 40
at_start digest file width long first second = at_header digest file width long (take-add 8 32 file ∙ ap (λ (l : List ℕ). l ++ take 32 (drop 8 file)) first ∙ ap (λ (l : List ℕ). magic ++ l) second)

module _ (behind : List ℕ) (fits : AreBytes behind) (whole : 41 + body_length behind ≤ length behind) where
  abbrev n : ℕ
  n = body_length behind

  pub length-body : length (body_of behind) ≡ body_length behind
  length-body = length-take-le (body_length behind) (drop 8 behind) (omega (arith, length-drop 8 behind))

  says : to_be_bytes w64 (length (body_of behind)) ≡ take 8 behind
  says = be_bytes_8 (take 8 behind) (length (body_of behind)) (length-take-le 8 behind (omega arith)) (AreBytes-part 0 8 behind fits) length-body

  pub is_record : sha256 (body_of behind) ≡ kept_of behind → behind ≡ record_of (body_of behind) (drop (40 + body_length behind) behind)
  is_record same =
      let k = body_length behind in
      let body = body_of behind in
      let rest = drop (40 + k) behind in
      let far : 8 + k + 32 ≡ 40 + k = omega arith in
      let third : drop (8 + k) behind ≡ sha256 body ++ rest =
      sym (take-append-drop 32 (drop (8 + k) behind)) ∙ ap (λ (l : List ℕ). l ++ drop 32 (drop (8 + k) behind)) (sym same) ∙ ap (λ (l : List ℕ). sha256 body ++ l) (drop-drop 32 (8 + k) behind ∙ ap (λ (j : ℕ). drop j behind) far) in
      let second : drop 8 behind ≡ body ++ (sha256 body ++ rest) =
      sym (take-append-drop k (drop 8 behind)) ∙ ap (λ (l : List ℕ). body ++ l) (drop-drop k 8 behind ∙ third) in
      sym (take-append-drop 8 behind) ∙ ap (λ (l : List ℕ). l ++ drop 8 behind) (sym says) ∙ ap (λ (l : List ℕ). to_be_bytes w64 (length body) ++ l) second

module _ (digest file : List ℕ) (list : List (List ℕ)) (place : ℕ) (r : IsReadTo digest file list place) (gate : get_or file place 0 ≡ 0xA5) (fits : AreBytes file) where
  abbrev behind : List ℕ
  behind = drop (place + 1) file

  here : drop place file ≡ 0xA5 ∷ behind
  here = drop_more file place 0 r.inside ∙ ap (λ (g : ℕ). g ∷ drop (place + 1) file) gate

  fits_behind : AreBytes (drop (place + 1) file)
  fits_behind k = rw (get_or-drop (place + 1) file k 0) (fits (place + 1 + k))

  long : 41 + body_length (drop (place + 1) file) ≤ length (drop (place + 1) file) → 41 < length file
  long whole = omega (arith, length-drop (place + 1) file)

  pub one_more : 41 + body_length (drop (place + 1) file) ≤ length (drop (place + 1) file) → sha256 (body_of (drop (place + 1) file)) ≡ kept_of (drop (place + 1) file) → body_length (drop (place + 1) file) < 2 ^ 64 → IsReadTo digest file (list ++ body_of (drop (place + 1) file) ∷ []) (place + (41 + body_length (drop (place + 1) file)))
  one_more whole same small =
      let b = drop (place + 1) file in
      let k = body_length b in
      let body = body_of b in
      let next = place + (41 + k) in
      let far : place + 1 + (40 + k) ≡ next = omega arith in
      let tail : drop (40 + k) b ≡ drop next file = drop-drop (40 + k) (place + 1) file ∙ ap (λ (j : ℕ). drop j file) far in
      let this : drop place file ≡ encoded (body ∷ []) ++ drop next file =
      here ∙ ap (λ (l : List ℕ). 0xA5 ∷ l) (is_record b fits_behind whole same ∙ ap (record_of body) tail) ∙ sym (encoded_cons body [] (drop next file)) in
      let count = length-body b fits_behind whole in
      let sizes = length-encoded body [] in
      record {
        split =
            r.split ∙ ap (λ (l : List ℕ). header digest ++ encoded list ++ l) this
            ∙ append_assoc (header digest) (encoded list) (encoded (body ∷ []) ++ drop next file)
            ∙ ap (λ (l : List ℕ). header digest ++ l) (sym (append_assoc (encoded list) (encoded (body ∷ [])) (drop next file)) ∙ ap (λ (l : List ℕ). l ++ drop next file) (sym (encoded-append list (body ∷ []))))
            ∙ sym (append_assoc (header digest) (encoded (list ++ body ∷ [])) (drop next file));
        at = omega (arith, r.at, ap length (encoded-append list (body ∷ [])), length-append (encoded list) (encoded (body ∷ [])), sizes, count);
        inside = omega (arith, length-drop (place + 1) file);
        width = r.width;
        sayable = All-append IsSayable list (body ∷ []) r.sayable (All-cons IsSayable body [] (omega (arith, count, small)) (All-nil IsSayable));
      }

  -- the records_of are these, and those from here on
  pub records_to : 41 < length file → records_of digest file ≡ with_bodies list (records_from (length list) place 0 (0xA5 ∷ drop (place + 1) file))
  records_to big =
      let some : 0 < length (drop place file) = omega (arith, length-drop place file, r.inside) in
      records_split digest file (drop place file) list r.width r.split r.sayable big some
      ∙ ap (λ (l : List ℕ). with_bodies list (records_from (length list) (40 + length (encoded list)) 0 l)) here
      ∙ ap (λ (p : ℕ). with_bodies list (records_from (length list) p 0 (0xA5 ∷ drop (place + 1) file))) (sym r.at)

-- what refuses a record refuses the file
pub refused_by : (digest file : List ℕ) (list : List (List ℕ)) (r : Records) (e : OpenFault) → records_of digest file ≡ with_bodies list r → (e ≡ Memory) ⊎ (r ≡ Err e) → (e ≡ Memory) ⊎ (records_of digest file ≡ Err e)
refused_by digest file list r e is (inl memory) = inl memory
refused_by digest file list r e is (inr refused) = inr (is ∙ ap (with_bodies list) refused ∙ with_bodies-Err list e)

-- at a gate that isn't open
pub is_at_rest : (digest file : List ℕ) (list : List (List ℕ)) (place : ℕ) → IsReadTo digest file list place → (get_or file place 0 ≡ 0xA5 → ⊥) → IsAtRest digest place list file
is_at_rest digest file list place r shut = record {
  gate = get_or file place 0;
  behind = drop (place + 1) file;
  closed = shut;
  split = r.split ∙ ap (λ (l : List ℕ). header digest ++ encoded list ++ l) (drop_more file place 0 r.inside);
  place = r.at;
  width = r.width;
  sayable = r.sayable;
}

pub contents_push : (list : List (Vec ℕ Global)) (v : Vec ℕ Global) → contents (list ++ v ∷ []) ≡ contents list ++ v.items ∷ []
contents_push list v = map_push (λ (w : Vec ℕ Global). w.items) list v

-- what `!=` says
pub same_bytes : (xs ys : List ℕ) (r : Bool) → r ≡ not (bytes_eq xs ys) → r ≡ false → xs ≡ ys
same_bytes xs ys r is shut = elim (cases_Bool (bytes_eq xs ys)) [
  | inl same ↦ (bytes_eq-Decides xs ys).0 same
  | inr differ ↦ let one : r ≡ true = is ∙ ap not differ in absurd (cc)
]

pub other_bytes : (xs ys : List ℕ) (r : Bool) → r ≡ not (bytes_eq xs ys) → r ≡ true → bytes_eq xs ys ≡ false
other_bytes xs ys r is yes_other = elim (cases_Bool (bytes_eq xs ys)) [
  | inl same ↦ let none : r ≡ false = is ∙ ap not same in absurd (cc)
  | inr differ ↦ differ
]
