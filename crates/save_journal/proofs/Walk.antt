-- What the records_of of a file are, by its parts.
use Rattle.std.proofs.Common.{◌≡◌, ◌≢◌, inl, inr, ℕ, zero, suc, ◌+◌, ◌<◌, ◌≤◌, Bool, true, false, cond, List, [], ◌∷◌, ◌++◌, length, take, drop, refl, sym, ◌∙◌, ap, arith, length-append, append_assoc}
use Rattle.std.specs.Prelude.{nat_eq, All, Ok, Err}
use Rattle.std.specs.Str.{bytes_eq}
use Rattle.std.specs.Int.{w64, from_be_bytes, to_be_bytes}
use Rattle.std.proofs.lemmas.List.{take_at, drop_at, append-nil, drop-drop}
use Rattle.std.proofs.lemmas.List.Elements.{All-head, All-tail}
use Rattle.std.proofs.lemmas.Bool.{cases_lt, le-leb, lt-leb}
use Rattle.std.proofs.lemmas.Bool.Decides.{nat_tests}
use Rattle.std.proofs.lemmas.Slice.Eq.{bytes_eq-Decides}
use Rattle.std.proofs.lemmas.Nat.{from_be_bytes-to_be_bytes_8}
use Rattle.sha2.specs.Sha256.{sha256}
use Rattle.sha2.proofs.Facts256.{length-sha256}
use Rattle.save_journal.specs.Records.{Records, magic, with_body, body_length, body_of, kept_of, is_whole, at_gate, records_from, of_header, records_of, encoded, header}
use Rattle.save_journal.specs.Journals.{IsSayable, IsAtRest}
use Rattle.save_journal.specs.declared.fault.OpenFault.{OpenFault}
use Rattle.save_journal.specs.declared.fault.OpenFault.TheVariants.{Damaged, Short}

-- these records_of, and then the others
abbrev pub with_bodies : List (List ℕ) → Records → Records
with_bodies [] r = r
with_bodies (b ∷ bs) r = with_body b (with_bodies bs r)

with_bodies-Ok : (list rest : List (List ℕ)) → with_bodies list (Ok rest) ≡ Ok (list ++ rest)
with_bodies-Ok [] rest = refl
with_bodies-Ok (b ∷ bs) rest = ap (with_body b) (with_bodies-Ok bs rest)

pub with_bodies-Err : (list : List (List ℕ)) (fault : OpenFault) → with_bodies list (Err fault) ≡ Err fault
with_bodies-Err [] fault = refl
with_bodies-Err (b ∷ bs) fault = ap (with_body b) (with_bodies-Err bs fault)

pub with_bodies-push : (list : List (List ℕ)) (body : List ℕ) (r : Records) → with_bodies list (with_body body r) ≡ with_bodies (list ++ body ∷ []) r
with_bodies-push [] body r = refl
with_bodies-push (b ∷ bs) body r = ap (with_body b) (with_bodies-push bs body r)

pub records_skip : (number place skip : ℕ) (file : List ℕ) → records_from number place skip file ≡ records_from number place 0 (drop skip file)
records_skip number place zero file = refl
records_skip number place (suc skip) [] = refl
records_skip number place (suc skip) (byte ∷ file) = records_skip number place skip file

not_open : (gate : ℕ) → gate ≢ 0xA5 → nat_eq gate 0xA5 ≡ false
not_open gate shut = grind (arith, nat_tests)

-- a gate that isn't open ends them
pub at_closed : (number place gate : ℕ) (behind : List ℕ) → gate ≢ 0xA5 → records_from number place 0 (gate ∷ behind) ≡ Ok []
at_closed number place gate behind shut =
    ap (λ (b : Bool). at_gate b (is_whole behind) (bytes_eq (sha256 (body_of behind)) (kept_of behind)) number place behind (records_from (number + 1) (place + 41 + body_length behind) (40 + body_length behind) behind)) (not_open gate shut)

pub at_short : (number place : ℕ) (behind : List ℕ) → length behind < 41 + body_length behind → records_from number place 0 (0xA5 ∷ behind) ≡ Err (Short number place)
at_short number place behind less =
    ap (λ (b : Bool). at_gate true b (bytes_eq (sha256 (body_of behind)) (kept_of behind)) number place behind (records_from (number + 1) (place + 41 + body_length behind) (40 + body_length behind) behind)) (lt-leb _ _ less)

gate_true : (whole right : Bool) (number place : ℕ) (behind : List ℕ) (rest : Records) → whole ≡ true → right ≡ true → at_gate true whole right number place behind rest ≡ with_body (body_of behind) rest
gate_true whole right number place behind rest w r = ap (λ (b : Bool). at_gate true b right number place behind rest) w ∙ ap (λ (b : Bool). at_gate true true b number place behind rest) r

gate_damaged : (whole right : Bool) (number place : ℕ) (behind : List ℕ) (rest : Records) → whole ≡ true → right ≡ false → at_gate true whole right number place behind rest ≡ Err (Damaged number place (kept_of behind) (sha256 (body_of behind)))
gate_damaged whole right number place behind rest w r = ap (λ (b : Bool). at_gate true b right number place behind rest) w ∙ ap (λ (b : Bool). at_gate true true b number place behind rest) r

pub at_damaged : (number place : ℕ) (behind : List ℕ) → 41 + body_length behind ≤ length behind → bytes_eq (sha256 (body_of behind)) (kept_of behind) ≡ false → records_from number place 0 (0xA5 ∷ behind) ≡ Err (Damaged number place (kept_of behind) (sha256 (body_of behind)))
at_damaged number place behind whole wrong = gate_damaged _ _ number place behind _ (le-leb _ _ whole) wrong

-- a whole record
pub at_whole : (number place : ℕ) (behind : List ℕ) → 41 + body_length behind ≤ length behind → bytes_eq (sha256 (body_of behind)) (kept_of behind) ≡ true → records_from number place 0 (0xA5 ∷ behind) ≡ with_body (body_of behind) (records_from (number + 1) (place + 41 + body_length behind) 0 (drop (40 + body_length behind) behind))
at_whole number place behind whole right =
    gate_true _ _ number place behind (records_from (number + 1) (place + 41 + body_length behind) (40 + body_length behind) behind) (le-leb _ _ whole) right
    ∙ ap (with_body (body_of behind)) (records_skip (number + 1) (place + 41 + body_length behind) (40 + body_length behind) behind)

-- a body behind its gate, and what comes then
abbrev pub record_of : List ℕ → List ℕ → List ℕ
record_of body tail = to_be_bytes w64 (length body) ++ (body ++ (sha256 body ++ tail))

module _ (body tail : List ℕ) (sayable : IsSayable body) where
  abbrev len : List ℕ
  len = to_be_bytes w64 (length body)

  abbrev behind_of : List ℕ
  behind_of = record_of body tail

  pub says_length : body_length behind_of ≡ length body
  says_length = ap (from_be_bytes w64) (take_at len (body ++ (sha256 body ++ tail)) 8 refl) ∙ from_be_bytes-to_be_bytes_8 (length body) sayable

  after_length : drop 8 behind_of ≡ body ++ (sha256 body ++ tail)
  after_length = drop_at len (body ++ (sha256 body ++ tail)) 8 refl

  pub says_body : body_of behind_of ≡ body
  says_body = ap (λ (n : ℕ). take n (drop 8 behind_of)) says_length ∙ ap (λ (l : List ℕ). take (length body) l) after_length ∙ take_at body (sha256 body ++ tail) (length body) refl

  after_body : (n : ℕ) → n ≡ length body → drop (8 + n) behind_of ≡ sha256 body ++ tail
  after_body n e =
      let twice : drop (8 + n) behind_of ≡ drop n (drop 8 behind_of) = sym (drop-drop n 8 behind_of) in
      twice ∙ ap (λ (l : List ℕ). drop n l) after_length ∙ drop_at body (sha256 body ++ tail) n (sym e)

  pub says_kept : kept_of behind_of ≡ sha256 body
  says_kept = ap (λ (l : List ℕ). take 32 l) (after_body (body_length behind_of) says_length) ∙ take_at (sha256 body) tail 32 (length-sha256 body)

  pub after_record : drop (40 + body_length behind_of) behind_of ≡ tail
  after_record =
      let n = body_length behind_of in
      let e : 40 + n ≡ 8 + n + 32 = omega arith in
      ap (λ (k : ℕ). drop k behind_of) e ∙ sym (drop-drop 32 (8 + n) behind_of) ∙ ap (λ (l : List ℕ). drop 32 l) (after_body n says_length) ∙ drop_at (sha256 body) tail 32 (length-sha256 body)

  pub length-behind : length behind_of ≡ 40 + length body + length tail
  length-behind = omega (arith, length-append len (body ++ (sha256 body ++ tail)), length-append body (sha256 body ++ tail), length-append (sha256 body) tail, length-sha256 body)

  same_digest : bytes_eq (sha256 (body_of behind_of)) (kept_of behind_of) ≡ true
  same_digest = (bytes_eq-Decides (sha256 (body_of behind_of)) (kept_of behind_of)).1 (ap sha256 says_body ∙ sym says_kept)

  pub at_record : (number place : ℕ) → 0 < length tail → records_from number place 0 (0xA5 ∷ behind_of) ≡ with_body body (records_from (number + 1) (place + 41 + length body) 0 tail)
  at_record number place some =
      let whole : 41 + body_length behind_of ≤ length behind_of = omega (arith, says_length, length-behind) in
      at_whole number place behind_of whole same_digest
      ∙ ap (λ (l : List ℕ). with_body l (records_from (number + 1) (place + 41 + body_length behind_of) 0 (drop (40 + body_length behind_of) behind_of))) says_body
      ∙ ap (λ (n : ℕ). with_body body (records_from (number + 1) (place + 41 + n) 0 (drop (40 + body_length behind_of) behind_of))) says_length
      ∙ ap (λ (l : List ℕ). with_body body (records_from (number + 1) (place + 41 + length body) 0 l)) after_record

-- ---- encoded records_of

regroup : (a b c d : List ℕ) → ((a ++ b) ++ c) ++ d ≡ a ++ (b ++ (c ++ d))
regroup a b c d = simp append_assoc

pub encoded_cons : (body : List ℕ) (list : List (List ℕ)) (tail : List ℕ) → encoded (body ∷ list) ++ tail ≡ 0xA5 ∷ record_of body (encoded list ++ tail)
encoded_cons body list tail = ap (λ (l : List ℕ). 0xA5 ∷ (to_be_bytes w64 (length body) ++ l)) (regroup body (sha256 body) (encoded list) tail)

pub encoded-append : (list more : List (List ℕ)) → encoded (list ++ more) ≡ encoded list ++ encoded more
encoded-append [] more = refl
encoded-append (body ∷ list) more =
    ap (λ (l : List ℕ). 0xA5 ∷ to_be_bytes w64 (length body) ++ body ++ sha256 body ++ l) (encoded-append list more)
    ∙ ap (λ (l : List ℕ). 0xA5 ∷ l) (sym (append_assoc (to_be_bytes w64 (length body) ++ body ++ sha256 body) (encoded list) (encoded more)))

pub length-encoded : (body : List ℕ) (list : List (List ℕ)) → length (encoded (body ∷ list)) ≡ 41 + length body + length (encoded list)
length-encoded body list = omega (arith, length-append (to_be_bytes w64 (length body) ++ body ++ sha256 body) (encoded list), length-append (to_be_bytes w64 (length body) ++ body) (sha256 body), length-append (to_be_bytes w64 (length body)) body, length-sha256 body)

pub records_encoded : (number place : ℕ) (list : List (List ℕ)) (tail : List ℕ) → All IsSayable list → 0 < length tail → records_from number place 0 (encoded list ++ tail) ≡ with_bodies list (records_from (number + length list) (place + length (encoded list)) 0 tail)
records_encoded number place [] tail all some =
    let n : number ≡ number + 0 = omega arith in let p : place ≡ place + 0 = omega arith in
    ap (λ (k : ℕ). records_from k place 0 tail) n ∙ ap (λ (k : ℕ). records_from (number + 0) k 0 tail) p
records_encoded number place (body ∷ list) tail all some =
    let first = at_record body (encoded list ++ tail) (All-head IsSayable body list all) number place (omega (arith, length-append (encoded list) tail)) in
    let later = records_encoded (number + 1) (place + 41 + length body) list tail (All-tail IsSayable body list all) some in
    let n : number + 1 + length list ≡ number + length (body ∷ list) = omega arith in
    let p : place + 41 + length body + length (encoded list) ≡ place + length (encoded (body ∷ list)) = omega (arith, length-encoded body list) in
    ap (records_from number place 0) (encoded_cons body list tail) ∙ first ∙ ap (with_body body) later
    ∙ ap (λ (k : ℕ). with_body body (with_bodies list (records_from k (place + 41 + length body + length (encoded list)) 0 tail))) n
    ∙ ap (λ (k : ℕ). with_body body (with_bodies list (records_from (number + length (body ∷ list)) k 0 tail))) p

-- ---- files

module _ (digest file rest : List ℕ) (list : List (List ℕ)) (width : length digest ≡ 32) (split : file ≡ header digest ++ encoded list ++ rest) where
  abbrev body_part : List ℕ
  body_part = encoded list ++ rest

  whole_split : file ≡ magic ++ (digest ++ body_part)
  whole_split = split ∙ append_assoc (magic ++ digest) (encoded list) rest ∙ append_assoc magic digest body_part

  magic_is : take 8 file ≡ magic
  magic_is = ap (λ (l : List ℕ). take 8 l) whole_split ∙ take_at magic (digest ++ body_part) 8 refl

  after_magic : drop 8 file ≡ digest ++ body_part
  after_magic = ap (λ (l : List ℕ). drop 8 l) whole_split ∙ drop_at magic (digest ++ body_part) 8 refl

  digest_is : take 32 (drop 8 file) ≡ digest
  digest_is = ap (λ (l : List ℕ). take 32 l) after_magic ∙ take_at digest body_part 32 width

  after_header : drop 40 file ≡ body_part
  after_header = sym (drop-drop 32 8 file) ∙ ap (λ (l : List ℕ). drop 32 l) after_magic ∙ drop_at digest body_part 32 width

  pub length-file : length file ≡ 40 + length (encoded list) + length rest
  length-file = omega (arith, ap length whole_split, length-append magic (digest ++ body_part), length-append digest body_part, length-append (encoded list) rest, width)

  header_true : (a b : Bool) → a ≡ true → b ≡ true → of_header a b digest file ≡ records_from 0 40 0 (drop 40 file)
  header_true a b ea eb = ap (λ (x : Bool). of_header x b digest file) ea ∙ ap (λ (x : Bool). of_header true x digest file) eb

  pub records_split : All IsSayable list → 41 < length file → 0 < length rest → records_of digest file ≡ with_bodies list (records_from (length list) (40 + length (encoded list)) 0 rest)
  records_split all long some =
      let n : 0 + length list ≡ length list = omega arith in
      ap (λ (b : Bool). cond b (Ok []) (of_header (bytes_eq (take 8 file) magic) (bytes_eq (take 32 (drop 8 file)) digest) digest file)) (lt-leb _ _ long)
      ∙ header_true _ _ ((bytes_eq-Decides (take 8 file) magic).1 magic_is) ((bytes_eq-Decides (take 32 (drop 8 file)) digest).1 digest_is)
      ∙ ap (records_from 0 40 0) after_header
      ∙ records_encoded 0 40 list rest all some
      ∙ ap (λ (k : ℕ). with_bodies list (records_from k (40 + length (encoded list)) 0 rest)) n

pub records_few : (digest file : List ℕ) → length file ≤ 41 → records_of digest file ≡ Ok []
records_few digest file few = ap (λ (b : Bool). cond b (Ok []) (of_header (bytes_eq (take 8 file) magic) (bytes_eq (take 32 (drop 8 file)) digest) digest file)) (le-leb _ _ few)

none_encoded : (list : List (List ℕ)) → length (encoded list) ≤ 0 → list ≡ []
none_encoded [] few = refl
none_encoded (body ∷ list) few = absurd (omega (arith, length-encoded body list))

-- a file at rest has its records_of
pub at_rest_records : (digest : List ℕ) (end : ℕ) (list : List (List ℕ)) (file : List ℕ) → IsAtRest digest end list file → records_of digest file ≡ Ok list
at_rest_records digest end list file r =
    let gate = r.gate in let behind = r.behind in
    let long = length-file digest file (gate ∷ behind) list r.width r.split in
    elim (cases_lt 41 (length file)) [
      | inr few ↦ records_few digest file few ∙ ap Ok (sym (none_encoded list (omega arith)))
      | inl more ↦
          records_split digest file (gate ∷ behind) list r.width r.split r.sayable (omega arith) (omega arith)
          ∙ ap (with_bodies list) (at_closed _ _ gate behind r.closed) ∙ with_bodies-Ok list [] ∙ ap Ok (append-nil list)
    ]

-- each record has more than one byte
pub few_records : (list : List (List ℕ)) → length list ≤ length (encoded list)
few_records [] = omega arith
few_records (body ∷ list) = let rest = few_records list in omega (arith, length-encoded body list)
