-- The records of a save file, as a function of its bytes.
use Rattle.std.specs.Prelude.{ℕ, zero, suc, ◌+◌, Bool, true, false, nat_eq, nat_le, cond, List, [], ◌∷◌, ◌++◌, length, take, drop, Result, Ok, Err}
use Rattle.std.specs.Int.{w64, from_be_bytes, to_be_bytes}
use Rattle.std.specs.Str.{bytes_eq}
use Rattle.sha2.specs.Sha256.{sha256}
use Rattle.save_journal.specs.declared.fault.OpenFault.{OpenFault}
use Rattle.save_journal.specs.declared.fault.OpenFault.TheVariants.{NotSave, Other, Damaged, Short}

-- the bodies of a file's records, in order, or why it is refused
abbrev pub Records : Type 0
Records = Result (List (List ℕ)) OpenFault

-- "EXTSAVE1"
abbrev pub magic : List ℕ
magic = 0x45 ∷ 0x58 ∷ 0x54 ∷ 0x53 ∷ 0x41 ∷ 0x56 ∷ 0x45 ∷ 0x31 ∷ []

-- what a file begins with, whose records belong to this digest; the gate of the first record stands behind it
abbrev pub header : List ℕ → List ℕ
header digest = magic ++ digest

-- the file without records: the header and a closed gate
abbrev pub fresh : List ℕ → List ℕ
fresh digest = header digest ++ 0 ∷ []

-- ---- a record

-- What stands behind an open gate: the length of the body, in eight bytes,
abbrev pub body_length : List ℕ → ℕ
body_length behind = from_be_bytes w64 (take 8 behind)

-- the body,
abbrev pub body_of : List ℕ → List ℕ
body_of behind = take (body_length behind) (drop 8 behind)

-- and the digest that is kept of it
abbrev pub kept_of : List ℕ → List ℕ
kept_of behind = take 32 (drop (8 + body_length behind) behind)

-- whether all of a record and the next gate stand behind an open gate
abbrev pub is_whole : List ℕ → Bool
is_whole behind = nat_le (41 + body_length behind) (length behind)

-- a record, and then the others
abbrev pub with_body : List ℕ → Records → Records
with_body body (Ok rest) = Ok (body ∷ rest)
with_body body (Err fault) = Err fault

-- one record more at the end
abbrev pub and_last : Records → List ℕ → Records
and_last (Ok list) body = Ok (list ++ body ∷ [])
and_last (Err fault) body = Err fault

-- ---- a file

-- What is read at a gate: nothing more if it is not open; and if it is, the record behind it, which is to be whole and to
-- have the digest that it keeps, and then the rest. The number of the record and the place of the gate name a refusal.
abbrev pub at_gate : Bool → Bool → Bool → ℕ → ℕ → List ℕ → Records → Records
at_gate false whole right number place behind rest = Ok []
at_gate true false right number place behind rest = Err (Short number place)
at_gate true true false number place behind rest = Err (Damaged number place (kept_of behind) (sha256 (body_of behind)))
at_gate true true true number place behind rest = with_body (body_of behind) rest

-- the records from the gate on that stands behind so many bytes more
abbrev pub records_from : ℕ → ℕ → ℕ → List ℕ → Records
records_from number place skip [] = Ok []
records_from number place (suc skip) (byte ∷ behind) = records_from number place skip behind
records_from number place zero (gate ∷ behind) =
    at_gate (nat_eq gate 0xA5) (is_whole behind) (bytes_eq (sha256 (body_of behind)) (kept_of behind)) number place
    behind
    (records_from (number + 1) (place + 41 + body_length behind) (40 + body_length behind) behind)

-- the records behind a header, whose first eight bytes are to be right, and then the next thirty-two
abbrev pub of_header : Bool → Bool → List ℕ → List ℕ → Records
of_header false ours digest file = Err NotSave
of_header true false digest file = Err (Other (take 32 (drop 8 file)) digest)
of_header true true digest file = records_from 0 40 0 (drop 40 file)

-- The records of a file that are to belong to this digest. A file of at most 41 bytes has room for none, and has none.
abbrev pub records_of : List ℕ → List ℕ → Records
records_of digest file = cond (nat_le (length file) 41) (Ok [])
    (of_header (bytes_eq (take 8 file) magic) (bytes_eq (take 32 (drop 8 file)) digest) digest file)

-- what a file is once it was opened: one without room for a record is fresh
abbrev pub opened : List ℕ → List ℕ → List ℕ
opened digest file = cond (nat_le (length file) 41) (fresh digest) file

-- ---- what is written

-- a body behind a gate: its length, it, its digest, and the next gate, closed
abbrev pub framed : List ℕ → List ℕ
framed body = to_be_bytes w64 (length body) ++ body ++ sha256 body ++ 0 ∷ []

-- whole records with open gates
abbrev pub encoded : List (List ℕ) → List ℕ
encoded [] = []
encoded (body ∷ rest) = 0xA5 ∷ to_be_bytes w64 (length body) ++ body ++ sha256 body ++ encoded rest
