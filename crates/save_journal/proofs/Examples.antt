-- Files, byte by byte. The digests are those of another program.
use Rattle.std.proofs.Common.{◌≡◌, ℕ, List, [], ◌∷◌, ◌++◌, refl}
use Rattle.std.specs.Prelude.{replicate, Ok, Err}
use Rattle.sha2.specs.Sha256.{compress, digest_bytes, first_words, hash_after, rounds, schedule, sha256}
use Rattle.save_journal.specs.Records.{records_of, opened, fresh, magic, framed}
use Rattle.save_journal.specs.declared.fault.OpenFault.TheVariants.{NotSave, Other, Damaged, Short}

-- "gen x0 0" and a newline: the sphere, as a text
abbrev sphere : List ℕ
sphere = 0x67 ∷ 0x65 ∷ 0x6e ∷ 0x20 ∷ 0x78 ∷ 0x30 ∷ 0x20 ∷ 0x30 ∷ 0x0a ∷ []

abbrev ours : List ℕ
ours = 0x49 ∷ 0x8f ∷ 0xad ∷ 0xf1 ∷ 0x3d ∷ 0xde ∷ 0x22 ∷ 0xe6 ∷ 0x89 ∷ 0x81 ∷ 0x75 ∷ 0xcb ∷ 0x94 ∷ 0x7c ∷ 0xb1 ∷ 0x8f ∷ 0x47 ∷ 0x7c ∷ 0xda ∷ 0x6d ∷ 0x56 ∷ 0x03 ∷ 0xc7 ∷ 0xa1 ∷ 0x4c ∷ 0x47 ∷ 0x5e ∷ 0x22 ∷ 0x9e ∷ 0xaa ∷ 0xa9 ∷ 0x43 ∷ []

ours_is : sha256 sphere ≡ ours
unfolding first_words schedule rounds compress hash_after digest_bytes sha256
ours_is = refl

-- the square (0, 0) of the sphere: one generator, whose image is x0, and no kernel
abbrev square : List ℕ
square = 0x01 ∷ 0x00 ∷ 0x00 ∷ 0x00 ∷ 0x00 ∷ 0x00 ∷ 0x00 ∷ 0x00 ∷ 0x00 ∷ 0x00 ∷ 0x00 ∷ 0x00 ∷ 0x01 ∷ 0x00 ∷ 0x00 ∷ 0x00 ∷ 0x00 ∷ 0x00 ∷ 0x00 ∷ 0x00 ∷ 0x01 ∷ 0x01 ∷ 0x00 ∷ 0x00 ∷ 0x00 ∷ 0x00 ∷ 0x00 ∷ 0x00 ∷ 0x00 ∷ 0x00 ∷ 0x00 ∷ 0x00 ∷ 0x00 ∷ 0x00 ∷ 0x00 ∷ 0x00 ∷ 0x00 ∷ 0x01 ∷ []

abbrev square_digest : List ℕ
square_digest = 0x69 ∷ 0xb7 ∷ 0xc8 ∷ 0x44 ∷ 0xde ∷ 0x9a ∷ 0x64 ∷ 0x19 ∷ 0x75 ∷ 0x4d ∷ 0xc7 ∷ 0xe8 ∷ 0x57 ∷ 0xdb ∷ 0xba ∷ 0x1a ∷ 0x6f ∷ 0x8b ∷ 0x2f ∷ 0x2d ∷ 0xde ∷ 0xae ∷ 0xfe ∷ 0xdb ∷ 0x34 ∷ 0x4e ∷ 0xa3 ∷ 0xbe ∷ 0xa6 ∷ 0x0d ∷ 0x39 ∷ 0x53 ∷ []

-- the file that has the one square, whose last gate is this
abbrev file : ℕ → List ℕ
file gate = magic ++ ours ++ 0xa5 ∷ 0 ∷ 0 ∷ 0 ∷ 0 ∷ 0 ∷ 0 ∷ 0 ∷ 38 ∷ square ++ square_digest ++ gate ∷ []

one_record : records_of ours (file 0) ≡ Ok (square ∷ [])
unfolding first_words schedule rounds compress hash_after digest_bytes sha256
one_record = refl

-- which is what is written of it
as_written : magic ++ ours ++ 0xa5 ∷ framed square ≡ file 0
unfolding first_words schedule rounds compress hash_after digest_bytes sha256
as_written = refl

next_open : records_of ours (file 0xa5) ≡ Err (Short 1 119)
unfolding first_words schedule rounds compress hash_after digest_bytes sha256
next_open = refl

-- behind a closed gate nothing matters
closed_before_open : records_of ours (file 0 ++ 0xa5 ∷ 7 ∷ []) ≡ Ok (square ∷ [])
unfolding first_words schedule rounds compress hash_after digest_bytes sha256
closed_before_open = refl

-- a length that no sum may wrap at
too_long : records_of ours (magic ++ ours ++ 0xa5 ∷ 255 ∷ 255 ∷ 255 ∷ 255 ∷ 255 ∷ 255 ∷ 255 ∷ 255 ∷ square ++ square_digest ++ 0 ∷ []) ≡ Err (Short 0 40)
unfolding first_words schedule rounds compress hash_after digest_bytes sha256
too_long = refl

cut_off : records_of ours (magic ++ ours ++ 0xa5 ∷ 7 ∷ []) ≡ Err (Short 0 40)
unfolding first_words schedule rounds compress hash_after digest_bytes sha256
cut_off = refl

wrong_digest : records_of ours (magic ++ ours ++ 0xa5 ∷ 0 ∷ 0 ∷ 0 ∷ 0 ∷ 0 ∷ 0 ∷ 0 ∷ 38 ∷ square ++ ours ++ 0 ∷ []) ≡ Err (Damaged 0 40 ours square_digest)
unfolding first_words schedule rounds compress hash_after digest_bytes sha256
wrong_digest = refl

no_save_file : records_of ours (replicate 50 0) ≡ Err NotSave
no_save_file = refl

of_another : records_of ours (magic ++ square_digest ++ 0 ∷ 0 ∷ []) ≡ Err (Other square_digest ours)
of_another = refl

no_room : records_of ours (replicate 41 0xa5) ≡ Ok []
no_room = refl

written_anew : opened ours (replicate 17 0xa5) ≡ fresh ours
written_anew = refl
