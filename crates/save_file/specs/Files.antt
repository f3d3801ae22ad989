-- What a save file stands for.
use Rattle.std.specs.Prelude.{ℕ, ◌+◌, List, [], length, take, Option, Result, Ok, Err}
use Rattle.std.specs.Result.{result_ok}
use Rattle.sha2.specs.Sha256.{sha256}
use Rattle.finite_module.specs.Module.{Module as SteenrodModule}
use Rattle.finite_module.specs.Checked.{Checked}
use Rattle.finite_module.specs.Text.{canonical_text}
use Rattle.resolution_laws.specs.Resolution.{Module}
use Rattle.resolution_laws.specs.Start.{Entry}
use Rattle.square.specs.Squares.{module_over, over}
use Rattle.save_journal.specs.Records.{Records, records_of, encoded}
use Rattle.save_file.specs.Bodies.{Kept}
use Rattle.save_file.specs.Reading.{kept_of_bodies, squares_of}
use Rattle.save_journal.specs.declared.fault.OpenFault.{OpenFault}
use Rattle.save_journal.specs.declared.fault.OpenFault.TheVariants.{Memory as OpenMemory}
use Rattle.save_file.specs.declared.fault.ResumeFault.{ResumeFault}
use Rattle.save_file.specs.declared.fault.ResumeFault.TheVariants.{Open, Strange, Memory}

-- what the records of a module's save file belong to: SHA-256 of its canonical text
abbrev pub digest_of : SteenrodModule → List ℕ
digest_of m = sha256 (canonical_text m)

-- the squares of a save file, in the order of their records, or why it is refused
abbrev pub Standing : Type 0
Standing = Result (List Entry) ResumeFault

-- the place of the gate of the record of this number, behind the header and the records before it
abbrev pub place_of : ℕ → List (List ℕ) → ℕ
place_of number bodies = 40 + length (encoded (take number bodies))

abbrev pub of_squares : List (List ℕ) → Result (List Entry) ℕ → Standing
of_squares bodies (Ok list) = Ok list
of_squares bodies (Err number) = Err (Strange number (place_of number bodies))

abbrev pub of_records : Module → Records → Standing
of_records m (Ok bodies) = of_squares bodies (squares_of m bodies)
of_records m (Err fault) = Err (Open fault)

-- What a file stands for as a save file of a module: its records, each read behind those before it. A file that is refused stands
-- for nothing.
abbrev pub standing_of : SteenrodModule → List ℕ → Standing
standing_of m file = of_records (module_over m) (records_of (digest_of m) file)

-- the squares that it stands for, none where it is refused
abbrev pub squares_in : Checked → List ℕ → Option (List Entry)
squares_in m file = result_ok (standing_of m.plain file)

-- its first records alone, and the refusal where those are refused
abbrev pub first_records : ℕ → Records → Records
first_records n (Ok bodies) = Ok (take n bodies)
first_records n (Err fault) = Err fault

abbrev pub list_in : Standing → List Entry
list_in (Ok list) = list
list_in (Err fault) = []

abbrev pub first_squares : Checked → ℕ → List ℕ → List Entry
first_squares m n file = list_in (of_records (over m) (first_records n (records_of (digest_of m.plain) file)))

-- the squares with the quasi-inverses that the file keeps: each square with its own, if there is one
abbrev pub kept_list : Result (List Kept) ℕ → List Kept
kept_list (Ok kept) = kept
kept_list (Err number) = []

abbrev pub kept_by : Module → Records → List Kept
kept_by m (Ok bodies) = kept_list (kept_of_bodies m bodies)
kept_by m (Err fault) = []

abbrev pub kept_in_file : Checked → List ℕ → List Kept
kept_in_file m file = kept_by (over m) (records_of (digest_of m.plain) file)

abbrev pub first_kept : Checked → ℕ → List ℕ → List Kept
first_kept m n file = kept_by (over m) (first_records n (records_of (digest_of m.plain) file))

-- ---- why a file was not taken up

-- a fault of opening it, where want of memory has an answer of its own
abbrev pub opening_refusal : OpenFault → ResumeFault
opening_refusal OpenMemory = Memory
opening_refusal fault = Open fault
