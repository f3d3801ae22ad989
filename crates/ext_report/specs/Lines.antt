-- The line on standard error that tells a failure.
use Rattle.std.specs.Prelude.{ℕ, pos, List, [], ◌++◌, codes, decimal}
use Rattle.hex.specs.Hex.{encode_lower}
use Rattle.milnor_basis.specs.Text.{sq_text}
use Rattle.module_spec.specs.Spec.{Generator}
use Rattle.module_json.specs.declared.malformed.Malformed.{Malformed}
use Rattle.module_json.specs.declared.malformed.Malformed.TheVariants.{Limit, Json, Shape, Kind, Prime, Name, Degree, Action, Bounds, Parts, Memory as NoRoom}
use Rattle.module_json.specs.declared.malformed.What.{What}
use Rattle.module_json.specs.declared.malformed.What.TheVariants.{Bytes, Gens, Degree as DegreeLimit, Span, Actions}
use Rattle.module_json.specs.declared.malformed.Place.{Place}
use Rattle.module_json.specs.declared.malformed.Place.TheVariants.{Whole, Kind as AtType, Cofiber, Shift, Profile, AdemActions, MilnorActions, Prime as AtPrime, Gens as AtGens, Actions as AtActions, Min as AtMin, Max as AtMax}
use Rattle.module_json.specs.declared.malformed.Why.{Why}
use Rattle.module_json.specs.declared.malformed.Why.TheVariants.{Syntax, SquareZero, Unknown, WrongDegree, Repeated}
use Rattle.finite_module.specs.Text.{name_at, newline}
use Rattle.module_check.specs.declared.fault.CheckFault.{CheckFault}
use Rattle.module_check.specs.declared.fault.CheckFault.TheVariants.{Listed, Relation, Memory as NoMemory}
use Rattle.save_journal.specs.declared.fault.OpenFault.{OpenFault}
use Rattle.save_journal.specs.declared.fault.OpenFault.TheVariants.{Failed as OpenFailed, NotSave, Other, Damaged, Short, Memory as OpenMemory}
use Rattle.save_file.specs.declared.fault.ResumeFault.{ResumeFault}
use Rattle.save_file.specs.declared.fault.ResumeFault.TheVariants.{Open, Strange, Memory as ResumeMemory}
use Rattle.cert_check.specs.declared.fault.CertFault.{CertFault}
use Rattle.cert_check.specs.declared.fault.CertFault.TheVariants.{Missing, NoQuasi, Inexact, NotMinimal}
use Rattle.ext_products.specs.declared.refusal.Named.{Named}
use Rattle.ext_products.specs.declared.refusal.Named.TheVariants.{By, A, B, C, X}
use Rattle.ext_products.specs.declared.refusal.Pair.{Pair}
use Rattle.ext_products.specs.declared.refusal.Pair.TheVariants.{Ab, Bc}
use Rattle.ext_products.specs.declared.refusal.Target.{Target}
use Rattle.ext_products.specs.declared.refusal.Target.TheVariants.{Product, Bracket, Ax}
use Rattle.ext_products.specs.declared.refusal.Refusal.{Refusal}
use Rattle.ext_products.specs.declared.refusal.Refusal.TheVariants.{NoClass, OutOfRange, Nonzero}
use Rattle.ext_chart.specs.Classes.{class_text, class_sum_text}
use Rattle.ext_report.specs.Parts.{square_place}
use Rattle.ext_report.specs.declared.failure.Failure.{Failure}
use Rattle.ext_report.specs.declared.failure.Failure.TheVariants.{Words, Malformed as NoModuleFile, NotModule, PastLimit, Reading, Writing, Saving, SaveFile, Certificate, Classes, Memory}

abbrev pub what_text : What → List ℕ
what_text Bytes = codes "bytes"
what_text Gens = codes "generators"
what_text DegreeLimit = codes "degree"
what_text Span = codes "span"
what_text Actions = codes "actions"

abbrev pub place_text : Place → List ℕ
place_text Whole = codes "whole"
place_text AtType = codes "type"
place_text Cofiber = codes "cofiber"
place_text Shift = codes "shift"
place_text Profile = codes "profile"
place_text AdemActions = codes "adem_actions"
place_text MilnorActions = codes "milnor_actions"
place_text AtPrime = codes "p"
place_text AtGens = codes "gens"
place_text AtActions = codes "actions"
place_text AtMin = codes "min"
place_text AtMax = codes "max"

abbrev pub memory_line : List ℕ
memory_line = codes "ext: out of memory\n"

abbrev pub saving_line : List ℕ
saving_line = codes "ext: the save file failed\n"

-- what is wrong with action `index`
abbrev pub action_line : ℕ → Why → List ℕ
action_line index Syntax = codes "ext: module file: action " ++ (decimal index ++ codes ": syntax\n")
action_line index SquareZero = codes "ext: module file: action " ++ (decimal index ++ codes ": square zero\n")
action_line index Unknown = codes "ext: module file: action " ++ (decimal index ++ codes ": unknown name\n")
action_line index WrongDegree = codes "ext: module file: action " ++ (decimal index ++ codes ": wrong degree\n")
action_line index (Repeated first) = codes "ext: module file: action "
    ++ (decimal index ++ (codes ": differs from action " ++ (decimal first ++ newline)))

abbrev pub malformed_line : Malformed → List ℕ
malformed_line (Limit what) = codes "ext: module file: past the limit of " ++ (what_text what ++ newline)
malformed_line Json = codes "ext: module file: not JSON\n"
malformed_line (Shape at) = codes "ext: module file: wrong shape at " ++ (place_text at ++ newline)
malformed_line Kind = codes "ext: module file: unknown type\n"
malformed_line (Prime given) = codes "ext: module file: prime " ++ (decimal given ++ newline)
malformed_line (Name generator) = codes "ext: module file: name of generator " ++ (decimal generator ++ newline)
malformed_line (Degree generator) = codes "ext: module file: degree of generator " ++ (decimal generator ++ newline)
malformed_line (Action index why) = action_line index why
malformed_line (Bounds min max) = codes "ext: module file: max below min\n"
malformed_line (Parts want given) =
    codes "ext: module file: " ++ (decimal given ++ (codes " parts, wanted " ++ (decimal want ++ newline)))
malformed_line NoRoom = memory_line

abbrev pub fault_line : List Generator → CheckFault → List ℕ
fault_line generators (Listed index) =
    codes "ext: not a module: action " ++ (decimal index ++ codes " differs from its derived value\n")
fault_line generators (Relation r s generator) =
    codes "ext: not a module: "
    ++ (sq_text r ++ (codes " " ++ (sq_text s ++ (codes " on " ++ (name_at generators generator ++ newline)))))
fault_line generators NoMemory = memory_line

-- the limit that a built module would pass
abbrev pub built_line : What → List ℕ
built_line what = codes "ext: built module: past the limit of " ++ (what_text what ++ newline)

-- why a save file was not opened, and why it was not taken up
abbrev pub open_line : OpenFault → List ℕ
open_line OpenFailed = saving_line
open_line NotSave = codes "ext: save file: not a save file\n"
open_line (Other kept ours) = codes "ext: save file: of another module, kept "
    ++ (encode_lower kept ++ (codes ", ours " ++ (encode_lower ours ++ newline)))
open_line (Damaged number place kept found) =
    codes "ext: save file: record "
    ++ (decimal number
    ++ (codes " damaged, kept "
    ++ (encode_lower kept ++ (codes ", found " ++ (encode_lower found ++ newline)))))
open_line (Short number place) = codes "ext: save file: short at place " ++ (decimal place ++ newline)
open_line OpenMemory = memory_line

abbrev pub refusal_line : ResumeFault → List ℕ
refusal_line (Open fault) = open_line fault
refusal_line (Strange number place) = codes "ext: save file: record " ++ (decimal number ++ codes " strange\n")
refusal_line ResumeMemory = memory_line

-- behind the line of a save file that is refused for a record: where that begins
abbrev pub record_line : ℕ → ℕ → List ℕ
record_line number place =
    codes "ext: save file: record " ++ (decimal number ++ (codes " begins at byte " ++ (decimal place ++ newline)))

abbrev pub place_line : ResumeFault → List ℕ
place_line (Open (Damaged number place kept found)) = record_line number place
place_line (Open (Short number place)) = record_line number place
place_line (Strange number place) = record_line number place
place_line _ = []

-- why a save file is no certificate
abbrev pub certificate_line : CertFault → List ℕ
certificate_line (Missing s t) = codes "ext: certificate: missing square " ++ (square_place (pos s) t ++ newline)
certificate_line (NoQuasi s t) = codes "ext: certificate: no quasi-inverse at " ++ (square_place (pos s) t ++ newline)
certificate_line (Inexact s t) = codes "ext: certificate: not exact at " ++ (square_place (pos s) t ++ newline)
certificate_line (NotMinimal s t) = codes "ext: certificate: not minimal at " ++ (square_place (pos s) t ++ newline)

-- what a class is asked for as
abbrev pub named_text : Named → List ℕ
named_text By = codes "by"
named_text A = codes "a"
named_text B = codes "b"
named_text C = codes "c"
named_text X = codes "x"

abbrev pub pair_text : Pair → List ℕ
pair_text Ab = codes "ab"
pair_text Bc = codes "bc"

abbrev pub target_text : Target → List ℕ
target_text (Product pair) = pair_text pair
target_text Bracket = codes "value"
target_text Ax = codes "ax"

-- why there is nothing to tell of classes
abbrev pub class_line : Refusal → List ℕ
class_line (NoClass named class count) =
    codes "ext: no class "
    ++ (named_text named
    ++ (codes " "
    ++ (class_text (pos class.s) class.t class.i ++ (codes ", " ++ (decimal count ++ codes " there\n")))))
class_line (OutOfRange target s t) =
    codes "ext: out of range at " ++ (target_text target ++ (codes " " ++ (square_place s t ++ newline)))
class_line (Nonzero pair s t product) =
    codes "ext: product " ++ (pair_text pair ++ (codes " is not zero: " ++ (class_sum_text s t product ++ newline)))

abbrev pub line_of : Failure → List ℕ
line_of Saving = saving_line
line_of (SaveFile fault) = refusal_line fault ++ place_line fault
line_of (Certificate fault) = certificate_line fault
line_of (Classes refusal) = class_line refusal
line_of Words = codes "ext: words outside the command grammar\n"
line_of (NoModuleFile malformed) = malformed_line malformed
line_of (NotModule file fault) = fault_line file.generators fault
line_of (PastLimit what) = built_line what
line_of Reading = codes "ext: reading the module failed\n"
line_of Writing = codes "ext: writing failed\n"
line_of Memory = memory_line
