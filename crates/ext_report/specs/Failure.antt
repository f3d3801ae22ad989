-- Why a run has no answer, and its status.
use Rattle.std.specs.Prelude.{ℕ, List, Result, Ok, Err, ⊤}
use Rattle.edge.specs.declared.reading.ReadFault.{ReadFault}
use Rattle.edge.specs.declared.reading.ReadFault.TheVariants.{Failed, Memory as NoSpace}
use Rattle.module_json.specs.declared.malformed.Malformed.{Malformed}
use Rattle.module_json.specs.declared.malformed.Malformed.TheVariants.{Memory as NoRoom}
use Rattle.module_check.specs.declared.fault.CheckFault.{CheckFault}
use Rattle.module_check.specs.declared.fault.CheckFault.TheVariants.{Memory as NoMemory}
use Rattle.module_build.specs.declared.fault.BuildFault.{BuildFault}
use Rattle.module_build.specs.declared.fault.BuildFault.TheVariants.{Limit as OfBuilt, Memory as NoRoomToBuild}
use Rattle.save_journal.specs.declared.fault.OpenFault.TheVariants.{Failed as OpenFailed, Memory as OpenMemory}
use Rattle.save_file.specs.declared.fault.ResumeFault.{ResumeFault}
use Rattle.save_file.specs.declared.fault.ResumeFault.TheVariants.{Open, Memory as ResumeMemory}
use Rattle.ext_products.specs.declared.refusal.Refusal.{Refusal}
use Rattle.ext_products.specs.declared.refusal.Refusal.TheVariants.{NoClass, OutOfRange, Nonzero}
use Rattle.ext_products.specs.declared.refusal.ClassesFault.{ClassesFault}
use Rattle.ext_products.specs.declared.refusal.ClassesFault.TheVariants.{Refused, Memory as NoSpaceForClasses}
use Rattle.ext_words.specs.declared.command.WordsFault.{WordsFault}
use Rattle.ext_words.specs.declared.command.WordsFault.TheVariants.{Words as Outside, Memory as NoSpaceForWords}
use Rattle.ext_report.specs.declared.failure.Failure.{Failure}
use Rattle.ext_report.specs.declared.failure.Failure.TheVariants.{Words, Malformed as NoModuleFile, NotModule, PastLimit, Reading, Writing, Saving, SaveFile, Certificate, Classes, Memory}
use Rattle.ext_report.specs.declared.status.TheConstants.{OUTSIDE_GRAMMAR, MALFORMED, NO_MODULE, READING, WRITING, SAVING, SAVE_FILE, NONZERO, NO_CLASS, NO_MEMORY, NO_CERTIFICATE, PAST_LIMIT}

-- what stands for a fault of a call: want of memory is one for all
abbrev pub words_failure : WordsFault → Failure
words_failure Outside = Words
words_failure NoSpaceForWords = Memory

abbrev pub read_failure : ReadFault → Failure
read_failure Failed = Reading
read_failure NoSpace = Memory

abbrev pub file_failure : Malformed → Failure
file_failure NoRoom = Memory
file_failure malformed = NoModuleFile malformed

abbrev pub build_failure : BuildFault → Failure
build_failure (OfBuilt what) = PastLimit what
build_failure NoRoomToBuild = Memory

abbrev pub resume_failure : ResumeFault → Failure
resume_failure (Open OpenFailed) = Saving
resume_failure (Open OpenMemory) = Memory
resume_failure ResumeMemory = Memory
resume_failure fault = SaveFile fault

abbrev pub classes_failure : ClassesFault → Failure
classes_failure (Refused refusal) = Classes refusal
classes_failure NoSpaceForClasses = Memory

abbrev pub malformed_status : Malformed → ℕ
malformed_status NoRoom = NO_MEMORY
malformed_status malformed = MALFORMED

abbrev pub fault_status : CheckFault → ℕ
fault_status NoMemory = NO_MEMORY
fault_status fault = NO_MODULE

abbrev pub class_status : Refusal → ℕ
class_status (NoClass named class count) = NO_CLASS
class_status (OutOfRange target s t) = NO_CLASS
class_status (Nonzero pair s t product) = NONZERO

abbrev pub status_of : Failure → ℕ
status_of Saving = SAVING
status_of (SaveFile fault) = SAVE_FILE
status_of (Certificate fault) = NO_CERTIFICATE
status_of (Classes refusal) = class_status refusal
status_of Words = OUTSIDE_GRAMMAR
status_of (NoModuleFile malformed) = malformed_status malformed
status_of (NotModule file fault) = fault_status fault
status_of (PastLimit what) = PAST_LIMIT
status_of Reading = READING
status_of Writing = WRITING
status_of Memory = NO_MEMORY

-- the failure is of the classes that the words name
abbrev pub IsOfClasses : Failure → Type 0
IsOfClasses (Classes refusal) = ⊤
IsOfClasses failure = ⊥

-- the answer is of what is resolved: a text, or a failure of classes
abbrev pub IsTold : Result (List ℕ) Failure → Type 0
IsTold (Ok text) = ⊤
IsTold (Err failure) = IsOfClasses failure
