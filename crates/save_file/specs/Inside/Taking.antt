-- What is refused while a save file is taken up.
use Rattle.std.specs.Prelude.{◌≡◌, ℕ, List, Err}
use Rattle.resolution_laws.specs.Resolution.{Module}
use Rattle.save_file.specs.Bodies.{Kept}
use Rattle.save_file.specs.Reading.{kept_from}
use Rattle.save_file.specs.Files.{place_of}
use Rattle.save_file.specs.declared.fault.DecodeFault.{DecodeFault}
use Rattle.save_file.specs.declared.fault.DecodeFault.TheVariants.{Strange as StrangeBody, Memory as BodyMemory}
use Rattle.save_file.specs.declared.fault.ResumeFault.{ResumeFault}
use Rattle.save_file.specs.declared.fault.ResumeFault.TheVariants.{Strange, Memory}

-- a body that was not read, of the record at this place
abbrev pub body_refusal : ℕ → DecodeFault → ResumeFault
body_refusal place (StrangeBody number) = Strange number place
body_refusal place BodyMemory = Memory

-- it is that one of these bodies may not stand behind what is kept and those before it, and names its record
abbrev pub IsStrange : Module → List Kept → List (List ℕ) → ResumeFault → Type 0
IsStrange m kept bodies fault = (number : ℕ) × (fault ≡ Strange number (place_of number bodies)) ×
    (kept_from m kept 0 bodies ≡ Err number)
