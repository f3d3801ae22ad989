-- Why a chart file is refused, and what an append does to its parts.
use Rattle.std.specs.Prelude.{◌≡◌, ◌⊎◌, ℕ, List, [], ◌∷◌, ◌++◌, Ok, Err}
use Rattle.save_journal.specs.Records.{records_of}
use Rattle.save_journal.specs.declared.fault.OpenFault.{OpenFault}
use Rattle.save_journal.specs.declared.fault.OpenFault.TheVariants as opening
use Rattle.chart_file.specs.Parts.{Part}
use Rattle.chart_file.specs.Files.{HasParts, IsRefusal}
use Rattle.chart_file.specs.declared.fault.PartsFault.{PartsFault}
use Rattle.chart_file.specs.declared.fault.PartsFault.TheVariants as parts
use Rattle.chart_keep.specs.declared.fault.ChartFault.{ChartFault}
use Rattle.chart_keep.specs.declared.fault.ChartFault.TheVariants.{Failed, NotChart, Other, Damaged, Short, Strange, Memory}

-- a fault of opening the journal, and one of its bodies
abbrev pub of_opening : OpenFault → ChartFault
of_opening opening.Failed = Failed
of_opening opening.NotSave = NotChart
of_opening (opening.Other kept ours) = Other kept ours
of_opening (opening.Damaged number place kept found) = Damaged number place kept found
of_opening (opening.Short number place) = Short number place
of_opening opening.Memory = Memory

abbrev pub of_parts : PartsFault → ChartFault
of_parts (parts.Strange number fault) = Strange number fault
of_parts parts.Memory = Memory

-- The file is refused for this: its records are, or else the body of one is no part.
abbrev pub IsRefused : List ℕ → ChartFault → List ℕ → Type 0
IsRefused digest fault file =
    ((cause : OpenFault) × (fault ≡ of_opening cause) × (records_of digest file ≡ Err cause))
    ⊎ ((bodies : List (List ℕ)) × (cause : PartsFault) × (fault ≡ of_parts cause)
    × (records_of digest file ≡ Ok bodies) × IsRefusal bodies cause)

-- the file has these parts, or these and one more
abbrev pub HasPartsOrMore : List ℕ → List Part → Part → List ℕ → Type 0
HasPartsOrMore digest ps p file = HasParts digest ps file ⊎ HasParts digest (ps ++ p ∷ []) file
