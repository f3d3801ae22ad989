-- A file that was read.
use Rattle.std.specs.Prelude.{ℕ, List}
use Rattle.edge.specs.Disk.{Only}
use Rattle.save_journal.specs.Journals.{IsAtRest}

-- the file is at rest with these records, and a crash leaves nothing else
pub record IsHeld (digest : List ℕ) (end : ℕ) (list : List (List ℕ)) (file : List ℕ) (images : List ℕ → Type 0)
    : Type 0 where
  pub at_rest : IsAtRest digest end list file
  pub only : Only file images
