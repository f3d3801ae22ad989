-- A text cut at one of its bytes.
use Rattle.std.specs.Prelude.{ℕ, List, [], Option, Some, None}
use Rattle.module_json.specs.Actions.{pieces}

-- the pieces of what stands behind a cut, none where nothing was cut
abbrev pub later_pieces : ℕ → Option (List ℕ) → List (List ℕ)
later_pieces c None = []
later_pieces c (Some text) = pieces c text
