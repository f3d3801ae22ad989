-- Reports of a run: lines that say how many squares of its range are finished.
use Rattle.std.specs.Prelude.{◌≡◌, ℕ, ◌+◌, ◌*◌, ◌<◌, ◌≤◌, List, [], ◌∷◌, ◌++◌, codes, decimal, Option, Result, OnOk, OnErr}
use Rattle.std.specs.List.{flat_map}
use Rattle.bidegree.specs.declared.range.Range.{Range}
use Rattle.finite_module.specs.Text.{newline}
use Rattle.edge.specs.Faults.{HasRisen}
use Rattle.edge.specs.Sink.{with_more, HasPrefixMore}

-- how many squares a range has
abbrev pub squares_of : Range → ℕ
squares_of range = (range.s + 1) * (range.t + 1)

-- the line that says that n of all squares are finished
abbrev pub live_line : ℕ → ℕ → List ℕ
live_line all n = codes "live " ++ (decimal n ++ (codes " of " ++ (decimal all ++ newline)))

-- the lines for these numbers
abbrev pub live_lines : ℕ → List ℕ → List ℕ
live_lines all numbers = flat_map (live_line all) numbers

-- Each number is greater than the one before it, and the first is greater than low. The last of them is high; where there is
-- none, low is.
abbrev pub RiseTo : ℕ → List ℕ → ℕ → Type 0
RiseTo low [] high = low ≡ high
RiseTo low (n ∷ numbers) high = (low < n) × RiseTo n numbers high

-- The sink got a line for each of some rising numbers of all squares, or, if it failed, some first bytes of these lines. If it did not
-- fail, its count of faults did not rise, and the last number is that of all squares where the run did well.
pub record HasReported {T E F : Type 0} (all : ℕ) (result : Result T E) (told : Result (Unit {0}) F)
    (old new : Option (List ℕ)) (old_faults new_faults : ℕ) : Type 0 where
  pub numbers : List ℕ
  pub most : ℕ
  pub rise : RiseTo 0 numbers most
  pub within : most ≤ all
  pub first_bytes : HasPrefixMore (live_lines all numbers) old new
  pub whole : OnOk told (new ≡ with_more old (live_lines all numbers))
  pub finished : OnOk told (OnOk result (most ≡ all))
  pub never_fall : old_faults ≤ new_faults
  pub no_fault : OnOk told (new_faults ≡ old_faults)
  pub cause : OnErr told (HasRisen old_faults new_faults)
