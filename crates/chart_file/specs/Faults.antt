-- What is wrong with bytes that are no part of a column.
use Rattle.std.specs.Prelude.{◌≡◌, ◌≢◌, ◌⊎◌, ℕ, ◌+◌, ◌<◌, Bool, List, ◌++◌, get_or, length, ⊤}
use Rattle.std.specs.Int.{w64, to_be_bytes, div_ceil}
use Rattle.std.specs.List.{flat_map}
use Rattle.bidegree.specs.declared.range.TheConstants.{MAX_S, MAX_T}
use Rattle.f2_vec.specs.Bytes.{packed}
use Rattle.chart_file.specs.declared.part.TheConstants.{COLUMN}
use Rattle.chart_file.specs.declared.fault.DecodeFault.{DecodeFault}
use Rattle.chart_file.specs.declared.fault.DecodeFault.TheVariants.{Short, Kind, Limits, Crowded, SpareBits, Memory}
use Rattle.chart_file.specs.Parts.{Bare, bare_bytes, head_bytes}

-- Of the head of a part: there is none, it begins otherwise, or its numbers are too great.
abbrev pub IsWrongHead : List ℕ → DecodeFault → Type 0
IsWrongHead body Short = length body < 5
IsWrongHead body Kind = get_or body 0 0 ≢ COLUMN
IsWrongHead body Limits = (above first : ℕ) × (rest : List ℕ) × (head_bytes above first ++ rest ≡ body)
    × ((MAX_T < above) ⊎ (MAX_S < first))
IsWrongHead body Crowded = ⊥
IsWrongHead body SpareBits = ⊥
IsWrongHead body Memory = ⊤

-- Of so many images of so many coordinates: behind the first of them there are too few bytes for one more, or there is one with a
-- spare bit.
abbrev pub AreWrongImages : ℕ → ℕ → List ℕ → DecodeFault → Type 0
AreWrongImages width count bytes Short = (images : List (List Bool)) × (rest : List ℕ) ×
    (flat_map packed images ++ rest ≡ bytes) × (length images < count) × (length rest < div_ceil width 8)
AreWrongImages width count bytes Kind = ⊥
AreWrongImages width count bytes Limits = ⊥
AreWrongImages width count bytes Crowded = ⊥
AreWrongImages width count bytes SpareBits = (images : List (List Bool)) × (image rest : List ℕ) ×
    (flat_map packed images ++ (image ++ rest) ≡ bytes) × (length images < count) × (length image ≡ div_ceil width 8)
    × ((v : List Bool) → length v ≡ width → packed v ≢ image)
AreWrongImages width count bytes Memory = ⊤

-- Of a square: there is no place for its numbers, they are too great, or its images are wrong.
abbrev pub IsWrongSquare : List ℕ → DecodeFault → Type 0
IsWrongSquare bytes fault =
    ((fault ≡ Short) × (length bytes < 16))
    ⊎ ((count width : ℕ) × (rest : List ℕ) × (to_be_bytes w64 count ++ (to_be_bytes w64 width ++ rest) ≡ bytes)
    × (((fault ≡ Crowded) × (width < count)) ⊎ AreWrongImages width count rest fault))

-- Of a part: its head is wrong; or behind some squares there are bytes, and another square has no row within the limits, or is wrong.
abbrev pub IsWrong : List ℕ → DecodeFault → Type 0
IsWrong body fault =
    IsWrongHead body fault
    ⊎ ((above first : ℕ) × (squares : List Bare) × (rest : List ℕ)
    × (head_bytes above first ++ (flat_map bare_bytes squares ++ rest) ≡ body)
    × (((fault ≡ Limits) × (first + length squares ≡ MAX_S + 1) × (0 < length rest)) ⊎ IsWrongSquare rest fault))
