-- Parts of bytes.
use Rattle.std.proofs.Common.{ℕ, ◌+◌, ◌^◌, ◌<◌, inl, inr, List, take, drop, arith}
use Rattle.std.specs.Int.{w64, from_be_bytes}
use Rattle.std.proofs.lemmas.List.{length-take, get_or-take, get_or-drop, get_or_past}
use Rattle.std.proofs.lemmas.Bool.{cases_lt}
use Rattle.save_journal.specs.Laws.{AreBytes}

pub AreBytes-part : (place n : ℕ) (bytes : List ℕ) → AreBytes bytes → AreBytes (take n (drop place bytes))
AreBytes-part place n bytes h i = elim (cases_lt i n) [
  | inl l ↦ rw (get_or-take n (drop place bytes) i 0 l, get_or-drop) (h (place + i))
  | inr l ↦ rw (get_or_past (take n (drop place bytes)) i 0 (omega (arith, length-take n (drop place bytes)))) (omega arith)
]

-- eight of them are a number below 2 ^ 64
pub number_below : (place : ℕ) (bytes : List ℕ) → AreBytes bytes → from_be_bytes w64 (take 8 (drop place bytes)) < 2 ^ 64
number_below place bytes h =
    let fits = AreBytes-part place 8 bytes h in
    omega (arith, fits 0, fits 1, fits 2, fits 3, fits 4, fits 5, fits 6, fits 7)
