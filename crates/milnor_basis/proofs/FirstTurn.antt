-- A number's turn in row 1.
use Rattle.std.proofs.Common.{◌≡◌, ℕ, suc, ◌+◌, ◌-◌, ◌*◌, ◌/◌, ◌<◌, ◌≤◌, ◌^◌, ◌≢◌, List, ◌∷◌, length, take, min, sym, ◌∙◌, ap, subst, arith, slice_index, bit_and, bit_or}
use Rattle.std.proofs.lemmas.Nat.{pow_pos}
use Rattle.milnor_basis.specs.Exponents.{degree_of}
use Rattle.milnor_basis.specs.Basis.{lists_of}
use Rattle.milnor_basis.specs.Inside.FreeRows.{TurnsOverAll, ArePlaced, IsInFirstRow}
use Rattle.milnor_basis.proofs.Steps.{under_quotient}
use Rattle.milnor_basis.proofs.PlacesLeft.{chosen_placed, chosen_room}
use Rattle.milnor_basis.proofs.Weights.{first_weight}
use Rattle.milnor_basis.proofs.FreeFill.{TurnsOverAllBelow}
use Rattle.milnor_basis.proofs.FirstRow.{or_three, first_none, first_shuts, first_turn}

module _ (degree product w column room above below place left v : ℕ) (cs ds : List ℕ) (small : degree ≤ 255) (fits : w ≤ 8) (some : 0 < column) (right : column ≤ w) (wide : length cs ≡ 8) (long : length ds ≡ 16)
    (weight : below ≡ degree_of (take (column + 1) ds) + (above * (2 ^ (column + 1) - 1) + (degree_of (take column cs) + room)))
    (room_above : bit_and above (slice_index ds column) ≡ 0) (apart : bit_and v (bit_or (slice_index ds column) above) ≡ 0) (to : v ≤ min (room / 2 ^ column) (slice_index cs (column - 1))) where
  -- T's exponent
  abbrev exponent : ℕ
  exponent = bit_or (bit_or (slice_index ds column) above) v

  pub fits_in : v * 2 ^ column ≤ room
  fits_in = under_quotient room (2 ^ column) v (pow_pos column) (omega (arith, to))

  pub takes : exponent * (2 ^ (column + 1) - 1) ≤ below
  takes = (first_weight below room above v exponent column cs ds some (omega arith) wide long weight (omega (arith, to)) fits_in (or_three (slice_index ds column) above v room_above apart)).0

  -- what is left of T, and its place
  module _ (below' place' room' : ℕ) (is_below : below' ≡ below - exponent * (2 ^ (column + 1) - 1)) (is_place : place' ≡ place + (length (lists_of (column + 1) below) - length (lists_of (column + 1) below')))
      (is_room : room' ≡ room - v * 2 ^ column) where
    is_whole : below ≡ below' + exponent * (2 ^ (column + 1) - 1)
    is_whole = omega (arith, takes)

    pub leaves_weight : below' ≡ degree_of (take (column - 1 + 1) ds) + ((slice_index cs (column - 1) - v) * (2 ^ (column - 1 + 1) - 1) + (degree_of (take (column - 1) cs) + room'))
    leaves_weight =
        is_below
        ∙ (first_weight below room above v exponent column cs ds some (omega arith) wide long weight (omega (arith, to)) fits_in (or_three (slice_index ds column) above v room_above apart)).1
        ∙ ap (λ r. degree_of (take (column - 1 + 1) ds) + ((slice_index cs (column - 1) - v) * (2 ^ (column - 1 + 1) - 1) + (degree_of (take (column - 1) cs) + r))) (sym is_room)

    pub leaves_place : (n : ℕ) → place + length (lists_of (column + 1) below) ≤ n → place' + length (lists_of (column - 1 + 1) below') ≤ n
    leaves_place n within =
        let same : column + 1 - 1 ≡ column - 1 + 1 = omega arith in
        omega (arith, within, ap (λ k. length (lists_of k below')) same, chosen_room (column + 1) below below' exponent place place' (omega arith) is_whole is_place)

    next_placed : (others : List ℕ) → ArePlaced product (suc column) below place others → ArePlaced product column below' place' (exponent ∷ others)
    next_placed others placed =
        let up : suc column ≡ column + 1 = omega arith in
        let back : column + 1 - 1 ≡ column = omega arith in
        subst (λ k. ArePlaced product k below' place' (exponent ∷ others)) back
        (chosen_placed (column + 1) below below' exponent place place' (omega arith) is_whole is_place product others (subst (λ k. ArePlaced product k below place others) up placed))

    -- nothing goes on where row 0 has to put a number that shares a digit with the next diagonal
    pub next_none : bit_and (slice_index cs (column - 1) - v) (slice_index ds (column - 1)) ≢ 0 → (before : List (ℕ × ℕ)) (rows columns diagonals : List ℕ)
        → IsInFirstRow degree product w (column - 1) room' (slice_index cs (column - 1) - v) below' place' left cs ds rows columns diagonals → TurnsOverAll degree product w 1 (column - 1) room' rows columns diagonals before before
    next_none shares before rows columns diagonals is =
        first_none degree product w (column - 1) room' (slice_index cs (column - 1) - v) below' place' left cs ds rows columns diagonals small fits (omega arith) is before shares

    -- it has its turn, as do those up to the next one that shares no digit with the diagonal and with what row 0 puts there
    pub goes_on : (past : ℕ) (before middle after : List (ℕ × ℕ)) → v < past → ((u : ℕ) → v < u → u < past → bit_and u (bit_or (slice_index ds column) above) ≢ 0)
        → ((rows columns diagonals : List ℕ) → IsInFirstRow degree product w (column - 1) room' (slice_index cs (column - 1) - v) below' place' left cs ds rows columns diagonals → TurnsOverAll degree product w 1 (column - 1) room' rows columns diagonals middle after)
        → (rows columns diagonals : List ℕ) → IsInFirstRow degree product w column room above below place left cs ds rows columns diagonals
        → TurnsOverAllBelow degree product w 1 column room rows columns diagonals v before middle → TurnsOverAllBelow degree product w 1 column room rows columns diagonals past before after
    goes_on past before middle after later least turns rows columns diagonals is inv =
        let at : column ≡ suc (column - 1) = omega arith in
        let whole : past - suc v + suc v ≡ past = omega arith in
        let turns_there : (rows columns diagonals : List ℕ) → IsInFirstRow degree product w (column - 1) (room - v * 2 ^ column) (slice_index cs (column - 1) - v) below' place' left cs ds rows columns diagonals
        → TurnsOverAll degree product w 1 (column - 1) (room - v * 2 ^ column) rows columns diagonals middle after =
        subst (λ (r : ℕ). (rows columns diagonals : List ℕ) → IsInFirstRow degree product w (column - 1) r (slice_index cs (column - 1) - v) below' place' left cs ds rows columns diagonals
        → TurnsOverAll degree product w 1 (column - 1) r rows columns diagonals middle after) is_room turns
        in
        subst (λ (m : ℕ). TurnsOverAllBelow degree product w 1 column room rows columns diagonals m before after) whole
        (first_shuts degree product w column room above below place left cs ds rows columns diagonals small fits right is before (past - suc v) (suc v) after (λ u l m. least u (omega arith) (omega arith))
        (first_turn degree product w column room above below place left cs ds rows columns diagonals fits right is v room_above apart (column - 1) at below' place' before middle after small to fits_in next_placed inv turns_there))
