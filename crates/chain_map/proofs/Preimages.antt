-- What a quasi-inverse of a table gives is a preimage, where the squares that it takes are canonical.
use Rattle.std.proofs.Common.{◌≡◌, ℕ, zero, suc, ◌+◌, ◌<◌, ◌≤◌, Bool, ℤ, pos, ◌+ℤ◌, ◌<ℤ◌, List, ◌++◌, length, take, replicate, Option, Some, None, ap, sym, subst, ◌∙◌, arith}
use Rattle.std.proofs.lemmas.Int.{ints}
use Rattle.std.proofs.lemmas.List.{length-take-le, nil_from_length}
use Rattle.bidegree.specs.declared.range.Range.{Range}
use Rattle.f2_matrix.specs.Reduction.{Reduction, IsReductionOf}
use Rattle.free_module.specs.FreeModule.{free_width}
use Rattle.free_module.specs.LinearMap.{map_rows}
use Rattle.resolution_laws.specs.Resolution.{square_in, degrees_from, images_of, row_of, below_of, target_over}
use Rattle.resolution_laws.specs.Exactness.{target_of}
use Rattle.square.specs.Squares.{over, bottom_of}
use Rattle.square.specs.Tables.{Staircase, row_in, plain_rows, IsTable}
use Rattle.lift_laws.specs.Lifts.{Resolution, gens, d}
use Rattle.lift_laws.proofs.Facts.{free_width-below, IsMap-d}
use Rattle.lift_laws.proofs.Resolved.{IsResolved}
use Rattle.lift_laws.proofs.Quasi.{IsCycle, quasi-gives}
use Rattle.chain_map.specs.Lifting.{IsInverseAt, chosen_preimage, resolution_of}
use Rattle.chain_map.specs.Classes.{through}
use Rattle.chain_map.proofs.Classes.{rows_through}
use Rattle.chain_map.proofs.Resolved.{long-row}

module _ (sphere : Staircase) (hq : IsTable sphere) (near : Range) (inside_q : near.t < length (row_in sphere.rows near.s)) (o : IsResolved (through near sphere) near.s near.t) where
  abbrev q : Resolution
  q = resolution_of sphere

  abbrev qc : Resolution
  qc = through near sphere

  below-bottom : (k : ℕ) (u : ℤ) → u <ℤ bottom_of sphere.resolved → (target_of qc.base qc.table k).width u ≡ 0
  below-bottom zero u l = o.bounded u l
  below-bottom (suc k) u l = free_width-below qc k u l

  -- d_k takes a value to what it has to
  pub gives-of : (k : ℕ) (u : ℤ) (goal v : List Bool) (inverse : Option Reduction) → k ≤ near.s → u <ℤ (bottom_of sphere.resolved +ℤ pos (near.t + 1)) → IsInverseAt sphere k u inverse → v ≡ chosen_preimage inverse goal → length v ≡ free_width (gens qc k) u → length goal ≡ (target_of qc.base qc.table k).width u → IsCycle qc k u goal → d qc k u v ≡ goal
  gives-of k u goal v None l low is value fits len cyc =
      let none = below-bottom k u is in
      nil_from_length (d qc k u v) ((IsMap-d qc near.s near.t o k u l).fits u v (omega (arith, ints)) fits ∙ none) ∙ sym (nil_from_length goal (len ∙ none))
  gives-of k u goal v (Some reduction) l low is value fits len cyc =
      let j = is.above in
      let m = over sphere.resolved in
      let at = is.degree in
      let squares = row_of q.table k in
      let small : j < near.t + 1 = omega (arith, ints) in
      let long_q = long-row sphere hq near inside_q k l in
      let count_j : length (take j squares) ≡ j = length-take-le j squares (omega arith) in
      let content = square_in squares j in
      let cut = target_over m (below_of q.table k j) in
      let P : ℕ → Type 0 = λ w. IsReductionOf (cut.width (m.bottom +ℤ pos w)) (map_rows cut (degrees_from m.bottom (take j squares) ++ replicate (length content.images) (m.bottom +ℤ pos w)) (images_of (take j squares) ++ content.images) (m.bottom +ℤ pos w)) reduction in
      let Q : ℤ → Type 0 = λ u. length goal ≡ (target_of qc.base qc.table k).width u in
      let R : ℤ → Type 0 = λ u. IsCycle qc k u goal in
      let S : ℤ → Type 0 = λ u. d qc k u (chosen_preimage (Some reduction) goal) ≡ goal in
      let given = quasi-gives qc near.s near.t o (plain_rows sphere.rows) (rows_through sphere near) k j l (omega arith) (omega arith) reduction (subst P count_j is.quasi) goal (subst Q at len) (subst R at cyc) in
      ap (d qc k u) value ∙ subst S (sym at) given.gives
