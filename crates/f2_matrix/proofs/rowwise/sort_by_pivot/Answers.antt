use Rattle.std.specs.List.{swap}
use Rattle.std.proofs.Common.{◌≡◌, ℕ, ◌+◌, ◌<◌, ◌≤◌, Bool, true, false, List, [], length, get_or, set, refl, ap, sym, ◌∙◌, arith, subst}
use Rattle.std.proofs.lemmas.Bool.{both_ways}
use Rattle.std.proofs.lemmas.List.{get_or_default, length-set}
use Rattle.std.proofs.lemmas.List.Edits.{length-swap}
use Rattle.f2_vec.specs.Vectors.{bit, IsFirstOne}
use Rattle.f2_vec.specs.Spans.{row}
use Rattle.f2_matrix.proofs.Elimination.{IsEliminated, IsEliminated-skip, IsEchelonForm-from_IsEliminated}
use Rattle.f2_matrix.proofs.SortSteps.{AreUnsorted, AreNoted, none_left, IsEliminated-sorted, AreUnsorted-sorted, AreNoted-sorted}
use Rattle.f2_matrix.proofs.rowwise.sort_by_pivot.Goals as goal
use Rattle.f2_matrix.proofs.rowwise.sort_by_pivot.Goals.{then-sorted-place+then-place-found+then-get, in-Some, in_default, else-sorted-place, else-sorted-place-via-then-sorted-place+then-place-found+else-get, else-sorted-place-via-then-sorted-place+else-place-found, else-sorted-place-via-else-sorted-place}

-- what is true of the rows sorted so far
record IsSortedUpTo (n r k col : ℕ) (xs rows : List (List Bool)) (places : List ℕ) : Type 0 where
  fits : r ≤ length rows
  size : length places ≡ n
  done : IsEliminated n k col xs rows
  unsorted : AreUnsorted r k rows
  noted : AreNoted r k rows places

-- the row at place a is the next
sorted_more : (n r k col a q : ℕ) (xs rows : List (List Bool)) (places : List ℕ) → IsSortedUpTo n r k col xs rows places → k ≤ a → a < r → bit (row rows a) col ≡ true → IsFirstOne (row rows k) q → q < n → IsSortedUpTo n r (k + 1) (col + 1) xs (swap rows k a) (set places q a)
sorted_more n r k col a q xs rows places s low high one f l = record {
  fits = omega (arith, s.fits, length-swap rows k a);
  size = length-set places q a ∙ s.size;
  done = IsEliminated-sorted n r k col a xs rows s.done s.unsorted low high s.fits one;
  unsorted = AreUnsorted-sorted n r k col a xs rows s.done s.unsorted low high s.fits one;
  noted = AreNoted-sorted n r k col a xs rows s.done s.unsorted low high s.fits one places q s.noted f (omega (arith, s.size));
}

-- no row is the next
sorted_skip : (n r k col : ℕ) (xs rows : List (List Bool)) (places : List ℕ) → IsSortedUpTo n r k col xs rows places → (k ≤ get_or places col 0 → get_or places col 0 < r → bit (row rows (get_or places col 0)) col ≡ true → ⊥) → IsSortedUpTo n r k (col + 1) xs rows places
sorted_skip n r k col xs rows places s not_there = record {
  fits = s.fits;
  size = s.size;
  done = IsEliminated-skip n k col xs rows s.done (none_left n r k col xs rows places s.done s.unsorted s.noted not_there);
  unsorted = s.unsorted;
  noted = s.noted;
}

-- a row before place r has a first one
some_first : (r k : ℕ) (rows : List (List Bool)) → AreUnsorted r k rows → k < r → ((j : ℕ) → bit (row rows k) j ≡ false) → ⊥
some_first r k rows s h z = let f : (p : ℕ) × IsFirstOne (row rows k) p = s.pivots k (omega arith) h in both_ways (bit (row rows k) f.0) (z f.0) f.1.one

pub loop-col-preserved : goal.loop-col-preserved
loop-col-preserved c =
    let n = c.args.cols in
    let r = c.args.found in
    let k = c.loop-col.sorted in
    let col = c.loop-col.col in
    let xs = c.args.rows.now in
    let rows = c.loop-col.rows in
    let places = c.loop-col.places in
    let a = get_or places col 0 in
    let i = c.loop-col.invariant in
    let s : IsSortedUpTo n r k col xs rows places = record { fits = i.fits; size = i.size; done = i.done; unsorted = i.unsorted; noted = i.noted } in
    let t : IsSortedUpTo n r c.if-sorted-place.sorted (col + 1) xs c.if-sorted-place.rows c.if-sorted-place.places = elim c.if-sorted-place.branch [
      | then-sorted-place+then-place-found+then-get w ↦
          let low : k ≤ a = w.if-sorted-place.true in
          let high : a < r = w.if-place-found.true in
          let lk : k < length rows = omega (arith, i.fits) in
          let one : bit (row rows a) col ≡ true = ap (λ v. bit v col) (sym (get_or_default rows a w.index-rows-place.result [] (omega (arith, i.fits)))) ∙ sym w.get.ensures ∙ w.if-get.true in
          let read = get_or_default rows k w.index-rows-sorted.result [] lk in
          elim w.match-first_one.branch [
            | in-Some u ↦
                let q = u.in-Some.pivot in
                let f : IsFirstOne (row rows k) q = subst (λ v. IsFirstOne v q) read u.in-Some.ensures.first in
                let l : q < n = (let h = u.in-Some.ensures.within in omega (arith, ap length read, i.done.widths k lk)) in
                rw (w.rows-is, w.places-is, w.sorted-is, u.places-is, w.swap.ensures.after) (sorted_more n r k col a q xs rows places s low high one f l)
            | in_default u ↦ absurd (some_first r k rows i.unsorted (omega arith) (λ j. ap (λ v. bit v j) (sym read) ∙ u.in_default.ensures.none.0 refl j))
          ]
      | else-sorted-place w ↦
          rw (w.rows-is, w.places-is, w.sorted-is) (sorted_skip n r k col xs rows places s (λ low high one.
          elim w.else-sorted-place.branch [
            | else-sorted-place-via-then-sorted-place+then-place-found+else-get u ↦
                both_ways (bit (row rows a) col) (ap (λ v. bit v col) (sym (get_or_default rows a u.index-rows-place.result [] (omega (arith, i.fits)))) ∙ sym u.get.ensures ∙ u.if-get.false) one
            | else-sorted-place-via-then-sorted-place+else-place-found u ↦ absurd (omega (arith, u.if-place-found.false))
            | else-sorted-place-via-else-sorted-place u ↦ absurd (omega (arith, u.if-sorted-place.false))
          ]))
    ] in
    record { fits = t.fits; size = t.size; done = t.done; unsorted = t.unsorted; noted = t.noted }

pub returns : goal.returns
returns c =
    let e : c.loop-col.col ≡ c.args.cols = omega arith in
    IsEchelonForm-from_IsEliminated c.args.cols c.loop-col.sorted c.args.rows.now c.loop-col.rows
    (subst (λ k. IsEliminated c.args.cols c.loop-col.sorted k c.args.rows.now c.loop-col.rows) e c.loop-col.invariant.done)
