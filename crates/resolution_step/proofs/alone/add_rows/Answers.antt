use Rattle.std.proofs.Common.{◌≡◌, ◌+◌, ◌<◌, ℕ, length, refl, ◌∙◌, subst, arith, inl, inr}
use Rattle.std.proofs.lemmas.Bool.{cases_lt}
use Rattle.bidegree.specs.declared.range.Range.{Range}
use Rattle.square.specs.Tables.{row_in}
use Rattle.resolution_step.specs.Alone.{IsInRange}
use Rattle.resolution_step.specs.Inside.Adding.{IsInRow}
use Rattle.square.proofs.Growing.{length-IsMore}
use Rattle.resolution_step.proofs.Progress.{HasAdded-start, HasAdded-weaker, HasAdded-then}
use Rattle.resolution_step.proofs.Untouched.{untouched_same, untouched_then}
use Rattle.square.proofs.Puts.{fared_at, fared_ok}
use Rattle.resolution_step.proofs.alone.add_rows.Goals as goal

-- the places of the range before row s
abbrev IsSoFar : ℕ → Range → ℕ → ℕ → Type 0
IsSoFar s range i k = (i < s) × IsInRange range i k

pub loop-s-init : goal.loop-s-init
loop-s-init g c =
    let keeper = c.args.keeper.now in
    record {
      through = λ i l. absurd (omega arith);
      are_of_start = λ l. absurd (omega arith);
      live = c.requires.live;
      no_fault = refl;
      of_table = c.requires.of_table;
      added = HasAdded-start _ _ c.args.table.now (record { images = g.met.K.Keep.image_is_kept keeper c.requires.live; earlier = g.met.K.Keep.since_earlier keeper });
      untouched = untouched_same g.K.Keep.telling keeper;
    }

pub returns-in_err-add_row-clause-added : goal.returns-in_err-add_row-clause-added
returns-in_err-add_row-clause-added g c =
    let s = c.loop-s.s in
    let range = c.args.range in
    let test : s < range.s + 1 = c.loop-s-test.true in
    HasAdded-then (IsSoFar s range) (IsInRow s range.t) (IsInRange range)
    (λ i j h. h.1)
    (λ i j h. ((let e = h.0 in omega arith), h.1))
    (λ i j a b h e. inl (let l = h.0 in let f = e.0 in omega arith))
    _ _ _ c.args.table.now c.loop-s.table c.add_row.new.table c.loop-s.invariant.added c.add_row.ensures.added

pub returns-in_err-add_row-clause-untouched : goal.returns-in_err-add_row-clause-untouched
returns-in_err-add_row-clause-untouched g c =
    untouched_then g.K.Keep.telling _ _ _ _ _ _ _ _ c.loop-s.invariant.added c.add_row.ensures.added c.loop-s.invariant.untouched c.add_row.ensures.untouched

pub loop-s-preserved : goal.loop-s-preserved
loop-s-preserved g c =
    let before = c.loop-s.invariant in
    let made = c.in_ok-add_row.ensures in
    let fared = fared_at _ _ _ c.add_row.result _ _ _ c.in_ok-add_row.was c.add_row.ensures.keeper in
    let new = c.add_row.new.table in
    let s = c.loop-s.s in
    let range = c.args.range in
    let test : s < range.s + 1 = c.loop-s-test.true in
    record {
      through = λ i l. elim (cases_lt i c.loop-s.s) [
        | inl b ↦ omega (arith, before.through i b, length-IsMore (row_in c.loop-s.table.rows i) (row_in new.rows i) (c.add_row.ensures.added.grown.rows i))
        | inr b ↦
            let same : c.loop-s.s ≡ i = omega arith in
            subst (λ (x : ℕ). c.args.range.t < length (row_in new.rows x)) same made.through
      ];
      are_of_start = λ _. made.are_of_start;
      live = fared.live;
      no_fault = fared.no_fault ∙ before.no_fault;
      of_table = fared.of_table;
      added = HasAdded-then (IsSoFar s range) (IsInRow s range.t) (IsSoFar (s + 1) range)
          (λ i j h. ((let l = h.0 in omega arith), h.1))
          (λ i j h. ((let e = h.0 in omega arith), ((let e = h.0 in omega arith), h.1)))
          (λ i j a b h e. inl (let l = h.0 in let f = e.0 in omega arith))
          _ _ _ c.args.table.now c.loop-s.table new before.added c.add_row.ensures.added;
      untouched = untouched_then g.K.Keep.telling _ _ _ _ _ _ _ _ before.added c.add_row.ensures.added before.untouched c.add_row.ensures.untouched;
    }

pub returns-clause-keeper : goal.returns-clause-keeper
returns-clause-keeper g c = fared_ok _ _ _ _ _ _ c.loop-s.invariant.live c.loop-s.invariant.no_fault c.loop-s.invariant.of_table

pub returns-clause-added : goal.returns-clause-added
returns-clause-added g c = HasAdded-weaker (IsSoFar c.loop-s.s c.args.range) (IsInRange c.args.range) (λ i j h. h.1) _ _ c.args.table.now c.loop-s.table c.loop-s.invariant.added
