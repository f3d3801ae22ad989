use Rattle.std.proofs.Common.{◌≡◌, ◌+◌, ◌<◌, ◌≤◌, ℕ, length, refl, sym, ◌∙◌, ap, arith, inr}
use Rattle.std.proofs.lemmas.Int.{ints}
use Rattle.finite_module.specs.Module.{bottom}
use Rattle.finite_module.specs.Checked.{Checked}
use Rattle.square.specs.Tables.{row_in}
use Rattle.resolution_step.specs.Inside.Adding.{IsEndOf, IsInRow}
use Rattle.square.proofs.Growing.{length-IsMore}
use Rattle.resolution_step.proofs.Progress.{HasAdded-start, HasAdded-weaker, HasAdded-then}
use Rattle.resolution_step.proofs.Untouched.{untouched_same, untouched_then}
use Rattle.square.proofs.Puts.{fared_at, fared_ok}
use Rattle.resolution_step.proofs.alone.add_row.Goals as goal
use Rattle.square.specs.Squares.{bottom_of}

-- the places of row s before k and through t
abbrev IsSoFar : ℕ → ℕ → ℕ → ℕ → ℕ → Type 0
IsSoFar s t n i k = (i ≡ s) × (k < n) × (k ≤ t)

pub loop-k-init : goal.loop-k-init
loop-k-init g c =
    let keeper = c.args.keeper.now in
    let table = c.args.table.now in
    record {
      len = sym {b = length (row_in table.rows c.args.s)} c.front-k.ensures.front;
      are_of_start = λ s k q there. (c.front-k.ensures.is_table.placed s k q there).is_of;
      live = c.requires.live;
      no_fault = refl;
      of_table = c.requires.of_table;
      added = HasAdded-start _ _ table (record { images = g.met.K.Keep.image_is_kept keeper c.requires.live; earlier = g.met.K.Keep.since_earlier keeper });
      untouched = untouched_same g.K.Keep.telling keeper;
    }

pub add_square-requires-clause-next : goal.add_square-requires-clause-next
add_square-requires-clause-next g c =
    let grown = c.loop-k.invariant.added.grown in
    let len = c.loop-k.invariant.len in
    let k = c.loop-k.k in
    let through = c.requires.t in
    let last = c.from-k-end.ensures in
    let same : c.bottom-bottom.result ≡ bottom c.loop-k.table.resolved.plain.generators = c.bottom-bottom.ensures.bottom ∙ ap (λ (m : Checked). bottom_of m) (c.module.ensures ∙ sym grown.resolved) in
    record {
      above = k;
      degree = omega (arith, ints, same);
      row = c.requires.s;
      within = omega arith;
      next = record {
        absent = omega (arith, len);
        before = λ j e. omega (arith, len);
        below = λ i e. omega (arith, c.requires.below i e, length-IsMore (row_in c.args.table.now.rows i) (row_in c.loop-k.table.rows i) (grown.rows i));
      };
    }

pub returns-in_err-add_square-clause-added : goal.returns-in_err-add_square-clause-added
returns-in_err-add_square-clause-added g c =
    let s = c.args.s in
    let t = c.args.t in
    let k = c.loop-k.k in
    let table = c.loop-k.table in
    let len = c.loop-k.invariant.len in
    let last = c.from-k-end.ensures in
    HasAdded-then (IsSoFar s t k) (IsEndOf table s) (IsInRow s t)
    (λ i j h. (h.0, h.2))
    (λ i j h. (h.0, let e = h.1 in omega (arith, len)))
    (λ i j a b h e. inr (h.0 ∙ sym e.0, let l = h.1 in let f = e.1 in omega (arith, len)))
    _ _ _ c.args.table.now table c.add_square.new.table c.loop-k.invariant.added c.add_square.ensures.added

pub returns-in_err-add_square-clause-untouched : goal.returns-in_err-add_square-clause-untouched
returns-in_err-add_square-clause-untouched g c =
    untouched_then g.K.Keep.telling _ _ _ _ _ _ _ _ c.loop-k.invariant.added c.add_square.ensures.added c.loop-k.invariant.untouched c.add_square.ensures.untouched

pub loop-k-preserved : goal.loop-k-preserved
loop-k-preserved g c =
    let before = c.loop-k.invariant in
    let made = c.in_ok-add_square.ensures in
    let fared = fared_at _ _ _ c.add_square.result _ _ _ c.in_ok-add_square.was c.add_square.ensures.keeper in
    let s = c.args.s in
    let t = c.args.t in
    let k = c.loop-k.k in
    let table = c.loop-k.table in
    let len = before.len in
    let last = c.from-k-end.ensures in
    record {
      len = made.longer ∙ ap (λ n. n + 1) before.len;
      are_of_start = c.add_square.ensures.added.are_of_start before.are_of_start;
      live = fared.live;
      no_fault = fared.no_fault ∙ before.no_fault;
      of_table = fared.of_table;
      added = HasAdded-then (IsSoFar s t k) (IsEndOf table s) (IsSoFar s t (k + 1))
          (λ i j h. (h.0, (let l = h.1 in omega arith), h.2))
          (λ i j h. (h.0, (let e = h.1 in omega (arith, len)), let e = h.1 in omega (arith, len)))
          (λ i j a b h e. inr (h.0 ∙ sym e.0, let l = h.1 in let f = e.1 in omega (arith, len)))
          _ _ _ c.args.table.now table c.add_square.new.table before.added c.add_square.ensures.added;
      untouched = untouched_then g.K.Keep.telling _ _ _ _ _ _ _ _ before.added c.add_square.ensures.added before.untouched c.add_square.ensures.untouched;
    }

pub returns-clause-keeper : goal.returns-clause-keeper
returns-clause-keeper g c = fared_ok _ _ _ _ _ _ c.loop-k.invariant.live c.loop-k.invariant.no_fault c.loop-k.invariant.of_table

pub returns-clause-added : goal.returns-clause-added
returns-clause-added g c =
    let s = c.args.s in
    let t = c.args.t in
    HasAdded-weaker (IsSoFar s t c.loop-k.k) (IsInRow s t) (λ i j h. (h.0, h.2)) _ _ c.args.table.now c.loop-k.table c.loop-k.invariant.added
