use Rattle.std.proofs.Common.{◌≢◌, ◌++◌, ◌<◌, ℕ, List, length, inl, inr, refl, ap, ◌∙◌, arith}
use Rattle.std.specs.List.{flat_map}
use Rattle.std.proofs.lemmas.Result.{err_from_is_err_and}
use Rattle.chart_file.specs.Parts.{Bare, Part, IsPart, bare_bytes, head_bytes, part_bytes}
use Rattle.chart_file.specs.Faults.{IsWrong}
use Rattle.chart_file.specs.declared.fault.DecodeFault.TheVariants.{Memory as WantOfMemory}
use Rattle.chart_file.proofs.Words.{one_word_more}
use Rattle.chart_file.proofs.Heads.{rows_left, next_square}
use Rattle.chart_file.proofs.reading.decode.Goals as goal

pub returns-then-squares-from-clause-none : goal.returns-then-squares-from-clause-none
returns-then-squares-from-clause-none c =
    let head = c.in_ok-above.ensures.head in
    let h = c.loop-rest.invariant in
    let some : 0 < length c.loop-rest.rest.now = grind (arith, c.is_empty.ensures, c.loop-rest-test.true) in
    let count = ap (λ (squares : List Bare). length squares) c.squares.ensures.squares in
    λ other p is same.
    let rows = rows_left p is c.in_ok-above.above c.in_ok-above.first head.0 head.1 c.in_ok-above.squares.now c.args.body.now head.2 same c.loop-rest.part c.squares.ensures.is_part h.first_same c.loop-rest.rest.now h.read some in
    omega arith

pub returns-then-squares-from-clause-wrong : goal.returns-then-squares-from-clause-wrong
returns-then-squares-from-clause-wrong c =
    let head = c.in_ok-above.ensures.head in
    let h = c.loop-rest.invariant in
    let some : 0 < length c.loop-rest.rest.now = grind (arith, c.is_empty.ensures, c.loop-rest-test.true) in
    let count = ap (λ (squares : List Bare). length squares) c.squares.ensures.squares in
    let within = c.squares.ensures.is_part.rows in
    let same = h.first_same in
    inr (
      c.in_ok-above.above,
      c.in_ok-above.first,
      c.loop-rest.part.squares,
      c.loop-rest.rest.now,
      ap (λ (b : List ℕ). head_bytes c.in_ok-above.above c.in_ok-above.first ++ b) h.read ∙ head.2,
      inl (refl, omega arith, some),
    )

pub returns-in_err-square-clause-none : goal.returns-in_err-square-clause-none
returns-in_err-square-clause-none c =
    let head = c.in_ok-above.ensures.head in
    let h = c.loop-rest.invariant in
    let some : 0 < length c.loop-rest.rest.now = grind (arith, c.is_empty.ensures, c.loop-rest-test.true) in
    let p = err_from_is_err_and c.from_residual-in_err-square.result c.from_residual-in_err-square.ensures.1 in
    let none : c.in_err-square.field-0.0 ≢ WantOfMemory → (q : Part) → IsPart q → part_bytes q ≢ c.args.body.now = λ other q is same.
    let next = next_square q is c.in_ok-above.above c.in_ok-above.first head.0 head.1 c.in_ok-above.squares.now c.args.body.now head.2 same c.loop-rest.part c.squares.ensures.is_part h.first_same c.loop-rest.rest.now h.read some in
    c.in_err-square.ensures.none other next.word next.behind next.is next.bytes in
    rw (p.1, p.2) none

pub returns-in_err-square-clause-wrong : goal.returns-in_err-square-clause-wrong
returns-in_err-square-clause-wrong c =
    let head = c.in_ok-above.ensures.head in
    let h = c.loop-rest.invariant in
    let p = err_from_is_err_and c.from_residual-in_err-square.result c.from_residual-in_err-square.ensures.1 in
    let wrong : IsWrong c.args.body.now c.in_err-square.field-0.0 = inr (
      c.in_ok-above.above,
      c.in_ok-above.first,
      c.loop-rest.part.squares,
      c.loop-rest.rest.now,
      ap (λ (b : List ℕ). head_bytes c.in_ok-above.above c.in_ok-above.first ++ b) h.read ∙ head.2,
      inr c.in_err-square.ensures.wrong,
    ) in
    rw (p.1, p.2) wrong

pub loop-rest-preserved : goal.loop-rest-preserved
loop-rest-preserved c =
    let h = c.loop-rest.invariant in
    let part = c.in_ok-push.ensures.ok in
    let read = c.in_ok-square.ensures.square in
    record {
      above_same = ap (λ (p : Part). p.above) part ∙ h.above_same;
      first_same = ap (λ (p : Part). p.first) part ∙ h.first_same;
      read =
          ap (λ (p : Part). flat_map bare_bytes p.squares ++ c.in_ok-square.behind.now) part
          ∙ one_word_more bare_bytes c.loop-rest.part.squares c.in_ok-square.square c.loop-rest.rest.now c.in_ok-square.behind.now c.in_ok-above.squares.now h.read read.1;
    }
