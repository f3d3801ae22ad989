use Rattle.std.proofs.Common.{◌≡◌, ◌∙◌, Ok, ap, arith, rules}
use Rattle.edge.proofs.Pieces.{given-next, rest-next, stopped-next, given-whole}
use Rattle.edge.proofs.reading.read_through.Goals as goal
use Rattle.edge.proofs.reading.read_through.Goals.{else-loop-source-test, then-loop-source-test+in_ok-count+then-count-eq0}

pub returns-in_err-count-clause-stopped : goal.returns-in_err-count-clause-stopped
returns-in_err-count-clause-stopped g c =
    let stopped = stopped-next _ _ _ _ c.args.limit c.loop-source.invariant.within c.loop-source.invariant.rest c.in_err-count.ensures.stopped in
    search rules

pub loop-source-preserved : goal.loop-source-preserved
loop-source-preserved g c = record {
  within = c.in_ok-count.ensures.within;
  given = rw c.in_ok-count.ensures.len (given-next _ _ _ _ _ _ c.loop-source.invariant.given c.loop-source.invariant.rest c.in_ok-count.ensures.given);
  rest = rw c.in_ok-count.ensures.len (rest-next _ _ _ _ _ c.loop-source.invariant.rest c.in_ok-count.ensures.rest);
  no_fault = c.in_ok-count.ensures.no_fault ∙ c.loop-source.invariant.no_fault;
}

pub returns-clause-given : goal.returns-clause-given
returns-clause-given g c =
    elim c.loop-source-test.branch [
      | else-loop-source-test w ↦
          rw w.bytes-is (given-whole _ _ _ _ c.args.limit c.loop-source.invariant.within c.loop-source.invariant.given c.loop-source.invariant.rest (λ before. absurd (omega arith)))
      | then-loop-source-test+in_ok-count+then-count-eq0 w ↦
          let last = w.in_ok-count.ensures in
          let count : w.in_ok-count.count ≡ 0 = w.if-count-eq0.true in
          rw w.bytes-is (given-whole _ _ _ _ c.args.limit last.within (rw last.len (given-next _ _ _ _ _ _ c.loop-source.invariant.given c.loop-source.invariant.rest last.given)) (rw last.len (rest-next _ _ _ _ _ c.loop-source.invariant.rest last.rest)) (λ _. last.end (ap Ok count)))
    ]
