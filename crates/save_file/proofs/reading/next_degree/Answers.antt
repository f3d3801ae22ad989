use Rattle.std.proofs.Common.{rules, arith}
use Rattle.save_file.proofs.reading.next_degree.Goals as goal

pub returns-clause-place : goal.returns-clause-place
returns-clause-place c = record {
  degree = search rules;
  row = omega arith;
  within = omega arith;
  next = c.is_next.ensures.next.0 c.if-not-is_next.false;
}
