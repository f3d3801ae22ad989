use Rattle.std.proofs.Common.{◌≡◌, ◌+◌, ◌-◌, ◌<◌, true, length, take, ◌++◌, subst, is_ok, ap, ◌∙◌, arith, rules}
use Rattle.std.proofs.lemmas.List.Edits.{fill_from_more}
use Rattle.std.specs.Prelude.{replicate, vec_len, slice_set}
use lib.Seq.{paste}
use Rattle.edge.proofs.Marks.{grown}
use Rattle.edge.proofs.memory_disk.mark.Goals as goal

pub loop-k-preserved : goal.loop-k-preserved
loop-k-preserved c =
    let inside : c.args.at + c.loop-k.k < length c.args.v.now.items = omega (arith, c.args.v.now.ok, c.min-inside.ensures, c.len.ensures) in
    record {
      items = ap (λ l. slice_set l (c.args.at + c.loop-k.k) true) c.loop-k.invariant.items ∙ fill_from_more c.args.v.now.items c.args.at c.loop-k.k true inside;
      len = search rules;
      capacity = search rules;
    }

pub returns-then-inside-n-clause-items : goal.returns-then-inside-n-clause-items
returns-then-inside-n-clause-items c =
    let inside : c.min-inside.result ≡ length c.args.v.now.items - c.args.at = omega (arith, c.args.v.now.ok, c.min-inside.ensures, c.len.ensures, c.if-inside-n.true) in
    let ok : is_ok c.resize.result ≡ true = c.resize.ensures.succeeds (omega (arith, c.loop-k.invariant.capacity, c.requires.room)) in
    let items : c.resize.new.self.items ≡ take (c.args.at + c.args.n) c.loop-k.v.items ++ replicate (c.args.at + c.args.n - vec_len c.loop-k.v) true = rw ok at c.resize.ensures.items in
    let size : vec_len c.loop-k.v ≡ length c.args.v.now.items = omega (arith, c.loop-k.invariant.len, c.args.v.now.ok) in
    let k : c.loop-k.k ≡ c.min-inside.result = omega (arith, c.loop-k.auto.k-end, c.loop-k-test.false) in
    let here = subst (λ k. c.loop-k.v.items ≡ paste c.args.v.now.items c.args.at (replicate k true) k) k c.loop-k.invariant.items in
    items ∙ ap (λ m. take (c.args.at + c.args.n) c.loop-k.v.items ++ replicate (c.args.at + c.args.n - m) true) size
    ∙ grown c.args.v.now.items c.loop-k.v.items c.args.at c.args.n c.min-inside.result (omega (arith, c.requires.at, c.args.v.now.ok)) inside (omega (arith, c.if-inside-n.true)) here
