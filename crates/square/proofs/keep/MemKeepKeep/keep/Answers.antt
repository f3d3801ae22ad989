use Rattle.std.proofs.Common.{ap}
use Rattle.square.specs.Squares.{entry_of}
use Rattle.square.specs.Inside.MemKeep.{Kept}
use Rattle.square.proofs.FirstParts.{kept_more, first_parts, parts_past, parts_retained}
use Rattle.square.proofs.keep.MemKeepKeep.keep.Goals as goal

pub returns-clause-earlier : goal.returns-clause-earlier
returns-clause-earlier c =
    let list = ap (λ (k : Kept). k.list) c.self.view_is in
    first_parts c.args.self.now.list c.then-self-inside.result (entry_of c.args.square.now) (kept_more c.args.self.now.list _ c.args.square.now _ _ _ _ c.then-self-inside.result list c.s.ensures c.above.ensures.above c.gens.ensures c.kernel.ensures c.then-self-inside.ensures)

pub returns-clause-past : goal.returns-clause-past
returns-clause-past c =
    let list = ap (λ (k : Kept). k.list) c.self.view_is in
    parts_past c.args.self.now.list c.then-self-inside.result (entry_of c.args.square.now) (kept_more c.args.self.now.list _ c.args.square.now _ _ _ _ c.then-self-inside.result list c.s.ensures c.above.ensures.above c.gens.ensures c.kernel.ensures c.then-self-inside.ensures)

pub returns-clause-retained : goal.returns-clause-retained
returns-clause-retained c first u v from le within all image part = parts_retained c.then-self-inside.result first u v le within all image part
