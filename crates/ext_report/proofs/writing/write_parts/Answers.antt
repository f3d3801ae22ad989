use Rattle.std.proofs.Common.{List, ℕ, ◌+◌, ◌++◌, ◌<◌, length, take, get_or, ◌≡◌, ◌∙◌, ap, sym, arith}
use Rattle.std.proofs.lemmas.List.{take_all}
use Rattle.edge.specs.Sink.{with_more}
use Rattle.ext_report.specs.declared.writing.Part.{Part}
use Rattle.ext_report.specs.Parts.{part_text, parts_text}
use Rattle.ext_report.proofs.Joined.{flat_map-more, flat_map-upto}
use Rattle.edge.proofs.Written.{with_more-two, HasPrefixMore-within, HasPrefixMore-whole}
use Rattle.ext_report.proofs.writing.write_parts.Goals as goal

-- the parts up to i, and the one that is written next
one_more : (parts : List Part) (i : ℕ) (part : Part) → i < length parts → part ≡ get_or parts i part → parts_text (take i parts) ++ part_text part ≡ parts_text (take (i + 1) parts)
one_more parts i part l e = ap (λ (p : Part). parts_text (take i parts) ++ part_text p) e ∙ flat_map-more part_text parts i part l

pub returns-in_err-write_part-clause-prefix : goal.returns-in_err-write_part-clause-prefix
returns-in_err-write_part-clause-prefix g c =
    let parts = c.args.parts.now in
    let i = c.loop-part.part-index in
    let inside : i < length parts = omega arith in
    let next = one_more parts i c.part-item.result inside c.part-item.is in
    let p = flat_map-upto part_text parts (i + 1) in
    HasPrefixMore-within (parts_text (take i parts)) (part_text c.part-item.result) p.rest _ _ _ _ c.loop-part.invariant.written c.in_err-write_part.ensures.prefix (p.parts ∙ ap (λ (t : List ℕ). t ++ p.rest) (sym next))

pub loop-part-preserved : goal.loop-part-preserved
loop-part-preserved g c =
    let parts = c.args.parts.now in
    let i = c.loop-part.part-index in
    let inside : i < length parts = omega arith in
    let next = one_more parts i c.part-item.result inside c.part-item.is in
    record {
      written = with_more-two _ _ _ (parts_text (take i parts)) (part_text c.part-item.result) c.loop-part.invariant.written c.in_ok-write_part.ensures.whole ∙ ap (with_more (g.S.Sink.written c.args.sink.now)) next;
      never_fall = omega (arith, c.loop-part.invariant.never_fall, c.in_ok-write_part.ensures.never_fall);
    }

pub returns-clause-prefix : goal.returns-clause-prefix
returns-clause-prefix g c =
    let all = ap parts_text (take_all c.loop-part.part-index c.args.parts.now (omega arith)) in
    HasPrefixMore-whole _ _ _ (c.loop-part.invariant.written ∙ ap (with_more (g.S.Sink.written c.args.sink.now)) all)
