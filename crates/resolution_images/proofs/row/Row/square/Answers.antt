use Rattle.std.proofs.Common.{◌≡◌, ◌<◌, ◌∙◌, ◌+◌, length, drop, get_or, ap, arith}
use Rattle.std.proofs.lemmas.List.{get_or_read}
use Rattle.resolution_images.specs.BareRows.{BareRow, cut}
use Rattle.resolution_images.proofs.Contents.{cut_more, length-cut}
use Rattle.resolution_images.proofs.row.Row.square.Goals as goal

pub loop-i-preserved : goal.loop-i-preserved
loop-i-preserved c =
    let line = c.args.self.now in
    let counts = ap (λ (x : BareRow). x.counts) c.self.view_is in
    let l : c.loop-i.i < length line.counts = omega (arith, c.requires, c.loop-i-test.true) in
    let n : c.index.result.now ≡ get_or line.counts c.loop-i.i 0 = get_or_read c.self.inside.counts.items c.loop-i.i c.index.result.now (omega (arith, ap length counts)) c.index.ensures 0 ∙ ap (λ ns. get_or ns c.loop-i.i 0) counts in
    let more = cut_more line.counts c.loop-i.i c.loop-i.rest.now (cut line.counts line.images) l c.loop-i.invariant (length-cut line.counts line.images) in
    ap (cut (drop (c.loop-i.i + 1) line.counts)) (c.after-rest.ensures ∙ ap (λ k. drop k c.loop-i.rest.now) n) ∙ more.0
