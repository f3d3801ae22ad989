use Rattle.std.proofs.Common.{◌≡◌, [], ◌<◌, ◌≤◌, true, false, cond, length, take, refl, ap, sym, subst, ◌∙◌, arith}
use Rattle.std.proofs.lemmas.List.{get_or_read, take_all}
use Rattle.f2_vec.specs.Vectors.{sum_of, bit}
use Rattle.f2_vec.proofs.Sums.{sum_of-zeros_right}
use Rattle.f2_vec.specs.Spans.{row, combination}
use Rattle.f2_matrix.specs.Preimages.{at_pivots}
use Rattle.f2_matrix.specs.Inside.Held.{rows_of}
use Rattle.f2_matrix.proofs.Pivots.{length-at_pivots, bit-at_pivots, pivot_within, length-sum_so_far, sum_more}
use Rattle.f2_matrix.proofs.reduced.add_at_pivots.Goals as goal
use Rattle.f2_matrix.proofs.reduced.add_at_pivots.Goals.{then-get, else-get}

pub loop-i-init : goal.loop-i-init
loop-i-init c = sym (sum_of-zeros_right (length c.args.sum.now) c.args.sum.now refl)

pub get-requires : goal.get-requires
get-requires c =
    let image = rows_of c.args.image.now in
    let there : c.loop-i.i < length image = omega (arith, c.requires.as_many, c.loop-i-test.true) in
    omega (arith, c.pivot.ensures, pivot_within (length c.args.v.now) image c.loop-i.i c.requires.image c.requires.nonzero there)

pub xor_with-requires : goal.xor_with-requires
xor_with-requires c =
    let rows = c.args.rows.now in
    let n = length c.args.sum.now in
    let there : c.loop-i.i < length rows = c.loop-i-test.true in
    let same : c.index-rows-i.result ≡ row rows c.loop-i.i = get_or_read rows c.loop-i.i c.index-rows-i.result there c.index-rows-i.is [] in
    length-sum_so_far n c.loop-i.i c.args.sum.now (at_pivots (rows_of c.args.image.now) c.args.v.now) rows c.loop-i.sum c.requires.widths refl c.loop-i.invariant
    ∙ sym (ap length same ∙ c.requires.widths c.loop-i.i there)

pub loop-i-preserved : goal.loop-i-preserved
loop-i-preserved c =
    let rows = c.args.rows.now in
    let n = length c.args.sum.now in
    let i = c.loop-i.i in
    let v = c.args.v.now in
    let image = rows_of c.args.image.now in
    let bits = at_pivots image v in
    let there : i < length rows = c.loop-i-test.true in
    let within : i < length image = omega (arith, c.requires.as_many, there) in
    let among : i < length bits = omega (arith, length-at_pivots image v, within) in
    let test : c.get.result ≡ bit bits i = c.get.ensures ∙ ap (bit v) c.pivot.ensures ∙ sym (bit-at_pivots image v i within) in
    let more = sum_more n i c.args.sum.now bits rows c.loop-i.sum c.if-get.sum c.requires.widths among there c.loop-i.invariant in
    elim c.if-get.branch [
      | then-get w ↦
          let same : w.index-rows-i.result ≡ row rows i = get_or_read rows i w.index-rows-i.result there w.index-rows-i.is [] in
          let one : true ≡ bit bits i = sym w.if-get.true ∙ test in
          more (subst (λ b. c.if-get.sum ≡ cond b (sum_of c.loop-i.sum (row rows i)) c.loop-i.sum) one (w.sum-is ∙ w.xor_with.ensures ∙ ap (sum_of c.loop-i.sum) same))
      | else-get w ↦
          let none : false ≡ bit bits i = sym w.if-get.false ∙ test in
          more (subst (λ b. c.if-get.sum ≡ cond b (sum_of c.loop-i.sum (row rows i)) c.loop-i.sum) none w.sum-is)
    ]

pub returns : goal.returns
returns c =
    let rows = c.args.rows.now in
    let n = length c.args.sum.now in
    let image = rows_of c.args.image.now in
    let bits = at_pivots image c.args.v.now in
    let past : length rows ≤ c.loop-i.i = c.loop-i-test.false in
    let all : take c.loop-i.i bits ≡ bits = take_all c.loop-i.i bits (omega (arith, length-at_pivots image c.args.v.now, c.requires.as_many)) in
    let whole : take c.loop-i.i rows ≡ rows = take_all c.loop-i.i rows (omega arith) in
    c.loop-i.invariant ∙ ap (λ k. sum_of c.args.sum.now (combination n k (take c.loop-i.i rows))) all ∙ ap (λ xs. sum_of c.args.sum.now (combination n bits xs)) whole
