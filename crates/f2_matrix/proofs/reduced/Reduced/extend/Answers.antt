use Rattle.std.proofs.Common.{◌≡◌, ◌+◌, ◌<◌, [], ◌∷◌, ◌++◌, length, take, ap, sym, subst, ◌∙◌, arith, append_assoc}
use Rattle.std.proofs.lemmas.List.{get_or_read, take_more}
use Rattle.f2_matrix.specs.Reduction.{IsReductionOf}
use Rattle.f2_matrix.proofs.reduced.Reduced.extend.Goals as goal

pub loop-row-preserved : goal.loop-row-preserved
loop-row-preserved c =
    let n = c.args.self.now.cols in
    let rows = c.args.rows.now in
    let i = c.loop-row.row-index in
    let cols = c.loop-row.invariant.cols in
    let tall = c.in_ok-next-2.ensures.height in
    let there : i < length rows = c.loop-row-test.true in
    let same = get_or_read rows i c.row-item.result there c.row-item.is [] in
    let more : take i rows ++ c.row-item.result ∷ [] ≡ take (i + 1) rows = ap (λ r. take i rows ++ r ∷ []) same ∙ sym (take_more rows i [] there) in
    record {
      cols = c.in_ok-next-2.ensures.cols ∙ cols;
      height = tall ∙ ap (λ m. m + 1) c.loop-row.invariant.height ∙ omega arith;
      reduction = λ old h.
          let before = subst (λ k. IsReductionOf k (old ++ take i rows) c.loop-row.next) (sym cols) (c.loop-row.invariant.reduction old h) in
          let after = subst (λ k. IsReductionOf k ((old ++ take i rows) ++ c.row-item.result ∷ []) c.in_ok-next-2.next) cols (c.in_ok-next-2.ensures.reduction (old ++ take i rows) before) in
          subst (λ xs. IsReductionOf n xs c.in_ok-next-2.next) (append_assoc old (take i rows) (c.row-item.result ∷ []) ∙ ap (λ xs. old ++ xs) more) after;
    }
