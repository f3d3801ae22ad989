use Rattle.std.proofs.Common.{◌++◌, ◌-◌, [], ◌∷◌, take, drop, refl, ap, sym, ◌∙◌}
use Rattle.std.proofs.lemmas.List.{append-nil}
use Rattle.f2_matrix.proofs.Parts.{image_part-left, chosen_part-left, kernel_part-left, image_part-right, chosen_part-right, kernel_part-right, image_part-zero, chosen_part-zero, kernel_part-zero, right_of}
use Rattle.f2_matrix.proofs.reduced.keep_part.Goals as goal

pub returns-in_ok-push-in-Some-2-2-clause-image : goal.returns-in_ok-push-in-Some-2-2-clause-image
returns-in_ok-push-in-Some-2-2-clause-image c =
    sym (append-nil c.args.image.now.items) ∙ ap (λ z. c.args.image.now.items ++ z) (sym (image_part-right c.args.cols c.args.row.now c.in-Some.pivot c.in-Some.ensures.first c.if-pivot-cols.false))

pub returns-in_ok-push-in-Some-2-2-clause-chosen : goal.returns-in_ok-push-in-Some-2-2-clause-chosen
returns-in_ok-push-in-Some-2-2-clause-chosen c =
    sym (append-nil c.args.chosen.now.items) ∙ ap (λ z. c.args.chosen.now.items ++ z) (sym (chosen_part-right c.args.cols c.args.row.now c.in-Some.pivot c.in-Some.ensures.first c.if-pivot-cols.false))

pub returns-in_ok-push-in-Some-2-2-clause-kernel : goal.returns-in_ok-push-in-Some-2-2-clause-kernel
returns-in_ok-push-in-Some-2-2-clause-kernel c =
    c.in_ok-push-in-Some-2-2.ensures.items
    ∙ ap (λ r. c.args.kernel.now.items ++ r ∷ []) (c.in_ok-part-in-Some-2-2.ensures ∙ ap (λ n. take (n - c.args.cols) (drop c.args.cols c.args.row.now)) c.len.ensures ∙ right_of c.args.cols c.args.row.now)
    ∙ ap (λ z. c.args.kernel.now.items ++ z) (sym (kernel_part-right c.args.cols c.args.row.now c.in-Some.pivot c.in-Some.ensures.first c.if-pivot-cols.false))

pub returns-in-None-clause-image : goal.returns-in-None-clause-image
returns-in-None-clause-image c =
    sym (append-nil c.args.image.now.items) ∙ ap (λ z. c.args.image.now.items ++ z) (sym (image_part-zero c.args.cols c.args.row.now (c.in-None.ensures.none.0 refl)))

pub returns-in-None-clause-kernel : goal.returns-in-None-clause-kernel
returns-in-None-clause-kernel c =
    sym (append-nil c.args.kernel.now.items) ∙ ap (λ z. c.args.kernel.now.items ++ z) (sym (kernel_part-zero c.args.cols c.args.row.now (c.in-None.ensures.none.0 refl)))

pub returns-in-None-clause-chosen : goal.returns-in-None-clause-chosen
returns-in-None-clause-chosen c =
    sym (append-nil c.args.chosen.now.items) ∙ ap (λ z. c.args.chosen.now.items ++ z) (sym (chosen_part-zero c.args.cols c.args.row.now (c.in-None.ensures.none.0 refl)))

pub returns-in_ok-push-in-Some-2-clause-image : goal.returns-in_ok-push-in-Some-2-clause-image
returns-in_ok-push-in-Some-2-clause-image c =
    c.in_ok-push-in-Some.ensures.items
    ∙ ap (λ r. c.args.image.now.items ++ r ∷ []) (c.in_ok-part-in-Some.ensures)
    ∙ ap (λ z. c.args.image.now.items ++ z) (sym (image_part-left c.args.cols c.args.row.now c.in-Some.pivot c.in-Some.ensures.first c.if-pivot-cols.true))

pub returns-in_ok-push-in-Some-2-clause-chosen : goal.returns-in_ok-push-in-Some-2-clause-chosen
returns-in_ok-push-in-Some-2-clause-chosen c =
    c.in_ok-push-in-Some-2.ensures.items
    ∙ ap (λ r. c.args.chosen.now.items ++ r ∷ []) (c.in_ok-part-in-Some-2.ensures ∙ ap (λ n. take (n - c.args.cols) (drop c.args.cols c.args.row.now)) c.len.ensures ∙ right_of c.args.cols c.args.row.now)
    ∙ ap (λ z. c.args.chosen.now.items ++ z) (sym (chosen_part-left c.args.cols c.args.row.now c.in-Some.pivot c.in-Some.ensures.first c.if-pivot-cols.true))

pub returns-in_ok-push-in-Some-2-clause-kernel : goal.returns-in_ok-push-in-Some-2-clause-kernel
returns-in_ok-push-in-Some-2-clause-kernel c =
    sym (append-nil c.args.kernel.now.items) ∙ ap (λ z. c.args.kernel.now.items ++ z) (sym (kernel_part-left c.args.cols c.args.row.now c.in-Some.pivot c.in-Some.ensures.first c.if-pivot-cols.true))
