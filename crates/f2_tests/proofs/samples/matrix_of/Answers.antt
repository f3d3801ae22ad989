use Rattle.std.proofs.Common.{ℕ, Bool, List, [], length, ap, sym, subst, rules, ◌∙◌}
use Rattle.std.specs.Prelude.{nat_eq}
use Rattle.std.specs.List.{filter}
use Rattle.std.proofs.lemmas.Bool.{eqb-true}
use Rattle.std.proofs.lemmas.Fn.{filter_same}
use Rattle.f2_vec.specs.Spans.{HaveWidth}
use Rattle.f2_matrix.proofs.Kept.{kept_at}
use Rattle.f2_tests.proofs.samples.matrix_of.Goals as goal

-- the rows that pass a test of their length have it
widths : (n : ℕ) (rows : List (List Bool)) → HaveWidth n (filter (λ v. nat_eq (length v) n) rows)
widths n rows i l =
    let kept = kept_at (λ v. nat_eq (length v) n) [] rows i l in
    ap length kept.1 ∙ eqb-true _ n kept.2

pub from_rows-requires : goal.from_rows-requires
from_rows-requires c =
    subst (HaveWidth c.args.cols) (sym (filter_same _ (λ v. nat_eq (length v) c.args.cols) _ (λ x b f k. search rules) _ _ c.retain.ensures.filtered))
    (widths c.args.cols c.args.rows.items)
