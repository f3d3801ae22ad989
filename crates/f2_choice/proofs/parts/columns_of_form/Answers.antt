use Rattle.std.specs.Borrow.{Bor}
use Rattle.std.proofs.Common.{◌≡◌, ◌++◌, Bool, List, length, map, ap, ◌∙◌, subst, IfOk}
use Rattle.f2_vec.proofs.Sums.{length-zeros}
use Rattle.f2_choice.specs.Inside.Columns.{columns_at}
use Rattle.f2_choice.specs.Inside.Tables.{spread_by}
use Rattle.f2_choice.proofs.parts.columns_of_form.Goals as goal

pub returns : goal.returns
returns c =
    let image = c.args.image.now in
    let table = c.args.table.now in
    let now : Bor (List Bool) → List Bool = λ v. v.now in
    let width : length c.in_ok-zero.zero ≡ c.args.width = ap length c.in_ok-zero.ensures ∙ length-zeros c.args.width in
    let above : map now c.in_ok-rows.rows.items ≡ spread_by table c.args.width image = c.in_ok-rows.ensures ∙ ap (λ w. spread_by table w image) width in
    let all : map now c.as_slice.result.now ≡ spread_by table c.args.width image ++ c.args.kernel.now = ap (map now) c.as_slice.ensures.value ∙ c.in_ok-append.ensures ∙ ap (λ z. z ++ c.args.kernel.now) above in
    subst (λ z. IfOk c.columns_at.result (λ columns. columns.items ≡ z)) (ap (columns_at c.args.places.now) all) c.columns_at.ensures
