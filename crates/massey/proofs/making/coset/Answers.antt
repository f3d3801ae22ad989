use Rattle.std.proofs.Common.{Bool, List, sym, subst, ◌∙◌}
use Rattle.massey.specs.Inside.{IsBracket}
use Rattle.massey.proofs.Assembled.{assembled_in}
use Rattle.massey.proofs.making.coset.Goals as goal

pub returns-clause-bracket : goal.returns-clause-bracket
returns-clause-bracket c = λ range far s all all_q.
    subst (λ (rows : List (List Bool)). IsBracket c.args.setting.now.table.now c.args.setting.now.sphere.now c.args.setting.now.places c.in_ok-value.value rows range far) (sym c.in_ok-indeterminacy.ensures.rows)
    (assembled_in c.bracket_is_coset.ensures c.modules_are_graded_modules.ensures c.args.setting.now.table.now c.args.setting.now.sphere.now range far c.args.setting.now.places s all all_q c.args.beta.now c.args.gamma.now c.requires.lifts c.args.n c.requires.n
    c.in_ok-first.first c.in_ok-value.value c.in_ok-rows.rows.items c.from_rows-rows.result.rows c.in_ok-reduced.reduced.image c.from_rows-rows.result.cols c.in_ok-reduced.reduced.cols
    c.in_ok-first.ensures.length (c.in_ok-value.ensures.length ∙ c.in_ok-reduced.ensures.cols ∙ c.from_rows-rows.ensures.cols ∙ c.len.ensures) (c.from_rows-rows.ensures.cols ∙ c.len.ensures) c.in_ok-reduced.ensures.cols c.from_rows-rows.ensures.rows
    (c.in_ok-first.ensures.member range far s all all_q) (c.in_ok-rows.ensures.spanning range far s all all_q) c.in_ok-reduced.ensures.image c.in_ok-value.ensures.coset c.in_ok-value.ensures.apart)
