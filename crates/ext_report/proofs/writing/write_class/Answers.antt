use Rattle.std.proofs.Common.{◌≡◌, ap, ◌∷◌, [], ◌++◌, ◌∙◌, to_z, of_z, w32, w64, arith}
use Rattle.std.specs.Prelude.{decimal}
use Rattle.std.specs.Fmt.{signed_decimal}
use Rattle.std.proofs.lemmas.Int.{ints}
use Rattle.std.proofs.lemmas.Result.{IfOk-weaker}
use Rattle.edge.specs.Sink.{with_more}
use Rattle.edge.proofs.Written.{HasPrefixMore-front, HasPrefixMore-behind, HasPrefixMore-of, with_more-two}
use Rattle.ext_report.proofs.writing.write_class.Goals as goal

pub returns-in_err-write_signed-clause-prefix : goal.returns-in_err-write_signed-clause-prefix
returns-in_err-write_signed-clause-prefix g c =
    let row = 40 ∷ signed_decimal c.args.s in
    let s_is : to_z w64 (of_z w64 c.args.s) ≡ c.args.s = omega (arith, ints) in
    HasPrefixMore-front row (44 ∷ (signed_decimal c.args.t ++ (44 ∷ (decimal c.args.i ++ 41 ∷ [])))) _ _ (HasPrefixMore-of _ row _ _ (ap (λ n. 40 ∷ signed_decimal n) s_is) c.write_signed.ensures.prefix)

pub returns-in_err-write_signed-2-clause-prefix : goal.returns-in_err-write_signed-2-clause-prefix
returns-in_err-write_signed-2-clause-prefix g c =
    let degree = 44 ∷ signed_decimal c.args.t in
    let number = 44 ∷ decimal c.args.i in
    let s_is : to_z w64 (of_z w64 c.args.s) ≡ c.args.s = omega (arith, ints) in
    let t_is : to_z w32 (of_z w32 c.args.t) ≡ c.args.t = omega (arith, ints) in
    let t_long : to_z w64 (of_z w64 c.args.t) ≡ c.args.t = omega (arith, ints) in
    let t_from : to_z w64 (of_z w64 c.from.result) ≡ c.args.t = ap (λ z. to_z w64 (of_z w64 z)) (c.from.ensures ∙ t_is) ∙ t_long in
    let wrote_row = c.in_ok-write_signed.ensures.whole ∙ ap (λ n. with_more (g.S.Sink.written c.args.sink.now) (40 ∷ signed_decimal n)) s_is in
    HasPrefixMore-behind (40 ∷ signed_decimal c.args.s) (degree ++ (number ++ 41 ∷ [])) _ _ _ wrote_row
    (HasPrefixMore-front degree (number ++ 41 ∷ []) _ _ (HasPrefixMore-of _ degree _ _ (ap (λ n. 44 ∷ signed_decimal n) t_from) c.write_signed-2.ensures.prefix))

pub returns-in_err-write_number-clause-prefix : goal.returns-in_err-write_number-clause-prefix
returns-in_err-write_number-clause-prefix g c =
    let degree = 44 ∷ signed_decimal c.args.t in
    let number = 44 ∷ decimal c.args.i in
    let s_is : to_z w64 (of_z w64 c.args.s) ≡ c.args.s = omega (arith, ints) in
    let t_is : to_z w32 (of_z w32 c.args.t) ≡ c.args.t = omega (arith, ints) in
    let t_long : to_z w64 (of_z w64 c.args.t) ≡ c.args.t = omega (arith, ints) in
    let t_from : to_z w64 (of_z w64 c.from.result) ≡ c.args.t = ap (λ z. to_z w64 (of_z w64 z)) (c.from.ensures ∙ t_is) ∙ t_long in
    let wrote_row = c.in_ok-write_signed.ensures.whole ∙ ap (λ n. with_more (g.S.Sink.written c.args.sink.now) (40 ∷ signed_decimal n)) s_is in
    let wrote = c.in_ok-write_signed-2.ensures.whole ∙ ap (λ n. with_more (g.S.Sink.written c.write_signed.new.sink) (44 ∷ signed_decimal n)) t_from in
    HasPrefixMore-behind (40 ∷ signed_decimal c.args.s) (degree ++ (number ++ 41 ∷ [])) _ _ _ wrote_row
    (HasPrefixMore-behind degree (number ++ 41 ∷ []) _ _ _ wrote (HasPrefixMore-front number (41 ∷ []) _ _ c.write_number.ensures.prefix))

pub returns-clause-whole : goal.returns-clause-whole
returns-clause-whole g c =
    let row = 40 ∷ signed_decimal c.args.s in
    let degree = 44 ∷ signed_decimal c.args.t in
    let number = 44 ∷ decimal c.args.i in
    let s_is : to_z w64 (of_z w64 c.args.s) ≡ c.args.s = omega (arith, ints) in
    let t_is : to_z w32 (of_z w32 c.args.t) ≡ c.args.t = omega (arith, ints) in
    let t_long : to_z w64 (of_z w64 c.args.t) ≡ c.args.t = omega (arith, ints) in
    let t_from : to_z w64 (of_z w64 c.from.result) ≡ c.args.t = ap (λ z. to_z w64 (of_z w64 z)) (c.from.ensures ∙ t_is) ∙ t_long in
    let wrote_row = c.in_ok-write_signed.ensures.whole ∙ ap (λ n. with_more (g.S.Sink.written c.args.sink.now) (40 ∷ signed_decimal n)) s_is in
    let wrote = c.in_ok-write_signed-2.ensures.whole ∙ ap (λ n. with_more (g.S.Sink.written c.write_signed.new.sink) (44 ∷ signed_decimal n)) t_from in
    IfOk-weaker c.write_all.result _ _
    (λ done last. with_more-two _ _ _ row (degree ++ (number ++ 41 ∷ [])) wrote_row (with_more-two _ _ _ degree (number ++ 41 ∷ []) wrote (with_more-two _ _ _ number (41 ∷ []) c.in_ok-write_number.ensures.whole last)))
    c.write_all.ensures.whole

pub returns-clause-prefix : goal.returns-clause-prefix
returns-clause-prefix g c =
    let degree = 44 ∷ signed_decimal c.args.t in
    let number = 44 ∷ decimal c.args.i in
    let s_is : to_z w64 (of_z w64 c.args.s) ≡ c.args.s = omega (arith, ints) in
    let t_is : to_z w32 (of_z w32 c.args.t) ≡ c.args.t = omega (arith, ints) in
    let t_long : to_z w64 (of_z w64 c.args.t) ≡ c.args.t = omega (arith, ints) in
    let t_from : to_z w64 (of_z w64 c.from.result) ≡ c.args.t = ap (λ z. to_z w64 (of_z w64 z)) (c.from.ensures ∙ t_is) ∙ t_long in
    let wrote_row = c.in_ok-write_signed.ensures.whole ∙ ap (λ n. with_more (g.S.Sink.written c.args.sink.now) (40 ∷ signed_decimal n)) s_is in
    let wrote = c.in_ok-write_signed-2.ensures.whole ∙ ap (λ n. with_more (g.S.Sink.written c.write_signed.new.sink) (44 ∷ signed_decimal n)) t_from in
    HasPrefixMore-behind (40 ∷ signed_decimal c.args.s) (degree ++ (number ++ 41 ∷ [])) _ _ _ wrote_row
    (HasPrefixMore-behind degree (number ++ 41 ∷ []) _ _ _ wrote (HasPrefixMore-behind number (41 ∷ []) _ _ _ c.in_ok-write_number.ensures.whole c.write_all.ensures.prefix))
