use Rattle.std.proofs.Common.{◌≡◌, ap, ◌∷◌, [], ◌++◌, ◌∙◌, to_z, of_z, w32, w64, arith}
use Rattle.std.proofs.lemmas.Int.{ints}
use Rattle.std.specs.Fmt.{signed_decimal}
use Rattle.edge.specs.Sink.{with_more}
use Rattle.edge.proofs.Written.{HasPrefixMore-front, HasPrefixMore-behind, HasPrefixMore-of}
use Rattle.ext_report.proofs.writing.write_place.Goals as goal

pub returns-in_err-write_signed-clause-prefix : goal.returns-in_err-write_signed-clause-prefix
returns-in_err-write_signed-clause-prefix g c =
    let row = 40 ∷ signed_decimal c.args.s in
    let s_is : to_z w32 (of_z w32 c.args.s) ≡ c.args.s = omega (arith, ints) in
    let s_long : to_z w64 (of_z w64 c.args.s) ≡ c.args.s = omega (arith, ints) in
    let s_from : to_z w64 (of_z w64 c.from.result) ≡ c.args.s = ap (λ z. to_z w64 (of_z w64 z)) (c.from.ensures ∙ s_is) ∙ s_long in
    HasPrefixMore-front row (44 ∷ (signed_decimal c.args.t ++ 41 ∷ [])) _ _ (HasPrefixMore-of _ row _ _ (ap (λ n. 40 ∷ signed_decimal n) s_from) c.write_signed.ensures.prefix)

pub returns-in_err-write_signed-2-clause-prefix : goal.returns-in_err-write_signed-2-clause-prefix
returns-in_err-write_signed-2-clause-prefix g c =
    let row = 40 ∷ signed_decimal c.args.s in
    let degree = 44 ∷ signed_decimal c.args.t in
    let s_is : to_z w32 (of_z w32 c.args.s) ≡ c.args.s = omega (arith, ints) in
    let s_long : to_z w64 (of_z w64 c.args.s) ≡ c.args.s = omega (arith, ints) in
    let s_from : to_z w64 (of_z w64 c.from.result) ≡ c.args.s = ap (λ z. to_z w64 (of_z w64 z)) (c.from.ensures ∙ s_is) ∙ s_long in
    let t_is : to_z w32 (of_z w32 c.args.t) ≡ c.args.t = omega (arith, ints) in
    let t_long : to_z w64 (of_z w64 c.args.t) ≡ c.args.t = omega (arith, ints) in
    let t_from : to_z w64 (of_z w64 c.from-2.result) ≡ c.args.t = ap (λ z. to_z w64 (of_z w64 z)) (c.from-2.ensures ∙ t_is) ∙ t_long in
    HasPrefixMore-behind row (degree ++ 41 ∷ []) _ _ _ (c.in_ok-write_signed.ensures.whole ∙ ap (λ n. with_more (g.S.Sink.written c.args.sink.now) (40 ∷ signed_decimal n)) s_from)
    (HasPrefixMore-front degree (41 ∷ []) _ _ (HasPrefixMore-of _ degree _ _ (ap (λ n. 44 ∷ signed_decimal n) t_from) c.write_signed-2.ensures.prefix))

pub returns-clause-prefix : goal.returns-clause-prefix
returns-clause-prefix g c =
    let row = 40 ∷ signed_decimal c.args.s in
    let degree = 44 ∷ signed_decimal c.args.t in
    let s_is : to_z w32 (of_z w32 c.args.s) ≡ c.args.s = omega (arith, ints) in
    let s_long : to_z w64 (of_z w64 c.args.s) ≡ c.args.s = omega (arith, ints) in
    let s_from : to_z w64 (of_z w64 c.from.result) ≡ c.args.s = ap (λ z. to_z w64 (of_z w64 z)) (c.from.ensures ∙ s_is) ∙ s_long in
    let t_is : to_z w32 (of_z w32 c.args.t) ≡ c.args.t = omega (arith, ints) in
    let t_long : to_z w64 (of_z w64 c.args.t) ≡ c.args.t = omega (arith, ints) in
    let t_from : to_z w64 (of_z w64 c.from-2.result) ≡ c.args.t = ap (λ z. to_z w64 (of_z w64 z)) (c.from-2.ensures ∙ t_is) ∙ t_long in
    HasPrefixMore-behind row (degree ++ 41 ∷ []) _ _ _ (c.in_ok-write_signed.ensures.whole ∙ ap (λ n. with_more (g.S.Sink.written c.args.sink.now) (40 ∷ signed_decimal n)) s_from)
    (HasPrefixMore-behind degree (41 ∷ []) _ _ _ (c.in_ok-write_signed-2.ensures.whole ∙ ap (λ n. with_more (g.S.Sink.written c.write_signed.new.sink) (44 ∷ signed_decimal n)) t_from) c.write_all.ensures.prefix)
