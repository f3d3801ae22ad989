use Rattle.std.proofs.Common.{◌≡◌, ◌+◌, ◌<◌, ◌≤◌, true, false, get_or, length, List, ℕ, Bool, ap, ap₂, sym, subst, ◌∙◌, to_z, of_z, w32, w64, arith}
use Rattle.std.specs.Prelude.{Option}
use Rattle.std.proofs.lemmas.Int.{ints}
use Rattle.std.proofs.lemmas.Result.{IfOk-weaker}
use Rattle.edge.specs.Sink.{with_more}
use Rattle.ext_chart.specs.Classes.{class_text, class_sum_text}
use Rattle.ext_report.proofs.Sums.{HasTerms, rest_of, sum_is, term_skipped, term_written, term_cut, sum_written, zero_written, zero_cut}
use Rattle.edge.proofs.Written.{HasPrefixMore-of, HasPrefixMore-whole}
use Rattle.ext_report.proofs.writing.write_sum.Goals as goal
use Rattle.ext_report.proofs.writing.write_sum.Goals.{then-get+in_ok-write_term, else-get}

pub returns-in_err-write_term-clause-prefix : goal.returns-in_err-write_term-clause-prefix
returns-in_err-write_term-clause-prefix g c =
    let v = c.args.v.now in
    let f = class_text (to_z w64 (of_z w64 c.args.s)) (to_z w32 (of_z w32 c.args.t)) in
    let s_is : to_z w64 (of_z w64 c.args.s) ≡ c.args.s = omega (arith, ints) in
    let t_is : to_z w32 (of_z w32 c.args.t) ≡ c.args.t = omega (arith, ints) in
    let all : rest_of f false 0 v ≡ class_sum_text c.args.s c.args.t v = sym (sum_is f 0 v) ∙ ap₂ (λ s t. class_sum_text s t v) s_is t_is in
    let within : c.loop-i.i < length v = omega (arith, c.len-i-end.ensures, c.loop-i-test.true) in
    let one : get_or v c.loop-i.i false ≡ true = sym c.get.ensures ∙ c.if-get.true in
    HasPrefixMore-of _ _ _ _ all (term_cut f v c.loop-i.some c.loop-i.i _ _ c.loop-i.invariant.terms _ within one c.in_err-write_term.ensures.prefix)

pub loop-i-preserved : goal.loop-i-preserved
loop-i-preserved g c =
    let v = c.args.v.now in
    let f = class_text (to_z w64 (of_z w64 c.args.s)) (to_z w32 (of_z w32 c.args.t)) in
    let within : c.loop-i.i < length v = omega (arith, c.len-i-end.ensures, c.loop-i-test.true) in
    let Terms : Bool → Option (List ℕ) → Type 0 = λ some now. HasTerms f v some (c.loop-i.i + 1) (g.S.Sink.written c.args.sink.now) now in
    elim c.if-get.branch [
      | then-get+in_ok-write_term w ↦
          let one : get_or v c.loop-i.i false ≡ true = sym c.get.ensures ∙ w.if-get.true in
          let terms = term_written f v c.loop-i.some c.loop-i.i _ _ c.loop-i.invariant.terms _ within one w.in_ok-write_term.ensures.whole in
          let never = w.write_term.ensures.never_fall in
          let before = c.loop-i.invariant.never_fall in
          let same = ap g.S.Sink.faults w.sink-is in
          record { terms = subst (λ (some : Bool). Terms some (g.S.Sink.written c.if-get.sink)) (sym w.some-is) (subst (Terms true) (sym (ap g.S.Sink.written w.sink-is)) terms); never_fall = omega (arith, never, before, same) }
      | else-get w ↦
          let none : get_or v c.loop-i.i false ≡ false = sym c.get.ensures ∙ w.if-get.false in
          let terms = term_skipped f v c.loop-i.some c.loop-i.i _ _ c.loop-i.invariant.terms within none in
          let before = c.loop-i.invariant.never_fall in
          let same = ap g.S.Sink.faults w.sink-is in
          record { terms = subst (λ (some : Bool). Terms some (g.S.Sink.written c.if-get.sink)) (sym w.some-is) (subst (Terms c.loop-i.some) (sym (ap g.S.Sink.written w.sink-is)) terms); never_fall = omega (arith, before, same) }
    ]

pub returns-then-some-clause-whole : goal.returns-then-some-clause-whole
returns-then-some-clause-whole g c =
    let v = c.args.v.now in
    let f = class_text (to_z w64 (of_z w64 c.args.s)) (to_z w32 (of_z w32 c.args.t)) in
    let s_is : to_z w64 (of_z w64 c.args.s) ≡ c.args.s = omega (arith, ints) in
    let t_is : to_z w32 (of_z w32 c.args.t) ≡ c.args.t = omega (arith, ints) in
    let all : rest_of f false 0 v ≡ class_sum_text c.args.s c.args.t v = sym (sum_is f 0 v) ∙ ap₂ (λ s t. class_sum_text s t v) s_is t_is in
    let past : length v ≤ c.loop-i.i = omega (arith, c.len-i-end.ensures, c.loop-i-test.false) in
    sum_written f v c.loop-i.some c.loop-i.i _ _ c.loop-i.invariant.terms past c.if-some.true ∙ ap (with_more (g.S.Sink.written c.args.sink.now)) all

pub returns-then-some-clause-prefix : goal.returns-then-some-clause-prefix
returns-then-some-clause-prefix g c =
    let v = c.args.v.now in
    let f = class_text (to_z w64 (of_z w64 c.args.s)) (to_z w32 (of_z w32 c.args.t)) in
    let s_is : to_z w64 (of_z w64 c.args.s) ≡ c.args.s = omega (arith, ints) in
    let t_is : to_z w32 (of_z w32 c.args.t) ≡ c.args.t = omega (arith, ints) in
    let all : rest_of f false 0 v ≡ class_sum_text c.args.s c.args.t v = sym (sum_is f 0 v) ∙ ap₂ (λ s t. class_sum_text s t v) s_is t_is in
    let past : length v ≤ c.loop-i.i = omega (arith, c.len-i-end.ensures, c.loop-i-test.false) in
    HasPrefixMore-whole _ _ _ (sum_written f v c.loop-i.some c.loop-i.i _ _ c.loop-i.invariant.terms past c.if-some.true ∙ ap (with_more (g.S.Sink.written c.args.sink.now)) all)

pub returns-else-some-clause-whole : goal.returns-else-some-clause-whole
returns-else-some-clause-whole g c =
    let v = c.args.v.now in
    let f = class_text (to_z w64 (of_z w64 c.args.s)) (to_z w32 (of_z w32 c.args.t)) in
    let s_is : to_z w64 (of_z w64 c.args.s) ≡ c.args.s = omega (arith, ints) in
    let t_is : to_z w32 (of_z w32 c.args.t) ≡ c.args.t = omega (arith, ints) in
    let all : rest_of f false 0 v ≡ class_sum_text c.args.s c.args.t v = sym (sum_is f 0 v) ∙ ap₂ (λ s t. class_sum_text s t v) s_is t_is in
    let past : length v ≤ c.loop-i.i = omega (arith, c.len-i-end.ensures, c.loop-i-test.false) in
    IfOk-weaker c.write_all.result _ _ (λ done last. zero_written f v c.loop-i.some c.loop-i.i _ _ c.loop-i.invariant.terms _ past c.if-some.false last ∙ ap (with_more (g.S.Sink.written c.args.sink.now)) all) c.write_all.ensures.whole

pub returns-else-some-clause-prefix : goal.returns-else-some-clause-prefix
returns-else-some-clause-prefix g c =
    let v = c.args.v.now in
    let f = class_text (to_z w64 (of_z w64 c.args.s)) (to_z w32 (of_z w32 c.args.t)) in
    let s_is : to_z w64 (of_z w64 c.args.s) ≡ c.args.s = omega (arith, ints) in
    let t_is : to_z w32 (of_z w32 c.args.t) ≡ c.args.t = omega (arith, ints) in
    let all : rest_of f false 0 v ≡ class_sum_text c.args.s c.args.t v = sym (sum_is f 0 v) ∙ ap₂ (λ s t. class_sum_text s t v) s_is t_is in
    let past : length v ≤ c.loop-i.i = omega (arith, c.len-i-end.ensures, c.loop-i-test.false) in
    HasPrefixMore-of _ _ _ _ all (zero_cut f v c.loop-i.some c.loop-i.i _ _ c.loop-i.invariant.terms _ past c.if-some.false c.write_all.ensures.prefix)
