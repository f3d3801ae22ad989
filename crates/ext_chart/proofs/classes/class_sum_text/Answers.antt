use Rattle.std.proofs.Common.{rules, ◌≡◌, ◌++◌, ◌<◌, length, get_or, List, ℕ, Vec, Global, to_z, of_z, w32, ap, ap₂, ◌∙◌, arith}
use Rattle.std.proofs.lemmas.Int.{ints}
use Rattle.finite_module.proofs.TextSteps.{joined_by_plus-first, joined_by_plus-next}
use Rattle.ext_chart.specs.Classes.{class_text, class_sum_text}
use Rattle.ext_chart.proofs.ClassSteps.{no-classes, joined-classes}
use Rattle.ext_chart.proofs.classes.class_sum_text.Goals as goal
use Rattle.ext_chart.proofs.classes.class_sum_text.Goals.{then-k-gt0+in_ok-extend_from_slice, else-k-gt0}

pub returns-then-is_empty : goal.returns-then-is_empty
returns-then-is_empty c =
    let none : length c.in_ok-ones.ones.items ≡ 0 = search rules in
    c.in_ok-from_slice.ensures.items ∙ no-classes c.args.s c.args.t c.args.v.now c.in_ok-ones.ones.items c.in_ok-ones.ensures.places none

pub loop-k-preserved : goal.loop-k-preserved
loop-k-preserved c =
    let numbers = c.deref-i-items.result.now in
    let k = c.loop-k.k in
    let f = class_text (to_z w32 (of_z w32 c.args.s)) (to_z w32 (of_z w32 c.args.t)) in
    let before = c.loop-k.text.items in
    let within : k < length numbers = c.loop-k-test.true in
    let last : c.extend_from_slice-in-loop-k.new.self.items ≡ c.if-k-gt0.text.items ++ f (get_or numbers k 0) =
    c.in_ok-extend_from_slice-2.ensures.items ∙ ap (λ (t : List ℕ). c.if-k-gt0.text.items ++ t) (c.as_slice.ensures.value ∙ c.in_ok-term.ensures) in
    let written : List ℕ → List ℕ = λ text. text ++ f (get_or numbers k 0) in
    elim c.if-k-gt0.branch [
      | then-k-gt0+in_ok-extend_from_slice w ↦ last ∙ (ap (λ (v : Vec ℕ Global). written v.items) w.text-is ∙ (ap written w.in_ok-extend_from_slice.ensures.items ∙ joined_by_plus-next f numbers k before w.if-k-gt0.true within c.loop-k.invariant))
      | else-k-gt0 w ↦ last ∙ (ap (λ (v : Vec ℕ Global). written v.items) w.text-is ∙ joined_by_plus-first f numbers k before w.if-k-gt0.false within c.loop-k.invariant)
    ]

pub returns : goal.returns
returns c =
    let ones = c.deref-i-items.result.now in
    let some : 0 < length ones = search rules in
    let s_is : to_z w32 (of_z w32 c.args.s) ≡ c.args.s = omega (arith, ints) in
    let t_is : to_z w32 (of_z w32 c.args.t) ≡ c.args.t = omega (arith, ints) in
    joined-classes (to_z w32 (of_z w32 c.args.s)) (to_z w32 (of_z w32 c.args.t)) c.args.v.now ones c.loop-k.k c.loop-k.text.items (c.deref-i-items.ensures.value ∙ c.in_ok-ones.ensures.places) some c.loop-k-test.false c.loop-k.invariant
    ∙ ap₂ (λ s t. class_sum_text s t c.args.v.now) s_is t_is
