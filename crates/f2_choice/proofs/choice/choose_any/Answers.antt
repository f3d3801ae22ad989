use Rattle.std.proofs.Common.{◌≡◌, ◌+◌, ◌-◌, ◌<◌, ◌↔◌, ◌++◌, Bool, IsTrue, List, [], ◌∷◌, length, take, drop, sym, ◌∙◌, ap, subst, arith}
use Rattle.std.proofs.lemmas.List.{get_or_read}
use Rattle.std.proofs.lemmas.Bool.{false≢true}
use Rattle.std.specs.List.{slice_range}
use Rattle.f2_vec.specs.Spans.{row, HaveWidth, IsInSpan}
use Rattle.f2_vec.proofs.Spans.{HaveWidth-cons, HaveWidth-nil}
use Rattle.f2_matrix.specs.Reduction.{IsReductionOf}
use Rattle.f2_choice.proofs.Choosing.{IsChosenTo, chosen_none, chosen_all, IsChosenTo-drop, IsChosenTo-keep, row_alone}
use Rattle.f2_choice.proofs.choice.choose_any.Goals as goal
use Rattle.f2_choice.proofs.choice.choose_any.Goals.{then-not-inside+in_ok-extend+in_ok-try_copy+in_ok-push, else-not-inside}

pub loop-i-init : goal.loop-i-init
loop-i-init c =
    let start = chosen_none c.args.matrix.now.cols c.args.matrix.now.rows c.args.candidates.now c.in_ok-reduced.reduced c.in_ok-reduced.ensures.parts in
    subst (λ (z : List (List Bool)). IsChosenTo c.args.matrix.now.cols c.args.matrix.now.rows c.args.candidates.now 0 z c.in_ok-reduced.reduced) (sym c.new-chosen.ensures.items) start

pub contains-requires : goal.contains-requires
contains-requires c =
    let i = c.loop-i.i in
    let l : i < length c.args.candidates.now = c.loop-i-test.true in
    ap length (get_or_read c.args.candidates.now i c.index-candidates-i.result l c.index-candidates-i.is []) ∙ c.requires.candidates i l ∙ sym c.loop-i.invariant.reduction.cols

pub extend-requires : goal.extend-requires
extend-requires c =
    let i = c.loop-i.i in
    let candidates = c.args.candidates.now in
    let cols = c.loop-i.reduced.cols in
    let l : i < length candidates = c.loop-i-test.true in
    let one : i + 1 - i ≡ 1 = omega arith in
    let alone : slice_range candidates i (i + 1) ≡ row candidates i ∷ [] = ap (λ k. take k (drop i candidates)) one ∙ row_alone candidates i l in
    let wide : length (row candidates i) ≡ cols = c.requires.candidates i l ∙ sym c.loop-i.invariant.reduction.cols in
    subst (HaveWidth cols) (sym alone) (HaveWidth-cons cols (row candidates i) [] wide (HaveWidth-nil cols))

pub loop-i-preserved : goal.loop-i-preserved
loop-i-preserved c =
    let i = c.loop-i.i in
    let n = c.args.matrix.now.cols in
    let old = c.args.matrix.now.rows in
    let candidates = c.args.candidates.now in
    let r = c.loop-i.reduced in
    let l : i < length candidates = c.loop-i-test.true in
    let x : c.index-candidates-i.result ≡ row candidates i = get_or_read candidates i c.index-candidates-i.result l c.index-candidates-i.is [] in
    let decides : IsTrue c.in_ok-inside.inside ↔ IsInSpan r.cols r.image c.index-candidates-i.result = c.in_ok-inside.ensures in
    elim c.if-not-inside.branch [
      | then-not-inside+in_ok-extend+in_ok-try_copy+in_ok-push w ↦
          let next = w.extend.new.self in
          let outside : IsInSpan r.cols r.image c.index-candidates-i.result → ⊥ = λ s. false≢true (sym w.if-not-inside.true ∙ decides.1 s) in
          let one : i + 1 - i ≡ 1 = omega arith in
          let alone : slice_range candidates i (i + 1) ≡ c.index-candidates-i.result ∷ [] = ap (λ k. take k (drop i candidates)) one ∙ row_alone candidates i l ∙ ap (λ (v : List Bool). v ∷ []) (sym x) in
          let extended : (rows : List (List Bool)) → IsReductionOf r.cols rows r → IsReductionOf r.cols (rows ++ c.index-candidates-i.result ∷ []) next =
          λ rows h. subst (λ (z : List (List Bool)). IsReductionOf r.cols (rows ++ z) next) alone (w.in_ok-extend.ensures.ok rows h) in
          let chosen : w.push.new.self.items ≡ c.loop-i.chosen.items ++ c.index-candidates-i.result ∷ [] = w.in_ok-push.ensures.items ∙ ap (λ (v : List Bool). c.loop-i.chosen.items ++ v ∷ []) w.in_ok-try_copy.ensures in
          rw (w.reduced-is, w.chosen-is)
          (IsChosenTo-keep n old candidates i c.loop-i.chosen.items w.push.new.self.items r next c.index-candidates-i.result c.loop-i.invariant c.requires.candidates l x outside chosen extended)
      | else-not-inside w ↦
          rw (w.reduced-is, w.chosen-is)
          (IsChosenTo-drop n old candidates i c.loop-i.chosen.items r c.index-candidates-i.result c.loop-i.invariant c.requires.candidates l x (decides.0 w.if-not-inside.false))
    ]

pub returns-clause-chosen : goal.returns-clause-chosen
returns-clause-chosen c =
    chosen_all c.args.matrix.now.cols c.args.matrix.now.rows c.args.candidates.now c.loop-i.i c.loop-i.chosen.items c.loop-i.reduced c.loop-i.invariant c.loop-i-test.false

pub returns-clause-kernel : goal.returns-clause-kernel
returns-clause-kernel c = c.loop-i.invariant.choosing.kernel

pub returns-clause-reduction : goal.returns-clause-reduction
returns-clause-reduction c = c.loop-i.invariant.reduction
