-- The choice among candidates, one after another, and the step.
use Rattle.std.proofs.Common.{inl, inr, ℕ, zero, suc, ◌+◌, ◌<◌, ◌≤◌, pos, ◌+ℤ◌, Bool, List, [], ◌∷◌, ◌++◌, length, take, replicate, Option, Some, None, refl, subst, arith, add-one}
use Rattle.std.proofs.lemmas.List.{take_all}
use Rattle.f2_vec.specs.Spans.{row, HaveWidth}
use Rattle.f2_vec.proofs.Spans.{HaveWidth-append, HaveWidth-nil}
use Rattle.free_module.specs.Inside.FreeLaws.{free_KeepsWidths}
use Rattle.free_module.specs.Graded.{KeepsWidths}
use Rattle.free_module.specs.LinearMap.{map_rows}
use Rattle.free_module.proofs.MapRows.{HaveWidth-map_rows}
use Rattle.resolution_laws.specs.Resolution.{Module, Content, degrees_from, images_of, target_over, candidates_over, IsChosen, IsStepOver}
use Rattle.f2_matrix.proofs.Choice.{IsChoice, IsChoice-drop_at, IsChoice-keep_at}
use Rattle.resolution_laws.proofs.NewGenerators.{HaveWidth-IsChosen}
use Rattle.resolution_laws.proofs.Rows.{AreImages-more}
use Rattle.resolution_existence.specs.Existence.{ChoiceExists, StepExists}
use Rattle.f2_matrix.proofs.Eliminate.{has_kernel_basis, in_span_or_not}

-- the choice among the first candidates
record IsSomeChoice (n : ℕ) (old candidates : List (List Bool)) : Type 0 where
  chosen : List (List Bool)
  choice : IsChoice n old candidates chosen

none_yet : (n : ℕ) (old : List (List Bool)) → HaveWidth n old → IsSomeChoice n old []
none_yet n old w = record {
  chosen = [];
  choice = record {
    is_chosen = record { kept = []; one_each = refl; dropped = λ i l. absurd (omega arith); chosen_are = refl };
    old_widths = w;
    candidate_widths = HaveWidth-nil n;
    chosen_widths = HaveWidth-nil n;
    same_span = λ v. (λ s. s, λ s. s);
  };
}

one_candidate_more : (n : ℕ) (old candidates : List (List Bool)) (i : ℕ) → HaveWidth n candidates → i < length candidates → IsSomeChoice n old (take i candidates) → IsSomeChoice n old (take (i + 1) candidates)
one_candidate_more n old candidates i w l p =
    elim (in_span_or_not n (old ++ p.chosen) (row candidates i) (HaveWidth-append n old p.chosen p.choice.old_widths p.choice.chosen_widths)) [
      | inl inside ↦ record { chosen = p.chosen; choice = IsChoice-drop_at n old candidates p.chosen i w l p.choice inside }
      | inr outside ↦ record { chosen = p.chosen ++ row candidates i ∷ []; choice = IsChoice-keep_at n old candidates p.chosen i w l p.choice outside }
    ]

chosen_among : (n : ℕ) (old candidates : List (List Bool)) → HaveWidth n old → HaveWidth n candidates → (i : ℕ) → i ≤ length candidates → IsSomeChoice n old (take i candidates)
chosen_among n old candidates v w zero h = none_yet n old v
chosen_among n old candidates v w (suc i) h =
    subst (λ (k : ℕ). IsSomeChoice n old (take k candidates)) (add-one i) (one_candidate_more n old candidates i w (omega arith) (chosen_among n old candidates v w i (omega arith)))

pub has_choice : ChoiceExists
has_choice n old candidates v w =
    let p = chosen_among n old candidates v w (length candidates) (omega arith) in
    (p.chosen, subst (λ (z : List (List Bool)). IsChosen n old z p.chosen) (take_all (length candidates) candidates (omega arith)) p.choice.is_chosen)

-- ---- the step

pub target_keeps : (m : Module) (below : Option (List Content)) → KeepsWidths m.graded → KeepsWidths (target_over m below)
target_keeps m None keeps = keeps
target_keeps m (Some below) keeps = free_KeepsWidths (degrees_from m.bottom below)

pub has_step : StepExists
has_step m below squares p =
    let target = target_over m below in
    let t = m.bottom +ℤ pos (length squares) in
    let n = target.width t in
    let ds = degrees_from m.bottom squares in
    let images = images_of squares in
    let candidates = candidates_over m below (length squares) in
    let keeps = target_keeps m below p.keeps in
    let new = has_choice n (map_rows target ds images t) candidates (HaveWidth-map_rows target ds images t keeps p.images) p.candidates in
    let wide = HaveWidth-IsChosen n _ candidates new.0 p.candidates new.1 in
    let all = AreImages-more target ds images new.0 t p.images wide in
    let kernel = has_kernel_basis n _ (HaveWidth-map_rows target (ds ++ replicate (length new.0) t) (images ++ new.0) t keeps all) in
    let content : Content = record { images = new.0; kernel = kernel.0 } in
    let step : IsStepOver target ds images candidates t content = record { chosen = new.1; kernel = kernel.1 } in
    (content, step)
