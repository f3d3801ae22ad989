-- The choice of candidates one by one, with the reduction extended by each that is chosen.
use Rattle.std.proofs.Common.{◌≡◌, ℕ, zero, suc, ◌+◌, ◌<◌, ◌≤◌, Bool, List, [], ◌∷◌, ◌++◌, length, take, drop, refl, sym, ap, subst, ◌∙◌, arith}
use Rattle.std.proofs.lemmas.List.{append-nil, append_assoc, take_all}
use Rattle.f2_vec.specs.Spans.{row, HaveWidth, IsInSpan}
use Rattle.f2_vec.proofs.Spans.{HaveWidth-nil}
use Rattle.f2_matrix.specs.Echelon.{IsRowBasis, IsKernelBasis}
use Rattle.f2_matrix.specs.Reduction.{Rows, Reduction, IsReductionOf}
use Rattle.f2_matrix.specs.Choice.{IsChosen}
use Rattle.f2_matrix.proofs.Parts.{image_is_row_basis}
use Rattle.f2_matrix.proofs.Choice.{IsChoosing, IsChoosing-drop, IsChoosing-keep}
use Rattle.f2_choice.proofs.Step.{reduction_kernel}

reduction_image : (n : ℕ) (rows : List (List Bool)) (r : Reduction) → IsReductionOf n rows r → IsRowBasis n rows r.image
reduction_image n rows r h = subst (λ (z : List (List Bool)). IsRowBasis n rows z) (sym h.image) (image_is_row_basis n rows h.form h.widths h.is_form)

abbrev matrix_of : ℕ → List (List Bool) → Rows
matrix_of n rows = record { cols = n; rows = rows }

-- chosen are those of the first i candidates, and r is what the rows are reduced to with them
pub record IsChosenTo (n : ℕ) (old candidates : List (List Bool)) (i : ℕ) (chosen : List (List Bool)) (r : Reduction) : Type 0 where
  pub choosing : IsChoosing n old candidates i chosen (matrix_of n (old ++ chosen)) r
  pub reduction : IsReductionOf n (old ++ chosen) r

-- nothing is chosen of no candidate
pub chosen_none : (n : ℕ) (old candidates : List (List Bool)) (r : Reduction) → IsReductionOf n old r → IsChosenTo n old candidates 0 [] r
chosen_none n old candidates r h =
    let same : old ≡ old ++ [] = sym (append-nil old) in
    record {
      choosing = record {
        choice = record {
          is_chosen = record { kept = []; one_each = refl; dropped = λ i l. absurd (omega arith); chosen_are = refl };
          old_widths = h.widths;
          candidate_widths = HaveWidth-nil n;
          chosen_widths = HaveWidth-nil n;
          same_span = λ v. (λ s. s, λ s. s);
        };
        cols = refl;
        rows = refl;
        reduced_cols = h.cols;
        image = subst (λ (z : List (List Bool)). IsRowBasis n z r.image) same (reduction_image n old r h);
        kernel = subst (λ (z : List (List Bool)). IsKernelBasis n z r.kernel) same (reduction_kernel n old r h);
      };
      reduction = subst (λ (z : List (List Bool)). IsReductionOf n z r) same h;
    }

-- those of all candidates
pub chosen_all : (n : ℕ) (old candidates : List (List Bool)) (i : ℕ) (chosen : List (List Bool)) (r : Reduction) → IsChosenTo n old candidates i chosen r → length candidates ≤ i → IsChosen n old candidates chosen
chosen_all n old candidates i chosen r p l = subst (λ (z : List (List Bool)). IsChosen n old z chosen) (take_all i candidates l) p.choosing.choice.is_chosen

pub IsChosenTo-drop : (n : ℕ) (old candidates : List (List Bool)) (i : ℕ) (chosen : List (List Bool)) (r : Reduction) (x : List Bool) → IsChosenTo n old candidates i chosen r → HaveWidth n candidates → i < length candidates → x ≡ row candidates i → IsInSpan r.cols r.image x → IsChosenTo n old candidates (i + 1) chosen r
IsChosenTo-drop n old candidates i chosen r x p w l e s = record {
  choosing = IsChoosing-drop n old candidates i chosen (matrix_of n (old ++ chosen)) r x p.choosing w l e s;
  reduction = p.reduction;
}

pub IsChosenTo-keep : (n : ℕ) (old candidates : List (List Bool)) (i : ℕ) (chosen more : List (List Bool)) (r next : Reduction) (x : List Bool) → IsChosenTo n old candidates i chosen r → HaveWidth n candidates → i < length candidates → x ≡ row candidates i → (IsInSpan r.cols r.image x → ⊥) → more ≡ chosen ++ x ∷ [] → ((rows : List (List Bool)) → IsReductionOf r.cols rows r → IsReductionOf r.cols (rows ++ x ∷ []) next) → IsChosenTo n old candidates (i + 1) more next
IsChosenTo-keep n old candidates i chosen more r next x p w l e outside m extended =
    let cols = p.reduction.cols in
    let own : IsReductionOf r.cols (old ++ chosen) r = subst (λ k. IsReductionOf k (old ++ chosen) r) (sym cols) p.reduction in
    let rows : old ++ more ≡ (old ++ chosen) ++ x ∷ [] = ap (λ z. old ++ z) m ∙ sym (append_assoc old chosen (x ∷ [])) in
    let h : IsReductionOf n (old ++ more) next = subst (λ z. IsReductionOf n z next) (sym rows) (subst (λ k. IsReductionOf k ((old ++ chosen) ++ x ∷ []) next) cols (extended (old ++ chosen) own)) in
    record {
      choosing = IsChoosing-keep n old candidates i chosen more (matrix_of n (old ++ chosen)) (matrix_of n (old ++ more)) r next x p.choosing w l e outside refl rows h.cols (reduction_image n (old ++ more) next h) (reduction_kernel n (old ++ more) next h) m;
      reduction = h;
    }

-- one row of a list, as a list
pub row_alone : (rows : List (List Bool)) (i : ℕ) → i < length rows → take 1 (drop i rows) ≡ row rows i ∷ []
row_alone [] i l = absurd (omega arith)
row_alone (r ∷ rows) zero l = refl
row_alone (r ∷ rows) (suc i) l = row_alone rows i (omega arith)
