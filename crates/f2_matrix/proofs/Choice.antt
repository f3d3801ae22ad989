-- The choice of candidates, one candidate more at a time.
use Rattle.std.proofs.Common.{◌≡◌, ◌↔◌, ◌⊎◌, inl, inr, ℕ, ◌+◌, ◌<◌, Bool, true, false, if◌then◌else◌, List, [], ◌∷◌, ◌++◌, length, take, refl, sym, ◌∙◌, ap, subst, arith}
use Rattle.std.proofs.lemmas.List.{append-nil, append_assoc, get_or_append_left, get_or_push, length_push, take-append-le, take_at, take_more}
use Rattle.std.proofs.lemmas.Bool.{cases_lt, true≢false}
use Rattle.f2_vec.specs.Spans.{row, HaveWidth, IsInSpan, HaveSameSpan}
use Rattle.f2_vec.proofs.Spans.{HaveWidth-append, HaveWidth-cons, HaveWidth-nil, row-IsInSpan, span_within, HaveSameSpan_from_rows}
use Rattle.f2_vec.proofs.Ones.{items_where_true-push}
use Rattle.f2_matrix.specs.Echelon.{IsRowBasis, IsKernelBasis}
use Rattle.f2_matrix.specs.Reduction.{Rows, Reduction}
use Rattle.f2_matrix.specs.Choice.{IsChosen}

-- an index below the length of a list with one more item is below the list's length, or is that length
below_push : {X : Type 0} (xs : List X) (x : X) (i : ℕ) → i < length (xs ++ x ∷ []) → (i < length xs) ⊎ (i ≡ length xs)
below_push xs x i h =
    let e = length_push xs x in
    elim (cases_lt i (length xs)) [ inl l ↦ inl l | inr g ↦ inr (omega arith) ]

-- the row kept or not kept
abbrev kept_row : Bool → List Bool → List (List Bool)
kept_row b x = if b then x ∷ [] else []

pub HaveWidth-push : (n : ℕ) (rows : List (List Bool)) (x : List Bool) → HaveWidth n rows → length x ≡ n → HaveWidth n (rows ++ x ∷ [])
HaveWidth-push n rows x h e = HaveWidth-append n rows (x ∷ []) h (HaveWidth-cons n x [] e (HaveWidth-nil n))

-- a span is within the span of one row more
pub IsInSpan-push : (n : ℕ) (rows : List (List Bool)) (x v : List Bool) → HaveWidth n rows → length x ≡ n → IsInSpan n rows v → IsInSpan n (rows ++ x ∷ []) v
IsInSpan-push n rows x v h e s =
    let wide = HaveWidth-push n rows x h e in
    span_within n rows (rows ++ x ∷ []) wide (λ i l. subst (IsInSpan n (rows ++ x ∷ [])) (get_or_append_left rows (x ∷ []) [] i l) (row-IsInSpan n (rows ++ x ∷ []) i wide (omega (arith, length_push rows x)))) v s

pub last-IsInSpan : (n : ℕ) (rows : List (List Bool)) (x : List Bool) → HaveWidth n rows → length x ≡ n → IsInSpan n (rows ++ x ∷ []) x
last-IsInSpan n rows x h e = subst (IsInSpan n (rows ++ x ∷ [])) (get_or_push rows x [] (length rows) refl) (row-IsInSpan n (rows ++ x ∷ []) (length rows) (HaveWidth-push n rows x h e) (omega (arith, length_push rows x)))

-- what holds of each row and of one more holds of each row of the longer list
pub each_row_push : (P : List Bool → Type 0) (rows : List (List Bool)) (x : List Bool) → ((i : ℕ) → i < length rows → P (row rows i)) → P x → (i : ℕ) → i < length (rows ++ x ∷ []) → P (row (rows ++ x ∷ []) i)
each_row_push P rows x h p i l =
    elim (below_push rows x i l) [ inl b ↦ subst P (sym (get_or_append_left rows (x ∷ []) [] i b)) (h i b) | inr e ↦ subst P (sym (get_or_push rows x [] i (sym e))) p ]

-- two lists of one span have one span with the same row more
HaveSameSpan-push : (n : ℕ) (xs ys : List (List Bool)) (x : List Bool) → HaveWidth n xs → HaveWidth n ys → length x ≡ n → HaveSameSpan n xs ys → HaveSameSpan n (xs ++ x ∷ []) (ys ++ x ∷ [])
HaveSameSpan-push n xs ys x wx wy e h =
    HaveSameSpan_from_rows n _ _ (HaveWidth-push n xs x wx e) (HaveWidth-push n ys x wy e)
    (each_row_push (IsInSpan n (ys ++ x ∷ [])) xs x (λ i l. IsInSpan-push n ys x _ wy e ((h (row xs i)).0 (row-IsInSpan n xs i wx l))) (last-IsInSpan n ys x wy e))
    (each_row_push (IsInSpan n (xs ++ x ∷ [])) ys x (λ i l. IsInSpan-push n xs x _ wx e ((h (row ys i)).1 (row-IsInSpan n ys i wy l))) (last-IsInSpan n xs x wx e))

-- a row of the span of ys adds nothing to that of xs
HaveSameSpan-within : (n : ℕ) (xs ys : List (List Bool)) (x : List Bool) → HaveWidth n xs → HaveWidth n ys → length x ≡ n → HaveSameSpan n xs ys → IsInSpan n ys x → HaveSameSpan n (xs ++ x ∷ []) ys
HaveSameSpan-within n xs ys x wx wy e h s =
    HaveSameSpan_from_rows n _ _ (HaveWidth-push n xs x wx e) wy
    (each_row_push (IsInSpan n ys) xs x (λ i l. (h (row xs i)).0 (row-IsInSpan n xs i wx l)) s)
    (λ i l. IsInSpan-push n xs x _ wx e ((h (row ys i)).1 (row-IsInSpan n ys i wy l)))

-- a bit is 0 in the case that a row is in the span of others, also under other names of these
same_case : (n : ℕ) (old : List (List Bool)) (k l : Bool) (xs ys : List (List Bool)) (v w : List Bool) → k ≡ l → xs ≡ ys → v ≡ w → (k ≡ false) ↔ IsInSpan n (old ++ xs) v → (l ≡ false) ↔ IsInSpan n (old ++ ys) w
same_case n old k l xs ys v w e f g c =
    let P : List Bool → Type 0 = λ z. (k ≡ false) ↔ IsInSpan n (old ++ xs) z in
    let Q : List (List Bool) → Type 0 = λ z. (k ≡ false) ↔ IsInSpan n (old ++ z) w in
    let R : Bool → Type 0 = λ z. (z ≡ false) ↔ IsInSpan n (old ++ ys) w in
    subst R e (subst Q f (subst P g c))

-- the chosen of some candidates, and of one more
IsChosen-push : (n : ℕ) (old candidates chosen : List (List Bool)) (b : Bool) (x : List Bool) → IsChosen n old candidates chosen → (b ≡ false) ↔ IsInSpan n (old ++ candidates) x → IsChosen n old (candidates ++ x ∷ []) (chosen ++ kept_row b x)
IsChosen-push n old candidates chosen b x p h = record {
  kept = p.kept ++ b ∷ [];
  one_each = length_push p.kept b ∙ (ap (λ k. k + 1) p.one_each ∙ sym (length_push candidates x));
  dropped = λ i l. elim (below_push candidates x i l) [
    | inl m ↦ same_case n old _ _ _ _ _ _ (sym (get_or_append_left p.kept (b ∷ []) false i (omega (arith, p.one_each)))) (sym (take-append-le i candidates (x ∷ []) (omega arith))) (sym (get_or_append_left candidates (x ∷ []) [] i m)) (p.dropped i m)
    | inr e ↦ same_case n old _ _ _ _ _ _ (sym (get_or_push p.kept b false i (p.one_each ∙ sym e))) (sym (take_at candidates (x ∷ []) i (sym e))) (sym (get_or_push candidates x [] i (sym e))) h
  ];
  chosen_are = ap (λ (c : List (List Bool)). c ++ kept_row b x) p.chosen_are ∙ sym (items_where_true-push p.kept b candidates x p.one_each);
}

-- The choice so far: chosen are those of the candidates, and with old they have the span of old and all of these.
pub record IsChoice (n : ℕ) (old candidates chosen : List (List Bool)) : Type 0 where
  pub is_chosen : IsChosen n old candidates chosen
  pub old_widths : HaveWidth n old
  pub candidate_widths : HaveWidth n candidates
  pub chosen_widths : HaveWidth n chosen
  pub same_span : HaveSameSpan n (old ++ candidates) (old ++ chosen)

-- a candidate within the span is dropped
pub IsChoice-drop : (n : ℕ) (old candidates chosen : List (List Bool)) (x : List Bool) → IsChoice n old candidates chosen → length x ≡ n → IsInSpan n (old ++ chosen) x → IsChoice n old (candidates ++ x ∷ []) chosen
IsChoice-drop n old candidates chosen x p e s =
    let wx = HaveWidth-append n old candidates p.old_widths p.candidate_widths in
    let wy = HaveWidth-append n old chosen p.old_widths p.chosen_widths in
    let inside : IsInSpan n (old ++ candidates) x = (p.same_span x).1 s in
    let more = IsChosen-push n old candidates chosen false x p.is_chosen (λ _. inside, λ _. refl) in
    record {
      is_chosen = subst (IsChosen n old (candidates ++ x ∷ [])) (append-nil chosen) more;
      old_widths = p.old_widths;
      candidate_widths = HaveWidth-push n candidates x p.candidate_widths e;
      chosen_widths = p.chosen_widths;
      same_span = subst (λ (z : List (List Bool)). HaveSameSpan n z (old ++ chosen)) (append_assoc old candidates (x ∷ [])) (HaveSameSpan-within n (old ++ candidates) (old ++ chosen) x wx wy e p.same_span s);
    }

-- a candidate outside the span is kept
pub IsChoice-keep : (n : ℕ) (old candidates chosen : List (List Bool)) (x : List Bool) → IsChoice n old candidates chosen → length x ≡ n → (IsInSpan n (old ++ chosen) x → ⊥) → IsChoice n old (candidates ++ x ∷ []) (chosen ++ x ∷ [])
IsChoice-keep n old candidates chosen x p e outside =
    let wx = HaveWidth-append n old candidates p.old_widths p.candidate_widths in
    let wy = HaveWidth-append n old chosen p.old_widths p.chosen_widths in
    let wider : HaveSameSpan n ((old ++ candidates) ++ x ∷ []) ((old ++ chosen) ++ x ∷ []) = HaveSameSpan-push n _ _ x wx wy e p.same_span in
    record {
      is_chosen = IsChosen-push n old candidates chosen true x p.is_chosen (λ h. absurd (true≢false h), λ s. absurd (outside ((p.same_span x).0 s)));
      old_widths = p.old_widths;
      candidate_widths = HaveWidth-push n candidates x p.candidate_widths e;
      chosen_widths = HaveWidth-push n chosen x p.chosen_widths e;
      same_span = rw (← append_assoc old candidates (x ∷ []), ← append_assoc old chosen (x ∷ [])) wider;
    }

-- the choice among the first i candidates, and among one more
pub IsChoice-drop_at : (n : ℕ) (old candidates chosen : List (List Bool)) (i : ℕ) → HaveWidth n candidates → i < length candidates → IsChoice n old (take i candidates) chosen → IsInSpan n (old ++ chosen) (row candidates i) → IsChoice n old (take (i + 1) candidates) chosen
IsChoice-drop_at n old candidates chosen i w l p s =
    subst (λ (z : List (List Bool)). IsChoice n old z chosen) (sym (take_more candidates i [] l)) (IsChoice-drop n old (take i candidates) chosen (row candidates i) p (w i l) s)

pub IsChoice-keep_at : (n : ℕ) (old candidates chosen : List (List Bool)) (i : ℕ) → HaveWidth n candidates → i < length candidates → IsChoice n old (take i candidates) chosen → (IsInSpan n (old ++ chosen) (row candidates i) → ⊥) → IsChoice n old (take (i + 1) candidates) (chosen ++ row candidates i ∷ [])
IsChoice-keep_at n old candidates chosen i w l p s =
    subst (λ (z : List (List Bool)). IsChoice n old z (chosen ++ row candidates i ∷ [])) (sym (take_more candidates i [] l)) (IsChoice-keep n old (take i candidates) chosen (row candidates i) p (w i l) s)

-- The choice among the first i candidates, with the matrix of old and chosen and what it is reduced to.
pub record IsChoosing (n : ℕ) (old candidates : List (List Bool)) (i : ℕ) (chosen : List (List Bool)) (matrix : Rows) (reduced : Reduction) : Type 0 where
  pub choice : IsChoice n old (take i candidates) chosen
  pub cols : matrix.cols ≡ n
  pub rows : matrix.rows ≡ old ++ chosen
  pub reduced_cols : reduced.cols ≡ matrix.cols
  pub image : IsRowBasis matrix.cols matrix.rows reduced.image
  pub kernel : IsKernelBasis matrix.cols matrix.rows reduced.kernel

-- the span of old and chosen is that of the reduction's image
IsInSpan-IsChoosing : (n : ℕ) (old candidates : List (List Bool)) (i : ℕ) (chosen : List (List Bool)) (matrix : Rows) (reduced : Reduction) → IsChoosing n old candidates i chosen matrix reduced → (x : List Bool) → IsInSpan n (old ++ chosen) x ↔ IsInSpan reduced.cols reduced.image x
IsInSpan-IsChoosing n old candidates i chosen matrix reduced p x =
    let h = p.image.same_span x in
    let P : ℕ → Type 0 = λ k. IsInSpan k (old ++ chosen) x ↔ IsInSpan k reduced.image x in
    let Q : List (List Bool) → Type 0 = λ z. IsInSpan matrix.cols z x ↔ IsInSpan matrix.cols reduced.image x in
    let R : ℕ → Type 0 = λ k. IsInSpan n (old ++ chosen) x ↔ IsInSpan k reduced.image x in
    subst R (sym (p.reduced_cols ∙ p.cols)) (subst P p.cols (subst Q p.rows h))

pub IsChoosing-drop : (n : ℕ) (old candidates : List (List Bool)) (i : ℕ) (chosen : List (List Bool)) (matrix : Rows) (reduced : Reduction) (x : List Bool) → IsChoosing n old candidates i chosen matrix reduced → HaveWidth n candidates → i < length candidates → x ≡ row candidates i → IsInSpan reduced.cols reduced.image x → IsChoosing n old candidates (i + 1) chosen matrix reduced
IsChoosing-drop n old candidates i chosen matrix reduced x p w l e s = record {
  choice = IsChoice-drop_at n old candidates chosen i w l p.choice (subst (IsInSpan n (old ++ chosen)) e ((IsInSpan-IsChoosing n old candidates i chosen matrix reduced p x).1 s));
  cols = p.cols;
  rows = p.rows;
  reduced_cols = p.reduced_cols;
  image = p.image;
  kernel = p.kernel;
}

pub IsChoosing-keep : (n : ℕ) (old candidates : List (List Bool)) (i : ℕ) (chosen more : List (List Bool)) (matrix wider : Rows) (reduced next : Reduction) (x : List Bool) → IsChoosing n old candidates i chosen matrix reduced → HaveWidth n candidates → i < length candidates → x ≡ row candidates i → (IsInSpan reduced.cols reduced.image x → ⊥) → wider.cols ≡ matrix.cols → wider.rows ≡ matrix.rows ++ x ∷ [] → next.cols ≡ wider.cols → IsRowBasis wider.cols wider.rows next.image → IsKernelBasis wider.cols wider.rows next.kernel → more ≡ chosen ++ x ∷ [] → IsChoosing n old candidates (i + 1) more wider next
IsChoosing-keep n old candidates i chosen more matrix wider reduced next x p w l e outside cols rows next_cols image kernel m =
    let m_row : more ≡ chosen ++ row candidates i ∷ [] = m ∙ ap (λ (z : List Bool). chosen ++ z ∷ []) e in
    let apart : IsInSpan n (old ++ chosen) (row candidates i) → ⊥ = λ s. outside ((IsInSpan-IsChoosing n old candidates i chosen matrix reduced p x).0 (subst (IsInSpan n (old ++ chosen)) (sym e) s)) in
    record {
      choice = subst (IsChoice n old (take (i + 1) candidates)) (sym m_row) (IsChoice-keep_at n old candidates chosen i w l p.choice apart);
      cols = cols ∙ p.cols;
      rows = rows ∙ (ap (λ (z : List (List Bool)). z ++ x ∷ []) p.rows ∙ (append_assoc old chosen (x ∷ []) ∙ ap (λ (z : List (List Bool)). old ++ z) (sym m)));
      reduced_cols = next_cols;
      image = image;
      kernel = kernel;
    }
