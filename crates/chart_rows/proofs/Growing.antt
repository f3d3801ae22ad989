-- Rows of a chart that grow by one square.
use Rattle.std.proofs.Common.{◌≡◌, ◌≢◌, ℕ, zero, suc, ◌+◌, ◌<◌, ◌≤◌, ◌≤ℤ◌, ℤ, pos, ◌+ℤ◌, Bool, List, [], ◌∷◌, ◌++◌, length, take, replicate, set, refl, ap, sym, subst, ◌∙◌, arith, inl, inr}
use Rattle.std.proofs.lemmas.Bool.{cases_lt, cases_eq}
use Rattle.std.proofs.lemmas.List.{map-append, take-append-le, get_or_append_left, get_or_push, get_or-set_same, get_or-set_other, length-set, length_push}
use Rattle.bidegree.specs.declared.range.TheConstants.{MAX_S, MAX_T}
use Rattle.f2_vec.specs.Spans.{HaveWidth}
use Rattle.free_module.specs.Graded.{free_graded}
use Rattle.resolution_laws.specs.Resolution.{Module, Content, no_content, degrees_from, row_of, square_in}
use Rattle.free_module.specs.FreeModule.{degree_at}
use Rattle.resolution_laws.proofs.Rows.{degrees_from-push, images_of-push, at_most-row}
use Rattle.resolution_images.specs.BareRows.{BareRow, no_bare_row, bare_row_in, contents_of, squares_of, IsBareRowOf}
use Rattle.resolution_images.specs.Made.{with_one_square}
use Rattle.resolution_images.proofs.Contents.{bare, contents_bare, length-cut, row_of-squares, length-row}
use Rattle.chart_file.specs.Parts.{Bare}
use Rattle.chart_rows.specs.Standing.{target_below, MayStand, AreCharted}
use Rattle.chart_rows.specs.Placing.{with_square}

-- what a square of a part is in a row
abbrev pub content_of : Bare → Content
content_of q = record { images = q.images; kernel = [] }

-- ---- one row

pub line_grown : (b : ℤ) (squares : List Content) (line : BareRow) (t : ℤ) (c : Content) → IsBareRowOf b squares line → t ≡ b +ℤ pos (length squares) → IsBareRowOf b (squares ++ c ∷ []) (with_one_square line t c.images)
line_grown b squares line t c h at = record {
  degrees = ap (λ (ds : List ℤ). ds ++ replicate (length c.images) t) h.degrees ∙ ap (λ (u : ℤ). degrees_from b squares ++ replicate (length c.images) u) at ∙ sym (degrees_from-push b squares c);
  images = ap (λ (xs : List (List Bool)). xs ++ c.images) h.images ∙ sym (images_of-push squares c);
  counts = ap (λ (ns : List ℕ). ns ++ length c.images ∷ []) h.counts ∙ sym (map-append (λ (x : Content). length x.images) squares (c ∷ []));
}

contents_grown : (b : ℤ) (line : BareRow) (t : ℤ) (q : Bare) → IsBareRowOf b (contents_of line) line → t ≡ b +ℤ pos (length (contents_of line)) → contents_of (with_one_square line t q.images) ≡ contents_of line ++ content_of q ∷ []
contents_grown b line t q h at =
    let squares = contents_of line in
    let c = content_of q in
    contents_bare b (squares ++ c ∷ []) (with_one_square line t q.images) (line_grown b squares line t c h at)
    ∙ map-append bare squares (c ∷ []) ∙ ap (λ (z : List Content). z ++ c ∷ []) (sym (contents_bare b squares line h))

-- ---- all rows

-- row s has one square more, and the others are as they are
pub record AreGrown (rows new : List BareRow) (s : ℕ) (q : Bare) : Type 0 where
  pub size : length new ≡ length rows
  pub here : row_of (squares_of new) s ≡ row_of (squares_of rows) s ++ content_of q ∷ []
  pub count : length (bare_row_in new s).counts ≡ length (bare_row_in rows s).counts + 1
  pub others : (i : ℕ) → i ≢ s → bare_row_in new i ≡ bare_row_in rows i

-- the squares of another row
pub others_of : (rows new : List BareRow) (s : ℕ) (q : Bare) → AreGrown rows new s q → (i : ℕ) → i ≢ s → row_of (squares_of new) i ≡ row_of (squares_of rows) i
others_of rows new s q g i apart = row_of-squares new i ∙ ap contents_of (g.others i apart) ∙ sym (row_of-squares rows i)

-- the first squares of any row
pub first_of_row : (rows new : List BareRow) (s : ℕ) (q : Bare) → AreGrown rows new s q → (i k : ℕ) → k ≤ length (bare_row_in rows i).counts → take k (row_of (squares_of new) i) ≡ take k (row_of (squares_of rows) i)
first_of_row rows new s q g i k l = elim (cases_eq i s) [
  | inl e ↦
      let at : take k (row_of (squares_of new) s) ≡ take k (row_of (squares_of rows) s) =
      ap (take k) g.here ∙ take-append-le k (row_of (squares_of rows) s) (content_of q ∷ []) (let same = ap (λ x. length (bare_row_in rows x).counts) e in omega (arith, length-row rows s)) in
      subst (λ x. take k (row_of (squares_of new) x) ≡ take k (row_of (squares_of rows) x)) (sym e) at
  | inr apart ↦ ap (take k) (others_of rows new s q g i apart)
]

pub target_grown : (m : Module) (rows new : List BareRow) (s : ℕ) (q : Bare) → AreGrown rows new s q → (i k : ℕ) → ((j : ℕ) → suc j ≡ i → k ≤ length (bare_row_in rows j).counts) → target_below m (squares_of new) i k ≡ target_below m (squares_of rows) i k
target_grown m rows new s q g zero k l = refl
target_grown m rows new s q g (suc j) k l = ap (λ (z : List Content). free_graded (degrees_from m.bottom z)) (first_of_row rows new s q g j k (l j refl))

module _ (m : Module) (rows : List BareRow) (s k : ℕ) (q : Bare) (h : AreCharted m rows) (low : s ≤ MAX_S) (degree : k ≤ MAX_T) (may : MayStand m rows s k q) where
  pub are_grown : AreGrown rows (with_square m s k q rows) s q
  are_grown =
      let line = bare_row_in rows s in
      let t = m.bottom +ℤ pos k in
      let within : s < length rows = omega (arith, h.count) in
      let put : bare_row_in (with_square m s k q rows) s ≡ with_one_square line t q.images = get_or-set_same rows s (with_one_square line t q.images) no_bare_row within in
      let own : IsBareRowOf m.bottom (contents_of line) line = subst (λ (z : List Content). IsBareRowOf m.bottom z line) (row_of-squares rows s) (h.each s low) in
      let at : t ≡ m.bottom +ℤ pos (length (contents_of line)) = ap (λ n. m.bottom +ℤ pos n) (sym (length-cut line.counts line.images ∙ may.next.0)) in
      record {
        size = length-set rows s (with_one_square line t q.images);
        here = row_of-squares (with_square m s k q rows) s ∙ ap contents_of put ∙ contents_grown m.bottom line t q own at ∙ ap (λ (z : List Content). z ++ content_of q ∷ []) (sym (row_of-squares rows s));
        count = ap (λ (x : BareRow). length x.counts) put ∙ length_push line.counts (length q.images);
        others = λ i apart. get_or-set_other rows s i (with_one_square line t q.images) no_bare_row apart;
      }

  pub charted_more : HaveWidth q.width q.images → AreCharted m (with_square m s k q rows)
  charted_more wide =
      let g = are_grown in
      let new = with_square m s k q rows in
      let line = bare_row_in rows s in
      let t = m.bottom +ℤ pos k in
      let within : s < length rows = omega (arith, h.count) in
      let put : bare_row_in new s ≡ with_one_square line t q.images = get_or-set_same rows s (with_one_square line t q.images) no_bare_row within in
      let own : IsBareRowOf m.bottom (contents_of line) line = subst (λ (z : List Content). IsBareRowOf m.bottom z line) (row_of-squares rows s) (h.each s low) in
      let at : t ≡ m.bottom +ℤ pos (length (contents_of line)) = ap (λ n. m.bottom +ℤ pos n) (sym (length-cut line.counts line.images ∙ may.next.0)) in
      record {
        count = g.size ∙ h.count;
        each = λ i l. elim (cases_eq i s) [
          | inl e ↦
              let grown : IsBareRowOf m.bottom (contents_of line ++ content_of q ∷ []) (with_one_square line t q.images) = line_grown m.bottom (contents_of line) line t (content_of q) own at in
              let squares : contents_of line ++ content_of q ∷ [] ≡ row_of (squares_of new) s = ap (λ (z : List Content). z ++ content_of q ∷ []) (sym (row_of-squares rows s)) ∙ sym g.here in
              subst (λ x. IsBareRowOf m.bottom (row_of (squares_of new) x) (bare_row_in new x)) (sym e)
              (subst (IsBareRowOf m.bottom (row_of (squares_of new) s)) (sym put) (subst (λ (z : List Content). IsBareRowOf m.bottom z (with_one_square line t q.images)) squares grown))
          | inr apart ↦
              subst (λ (z : List Content). IsBareRowOf m.bottom z (bare_row_in new i)) (sym (others_of rows new s q g i apart)) (subst (IsBareRowOf m.bottom (row_of (squares_of rows) i)) (sym (g.others i apart)) (h.each i l))
        ];
        few = λ i l. elim (cases_eq i s) [
          | inl e ↦ let same = ap (λ x. length (bare_row_in new x).counts) e in omega (arith, g.count, may.next.0)
          | inr apart ↦ let same = ap (λ (x : BareRow). length x.counts) (g.others i apart) in omega (arith, h.few i l)
        ];
        steps = λ i l. elim (cases_eq i s) [
          | inl e ↦
              let apart : i + 1 ≢ s = λ x. omega arith in
              let same = ap (λ (x : BareRow). length x.counts) (g.others (i + 1) apart) in
              let here = ap (λ x. length (bare_row_in new x).counts) e in
              let old = ap (λ x. length (bare_row_in rows x).counts) e in
              omega (arith, h.steps i l, g.count)
          | inr apart ↦ elim (cases_eq (i + 1) s) [
            | inl e ↦
                let same = ap (λ (x : BareRow). length x.counts) (g.others i apart) in
                let here = ap (λ x. length (bare_row_in new x).counts) e in
                let next : suc i ≡ s = omega arith in
                omega (arith, g.count, may.next.0, may.next.1 i next)
            | inr other ↦
                let same = ap (λ (x : BareRow). length x.counts) (g.others i apart) in
                let more = ap (λ (x : BareRow). length x.counts) (g.others (i + 1) other) in
                omega (arith, h.steps i l)
          ]
        ];
        widths = λ i j l b. elim (cases_eq i s) [
          | inl e ↦
              let same = ap (λ x. length (bare_row_in new x).counts) e in
              let at_s : HaveWidth ((target_below m (squares_of new) s j).width (m.bottom +ℤ pos j)) (square_in (row_of (squares_of new) s) j).images = width_here g wide j (omega (arith, g.count)) in
              subst (λ x. HaveWidth ((target_below m (squares_of new) x j).width (m.bottom +ℤ pos j)) (square_in (row_of (squares_of new) x) j).images) (sym e) at_s
          | inr apart ↦
              let same = ap (λ (x : BareRow). length x.counts) (g.others i apart) in
              let there : j < length (bare_row_in rows i).counts = omega arith in
              let below = target_grown m rows new s q g i j (λ x y. let step : length (bare_row_in rows i).counts ≤ length (bare_row_in rows x).counts + 1 = step_below x i y l in omega arith) in
              let images = ap (λ (z : List Content). (square_in z j).images) (others_of rows new s q g i apart) in
              subst (λ (z : List (List Bool)). HaveWidth ((target_below m (squares_of new) i j).width (m.bottom +ℤ pos j)) z) (sym images)
              (subst (λ y. HaveWidth (y.width (m.bottom +ℤ pos j)) (square_in (row_of (squares_of rows) i) j).images) (sym below) (h.widths i j l there))
        ];
      }
    where
      step_below : (x i : ℕ) → suc x ≡ i → i ≤ MAX_S → length (bare_row_in rows i).counts ≤ length (bare_row_in rows x).counts + 1
      step_below x i y l =
          let e : x + 1 ≡ i = omega arith in
          subst (λ z. length (bare_row_in rows z).counts ≤ length (bare_row_in rows x).counts + 1) e (h.steps x (omega arith))

      width_here : AreGrown rows (with_square m s k q rows) s q → HaveWidth q.width q.images → (j : ℕ) → j < length (bare_row_in rows s).counts + 1 → HaveWidth ((target_below m (squares_of (with_square m s k q rows)) s j).width (m.bottom +ℤ pos j)) (square_in (row_of (squares_of (with_square m s k q rows)) s) j).images
      width_here g wide j l =
          let new = with_square m s k q rows in
          let old = row_of (squares_of rows) s in
          let long : length old ≡ k = length-row rows s ∙ may.next.0 in
          let below = target_grown m rows new s q g s j (λ x y. let b = may.next.1 x y in omega (arith, may.next.0)) in
          elim (cases_lt j k) [
            | inl b ↦
                let images : (square_in (row_of (squares_of new) s) j).images ≡ (square_in old j).images =
                ap (λ (z : List Content). (square_in z j).images) g.here ∙ ap (λ (c : Content). c.images) (get_or_append_left old (content_of q ∷ []) no_content j (omega arith)) in
                subst (λ (z : List (List Bool)). HaveWidth ((target_below m (squares_of new) s j).width (m.bottom +ℤ pos j)) z) (sym images)
                (subst (λ y. HaveWidth (y.width (m.bottom +ℤ pos j)) (square_in old j).images) (sym below) (h.widths s j low (omega (arith, may.next.0))))
            | inr b ↦
                let at : j ≡ k = omega (arith, may.next.0) in
                let images : (square_in (row_of (squares_of new) s) j).images ≡ q.images =
                ap (λ (z : List Content). (square_in z j).images) g.here ∙ ap (λ (c : Content). c.images) (get_or_push old (content_of q) no_content j (long ∙ sym at)) in
                let size : (target_below m (squares_of new) s j).width (m.bottom +ℤ pos j) ≡ q.width =
                ap (λ y. y.width (m.bottom +ℤ pos j)) below ∙ ap (λ x. (target_below m (squares_of rows) s x).width (m.bottom +ℤ pos x)) at ∙ sym may.width in
                subst (λ (z : List (List Bool)). HaveWidth ((target_below m (squares_of new) s j).width (m.bottom +ℤ pos j)) z) (sym images)
                (subst (λ (n : ℕ). HaveWidth n q.images) (sym size) wide)
          ]

-- ---- in the words of the code

-- the row that the square is put behind
pub put_is : (m : Module) (rows : List BareRow) (s k : ℕ) (q : Bare) (line more : BareRow) (t : ℤ) (images : List (List Bool)) → line ≡ bare_row_in rows s → t ≡ m.bottom +ℤ pos k → images ≡ q.images → more ≡ with_one_square line t images → set rows s more ≡ with_square m s k q rows
put_is m rows s k q line more t images here at are put =
    ap (set rows s) (put ∙ ap (λ (x : BareRow). with_one_square x t images) here
    ∙ ap (λ (u : ℤ). with_one_square (bare_row_in rows s) u images) at
    ∙ ap (λ (xs : List (List Bool)). with_one_square (bare_row_in rows s) (m.bottom +ℤ pos k) xs) are)

-- it has no generator above the degree of the square
pub none_above : (m : Module) (rows : List BareRow) (s k : ℕ) (q : Bare) (line : BareRow) (t : ℤ) → AreCharted m rows → s ≤ MAX_S → MayStand m rows s k q → line ≡ bare_row_in rows s → t ≡ m.bottom +ℤ pos k → (g : ℕ) → g < length line.degrees → degree_at line.degrees g ≤ℤ t
none_above m rows s k q line t h low may here at =
    at_most-row m.bottom (row_of (squares_of rows) s) k line.degrees t at (ap (λ (x : BareRow). x.degrees) here ∙ (h.each s low).degrees) (length-row rows s ∙ may.next.0)
