-- Stocks of images: what lies there at the opening, what a place is made from, and what a place more does.
use Rattle.std.proofs.Common.{◌≡◌, ◌≢◌, ◌⊎◌, ℕ, suc, ◌+◌, ◌-◌, ◌<◌, ◌≤◌, ◌≤ℤ◌, ℤ, pos, ◌+ℤ◌, Bool, nat_lt, List, [], ◌∷◌, length, take, replicate, get_or, set, Option, refl, ap, sym, subst, ◌∙◌, arith, inl, inr}
use Rattle.std.proofs.lemmas.Bool.{cases_lt, cases_eq}
use Rattle.std.proofs.lemmas.List.{get_or_default, get_or_past, get_or-replicate, get_or-set_same, get_or-set_other, get_or-map, get_or-take, length-append, length-replicate, length-set, length-take-le, take-take, take_all}
use Rattle.f2_matrix.specs.Reduction.{Rows}
use Rattle.resolution_laws.specs.Resolution.{Module, Content, no_content, square_in, degrees_from}
use Rattle.resolution_laws.proofs.Rows.{at_most-row}
use Rattle.free_module.specs.FreeModule.{degree_at}
use Rattle.stem_laws.specs.Stems.{in_stems, RowsInStemsAreWhole}
use Rattle.resolution_images.specs.declared.resolve.Extent.{Extent}
use Rattle.resolution_images.specs.BareRows.{BareRow, no_bare_row, bare_row_in, IsBareRowOf}
use Rattle.resolution_images.specs.Made.{IsTableOf, IsMadeThrough, IsSquareInStems, IsToCover, with_one_square}
use Rattle.resolution_images.proofs.Making.{line_more}
use Rattle.image_worker.specs.Stocks.{one_if, squares_done, front_in, HasKernel}
use Rattle.image_worker.specs.Inside.Kept.{AreKept}
use Rattle.image_worker.proofs.Fronts.{IsPut, put_falls, wanted_here, wanted_lower, wanted_upper, started_below, started_from}

-- ---- fronts

pub front_short : (m : Module) (e : Extent) (t : ℕ) (rows : List BareRow) (starts : ℕ) (slot : ℕ → Option Rows) → AreKept m e t rows starts slot → (i : ℕ) → i ≤ e.last → front_in rows starts i ≤ e.n + i + 2
front_short m e t rows starts slot h i l = elim (cases_lt i starts) [
  | inl b ↦ omega (arith, started_below starts i b, h.whole i b)
  | inr b ↦ omega (arith, started_from starts i b, h.short i l)
]

-- past the last row there is nothing
pub front_past : (m : Module) (e : Extent) (t : ℕ) (rows : List BareRow) (starts : ℕ) (slot : ℕ → Option Rows) → AreKept m e t rows starts slot → (i : ℕ) → e.last < i → front_in rows starts i ≡ 0
front_past m e t rows starts slot h i l =
    let none : squares_done rows i ≡ 0 = ap (λ (x : BareRow). length x.counts) (get_or_past rows i no_bare_row (omega (arith, h.count))) in
    omega (arith, started_from starts i (omega (arith, h.few)), none)

-- a row with a place that is done is one of the rows
pub row_there : (m : Module) (e : Extent) (t : ℕ) (rows : List BareRow) (starts : ℕ) (slot : ℕ → Option Rows) → AreKept m e t rows starts slot → (s k : ℕ) → k < front_in rows starts s → s ≤ e.last
row_there m e t rows starts slot h s k l = elim (cases_lt e.last s) [
  | inl past ↦ absurd (omega (arith, front_past m e t rows starts slot h s past))
  | inr within ↦ within
]

-- what the next place of a row has to cover lies at its degree
pub slot_at : (m : Module) (e : Extent) (t : ℕ) (rows : List BareRow) (starts : ℕ) (slot : ℕ → Option Rows) → AreKept m e t rows starts slot → (s k : ℕ) → s ≤ e.last → 0 < s → front_in rows starts s ≡ k → ((i : ℕ) → suc i ≡ s → k < front_in rows starts i) → HasKernel (slot k) (IsToCover m e s k)
slot_at m e t rows starts slot h s k row_is some front below =
    let under = s - 1 in
    let same : suc under ≡ s = omega (arith, some) in
    let above : front_in rows starts (suc under) ≤ k = subst (λ j. front_in rows starts j ≤ k) (sym same) (omega (arith, front)) in
    subst (λ j. HasKernel (slot k) (IsToCover m e j k)) same (h.slots under k (omega (arith, row_is, some)) (below under same) above)

-- a row whose next place is a square, or the one behind its squares
pub squares_before : (m : Module) (e : Extent) (t : ℕ) (rows : List BareRow) (starts : ℕ) (slot : ℕ → Option Rows) → AreKept m e t rows starts slot → (s k : ℕ) → front_in rows starts s ≡ k → k ≤ e.n + s + 1 → (squares_done rows s ≡ k) × (starts ≤ s)
squares_before m e t rows starts slot h s k front stem = elim (cases_lt s starts) [
  | inl b ↦ absurd (omega (arith, started_below starts s b, h.whole s b, front))
  | inr b ↦ (omega (arith, started_from starts s b, front), b)
]

-- ---- the opening

module _ (m : Module) (e : Extent) (t : ℕ) (rows : List BareRow) (slot : ℕ → Option Rows) (is : rows ≡ replicate (e.last + 1) no_bare_row) where
  none : (i : ℕ) → i ≤ e.last → bare_row_in rows i ≡ no_bare_row
  none i l = ap (λ z. bare_row_in z i) is ∙ get_or-replicate (e.last + 1) i no_bare_row no_bare_row (omega arith)

  none_done : (i : ℕ) → i ≤ e.last → squares_done rows i ≡ 0
  none_done i l = ap (λ (x : BareRow). length x.counts) (none i l)

  no_front : (i : ℕ) → i ≤ e.last → front_in rows 0 i ≡ 0
  no_front i l = omega (arith, none_done i l, started_from 0 i (omega arith))

  pub opened : AreKept m e t rows 0 slot
  opened = record {
    count = ap length is ∙ length-replicate (e.last + 1) no_bare_row;
    made = λ i l.
        subst (λ j. IsMadeThrough m e i j (bare_row_in rows i)) (sym (none_done i l))
        (subst (IsMadeThrough m e i 0) (sym (none i l)) (λ table canonical. record { degrees = refl; images = refl; counts = refl }));
    short = λ i l. omega (arith, none_done i l);
    within = λ i l. omega (arith, no_front i l);
    whole = λ i l. absurd (omega arith);
    few = omega arith;
    falls = λ i k l b c. absurd (omega (arith, no_front (suc i) (omega arith)));
    slots = λ i k l b c. absurd (omega (arith, no_front i (omega arith)));
  }

-- ---- what a place is made from

-- the first squares of a row that is made further
pub first_squares : RowsInStemsAreWhole → (m : Module) (e : Extent) (i far j : ℕ) (line : BareRow) (degrees : List ℤ) → i ≤ e.last → (j ≤ far) ⊎ (far ≡ e.n + i + 1) → IsMadeThrough m e i far line → ((squares : List Content) → IsBareRowOf m.bottom squares line → degrees ≡ degrees_from m.bottom (take j squares)) → (table : List (List Content)) → IsTableOf m e table → degrees ≡ degrees_from m.bottom (take j (in_stems m e.n table i))
first_squares whole m e i far j line degrees row_is enough made is table canonical =
    let all = in_stems m e.n table i in
    let len = whole m e.last e.n table canonical i row_is in
    is (take far all) (made table canonical) ∙ ap (degrees_from m.bottom) (same all len)
  where
    same : (all : List Content) → length all ≡ e.n + i + 1 → take j (take far all) ≡ take j all
    same all len = elim enough [
      | inl l ↦ ap (take j) refl ∙ first_of all l
      | inr l ↦ ap (take j) (take_all far all (omega (arith, len, l)))
    ]
      where
        first_of : (all : List Content) → j ≤ far → take j (take far all) ≡ take j all
        first_of all l = take-take j far all l

-- under a place there is enough of the row below
pub under_enough : (m : Module) (e : Extent) (t : ℕ) (rows : List BareRow) (starts : ℕ) (slot : ℕ → Option Rows) → AreKept m e t rows starts slot → (i k : ℕ) → suc i ≤ e.last → front_in rows starts (suc i) ≡ k → k ≤ e.n + suc i + 1 → (k ≤ e.n + suc i → k < front_in rows starts i) → (suc k ≤ squares_done rows i) ⊎ (squares_done rows i ≡ e.n + i + 1)
under_enough m e t rows starts slot h i k l front stem below = elim (cases_lt i starts) [
  | inl b ↦ inr (h.whole i b)
  | inr b ↦
      let zero_is = started_from starts i b in
      elim (cases_lt (e.n + suc i) k) [
        | inl past ↦ absurd (let far : e.n + suc i < front_in rows starts i = h.falls i (e.n + suc i) l (omega arith) (omega (arith, front)) in omega (arith, zero_is, h.short i (omega arith)))
        | inr within ↦ inl (let far : k < front_in rows starts i = below within in omega (arith, zero_is))
      ]
]

-- ---- one place more

module _ (m : Module) (e : Extent) (t : ℕ) (rows : List BareRow) (starts : ℕ) (slot : ℕ → Option Rows) (h : AreKept m e t rows starts slot) (s k : ℕ) (row_is : s ≤ e.last) (degree_is : k ≤ t) (kernel : Option Rows) (covers : s < e.last → HasKernel kernel (IsToCover m e (suc s) k)) (new : ℕ → Option Rows) (here : new k ≡ kernel) (elsewhere : (j : ℕ) → j ≢ k → new j ≡ slot j) where
  slots_put : (g : ℕ → ℕ) → IsPut e.n s k (front_in rows starts) g → (i j : ℕ) → i < e.last → j < g i → g (suc i) ≤ j → HasKernel (new j) (IsToCover m e (suc i) j)
  slots_put g p i j l a b = elim (cases_eq j k) [
    | inl e' ↦
        let at : i ≡ s = wanted_here e.last e.n s k (front_in rows starts) g h.falls p row_is (front_short m e t rows starts slot h) i l (subst (λ x. x < g i) e' a) (subst (λ x. g (suc i) ≤ x) e' b) in
        let kept : HasKernel (new k) (IsToCover m e (suc s) k) = subst (λ o. HasKernel o (IsToCover m e (suc s) k)) (sym here) (covers (subst (λ x. x < e.last) at l)) in
        subst (λ x. HasKernel (new x) (IsToCover m e (suc i) x)) (sym e') (subst (λ x. HasKernel (new k) (IsToCover m e (suc x) k)) (sym at) kept)
    | inr apart ↦
        subst (λ o. HasKernel o (IsToCover m e (suc i) j)) (sym (elsewhere j apart))
        (h.slots i j l (wanted_lower e.last e.n s k (front_in rows starts) g h.falls p i j apart a) (wanted_upper e.last e.n s k (front_in rows starts) g h.falls p (suc i) j b))
  ]

  within_put : (g : ℕ → ℕ) → IsPut e.n s k (front_in rows starts) g → (i : ℕ) → i ≤ e.last → g i ≤ t + 1
  within_put g p i l = elim (cases_eq i s) [
    | inl e' ↦ omega (arith, ap g e', p.more)
    | inr apart ↦ omega (arith, p.others i apart, h.within i l)
  ]

  -- a square more of row s
  pub kept_square : RowsInStemsAreWhole → (d more : BareRow) (content : Content) (u : ℤ) → front_in rows starts s ≡ k → k ≤ e.n + s → ((i : ℕ) → suc i ≡ s → k ≤ e.n + s → k < front_in rows starts i) → IsSquareInStems m e s k content → u ≡ m.bottom +ℤ pos k → more ≡ with_one_square (get_or rows s d) u content.images → AreKept m e t (set rows s more) starts new × IsPut e.n s k (front_in rows starts) (front_in (set rows s more) starts)
  kept_square whole d more content u front stem below square at is =
      let l : s < length rows = omega (arith, h.count) in
      let before = squares_before m e t rows starts slot h s k front (omega arith) in
      let old : get_or rows s d ≡ bare_row_in rows s = get_or_default rows s d no_bare_row l in
      let there : IsMadeThrough m e s k (get_or rows s d) = subst (IsMadeThrough m e s k) (sym old) (subst (λ j. IsMadeThrough m e s j (bare_row_in rows s)) before.0 (h.made s row_is)) in
      let made : IsMadeThrough m e s (suc k) more = line_more whole m e s k (get_or rows s d) more content u row_is stem there square at is in
      let put : bare_row_in (set rows s more) s ≡ more = get_or-set_same rows s more no_bare_row l in
      let counts : length more.counts ≡ suc k =
      ap (λ (x : BareRow). length x.counts) is ∙ length-append (get_or rows s d).counts (length content.images ∷ [])
      ∙ (let e1 : length (get_or rows s d).counts ≡ k = ap (λ (x : BareRow). length x.counts) old ∙ before.0 in let e2 : length (get_or rows s d).counts + 1 ≡ suc k = omega arith in e2) in
      let squares : squares_done (set rows s more) s ≡ suc k = ap (λ (x : BareRow). length x.counts) put ∙ counts in
      let g = front_in (set rows s more) starts in
      let p : IsPut e.n s k (front_in rows starts) g = record {
        front = front;
        more = omega (arith, squares, started_from starts s before.1);
        others = λ i apart. ap (λ (x : BareRow). length x.counts + one_if (nat_lt i starts)) (get_or-set_other rows s i more no_bare_row apart);
        stem = omega arith;
        below = below;
      } in
      let same : (i : ℕ) → i ≢ s → bare_row_in (set rows s more) i ≡ bare_row_in rows i = λ i apart. get_or-set_other rows s i more no_bare_row apart in (
        record {
          count = length-set rows s more ∙ h.count;
          made = λ i b. elim (cases_eq i s) [
            | inl e' ↦
                subst (λ x. IsMadeThrough m e x (squares_done (set rows s more) x) (bare_row_in (set rows s more) x)) (sym e')
                (subst (λ j. IsMadeThrough m e s j (bare_row_in (set rows s more) s)) (sym squares) (subst (IsMadeThrough m e s (suc k)) (sym put) made))
            | inr apart ↦ subst (λ (x : BareRow). IsMadeThrough m e i (length x.counts) x) (sym (same i apart)) (h.made i b)
          ];
          short = λ i b. elim (cases_eq i s) [
            | inl e' ↦ omega (arith, ap (squares_done (set rows s more)) e', squares)
            | inr apart ↦ omega (arith, ap (λ (x : BareRow). length x.counts) (same i apart), h.short i b)
          ];
          within = within_put g p;
          whole = λ i b. elim (cases_eq i s) [
            | inl e' ↦ absurd (omega (arith, before.1))
            | inr apart ↦ ap (λ (x : BareRow). length x.counts) (same i apart) ∙ h.whole i b
          ];
          few = h.few;
          falls = put_falls e.last e.n s k (front_in rows starts) g h.falls p;
          slots = slots_put g p;
        },
        p,
      )

  -- the place behind the last square of row s
  pub kept_start : front_in rows starts s ≡ k → k ≡ e.n + s + 1 → s < e.last → AreKept m e t rows (suc starts) new × IsPut e.n s k (front_in rows starts) (front_in rows (suc starts))
  kept_start front stem inner =
      let before = squares_before m e t rows starts slot h s k front (omega arith) in
      let at : starts ≡ s = start_is before.1 in
      let g = front_in rows (suc starts) in
      let p : IsPut e.n s k (front_in rows starts) g = record {
        front = front;
        more = omega (arith, before.0, started_below (suc starts) s (omega arith));
        others = λ i apart. elim (cases_lt i starts) [
          | inl b ↦ omega (arith, started_below (suc starts) i (omega arith), started_below starts i b)
          | inr b ↦ omega (arith, started_from (suc starts) i (omega arith), started_from starts i b)
        ];
        stem = omega arith;
        below = λ i e' b. absurd (omega arith);
      } in (
        record {
          count = h.count;
          made = h.made;
          short = h.short;
          within = within_put g p;
          whole = λ i b. elim (cases_eq i s) [
            | inl e' ↦ ap (squares_done rows) e' ∙ before.0 ∙ stem ∙ ap (λ x. e.n + x + 1) (sym e')
            | inr apart ↦ h.whole i (omega arith)
          ];
          few = omega arith;
          falls = put_falls e.last e.n s k (front_in rows starts) g h.falls p;
          slots = slots_put g p;
        },
        p,
      )
    where
      -- the rows below have theirs
      start_is : starts ≤ s → starts ≡ s
      start_is few = elim (cases_lt starts s) [
        | inl b ↦
            let i = s - 1 in
            let next : suc i ≡ s = omega arith in
            let far : e.n + s < front_in rows starts (suc i) = omega (arith, ap (front_in rows starts) next, front, stem) in
            let low : e.n + s < front_in rows starts i = h.falls i (e.n + s) (omega arith) (omega arith) far in
            absurd (omega (arith, h.short i (omega arith), started_from starts i (omega arith)))
        | inr b ↦ omega arith
      ]

-- ---- how many generators

module _ (whole : RowsInStemsAreWhole) (m : Module) (e : Extent) (t : ℕ) (rows : List BareRow) (starts : ℕ) (slot : ℕ → Option Rows) (h : AreKept m e t rows starts slot) (s k : ℕ) (table : List (List Content)) (canonical : IsTableOf m e table) (row_is : s ≤ e.last) where
  pub count_at : k < squares_done rows s → get_or (bare_row_in rows s).counts k 0 ≡ length (square_in (in_stems m e.n table s) k).images
  count_at l =
      let all = in_stems m e.n table s in
      let far = squares_done rows s in
      let len = whole m e.last e.n table canonical s row_is in
      let is = h.made s row_is table canonical in
      let size : length (take far all) ≡ far = length-take-le far all (omega (arith, len, h.short s row_is)) in
      ap (λ (ns : List ℕ). get_or ns k 0) is.counts ∙ get_or-map (λ (c : Content). length c.images) (take far all) k no_content 0 (omega (arith, size)) ∙ ap (λ (c : Content). length c.images) (get_or-take far all k no_content l)

  pub count_past : squares_done rows s ≤ k → k < front_in rows starts s → 0 ≡ length (square_in (in_stems m e.n table s) k).images
  count_past l b =
      let all = in_stems m e.n table s in
      let len = whole m e.last e.n table canonical s row_is in
      elim (cases_lt s starts) [
        | inl c ↦ sym (ap (λ (x : Content). length x.images) (get_or_past all k no_content (omega (arith, len, h.whole s c))))
        | inr c ↦ absurd (omega (arith, started_from starts s c))
      ]

-- no generator of a row is of a degree past that of its next place
pub row_below : RowsInStemsAreWhole → (m : Module) (e : Extent) (t : ℕ) (rows : List BareRow) (starts : ℕ) (slot : ℕ → Option Rows) → AreKept m e t rows starts slot → (s k : ℕ) → s ≤ e.last → front_in rows starts s ≡ k → k ≤ e.n + s + 1 → (line : BareRow) → line ≡ get_or rows s line → (u : ℤ) → u ≡ m.bottom +ℤ pos k → (table : List (List Content)) → IsTableOf m e table → (g : ℕ) → g < length line.degrees → degree_at line.degrees g ≤ℤ u
row_below whole m e t rows starts slot h s k row_is front stem line is u at table canonical =
    let before = squares_before m e t rows starts slot h s k front stem in
    let all = in_stems m e.n table s in
    let len = whole m e.last e.n table canonical s row_is in
    let line_is : line ≡ bare_row_in rows s = is ∙ get_or_default rows s line no_bare_row (omega (arith, h.count)) in
    let made = subst (λ j. IsMadeThrough m e s j (bare_row_in rows s)) before.0 (h.made s row_is) in
    at_most-row m.bottom (take k all) k line.degrees u at (ap (λ (x : BareRow). x.degrees) line_is ∙ (made table canonical).degrees) (length-take-le k all (omega (arith, len)))

-- a row is that of some squares
pub some_row : (m : Module) (e : Extent) (i j : ℕ) (line : BareRow) (table : List (List Content)) → IsTableOf m e table → IsMadeThrough m e i j line → (b : ℤ) → b ≡ m.bottom → (squares : List Content) × IsBareRowOf b squares line
some_row m e i j line table canonical made b is = (take j (in_stems m e.n table i), subst (λ (z : ℤ). IsBareRowOf z (take j (in_stems m e.n table i)) line) (sym is) (made table canonical))
