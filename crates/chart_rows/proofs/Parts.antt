-- Rows that grow by the squares of a part, and by parts.
use Rattle.std.proofs.Common.{◌≡◌, ℕ, zero, suc, ◌+◌, ◌<◌, ◌≤◌, List, [], ◌∷◌, ◌++◌, length, take, refl, ap, sym, subst, ◌∙◌, arith, inl, inr}
use Rattle.std.proofs.lemmas.Bool.{cases_lt, cases_eq}
use Rattle.std.proofs.lemmas.List.{take_all, take_more, take-take, get_or-take, get_or_append_left, get_or_push, get_or-replicate, length-replicate, length-take-le, get_or_past}
use Rattle.std.proofs.lemmas.List.Elements.{All-get_or}
use Rattle.bidegree.specs.declared.range.TheConstants.{MAX_S}
use Rattle.finite_module.specs.Checked.{Checked}
use Rattle.resolution_laws.specs.Resolution.{Module, Content, no_content, row_of, square_in}
use Rattle.square.specs.Squares.{over}
use Rattle.resolution_images.specs.BareRows.{BareRow, no_bare_row, bare_row_in, contents_of, squares_of, IsBareRowOf}
use Rattle.resolution_images.proofs.Contents.{row_of-squares, length-row}
use Rattle.chart_file.specs.Parts.{Bare, Part, IsBare, IsPart}
use Rattle.chart_rows.specs.declared.fault.PlaceFault.{PlaceFault}
use Rattle.chart_rows.specs.declared.fault.PlaceFault.TheVariants.{Order, Width, Dependent, NoCycle, Memory}
use Rattle.chart_rows.specs.declared.fault.ChartFault.TheVariants.{Misplaced}
use Rattle.chart_rows.specs.Standing.{IsNextAt, IsMisplaced, MayStand, AreCharted}
use Rattle.chart_rows.specs.Placing.{with_square, with_squares, bare_in, with_first, with_part, MayStandAll, HasMisplaced, no_rows, with_parts, rows_of_parts, part_in, AreRowsOf, IsChartRefusal}
use Rattle.chart_rows.specs.Canonical.{bare_square, IsOfResolution, IsPartOfResolution, ArePartsOfResolution, AreRowsOfResolution, ResolutionMayStand, AreParts, IsOfOrder}
use Rattle.chart_rows.proofs.Growing.{content_of, AreGrown, others_of, are_grown, charted_more}

-- ---- one square more

with_squares-push : (m : Module) (s k : ℕ) (qs : List Bare) (q : Bare) (rows : List BareRow) → with_squares m s k (qs ++ q ∷ []) rows ≡ with_square m (s + length qs) k q (with_squares m s k qs rows)
with_squares-push m s k [] q rows = let e : s ≡ s + 0 = omega arith in ap (λ x. with_square m x k q rows) e
with_squares-push m s k (x ∷ qs) q rows =
    let e : suc s + length qs ≡ s + suc (length qs) = omega arith in
    let after = with_squares m (suc s) k qs (with_square m s k x rows) in
    with_squares-push m (suc s) k qs q (with_square m s k x rows) ∙ ap (λ z. with_square m z k q after) e

pub with_first-more : (m : Module) (p : Part) (h : ℕ) (rows : List BareRow) → h < length p.squares → with_first m p (h + 1) rows ≡ with_square m (p.first + h) p.above (bare_in p h) (with_first m p h rows)
with_first-more m p h rows l =
    let len : length (take h p.squares) ≡ h = length-take-le h p.squares (omega arith) in
    ap (λ (z : List Bare). with_squares m p.first p.above z rows) (take_more p.squares h (record { width = 0; images = [] }) l)
    ∙ with_squares-push m p.first p.above (take h p.squares) (bare_in p h) rows
    ∙ ap (λ x. with_square m (p.first + x) p.above (bare_in p h) (with_first m p h rows)) len

pub with_first-all : (m : Module) (p : Part) (h : ℕ) (rows : List BareRow) → length p.squares ≤ h → with_first m p h rows ≡ with_part m p rows
with_first-all m p h rows l = ap (λ (z : List Bare). with_squares m p.first p.above z rows) (take_all h p.squares l)

-- ---- one part more

with_parts-push : (m : Module) (ps : List Part) (p : Part) (rows : List BareRow) → with_parts m (ps ++ p ∷ []) rows ≡ with_part m p (with_parts m ps rows)
with_parts-push m [] p rows = refl
with_parts-push m (x ∷ ps) p rows = with_parts-push m ps p (with_part m x rows)

pub rows_of_parts-more : (m : Module) (parts : List Part) (n : ℕ) → n < length parts → rows_of_parts m (take (n + 1) parts) ≡ with_part m (part_in parts n) (rows_of_parts m (take n parts))
rows_of_parts-more m parts n l =
    ap (λ (z : List Part). with_parts m z no_rows) (take_more parts n (record { above = 0; first = 0; squares = [] }) l)
    ∙ with_parts-push m (take n parts) (part_in parts n) no_rows

-- ---- what holds of the rows then

none_charted : (m : Module) → AreCharted m no_rows
none_charted m = record {
  count = length-replicate (MAX_S + 1) no_bare_row;
  each = λ s l. subst (λ (z : List Content). IsBareRowOf m.bottom z (bare_row_in no_rows s)) (sym (row_of-squares no_rows s))
      (subst (λ (z : BareRow). IsBareRowOf m.bottom (contents_of z) z) (sym (none s l)) (record { degrees = refl; images = refl; counts = refl }));
  few = λ s l. let e = ap (λ (z : BareRow). length z.counts) (none s l) in omega arith;
  steps = λ i l. let e = ap (λ (z : BareRow). length z.counts) (none (i + 1) (omega arith)) in omega arith;
  widths = λ s k l b. absurd (let e = ap (λ (z : BareRow). length z.counts) (none s l) in omega arith);
}
  where
    none : (s : ℕ) → s ≤ MAX_S → bare_row_in no_rows s ≡ no_bare_row
    none s l = get_or-replicate (MAX_S + 1) s no_bare_row no_bare_row (omega arith)

module _ (m : Module) (p : Part) (rows : List BareRow) (is : IsPart p) (charted : AreCharted m rows) where
  bare_at : (h : ℕ) → h < length p.squares → IsBare (bare_in p h)
  bare_at h l = All-get_or IsBare p.squares h (record { width = 0; images = [] }) l is.bare

  pub charted_first : (h : ℕ) → h ≤ length p.squares → ((j : ℕ) → j < h → MayStand m (with_first m p j rows) (p.first + j) p.above (bare_in p j)) → AreCharted m (with_first m p h rows)
  charted_first zero l may = charted
  charted_first (suc h) l may =
      let b : h < length p.squares = omega arith in
      let before = charted_first h (omega arith) (λ j c. may j (omega arith)) in
      let more = charted_more m (with_first m p h rows) (p.first + h) p.above (bare_in p h) before (omega (arith, is.rows)) is.degree (may h (omega arith)) (bare_at h b).widths in
      let e : h + 1 ≡ suc h = omega arith in
      subst (λ x. AreCharted m (with_first m p x rows)) e (subst (AreCharted m) (sym (with_first-more m p h rows b)) more)

-- a row with a square of the resolution more has squares of it
placed : (m : Module) (rows new : List BareRow) (s k : ℕ) (q : Bare) → AreGrown rows new s q → length (bare_row_in rows s).counts ≡ k → AreRowsOfResolution m rows → IsOfResolution m s k q → AreRowsOfResolution m new
placed m rows new s k q g len h is i j b s' t table canonical l c = elim (cases_eq i s) [
  | inl e ↦
      let many = ap (λ x. length (bare_row_in new x).counts) e in
      let old = row_of (squares_of rows) s in
      let long : length old ≡ k = length-row rows s ∙ len in
      let rest : (square_in (old ++ content_of q ∷ []) j).images ≡ (bare_square m table s j).images = elim (cases_lt j k) [
        | inl f ↦
            ap (λ (x : Content). x.images) (get_or_append_left old (content_of q ∷ []) no_content j (omega arith))
            ∙ h s j (omega arith) s' t table canonical (omega arith) c
        | inr f ↦
            let at : j ≡ k = omega (arith, g.count) in
            ap (λ (x : Content). x.images) (get_or_push old (content_of q) no_content j (long ∙ sym at))
            ∙ ap (λ (x : Bare). x.images) (is s' t table canonical (omega arith) (omega arith))
            ∙ ap (λ x. (bare_square m table s x).images) (sym at)
      ] in
      let there : (square_in (row_of (squares_of new) s) j).images ≡ (bare_square m table s j).images = ap (λ (z : List Content). (square_in z j).images) g.here ∙ rest in
      subst (λ x. (square_in (row_of (squares_of new) x) j).images ≡ (bare_square m table x j).images) (sym e) there
  | inr apart ↦
      let many = ap (λ (x : BareRow). length x.counts) (g.others i apart) in
      ap (λ (z : List Content). (square_in z j).images) (others_of rows new s q g i apart) ∙ h i j (omega arith) s' t table canonical l c
]

pub resolution_first : (m : Module) (p : Part) (rows : List BareRow) → IsPart p → AreCharted m rows → IsPartOfResolution m p → AreRowsOfResolution m rows → (h : ℕ) → h ≤ length p.squares → ((j : ℕ) → j < h → MayStand m (with_first m p j rows) (p.first + j) p.above (bare_in p j)) → AreRowsOfResolution m (with_first m p h rows)
resolution_first m p rows is charted of same zero l may = same
resolution_first m p rows is charted of same (suc h) l may =
    let b : h < length p.squares = omega arith in
    let before = charted_first m p rows is charted h (omega arith) (λ j c. may j (omega arith)) in
    let old = resolution_first m p rows is charted of same h (omega arith) (λ j c. may j (omega arith)) in
    let here = may h (omega arith) in
    let grown = are_grown m (with_first m p h rows) (p.first + h) p.above (bare_in p h) before (omega (arith, is.rows)) is.degree here in
    let more = placed m (with_first m p h rows) (with_square m (p.first + h) p.above (bare_in p h) (with_first m p h rows)) (p.first + h) p.above (bare_in p h) grown here.next.0 old (of h b) in
    let e : h + 1 ≡ suc h = omega arith in
    subst (λ x. AreRowsOfResolution m (with_first m p x rows)) e (subst (AreRowsOfResolution m) (sym (with_first-more m p h rows b)) more)

-- ---- all parts

module _ (m : Module) (parts : List Part) (are : AreParts parts) where
  pub charted_parts : (n : ℕ) → n ≤ length parts → ((j : ℕ) → j < n → MayStandAll m (rows_of_parts m (take j parts)) (part_in parts j)) → AreCharted m (rows_of_parts m (take n parts))
  charted_parts zero l may = none_charted m
  charted_parts (suc n) l may =
      let b : n < length parts = omega arith in
      let p = part_in parts n in
      let old = rows_of_parts m (take n parts) in
      let before = charted_parts n (omega arith) (λ j c. may j (omega arith)) in
      let all = charted_first m p old (are n b) before (length p.squares) (omega arith) (may n (omega arith)) in
      let e : n + 1 ≡ suc n = omega arith in
      subst (λ x. AreCharted m (rows_of_parts m (take x parts))) e (subst (AreCharted m) (with_first-all m p (length p.squares) old (omega arith) ∙ sym (rows_of_parts-more m parts n b)) all)

  pub resolution_parts : ArePartsOfResolution m parts → (n : ℕ) → n ≤ length parts → ((j : ℕ) → j < n → MayStandAll m (rows_of_parts m (take j parts)) (part_in parts j)) → AreRowsOfResolution m (rows_of_parts m (take n parts))
  resolution_parts of zero l may = λ s k b. absurd (no_square s k b)
    where
      no_square : (s k : ℕ) → k < length (bare_row_in no_rows s).counts → ⊥
      no_square s k b = elim (cases_lt s (MAX_S + 1)) [
        | inl c ↦ let e = ap (λ (z : BareRow). length z.counts) (get_or-replicate (MAX_S + 1) s no_bare_row no_bare_row c) in omega arith
        | inr c ↦ let e = ap (λ (z : BareRow). length z.counts) (get_or_past no_rows s no_bare_row (omega (arith, length-replicate (MAX_S + 1) no_bare_row))) in omega arith
      ]
  resolution_parts of (suc n) l may =
      let b : n < length parts = omega arith in
      let p = part_in parts n in
      let old = rows_of_parts m (take n parts) in
      let before = charted_parts n (omega arith) (λ j c. may j (omega arith)) in
      let same = resolution_parts of n (omega arith) (λ j c. may j (omega arith)) in
      let all = resolution_first m p old (are n b) before (of n b) same (length p.squares) (omega arith) (may n (omega arith)) in
      let e : n + 1 ≡ suc n = omega arith in
      subst (λ x. AreRowsOfResolution m (rows_of_parts m (take x parts))) e (subst (AreRowsOfResolution m) (with_first-all m p (length p.squares) old (omega arith) ∙ sym (rows_of_parts-more m parts n b)) all)

-- parts that may stand, by their numbers in a longer list
pub stand_before : (m : Module) (parts : List Part) (n : ℕ) → n ≤ length parts → AreRowsOf m (take n parts) → (j : ℕ) → j < n → MayStandAll m (rows_of_parts m (take j parts)) (part_in parts j)
stand_before m parts n l h j b =
    let here : part_in (take n parts) j ≡ part_in parts j = get_or-take n parts j (record { above = 0; first = 0; squares = [] }) b in
    let before : take j (take n parts) ≡ take j parts = take-take j n parts (omega arith) in
    subst (MayStandAll m (rows_of_parts m (take j parts))) here
    (subst (λ (z : List Part). MayStandAll m (rows_of_parts m z) (part_in (take n parts) j)) before (h j (omega (arith, length-take-le n parts l))))

-- a square that may stand where it is the next one is misplaced for its order alone
misplaced : (m : Module) (fault : PlaceFault) (rows : List BareRow) (s k : ℕ) (q : Bare) → (IsNextAt rows s k → MayStand m rows s k q) → IsMisplaced m rows s k q fault → (fault ≡ Memory → ⊥) → IsOfOrder fault × (IsNextAt rows s k → ⊥)
misplaced m (Order x) rows s k q may h f = ((x, refl), h.1)
misplaced m (Width x) rows s k q may h f = absurd (h.2 (may h.1).width)
misplaced m (Dependent x) rows s k q may h f = absurd (h.2 (may h.1).independent)
misplaced m (NoCycle x) rows s k q may h f = absurd (h.2 (may h.1).cycles)
misplaced m Memory rows s k q may h f = absurd (f refl)

-- ---- parts of the resolution

pub only_order : ResolutionMayStand → (m : Checked) (parts : List Part) (n : ℕ) (fault : PlaceFault) → AreParts parts → ArePartsOfResolution (over m) parts → IsChartRefusal (over m) parts (Misplaced n fault) → IsOfOrder fault
only_order stands m parts n fault are of r =
    let b = r.0 in
    let p = part_in parts n in
    let is = are n b in
    let old = rows_of_parts (over m) (take n parts) in
    let may = stand_before (over m) parts n (omega arith) r.1 in
    let charted = charted_parts (over m) parts are n (omega arith) may in
    let same = resolution_parts (over m) parts are of n (omega arith) may in
    let at = r.2 in
    let there = charted_first (over m) p old is charted at.h (let l = at.there in omega arith) at.before in
    let here = resolution_first (over m) p old is charted (of n b) same at.h (let l = at.there in omega arith) at.before in
    let stand = stands m (with_first (over m) p at.h old) (p.first + at.h) p.above (bare_in p at.h) there here (of n b at.h at.there) (let l = at.there in omega (arith, is.rows)) in
    (misplaced (over m) fault (with_first (over m) p at.h old) (p.first + at.h) p.above (bare_in p at.h) stand at.here r.3).0

-- ---- parts that are refused

pub no_chart : (m : Module) (parts : List Part) (n : ℕ) (fault : PlaceFault) → IsChartRefusal m parts (Misplaced n fault) → AreRowsOf m parts → ⊥
no_chart m parts n fault r all =
    let p = part_in parts n in
    let old = rows_of_parts m (take n parts) in
    let at = r.2 in
    let may = all n r.0 at.h at.there in
    (misplaced m fault (with_first m p at.h old) (p.first + at.h) p.above (bare_in p at.h) (λ next. may) at.here r.3).1 may.next

-- ---- in the words of the code

-- the square of a part with number h is put where those before it are
pub record IsAt (m : Module) (p : Part) (first : List BareRow) (h : ℕ) (rows : List BareRow) (s k : ℕ) (q : Bare) : Type 0 where
  pub before : rows ≡ with_first m p h first
  pub row_is : s ≡ p.first + h
  pub degree_is : k ≡ p.above
  pub square_is : q ≡ bare_in p h

-- what is known of it there
put_into : (m : Module) (p : Part) (first : List BareRow) (h : ℕ) (rows : List BareRow) (s k : ℕ) (q : Bare) → IsAt m p first h rows s k q → (P : List BareRow → ℕ → ℕ → Bare → Type 0) → P rows s k q → P (with_first m p h first) (p.first + h) p.above (bare_in p h)
put_into m p first h rows s k q at P x =
    subst (λ (z : Bare). P (with_first m p h first) (p.first + h) p.above z) at.square_is
    (subst (λ (z : ℕ). P (with_first m p h first) (p.first + h) z q) at.degree_is
    (subst (λ (z : ℕ). P (with_first m p h first) z k q) at.row_is
    (subst (λ (z : List BareRow). P z s k q) at.before x)))

pub put_more : (m : Module) (p : Part) (first : List BareRow) (h : ℕ) (rows : List BareRow) (s k : ℕ) (q : Bare) (new : List BareRow) → IsAt m p first h rows s k q → h < length p.squares → new ≡ with_square m s k q rows → new ≡ with_first m p (h + 1) first
put_more m p first h rows s k q new at l put =
    put_into m p first h rows s k q at (λ r x y z. new ≡ with_square m x y z r) put ∙ sym (with_first-more m p h first l)

pub may_more : (m : Module) (p : Part) (first : List BareRow) (h : ℕ) (rows : List BareRow) (s k : ℕ) (q : Bare) → IsAt m p first h rows s k q → ((j : ℕ) → j < h → MayStand m (with_first m p j first) (p.first + j) p.above (bare_in p j)) → MayStand m rows s k q → (j : ℕ) → j < h + 1 → MayStand m (with_first m p j first) (p.first + j) p.above (bare_in p j)
may_more m p first h rows s k q at may here j l = elim (cases_lt j h) [
  | inl b ↦ may j b
  | inr b ↦
      let e : h ≡ j = omega arith in
      subst (λ x. MayStand m (with_first m p x first) (p.first + x) p.above (bare_in p x)) e (put_into m p first h rows s k q at (λ r x y z. MayStand m r x y z) here)
]

pub refused_at : (m : Module) (p : Part) (first : List BareRow) (h : ℕ) (rows : List BareRow) (s k : ℕ) (q : Bare) (fault : PlaceFault) → IsAt m p first h rows s k q → h < length p.squares → ((j : ℕ) → j < h → MayStand m (with_first m p j first) (p.first + j) p.above (bare_in p j)) → IsMisplaced m rows s k q fault → HasMisplaced m first p fault
refused_at m p first h rows s k q fault at l may here = record {
  h = h;
  there = l;
  before = may;
  here = put_into m p first h rows s k q at (λ r x y z. IsMisplaced m r x y z fault) here;
}
