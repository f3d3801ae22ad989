-- A view that was read from a board may be published next.
use Rattle.std.proofs.Common.{◌≡◌, ℕ, ℤ, zero, suc, ◌+◌, List, [], ◌∷◌, ◌++◌, length, All, slice_get, Some, refl, sym, ◌∙◌, ap, subst, arith}
use Rattle.std.specs.Prelude.{replicate}
use Rattle.std.proofs.lemmas.List.Elements.{All-head, All-tail}
use Rattle.bidegree.specs.declared.range.TheConstants.{MAX_S}
use Rattle.bidegree.specs.declared.range.Range.{Range}
use Rattle.bidegree.specs.declared.shape.Shape.TheVariants.{Rectangle}
use Rattle.bidegree.specs.LastDegrees.{last_degree}
use Rattle.board_core.specs.declared.event.Entry.{Entry as Event}
use Rattle.resolution_laws.specs.Resolution.{Module}
use Rattle.resolution_laws.specs.Start.{Entry}
use Rattle.square.specs.Squares.{over}
use Rattle.square.specs.Tables.{Staircase}
use Rattle.square_board.specs.declared.opening.Opening.{Opening}
use Rattle.square_board.specs.Stocks.{StockWords}
use Rattle.live_view.specs.Counted.{counted_in, module_in, start_in}
use Rattle.live_view.specs.declared.published.Published.{Published as Shown}
use Rattle.live_view.specs.Views.{row_of, blank, IsRight, IsWithin, RightViewIsCanonical}
use Rattle.live_view.specs.Published.{last_from, last_view, IsRightOf, ArePublished, MayFollow, KnownViews, IsPartOfCharts}
use Rattle.live_view.specs.Chart.{live_chart, IsPartOf, RightChartIsPart}
use Rattle.chart_lines.specs.Chart.{chart_text}
use Rattle.live_view.specs.Publishing.{AreOfBoard, HasPublished}
use Rattle.live_view.specs.Inside.Reading.{HasRead}

pub row_blank : (n s : ℕ) → row_of (replicate n []) s ≡ []
row_blank zero s = refl
row_blank (suc n) zero = refl
row_blank (suc n) (suc s) = row_blank n s

blank_right : (m : Module) (start : List Entry) → IsRight m start blank
blank_right m start = record {
  staircase = λ s. let a = ap length (row_blank (MAX_S + 1) (suc s)) in omega arith;
  counts = λ s k n at. absurd (let none : slice_get [] k ≡ Some n = subst (λ (l : List ℕ). slice_get l k ≡ Some n) (row_blank (MAX_S + 1) s) at in cc);
}

first_of : (a b : Staircase) (tables : List Staircase) → tables ≡ a ∷ [] → tables ≡ b ∷ [] → a ≡ b
first_of a b tables p q = let e = sym p ∙ q in cc

module _ (table : Staircase) where
  last_right : (view : List (List ℕ)) (published : List Shown) → IsRight (over table.resolved) table.start view → All IsRightOf published → All (λ (q : Shown). q.of ≡ table ∷ []) published → IsRight (over table.resolved) table.start (last_from view published)
  last_right view [] right all of = right
  last_right view (p ∷ published) right all of =
      last_right p.view published
      (All-head IsRightOf p published all table (All-head (λ (q : Shown). q.of ≡ table ∷ []) p published of))
      (All-tail IsRightOf p published all)
      (All-tail (λ (q : Shown). q.of ≡ table ∷ []) p published of)

  pub right_of : (published : List Shown) → ArePublished published → All (λ (q : Shown). q.of ≡ table ∷ []) published → IsRight (over table.resolved) table.start (last_view published)
  right_of published are of = last_right blank published (blank_right (over table.resolved) table.start) are.right of

-- the text of the last view is a part of the charts of what the views are of
pub part_of_charts : (bottom : ℤ) (range : Range) (published : List Shown) (text : List ℕ) → RightViewIsCanonical → RightChartIsPart → ArePublished published → text ≡ live_chart bottom range (last_view published) → IsPartOfCharts bottom range published text
part_of_charts bottom range published text canonical part are is table of start count counts =
    let right = canonical (over table.resolved) table.start (last_view published) start (right_of table published are of) in
    subst (λ (x : List ℕ). IsPartOf x (chart_text bottom range.s (last_degree Rectangle range) count)) (sym is) (part (over table.resolved) (last_view published) bottom range count right counts)

module _ {T O I M : Type 0} (w : StockWords T O I M) (table_of : O → Staircase) (opening : Opening T) where
  pub shown_right : (published : List Shown) → ArePublished published → AreOfBoard w table_of opening published → IsRight (module_in w table_of opening) (start_in w table_of opening) (last_view published)
  shown_right published are of = right_of (counted_in w table_of opening) published are of

  pub follows : (published : List Shown) (p : Shown) (before after : List Event) (old new : List (List ℕ)) → AreOfBoard w table_of opening published → old ≡ last_view published → HasRead w table_of opening before after old new → p.of ≡ counted_in w table_of opening ∷ [] → p.view ≡ new → MayFollow published p
  follows published p before after old new of is read of_is view_is =
      let right : IsRight (module_in w table_of opening) (start_in w table_of opening) p.view = subst (IsRight (module_in w table_of opening) (start_in w table_of opening)) (sym view_is) read.between.right in
      record {
        right = λ table is_table. subst (λ (t : Staircase). IsRight (over t.resolved) t.start p.view) (first_of (counted_in w table_of opening) table p.of of_is is_table) right;
        within = subst (λ (v : List (List ℕ)). IsWithin v p.view) is (subst (λ (v : List (List ℕ)). IsWithin old v) (sym view_is) read.within);
        one = λ k d less. of k d less ∙ sym of_is;
      }

  pub was_published : (p : Shown) (before after : List Event) (old new : List (List ℕ)) (known next : KnownViews) → next ≡ record known { published = known.published ++ p ∷ [] } → HasRead w table_of opening before after old new → p.of ≡ counted_in w table_of opening ∷ [] → p.view ≡ new → HasPublished w table_of opening before after known next
  was_published p before after old new known next is read of_is view_is = record {
    view = new;
    known = is ∙ ap (λ (q : Shown). record known { published = known.published ++ q ∷ [] }) (λ i. record { of = of_is i; view = view_is i });
    between = read.between;
  }
