use Rattle.std.proofs.Common.{◌≡◌, ℕ, ℤ, List, [], SFits, w32, to_z, of_z, sym, ◌∙◌, ap, subst}
use Rattle.std.proofs.lemmas.Int.{to_z-of_z}
use Rattle.bidegree.specs.declared.shape.Shape.{Shape}
use Rattle.board_core.specs.Machine.{stands_in}
use Rattle.square_board.specs.declared.opening.Opening.{Opening}
use Rattle.square_board.specs.Courses.{Course}
use Rattle.square_board.specs.Openings.{ListsSquares, bottom_of, shape_of, course_of}
use Rattle.square_board.proofs.Desks.{desk_opened}
use Rattle.square_board.proofs.desk.Desk.new.Goals as goal

pub invariant_of-result : goal.invariant_of-result
invariant_of-result g c =
    let w = g.T.Stock.words in
    let stock = c.args.stock in
    let range = c.args.range in
    let opening : Opening g.row.T.Denot = record { first = c.of.result; range = range; start = c.of-2.result } in
    let first_is : c.of.result.value ≡ stock = c.of.ensures in
    let shape : c.shape-shape.result ≡ shape_of w opening = c.shape-shape.ensures.shape ∙ ap (λ (x : g.row.T.Denot). w.shape (w.subject x)) (sym first_is) in
    let bottom : c.bottom-bottom.result ≡ bottom_of w opening = c.bottom-bottom.ensures.bottom ∙ ap (λ (x : g.row.T.Denot). w.bottom (w.subject x)) (sym first_is) in
    let fits : SFits w32 c.bottom-bottom.result = record { sfits = c.bottom-bottom.type_inv } in
    let with_opening : Shape → ℤ → List (ℕ × ℤ) → Course = λ x b l. record { shape = x; rows = range.s; degrees = range.t; bottom = b; start = l; history = [] } in
    let begin : c.as_slice.result.now ≡ c.of-2.result = c.as_slice.ensures.value ∙ sym (c.of-2.ensures ∙ c.as_slice-2.ensures.value) in
    let course : c.in-Ok-new.schedule ≡ course_of w opening [] =
    c.in-Ok-new.ensures
    ∙ (ap (λ (x : Shape). with_opening x (to_z w32 (of_z w32 c.bottom-bottom.result)) c.as_slice.result.now) shape
    ∙ (ap (λ (b : ℤ). with_opening (shape_of w opening) b c.as_slice.result.now) (to_z-of_z w32 c.bottom-bottom.result fits ∙ bottom) ∙ ap (λ (l : List (ℕ × ℤ)). with_opening (shape_of w opening) (bottom_of w opening) l) begin)) in
    let L : g.row.T.Denot → List (ℕ × ℤ) → Type 0 = λ x l. ListsSquares (stands_in (w.shape (w.subject x)) range.s range.t) (w.bottom (w.subject x)) l (w.fronts stock) in
    let lists : L c.of.result.value c.of-2.result = subst (λ (l : List (ℕ × ℤ)). L c.of.result.value l) (sym (c.of-2.ensures ∙ c.as_slice-2.ensures.value)) (subst (λ (x : g.row.T.Denot). L x c.in-Ok.start.items) (sym first_is) c.in-Ok.ensures) in
    desk_opened w opening c.in-Ok-new.schedule stock first_is course c.requires.rows c.requires.degrees c.requires.reached (λ stems. c.shape-shape.ensures.corner range c.requires.reached (c.shape-shape.ensures.shape ∙ stems)) lists c.requires.takes
