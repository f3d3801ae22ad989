use Rattle.std.proofs.Common.{◌≡◌, ℕ, suc, ◌+◌, Bool, List, pos, ◌+ℤ◌, sym, subst, arith, inl, inr}
use Rattle.std.proofs.lemmas.Bool.{cases_lt}
use Rattle.std.proofs.lemmas.Result.{IfOk-weaker}
use Rattle.free_module.specs.Graded.{free_graded}
use Rattle.free_module.specs.LinearMap.{AreImages}
use Rattle.square.specs.Squares.{bottom_of}
use Rattle.chain_map.specs.Lifting.{lowered_row, row_values, joined, next_goal, target_of}
use Rattle.chain_map.specs.Inside.{AreMade, class_of, goal_of, Reaches}
use Rattle.chain_map.proofs.Places.{values_are_images}
use Rattle.chain_map.proofs.rows.Course.row.Goals as goal
use Rattle.chain_map.proofs.rows.Course.row.Goals.{After-vectors}

one_more : (c : After-vectors) → c.args.k ≡ suc c.in-Some.below
one_more c = let e = c.in-Some.ensures in omega (arith, e.0, e.1)

pub next_row-requires-clause-below : goal.next_row-requires-clause-below
next_row-requires-clause-below c =
    let self = c.args.self.now in
    let more = one_more ((goal.at.next_row-requires-clause-below c).After-vectors) in
    let below = c.in-Some.below in
    let P : ℕ → Type 0 = λ k. Reaches self.table.now self.sphere.now self.s self.above k self.reach self.far in
    let Q : List (List Bool) → Type 0 = λ v. AreImages (free_graded (target_of self.sphere.now below self.far)) (lowered_row self.table.now (self.s + below) self.reach self.above) v in
    subst Q (sym c.vectors.ensures) (values_are_images self.table.now self.sphere.now self.s self.above self.reach self.far c.args.class c.args.k below c.args.lift.now c.requires.sphere (subst P more c.requires.reaches) c.requires.made more)

pub returns-in-None : goal.returns-in-None
returns-in-None c =
    let self = c.args.self.now in
    let table = self.table.now in
    let sphere = self.sphere.now in
    let x = bottom_of table.resolved +ℤ pos self.above in
    let none : 0 ≡ c.args.k = elim (cases_lt 0 c.args.k) [ inl l ↦ absurd (c.in-None.ensures (omega arith)) | inr l ↦ omega arith ] in
    let e : self.s ≡ self.s + 0 = omega arith in
    let P : ℕ → List (List (List Bool)) → Type 0 = λ k v. AreMade table sphere (self.s + k) k x (goal_of table sphere self.s self.above self.reach self.far c.args.class c.args.lift.now k) self.reach v in
    IfOk-weaker c.first_row.result (AreMade table sphere self.s 0 x (class_of table sphere self.s self.above c.args.class) self.reach) (P c.args.k) (λ v made. subst (λ (k : ℕ). P k v) none (subst (λ (i : ℕ). AreMade table sphere i 0 x (class_of table sphere self.s self.above c.args.class) self.reach v) e made)) c.first_row.ensures

pub returns-in-Some : goal.returns-in-Some
returns-in-Some c =
    let self = c.args.self.now in
    let table = self.table.now in
    let sphere = self.sphere.now in
    let below = c.in-Some.below in
    let x = bottom_of table.resolved +ℤ pos self.above in
    let more = one_more ((goal.at.returns-in-Some c).After-vectors) in
    let e : suc (self.s + below) ≡ self.s + suc below = omega arith in
    let P : ℕ → List (List (List Bool)) → Type 0 = λ k v. AreMade table sphere (self.s + k) k x (goal_of table sphere self.s self.above self.reach self.far c.args.class c.args.lift.now k) self.reach v in
    let Q : List (List Bool) → List (List (List Bool)) → Type 0 = λ vs v. AreMade table sphere (suc (self.s + below)) (suc below) x (next_goal table sphere (self.s + below) below self.above self.reach self.far vs) self.reach v in
    IfOk-weaker c.next_row.result (Q c.vectors.result.now) (P c.args.k)
    (λ v made.
    let named : Q (joined (row_values c.args.lift.now below)) v = subst (λ (vs : List (List Bool)). Q vs v) c.vectors.ensures made in
    subst (λ (k : ℕ). P k v) (sym more) (subst (λ (i : ℕ). AreMade table sphere i (suc below) x (next_goal table sphere (self.s + below) below self.above self.reach self.far (joined (row_values c.args.lift.now below))) self.reach v) e named)) c.next_row.ensures
