-- What becomes of a table and its keeper, one square after the other.
use Rattle.std.proofs.Common.{◌≡◌, ◌⊎◌, ℕ, ◌+◌, ◌<◌, List, [], ◌∷◌, ◌++◌, length, Result, Ok, Err, refl, sym, ◌∙◌, ap, subst}
use Rattle.std.specs.Result.{OnOk, OnErr}
use Rattle.std.proofs.lemmas.List.Elements.{All-nil, All-cons, All-append, All-weaker}
use Rattle.resolution_laws.specs.Resolution.{Module}
use Rattle.resolution_laws.specs.Start.{Entry, IsOf}
use Rattle.square.specs.declared.keep.KeepFault.{KeepFault}
use Rattle.square.specs.Squares.{Placed, entry_of, over}
use Rattle.square.specs.Tables.{Staircase, row_in, with_square, IsNext}
use Rattle.square.specs.Keeping.{Keeper, HasKept, HasPut, HasNotPut}
use Rattle.square.proofs.Kept.{IsSettled, HasKept-none, HasKept-then}
use Rattle.resolution_step.specs.Alone.{IsBefore, HasGiven}
use Rattle.resolution_step.specs.Inside.Adding.{IsEndOf, HasAdded}
use Rattle.resolution_step.proofs.Orders.{AllPairs-nil, in_order_one, in_order_both, new_none, new_weaker, new_both, new_one}
use Rattle.square.proofs.Growing.{HasGrown-then, HasGrown-same, HasGrown-push, length-push, longer-push}
use Rattle.square.proofs.Places.{next_length}
use Rattle.resolution_step.proofs.Pushes.{AreOfStart-same, AreOfStart-push}

-- ---- what is given

pub given_none : (order : Entry → Entry → Type 0) (m : Module) (start : List Entry) (at : ℕ → ℕ → Type 0) (old new : Keeper) → HasKept m start old new [] → HasGiven order m start at old new
given_none order m start at old new kept = record { given = []; places = All-nil (λ e. at e.s e.above); ordered = AllPairs-nil order; kept = kept }

pub given_one : (m : Module) (start : List Entry) (at : ℕ → ℕ → Type 0) (old new : Keeper) (e : Entry) → at e.s e.above → HasKept m start old new (e ∷ []) → HasGiven IsBefore m start at old new
given_one m start at old new e here kept = record { given = e ∷ []; places = All-cons (λ e. at e.s e.above) e [] here (All-nil (λ e. at e.s e.above)); ordered = in_order_one e; kept = kept }

-- ---- a table that has the same squares

pub HasAdded-none : (at : ℕ → ℕ → Type 0) (old new : Keeper) (before after : Staircase) → after.resolved ≡ before.resolved → after.start ≡ before.start → after.rows ≡ before.rows → HasKept (over before.resolved) before.start old new [] → HasAdded at old new before after
HasAdded-none at old new before after resolved start rows kept = record {
  grown = HasGrown-same before after resolved start rows;
  count = ap length rows;
  are_of_start = AreOfStart-same before after resolved start rows;
  places = new_none at before.rows after.rows rows;
  given = given_none IsBefore (over before.resolved) before.start at old new kept;
}

-- nothing was done
pub HasAdded-start : (at : ℕ → ℕ → Type 0) (keeper : Keeper) (table : Staircase) → IsSettled keeper → HasAdded at keeper keeper table table
HasAdded-start at keeper table settled = HasAdded-none at keeper keeper table table refl refl refl (HasKept-none (over table.resolved) table.start keeper settled)

-- ---- a square at the end of row s

module _ (old new : Keeper) (before after : Staircase) (s : ℕ) (q : Placed) (row : q.s ≡ s) (there : s < length before.rows) where
  row_there : q.s < length before.rows
  row_there = subst (λ (i : ℕ). i < length before.rows) (sym row) there

  HasAdded-one : IsNext before.rows q.s q.above → IsOf (over before.resolved) before.start q.s q.above q.content → HasPut (over before.resolved) before.start old new before after q → HasAdded (IsEndOf before s) old new before after
  HasAdded-one next right put =
      let at : ℕ → ℕ → Type 0 = IsEndOf before s in
      let end : at q.s (length (row_in before.rows q.s)) = (row, ap (λ (i : ℕ). length (row_in before.rows i)) row) in
      record {
        grown = HasGrown-push before after q put.resolved put.start_is put.rows row_there;
        count = length-push before.rows after.rows q put.rows;
        are_of_start = AreOfStart-push before after q put.resolved put.start_is put.rows row_there next right;
        places = new_one at before.rows after.rows q.s q put.rows row_there end;
        given = given_one (over before.resolved) before.start at old new (entry_of q) (subst (at q.s) (next_length before.rows q.s q.above next) end) put.kept;
      }

  pub HasAdded-put : (result : Result (Unit {0}) KeepFault) → IsNext before.rows q.s q.above → IsOf (over before.resolved) before.start q.s q.above q.content → OnOk result (HasPut (over before.resolved) before.start old new before after q) → OnErr result (HasNotPut (over before.resolved) before.start old new before after) → HasAdded (IsEndOf before s) old new before after
  HasAdded-put (Ok x) next right put unput = HasAdded-one next right put
  HasAdded-put (Err e) next right put unput = HasAdded-none _ old new before after unput.same.resolved unput.same.start unput.same.rows unput.kept

  pub longer_put : (result : Result (Unit {0}) KeepFault) → OnOk result (HasPut (over before.resolved) before.start old new before after q) → OnOk result (length (row_in after.rows s) ≡ length (row_in before.rows s) + 1)
  longer_put (Ok x) put = longer-push before.rows after.rows s q (put.rows ∙ ap (λ (i : ℕ). with_square before.rows i q) row) there
  longer_put (Err e) put = tt

-- ---- one after the other

pub HasAdded-weaker : (at more : ℕ → ℕ → Type 0) → ((i k : ℕ) → at i k → more i k) → (old new : Keeper) (before after : Staircase) → HasAdded at old new before after → HasAdded more old new before after
HasAdded-weaker at more h old new before after p = record {
  grown = p.grown;
  count = p.count;
  are_of_start = p.are_of_start;
  places = new_weaker at more h before.rows after.rows p.places;
  given = record {
    given = p.given.given;
    places = All-weaker (λ e. at e.s e.above) (λ e. more e.s e.above) (λ e x. h e.s e.above x) p.given.given p.given.places;
    ordered = p.given.ordered;
    kept = p.given.kept;
  };
}

-- at such places, and then at others that stand behind them
pub HasAdded-then : (at then both : ℕ → ℕ → Type 0) → ((i k : ℕ) → at i k → both i k) → ((i k : ℕ) → then i k → both i k) → ((i j k l : ℕ) → at i j → then k l → (i < k) ⊎ ((i ≡ k) × (j < l)))
    → (old mid new : Keeper) (before middle after : Staircase) → HasAdded at old mid before middle → HasAdded then mid new middle after → HasAdded both old new before after
HasAdded-then at then both first second apart old mid new before middle after p q =
    let m = over before.resolved in
    let start = before.start in
    let A : List Entry → Type 0 = λ x. HasGiven IsBefore m x then mid new in
    let B : Module → Type 0 = λ x. HasGiven IsBefore x middle.start then mid new in
    let last : HasGiven IsBefore m start then mid new = subst A p.grown.start (subst B (ap (λ x. over x) p.grown.resolved) q.given) in
    let a = p.given.given in
    let b = last.given in
    let P : Entry → Type 0 = λ e. both e.s e.above in
    record {
      grown = HasGrown-then before middle after p.grown q.grown;
      count = q.count ∙ p.count;
      are_of_start = λ h. q.are_of_start (p.are_of_start h);
      places = new_both both before.rows middle.rows after.rows (new_weaker at both first before.rows middle.rows p.places) (new_weaker then both second middle.rows after.rows q.places);
      given = record {
        given = a ++ b;
        places = All-append P a b (All-weaker (λ e. at e.s e.above) P (λ e x. first e.s e.above x) a p.given.places) (All-weaker (λ e. then e.s e.above) P (λ e x. second e.s e.above x) b last.places);
        ordered = in_order_both at then a b apart p.given.places last.places p.given.ordered last.ordered;
        kept = HasKept-then m start old mid new a b p.given.kept last.kept;
      };
    }
