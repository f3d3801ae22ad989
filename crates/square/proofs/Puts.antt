-- A square that is kept and put into a table, and one that is not.
use Rattle.std.proofs.Common.{◌≡◌, ℕ, ◌≤◌, List, Option, Result, Ok, Err, IfSome, refl, sym, ◌∙◌, ap, subst}
use Rattle.std.specs.Result.{OnOk, OnErr}
use Rattle.std.proofs.lemmas.Option.{IfSome_then}
use Rattle.resolution_laws.specs.Resolution.{Module}
use Rattle.resolution_laws.specs.Start.{Entry, IsOf}
use Rattle.edge.specs.Faults.{HasRisen}
use Rattle.square.specs.declared.keep.KeepFault.{KeepFault}
use Rattle.square.specs.declared.keep.KeepFault.TheVariants.{Failed, Memory}
use Rattle.square.specs.Squares.{Placed}
use Rattle.square.specs.Tables.{Staircase}
use Rattle.square.specs.Keeping.{Keeper, HoldsTable, IsKeeperOf, HasFared, HaveSameSquares, HasPut, HasNotPut}
use Rattle.square.proofs.Kept.{IsSettled, HasTried, IsUnmoved, HasKept-none, HasKept-tried}

pub on_err : {A E : Type 0} (r : Result A E) (P : Type 0) → P → OnErr r P
on_err (Ok x) P p = tt
on_err (Err e) P p = p

pub same_self : (table : Staircase) → HaveSameSquares table table
same_self table = record { resolved = refl; start = refl; rows = refl }

-- whatever its room
pub same_room : (before after : Staircase) (spare : ℕ) → after ≡ record before { spare = spare } → HaveSameSquares before after
same_room before after spare same = record { resolved = ap (λ (t : Staircase). t.resolved) same; start = ap (λ (t : Staircase). t.start) same; rows = ap (λ (t : Staircase). t.rows) same }

-- a keeper that tells the same goes with a table that has the same squares
pub keeper_same : (old new : Keeper) (before after : Staircase) → IsKeeperOf old before → new.kept ≡ old.kept → new.resolved ≡ old.resolved → new.start ≡ old.start → HaveSameSquares before after → IsKeeperOf new after
keeper_same old new before after goes kept resolved start same = record {
  holds = subst (λ o. IfSome o (λ list. HoldsTable list after.rows)) (sym kept) (IfSome_then old.kept goes.holds (λ list holds. subst (HoldsTable list) (sym same.rows) holds));
  resolved = subst (λ o. IfSome o (λ m. after.resolved ≡ m)) (sym resolved) (IfSome_then old.resolved goes.resolved (λ m e. same.resolved ∙ e));
  start = subst (λ o. IfSome o (λ st. after.start ≡ st)) (sym start) (IfSome_then old.start goes.start (λ st e. same.start ∙ e));
}

pub not_put : (m : Module) (start : List Entry) (keeper : Keeper) (before after : Staircase) → HaveSameSquares before after → IsSettled keeper → IsKeeperOf keeper before → HasNotPut m start keeper keeper before after
not_put m start keeper before after same settled goes = record { same = same; of_table = keeper_same keeper keeper before after goes refl refl refl same; kept = HasKept-none m start keeper settled }

pub not_kept : (m : Module) (start : List Entry) (old new : Keeper) (before after : Staircase) (q : Placed) → HaveSameSquares before after → IsOf m start q.s q.above q.content → HasTried old new q → old.live → new.kept ≡ old.kept → IsUnmoved old new → ((i n : ℕ) (image : Option (List Entry)) → i ≤ n → new.since n image → new.since i image) → IsKeeperOf old before → HasNotPut m start old new before after
not_kept m start old new before after q same right tried live kept unmoved antitone goes = record {
  same = same;
  of_table = keeper_same old new before after goes kept tried.same_module tried.same_start same;
  kept = HasKept-tried m start old new q right tried live kept unmoved antitone;
}

-- ---- how the keeper fared

pub fared_ok : {T E : Type 0} (failing wanting : E) (table_of : T → Staircase) (x : T) (old new : Keeper) → new.live → new.faults ≡ old.faults → IsKeeperOf new (table_of x) → HasFared failing wanting table_of (Ok x) old new
fared_ok failing wanting table_of x old new live no_fault goes = record { live = live; no_fault = no_fault; of_table = goes; failed = λ e. absurd (cc); dead = λ e. absurd (cc); memory = λ e. absurd (cc); lives = λ e. absurd (cc) }

-- what it says where the result is Ok
pub fared_at : {T E : Type 0} (failing wanting : E) (table_of : T → Staircase) (r : Result T E) (x : T) (old new : Keeper) → r ≡ Ok x → HasFared failing wanting table_of r old new → HasFared failing wanting table_of (Ok x) old new
fared_at {T = T} {E = E} failing wanting table_of r x old new was fared = subst (λ (q : Result T E). HasFared failing wanting table_of q old new) was fared

-- a call before it added no fault
pub fared_err : {T U E : Type 0} (failing wanting : E) (first : T → Staircase) (then : U → Staircase) (r : Result T E) (e : E) (old mid new : Keeper) → r ≡ Err e → mid.faults ≡ old.faults → HasFared failing wanting first r mid new → HasFared failing wanting then (Err e) old new
fared_err {E = E} failing wanting first then r e old mid new was same fared = record {
  live = tt;
  no_fault = tt;
  of_table = tt;
  failed = λ is. let f : e ≡ failing = cc in subst (λ (n : ℕ). HasRisen n new.faults) same (fared.failed (was ∙ ap (λ (x : E). Err x) f));
  dead = λ is. let f : e ≡ failing = cc in fared.dead (was ∙ ap (λ (x : E). Err x) f);
  memory = λ is. let f : e ≡ wanting = cc in fared.memory (was ∙ ap (λ (x : E). Err x) f) ∙ same;
  lives = λ is. let f : e ≡ wanting = cc in fared.lives (was ∙ ap (λ (x : E). Err x) f);
}

-- there was no memory, and the keeper was not called
pub fared_none : {T E : Type 0} (failing wanting : E) (table_of : T → Staircase) (keeper : Keeper) → (wanting ≡ failing → ⊥) → keeper.live → HasFared failing wanting table_of (Err wanting) keeper keeper
fared_none failing wanting table_of keeper apart live = record { live = tt; no_fault = tt; of_table = tt; failed = λ e. absurd (apart (cc)); dead = λ e. absurd (apart (cc)); memory = λ e. refl; lives = λ e. live }

pub fared_put : {K : Type 0} (telling : K → Keeper) (m : Module) (start : List Entry) (old new : K) (before after : Staircase) (q : Placed) (result : Result (Unit {0}) KeepFault) → OnOk result (HasPut m start (telling old) (telling new) before after q) → (result ≡ Err Failed → HasRisen (telling old).faults (telling new).faults) → (result ≡ Err Failed → (telling new).live → ⊥) → (result ≡ Err Memory → new ≡ old) → (telling old).live → HasFared Failed Memory (λ _. after) result (telling old) (telling new)
fared_put telling m start old new before after q (Ok x) put failed dead memory live = record { live = put.live; no_fault = put.no_fault; of_table = put.of_table; failed = failed; dead = dead; memory = λ e. absurd (cc); lives = λ e. absurd (cc) }
fared_put {K} telling m start old new before after q (Err x) put failed dead memory live = record {
  live = tt;
  no_fault = tt;
  of_table = tt;
  failed = failed;
  dead = dead;
  memory = λ e. ap (λ (k : K). (telling k).faults) (memory e);
  lives = λ e. subst (λ (k : K). (telling k).live) (sym (memory e)) live;
}
