-- Roles in the order of their passes, and those that are written back when they have run.
use Rattle.std.proofs.Common.{◌≡◌, ℕ, suc, ◌+◌, ◌-◌, ◌<◌, List, [], ◌∷◌, ◌++◌, length, take, get_or, Option, sym, ◌∙◌, ap, subst, arith, length-append, inl, inr}
use Rattle.std.specs.Prelude.{reverse}
use Rattle.std.proofs.Math.ListN.{get_or-append}
use Rattle.std.proofs.Math.Seq.{get_or-append_seam, take-append_seam}
use Rattle.std.proofs.lemmas.List.{get_or-reverse, length-reverse}
use Rattle.std.proofs.lemmas.Bool.{cases_lt}
use Rattle.square.specs.Tables.{Staircase}
use Rattle.turn_lock.specs.Turns.{TurnId}
use Rattle.square_board.specs.declared.opening.Opening.{Opening}
use Rattle.square_board.specs.Stocks.{StockWords}
use Rattle.live_worker.specs.declared.reports.Reports.{Reports}
use Rattle.live_worker.specs.declared.role.Role.{Role}
use Rattle.live_worker.specs.declared.role.Role.TheVariants.{Work, Watch}
use Rattle.live_worker.specs.Inside.Roles.{CanRun, HasRun, IsRoleAt, AreRoles, AreRolesDown}
use Rattle.board_core.proofs.Pairs.{pairs_leave_none}
use Rattle.square_board.proofs.Working.{worked_pairs}
use Rattle.live_worker.proofs.Telling.{told_twice}

module _ {T O I M E : Type 0} (words : StockWords T O I M) (table_of : O → Staircase) (written : E → Option (List ℕ)) (faults : E → ℕ) (first : Reports E) (board : TurnId (Opening T)) (n : ℕ) where
  pub down_more : (roles : List (Role T E O I M)) (role : Role T E O I M) → AreRolesDown words table_of written faults first board n roles → IsRoleAt words table_of written faults first board (n - length roles) n role → AreRolesDown words table_of written faults first board n (roles ++ role ∷ [])
  down_more roles role are is k d less = elim (cases_lt k (length roles)) [
    | inl low ↦ subst (λ (j : Role T E O I M). IsRoleAt words table_of written faults first board (n - k) n j) (sym (get_or-append roles (role ∷ []) d k low)) (are k d low)
    | inr high ↦
        let whole = length-append roles (role ∷ []) in
        let here : k ≡ length roles = omega arith in
        subst (λ (i : ℕ). IsRoleAt words table_of written faults first board (n - i) n (get_or (roles ++ role ∷ []) i d)) (sym here) (subst (λ (j : Role T E O I M). IsRoleAt words table_of written faults first board (n - length roles) n j) (sym (get_or-append_seam roles role [] d)) is)
  ]

  pub reversed : (roles : List (Role T E O I M)) → AreRolesDown words table_of written faults first board n roles → length roles ≡ n + 1 → AreRoles words table_of written faults first board n (reverse roles)
  reversed roles are long i d less =
      let size = length-reverse roles in
      let at = get_or-reverse roles i d (omega arith) in
      let number : n - (length roles - 1 - i) ≡ i = omega arith in
      subst (λ (j : Role T E O I M). IsRoleAt words table_of written faults first board i n j) (sym at) (subst (λ (m : ℕ). IsRoleAt words table_of written faults first board m n (get_or roles (length roles - 1 - i) d)) number (are (length roles - 1 - i) d (omega arith)))

  pub others_are : (old new : List (Role T E O I M)) (role : Role T E O I M) → AreRoles words table_of written faults first board n old → old ≡ new ++ role ∷ [] → AreRoles words table_of written faults first board n new
  others_are old new role are items i d less =
      let whole = length-append new (role ∷ []) in
      let all : AreRoles words table_of written faults first board n (new ++ role ∷ []) = subst (AreRoles words table_of written faults first board n) items are in
      subst (λ (j : Role T E O I M). IsRoleAt words table_of written faults first board i n j) (get_or-append new (role ∷ []) d i less) (all i d (omega arith))

  pub last_is : (old new : List (Role T E O I M)) (role : Role T E O I M) → AreRoles words table_of written faults first board n old → old ≡ new ++ role ∷ [] → IsRoleAt words table_of written faults first board (length new) n role
  last_is old new role are items =
      let whole = length-append new (role ∷ []) in
      let all : AreRoles words table_of written faults first board n (new ++ role ∷ []) = subst (AreRoles words table_of written faults first board n) items are in
      subst (λ (j : Role T E O I M). IsRoleAt words table_of written faults first board (length new) n j) (get_or-append_seam new role [] role) (all (length new) role (omega arith))

  can_at : (i : ℕ) (role : Role T E O I M) → IsRoleAt words table_of written faults first board i n role → CanRun words table_of board role
  can_at i (Work pass) is = (is.0, pairs_leave_none pass.own is.3)
  can_at i (Watch w) is = is.0

  pub can_run : (roles : List (Role T E O I M)) → AreRoles words table_of written faults first board n roles → (i : ℕ) (d : Role T E O I M) → i < length roles → CanRun words table_of board (get_or roles i d)
  can_run roles are i d less = can_at i (get_or roles i d) (are i d less)

  ran_at : (i : ℕ) (old new : Role T E O I M) → IsRoleAt words table_of written faults first board i n old → HasRun words table_of written faults board old new → IsRoleAt words table_of written faults first board i n new
  ran_at i (Work old) (Work new) is ran = (ran.0, ran.1.number ∙ is.1, is.2, worked_pairs old new is.3 ran.2)
  ran_at i (Work old) (Watch new) is ran = absurd ran
  ran_at i (Watch old) (Work new) is ran = absurd ran
  ran_at i (Watch old) (Watch new) is ran = (ran.can, ran.same.number ∙ is.1, is.2, told_twice written faults first old.reports new.reports is.3 ran.told)

  pub ran_are : (old new : List (Role T E O I M)) → length new ≡ length old → AreRoles words table_of written faults first board n old → ((i : ℕ) → i < length old → (d : Role T E O I M) → HasRun words table_of written faults board (get_or old i d) (get_or new i d)) → AreRoles words table_of written faults first board n new
  ran_are old new same are ran i d less =
      let low : i < length old = omega arith in
      ran_at i (get_or old i d) (get_or new i d) (are i d low) (ran i low d)

  -- those that were written back over them
  pub written_back : (roles behind : List (Role T E O I M)) (m : ℕ) → m ≡ length roles → n ≡ length roles - 1 → AreRoles words table_of written faults first board n roles → AreRoles words table_of written faults first board (length (take m (roles ++ behind)) - 1) (take m (roles ++ behind))
  written_back roles behind m long at are =
      let same : take m (roles ++ behind) ≡ roles = ap (λ (k : ℕ). take k (roles ++ behind)) long ∙ take-append_seam roles behind in
      subst (λ (l : List (Role T E O I M)). AreRoles words table_of written faults first board (length l - 1) l) (sym same) (subst (λ (k : ℕ). AreRoles words table_of written faults first board k roles) at are)

pub one_more : {X : Type 0} (old new : List X) (last : X) → old ≡ new ++ last ∷ [] → length old ≡ suc (length new)
one_more {X} old new last items = let l = length-append new (last ∷ []) in let e = ap (λ (k : List X). length k) items in omega arith
