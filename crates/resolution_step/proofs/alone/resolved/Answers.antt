use Rattle.std.proofs.Common.{◌≡◌, ℕ, ◌+◌, List, [], length, replicate, sym, subst, ap, ◌∙◌, inl, inr, arith}
use Rattle.std.proofs.lemmas.Bool.{cases_lt}
use Rattle.std.proofs.lemmas.List.{get_or-replicate, get_or_past, length-replicate}
use Rattle.std.proofs.lemmas.Result.{IfOk-at_ok}
use Rattle.bidegree.specs.declared.range.TheConstants.{MAX_S}
use Rattle.finite_module.specs.Checked.{Checked}
use Rattle.resolution_laws.specs.Resolution.{IsCanonicalTable}
use Rattle.resolution_laws.specs.Start.{Entry, IsCanonicalStart}
use Rattle.square.specs.Squares.{Placed, over}
use Rattle.square.specs.Tables.{Staircase, row_in, plain_rows, cut, IsThrough}
use Rattle.square.specs.Growing.{HasGrown}
use Rattle.resolution_step.specs.Alone.{AreOfStart, AreNewAt, IsInRange}
use Rattle.resolution_step.proofs.alone.resolved.Goals as goal

pub returns-in-Ok-clause-module_is : goal.returns-in-Ok-clause-module_is
returns-in-Ok-clause-module_is c =
    let grown = IfOk-at_ok (HasGrown c.in_ok-table.table) c.in-Ok.is c.resolve_alone-made.ensures.resolved.grown in
    grown.resolved ∙ ap (λ (t : Staircase). t.resolved) c.in_ok-table.ensures

pub returns-in-Ok-clause-unread : goal.returns-in-Ok-clause-unread
returns-in-Ok-clause-unread c =
    let grown = IfOk-at_ok (HasGrown c.in_ok-table.table) c.in-Ok.is c.resolve_alone-made.ensures.resolved.grown in
    grown.start ∙ ap (λ (t : Staircase). t.start) c.in_ok-table.ensures

pub returns-in-Ok-clause-through : goal.returns-in-Ok-clause-through
returns-in-Ok-clause-through c = IfOk-at_ok (λ (more : Staircase). IsThrough c.args.range more.rows) c.in-Ok.is c.resolve_alone-made.ensures.resolved.through

none_at : (n s : ℕ) → length (row_in (replicate n []) s) ≡ 0
none_at n s = ap length (elim (cases_lt s n) [ inl l ↦ get_or-replicate {A = List Placed} n s [] [] l | inr l ↦ get_or_past (replicate {A = List Placed} n []) s [] (omega (arith, length-replicate {A = List Placed} n [])) ])

pub returns-in-Ok-clause-only : goal.returns-in-Ok-clause-only
returns-in-Ok-clause-only c s k l =
    let before = c.in_ok-table.table in
    let only = IfOk-at_ok (λ (more : Staircase). AreNewAt (IsInRange c.args.range) before.rows more.rows) c.in-Ok.is c.resolve_alone-made.ensures.resolved.only in
    let none = ap (λ (t : Staircase). length (row_in t.rows s)) c.in_ok-table.ensures ∙ none_at (MAX_S + 1) s in
    only s k (omega arith) l

pub returns-in-Ok-clause-are_of_start : goal.returns-in-Ok-clause-are_of_start
returns-in-Ok-clause-are_of_start c = IfOk-at_ok AreOfStart c.in-Ok.is c.resolve_alone-made.ensures.resolved.are_of_start

pub returns-in-Ok-clause-canonical : goal.returns-in-Ok-clause-canonical
returns-in-Ok-clause-canonical c =
    let before = c.in_ok-table.table in
    let made = c.in_ok-table.ensures in
    let range = c.args.range in
    let more = c.in-Ok.table in
    let empty : IsCanonicalStart (over before.resolved) before.start = subst (λ (start : List Entry). IsCanonicalStart (over before.resolved) start) (sym (ap (λ (t : Staircase). t.start) made)) (λ s k content there. absurd (cc)) in
    let canonical = IfOk-at_ok (λ (m : Staircase). IsCanonicalTable (over before.resolved) range.s range.t (cut range (plain_rows m.rows))) c.in-Ok.is (c.resolve_alone-made.ensures.resolved.canonical empty) in
    subst (λ (m : Checked). IsCanonicalTable (over m) range.s range.t (cut range (plain_rows more.rows))) (ap (λ (t : Staircase). t.resolved) made) canonical
