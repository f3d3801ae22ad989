use Rattle.std.proofs.Common.{ℕ, Result, Ok, Err, refl, sym, subst}
use Rattle.std.specs.Prelude.{IfSome, OnErr}
use Rattle.board_core.specs.declared.event.Cause.{Cause}
use Rattle.square.specs.Keeping.{HoldsTable}
use Rattle.square.proofs.Kept.{IsSettled}
use Rattle.square_board.specs.Workers.{HasMade, HasMadeBy}
use Rattle.square_worker.specs.Kept.{KeptTable, kept_words}
use Rattle.square_worker.proofs.Ended.{IsGivenOf, made_resolved, made_untouched, made_worked}
use Rattle.square_worker.proofs.resolve.outcome.Goals as goal

pub returns-in-Ok-clause-resolved : goal.returns-in-Ok-clause-resolved
returns-in-Ok-clause-resolved g c first range live made =
    let telling = g.K.Keep.telling in
    let last : KeptTable g.row.K.Denot = record { table = c.last.inside.table; keeper = c.last.inside.keeper } in
    let settled : IsSettled (telling first.keeper) = record { images = g.met.K.Keep.image_is_kept first.keeper live; earlier = g.met.K.Keep.since_earlier first.keeper } in
    let here : HasMade (kept_words telling) first range c.args.made last = subst (HasMade (kept_words telling) first range c.args.made) (sym c.last.view_is) made in
    made_resolved telling first last range c.args.made here settled live (Ok last.table) c.front-front.ensures.is_table c.last.invariant (subst (λ (r : Result (Unit {0}) Cause). IsGivenOf r last.table (Ok last.table)) (sym c.in-Ok.is) refl)

pub returns-in-Ok-clause-untouched : goal.returns-in-Ok-clause-untouched
returns-in-Ok-clause-untouched g c first range live made =
    let telling = g.K.Keep.telling in
    let last : KeptTable g.row.K.Denot = record { table = c.last.inside.table; keeper = c.last.inside.keeper } in
    let settled : IsSettled (telling first.keeper) = record { images = g.met.K.Keep.image_is_kept first.keeper live; earlier = g.met.K.Keep.since_earlier first.keeper } in
    made_untouched telling first last range c.args.made (subst (HasMade (kept_words telling) first range c.args.made) (sym c.last.view_is) made) settled live

pub returns-in-Ok-clause-only : goal.returns-in-Ok-clause-only
returns-in-Ok-clause-only g c = subst (λ (r : Result (Unit {0}) Cause). OnErr r ⊥) (sym c.in-Ok.is) tt

pub returns-in-Err-clause-resolved : goal.returns-in-Err-clause-resolved
returns-in-Err-clause-resolved g c first range live made =
    let telling = g.K.Keep.telling in
    let last : KeptTable g.row.K.Denot = record { table = c.last.inside.table; keeper = c.last.inside.keeper } in
    let settled : IsSettled (telling first.keeper) = record { images = g.met.K.Keep.image_is_kept first.keeper live; earlier = g.met.K.Keep.since_earlier first.keeper } in
    let here : HasMade (kept_words telling) first range c.args.made last = subst (HasMade (kept_words telling) first range c.args.made) (sym c.last.view_is) made in
    made_resolved telling first last range c.args.made here settled live (Err c.in-Err.cause) c.front-front.ensures.is_table c.last.invariant (subst (λ (r : Result (Unit {0}) Cause). IsGivenOf r last.table (Err c.in-Err.cause)) (sym c.in-Err.is) refl)

pub returns-in-Err-clause-untouched : goal.returns-in-Err-clause-untouched
returns-in-Err-clause-untouched g c first range live made =
    let telling = g.K.Keep.telling in
    let last : KeptTable g.row.K.Denot = record { table = c.last.inside.table; keeper = c.last.inside.keeper } in
    let settled : IsSettled (telling first.keeper) = record { images = g.met.K.Keep.image_is_kept first.keeper live; earlier = g.met.K.Keep.since_earlier first.keeper } in
    made_untouched telling first last range c.args.made (subst (HasMade (kept_words telling) first range c.args.made) (sym c.last.view_is) made) settled live

pub returns-in-Ok-clause-worked : goal.returns-in-Ok-clause-worked
returns-in-Ok-clause-worked g c workers first range live made =
    let telling = g.K.Keep.telling in
    let last : KeptTable g.row.K.Denot = record { table = c.last.inside.table; keeper = c.last.inside.keeper } in
    let settled : IsSettled (telling first.keeper) = record { images = g.met.K.Keep.image_is_kept first.keeper live; earlier = g.met.K.Keep.since_earlier first.keeper } in
    made_worked telling workers first last range c.args.made _ (λ has. subst (λ (r : Result (Unit {0}) Cause). OnErr r ⊥) (sym c.in-Ok.is) tt) (subst (HasMadeBy (kept_words telling) workers first range c.args.made) (sym c.last.view_is) made) settled

pub returns-in-Err-clause-worked : goal.returns-in-Err-clause-worked
returns-in-Err-clause-worked g c workers first range live made =
    let telling = g.K.Keep.telling in
    let last : KeptTable g.row.K.Denot = record { table = c.last.inside.table; keeper = c.last.inside.keeper } in
    let settled : IsSettled (telling first.keeper) = record { images = g.met.K.Keep.image_is_kept first.keeper live; earlier = g.met.K.Keep.since_earlier first.keeper } in
    made_worked telling workers first last range c.args.made _ (λ has. absurd has) (subst (HasMadeBy (kept_words telling) workers first range c.args.made) (sym c.last.view_is) made) settled

pub returns-in-Ok-clause-holds : goal.returns-in-Ok-clause-holds
returns-in-Ok-clause-holds g c = subst (λ (x : KeptTable g.row.K.Denot). IfSome (g.K.Keep.telling c.last.inside.keeper).kept (λ list. HoldsTable list x.table.rows)) c.last.view_is c.last.invariant.holds

pub returns-in-Err-clause-holds : goal.returns-in-Err-clause-holds
returns-in-Err-clause-holds g c = subst (λ (x : KeptTable g.row.K.Denot). IfSome (g.K.Keep.telling c.last.inside.keeper).kept (λ list. HoldsTable list x.table.rows)) c.last.view_is c.last.invariant.holds
