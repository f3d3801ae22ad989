use Rattle.std.proofs.Common.{◌≡◌, [], ◌∷◌, Err, sym, ◌∙◌, ap, subst}
use Rattle.std.specs.Arc.{arc_value}
use Rattle.std.proofs.lemmas.Option.{IfSome_then}
use Rattle.resolution_laws.specs.Start.{IsOf}
use Rattle.square.specs.declared.keep.KeepFault.{KeepFault}
use Rattle.square.specs.declared.keep.KeepFault.TheVariants.{Failed, Memory}
use Rattle.square.specs.Squares.{Placed, over, entry_of}
use Rattle.square.specs.Tables.{Staircase, with_square}
use Rattle.square.specs.Keeping.{IsNextIn, HasKept}
use Rattle.square.proofs.Growing.{IsNextIn-table, IsKeeperOf-more}
use Rattle.square.proofs.Kept.{IsUnmoved, IsUnmoved-same, HasKept-one}
use Rattle.square.proofs.Puts.{on_err, same_self, same_room, not_put, not_kept}
use Rattle.square.proofs.putting.put.Given.{Over}
use Rattle.square.proofs.putting.put.Goals as goal
use Rattle.square.proofs.putting.put.Goals.{After-drop-square-in_err-keep}

pub returns-in_default-clause-err : goal.returns-in_default-clause-err
returns-in_default-clause-err g c =
    let keeper = c.args.keeper.now in
    not_put _ _ _ c.args.table.now c.args.table.now (same_self c.args.table.now) (record { images = g.met.K.Keep.image_is_kept keeper c.requires.live; earlier = g.met.K.Keep.since_earlier keeper }) c.requires.of_table

pub returns-in_err-reserve-clause-err : goal.returns-in_err-reserve-clause-err
returns-in_err-reserve-clause-err g c =
    let keeper = c.args.keeper.now in
    on_err _ _ (not_put _ _ _ c.args.table.now c.reserve.new.self (same_room _ _ _ c.reserve.ensures.same) (record { images = g.met.K.Keep.image_is_kept keeper c.requires.live; earlier = g.met.K.Keep.since_earlier keeper }) c.requires.of_table)

pub keep-requires-clause-next : goal.keep-requires-clause-next
keep-requires-clause-next g c =
    let is : c.deref.result.now ≡ c.args.square = c.deref.ensures ∙ c.in-Ok.ensures.ok in
    IfSome_then (g.K.Keep.telling c.args.keeper.now).kept c.requires.of_table.holds (λ list holds. subst (IsNextIn list) (sym is) (IsNextIn-table list c.args.table.now.rows c.args.square holds c.requires.next))

-- a square that the keeper refused is not kept
unkept : (g : Over) (c : After-drop-square-in_err-keep g) (fault : KeepFault) → c.keep.result ≡ Err fault → (g.K.Keep.telling c.keep.new.self).kept ≡ (g.K.Keep.telling c.args.keeper.now).kept
unkept g c Failed e = c.keep.ensures.unput e
unkept g c Memory e = ap (λ k. (g.K.Keep.telling k).kept) (c.keep.ensures.memory e)

unmoved : (g : Over) (c : After-drop-square-in_err-keep g) (fault : KeepFault) → c.keep.result ≡ Err fault → IsUnmoved (g.K.Keep.telling c.args.keeper.now) (g.K.Keep.telling c.keep.new.self)
unmoved g c Failed e = λ live. absurd (c.keep.ensures.dead e live)
unmoved g c Memory e = IsUnmoved-same g.K.Keep.telling c.args.keeper.now c.keep.new.self (g.met.K.Keep.image_is_kept c.args.keeper.now c.requires.live) (c.keep.ensures.memory e)

pub returns-in_err-keep-clause-err : goal.returns-in_err-keep-clause-err
returns-in_err-keep-clause-err g c =
    let table = c.args.table.now in
    let tried = c.keep.ensures in
    let is : c.deref.result.now ≡ c.args.square = c.deref.ensures ∙ c.in-Ok.ensures.ok in
    let P : Placed → Type 0 = λ q. IsOf (over table.resolved) table.start q.s q.above q.content in
    on_err _ _ (not_kept _ _ _ _ table c.reserve.new.self c.deref.result.now (same_room _ _ _ c.reserve.ensures.same) (subst P (sym is) c.requires.is_of)
    (record { never_fall = tried.never_fall; same_module = tried.same_module; same_start = tried.same_start; later = tried.later; between = tried.between; earlier = tried.earlier; past = tried.past; retained = tried.retained })
    c.requires.live
    (unkept g c c.in_err-keep.field-0.0 c.in_err-keep.was)
    (unmoved g c c.in_err-keep.field-0.0 c.in_err-keep.was)
    (g.met.K.Keep.since_earlier c.keep.new.self)
    c.requires.of_table)

pub returns-clause-ok : goal.returns-clause-ok
returns-clause-ok g c =
    let table = c.args.table.now in
    let after = c.push.new.self in
    let q = c.args.square in
    let a = c.deref.result.now in
    let keeper = c.keep.new.self in
    let tried = c.keep.ensures in
    let made : arc_value c.in-Ok.square ≡ q = c.in-Ok.ensures.ok in
    let is : a ≡ q = c.deref.ensures ∙ made in
    let P : Placed → Type 0 = λ x. IsOf (over table.resolved) table.start x.s x.above x.content in
    let same = c.reserve.ensures.same in
    let rows : after.rows ≡ with_square table.rows q.s q = c.in-Ok-push.ensures.rows ∙ (ap (λ (t : Staircase). with_square t.rows (arc_value c.in-Ok.square).s (arc_value c.in-Ok.square)) same ∙ ap (λ (x : Placed). with_square table.rows x.s x) made) in
    let resolved : after.resolved ≡ table.resolved = c.push.ensures.resolved ∙ ap (λ (t : Staircase). t.resolved) same in
    let start : after.start ≡ table.start = c.in-Ok-push.ensures.start ∙ (ap (λ (x : Placed). x.start) made ∙ c.requires.start) in
    let old = g.K.Keep.telling c.args.keeper.now in
    let new = g.K.Keep.telling keeper in
    let m = over table.resolved in
    let kept : HasKept m table.start old new (entry_of a ∷ []) = HasKept-one m table.start old new a (subst P (sym is) c.requires.is_of)
    (record { never_fall = tried.never_fall; same_module = tried.same_module; same_start = tried.same_start; later = tried.later; between = tried.between; earlier = tried.earlier; past = tried.past; retained = tried.retained })
    c.requires.live
    c.in_ok-keep.ensures.put
    (record { images = g.met.K.Keep.image_is_kept keeper c.in_ok-keep.ensures.live; earlier = g.met.K.Keep.since_earlier keeper }) in
    record {
      resolved = resolved;
      start_is = start;
      rows = rows;
      live = c.in_ok-keep.ensures.live;
      no_fault = c.in_ok-keep.ensures.no_fault;
      of_table = IsKeeperOf-more old new a q table after is c.requires.of_table c.in_ok-keep.ensures.put c.keep.ensures.same_module c.keep.ensures.same_start resolved start rows c.requires.row c.requires.next;
      kept = subst (λ (x : Placed). HasKept m table.start old new (entry_of x ∷ [])) is kept;
    }
