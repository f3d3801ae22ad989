use Rattle.std.proofs.Common.{not, refl, ap}
use Rattle.f2_choice.specs.Inside.Tables.{place_in, is_vacant}
use Rattle.f2_choice.proofs.Loops.{filter_more_true, filter_more_false}
use Rattle.f2_choice.proofs.parts.vacant_places.Goals as goal
use Rattle.f2_choice.proofs.parts.vacant_places.Goals.{then-is_none+in_ok-push, else-is_none}

pub loop-e-preserved : goal.loop-e-preserved
loop-e-preserved c =
    let table = c.args.table.now in
    let e = c.loop-e.e in
    elim c.if-is_none.branch [
      | then-is_none+in_ok-push w ↦ rw w.places-is (filter_more_true (place_in table) (is_vacant table) e c.loop-e.places.items w.push.new.self.items (place_in table e) c.loop-e.invariant (ap not w.if-is_none.ensures) w.in_ok-push.ensures.items refl)
      | else-is_none w ↦ rw w.places-is (filter_more_false (place_in table) (is_vacant table) e c.loop-e.places.items c.loop-e.invariant (ap not w.if-is_none.ensures))
    ]
