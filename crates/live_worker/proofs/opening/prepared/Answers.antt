use Rattle.std.proofs.Common.{◌≡◌, ◌+◌, ◌≤ℤ◌, ◌+ℤ◌, ℤ, pos, ◌∙◌, to_z, of_z, w32, sym, ap, subst, arith}
use Rattle.std.proofs.lemmas.Int.{to_z-of_z}
use Rattle.std.proofs.lemmas.Option.{get_or_from_slice_get}
use Rattle.board_core.specs.declared.event.Entry.{Entry as Event}
use Rattle.turn_lock.specs.Turns.{PassState, new_pass}
use Rattle.square_board.specs.declared.opening.Opening.{Opening}
use Rattle.square_board.proofs.Made.{new_are}
use Rattle.live_worker.proofs.opening.prepared.Goals as goal

pub new-requires-clause-fits : goal.new-requires-clause-fits
new-requires-clause-fits g c = subst (λ (b : ℤ). (b +ℤ pos c.args.range.t) ≤ℤ pos 2147483647) (sym (to_z-of_z w32 c.bottom-bottom.result (record { sfits = c.bottom-bottom.type_inv }))) (c.bottom-bottom.ensures.fits c.args.range c.requires.reached)

pub returns-in-Ok-new-2-clause-opened : goal.returns-in-Ok-new-2-clause-opened
returns-in-Ok-new-2-clause-opened g c =
    let made = c.in-Ok-new-2.ensures in
    let views = c.in-Ok-new.ensures in
    let more : c.in-Some.count ≡ c.args.workers + 1 = c.in-Some.ensures.1 in
    let passed : to_z w32 (of_z w32 c.bottom-bottom.result) ≡ c.bottom-bottom.result = to_z-of_z w32 c.bottom-bottom.result (record { sfits = c.bottom-bottom.type_inv }) in
    record {
      first_is = made.opened.first_is;
      of_range = made.opened.range_is;
      as_many = made.as_many ∙ more;
      count = made.count ∙ more;
      fresh = λ i d h. ap (λ (p : PassState (Opening g.row.T.Denot) Event). p.own) (get_or_from_slice_get c.in-Ok-new-2.passes.items i (new_pass c.in-Ok-new-2.board i) d (made.passes i (let n = made.count in omega arith)));
      passes = new_are c.in-Ok-new-2.board c.in-Ok-new-2.passes.items (λ i h. made.passes i (let n = made.count in omega arith));
      empty = c.in-Ok.ensures.items;
      room = let room = c.in-Ok.ensures.capacity in omega arith;
      range_is = views.range;
      bottom_is = views.bottom ∙ (passed ∙ (c.bottom-bottom.ensures.bottom ∙ sym (ap (λ (x : g.row.T.Denot). g.T.Stock.words.bottom (g.T.Stock.words.subject x)) made.opened.first_is)));
      none = views.empty;
      reader_is = views.one;
    }
