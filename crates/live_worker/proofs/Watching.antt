-- A watcher that published, or had no memory for it, may watch on.
use Rattle.std.proofs.Common.{◌≡◌, ℕ, List, Option, refl, sym, ◌∙◌, ap, arith}
use Rattle.square.specs.Tables.{Staircase}
use Rattle.turn_lock.specs.Turns.{TurnId, Continues as Goes}
use Rattle.square_board.specs.declared.opening.Opening.{Opening}
use Rattle.square_board.specs.Stocks.{StockWords}
use Rattle.square_board.specs.Boards.{IsPassOf, IsSamePass}
use Rattle.live_view.specs.Handles.{LiveState}
use Rattle.live_view.specs.Publishing.{MayPublish}
use Rattle.live_view.proofs.MayPublish.{may_still}
use Rattle.live_worker.specs.declared.reports.Reports.{Reports}
use Rattle.live_worker.specs.declared.role.Watcher.{Watcher}
use Rattle.live_worker.specs.Inside.Roles.{HasTold, CanWatch, HasWatched}
use Rattle.live_worker.proofs.Telling.{told_none, told_twice}

module _ {T O I M E : Type 0} (words : StockWords T O I M) (table_of : O → Staircase) (written : E → Option (List ℕ)) (faults : E → ℕ) (board : TurnId (Opening T)) where
  -- it may watch on if it may publish and its reader is its writer's still
  pub watched : (old new : Watcher T E O I M) → CanWatch words table_of board old → MayPublish words table_of board new.pass new.writer → IsSamePass old.pass new.pass → new.pass.own ≡ old.pass.own → new.writer.known.book ≡ old.writer.known.book → new.reader.known.book ≡ old.reader.known.book → new.reader.range ≡ old.reader.range → HasTold written faults old.reports new.reports → HasWatched words table_of written faults board old new
  watched old new can may same own writer reader range told = record {
    can = record {
      may = may;
      none = own ∙ can.none;
      reader = reader ∙ (can.reader ∙ sym writer);
      range = range ∙ can.range;
      all = told.all ∙ can.all;
      within = told.within can.within;
    };
    same = same;
    told = told;
  }

  pub watched_self : (w : Watcher T E O I M) → CanWatch words table_of board w → HasWatched words table_of written faults board w w
  watched_self w can = record { can = can; same = record { number = refl; joined = refl }; told = told_none written faults w.reports }

  pub watched_twice : (a b c : Watcher T E O I M) → HasWatched words table_of written faults board a b → HasWatched words table_of written faults board b c → HasWatched words table_of written faults board a c
  watched_twice a b c p q = record {
    can = q.can;
    same = record { number = q.same.number ∙ p.same.number; joined = q.same.joined ∙ p.same.joined };
    told = told_twice written faults a.reports b.reports c.reports p.told q.told;
  }

-- a watcher whose pass took in another may watch still
pub can_after_join : {T O I M E : Type 0} (words : StockWords T O I M) (table_of : O → Staircase) (board : TurnId (Opening T)) (old new : Watcher T E O I M) → CanWatch words table_of board old → IsPassOf board new.pass → new.pass.own ≡ old.pass.own → Goes old.pass new.pass.seen → new.writer ≡ old.writer → new.reader ≡ old.reader → new.reports ≡ old.reports → CanWatch words table_of board new
can_after_join {E} words table_of board old new can pass own goes writer reader reports = record {
  may = may_still words table_of board old.pass new.pass old.writer new.writer can.may pass goes.seen writer;
  none = own ∙ can.none;
  reader = ap (λ (r : LiveState). r.known.book) reader ∙ (can.reader ∙ sym (ap (λ (w : LiveState). w.known.book) writer));
  range = ap (λ (r : LiveState). r.range) reader ∙ can.range;
  all = ap (λ (r : Reports E). r.all) reports ∙ can.all;
  within = let all = ap (λ (r : Reports E). r.all) reports in let most = ap (λ (r : Reports E). r.most) reports in let low = can.within in omega arith;
}
