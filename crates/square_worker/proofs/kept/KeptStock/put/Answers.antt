use Rattle.std.proofs.Common.{◌≡◌, ◌<◌, length, Result, sym, subst}
use Rattle.std.specs.Result.{OnOk}
use Rattle.board_core.specs.declared.event.Cause.{Cause}
use Rattle.square.specs.Squares.{over}
use Rattle.square.specs.Tables.{IsTable, with_square}
use Rattle.square.specs.Keeping.{HasPut}
use Rattle.square_board.specs.Stocks.{HasOneMore, degree_of}
use Rattle.square_worker.specs.Kept.{KeptTable, HasGiven, without_squares, kept_words}
use Rattle.square_worker.proofs.Placed.{there, given, one_more}
use Rattle.square_worker.proofs.kept.KeptStock.put.Goals.{in-Ok, in-Err-Failed, in-Err-Memory}
use Rattle.square_worker.proofs.kept.KeptStock.put.Goals as goal

pub put-requires-clause-row : goal.put-requires-clause-row
put-requires-clause-row g c =
    let T : Type 0 = KeptTable g.row.K.Denot in
    let is : IsTable c.args.self.now.table = subst (λ (x : T). IsTable x.table) c.self.view_is c.front-front.ensures.is_table in
    subst (λ (x : T). c.args.made.s < length x.table.rows) (sym c.self.view_is) (there g.K.Keep.telling c.args.self.now c.args.self.now c.args._inputs.now c.args.made c.args.s c.args._above is c.requires.next c.requires.inputs c.requires.made)

pub returns-clause-fronts : goal.returns-clause-fronts
returns-clause-fronts g c =
    let T : Type 0 = KeptTable g.row.K.Denot in
    let telling = g.K.Keep.telling in
    let old : T = c.args.self.now in
    let new : T = record { table = c.put.new.table; keeper = c.put.new.keeper } in
    let is : IsTable old.table = subst (λ (x : T). IsTable x.table) c.self.view_is c.front-front.ensures.is_table in
    let P : Result (Unit {0}) Cause → Type 0 = λ r. OnOk r (HasOneMore c.args.s ((kept_words telling).fronts old) ((kept_words telling).fronts new)) in
    elim c.match-put.branch [
      | in-Ok w ↦
          let rows : new.table.rows ≡ with_square old.table.rows c.args.made.s c.args.made = subst (λ (x : T). new.table.rows ≡ with_square x.table.rows c.args.made.s c.args.made) c.self.view_is w.in-Ok.ensures.ok.rows in
          subst P (sym w.result-is) (one_more telling old new c.args._inputs.now c.args.made c.args.s c.args._above is c.requires.next c.requires.inputs c.requires.made rows)
      | in-Err-Failed w ↦ subst P (sym w.result-is) tt
      | in-Err-Memory w ↦ subst P (sym w.result-is) tt
    ]

pub returns-clause-gives : goal.returns-clause-gives
returns-clause-gives g c =
    let T : Type 0 = KeptTable g.row.K.Denot in
    let telling = g.K.Keep.telling in
    let old : T = c.args.self.now in
    let new : T = record { table = c.put.new.table; keeper = c.put.new.keeper } in
    let is : IsTable old.table = subst (λ (x : T). IsTable x.table) c.self.view_is c.front-front.ensures.is_table in
    let P : Result (Unit {0}) Cause → Type 0 = λ r. OnOk r (HasGiven telling old new c.args.s (degree_of (kept_words telling) (without_squares old.table) c.args._above)) in
    elim c.match-put.branch [
      | in-Ok w ↦
          let put : HasPut (over old.table.resolved) old.table.start (telling old.keeper) (telling new.keeper) old.table new.table c.args.made =
          subst (λ (x : T). HasPut (over x.table.resolved) x.table.start (telling x.keeper) (telling new.keeper) x.table new.table c.args.made) c.self.view_is w.in-Ok.ensures.ok in
          subst P (sym w.result-is) (given telling old new c.args._inputs.now c.args.made c.args.s c.args._above is c.requires.next c.requires.inputs c.requires.made put)
      | in-Err-Failed w ↦ subst P (sym w.result-is) tt
      | in-Err-Memory w ↦ subst P (sym w.result-is) tt
    ]
