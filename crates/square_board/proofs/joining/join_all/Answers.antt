use Rattle.std.proofs.Common.{◌≡◌, ℕ, suc, [], ◌∷◌, ◌++◌, length, Option, sym, ap, subst, ◌∙◌, arith}
use Rattle.std.specs.Option.{option_to_list}
use Rattle.board_core.specs.declared.event.Entry.{Entry as Event}
use Rattle.turn_lock.specs.Turns.{PassState, TurnId, HasBetween}
use Rattle.turn_lock.proofs.Numbers.{has_one, has_previous, has_all}
use Rattle.square_board.specs.declared.opening.Opening.{Opening}
use Rattle.square_board.specs.Workers.{HasPairs}
use Rattle.square_board.proofs.Passes.{others_are, last_is, one_more, IsJoining, joining_begins, joining_goes_on, joining_ends, joined_pairs}
use Rattle.square_board.proofs.joining.join_all.Goals as goal

pub loop-other-init : goal.loop-other-init
loop-other-init g c =
    let O : Type 0 = Opening g.row.T.Denot in
    let P : Type 0 = PassState O Event in
    let board = c.args.board.now in
    let old = c.args.passes.items in
    let new = c.pop.new.self.items in
    let last = c.in-Some.last in
    let items : old ≡ new ++ last ∷ [] = c.pop.ensures.items ∙ ap (λ (o : Option P). new ++ option_to_list o) c.in-Some.is in
    let at = last_is board old new last c.requires.passes items in
    let count : suc (length new) ≡ board.passes = sym (one_more board old new last c.requires.passes items) ∙ c.requires.count in
    record {
      last = at.pass_of;
      passes = others_are board old new last c.requires.passes items;
      has = subst (λ (n : ℕ). HasBetween last (length new) n) count (has_one last (length new) at.number);
      joining = joining_begins old new last items at.number;
    }

pub loop-other-preserved : goal.loop-other-preserved
loop-other-preserved g c =
    let O : Type 0 = Opening g.row.T.Denot in
    let P : Type 0 = PassState O Event in
    let board = c.args.board.now in
    let old = c.loop-other.passes.items in
    let new = c.pop-in-loop-other.new.self.items in
    let other = c.in-Some-pop.other in
    let last = c.loop-other.last in
    let items : old ≡ new ++ other ∷ [] = c.pop-in-loop-other.ensures.items ∙ ap (λ (o : Option P). new ++ option_to_list o) c.in-Some-pop.is in
    let are = c.loop-other.invariant.passes in
    let more : length old ≡ suc (length new) = one_more board old new other are items in
    let has : HasBetween last (suc (length new)) board.passes = subst (λ (n : ℕ). HasBetween last n board.passes) more c.loop-other.invariant.has in
    let both = has_previous last other c.join.new.pass.seen (length new) board.passes has (last_is board old new other are items).number in
    record {
      last = c.join.ensures.pass;
      passes = others_are board old new other are items;
      has = subst (λ (p : P). HasBetween p (length new) board.passes) (sym c.join.ensures.joined) both;
      joining = subst (λ (p : P). IsJoining c.args.passes.items new p) (sym c.join.ensures.joined) (joining_goes_on c.args.passes.items old new last other c.join.new.pass.seen c.loop-other.invariant.joining items (last_is board old new other are items).number c.join.ensures.continues c.join.ensures.other_continues);
    }

pub returns-clause-all : goal.returns-clause-all
returns-clause-all g c =
    let O : Type 0 = Opening g.row.T.Denot in
    let P : Type 0 = PassState O Event in
    let last = c.loop-other.last in
    let none : length c.loop-other.passes.items ≡ 0 = let v = c.pop-in-loop-other.ensures.variant.1 in let n = c.in_default-pop.not-Some in let i = c.in_default-pop.is in let s = c.pop-in-loop-other.ensures.cases in grind arith in
    has_all last c.args.board.now.passes (subst (λ (n : ℕ). HasBetween last n c.args.board.now.passes) none c.loop-other.invariant.has) (ap (λ (t : TurnId O). t.passes) c.loop-other.invariant.last.turn)

pub returns-clause-joined : goal.returns-clause-joined
returns-clause-joined g c =
    let none : length c.loop-other.passes.items ≡ 0 = let v = c.pop-in-loop-other.ensures.variant.1 in let n = c.in_default-pop.not-Some in let i = c.in_default-pop.is in let s = c.pop-in-loop-other.ensures.cases in grind arith in
    joining_ends c.args.passes.items c.loop-other.passes.items c.loop-other.last none c.loop-other.invariant.joining

pub returns-clause-pairs : goal.returns-clause-pairs
returns-clause-pairs g c =
    subst (λ (n : ℕ). HasPairs n c.loop-other.last) c.requires.count (joined_pairs c.args.board.now c.args.passes.items c.loop-other.last c.requires.passes (returns-clause-joined g c))
