use Rattle.std.proofs.Common.{◌≡◌, ℕ, false, set, rules, sym, subst}
use Rattle.std.proofs.lemmas.Fn.{filter_same}
use Rattle.board_core.specs.Inside.{IsMarked}
use Rattle.board_core.specs.Machine.{without}
use Rattle.board_core.proofs.RowsOut.{marked_without}
use Rattle.board_core.proofs.machine.take_from.Goals as goal

pub returns-clause-items : goal.returns-clause-items
returns-clause-items c = filter_same _ _ _ (λ x b f' k. search rules) _ _ c.retain.ensures.filtered

pub returns-clause-busy : goal.returns-clause-busy
returns-clause-busy c rows marked =
    let kept : c.retain.new.self.items ≡ without c.args.out.now.items c.args.s c.args.k = filter_same _ _ _ (λ x b f' k. search rules) _ _ c.retain.ensures.filtered in
    let after = marked_without c.args.busy.now.items rows c.args.out.now.items c.retain.new.self.items c.args.s c.args.k c.requires.row c.requires.alone kept marked in
    subst (λ (n : ℕ). IsMarked (set c.args.busy.now.items n false) rows c.retain.new.self.items) (sym c.from.ensures) after
