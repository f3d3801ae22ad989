use Rattle.std.proofs.Common.{◌≡◌, ℕ, ◌<◌, ℤ, pos, ◌+ℤ◌, ◌≤ℤ◌, ◌-◌, ◌^◌, false, true, List, length, get_or, None, w32, to_z, of_z, rules, sym, ap, subst, arith}
use Rattle.std.proofs.lemmas.Grind.{common_steps}
use Rattle.std.proofs.lemmas.Int.{to_z-of_z}
use Rattle.board_core.specs.declared.event.Out.{Out}
use Rattle.board_core.specs.Board.{IsSound, IsFiled, below_fronts}
use Rattle.board_core.specs.Inside.{IsBounded, has_row}
use Rattle.board_core.specs.Machine.{Squares, IsStart, stands_in, opening}
use Rattle.board_core.proofs.Filed.{opening_is_filed}
use Rattle.board_core.proofs.Histories.{opening_is_sound}
use Rattle.board_core.proofs.machine.Core.new.Goals as goal

pub fronts_of-requires-clause-start : goal.fronts_of-requires-clause-start
fronts_of-requires-clause-start c = (stands_in c.args.shape c.args.range.s c.args.range.t, subst (λ (b : ℤ). IsStart (stands_in c.args.shape c.args.range.s c.args.range.t) b c.args.start.now) (sym (to_z-of_z w32 c.args.m c.ranges.m)) c.requires.start)

pub invariant_of-result : goal.invariant_of-result
invariant_of-result c =
    let b : ℤ = to_z w32 (of_z w32 c.args.m) in
    let low : b ≡ c.args.m = to_z-of_z w32 c.args.m c.ranges.m in
    let fronts : List ℕ = c.in_ok-fronts_of.field-0 in
    let rows = c.in_ok-fronts_of.ensures.rows in
    let range = c.last_row-last.ensures.range in
    let listed : IsStart (stands_in c.args.shape c.args.range.s c.args.range.t) b c.args.start.now = subst (λ (b : ℤ). IsStart (stands_in c.args.shape c.args.range.s c.args.range.t) b c.args.start.now) (sym low) c.requires.start in
    let first = opening_is_sound b c.args.shape c.args.range.s c.args.range.t c.args.start.now listed in
    let listed_so = subst (λ (f : List (ℕ × ℤ)). IsSound (record (opening b c.args.shape c.args.range.s c.args.range.t c.args.start.now) { file = f })) (sym c.of.ensures) first in
    let filled = subst (λ (d : Squares). IsSound (record (opening b c.args.shape c.args.range.s c.args.range.t c.args.start.now) { done = d; file = c.of.result })) (sym c.in_ok-fronts_of.ensures.squares) listed_so in
    let sound = subst (λ (l : List Out). IsSound (record { shape = c.args.shape; rows = c.args.range.s; degrees = c.args.range.t; bottom = b; done = below_fronts fronts; out = l; failed = None; file = c.of.result; cause = None; running = true })) (sym c.new.ensures.items) filled in
    let file = opening_is_filed b c.args.shape c.args.range.s c.args.range.t c.args.start.now listed in
    let file_so = subst (λ (f : List (ℕ × ℤ)). IsFiled (record (opening b c.args.shape c.args.range.s c.args.range.t c.args.start.now) { file = f })) (sym c.of.ensures) file in
    let file_filled = subst (λ (d : Squares). IsFiled (record (opening b c.args.shape c.args.range.s c.args.range.t c.args.start.now) { done = d; file = c.of.result })) (sym c.in_ok-fronts_of.ensures.squares) file_so in
    let filed = subst (λ (l : List Out). IsFiled (record { shape = c.args.shape; rows = c.args.range.s; degrees = c.args.range.t; bottom = b; done = below_fronts fronts; out = l; failed = None; file = c.of.result; cause = None; running = true })) (sym c.new.ensures.items) file_filled in
    let long_aside : c.args.range.s < length c.in_ok-none.field-0 = omega (arith, c.in_ok-none.ensures.rows, c.from-2.ensures) in
    let fits = subst (λ (b : ℤ). (b +ℤ pos c.args.range.t) ≤ℤ pos (2 ^ 31 - 1)) (sym low) c.requires.fits in
    let bounded : IsBounded c.args.range.s c.args.range.t b (length fronts) = record { rows = omega arith; degrees = search rules; fits = fits } in
    let long : c.args.range.s < length c.in_ok-vec.field-0.items = omega (arith, c.in_ok-vec.ensures.len, c.from.ensures) in
    let marks : (i : ℕ) → get_or c.in_ok-vec.field-0.items i false ≡ has_row c.new.result.items i = λ i. let items = c.in_ok-vec.ensures.items in let none = ap (λ (l : List Out). has_row l i) c.new.ensures.items in grind (arith, common_steps) in
    record { sound = sound; filed = filed; bounded = bounded; marked = record { long = long; marks = marks }; kept_aside = record { long = long_aside; none = λ r. c.in_ok-none.ensures.squares; file = λ r. cc } }
