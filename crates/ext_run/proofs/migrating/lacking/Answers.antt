use Rattle.std.proofs.Common.{◌≡◌, ℤ, w32, Bool, false, Option, Some, None, IfSome, inr, sym, ap, subst}
use Rattle.std.specs.Option.{option_map, is_some}
use Rattle.std.specs.Arc.{arc_value}
use Rattle.std.proofs.lemmas.Int.{to_z-of_z}
use Rattle.square.specs.Squares.{Placed}
use Rattle.square.specs.Tables.{square_at}
use Rattle.save_file.specs.Exactness.{IsInexactAt}
use Rattle.ext_run.specs.Inside.Adding.{IsLeftOut}
use Rattle.ext_run.proofs.migrating.lacking.Goals as goal

none_kept : {X Y : Type 0} (f : X → Y) (o : Option X) (q : Option Y) (b : Bool) → b ≡ is_some o → b ≡ false → option_map f o ≡ q → q ≡ None
none_kept f None q b is off kept = sym kept
none_kept f (Some x) q b is off kept = absurd (cc)

in_each : {X : Type 0} (o : Option X) (P : X → Type 0) → ((x : X) → P x) → IfSome o P
in_each None P all = tt
in_each (Some x) P all = all x

pub returns-then-not-may-clause-none : goal.returns-then-not-may-clause-none
returns-then-not-may-clause-none c =
    let now = c.args.table.now in
    let inexact : IsInexactAt now c.args.s c.args.t = subst (IsInexactAt now c.args.s) (to_z-of_z w32 c.args.t c.ranges.t) (c.in_ok-may.ensures c.if-not-may.true) in
    in_each (square_at now c.args.s c.args.t) (IsLeftOut now c.args.s c.args.t) (λ q. inr (inr inexact))

pub returns-then-are_same-clause-lacks : goal.returns-then-are_same-clause-lacks
returns-then-are_same-clause-lacks c = record {
  square = arc_value c.in-Some.square.now;
  there = subst (λ (t : ℤ). square_at c.args.table.now c.args.s t ≡ Some (arc_value c.in-Some.square.now)) (to_z-of_z w32 c.args.t c.ranges.t) (sym c.in-Some.ensures.square);
  bare =
      let here = ap (λ (x : Placed). x.quasi) c.deref.ensures in
      let none = none_kept _ c.kept_quasi.result _ c.is_some.result c.is_some.ensures c.if-is_some.false c.kept_quasi.ensures.kept in
      cc;
  kernel =
      let same = c.are_same.ensures.0 c.if-are_same.true in
      let content = ap (λ (x : Placed). x.content.kernel) c.deref-2.ensures in
      let first = c.kernel.ensures.rows in
      let second = c.kernel-2.ensures in
      cc;
}
