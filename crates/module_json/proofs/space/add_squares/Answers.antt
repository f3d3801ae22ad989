use Rattle.std.proofs.Common.{◌≡◌, ◌++◌, [], ◌∷◌, true, false, to_z, of_z, w32, get_or, map, sym, ap, ◌∙◌, refl, arith}
use Rattle.std.specs.List.{filter}
use Rattle.std.proofs.lemmas.Int.{ints}
use Rattle.std.proofs.lemmas.List.{take_all}
use Rattle.module_json.specs.ModuleFile.{is_joined, joining, squares_on}
use Rattle.module_spec.specs.Spec.{powers}
use Rattle.module_json.proofs.Cells.{square_more}
use Rattle.module_json.proofs.space.add_squares.Goals.{then-is_joined+in_ok-entry+in_ok-push, else-is_joined}
use Rattle.module_json.proofs.space.add_squares.Goals as goal

pub loop-k-preserved : goal.loop-k-preserved
loop-k-preserved c =
    let p = is_joined (to_z w32 (of_z w32 c.args.min)) c.args.count c.args.i in
    let j = c.loop-k.k-index in
    let k = get_or powers j 0 in
    elim c.if-is_joined.branch [
      | then-is_joined+in_ok-entry+in_ok-push w ↦
          square_more p (joining c.args.i) powers j k true c.args.entries.now.items c.loop-k.entries.items c.if-is_joined.entries.items (omega arith) refl (sym c.is_joined.ensures ∙ w.if-is_joined.true) c.loop-k.invariant (ap (λ v. v.items) w.entries-is ∙ w.in_ok-push.ensures.items ∙ ap (λ x. c.loop-k.entries.items ++ x ∷ []) w.in_ok-entry.ensures)
      | else-is_joined w ↦
          square_more p (joining c.args.i) powers j k false c.args.entries.now.items c.loop-k.entries.items c.if-is_joined.entries.items (omega arith) refl (sym c.is_joined.ensures ∙ w.if-is_joined.false) c.loop-k.invariant (ap (λ v. v.items) w.entries-is)
    ]

pub returns : goal.returns
returns c =
    let same : to_z w32 (of_z w32 c.args.min) ≡ c.args.min = omega (arith, ints) in
    c.loop-k.invariant
    ∙ ap (λ ks. c.args.entries.now.items ++ map (joining c.args.i) (filter (is_joined (to_z w32 (of_z w32 c.args.min)) c.args.count c.args.i) ks)) (take_all c.loop-k.k-index powers (omega arith))
    ∙ ap (λ z. c.args.entries.now.items ++ squares_on z c.args.count c.args.i) same
