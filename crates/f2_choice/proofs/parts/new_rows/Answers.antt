use Rattle.std.proofs.Common.{◌≡◌, ◌<◌, ◌+◌, ◌-◌, List, Bool, false, [], length, map, take, drop, subst, ap, sym, ◌∙◌, arith, refl}
use Rattle.std.proofs.lemmas.List.{get_or_read, get_or-drop, length-map}
use Rattle.f2_vec.specs.Vectors.{IsZero, bit}
use Rattle.f2_vec.specs.Spans.{row}
use Rattle.f2_vec.proofs.Combinations.{map-map}
use Rattle.f2_matrix.specs.Preimages.{pivot_of}
use Rattle.f2_matrix.proofs.Parts.{row-map_drop}
use Rattle.f2_choice.proofs.Form.{pivot_right}
use Rattle.f2_choice.proofs.Loops.{map_more}
use Rattle.f2_choice.proofs.parts.new_rows.Goals as goal
use Rattle.f2_choice.proofs.parts.new_rows.Goals.{in-Some+in_ok-try_copy+in_ok-push, in_default}

pub bounds-candidates-place : goal.bounds-candidates-place
bounds-candidates-place c =
    let j = c.loop-v.v-index in
    let v : c.v-item.result ≡ row c.args.kernel.now j = get_or_read c.args.kernel.now j c.v-item.result c.loop-v-test.true c.v-item.is [] in
    let is : pivot_of (drop c.args.n (row c.args.kernel.now j)) ≡ c.in-Some.place - c.args.n = ap (λ r. pivot_of (drop c.args.n r)) (sym v) ∙ pivot_right c.args.n c.in-Some.place c.v-item.result c.in-Some.ensures.next in
    omega (arith, is, c.requires.within j c.loop-v-test.true)

pub offset_bounds-candidates-place : goal.offset_bounds-candidates-place
offset_bounds-candidates-place c =
    let j = c.loop-v.v-index in
    let v : c.v-item.result ≡ row c.args.kernel.now j = get_or_read c.args.kernel.now j c.v-item.result c.loop-v-test.true c.v-item.is [] in
    let is : pivot_of (drop c.args.n (row c.args.kernel.now j)) ≡ c.in-Some.place - c.args.n = ap (λ r. pivot_of (drop c.args.n r)) (sym v) ∙ pivot_right c.args.n c.in-Some.place c.v-item.result c.in-Some.ensures.next in
    let l : c.in-Some.place - c.args.n < length c.args.candidates.now = omega (arith, is, c.requires.within j c.loop-v-test.true) in
    omega arith

pub loop-v-preserved : goal.loop-v-preserved
loop-v-preserved c =
    let n = c.args.n in
    let j = c.loop-v.v-index in
    let kernel = c.args.kernel.now in
    let candidates = c.args.candidates.now in
    let g : List Bool → List Bool = λ u. row candidates (pivot_of u) in
    let v : c.v-item.result ≡ row kernel j = get_or_read kernel j c.v-item.result c.loop-v-test.true c.v-item.is [] in
    elim c.match-next_one.branch [
      | in-Some+in_ok-try_copy+in_ok-push w ↦
          let i = w.in-Some.place - n in
          let is : pivot_of (drop n (row kernel j)) ≡ i = ap (λ r. pivot_of (drop n r)) (sym v) ∙ pivot_right n w.in-Some.place c.v-item.result w.in-Some.ensures.next in
          let l : i < length candidates = omega (arith, is, c.requires.within j c.loop-v-test.true) in
          let x : w.index-candidates-place.result ≡ row candidates i = get_or_read candidates i w.index-candidates-place.result l w.index-candidates-place.is [] in
          rw w.new-is
          (sym (map-map g (drop n) (take (j + 1) kernel)
          ∙ sym (map_more (λ u. g (drop n u)) kernel j [] (row kernel j) c.loop-v.new.items w.push.new.self.items w.in_ok-try_copy.field-0 c.loop-v-test.true refl (c.loop-v.invariant ∙ map-map g (drop n) (take j kernel)) w.in_ok-push.ensures.items
          (w.in_ok-try_copy.ensures ∙ x ∙ ap (row candidates) (sym is)))))
      | in_default w ↦
          let m : j < length (map (drop n) kernel) = omega (arith, length-map kernel (drop n), c.loop-v-test.true) in
          absurd (c.requires.nonzero j m (subst IsZero (sym (row-map_drop n kernel j c.loop-v-test.true)) (λ k. get_or-drop n (row kernel j) k false ∙ ap (λ r. bit r (n + k)) (sym v) ∙ w.in_default.ensures.none.0 refl (n + k) (omega arith))))
    ]
