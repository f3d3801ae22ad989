use Rattle.std.proofs.Common.{set, ◌≡◌, ◌+◌, ◌<◌, ℕ, Bool, List, [], length, ap, sym, ◌∙◌, arith, inl, inr, ◌++◌}
use Rattle.std.proofs.lemmas.Bool.{cases_eq}
use Rattle.std.proofs.lemmas.List.{length-set, get_or_default, get_or-set_same, get_or-set_other, get_or_append_left, get_or-append-add}
use Rattle.f2_vec.specs.Vectors.{sum_of}
use Rattle.f2_vec.specs.Spans.{row, HaveWidth}
use Rattle.f2_vec.proofs.Sums.{length-sum_of}
use Rattle.f2_vec.proofs.Spans.{HaveWidth-append, HaveWidth-set, HaveWidth-front}
use Rattle.f2_sums.proofs.table.add_sums.Goals as goal

-- both parts of the table are as wide as it
front_widths : (n : ℕ) (xs ys zs : List (List Bool)) → xs ≡ ys ++ zs → HaveWidth n xs → HaveWidth n ys
front_widths n xs ys zs e w = HaveWidth-front n ys zs (rw (← e) w)

pub loop-t-preserved : goal.loop-t-preserved
loop-t-preserved c =
    let t = c.loop-t.t in
    let done = c.split_at_mut-done.result.0.now in
    let rest = c.loop-t.rest in
    let p = c.args.pivot.now in
    let v = c.set_sum.new.self in
    let wd = front_widths c.args.cols c.args.table.now done c.split_at_mut-done.result.1.now c.split_at_mut-done.ensures.value c.requires.widths in
    let ht : t < length done = omega (arith, c.split_at_mut-done.ensures.front_len) in
    let e : v ≡ sum_of (row done t) p = c.set_sum.ensures ∙ ap (λ r. sum_of r p) (get_or_default done t c.index-done-t.result [] ht) in
    let lv : length v ≡ c.args.cols = ap length e ∙ length-sum_of (row done t) p (wd t ht ∙ sym c.requires.pivot) ∙ wd t ht in
    record {
      widths = HaveWidth-set c.args.cols t v rest lv c.loop-t.invariant.widths;
      room = length-set rest t v ∙ c.loop-t.invariant.room;
      sums = λ k l. elim (cases_eq k t) [
        | inl d ↦ ap (row (set rest t v)) d ∙ get_or-set_same rest t v [] (omega (arith, c.loop-t.invariant.room, c.split_at_mut-done.ensures.back_len, c.requires.room)) ∙ e ∙ ap (λ j. sum_of (row done j) p) (sym d)
        | inr d ↦ get_or-set_other rest t k v [] d ∙ c.loop-t.invariant.sums k (omega arith)
      ];
    }

pub returns-clause-widths : goal.returns-clause-widths
returns-clause-widths c =
    let done = c.split_at_mut-done.result.0.now in
    HaveWidth-append c.args.cols done c.loop-t.rest (front_widths c.args.cols c.args.table.now done c.split_at_mut-done.result.1.now c.split_at_mut-done.ensures.value c.requires.widths) c.loop-t.invariant.widths

pub returns-clause-sums : goal.returns-clause-sums
returns-clause-sums c = λ t h.
    let done = c.split_at_mut-done.result.0.now in
    let d : length done ≡ c.args.filled = omega (arith, c.split_at_mut-done.ensures.front_len) in
    ap (λ k. row (done ++ c.loop-t.rest) (k + t)) (sym d)
    ∙ get_or-append-add done c.loop-t.rest t []
    ∙ c.loop-t.invariant.sums t (omega arith)
    ∙ ap (λ r. sum_of r c.args.pivot.now) (sym (ap (λ x. row x t) c.split_at_mut-done.ensures.value ∙ get_or_append_left done c.split_at_mut-done.result.1.now [] t (omega arith)))
