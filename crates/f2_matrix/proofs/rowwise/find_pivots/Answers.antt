use Rattle.std.specs.List.{swap}
use Rattle.std.proofs.Common.{◌≡◌, ℕ, ◌+◌, ◌-◌, ◌*◌, ◌<◌, ◌≤◌, [], ◌∷◌, ◌++◌, List, length, take, set, refl, ap, sym, ◌∙◌, arith, subst}
use Rattle.std.proofs.lemmas.List.{length-take-le, length-set, take_more_set}
use Rattle.std.proofs.lemmas.List.Elements.{All-same, All-push}
use Rattle.f2_matrix.specs.Inside.Rowwise.{HavePivots}
use Rattle.f2_matrix.proofs.RowBlocks.{IsRowBlock, IsRowBlock-start, IsRowBlock-more, IsRowBlock-last, IsRowBlock-end}
use Rattle.f2_matrix.proofs.rowwise.find_pivots.Goals as goal

count_is : (count bits : ℕ) (places : List ℕ) → count ≤ 4 * bits → bits ≤ 8 → length places ≡ 32 → length (take count places) ≡ count
count_is count bits places h b e = length-take-le count places (omega arith)

pub loop-count-init : goal.loop-count-init
loop-count-init c = record {
  left = omega arith;
  past = omega arith;
  few = omega arith;
  size = refl;
  below = λ k d l. absurd (omega arith);
  done = IsRowBlock-start c.args.cols c.loop-settled.settled c.loop-settled.end c.args.rows.now c.loop-settled.rows c.loop-settled.invariant.done;
}

pub loop-count-preserved-in-Some : goal.loop-count-preserved-in-Some
loop-count-preserved-in-Some c =
    let n = c.args.cols in
    let r = c.loop-settled.settled in
    let e = c.loop-count.end in
    let col = c.in-Some.col in
    let count = c.loop-count.count in
    let places = c.loop-count.places in
    let ps = take count places in
    let s = c.loop-count.invariant in
    let k = count_is count c.args.bits places s.few c.requires.most s.size in
    let more : take (count + 1) (set places count col) ≡ ps ++ col ∷ [] = take_more_set places count col (omega (arith, s.size, s.few, c.requires.most)) in
    record {
      left = s.left;
      past = omega arith;
      few = omega arith;
      size = length-set places count col ∙ s.size;
      below = All-same (λ p. p < n) (take (count + 1) (set places count col)) (ps ++ col ∷ []) more (All-push (λ p. p < n) ps col s.below c.in-Some.ensures.within);
      done = subst (λ q. IsRowBlock n r e q c.args.rows.now c.take_next.new.rows) (sym more)
          (IsRowBlock-more n r e col ps c.args.rows.now c.loop-count.rows c.take_next.new.rows s.done (omega (arith, k)) c.in-Some.ensures.pivot c.in-Some.ensures.first);
    }

pub loop-count-preserved : goal.loop-count-preserved
loop-count-preserved c =
    let n = c.args.cols in
    let r = c.loop-settled.settled in
    let e = c.loop-count.end in
    let count = c.loop-count.count in
    let places = c.loop-count.places in
    let ps = take count places in
    let s = c.loop-count.invariant in
    let k = count_is count c.args.bits places s.few c.requires.most s.size in
    let same : c.swap.new.self ≡ swap c.take_next.new.rows (r + length ps) (e - 1) = c.swap.ensures.after ∙ ap (λ j. swap c.take_next.new.rows (r + j) (e - 1)) (sym k) in
    record {
      left = omega (arith, s.left);
      past = omega arith;
      few = s.few;
      size = s.size;
      below = s.below;
      done = subst (IsRowBlock n r (e - 1) ps c.args.rows.now) (sym same)
          (IsRowBlock-last n r e ps c.args.rows.now c.loop-count.rows c.take_next.new.rows s.done (omega (arith, k)) c.in-None.ensures.zero);
    }

pub loop-settled-preserved : goal.loop-settled-preserved
loop-settled-preserved c =
    let n = c.args.cols in
    let r = c.loop-settled.settled in
    let e = c.loop-count.end in
    let count = c.loop-count.count in
    let places = c.loop-count.places in
    let ps = take count places in
    let s = c.loop-count.invariant in
    let k = count_is count c.args.bits places s.few c.requires.most s.size in
    record {
      width = c.clear_others.ensures.width ∙ c.loop-settled.invariant.width;
      room = c.clear_others.ensures.room ∙ c.loop-settled.invariant.room;
      done = subst (λ j. HavePivots n (r + j) e c.args.rows.now c.clear_others.new.rows) k (IsRowBlock-end n r e ps c.args.rows.now c.loop-count.rows c.clear_others.new.rows s.done c.clear_others.ensures.rows);
    }
