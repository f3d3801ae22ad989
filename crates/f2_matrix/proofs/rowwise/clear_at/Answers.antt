use Rattle.std.specs.Simd.Lanes.{mask_l}
use Rattle.std.proofs.Common.{◌≡◌, ◌<◌, ◌+◌, ◌%◌, ℕ, Bool, true, false, cond, map, take, drop, length, get_or, ap, sym, ◌∙◌, arith, refl, []}
use Rattle.std.proofs.lemmas.List.{length-map, take_all, get_or_read}
use Rattle.f2_vec.specs.Vectors.{bit, sum_of}
use Rattle.f2_vec.specs.Spans.{row, combination}
use Rattle.f2_vec.proofs.Sums.{sum_of-zeros_right, length-sum_of}
use Rattle.f2_vec.proofs.Spans.{length-combination}
use Rattle.f2_vec.proofs.Combinations.{HaveWidth-take}
use Rattle.f2_sums.proofs.Numbers.{mask_l-drop}
use Rattle.f2_matrix.proofs.BlockSums.{odd_is, row_more}
use Rattle.f2_matrix.proofs.rowwise.clear_at.Goals.{then-index-eq1, else-index-eq1}
use Rattle.f2_matrix.proofs.rowwise.clear_at.Goals as goal

pub loop-j-init : goal.loop-j-init
loop-j-init c = record {
  index = c.index_at-index.ensures;
  row = sym (sum_of-zeros_right c.args.cols c.args.row.now c.requires.row);
}

bit_of_odd : (b : Bool) (x : ℕ) → x ≡ cond b 1 0 → x ≡ 1 → b ≡ true
bit_of_odd true x e f = refl
bit_of_odd false x e f = absurd (omega arith)

bit_of_even : (b : Bool) (x : ℕ) → x ≡ cond b 1 0 → (x ≡ 1 → ⊥) → b ≡ false
bit_of_even true x e f = absurd (f e)
bit_of_even false x e f = refl

pub xor_with-requires : goal.xor_with-requires
xor_with-requires c =
    let n = c.args.cols in
    let cs = map (bit c.args.row.now) c.args.places.now in
    let j = c.loop-j.j in
    let lu = length-combination n (take j cs) (take j c.args.block.now) (HaveWidth-take n j c.args.block.now c.requires.block) in
    ap length c.loop-j.invariant.row
    ∙ length-sum_of c.args.row.now (combination n (take j cs) (take j c.args.block.now)) (c.requires.row ∙ sym lu)
    ∙ c.requires.row
    ∙ sym (ap length (get_or_read c.args.block.now j c.index-block-j.result (omega arith) c.index-block-j.is []) ∙ c.requires.block j (omega arith))

pub loop-j-preserved : goal.loop-j-preserved
loop-j-preserved c =
    let n = c.args.cols in
    let v = c.args.row.now in
    let b = c.args.block.now in
    let cs = map (bit v) c.args.places.now in
    let j = c.loop-j.j in
    let hb : j < length b = omega arith in
    let hc : j < length cs = omega (arith, length-map c.args.places.now (bit v), c.requires.as_many) in
    let o = odd_is (get_or cs j false) (mask_l (drop (j + 1) cs)) c.loop-j.index (c.loop-j.invariant.index ∙ mask_l-drop cs j hc) in
    let new : c.if-index-eq1.row ≡ cond (get_or cs j false) (sum_of c.loop-j.row (row b j)) c.loop-j.row = elim c.if-index-eq1.branch [
      | then-index-eq1 w ↦
          w.row-is ∙ w.xor_with.ensures
          ∙ ap (sum_of c.loop-j.row) (get_or_read b j w.index-block-j.result hb w.index-block-j.is [])
          ∙ ap (λ t. cond t (sum_of c.loop-j.row (row b j)) c.loop-j.row) (sym (bit_of_odd (get_or cs j false) (c.loop-j.index % 2) o.0 w.if-index-eq1.true))
      | else-index-eq1 w ↦
          w.row-is ∙ ap (λ t. cond t (sum_of c.loop-j.row (row b j)) c.loop-j.row) (sym (bit_of_even (get_or cs j false) (c.loop-j.index % 2) o.0 w.if-index-eq1.false))
    ] in
    record {
      index = o.1;
      row = row_more n j v c.loop-j.row c.if-index-eq1.row cs b c.requires.block hc hb c.loop-j.invariant.row new;
    }

pub returns : goal.returns
returns c =
    let n = c.args.cols in
    let v = c.args.row.now in
    let b = c.args.block.now in
    let cs = map (bit v) c.args.places.now in
    let j = c.loop-j.j in
    c.loop-j.invariant.row
    ∙ ap (λ x. sum_of v (combination n x (take j b))) (take_all j cs (omega (arith, length-map c.args.places.now (bit v), c.requires.as_many)))
    ∙ ap (λ x. sum_of v (combination n cs x)) (take_all j b (omega arith))
