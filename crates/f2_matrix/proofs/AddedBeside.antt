-- The loops that put a row more into the parts of a reduction: where it stands, and a vector added beside the ones of a column.
use Rattle.std.proofs.Common.{◌≡◌, ◌≢◌, ℕ, ◌+◌, ◌<◌, ◌≤◌, Bool, true, false, cond, List, [], length, set, ap, sym, ◌∙◌, arith, inl, inr}
use Rattle.std.proofs.lemmas.Bool.{cases_eq}
use Rattle.std.proofs.lemmas.List.{length-set, get_or-set_same, get_or-set_other}
use Rattle.f2_vec.specs.Vectors.{sum_of, bit}
use Rattle.f2_vec.proofs.Sums.{length-sum_of}
use Rattle.f2_vec.specs.Spans.{row, HaveWidth}
use Rattle.f2_vec.proofs.Spans.{HaveWidth-set}
use Rattle.f2_matrix.specs.Inside.Extend.{IsAddedBeside}

-- ys is xs with c added beside the ones, below place i
pub record IsAddedUpTo (c : List Bool) (q i : ℕ) (beside xs ys : List (List Bool)) : Type 0 where
  pub as_many : length ys ≡ length xs
  pub widths : HaveWidth (length c) ys
  pub done : (j : ℕ) → j < i → row ys j ≡ cond (bit (row beside j) q) (sum_of (row xs j) c) (row xs j)
  pub rest : (j : ℕ) → i ≤ j → row ys j ≡ row xs j

pub IsAddedUpTo-more : (c : List Bool) (q i : ℕ) (beside xs ys : List (List Bool)) (v : List Bool) → i < length ys → IsAddedUpTo c q i beside xs ys → bit (row beside i) q ≡ true → v ≡ sum_of (row ys i) c → IsAddedUpTo c q (i + 1) beside xs (set ys i v)
IsAddedUpTo-more c q i beside xs ys v l h one e = record {
  as_many = length-set ys i v ∙ h.as_many;
  widths = HaveWidth-set (length c) i v ys (ap length e ∙ length-sum_of (row ys i) c (h.widths i l) ∙ h.widths i l) h.widths;
  done = λ j m. elim (cases_eq j i) [
    | inl same ↦
        rw same (get_or-set_same ys i v [] l ∙ e ∙ ap (λ u. sum_of u c) (h.rest i (omega arith)) ∙ sym (ap (λ b. cond b (sum_of (row xs i) c) (row xs i)) one))
    | inr other ↦ get_or-set_other ys i j v [] other ∙ h.done j (omega arith)
  ];
  rest = λ j m. get_or-set_other ys i j v [] (let d : j ≢ i = omega arith in d) ∙ h.rest j (omega arith);
}

pub IsAddedUpTo-skip : (c : List Bool) (q i : ℕ) (beside xs ys : List (List Bool)) → IsAddedUpTo c q i beside xs ys → bit (row beside i) q ≡ false → IsAddedUpTo c q (i + 1) beside xs ys
IsAddedUpTo-skip c q i beside xs ys h none = record {
  as_many = h.as_many;
  widths = h.widths;
  done = λ j m. elim (cases_eq j i) [
    | inl same ↦ rw same (h.rest i (omega arith) ∙ sym (ap (λ b. cond b (sum_of (row xs i) c) (row xs i)) none))
    | inr other ↦ h.done j (omega arith)
  ];
  rest = λ j m. h.rest j (omega arith);
}

pub HaveWidth-added : (m : ℕ) (c : List Bool) (q : ℕ) (beside xs ys : List (List Bool)) → length c ≡ m → HaveWidth m xs → IsAddedBeside c q beside xs ys → HaveWidth m ys
HaveWidth-added m c q beside xs ys e h a = λ i l.
    let t : i < length xs = omega (arith, a.as_many) in
    ap length (a.rows i t) ∙ either (bit (row beside i) q) (row xs i) (h i t)
  where
    either : (b : Bool) (x : List Bool) → length x ≡ m → length (cond b (sum_of x c) x) ≡ m
    either true x f = length-sum_of x c (f ∙ sym e) ∙ f
    either false x f = f
