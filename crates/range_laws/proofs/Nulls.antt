-- A null homotopy over tables is one over the tables cut to fewer degrees, as far as these go, and back.
use Rattle.std.proofs.Common.{◌≡◌, ℕ, suc, ◌+◌, ◌<◌, ◌≤◌, ℤ, pos, ◌+ℤ◌, ◌-ℤ◌, ◌≤ℤ◌, ◌<ℤ◌, Bool, List, length, take, ap, sym, ◌∙◌, arith}
use Rattle.std.proofs.lemmas.Int.{ints}
use Rattle.f2_vec.specs.Vectors.{sum_of}
use Rattle.free_module.specs.FreeModule.{free_width}
use Rattle.resolution_laws.specs.Resolution.{Module, Content, row_of}
use Rattle.lift_laws.specs.Lifts.{Resolution, gens, degree, image, d, lowered}
use Rattle.lift_laws.proofs.Cut.{degree-cut, image-cut, there-cut, kept-cut, basis-cut, d-cut, lowered-cut}
use Rattle.bracket_laws.specs.Brackets.{IsNullHomotopy}
use Rattle.range_laws.specs.Ranges.{resolution_in}

-- the rows are cut at rn and at qn squares
module _ (m w : Module) (rs rn qs qn : ℕ) (rt rc qt qc : List (List Content))
    (r_rows : (i : ℕ) → i ≤ rs → row_of rc i ≡ take rn (row_of rt i)) (q_rows : (i : ℕ) → i ≤ qs → row_of qc i ≡ take qn (row_of qt i)) where
  abbrev r : Resolution
  r = resolution_in m rt

  abbrev r_cut : Resolution
  r_cut = resolution_in m rc

  abbrev q : Resolution
  q = resolution_in w qt

  abbrev q_cut : Resolution
  q_cut = resolution_in w qc

  module _ (n : ℕ) (y : ℤ) (theta eta : ℕ → ℤ → ℕ → List Bool) (upto : ℕ) (top : ℤ) (H : ℕ → ℕ → List Bool)
      (inside : n + upto ≤ rs) (within : upto ≤ qs) (low : top <ℤ (m.bottom +ℤ pos rn)) (low_q : (top -ℤ y) <ℤ (w.bottom +ℤ pos qn))
      (same : (k g : ℕ) (t : ℤ) → k < upto → t ≤ℤ top → eta k t g ≡ theta k t g) where
    pub IsNull-cut : IsNullHomotopy r q n y theta upto top H → IsNullHomotopy r_cut q_cut n y eta upto top H
    IsNull-cut a = record {
      fit = λ k i h e g there c.
          let at = degree-cut m rs rn rt rc r_rows i g (omega arith) there in
          a.fit k i h e g (there-cut m rs rn rt rc r_rows i g (omega arith) there) (omega (arith, ints))
          ∙ (ap (λ (u : ℤ). free_width (gens q k) (u -ℤ y)) (sym at)
          ∙ sym (ap length (basis-cut w qs qn qt qc q_rows k (degree r_cut i g -ℤ y) (omega arith) (omega (arith, ints)))));
      bounds = λ k i j h e f g there c.
          let at = degree-cut m rs rn rt rc r_rows i g (omega arith) there in
          let im = image-cut m rs rn rt rc r_rows i g (omega arith) there in
          let t = degree r_cut i g in
          let back = lowered r_cut j q_cut k y (H k) t (image r_cut i g) in
          ap (λ (v : List Bool). sum_of v back) (d-cut w qs qn qt qc q_rows (suc k) (t -ℤ y) (H (suc k) g) (omega arith) (omega (arith, ints)))
          ∙ (ap (sum_of (d q (suc k) (t -ℤ y) (H (suc k) g))) (lowered-cut m w rs rn qs qn rt rc qt qc r_rows q_rows j k y (H k) t (image r_cut i g) (omega arith) (omega arith) (omega (arith, ints)) (omega (arith, ints)))
          ∙ (ap (λ (v : List Bool). sum_of (d q (suc k) (t -ℤ y) (H (suc k) g)) (lowered r j q k y (H k) t v)) im
          ∙ (ap (λ (u : ℤ). sum_of (d q (suc k) (u -ℤ y) (H (suc k) g)) (lowered r j q k y (H k) u (image r i g))) at
          ∙ (a.bounds k i j h e f g (there-cut m rs rn rt rc r_rows i g (omega arith) there) (omega (arith, ints))
          ∙ (ap (λ (u : ℤ). theta k u g) (sym at) ∙ sym (same k g t h c))))));
    }

    pub IsNull-uncut : IsNullHomotopy r_cut q_cut n y eta upto top H → IsNullHomotopy r q n y theta upto top H
    IsNull-uncut a = record {
      fit = λ k i h e g there c.
          let kept = kept-cut m rs rn rt rc r_rows i g (omega arith) there (omega (arith, ints)) in
          let at = degree-cut m rs rn rt rc r_rows i g (omega arith) kept in
          a.fit k i h e g kept (omega (arith, ints))
          ∙ (ap (λ (u : ℤ). free_width (gens q_cut k) (u -ℤ y)) at
          ∙ ap length (basis-cut w qs qn qt qc q_rows k (degree r i g -ℤ y) (omega arith) (omega (arith, ints))));
      bounds = λ k i j h e f g there c.
          let kept = kept-cut m rs rn rt rc r_rows i g (omega arith) there (omega (arith, ints)) in
          let at = degree-cut m rs rn rt rc r_rows i g (omega arith) kept in
          let im = image-cut m rs rn rt rc r_rows i g (omega arith) kept in
          let t = degree r i g in
          let back = lowered r j q k y (H k) t (image r i g) in
          ap (λ (v : List Bool). sum_of v back) (sym (d-cut w qs qn qt qc q_rows (suc k) (t -ℤ y) (H (suc k) g) (omega arith) (omega (arith, ints))))
          ∙ (ap (sum_of (d q_cut (suc k) (t -ℤ y) (H (suc k) g))) (sym (lowered-cut m w rs rn qs qn rt rc qt qc r_rows q_rows j k y (H k) t (image r i g) (omega arith) (omega arith) (omega (arith, ints)) (omega (arith, ints))))
          ∙ (ap (λ (v : List Bool). sum_of (d q_cut (suc k) (t -ℤ y) (H (suc k) g)) (lowered r_cut j q_cut k y (H k) t v)) (sym im)
          ∙ (ap (λ (u : ℤ). sum_of (d q_cut (suc k) (u -ℤ y) (H (suc k) g)) (lowered r_cut j q_cut k y (H k) u (image r_cut i g))) (sym at)
          ∙ (a.bounds k i j h e f g kept (omega (arith, ints))
          ∙ (ap (λ (u : ℤ). eta k u g) at ∙ same k g t h c)))));
    }
