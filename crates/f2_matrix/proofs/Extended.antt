-- The parts of a reduction with one row more: a kernel row more where it is a sum of the rows before, else an image row more.
use Rattle.std.proofs.Common.{◌≡◌, ℕ, zero, suc, ◌+◌, ◌<◌, ◌≤◌, Bool, true, false, cond, List, [], ◌∷◌, ◌++◌, length, map, take, refl, ap, sym, ◌∙◌, subst, arith, inl, inr}
use Rattle.std.specs.List.{insert}
use Rattle.std.proofs.lemmas.Bool.{cases_Bool, cases_lt, both_ways}
use Rattle.std.proofs.lemmas.List.{get_or-map, length-map, length-append, get_or_append_left, take_all, take_more, length-take-le}
use Rattle.std.proofs.lemmas.List.Edits.{length-insert, get_or-insert_at, get_or-insert_below, get_or-insert_above}
use Rattle.std.proofs.Math.Seq.{get_or-append_seam}
use Rattle.f2_vec.specs.Vectors.{plus, sum_of, zeros, bit, IsZero, IsFirstOne}
use Rattle.f2_vec.proofs.Sums.{one_within, bit-sum_of, length-sum_of, length-zeros, sum_of-comm, sum_of-self, sum_of-cancel, sum_of-zeros_right, zeros_from_bits}
use Rattle.f2_vec.specs.Spans.{row, HaveWidth, combination, IsInSpan, IsInKernel, HaveSameSpan}
use Rattle.f2_vec.proofs.Spans.{HaveWidth-head, HaveWidth-tail, HaveWidth-nil, HaveWidth-cons, HaveWidth-append, length-combination, combination-zeros, combination-sum_of, combination-append, bit-combination_zero, row-IsInSpan, sum-IsInSpan, span_within, HaveSameSpan_from_rows}
use Rattle.f2_vec.proofs.Split.{sum_of-append}
use Rattle.f2_vec.proofs.Combinations.{combination-padded_right}
use Rattle.f2_matrix.specs.Echelon.{IsReduced, HasNoZeroRow, IsRowBasis, IsKernelBasis}
use Rattle.f2_matrix.specs.Preimages.{IsPreimage, ArePreimages, pivot_of, at_pivots, quasi_of, rest_of}
use Rattle.f2_matrix.specs.Inside.RowOperations.{cleared}
use Rattle.f2_matrix.specs.Inside.Extend.{longer, with_pivot, IsPlaceFor, IsAddedBeside}
use Rattle.f2_matrix.proofs.RowOperations.{HaveSameSpan-trans, bit-cleared_other, bit-cleared_same, length-cleared, HaveWidth-cleared}
use Rattle.f2_matrix.proofs.Unique.{first_one}
use Rattle.f2_matrix.proofs.Pivots.{one_inside, pivot_first, length-at_pivots, zero_left, span_left, rest_apart, rest_length}
use Rattle.f2_matrix.proofs.Preimages.{combination_of_preimages}
use Rattle.f2_matrix.proofs.Inserted.{MayJoin, HaveWidth-insert, came_from, row_new, first_of_old, first_of_new, joined_nonzero, joined_reduced, joined_widths, both_widths, new_in_both, old_in_both, joined_span, length_all, length_both}

-- ---- a 0 behind each row

pub bit-longer : (v : List Bool) (k : ℕ) → bit (longer v) k ≡ bit v k
bit-longer [] zero = refl
bit-longer [] (suc k) = refl
bit-longer (x ∷ v) zero = refl
bit-longer (x ∷ v) (suc k) = bit-longer v k

bit-longer_rows : (rows : List (List Bool)) (i k : ℕ) → bit (row (map longer rows) i) k ≡ bit (row rows i) k
bit-longer_rows [] i k = refl
bit-longer_rows (r ∷ rows) zero k = bit-longer r k
bit-longer_rows (r ∷ rows) (suc i) k = bit-longer_rows rows i k

first_same : (u v : List Bool) (p : ℕ) → ((k : ℕ) → bit u k ≡ bit v k) → IsFirstOne u p → IsFirstOne v p
first_same u v p s f = record { one = sym (s p) ∙ f.one; zeros_before = λ k l. sym (s k) ∙ f.zeros_before k l }

first_longer : (rows : List (List Bool)) (i p : ℕ) → IsFirstOne (row (map longer rows) i) p → IsFirstOne (row rows i) p
first_longer rows i p f = first_same (row (map longer rows) i) (row rows i) p (bit-longer_rows rows i) f

reduced_longer : (rows : List (List Bool)) → IsReduced rows → IsReduced (map longer rows)
reduced_longer rows h = record {
  zero_rows_last = λ i j l z. λ k. bit-longer_rows rows j k ∙ h.zero_rows_last i j l (λ b. sym (bit-longer_rows rows i b) ∙ z b) k;
  pivots_rise = λ i j p q l f g. h.pivots_rise i j p q l (first_longer rows i p f) (first_longer rows j q g);
  pivots_alone = λ i j p d f. bit-longer_rows rows j p ∙ h.pivots_alone i j p d (first_longer rows i p f);
}

nonzero_longer : (rows : List (List Bool)) → HasNoZeroRow rows → HasNoZeroRow (map longer rows)
nonzero_longer rows h = λ i l z. h i (omega (arith, length-map rows longer)) (λ b. sym (bit-longer_rows rows i b) ∙ z b)

pub length-longer : (m : ℕ) (v : List Bool) → length v ≡ m → length (longer v) ≡ m + 1
length-longer m v e = length-append v (false ∷ []) ∙ ap (λ a. a + 1) e

pub widths_longer : (m : ℕ) (rows : List (List Bool)) → HaveWidth m rows → HaveWidth (m + 1) (map longer rows)
widths_longer m [] h = HaveWidth-nil (m + 1)
widths_longer m (r ∷ rows) h = HaveWidth-cons (m + 1) (longer r) (map longer rows) (length-longer m r (HaveWidth-head m r rows h)) (widths_longer m rows (HaveWidth-tail m r rows h))

combination-longer : (m : ℕ) (c : List Bool) (rows : List (List Bool)) → HaveWidth m rows → combination (m + 1) c (map longer rows) ≡ longer (combination m c rows)
combination-longer m c rows h = combination-padded_right m 1 c rows h

place_longer : (p k : ℕ) (rows : List (List Bool)) → HasNoZeroRow rows → IsPlaceFor p rows k → IsPlaceFor p (map longer rows) k
place_longer p k rows nonzero h = record {
  within = omega (arith, length-map rows longer, h.within);
  before = λ i l. let b = h.before i l in let e = same i (omega (arith, h.within)) in omega arith;
  after = λ l. let m : k < length rows = omega (arith, length-map rows longer) in let a = h.after m in let e = same k m in omega arith;
}
  where
    same : (i : ℕ) → i < length rows → pivot_of (row (map longer rows) i) ≡ pivot_of (row rows i)
    same i l =
        let f = first_one (row rows i) (nonzero i l) in
        pivot_first (row (map longer rows) i) f.0 (first_same (row rows i) (row (map longer rows) i) f.0 (λ k. sym (bit-longer_rows rows i k)) f.1) ∙ sym (pivot_first (row rows i) f.0 f.1)

-- a vector by its last coordinate
record IsEnded (m : ℕ) (c : List Bool) : Type 0 where
  front : List Bool
  last : Bool
  is : c ≡ front ++ last ∷ []
  width : length front ≡ m

ended : (m : ℕ) (c : List Bool) → length c ≡ m + 1 → IsEnded m c
ended m c e = record {
  front = take m c;
  last = bit c m;
  is = sym (take_all (m + 1) c (omega arith)) ∙ take_more c m false (omega arith);
  width = length-take-le m c (omega arith);
}

-- combinations of vectors of a kernel are in it
kernel_combination : (n m : ℕ) (c : List Bool) (xs rows : List (List Bool)) → HaveWidth n rows → length rows ≡ m → HaveWidth m xs → ((i : ℕ) → i < length xs → IsInKernel n rows (row xs i)) → IsInKernel n rows (combination m c xs)
kernel_combination n m [] xs rows w e h k = record { one_each = length-zeros m ∙ sym e; vanishes = combination-zeros n m rows }
kernel_combination n m (c ∷ cs) [] rows w e h k = record { one_each = length-zeros m ∙ sym e; vanishes = combination-zeros n m rows }
kernel_combination n m (false ∷ cs) (x ∷ xs) rows w e h k = kernel_combination n m cs xs rows w e (HaveWidth-tail m x xs h) (λ i l. k (suc i) (omega arith))
kernel_combination n m (true ∷ cs) (x ∷ xs) rows w e h k =
    let rest = kernel_combination n m cs xs rows w e (HaveWidth-tail m x xs h) (λ i l. k (suc i) (omega arith)) in
    let first : IsInKernel n rows x = k 0 (omega arith) in
    let u = combination m cs xs in
    let len : length x ≡ length u = first.one_each ∙ sym rest.one_each in
    record {
      one_each = length-sum_of x u len ∙ first.one_each;
      vanishes = combination-sum_of n x u rows w len ∙ ap (λ z. sum_of z (combination n u rows)) first.vanishes ∙ ap (sum_of (zeros n)) rest.vanishes ∙ sum_of-self n (zeros n) (length-zeros n);
    }

-- ---- one row more

pub record Grows (n : ℕ) (rows : List (List Bool)) (v : List Bool) (image chosen kernel : List (List Bool)) : Type 0 where
  pub widths : HaveWidth n rows
  pub width : length v ≡ n
  pub basis : IsRowBasis n rows image
  pub relations : IsKernelBasis n rows kernel
  pub preimages : ArePreimages n rows kernel image chosen

module _ (n : ℕ) (rows : List (List Bool)) (v : List Bool) (image chosen kernel : List (List Bool)) (h : Grows n rows v image chosen kernel) where
  abbrev more : List (List Bool)
  more = rows ++ v ∷ []

  abbrev quasi : List Bool
  quasi = quasi_of (length rows) image chosen v

  abbrev c : List Bool
  c = quasi ++ true ∷ []

  abbrev rest : List Bool
  rest = rest_of n image v

  abbrev reached : List Bool
  reached = combination n (at_pivots image v) image

  one_width : HaveWidth n (v ∷ [])
  one_width = HaveWidth-cons n v [] h.width (HaveWidth-nil n)

  pub more_widths : HaveWidth n more
  more_widths = HaveWidth-append n rows (v ∷ []) h.widths one_width

  length_more : length more ≡ length rows + 1
  length_more = length-append rows (v ∷ [])

  with_last : (d : List Bool) (t : Bool) → length d ≡ length rows → combination n (d ++ t ∷ []) more ≡ cond t (sum_of (combination n d rows) v) (combination n d rows)
  with_last d t e = combination-append n d (t ∷ []) rows (v ∷ []) h.widths one_width e ∙ end t (combination n d rows) (length-combination n d rows h.widths)
    where
      end : (t : Bool) (u : List Bool) → length u ≡ n → sum_of u (combination n (t ∷ []) (v ∷ [])) ≡ cond t (sum_of u v) u
      end true u l = ap (sum_of u) (sum_of-zeros_right n v h.width)
      end false u l = sum_of-zeros_right n u l

  quasi_length : length quasi ≡ length rows
  quasi_length = length-combination (length rows) (at_pivots image v) chosen h.preimages.widths

  c_length : length c ≡ length rows + 1
  c_length = length-append quasi (true ∷ []) ∙ ap (λ a. a + 1) quasi_length

  c_one_each : length c ≡ length more
  c_one_each = c_length ∙ sym length_more

  c_gives : combination n c more ≡ rest
  c_gives =
      with_last quasi true quasi_length
      ∙ ap (λ u. sum_of u v) (combination_of_preimages n rows kernel (at_pivots image v) image chosen h.widths h.preimages)
      ∙ sum_of-comm reached v

  c_clear : (i p : ℕ) → IsFirstOne (row kernel i) p → bit c p ≡ false
  c_clear i p f =
      let l : p < length (row kernel i) = one_within (row kernel i) p f.one in
      let e : length (row kernel i) ≡ length rows = h.relations.widths i (one_inside kernel i p f.one) in
      get_or_append_left quasi (true ∷ []) false p (omega (arith, quasi_length))
      ∙ bit-combination_zero (length rows) (at_pivots image v) chosen p h.preimages.widths (λ j m. (h.preimages.each j (omega (arith, h.preimages.as_many))).clear i p f)

  rows_in_more : (x : List Bool) → IsInSpan n rows x → IsInSpan n more x
  rows_in_more = span_within n rows more more_widths (λ i l. subst (IsInSpan n more) (get_or_append_left rows (v ∷ []) [] i l) (row-IsInSpan n more i more_widths (omega (arith, length_more))))

  v_in_more : IsInSpan n more v
  v_in_more = subst (IsInSpan n more) (get_or-append_seam rows v [] []) (row-IsInSpan n more (length rows) more_widths (omega (arith, length_more)))

  -- a row of the longer list is a row of the list, or the last one
  each_row : (P : List Bool → Type 0) → ((x : List Bool) → IsInSpan n rows x → P x) → P v → (i : ℕ) → i < length more → P (row more i)
  each_row P old new i l =
      elim (cases_lt i (length rows)) [
        | inl m ↦ subst P (sym (get_or_append_left rows (v ∷ []) [] i m)) (old (row rows i) (row-IsInSpan n rows i h.widths m))
        | inr m ↦
            let e : i ≡ length rows = omega (arith, length_more) in
            subst P (sym (ap (row more) e ∙ get_or-append_seam rows v [] [])) new
      ]

  -- a relation that takes the last row puts it into the span
  taken_last : (d : List Bool) → length d ≡ length rows → IsInKernel n more (d ++ true ∷ []) → IsInSpan n image v
  taken_last d e k =
      let x = combination n d rows in
      let lx : length x ≡ n = length-combination n d rows h.widths in
      let nothing : sum_of x v ≡ zeros n = sym (with_last d true e) ∙ k.vanishes in
      let same : x ≡ v = sym (ap (sum_of x) nothing ∙ sum_of-zeros_right n x lx) ∙ sum_of-cancel n x v lx h.width in
      (h.basis.same_span v).0 (record { coefficients = d; one_each = e; sum = same })

  not_last : (d : List Bool) → length d ≡ length rows → IsInKernel n more (longer d) → IsInSpan (length rows + 1) (map longer kernel) (longer d)
  not_last d e k =
      let s = (h.relations.spans_kernel d).0 (record { one_each = e; vanishes = sym (with_last d false e) ∙ k.vanishes }) in
      record {
        coefficients = s.coefficients;
        one_each = s.one_each ∙ sym (length-map kernel longer);
        sum = combination-longer (length rows) s.coefficients kernel h.relations.widths ∙ ap longer s.sum;
      }

  longer_in_kernel : (x : List Bool) → IsInSpan (length rows + 1) (map longer kernel) x → IsInKernel n more x
  longer_in_kernel x s =
      let d = combination (length rows) s.coefficients kernel in
      let is : longer d ≡ x = sym (combination-longer (length rows) s.coefficients kernel h.relations.widths) ∙ s.sum in
      let k = (h.relations.spans_kernel d).1 (record { coefficients = s.coefficients; one_each = s.one_each ∙ length-map kernel longer; sum = refl }) in
      subst (IsInKernel n more) is (record { one_each = length-longer (length rows) d k.one_each ∙ sym length_more; vanishes = with_last d false k.one_each ∙ k.vanishes })

  -- a preimage, and c added to it or not
  preimage_longer : (i : ℕ) → i < length image → IsPreimage n more (map longer kernel) (row image i) (longer (row chosen i))
  preimage_longer i l =
      let p = h.preimages.each i l in
      record {
        one_each = length-longer (length rows) (row chosen i) p.one_each ∙ sym length_more;
        gives = with_last (row chosen i) false p.one_each ∙ p.gives;
        clear = λ j a f. bit-longer (row chosen i) a ∙ p.clear j a (first_longer kernel j a f);
      }

  preimage_plus : (b : Bool) (x y : List Bool) → IsPreimage n more (map longer kernel) x y → IsPreimage n more (map longer kernel) (cond b (sum_of x rest) x) (cond b (sum_of y c) y)
  preimage_plus false x y p = p
  preimage_plus true x y p =
      let len : length y ≡ length c = p.one_each ∙ sym c_one_each in
      record {
        one_each = length-sum_of y c len ∙ p.one_each;
        gives = combination-sum_of n y c more more_widths len ∙ ap (λ z. sum_of z (combination n c more)) p.gives ∙ ap (sum_of x) c_gives;
        clear = λ j a f. bit-sum_of y c a len ∙ ap (λ z. plus z (bit c a)) (p.clear j a f) ∙ c_clear j a (first_longer kernel j a f);
      }

  -- ---- the row is a sum of those before

  module _ (none : IsZero rest) (p k : ℕ) (first : IsFirstOne c p) (place : IsPlaceFor p kernel k) where
    nothing : rest ≡ zeros n
    nothing = zeros_from_bits n rest (rest_length n image v h.basis.widths h.width) none

    inside : IsInSpan n image v
    inside = zero_left n image v h.basis.widths h.width none

    joins : MayJoin (length rows + 1) c p k (map longer kernel)
    joins = record {
      widths = widths_longer (length rows) kernel h.relations.widths;
      reduced = reduced_longer kernel h.relations.reduced;
      nonzero = nonzero_longer kernel h.relations.nonzero;
      width = c_length;
      first = first;
      apart = λ i a f. c_clear i a (first_longer kernel i a f);
      place = place_longer p k kernel h.relations.nonzero place;
    }

    abbrev kernel_rows : List (List Bool)
    kernel_rows = with_pivot c p k (map longer kernel)

    abbrev kernel_both : List (List Bool)
    kernel_both = map longer kernel ++ c ∷ []

    c_in_kernel : IsInKernel n more c
    c_in_kernel = record { one_each = c_one_each; vanishes = c_gives ∙ nothing }

    longer_in_both : (x : List Bool) → IsInSpan (length rows + 1) (map longer kernel) x → IsInSpan (length rows + 1) kernel_both x
    longer_in_both = span_within (length rows + 1) (map longer kernel) kernel_both (both_widths (length rows + 1) c p k (map longer kernel) joins) (λ i l. old_in_both (length rows + 1) c p k (map longer kernel) joins i l)

    in_both : (x : List Bool) → IsInKernel n more x → IsEnded (length rows) x → IsInSpan (length rows + 1) kernel_both x
    in_both x q e =
        elim (cases_Bool e.last) [
          | inr off ↦
              let is : x ≡ longer e.front = e.is ∙ ap (λ t. e.front ++ t ∷ []) off in
              subst (IsInSpan (length rows + 1) kernel_both) (sym is) (longer_in_both (longer e.front) (not_last e.front e.width (subst (IsInKernel n more) is q)))
          | inl on ↦
              let is : x ≡ e.front ++ true ∷ [] = e.is ∙ ap (λ t. e.front ++ t ∷ []) on in
              let d = sum_of quasi e.front in
              let same : length quasi ≡ length e.front = quasi_length ∙ sym e.width in
              let y : sum_of c x ≡ longer d = ap (sum_of c) is ∙ sum_of-append quasi (true ∷ []) e.front (true ∷ []) same in
              let len : length c ≡ length x = c_one_each ∙ sym q.one_each in
              let z : IsInKernel n more (sum_of c x) = record {
                one_each = length-sum_of c x len ∙ c_one_each;
                vanishes = combination-sum_of n c x more more_widths len ∙ ap (λ u. sum_of u (combination n x more)) (c_gives ∙ nothing) ∙ ap (sum_of (zeros n)) q.vanishes ∙ sum_of-self n (zeros n) (length-zeros n);
              } in
              let s = longer_in_both (longer d) (not_last d (length-sum_of quasi e.front same ∙ quasi_length) (subst (IsInKernel n more) y z)) in
              subst (IsInSpan (length rows + 1) kernel_both) (ap (sum_of c) (sym y) ∙ sum_of-cancel (length rows + 1) c x c_length (q.one_each ∙ length_more))
              (sum-IsInSpan (length rows + 1) kernel_both c (longer d) (both_widths (length rows + 1) c p k (map longer kernel) joins) (new_in_both (length rows + 1) c p k (map longer kernel) joins) s)
        ]

    both_in_kernel : (x : List Bool) → IsInSpan (length rows + 1) kernel_both x → IsInKernel n more x
    both_in_kernel x s =
        subst (IsInKernel n more) s.sum (kernel_combination n (length rows + 1) s.coefficients kernel_both more more_widths length_more (both_widths (length rows + 1) c p k (map longer kernel) joins) each)
      where
        each : (i : ℕ) → i < length kernel_both → IsInKernel n more (row kernel_both i)
        each i l =
            elim (cases_lt i (length (map longer kernel))) [
              | inl m ↦ subst (IsInKernel n more) (sym (get_or_append_left (map longer kernel) (c ∷ []) [] i m)) (longer_in_kernel (row (map longer kernel) i) (row-IsInSpan (length rows + 1) (map longer kernel) i joins.widths m))
              | inr m ↦
                  let e : i ≡ length (map longer kernel) = omega (arith, length_both (length rows + 1) c p k (map longer kernel) joins) in
                  subst (IsInKernel n more) (sym (ap (row kernel_both) e ∙ get_or-append_seam (map longer kernel) c [] [])) c_in_kernel
            ]

    pub relation_kernel : IsKernelBasis n more kernel_rows
    relation_kernel = record {
      widths = subst (λ a. HaveWidth a kernel_rows) (sym length_more) (joined_widths (length rows + 1) c p k (map longer kernel) joins);
      spans_kernel = λ x. (
        λ q. subst (λ a. IsInSpan a kernel_rows x) (sym length_more) ((joined_span (length rows + 1) c p k (map longer kernel) joins x).0 (in_both x q (ended (length rows) x (q.one_each ∙ length_more)))),
        λ s. both_in_kernel x ((joined_span (length rows + 1) c p k (map longer kernel) joins x).1 (subst (λ a. IsInSpan a kernel_rows x) length_more s)),
      );
      reduced = joined_reduced (length rows + 1) c p k (map longer kernel) joins;
      nonzero = joined_nonzero (length rows + 1) c p k (map longer kernel) joins;
    }

    pub relation_basis : IsRowBasis n more image
    relation_basis = record {
      widths = h.basis.widths;
      same_span = HaveSameSpan_from_rows n more image more_widths h.basis.widths
          (each_row (IsInSpan n image) (λ x s. (h.basis.same_span x).0 s) inside)
          (λ i l. rows_in_more (row image i) ((h.basis.same_span (row image i)).1 (row-IsInSpan n image i h.basis.widths l)));
      reduced = h.basis.reduced;
      nonzero = h.basis.nonzero;
    }

    abbrev cleared_chosen : List (List Bool)
    cleared_chosen = map (cleared c p) (map longer chosen)

    row_chosen : (i : ℕ) → i < length image → row cleared_chosen i ≡ cleared c p (longer (row chosen i))
    row_chosen i l =
        let m : i < length chosen = omega (arith, h.preimages.as_many) in
        get_or-map (cleared c p) (map longer chosen) i [] [] (omega (arith, length-map chosen longer)) ∙ ap (cleared c p) (get_or-map longer chosen i [] [] m)

    cleared_preimage : (i : ℕ) → i < length image → IsPreimage n more kernel_rows (row image i) (cleared c p (longer (row chosen i)))
    cleared_preimage i l =
        let y = longer (row chosen i) in
        let before = preimage_longer i l in
        let same : length y ≡ length c = before.one_each ∙ sym c_one_each in
        record {
          one_each = length-cleared (length more) c y p before.one_each c_one_each;
          gives = elim (cases_Bool (bit y p)) [
            | inl t ↦ rw t (combination-sum_of n y c more more_widths same ∙ ap (sum_of (combination n y more)) (c_gives ∙ nothing) ∙ sum_of-zeros_right n (combination n y more) (length-combination n y more more_widths) ∙ before.gives)
            | inr f ↦ rw f before.gives
          ];
          clear = λ j a f. elim (came_from (length rows + 1) c p k (map longer kernel) joins j (one_inside kernel_rows j a f.one)) [
            | inl e ↦ ap (bit (cleared c p y)) (first_of_new (length rows + 1) c p k (map longer kernel) joins j a e f) ∙ bit-cleared_same c y p (λ q. same) first.one
            | inr o ↦
                let g = first_of_old (length rows + 1) c p k (map longer kernel) joins j o.0 a o.1 f in
                bit-cleared_other c y p a (λ q. same) (c_clear o.0 a (first_longer kernel o.0 a g)) ∙ before.clear o.0 a g
          ];
        }

    pub relation_preimages : ArePreimages n more kernel_rows image cleared_chosen
    relation_preimages = record {
      widths = subst (λ a. HaveWidth a cleared_chosen) (sym length_more) (HaveWidth-cleared (length rows + 1) c p (map longer chosen) c_length (widths_longer (length rows) chosen h.preimages.widths));
      as_many = length-map (map longer chosen) (cleared c p) ∙ length-map chosen longer ∙ h.preimages.as_many;
      each = λ i l. subst (IsPreimage n more kernel_rows (row image i)) (sym (row_chosen i l)) (cleared_preimage i l);
    }

  -- ---- the row is outside the span of those before

  module _ (q k : ℕ) (first : IsFirstOne rest q) (place : IsPlaceFor q image k) where
    outside : IsZero rest → ⊥
    outside z = both_ways (bit rest q) (z q) first.one

    joins_image : MayJoin n rest q k image
    joins_image = record {
      widths = h.basis.widths;
      reduced = h.basis.reduced;
      nonzero = h.basis.nonzero;
      width = rest_length n image v h.basis.widths h.width;
      first = first;
      apart = λ i a f. rest_apart n image v i a h.basis.widths h.basis.reduced h.basis.nonzero h.width f;
      place = place;
    }

    abbrev image_rows : List (List Bool)
    image_rows = with_pivot rest q k image

    abbrev image_both : List (List Bool)
    image_both = image ++ rest ∷ []

    not_taken : (x : List Bool) → IsInKernel n more x → IsEnded (length rows) x → IsInSpan (length rows + 1) (map longer kernel) x
    not_taken x s e =
        elim (cases_Bool e.last) [
          | inl on ↦
              let is : x ≡ e.front ++ true ∷ [] = e.is ∙ ap (λ t. e.front ++ t ∷ []) on in
              absurd (outside (span_left n image v h.basis.widths h.basis.reduced h.basis.nonzero h.width (taken_last e.front e.width (subst (IsInKernel n more) is s))))
          | inr off ↦
              let is : x ≡ longer e.front = e.is ∙ ap (λ t. e.front ++ t ∷ []) off in
              subst (IsInSpan (length rows + 1) (map longer kernel)) (sym is) (not_last e.front e.width (subst (IsInKernel n more) is s))
        ]

    pub pivot_kernel : IsKernelBasis n more (map longer kernel)
    pivot_kernel = record {
      widths = subst (λ a. HaveWidth a (map longer kernel)) (sym length_more) (widths_longer (length rows) kernel h.relations.widths);
      spans_kernel = λ x. (
        λ s. subst (λ a. IsInSpan a (map longer kernel) x) (sym length_more) (not_taken x s (ended (length rows) x (s.one_each ∙ length_more))),
        λ s. longer_in_kernel x (subst (λ a. IsInSpan a (map longer kernel) x) length_more s),
      );
      reduced = reduced_longer kernel h.relations.reduced;
      nonzero = nonzero_longer kernel h.relations.nonzero;
    }

    image_in_both : (x : List Bool) → IsInSpan n image x → IsInSpan n image_both x
    image_in_both = span_within n image image_both (both_widths n rest q k image joins_image) (λ i l. old_in_both n rest q k image joins_image i l)

    reached_in_image : IsInSpan n image reached
    reached_in_image = record { coefficients = at_pivots image v; one_each = length-at_pivots image v; sum = refl }

    reached_length : length reached ≡ n
    reached_length = length-combination n (at_pivots image v) image h.basis.widths

    v_in_both : IsInSpan n image_both v
    v_in_both =
        subst (IsInSpan n image_both) (ap (sum_of reached) (sum_of-comm v reached) ∙ sum_of-cancel n reached v reached_length h.width)
        (sum-IsInSpan n image_both reached rest (both_widths n rest q k image joins_image) (image_in_both reached reached_in_image) (new_in_both n rest q k image joins_image))

    image_in_more : (x : List Bool) → IsInSpan n image x → IsInSpan n more x
    image_in_more x s = rows_in_more x ((h.basis.same_span x).1 s)

    same_both : HaveSameSpan n more image_both
    same_both =
        HaveSameSpan_from_rows n more image_both more_widths (both_widths n rest q k image joins_image)
        (each_row (IsInSpan n image_both) (λ x s. image_in_both x ((h.basis.same_span x).0 s)) v_in_both)
        (λ i l. elim (cases_lt i (length image)) [
          | inl m ↦ subst (IsInSpan n more) (sym (get_or_append_left image (rest ∷ []) [] i m)) (image_in_more (row image i) (row-IsInSpan n image i h.basis.widths m))
          | inr m ↦
              let e : i ≡ length image = omega (arith, length_both n rest q k image joins_image) in
              subst (IsInSpan n more) (sym (ap (row image_both) e ∙ get_or-append_seam image rest [] []))
              (sum-IsInSpan n more v reached more_widths v_in_more (image_in_more reached reached_in_image))
        ])

    pub pivot_basis : IsRowBasis n more image_rows
    pivot_basis = record {
      widths = joined_widths n rest q k image joins_image;
      same_span = HaveSameSpan-trans n more image_both image_rows same_both (joined_span n rest q k image joins_image);
      reduced = joined_reduced n rest q k image joins_image;
      nonzero = joined_nonzero n rest q k image joins_image;
    }

    module _ (added : List (List Bool)) (is : IsAddedBeside c q image (map longer chosen) added) where
      abbrev chosen_rows : List (List Bool)
      chosen_rows = insert added k c

      length_added : length added ≡ length image
      length_added = is.as_many ∙ length-map chosen longer ∙ h.preimages.as_many

      row_added : (i : ℕ) → i < length image → row added i ≡ cond (bit (row image i) q) (sum_of (longer (row chosen i)) c) (longer (row chosen i))
      row_added i l =
          let m : i < length chosen = omega (arith, h.preimages.as_many) in
          is.rows i (omega (arith, length-map chosen longer)) ∙ ap (λ y. cond (bit (row image i) q) (sum_of y c) y) (get_or-map longer chosen i [] [] m)

      within_added : k ≤ length added
      within_added = omega (arith, length_added, place.within)

      new_preimage : IsPreimage n more (map longer kernel) rest c
      new_preimage = record { one_each = c_one_each; gives = c_gives; clear = λ j a f. c_clear j a (first_longer kernel j a f) }

      each_preimage : (i : ℕ) → i < length image_rows → IsPreimage n more (map longer kernel) (row image_rows i) (row chosen_rows i)
      each_preimage i l =
          elim (came_from n rest q k image joins_image i l) [
            | inl e ↦
                let x : row image_rows i ≡ rest = ap (row image_rows) e ∙ row_new n rest q k image joins_image in
                let y : row chosen_rows i ≡ c = ap (row chosen_rows) e ∙ get_or-insert_at added k c [] within_added in
                rw (x, y) new_preimage
            | inr o ↦
                let j = o.0 in
                let y : row chosen_rows i ≡ row added j = elim o.1.moved [
                  | inl t ↦ ap (row chosen_rows) t.1 ∙ get_or-insert_below added k c [] j t.0 within_added
                  | inr t ↦ ap (row chosen_rows) t.1 ∙ get_or-insert_above added k c [] j t.0 within_added
                ] in
                subst (IsPreimage n more (map longer kernel) (row image_rows i)) (sym (y ∙ row_added j o.1.there))
                (subst (λ x. IsPreimage n more (map longer kernel) x (cond (bit (row image j) q) (sum_of (longer (row chosen j)) c) (longer (row chosen j)))) (sym o.1.same)
                (preimage_plus (bit (row image j) q) (row image j) (longer (row chosen j)) (preimage_longer j o.1.there)))
          ]

      added_widths : HaveWidth (length rows + 1) added
      added_widths i l =
          let m : i < length image = omega (arith, length_added) in
          let p = preimage_plus (bit (row image i) q) (row image i) (longer (row chosen i)) (preimage_longer i m) in
          ap length (row_added i m) ∙ p.one_each ∙ length_more

      pub pivot_preimages : ArePreimages n more (map longer kernel) image_rows chosen_rows
      pivot_preimages = record {
        widths = subst (λ a. HaveWidth a chosen_rows) (sym length_more) (HaveWidth-insert (length rows + 1) k c added c_length added_widths);
        as_many = (
            let a = length-insert added k c within_added in
            let b = length_all n rest q k image joins_image in
            let e : length chosen_rows ≡ length image_rows = omega (arith, a, b, length_added) in
            e);
        each = each_preimage;
      }
