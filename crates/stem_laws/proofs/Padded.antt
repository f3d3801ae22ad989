-- Zeros behind each row of a matrix change neither spans, nor kernels, nor what is chosen.
use Rattle.std.proofs.Common.{◌≡◌, inl, inr, ℕ, suc, ◌+◌, ◌-◌, ◌<◌, Bool, true, false, List, [], ◌∷◌, ◌++◌, length, map, take, drop, refl, sym, ◌∙◌, ap, subst, arith}
use Rattle.std.specs.List.{items_where_true}
use Rattle.std.proofs.lemmas.Bool.{cases_lt}
use Rattle.std.proofs.lemmas.List.{append-nil, map-append, get_or-map, get_or_append_left, get_or-append_right, get_or_past, get_or-drop, length-append, length-map, length-take-le, length-drop, take-append-drop, take_at, take-map}
use Rattle.f2_vec.specs.Vectors.{bit, sum_of, zeros, IsZeroFrom, IsFirstOne}
use Rattle.f2_vec.specs.Spans.{row, HaveWidth, combination, IsInSpan, IsInKernel}
use Rattle.f2_vec.proofs.Sums.{length-zeros, bit-zeros, zeros_from_bits, sum_of-zeros_right}
use Rattle.f2_vec.proofs.Spans.{HaveWidth-append, HaveWidth-items_where_true, length-combination, combination-zeros, combination-append}
use Rattle.f2_vec.proofs.Split.{zeros-append}
use Rattle.f2_vec.proofs.Combinations.{HaveWidth-take, combination-padded_right}
use Rattle.f2_matrix.specs.Echelon.{IsReduced, IsKernelBasis}
use Rattle.f2_matrix.specs.Choice.{IsChosen}

-- the vector with w zeros behind it
abbrev pub padded : ℕ → List Bool → List Bool
padded w v = v ++ zeros w

pub length-padded : (n w : ℕ) (v : List Bool) → length v ≡ n → length (padded w v) ≡ n + w
length-padded n w v e = omega (arith, length-append v (zeros w), length-zeros w)

pub bit-padded : (w : ℕ) (v : List Bool) (p : ℕ) → bit (padded w v) p ≡ bit v p
bit-padded w v p =
    elim (cases_lt p (length v)) [
      | inl l ↦ get_or_append_left v (zeros w) false p l
      | inr l ↦ get_or-append_right v (zeros w) (length v) p false refl l ∙ (bit-zeros w (p - length v) ∙ sym (get_or_past v p false l))
    ]

pub row-padded : (w : ℕ) (rows : List (List Bool)) (i : ℕ) → i < length rows → row (map (padded w) rows) i ≡ padded w (row rows i)
row-padded w rows i l = get_or-map (padded w) rows i [] [] l

pub bit-row_padded : (w : ℕ) (rows : List (List Bool)) (i p : ℕ) → bit (row (map (padded w) rows) i) p ≡ bit (row rows i) p
bit-row_padded w rows i p =
    elim (cases_lt i (length rows)) [
      | inl l ↦ ap (λ (v : List Bool). bit v p) (row-padded w rows i l) ∙ bit-padded w (row rows i) p
      | inr l ↦ ap (λ (v : List Bool). bit v p) (get_or_past (map (padded w) rows) i [] (omega (arith, length-map rows (padded w)))) ∙ sym (ap (λ (v : List Bool). bit v p) (get_or_past rows i [] l))
    ]

pub HaveWidth-padded : (n w : ℕ) (rows : List (List Bool)) → HaveWidth n rows → HaveWidth (n + w) (map (padded w) rows)
HaveWidth-padded n w rows h i l =
    let b : i < length rows = omega (arith, length-map rows (padded w)) in
    ap length (row-padded w rows i b) ∙ length-padded n w (row rows i) (h i b)

-- what stands before the zeros
unpadded : (n w : ℕ) (u v : List Bool) → length u ≡ n → length v ≡ n → padded w u ≡ padded w v → u ≡ v
unpadded n w u v d e same = sym (take_at u (zeros w) n d) ∙ (ap (take n) same ∙ take_at v (zeros w) n e)

pub nothing_padded : (rows : List (List Bool)) → map (padded 0) rows ≡ rows
nothing_padded [] = refl
nothing_padded (r ∷ rows) = ap (λ (z : List Bool). z ∷ map (padded 0) rows) (append-nil r) ∙ ap (λ (z : List (List Bool)). r ∷ z) (nothing_padded rows)

-- the first n coordinates, with zeros behind
padded-take : (n w : ℕ) (v : List Bool) → drop n v ≡ zeros w → v ≡ padded w (take n v)
padded-take n w v z = sym (take-append-drop n v) ∙ ap (λ (x : List Bool). take n v ++ x) z

pub HaveWidth-unpadded : (n w : ℕ) (rows : List (List Bool)) → HaveWidth (n + w) (map (padded w) rows) → HaveWidth n rows
HaveWidth-unpadded n w rows h i l =
    let wide = h i (omega (arith, length-map rows (padded w))) in
    omega (arith, ap length (row-padded w rows i l), length-append (row rows i) (zeros w), length-zeros w)

-- rows that are zero from place n on
pub padded_back : (n w : ℕ) (rows : List (List Bool)) → HaveWidth (n + w) rows → ((i : ℕ) → i < length rows → IsZeroFrom (row rows i) n) → rows ≡ map (padded w) (map (take n) rows)
padded_back n w [] h z = refl
padded_back n w (r ∷ rows) h z =
    let e : length r ≡ n + w = h 0 (omega arith) in
    let left : length (drop n r) ≡ w = omega (arith, length-drop n r) in
    let none : drop n r ≡ zeros w = zeros_from_bits w (drop n r) left (λ k. get_or-drop n r k false ∙ z 0 (omega arith) (n + k) (omega arith)) in
    ap (λ (v : List Bool). v ∷ rows) (padded-take n w r none)
    ∙ ap (λ (vs : List (List Bool)). padded w (take n r) ∷ vs) (padded_back n w rows (λ i l. h (suc i) (omega arith)) (λ i l. z (suc i) (omega arith)))

-- ---- spans and kernels

pub padded-IsInSpan : (n w : ℕ) (rows : List (List Bool)) (v : List Bool) → HaveWidth n rows → IsInSpan n rows v → IsInSpan (n + w) (map (padded w) rows) (padded w v)
padded-IsInSpan n w rows v h s = record {
  coefficients = s.coefficients;
  one_each = s.one_each ∙ sym (length-map rows (padded w));
  sum = combination-padded_right n w s.coefficients rows h ∙ ap (padded w) s.sum;
}

pub unpadded-IsInSpan : (n w : ℕ) (rows : List (List Bool)) (v : List Bool) → HaveWidth n rows → length v ≡ n → IsInSpan (n + w) (map (padded w) rows) (padded w v) → IsInSpan n rows v
unpadded-IsInSpan n w rows v h e s = record {
  coefficients = s.coefficients;
  one_each = s.one_each ∙ length-map rows (padded w);
  sum = unpadded n w (combination n s.coefficients rows) v (length-combination n s.coefficients rows h) e (sym (combination-padded_right n w s.coefficients rows h) ∙ s.sum);
}

pub padded-IsInKernel : (n w : ℕ) (rows : List (List Bool)) (c : List Bool) → HaveWidth n rows → IsInKernel n rows c → IsInKernel (n + w) (map (padded w) rows) c
padded-IsInKernel n w rows c h k = record {
  one_each = k.one_each ∙ sym (length-map rows (padded w));
  vanishes = combination-padded_right n w c rows h ∙ (ap (padded w) k.vanishes ∙ sym (zeros-append n w));
}

pub unpadded-IsInKernel : (n w : ℕ) (rows : List (List Bool)) (c : List Bool) → HaveWidth n rows → IsInKernel (n + w) (map (padded w) rows) c → IsInKernel n rows c
unpadded-IsInKernel n w rows c h k = record {
  one_each = k.one_each ∙ length-map rows (padded w);
  vanishes = unpadded n w (combination n c rows) (zeros n) (length-combination n c rows h) (length-zeros n) (sym (combination-padded_right n w c rows h) ∙ (k.vanishes ∙ zeros-append n w));
}

-- the reduced basis of the kernel is one and the same
pub padded-IsKernelBasis : (n w : ℕ) (rows kernel : List (List Bool)) → HaveWidth n rows → IsKernelBasis n rows kernel → IsKernelBasis (n + w) (map (padded w) rows) kernel
padded-IsKernelBasis n w rows kernel h k =
    let len : length rows ≡ length (map (padded w) rows) = sym (length-map rows (padded w)) in
    record {
      widths = subst (λ (m : ℕ). HaveWidth m kernel) len k.widths;
      spans_kernel = λ c. (
        λ p. subst (λ (m : ℕ). IsInSpan m kernel c) len ((k.spans_kernel c).0 (unpadded-IsInKernel n w rows c h p)),
        λ p. padded-IsInKernel n w rows c h ((k.spans_kernel c).1 (subst (λ (m : ℕ). IsInSpan m kernel c) (sym len) p)),
      );
      reduced = k.reduced;
      nonzero = k.nonzero;
    }

pub unpadded-IsKernelBasis : (n w : ℕ) (rows kernel : List (List Bool)) → HaveWidth n rows → IsKernelBasis (n + w) (map (padded w) rows) kernel → IsKernelBasis n rows kernel
unpadded-IsKernelBasis n w rows kernel h k =
    let len : length (map (padded w) rows) ≡ length rows = length-map rows (padded w) in
    record {
      widths = subst (λ (m : ℕ). HaveWidth m kernel) len k.widths;
      spans_kernel = λ c. (
        λ p. subst (λ (m : ℕ). IsInSpan m kernel c) len ((k.spans_kernel c).0 (padded-IsInKernel n w rows c h p)),
        λ p. unpadded-IsInKernel n w rows c h ((k.spans_kernel c).1 (subst (λ (m : ℕ). IsInSpan m kernel c) (sym len) p)),
      );
      reduced = k.reduced;
      nonzero = k.nonzero;
    }

-- ---- what is chosen

chosen_padded : (w : ℕ) (kept : List Bool) (candidates : List (List Bool)) → items_where_true kept (map (padded w) candidates) ≡ map (padded w) (items_where_true kept candidates)
chosen_padded w [] candidates = refl
chosen_padded w (k ∷ kept) [] = refl
chosen_padded w (true ∷ kept) (x ∷ candidates) = ap (λ (z : List (List Bool)). padded w x ∷ z) (chosen_padded w kept candidates)
chosen_padded w (false ∷ kept) (x ∷ candidates) = chosen_padded w kept candidates

unpadded_all : (n w : ℕ) (xs ys : List (List Bool)) → HaveWidth n xs → HaveWidth n ys → map (padded w) xs ≡ map (padded w) ys → xs ≡ ys
unpadded_all n w [] [] h g e = refl
unpadded_all n w [] (y ∷ ys) h g e = absurd (let l = ap length e in omega arith)
unpadded_all n w (x ∷ xs) [] h g e = absurd (let l = ap length e in omega arith)
unpadded_all n w (x ∷ xs) (y ∷ ys) h g e =
    let first : x ≡ y = unpadded n w x y (h 0 (omega arith)) (g 0 (omega arith)) (ap (λ (z : List (List Bool)). row z 0) e) in
    let rest : xs ≡ ys = unpadded_all n w xs ys (λ i l. h (suc i) (omega arith)) (λ i l. g (suc i) (omega arith)) (ap (λ (z : List (List Bool)). drop 1 z) e) in
    ap (λ (z : List Bool). z ∷ xs) first ∙ ap (λ (z : List (List Bool)). y ∷ z) rest

pub unpadded-IsChosen : (n w : ℕ) (old candidates chosen : List (List Bool)) → HaveWidth n old → HaveWidth n candidates → HaveWidth n chosen → IsChosen (n + w) (map (padded w) old) (map (padded w) candidates) (map (padded w) chosen) → IsChosen n old candidates chosen
unpadded-IsChosen n w old candidates chosen ho hc hx p =
    let len : length (map (padded w) candidates) ≡ length candidates = length-map candidates (padded w) in
    record {
      kept = p.kept;
      one_each = p.one_each ∙ len;
      dropped = λ i l.
          let before = old ++ take i candidates in
          let wide : HaveWidth n before = HaveWidth-append n old (take i candidates) ho (HaveWidth-take n i candidates hc) in
          let rows : map (padded w) old ++ take i (map (padded w) candidates) ≡ map (padded w) before =
          ap (λ (z : List (List Bool)). map (padded w) old ++ z) (take-map (padded w) i candidates) ∙ sym (map-append (padded w) old (take i candidates)) in
          let here : row (map (padded w) candidates) i ≡ padded w (row candidates i) = row-padded w candidates i l in
          let d = p.dropped i (omega arith) in (
            λ e. unpadded-IsInSpan n w before (row candidates i) wide (hc i l) (subst (IsInSpan (n + w) (map (padded w) before)) here (subst (λ (z : List (List Bool)). IsInSpan (n + w) z (row (map (padded w) candidates) i)) rows (d.0 e))),
            λ q. d.1 (subst (λ (z : List (List Bool)). IsInSpan (n + w) z (row (map (padded w) candidates) i)) (sym rows) (subst (IsInSpan (n + w) (map (padded w) before)) (sym here) (padded-IsInSpan n w before (row candidates i) wide q))),
          );
      chosen_are = unpadded_all n w chosen (items_where_true p.kept candidates) hx (HaveWidth-items_where_true n p.kept candidates hc) (p.chosen_are ∙ chosen_padded w p.kept candidates);
    }

-- ---- rows with no part in any relation

first_one : (w : ℕ) (rows : List (List Bool)) (i p : ℕ) → IsFirstOne (row (map (padded w) rows) i) p → IsFirstOne (row rows i) p
first_one w rows i p f = record {
  one = sym (bit-row_padded w rows i p) ∙ f.one;
  zeros_before = λ k l. sym (bit-row_padded w rows i k) ∙ f.zeros_before k l;
}

padded-IsReduced : (w : ℕ) (rows : List (List Bool)) → IsReduced rows → IsReduced (map (padded w) rows)
padded-IsReduced w rows r = record {
  zero_rows_last = λ i j l z k. bit-row_padded w rows j k ∙ r.zero_rows_last i j l (λ q. sym (bit-row_padded w rows i q) ∙ z q) k;
  pivots_rise = λ i j p q l f g. r.pivots_rise i j p q l (first_one w rows i p f) (first_one w rows j q g);
  pivots_alone = λ i j p d f. bit-row_padded w rows j p ∙ r.pivots_alone i j p d (first_one w rows i p f);
}

-- Where no relation has a coefficient at the last rows, the kernel is that of the others, with zeros behind.
pub kernel_behind : (n : ℕ) (old new kernel : List (List Bool)) → HaveWidth n old → HaveWidth n new → IsKernelBasis n old kernel → ((c : List Bool) → IsInKernel n (old ++ new) c → drop (length old) c ≡ zeros (length new)) → IsKernelBasis n (old ++ new) (map (padded (length new)) kernel)
kernel_behind n old new kernel ho hn k none =
    let m = length old in
    let w = length new in
    let len : m + w ≡ length (old ++ new) = sym (length-append old new) in
    let P : List Bool → Type 0 = λ c. IsInSpan (m + w) (map (padded w) kernel) c in
    let behind : (c d : List Bool) → length c ≡ m → combination n (c ++ zeros w) (old ++ new) ≡ combination n c old = λ c d e.
    combination-append n c (zeros w) old new ho hn e ∙ (ap (sum_of (combination n c old)) (combination-zeros n w new) ∙ sum_of-zeros_right n (combination n c old) (length-combination n c old ho)) in
    let into : (c : List Bool) → IsInKernel n (old ++ new) c → P c = λ c p.
    let same : c ≡ padded w (take m c) = padded-take m w c (none c p) in
    let short : length (take m c) ≡ m = length-take-le m c (omega (arith, p.one_each, length-append old new)) in
    let front : IsInKernel n old (take m c) = record {
      one_each = short;
      vanishes = sym (behind (take m c) c short) ∙ (ap (λ (z : List Bool). combination n z (old ++ new)) (sym same) ∙ p.vanishes);
    } in
    subst P (sym same) (padded-IsInSpan m w kernel (take m c) k.widths ((k.spans_kernel (take m c)).0 front)) in
    let back : (c : List Bool) → P c → IsInKernel n (old ++ new) c = λ c p.
    let x = combination m p.coefficients kernel in
    let same : padded w x ≡ c = sym (combination-padded_right m w p.coefficients kernel k.widths) ∙ p.sum in
    let inside : IsInKernel n old x = (k.spans_kernel x).1 (record { coefficients = p.coefficients; one_each = p.one_each ∙ length-map kernel (padded w); sum = refl }) in
    subst (IsInKernel n (old ++ new)) same (record {
      one_each = length-padded m w x inside.one_each ∙ len;
      vanishes = behind x c inside.one_each ∙ inside.vanishes;
    }) in
    record {
      widths = subst (λ (z : ℕ). HaveWidth z (map (padded w) kernel)) len (HaveWidth-padded m w kernel k.widths);
      spans_kernel = λ c. (
        λ p. subst (λ (z : ℕ). IsInSpan z (map (padded w) kernel) c) len (into c p),
        λ p. back c (subst (λ (z : ℕ). IsInSpan z (map (padded w) kernel) c) (sym len) p),
      );
      reduced = padded-IsReduced w kernel k.reduced;
      nonzero = λ i l z. k.nonzero i (omega (arith, length-map kernel (padded w))) (λ q. sym (bit-row_padded w kernel i q) ∙ z q);
    }
