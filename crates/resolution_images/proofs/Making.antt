-- Rows that grow by one square.
use Rattle.std.proofs.Common.{◌≡◌, ◌≢◌, ◌≤ℤ◌, ℕ, suc, ◌+◌, ◌<◌, ◌≤◌, ℤ, pos, ◌+ℤ◌, Bool, List, [], ◌∷◌, ◌++◌, length, take, replicate, get_or, set, refl, ap, sym, subst, ◌∙◌, arith, inl, inr, ◌⊎◌}
use Rattle.std.proofs.lemmas.Bool.{cases_eq}
use Rattle.std.proofs.lemmas.List.{get_or_default, get_or-map, length-map, map-append, take_more, take_all, length-take-le, get_or-set_same, get_or-set_other, get_or-replicate, length-set, length-replicate}
use Rattle.resolution_laws.specs.Resolution.{Module, Content, no_content, square_in, degrees_from}
use Rattle.resolution_laws.proofs.Rows.{degrees_from-push, images_of-push, at_most-row}
use Rattle.f2_matrix.specs.Reduction.{Rows}
use Rattle.free_module.specs.FreeModule.{degree_at, free_width}
use Rattle.stem_laws.specs.Stems.{in_stems, degrees_in_stems, AreToCover, RowsInStemsAreWhole, KernelsInStemsAreToCover}
use Rattle.resolution_images.specs.BareRows.{BareRow, no_bare_row, bare_row_in, IsBareRowOf, AreOfStems}
use Rattle.resolution_images.specs.declared.resolve.Extent.{Extent}
use Rattle.resolution_images.specs.Made.{IsTableOf, with_one_square, IsMadeThrough, IsSquareInStems, IsToCover}
use Rattle.resolution_images.specs.Inside.Columns.{AreMadeThrough}
use Rattle.resolution_images.proofs.Standing.{IsResolvable, resolution_of}

-- the squares with one more
bare_more : (b : ℤ) (squares : List Content) (k : ℕ) (line more : BareRow) (content : Content) (t : ℤ) → length squares ≡ k → IsBareRowOf b squares line → t ≡ b +ℤ pos k → more ≡ with_one_square line t content.images → IsBareRowOf b (squares ++ content ∷ []) more
bare_more b squares k line more content t len h at e =
    subst (IsBareRowOf b (squares ++ content ∷ [])) (sym e) (record {
      degrees = ap (λ (ds : List ℤ). ds ++ replicate (length content.images) t) h.degrees ∙ ap (λ (u : ℤ). degrees_from b squares ++ replicate (length content.images) u) (at ∙ ap (λ n. b +ℤ pos n) (sym len)) ∙ sym (degrees_from-push b squares content);
      images = ap (λ (xs : List (List Bool)). xs ++ content.images) h.images ∙ sym (images_of-push squares content);
      counts = ap (λ (ns : List ℕ). ns ++ length content.images ∷ []) h.counts ∙ sym (map-append (λ (c : Content). length c.images) squares (content ∷ []));
    })

pub line_more : RowsInStemsAreWhole → (m : Module) (e : Extent) (i k : ℕ) (line more : BareRow) (content : Content) (t : ℤ) → i ≤ e.last → k ≤ e.n + i → IsMadeThrough m e i k line → IsSquareInStems m e i k content → t ≡ m.bottom +ℤ pos k → more ≡ with_one_square line t content.images → IsMadeThrough m e i (suc k) more
line_more whole m e i k line more content t row_is stem_is h square at is = λ table canonical.
    let all = in_stems m e.n table i in
    let len = whole m e.last e.n table canonical i row_is in
    let within : k < length all = omega (arith, len) in
    let before : length (take k all) ≡ k = length-take-le k all (omega arith) in
    let more_is : take (suc k) all ≡ take k all ++ content ∷ [] =
    (let next : suc k ≡ k + 1 = omega arith in ap (λ z. take z all) next) ∙ take_more all k no_content within ∙ ap (λ (c : Content). take k all ++ c ∷ []) (sym (square table canonical)) in
    subst (λ (z : List Content). IsBareRowOf m.bottom z more) (sym more_is) (bare_more m.bottom (take k all) k line more content t before (h table canonical) at is)

-- a row that ends before a degree has all of its squares there
pub line_ended : RowsInStemsAreWhole → (m : Module) (e : Extent) (i k : ℕ) (line : BareRow) → i ≤ e.last → e.n + i < k → IsMadeThrough m e i k line → IsMadeThrough m e i (suc k) line
line_ended whole m e i k line row_is past h = λ table canonical.
    let all = in_stems m e.n table i in
    let len = whole m e.last e.n table canonical i row_is in
    let a : take k all ≡ all = take_all k all (omega (arith, len)) in
    let b : take (suc k) all ≡ all = take_all (suc k) all (omega (arith, len)) in
    subst (λ (z : List Content). IsBareRowOf m.bottom z line) (a ∙ sym b) (h table canonical)

-- ---- the generators of the first squares of a row

pub gens_below : (b : ℤ) (squares : List Content) (line : BareRow) (k : ℕ) (gens : List ℤ) (t : ℤ) → IsBareRowOf b squares line → k ≤ length line.counts → t ≡ b +ℤ pos k → gens ≡ degrees_from b (take k squares) → (g : ℕ) → g < length gens → degree_at gens g ≤ℤ t
gens_below b squares line k gens t h l at is =
    let size : length line.counts ≡ length squares = ap length h.counts ∙ length-map squares (λ (c : Content). length c.images) in
    at_most-row b (take k squares) k gens t at is (length-take-le k squares (omega arith))

pub gens_more : (b : ℤ) (squares : List Content) (line : BareRow) (k count : ℕ) (gens wider : List ℤ) (t : ℤ) → IsBareRowOf b squares line → k < length line.counts → t ≡ b +ℤ pos k → count ≡ get_or line.counts k 0 → gens ≡ degrees_from b (take k squares) → wider ≡ gens ++ replicate count t → wider ≡ degrees_from b (take (k + 1) squares)
gens_more b squares line k count gens wider t h l at many is more =
    let size : length line.counts ≡ length squares = ap length h.counts ∙ length-map squares (λ (c : Content). length c.images) in
    let within : k < length squares = omega arith in
    let here = square_in squares k in
    let long : length (take k squares) ≡ k = length-take-le k squares (omega arith) in
    let count_is : count ≡ length here.images = many ∙ ap (λ (ns : List ℕ). get_or ns k 0) h.counts ∙ get_or-map (λ (c : Content). length c.images) squares k no_content 0 within in
    let t_is : t ≡ b +ℤ pos (length (take k squares)) = at ∙ ap (λ n. b +ℤ pos n) (sym long) in
    more ∙ ap (λ (ds : List ℤ). ds ++ replicate count t) is
    ∙ ap (λ n. degrees_from b (take k squares) ++ replicate n t) count_is
    ∙ ap (λ (u : ℤ). degrees_from b (take k squares) ++ replicate (length here.images) u) t_is
    ∙ sym (degrees_from-push b (take k squares) here)
    ∙ ap (degrees_from b) (sym (take_more squares k no_content within))

-- all of them where there are no more
pub gens_first : (b : ℤ) (squares : List Content) (line : BareRow) (n k : ℕ) (gens : List ℤ) → IsBareRowOf b squares line → k ≡ n ⊎ ((k ≡ length line.counts) × (k ≤ n)) → gens ≡ degrees_from b (take k squares) → gens ≡ degrees_from b (take n squares)
gens_first b squares line n k gens h end is =
    elim end [
      | inl e ↦ is ∙ ap (λ j. degrees_from b (take j squares)) e
      | inr e ↦
          let size : length line.counts ≡ length squares = ap length h.counts ∙ length-map squares (λ (c : Content). length c.images) in
          let a : take k squares ≡ squares = take_all k squares (omega (arith, e.0, size)) in
          let b' : take n squares ≡ squares = take_all n squares (omega (arith, e.0, e.1, size)) in
          is ∙ ap (degrees_from b) (a ∙ sym b')
    ]

-- ---- a column

-- a column begins above the rows that have ended
pub through_first : RowsInStemsAreWhole → (m : Module) (e : Extent) (first k : ℕ) (lines : List BareRow) → length lines ≡ e.last + 1 → ((i : ℕ) → i < first → e.n + i < k) → AreMadeThrough m e 0 k lines → AreMadeThrough m e first k lines
through_first whole m e first k lines count ended h = record {
  done = λ i a b. line_ended whole m e i k (bare_row_in lines i) (omega (arith, count)) (ended i a) (h.others i (omega arith) b);
  others = λ i a b. h.others i (omega arith) b;
}

pub not_below_at : RowsInStemsAreWhole → (m : Module) (e : Extent) (table : List (List Content)) (s k : ℕ) (lines : List BareRow) (d : BareRow) (t : ℤ) → IsTableOf m e table → s ≤ e.last → k ≤ e.n + s → s < length lines → AreMadeThrough m e s k lines → t ≡ m.bottom +ℤ pos k → (g : ℕ) → g < length (get_or lines s d).degrees → degree_at (get_or lines s d).degrees g ≤ℤ t
not_below_at whole m e table s k lines d t canonical row_is stem_is l h at =
    let all = in_stems m e.n table s in
    let len = whole m e.last e.n table canonical s row_is in
    let made : IsMadeThrough m e s k (get_or lines s d) = subst (IsMadeThrough m e s k) (sym (get_or_default lines s d no_bare_row l)) (h.others s (omega arith) l) in
    at_most-row m.bottom (take k all) k (get_or lines s d).degrees t at (made table canonical).degrees (length-take-le k all (omega (arith, len)))

-- row s has one square more
pub through_more : RowsInStemsAreWhole → (m : Module) (e : Extent) (s k : ℕ) (lines : List BareRow) (d more : BareRow) (content : Content) (t : ℤ) → s ≤ e.last → k ≤ e.n + s → s < length lines → AreMadeThrough m e s k lines → IsSquareInStems m e s k content → t ≡ m.bottom +ℤ pos k → more ≡ with_one_square (get_or lines s d) t content.images → AreMadeThrough m e (s + 1) k (set lines s more)
through_more whole m e s k lines d more content t row_is stem_is l h square at is =
    let old : get_or lines s d ≡ bare_row_in lines s = get_or_default lines s d no_bare_row l in
    let there : IsMadeThrough m e s k (get_or lines s d) = subst (IsMadeThrough m e s k) (sym old) (h.others s (omega arith) l) in
    let new : IsMadeThrough m e s (suc k) more = line_more whole m e s k (get_or lines s d) more content t row_is stem_is there square at is in
    record {
      done = λ i a b. elim (cases_eq i s) [
        | inl same ↦
            subst (λ (x : ℕ). IsMadeThrough m e x (suc k) (bare_row_in (set lines s more) x)) (sym same) (subst (IsMadeThrough m e s (suc k)) (sym (get_or-set_same lines s more no_bare_row l)) new)
        | inr apart ↦ subst (IsMadeThrough m e i (suc k)) (sym (get_or-set_other lines s i more no_bare_row apart)) (h.done i (omega arith) (omega (arith, length-set lines s more)))
      ];
      others = λ i a b.
          let apart : i ≢ s = λ q. omega arith in
          subst (IsMadeThrough m e i k) (sym (get_or-set_other lines s i more no_bare_row apart)) (h.others i (omega arith) (omega (arith, length-set lines s more)));
    }

-- its kernel is what the next row has to cover
pub cover_above : RowsInStemsAreWhole → KernelsInStemsAreToCover → (m : Module) (e : Extent) (s k : ℕ) (line : BareRow) (content : Content) (t : ℤ) (kernel : Rows) → IsResolvable m → s ≤ e.last → k ≤ e.n + s → IsMadeThrough m e s k line → IsSquareInStems m e s k content → t ≡ m.bottom +ℤ pos k → kernel.rows ≡ content.kernel → kernel.cols ≡ free_width (line.degrees ++ replicate (length content.images) t) t → IsToCover m e (suc s) k kernel
cover_above whole kernels m e s k line content t kernel r row_is stem_is here square at rows cols =
    let more = line_more whole m e s k line (with_one_square line t content.images) content t row_is stem_is here square at refl in
    record {
      cols = λ table canonical. cols ∙ ap (λ (ds : List ℤ). free_width ds t) (more table canonical).degrees ∙ ap (free_width (degrees_in_stems m e.n table s (suc k))) at;
      covers = λ table canonical.
          subst (AreToCover m e.n table (suc s) k) (sym (rows ∙ ap (λ (c : Content). c.kernel) (square table canonical)))
          (kernels m e.last e.n table (resolution_of m e table r canonical) s k row_is stem_is);
    }

-- ---- the whole

pub through_start : (m : Module) (e : Extent) (n : ℕ) (lines : List BareRow) → lines ≡ replicate n no_bare_row → AreMadeThrough m e 0 0 lines
through_start m e n lines is = record {
  done = λ i a b. absurd (omega arith);
  others = λ i a b.
      let l : i < n = omega (arith, ap length is, length-replicate n no_bare_row) in
      let none : bare_row_in lines i ≡ no_bare_row = ap (λ z. bare_row_in z i) is ∙ get_or-replicate n i no_bare_row no_bare_row l in
      subst (IsMadeThrough m e i 0) (sym none) (λ table canonical. record { degrees = refl; images = refl; counts = refl });
}

-- what is done below s of a column that has no more rows
pub through_all : (m : Module) (e : Extent) (s k : ℕ) (lines : List BareRow) → length lines ≤ s → AreMadeThrough m e s k lines → AreMadeThrough m e 0 (suc k) lines
through_all m e s k lines l h = record { done = λ i a b. absurd (omega arith); others = λ i a b. h.done i (omega arith) b }

-- all columns of a range of stems
pub stem_lines : RowsInStemsAreWhole → (m : Module) (s n : ℕ) (lines : List BareRow) → length lines ≡ s + 1 → AreMadeThrough m (record { last = s; n = n }) 0 (suc (n + s)) lines → AreOfStems m s n lines
stem_lines whole m s n lines len h = record {
  rows = len;
  each = λ table canonical i l.
      let all = in_stems m n table i in
      let size = whole m s n table canonical i l in
      let same : take (suc (n + s)) all ≡ all = take_all (suc (n + s)) all (omega (arith, size)) in
      subst (λ (z : List Content). IsBareRowOf m.bottom z (bare_row_in lines i)) same (h.others i (omega arith) (omega (arith, len)) table canonical);
}
