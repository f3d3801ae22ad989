-- A module has one canonical table of squares.
use Rattle.std.proofs.Common.{◌≡◌, ◌↔◌, ℕ, zero, suc, ◌≤◌, ℤ, Bool, true, false, List, [], length, take, replicate, ◌++◌, add-one, Option, Some, None, refl, sym, ◌∙◌, ap, subst, arith}
use Rattle.std.specs.List.{items_where_true}
use Rattle.std.proofs.lemmas.List.{ext_get_or, take_more_same, take_all}
use Rattle.f2_matrix.specs.Echelon.{IsKernelBasis, KernelBasisIsUnique}
use Rattle.free_module.specs.Graded.{GradedModule}
use Rattle.free_module.specs.LinearMap.{map_rows}
use Rattle.resolution_laws.specs.Resolution.{Module, Content, no_content, square_in, IsChosen, IsStepOver, IsStep, row_of, IsCanonicalTable, CanonicalTableIsUnique}
use Rattle.resolution_laws.proofs.Rows.{IsRowOver, row_of-IsRowOver}

-- two bits are equal if they are false in the same case
same_bits : (x y : Bool) (P : Type 0) → (x ≡ false) ↔ P → (y ≡ false) ↔ P → x ≡ y
same_bits false y P h k = sym (k.1 (h.0 refl))
same_bits true false P h k = h.1 (k.0 refl)
same_bits true true P h k = refl

pub chosen_is_unique : (n : ℕ) (old candidates a b : List (List Bool)) → IsChosen n old candidates a → IsChosen n old candidates b → a ≡ b
chosen_is_unique n old candidates a b p q =
    let same_kept : p.kept ≡ q.kept = ext_get_or false p.kept q.kept (p.one_each ∙ sym q.one_each) (λ i h. same_bits _ _ _ (p.dropped i (omega arith)) (q.dropped i (omega arith))) in
    p.chosen_are ∙ (ap (λ kept. items_where_true kept candidates) same_kept ∙ sym q.chosen_are)

-- contents of the same images and the same kernel are equal
same_contents : (a b : Content) → a.images ≡ b.images → a.kernel ≡ b.kernel → a ≡ b
same_contents a b e f =
    let left : a ≡ record { images = b.images; kernel = a.kernel } = ap (λ (x : List (List Bool)). let c : Content = record { images = x; kernel = a.kernel } in c) e in
    let right : record { images = b.images; kernel = a.kernel } ≡ b = ap (λ (x : List (List Bool)). let c : Content = record { images = b.images; kernel = x } in c) f in
    left ∙ right

pub step_is_unique : KernelBasisIsUnique → (target : GradedModule) (degrees : List ℤ) (images candidates : List (List Bool)) (t : ℤ) (a b : Content) → IsStepOver target degrees images candidates t a → IsStepOver target degrees images candidates t b → a ≡ b
step_is_unique kernels target degrees images candidates t a b p q =
    let e = chosen_is_unique _ _ _ _ _ p.chosen q.chosen in
    let P : List (List Bool) → Type 0 = λ x. IsKernelBasis (target.width t) (map_rows target (degrees ++ replicate (length x) t) (images ++ x) t) a.kernel in
    same_contents a b e (kernels _ _ _ _ (subst P e p.kernel) q.kernel)

-- the first k squares of two rows that have the same below them are equal
same_squares : KernelBasisIsUnique → (m : Module) (below : ℕ → Option (List Content)) (a b : List Content) → length a ≡ length b → IsRowOver m below a → IsRowOver m below b → (k : ℕ) → k ≤ length a → take k a ≡ take k b
same_squares kernels m below a b e p q zero h = refl
same_squares kernels m below a b e p q (suc k) h =
    let before : take k a ≡ take k b = same_squares kernels m below a b e p q k (omega arith) in
    let P : List Content → Type 0 = λ x. IsStep m (below k) x (square_in a k) in
    let same : square_in a k ≡ square_in b k = step_is_unique kernels _ _ _ _ _ _ _ (subst P before (p k (omega arith))) (q k (omega arith)) in
    rw (← add-one k) (take_more_same a b k no_content (omega arith) (omega arith) before same)

pub row_is_unique : KernelBasisIsUnique → (m : Module) (below : ℕ → Option (List Content)) (a b : List Content) → length a ≡ length b → IsRowOver m below a → IsRowOver m below b → a ≡ b
row_is_unique kernels m below a b e p q =
    sym (take_all (length a) a (omega arith)) ∙ (same_squares kernels m below a b e p q (length a) (omega arith) ∙ take_all (length a) b (omega arith))

-- the rows i of two canonical tables are equal
same_rows : KernelBasisIsUnique → (m : Module) (s t : ℕ) (a b : List (List Content)) → IsCanonicalTable m s t a → IsCanonicalTable m s t b → (i : ℕ) → i ≤ s → row_of a i ≡ row_of b i
same_rows kernels m s t a b p q zero h = row_is_unique kernels m (λ _. None) _ _ (p.squares 0 h ∙ sym (q.squares 0 h)) (row_of-IsRowOver m s t a p 0 h) (row_of-IsRowOver m s t b q 0 h)
same_rows kernels m s t a b p q (suc i) h =
    let below : row_of a i ≡ row_of b i = same_rows kernels m s t a b p q i (omega arith) in
    let P : List Content → Type 0 = λ x. IsRowOver m (λ k. Some (take (suc k) x)) (row_of a (suc i)) in
    row_is_unique kernels m (λ k. Some (take (suc k) (row_of b i))) _ _ (p.squares (suc i) h ∙ sym (q.squares (suc i) h)) (subst P below (row_of-IsRowOver m s t a p (suc i) h)) (row_of-IsRowOver m s t b q (suc i) h)

pub table_is_unique : KernelBasisIsUnique → CanonicalTableIsUnique
table_is_unique kernels m s t a b p q =
    ext_get_or [] a b (p.rows ∙ sym q.rows) (λ i h. same_rows kernels m s t a b p q i (omega (arith, p.rows)))
