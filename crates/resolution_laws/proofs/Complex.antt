-- The table is a complex: images of generators lie in the kernel in their own degree, and operations carry that to each degree.
use Rattle.std.proofs.Common.{◌≡◌, ℕ, suc, ◌<◌, ◌≤◌, Bool, ℤ, pos, ◌+ℤ◌, List, [], length, map, sym, ◌∙◌, ap, subst, arith}
use Rattle.std.specs.List.{items_where_true}
use Rattle.std.proofs.lemmas.List.{length-map}
use Rattle.std.proofs.lemmas.Grind.{get_or_picked}
use Rattle.f2_vec.specs.Vectors.{zeros}
use Rattle.f2_vec.specs.Spans.{row, HaveWidth, combination, IsInKernel}
use Rattle.f2_vec.proofs.Spans.{HaveWidth-nil, row-IsInSpan}
use Rattle.f2_vec.proofs.Combinations.{map-map, map_same_all, combination-combination, combination-zero_rows}
use Rattle.milnor_basis.specs.Exponents.{degree_of}
use Rattle.free_module.specs.FreeModule.{free_basis, free_width, degree_at}
use Rattle.free_module.specs.FreeBasis.{IsOfDegree}
use Rattle.free_module.proofs.FreeBasis.{All-free_basis}
use Rattle.free_module.specs.Graded.{GradedModule, IsLinear}
use Rattle.free_module.specs.LinearMap.{image_of}
use Rattle.resolution_laws.specs.Resolution.{Module, Content, square_in, images_of, row_of}
use Rattle.resolution_laws.specs.Exactness.{degrees_in, target_of, differential, boundary, IsComplexAt}
use Rattle.free_module.proofs.MapRows.{HaveWidth-map_rows}
use Rattle.resolution_laws.proofs.Generators.{generator_at}
use Rattle.resolution_laws.proofs.Squares.{IsResolved, target_is_module, candidates_of, AreImages-all, square_at}

pub action-zeros : (m : GradedModule) → IsLinear m → (r : List ℕ) (t : ℤ) → m.action r t (zeros (m.width t)) ≡ zeros (m.width (t +ℤ pos (degree_of r)))
action-zeros m linear r t = linear r t [] [] (HaveWidth-nil (m.width t))

pub length-differential : (m : Module) (table : List (List Content)) (i : ℕ) (degree : ℤ) → length (differential m table i degree) ≡ free_width (degrees_in m table i) degree
length-differential m table i degree = length-map (free_basis (degrees_in m table i) degree) (image_of (target_of m table i) (degrees_in m table i) (images_of (row_of table i)))

-- the images of a square are relations between the rows of the map below, in its degree
pub image-IsInKernel : (m : Module) (s t : ℕ) (table : List (List Content)) → IsResolved m s t table → (i k h : ℕ) → suc i ≤ s → k ≤ t → h < length (square_in (row_of table (suc i)) k).images → IsInKernel ((target_of m table i).width (m.bottom +ℤ pos k)) (differential m table i (m.bottom +ℤ pos k)) (row (square_in (row_of table (suc i)) k).images h)
image-IsInKernel m s t table p i k h l b w =
    let n = (target_of m table i).width (m.bottom +ℤ pos k) in
    let rows = differential m table i (m.bottom +ℤ pos k) in
    let kernel = candidates_of m table (suc i) k in
    let images = (square_in (row_of table (suc i)) k).images in
    let chosen = (square_at m s t table p (suc i) k l b).chosen in
    let v : h < length (items_where_true chosen.kept kernel) = omega (arith, ap length chosen.chosen_are) in
    let picked = (get_or_picked chosen.kept kernel h [] v).1 in
    let same : row images h ≡ row kernel picked.0 = ap (λ (z : List (List Bool)). row z h) chosen.chosen_are ∙ picked.2 in
    let basis = (square_at m s t table p i k (omega arith) b).kernel in
    subst (IsInKernel n rows) (sym same) ((basis.spans_kernel (row kernel picked.0)).1 (row-IsInSpan (length rows) kernel picked.0 basis.widths picked.1))

pub HaveWidth-differential : (m : Module) (s t : ℕ) (table : List (List Content)) → IsResolved m s t table → (i : ℕ) (degree : ℤ) → i ≤ s → HaveWidth ((target_of m table i).width degree) (differential m table i degree)
HaveWidth-differential m s t table p i degree h =
    HaveWidth-map_rows (target_of m table i) (degrees_in m table i) (images_of (row_of table i)) degree (target_is_module p.free m table i p.steenrod).widths (AreImages-all m s t table p.canonical i h)

-- the boundary of the image of a generator is zero
boundary-image : (m : Module) (s t : ℕ) (table : List (List Content)) → IsResolved m s t table → (i g : ℕ) → suc i ≤ s → g < length (degrees_in m table (suc i)) → boundary m table i (degree_at (degrees_in m table (suc i)) g) (row (images_of (row_of table (suc i))) g) ≡ zeros ((target_of m table i).width (degree_at (degrees_in m table (suc i)) g))
boundary-image m s t table p i g h l =
    let squares = row_of table (suc i) in
    let n = p.canonical.squares (suc i) h in
    let at = generator_at m.bottom squares g l in
    let b = at.square in
    let zero_there : boundary m table i (m.bottom +ℤ pos at.k) (row (square_in squares at.k).images at.h) ≡ zeros ((target_of m table i).width (m.bottom +ℤ pos at.k)) = (image-IsInKernel m s t table p i at.k at.h h (omega arith) at.within).vanishes in
    let P : List Bool → Type 0 = λ v. boundary m table i (m.bottom +ℤ pos at.k) v ≡ zeros ((target_of m table i).width (m.bottom +ℤ pos at.k)) in
    let Q : ℤ → Type 0 = λ d. boundary m table i d (row (images_of squares) g) ≡ zeros ((target_of m table i).width d) in
    subst Q (sym at.degree) (subst P (sym at.image) zero_there)

-- so is the boundary of the image of a basis element
boundary-element : (m : Module) (s t : ℕ) (table : List (List Content)) → IsResolved m s t table → (i : ℕ) (degree : ℤ) → i < s → (e : ℕ × List ℕ) → IsOfDegree (degrees_in m table (suc i)) degree e → boundary m table i degree (image_of (target_of m table (suc i)) (degrees_in m table (suc i)) (images_of (row_of table (suc i))) e) ≡ zeros ((target_of m table i).width degree)
boundary-element m s t table p i degree h e o =
    let target = target_of m table i in
    let ds = degrees_in m table (suc i) in
    let images = images_of (row_of table (suc i)) in
    let r = e.1 in
    let d = degree_at ds e.0 in
    let x = row images e.0 in
    let y = image_of (target_of m table (suc i)) ds images e in
    let good = target_is_module p.free m table i p.steenrod in
    let are = AreImages-all m s t table p.canonical (suc i) (omega arith) in
    let below = AreImages-all m s t table p.canonical i (omega arith) in
    let through : target.action r d (boundary m table i d x) ≡ boundary m table i (d +ℤ pos (degree_of r)) y = p.commute target (degrees_in m table i) (images_of (row_of table i)) good below r d x o.trimmed (are.widths e.0 o.generator) in
    let none : target.action r d (boundary m table i d x) ≡ zeros (target.width (d +ℤ pos (degree_of r))) = ap (target.action r d) (boundary-image m s t table p i e.0 (omega arith) o.generator) ∙ action-zeros target good.linear r d in
    let P : ℤ → Type 0 = λ z. boundary m table i z y ≡ zeros (target.width z) in
    subst P o.degree (sym through ∙ none)

pub is_complex : (m : Module) (s t : ℕ) (table : List (List Content)) → IsResolved m s t table → (i : ℕ) (degree : ℤ) → i < s → IsComplexAt m table i degree
is_complex m s t table p i degree h v fits =
    let ds = degrees_in m table (suc i) in
    let n = (target_of m table i).width degree in
    let below = differential m table i degree in
    let rows = differential m table (suc i) degree in
    let f = image_of (target_of m table (suc i)) ds (images_of (row_of table (suc i))) in
    let basis = free_basis ds degree in
    let all : combination n (boundary m table (suc i) degree v) below ≡ combination n v (map (λ x. combination n x below) rows) =
    combination-combination n (free_width (degrees_in m table i) degree) v rows below (length-differential m table i degree) (HaveWidth-differential m s t table p (suc i) degree (omega arith)) (HaveWidth-differential m s t table p i degree (omega arith)) in
    let each : map (λ x. combination n x below) rows ≡ map (λ e. zeros n) basis =
    map-map (λ x. combination n x below) f basis ∙ map_same_all (IsOfDegree ds degree) (λ e. combination n (f e) below) (λ e. zeros n) basis (All-free_basis ds degree) (boundary-element m s t table p i degree h) in
    all ∙ (ap (combination n v) each ∙ combination-zero_rows n v basis)
