-- Products are linear in both factors, and those of classes are those of elements.
use Rattle.std.proofs.Common.{◌≡◌, ℕ, ◌+◌, pos, ◌+ℤ◌, ◌-ℤ◌, ◌≤ℤ◌, Bool, false, List, length, drop, refl, ap, sym, ◌∙◌, arith}
use Rattle.std.proofs.lemmas.Int.{ints}
use Rattle.std.proofs.lemmas.List.{get_or-drop, length-drop}
use Rattle.f2_vec.specs.Vectors.{plus, sum_of}
use Rattle.f2_vec.specs.Spans.{unit_vector}
use Rattle.f2_vec.proofs.Spans.{combination-sum_of}
use Rattle.f2_vec.proofs.Combinations.{combination-unit_vector}
use Rattle.resolution_laws.specs.Exactness.{CanonicalTableIsMinimalResolution}
use Rattle.lift_laws.specs.Lifts.{degree, dual_of}
use Rattle.lift_laws.specs.Products.{first_of, count_of, old_width, coefficients, coefficient_of, number_of, degree_of_class, on_square}
use Rattle.lift_laws.proofs.Sums.{IsLift-start, IsLift-sum}
use Rattle.lift_laws.proofs.Coefficients.{is_new}
use Rattle.bracket_laws.specs.Brackets.{dot}
use Rattle.bracket_laws.proofs.Dots.{dot-sum}
use Rattle.bracket_laws.proofs.Vectors.{on_square-same, on_square-sum}
use Rattle.yoneda_laws.specs.Elements.{element, element_of, cochain_of, CanMultiply, ProductsOfClassesAreOfElements, ProductsAreLinearInFirst, ProductsAreLinearInSecond}
use Rattle.yoneda_laws.proofs.Cochains.{duals, length-duals, row-duals, HaveWidth-duals}
use Rattle.yoneda_laws.proofs.Parities.{drop-sum_of, dot-sum_right, dot-unit_vector}
use Rattle.yoneda_laws.proofs.Products.{o, x_there, target_there, lift_of, moved}

pub linear_in_first : CanonicalTableIsMinimalResolution → ProductsAreLinearInFirst
linear_in_first law r q rs rt qs qt s above a b x v w can b_in m n =
    let ea = element s above a in
    let eb = element s above b in
    let can_b : CanMultiply r q rs rt qs qt eb x = record { canonical = can.canonical; canonical_q = can.canonical_q; sphere = can.sphere; row = can.row; degree = can.degree; row_q = can.row_q; degree_q = can.degree_q; a_in = b_in; x_in = can.x_in } in
    let lift = lift_of law r q rs rt qs qt ea x can v m in
    let F : ℕ → Bool = λ g. dot a (coefficients q s above (m.phi s g)) in
    let G : ℕ → Bool = λ g. dot b (coefficients q s above (m.phi s g)) in
    let H : ℕ → Bool = λ g. dot (sum_of a b) (coefficients q s above (m.phi s g)) in
    let row = x.s + s in
    let k = above + x.above in
    let a_len : length a ≡ count_of q s above = can.a_in in
    let b_len : length b ≡ count_of q s above = b_in in
    let w_is : w ≡ on_square r row k G = moved law r q rs rt qs qt eb x can_b w m.phi n lift in
    record {
      top = r.base.bottom +ℤ pos (above + x.above);
      phi = m.phi;
      reaches = omega (arith, ints);
      is_lift = lift;
      gives = ap (λ (z : List Bool). sum_of z w) m.gives ∙ (ap (sum_of (on_square r row k F)) w_is ∙ (on_square-sum r row k F G ∙ on_square-same r row k (λ g. plus (F g) (G g)) H (λ i l. sym (dot-sum a b (coefficients q s above (m.phi s (first_of r row k + i))) (a_len ∙ sym b_len)))));
    }

pub linear_in_second : CanonicalTableIsMinimalResolution → ProductsAreLinearInSecond
linear_in_second law r q rs rt qs qt s above a x y v w can y_in m n =
    let ex = element s above x in
    let ey = element s above y in
    let can_y : CanMultiply r q rs rt qs qt a ey = record { canonical = can.canonical; canonical_q = can.canonical_q; sphere = can.sphere; row = can.row; degree = can.degree; row_q = can.row_q; degree_q = can.degree_q; a_in = can.a_in; x_in = y_in } in
    let less = r.base.bottom +ℤ pos (a.above + above) in
    let X = r.base.bottom +ℤ pos above in
    let lift_x = lift_of law r q rs rt qs qt a ex can v m in
    let lift_y = lift_of law r q rs rt qs qt a ey can_y w n in
    let there = x_there law r q rs rt qs qt a ex can in
    let zx = cochain_of r q ex in
    let zy = cochain_of r q ey in
    let phi : ℕ → ℕ → List Bool = λ k g. sum_of (m.phi k g) (n.phi k g) in
    let x_len : length x ≡ count_of r s above = can.x_in in
    let y_len : length y ≡ count_of r s above = y_in in
    let both = IsLift-sum r q qs qt (o law r q rs rt qs qt a ex can) s X a.s less can.row_q zx zy m.phi n.phi lift_x lift_y in
    let lift = IsLift-start r q s X (λ g. sum_of (zx g) (zy g)) (cochain_of r q (element s above (sum_of x y))) a.s less phi (λ g l c. sym (combination-sum_of (q.base.graded.width (degree r s g -ℤ X)) x y (duals r q can.sphere s above there g) (HaveWidth-duals r q can.sphere s above there g) (x_len ∙ sym y_len))) both in
    let F : ℕ → Bool = λ g. dot a.on (coefficients q a.s a.above (m.phi a.s g)) in
    let G : ℕ → Bool = λ g. dot a.on (coefficients q a.s a.above (n.phi a.s g)) in
    let H : ℕ → Bool = λ g. dot a.on (coefficients q a.s a.above (phi a.s g)) in
    let row = s + a.s in
    let k = a.above + above in
    record {
      top = less;
      phi = phi;
      reaches = omega (arith, ints);
      is_lift = lift;
      gives = ap (λ (z : List Bool). sum_of z w) m.gives ∙ (ap (sum_of (on_square r row k F)) n.gives ∙ (on_square-sum r row k F G ∙ on_square-same r row k (λ g. plus (F g) (G g)) H (λ i l.
          let g = first_of r row k + i in
          let new = is_new r row k (target_there law r q rs rt qs qt a ex can) i l in
          let deg = new.degree_is in
          let c : degree r row g ≤ℤ less = omega (arith, ints) in
          let f = lift_x.fit a.s row (omega arith) refl g new.generator c in
          let h = lift_y.fit a.s row (omega arith) refl g new.generator c in
          let lens : length (m.phi a.s g) ≡ length (n.phi a.s g) = f ∙ sym h in
          let old = old_width q a.s a.above in
          sym (ap (dot a.on) (drop-sum_of old (m.phi a.s g) (n.phi a.s g) lens) ∙ dot-sum_right a.on (drop old (m.phi a.s g)) (drop old (n.phi a.s g)) (omega (arith, length-drop old (m.phi a.s g), length-drop old (n.phi a.s g)))))));
    }

pub of_classes : CanonicalTableIsMinimalResolution → ProductsOfClassesAreOfElements
of_classes law r q rs rt qs qt a x top phi can a_in x_in reaches lift =
    let X = degree_of_class r x in
    let there = x_there law r q rs rt qs qt (element_of q a) (element_of r x) can in
    let count = count_of r x.s x.above in
    let z = dual_of r q x.s X (number_of r x) in
    let row = x.s + a.s in
    let k = a.above + x.above in
    let F : ℕ → Bool = λ g. coefficient_of q a (phi a.s g) in
    let G : ℕ → Bool = λ g. dot (unit_vector (count_of q a.s a.above) a.i) (coefficients q a.s a.above (phi a.s g)) in
    record {
      top = top;
      phi = phi;
      reaches = reaches;
      is_lift = IsLift-start r q x.s X z (cochain_of r q (element_of r x)) a.s top phi (λ g l c.
          sym (combination-unit_vector (q.base.graded.width (degree r x.s g -ℤ X)) count x.i (duals r q can.sphere x.s x.above there g) (HaveWidth-duals r q can.sphere x.s x.above there g) (length-duals r q can.sphere x.s x.above there g) x_in
          ∙ row-duals r q can.sphere x.s x.above there g x.i x_in)) lift;
      gives = on_square-same r row k F G (λ i l. let w = phi a.s (first_of r row k + i) in sym (dot-unit_vector (count_of q a.s a.above) a.i (coefficients q a.s a.above w) a_in ∙ get_or-drop (old_width q a.s a.above) w a.i false));
    }
