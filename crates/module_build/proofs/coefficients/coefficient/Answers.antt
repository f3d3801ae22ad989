use Rattle.std.proofs.Common.{◌≡◌, ◌-◌, pos, ◌+ℤ◌, length, to_z, of_z, w64, ap, sym, ◌∙◌, arith}
use Rattle.std.proofs.lemmas.Int.{ints}
use Rattle.std.specs.List.{range_with_len}
use Rattle.milnor_basis.specs.Exponents.{degree_of}
use Rattle.module_spec.specs.Spec.{degree_at}
use Rattle.finite_module.specs.Module.{generators_in, width}
use Rattle.built_laws.proofs.Coordinates.{coefficient_elsewhere}
use Rattle.module_build.proofs.Entries.{IsFound, found, none_found}
use Rattle.module_build.proofs.coefficients.coefficient.Goals as goal

pub returns-then-from-t : goal.returns-then-from-t
returns-then-from-t c =
    let m = c.args.operators.now in
    let gens = c.generators-generators.ensures.generators in
    let dx : c.degree.result ≡ degree_at m.generators c.args.x = c.degree.ensures.degree ∙ ap (λ g. degree_at g c.args.x) gens in
    let dy : c.degree-3.result ≡ degree_at m.generators c.args.y = c.degree-3.ensures.degree ∙ ap (λ g. degree_at g c.args.y) gens in
    sym (coefficient_elsewhere m c.args.r.now c.args.x c.args.y (λ e. omega (arith, ints, e, dx, dy, c.from.ensures, c.from-2.ensures, c.from-3.ensures, c.degree.ensures.lowest, c.degree.ensures.highest, c.degree-3.ensures.lowest, c.degree-3.ensures.highest, c.degree-2.ensures.degree, c.if-from-t.true)))

pub overflow_sub-y : goal.overflow_sub-y
overflow_sub-y c =
    let m = c.args.operators.now in
    let gens = c.generators-generators.ensures.generators in
    let t = to_z w64 (of_z w64 (to_z w64 (of_z w64 c.from.result) +ℤ to_z w64 (of_z w64 c.from-2.result))) in
    let dx : c.degree.result ≡ degree_at m.generators c.args.x = c.degree.ensures.degree ∙ ap (λ g. degree_at g c.args.x) gens in
    let dy : c.degree-3.result ≡ degree_at m.generators c.args.y = c.degree-3.ensures.degree ∙ ap (λ g. degree_at g c.args.y) gens in
    let here : t ≡ degree_at m.generators c.args.x +ℤ pos (degree_of c.args.r.now) = omega (arith, ints, c.from.ensures, c.from-2.ensures, c.degree.ensures.lowest, c.degree.ensures.highest, c.degree-2.ensures.degree) in
    let there : degree_at m.generators c.args.y ≡ t = omega (arith, ints, dy, c.from-3.ensures, c.if-from-t.false) in
    let listed : generators_in m.generators t ≡ range_with_len c.within.result.start (c.within.result.end - c.within.result.start) = ap (λ g. generators_in g t) (sym gens) ∙ c.within.ensures.generators in
    let own : IsFound m c.args.r.now c.args.x c.args.y c.within.result.start c.in-Some.value.now =
    found m c.args.r.now c.args.x c.args.y c.within.result.start (c.within.result.end - c.within.result.start) t c.in-Some.value.now c.requires.from c.requires.to here there listed c.in-Some.ensures.some (ap length c.in-Some.ensures.some ∙ c.in-Some.ensures.width ∙ ap (width m.generators) (sym here)) in
    own.behind

pub get-requires : goal.get-requires
get-requires c =
    let m = c.args.operators.now in
    let gens = c.generators-generators.ensures.generators in
    let t = to_z w64 (of_z w64 (to_z w64 (of_z w64 c.from.result) +ℤ to_z w64 (of_z w64 c.from-2.result))) in
    let dx : c.degree.result ≡ degree_at m.generators c.args.x = c.degree.ensures.degree ∙ ap (λ g. degree_at g c.args.x) gens in
    let dy : c.degree-3.result ≡ degree_at m.generators c.args.y = c.degree-3.ensures.degree ∙ ap (λ g. degree_at g c.args.y) gens in
    let here : t ≡ degree_at m.generators c.args.x +ℤ pos (degree_of c.args.r.now) = omega (arith, ints, c.from.ensures, c.from-2.ensures, c.degree.ensures.lowest, c.degree.ensures.highest, c.degree-2.ensures.degree) in
    let there : degree_at m.generators c.args.y ≡ t = omega (arith, ints, dy, c.from-3.ensures, c.if-from-t.false) in
    let listed : generators_in m.generators t ≡ range_with_len c.within.result.start (c.within.result.end - c.within.result.start) = ap (λ g. generators_in g t) (sym gens) ∙ c.within.ensures.generators in
    let own : IsFound m c.args.r.now c.args.x c.args.y c.within.result.start c.in-Some.value.now =
    found m c.args.r.now c.args.x c.args.y c.within.result.start (c.within.result.end - c.within.result.start) t c.in-Some.value.now c.requires.from c.requires.to here there listed c.in-Some.ensures.some (ap length c.in-Some.ensures.some ∙ c.in-Some.ensures.width ∙ ap (width m.generators) (sym here)) in
    own.within

pub returns-in-Some : goal.returns-in-Some
returns-in-Some c =
    let m = c.args.operators.now in
    let gens = c.generators-generators.ensures.generators in
    let t = to_z w64 (of_z w64 (to_z w64 (of_z w64 c.from.result) +ℤ to_z w64 (of_z w64 c.from-2.result))) in
    let dx : c.degree.result ≡ degree_at m.generators c.args.x = c.degree.ensures.degree ∙ ap (λ g. degree_at g c.args.x) gens in
    let dy : c.degree-3.result ≡ degree_at m.generators c.args.y = c.degree-3.ensures.degree ∙ ap (λ g. degree_at g c.args.y) gens in
    let here : t ≡ degree_at m.generators c.args.x +ℤ pos (degree_of c.args.r.now) = omega (arith, ints, c.from.ensures, c.from-2.ensures, c.degree.ensures.lowest, c.degree.ensures.highest, c.degree-2.ensures.degree) in
    let there : degree_at m.generators c.args.y ≡ t = omega (arith, ints, dy, c.from-3.ensures, c.if-from-t.false) in
    let listed : generators_in m.generators t ≡ range_with_len c.within.result.start (c.within.result.end - c.within.result.start) = ap (λ g. generators_in g t) (sym gens) ∙ c.within.ensures.generators in
    let own : IsFound m c.args.r.now c.args.x c.args.y c.within.result.start c.in-Some.value.now =
    found m c.args.r.now c.args.x c.args.y c.within.result.start (c.within.result.end - c.within.result.start) t c.in-Some.value.now c.requires.from c.requires.to here there listed c.in-Some.ensures.some (ap length c.in-Some.ensures.some ∙ c.in-Some.ensures.width ∙ ap (width m.generators) (sym here)) in
    c.get.ensures ∙ own.coefficient

pub returns-in-None : goal.returns-in-None
returns-in-None c = sym (none_found c.args.operators.now c.args.r.now c.args.x c.args.y _ c.in-None.ensures.none)
