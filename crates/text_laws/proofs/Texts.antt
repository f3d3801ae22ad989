-- A bracket is one text in all ranges: its values are the same, so the one that is printed is, and the basis.
use Rattle.std.proofs.Common.{◌≡◌, ℕ, ◌+◌, ℤ, pos, ◌+ℤ◌, ◌-ℤ◌, Bool, List, length, refl, ap, sym, subst, ◌∙◌, arith}
use Rattle.bidegree.specs.declared.range.Range.{Range}
use Rattle.bidegree.specs.declared.class.Class.{Class}
use Rattle.f2_vec.specs.Vectors.{plus}
use Rattle.f2_matrix.specs.Echelon.{RowBasisIsUnique}
use Rattle.resolution_laws.specs.Resolution.{Module, Content}
use Rattle.lift_laws.specs.Lifts.{Resolution}
use Rattle.lift_laws.specs.Products.{Class as ClassAbove, count_of, coefficient_of, coefficients}
use Rattle.bracket_laws.specs.Brackets.{dot, top_of, HasRoom, IsBracketMember, UnitsHaveNoZeroProducts}
use Rattle.bracket_laws.proofs.Vectors.{length-on_square}
use Rattle.chain_map.proofs.Classes.{class_is_once}
use Rattle.massey.specs.Brackets.{IsBracketOf}
use Rattle.range_laws.specs.Ranges.{resolution_in, SquaresAreSameInEachRange, BracketsAreSameInEachRange}
use Rattle.ext_chart.specs.Classes.{bracket_text}
use Rattle.ext_brackets.specs.Brackets.{IsBracketText}
use Rattle.text_laws.specs.Texts.{AreResolved, BracketIsSameInEachRange}
use Rattle.text_laws.proofs.Cosets.{IsCoset, rows_same, value_same}
use Rattle.text_laws.proofs.Places.{IsTextOf, text_of, room}

length-member : (r q : Resolution) (a b c : ClassAbove) (n l : ℕ) (top : ℤ) (v : List Bool) → IsBracketMember r q a b c n l top v → length v ≡ count_of r (n + a.s) (a.above + b.above + c.above)
length-member r q a b c n l top v m =
    ap length m.value ∙ length-on_square r (n + a.s) (a.above + b.above + c.above) (λ g. plus (coefficient_of q a (m.H a.s g)) (dot m.e (coefficients q l (a.above + b.above) (m.gamma l g))))

module _ (unique : RowBasisIsUnique) (squares : SquaresAreSameInEachRange) (brackets : BracketsAreSameInEachRange)
    (range more : Range) (m w : Module) (table sphere other other_sphere : List (List Content))
    (here : AreResolved range (resolution_in m table) (resolution_in w sphere)) (there : AreResolved more (resolution_in m other) (resolution_in w other_sphere)) where
  abbrev r : Resolution
  r = resolution_in m table

  abbrev q : Resolution
  q = resolution_in w sphere

  abbrev r_more : Resolution
  r_more = resolution_in m other

  abbrev q_more : Resolution
  q_more = resolution_in w other_sphere

  module _ (x y z : ClassAbove) (n l : ℕ) (room_here : HasRoom range.s range.t range.s range.t x y z n l) (room_there : HasRoom more.s more.t more.s more.t x y z n l) where
    abbrev size : ℕ
    size = count_of r (n + x.s) (x.above + y.above + z.above)

    same_size : count_of r_more (n + x.s) (x.above + y.above + z.above) ≡ size
    same_size =
        ap (λ (c : Content). length c.images) (squares m more.s more.t range.s range.t other table there.canonical.canonical here.canonical.canonical (n + x.s) (x.above + y.above + z.above) room_there.rows_r room_there.degrees_r room_here.rows_r room_here.degrees_r)

    abbrev M : List Bool → Type 0
    M v = IsBracketMember r q x y z n l (top_of r x y z) v

    abbrev M_more : List Bool → Type 0
    M_more v = IsBracketMember r_more q_more x y z n l (top_of r_more x y z) v

    out : (v : List Bool) → M v → M_more v
    out v = brackets m w table other sphere other_sphere range.s range.t range.s range.t more.s more.t more.s more.t x y z n l v here.canonical there.canonical here.canonical_q there.canonical_q here.sphere room_here room_there

    back : (v : List Bool) → M_more v → M v
    back v = brackets m w other table other_sphere sphere more.s more.t more.s more.t range.s range.t range.s range.t x y z n l v there.canonical here.canonical there.canonical_q here.canonical_q there.sphere room_there room_here

    abbrev CosetHere : List Bool → List (List Bool) → Type 0
    CosetHere v rows = IsCoset size M v rows

    coset_here : (v : List Bool) (rows : List (List Bool)) (k : IsBracketOf r q x y z v rows) → k.n ≡ n → k.l ≡ l → CosetHere v rows
    coset_here v rows k e f =
        let P : ℕ → ℕ → Type 0 = λ i j. IsCoset (count_of r (i + x.s) (x.above + y.above + z.above)) (λ u. IsBracketMember r q x y z i j (top_of r x y z) u) v rows in
        let own : P k.n k.l = record { fits = length-member r q x y z k.n k.l (top_of r x y z) v k.member; member = k.member; spanning = k.spanning; basis = k.basis; clear = k.clear; all = k.all } in
        subst (λ (j : ℕ). P n j) f (subst (λ (i : ℕ). P i k.l) e own)

    coset_there : (v : List Bool) (rows : List (List Bool)) (k : IsBracketOf r_more q_more x y z v rows) → k.n ≡ n → k.l ≡ l → CosetHere v rows
    coset_there v rows k e f =
        let P : ℕ → ℕ → Type 0 = λ i j. IsCoset (count_of r_more (i + x.s) (x.above + y.above + z.above)) (λ u. IsBracketMember r_more q_more x y z i j (top_of r_more x y z) u) v rows in
        let own : P k.n k.l = record { fits = length-member r_more q_more x y z k.n k.l (top_of r_more x y z) v k.member; member = k.member; spanning = k.spanning; basis = k.basis; clear = k.clear; all = k.all } in
        let named : P n l = subst (λ (j : ℕ). P n j) f (subst (λ (i : ℕ). P i k.l) e own) in
        let sized : IsCoset size M_more v rows = subst (λ (s : ℕ). IsCoset s M_more v rows) same_size named in
        record { fits = sized.fits; member = back v sized.member; spanning = sized.spanning; basis = sized.basis; clear = sized.clear; all = λ u h. let both = sized.all u h in (λ a. both.0 (out u a), λ a. back u (both.1 a)) }

    values_same : (v u : List Bool) (es fs : List (List Bool)) (k : IsBracketOf r q x y z v es) (j : IsBracketOf r_more q_more x y z u fs) → k.n ≡ n → k.l ≡ l → j.n ≡ n → j.l ≡ l → (v ≡ u) × (es ≡ fs)
    values_same v u es fs k j e f g h =
        let p = coset_here v es k e f in
        let o = coset_there u fs j g h in
        (value_same size M unique v u es fs p o, rows_same size M unique v u es fs p o)

  module _ (units : UnitsHaveNoZeroProducts) (a b c : Class) (text other_text : List ℕ) (p : IsTextOf range a b c r q text) (k : IsTextOf more a b c r_more q_more other_text) where
    abbrev IsTextAt : ClassAbove → ClassAbove → ClassAbove → Type 0
    IsTextAt x y z = IsBracketText a b c r_more q_more x y z other_text

    x_same : k.x ≡ p.x
    x_same = class_is_once q a k.x p.x (record { row = k.a_at.row; degree = k.a_at.degree; number = k.a_at.number }) p.a_at

    y_same : k.y ≡ p.y
    y_same = class_is_once q b k.y p.y (record { row = k.b_at.row; degree = k.b_at.degree; number = k.b_at.number }) p.b_at

    z_same : k.z ≡ p.z
    z_same = class_is_once r c k.z p.z (record { row = k.c_at.row; degree = k.c_at.degree; number = k.c_at.number }) p.c_at

    texts_same : text ≡ other_text
    texts_same =
        let mine = p.ab.told.told in
        let others = k.ab.told.told in
        let x = p.x in
        let y = p.y in
        let z = p.z in
        let n = mine.bracket.n in
        let l = mine.bracket.l in
        let n_row = mine.bracket.n_row in
        let l_row = mine.bracket.l_row in
        let moved : IsTextAt x y z = subst (λ (o : ClassAbove). IsTextAt x y o) z_same (subst (λ (o : ClassAbove). IsTextAt x o k.z) y_same (subst (λ (o : ClassAbove). IsTextAt o k.y k.z) x_same others)) in
        let other_n_row = moved.bracket.n_row in
        let other_l_row = moved.bracket.l_row in
        let same_n : moved.bracket.n ≡ n = omega arith in
        let same_l : moved.bracket.l ≡ l = omega arith in
        let xs = ap (λ (o : ClassAbove). o.s) x_same in
        let ys = ap (λ (o : ClassAbove). o.s) y_same in
        let zs = ap (λ (o : ClassAbove). o.s) z_same in
        let room_here = room units range a b c r q here text p n l n_row l_row in
        let room_k = room units more a b c r_more q_more there other_text k n l (omega arith) (omega arith) in
        let R : ClassAbove → ClassAbove → ClassAbove → Type 0 = λ x y z. HasRoom more.s more.t more.s more.t x y z n l in
        let room_there : R x y z = subst (λ (o : ClassAbove). R x y o) z_same (subst (λ (o : ClassAbove). R x o k.z) y_same (subst (λ (o : ClassAbove). R o k.y k.z) x_same room_k)) in
        let same = values_same x y z n l room_here room_there mine.value moved.value mine.rows moved.rows mine.bracket moved.bracket refl refl same_n same_l in
        let told : List Bool → List (List Bool) → List ℕ = bracket_text (pos (a.s + b.s + c.s) -ℤ pos 1) (a.t +ℤ b.t +ℤ c.t) in
        mine.is ∙ (ap (λ (v : List Bool). told v mine.rows) same.0 ∙ (ap (told moved.value) same.1 ∙ sym moved.is))

pub bracket_same : RowBasisIsUnique → UnitsHaveNoZeroProducts → SquaresAreSameInEachRange → BracketsAreSameInEachRange → BracketIsSameInEachRange
bracket_same unique units squares brackets range more a b c m w table sphere other other_sphere text other_text here there told other_told =
    texts_same unique squares brackets range more m w table sphere other other_sphere here there units a b c text other_text
    (text_of range a b c (resolution_in m table) (resolution_in w sphere) text told)
    (text_of more a b c (resolution_in m other) (resolution_in w other_sphere) other_text other_told)
