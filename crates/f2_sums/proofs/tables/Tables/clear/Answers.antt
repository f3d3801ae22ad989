use Rattle.std.proofs.Common.{◌≡◌, map, length, refl, ap, sym, ◌∙◌, arith}
use Rattle.std.proofs.lemmas.List.{length-map}
use Rattle.f2_vec.specs.Vectors.{zeros, bit}
use Rattle.f2_vec.specs.Spans.{combination}
use Rattle.f2_sums.specs.Sums.{Block}
use Rattle.f2_sums.proofs.Sums.{fit, places_of, one_each, sum_within, cleared_by_four, none_at_zero, nothing_added}
use Rattle.f2_sums.proofs.tables.Tables.clear.Goals as goal

pub number_at-a-requires-clause-vector : goal.number_at-a-requires-clause-vector
number_at-a-requires-clause-vector c = c.requires.vector ∙ sym (ap (λ (b : Block). b.cols) c.self.view_is) ∙ sym c.self.invariant.parts.first.cols

pub number_at-a-requires-clause-places : goal.number_at-a-requires-clause-places
number_at-a-requires-clause-places c =
    let t = c.self.inside in
    let v = c.args.vector.now in
    let f = fit t.cols t.bits t.quarter t.words.from t.words.to c.args.places.now c.quarters_of.result.0.now c.quarters_of.result.1.now c.quarters_of.result.2.now c.quarters_of.result.3.now t.first t.second t.third t.fourth c.args.self.now c.self.invariant c.self.view_is c.requires.one_each c.requires.places c.quarters_of.ensures.first c.quarters_of.ensures.second c.quarters_of.ensures.third c.quarters_of.ensures.fourth in
    places_of f.first

pub number_at-a-requires-clause-one_each : goal.number_at-a-requires-clause-one_each
number_at-a-requires-clause-one_each c =
    let t = c.self.inside in
    let v = c.args.vector.now in
    let f = fit t.cols t.bits t.quarter t.words.from t.words.to c.args.places.now c.quarters_of.result.0.now c.quarters_of.result.1.now c.quarters_of.result.2.now c.quarters_of.result.3.now t.first t.second t.third t.fourth c.args.self.now c.self.invariant c.self.view_is c.requires.one_each c.requires.places c.quarters_of.ensures.first c.quarters_of.ensures.second c.quarters_of.ensures.third c.quarters_of.ensures.fourth in
    one_each f.first

pub xor_with_four-requires-clause-first : goal.xor_with_four-requires-clause-first
xor_with_four-requires-clause-first c = c.sum.ensures.width ∙ c.self.invariant.parts.first.cols ∙ ap (λ (b : Block). b.cols) c.self.view_is ∙ sym c.requires.vector

pub xor_with_four-requires-clause-first_within : goal.xor_with_four-requires-clause-first_within
xor_with_four-requires-clause-first_within c =
    let t = c.self.inside in
    let v = c.args.vector.now in
    let f = fit t.cols t.bits t.quarter t.words.from t.words.to c.args.places.now c.quarters_of.result.0.now c.quarters_of.result.1.now c.quarters_of.result.2.now c.quarters_of.result.3.now t.first t.second t.third t.fourth c.args.self.now c.self.invariant c.self.view_is c.requires.one_each c.requires.places c.quarters_of.ensures.first c.quarters_of.ensures.second c.quarters_of.ensures.third c.quarters_of.ensures.fourth in
    sum_within v c.sum.result.now f.first (c.sum.ensures.sum (map (bit v) c.quarters_of.result.0.now) (length-map c.quarters_of.result.0.now (bit v) ∙ one_each f.first) c.number_at-a.ensures.number)

pub number_at-b-requires-clause-vector : goal.number_at-b-requires-clause-vector
number_at-b-requires-clause-vector c = c.requires.vector ∙ sym (ap (λ (b : Block). b.cols) c.self.view_is) ∙ sym c.self.invariant.parts.second.cols

pub number_at-b-requires-clause-places : goal.number_at-b-requires-clause-places
number_at-b-requires-clause-places c =
    let t = c.self.inside in
    let v = c.args.vector.now in
    let f = fit t.cols t.bits t.quarter t.words.from t.words.to c.args.places.now c.quarters_of.result.0.now c.quarters_of.result.1.now c.quarters_of.result.2.now c.quarters_of.result.3.now t.first t.second t.third t.fourth c.args.self.now c.self.invariant c.self.view_is c.requires.one_each c.requires.places c.quarters_of.ensures.first c.quarters_of.ensures.second c.quarters_of.ensures.third c.quarters_of.ensures.fourth in
    places_of f.second

pub number_at-b-requires-clause-one_each : goal.number_at-b-requires-clause-one_each
number_at-b-requires-clause-one_each c =
    let t = c.self.inside in
    let v = c.args.vector.now in
    let f = fit t.cols t.bits t.quarter t.words.from t.words.to c.args.places.now c.quarters_of.result.0.now c.quarters_of.result.1.now c.quarters_of.result.2.now c.quarters_of.result.3.now t.first t.second t.third t.fourth c.args.self.now c.self.invariant c.self.view_is c.requires.one_each c.requires.places c.quarters_of.ensures.first c.quarters_of.ensures.second c.quarters_of.ensures.third c.quarters_of.ensures.fourth in
    one_each f.second

pub xor_with_four-requires-clause-second : goal.xor_with_four-requires-clause-second
xor_with_four-requires-clause-second c = c.sum-then-a-b-gt0.ensures.width ∙ c.self.invariant.parts.second.cols ∙ ap (λ (b : Block). b.cols) c.self.view_is ∙ sym c.requires.vector

pub xor_with_four-requires-clause-second_within : goal.xor_with_four-requires-clause-second_within
xor_with_four-requires-clause-second_within c =
    let t = c.self.inside in
    let v = c.args.vector.now in
    let f = fit t.cols t.bits t.quarter t.words.from t.words.to c.args.places.now c.quarters_of.result.0.now c.quarters_of.result.1.now c.quarters_of.result.2.now c.quarters_of.result.3.now t.first t.second t.third t.fourth c.args.self.now c.self.invariant c.self.view_is c.requires.one_each c.requires.places c.quarters_of.ensures.first c.quarters_of.ensures.second c.quarters_of.ensures.third c.quarters_of.ensures.fourth in
    sum_within v c.sum-then-a-b-gt0.result.now f.second (c.sum-then-a-b-gt0.ensures.sum (map (bit v) c.quarters_of.result.1.now) (length-map c.quarters_of.result.1.now (bit v) ∙ one_each f.second) c.number_at-b.ensures.number)

pub number_at-c-requires-clause-vector : goal.number_at-c-requires-clause-vector
number_at-c-requires-clause-vector c = c.requires.vector ∙ sym (ap (λ (b : Block). b.cols) c.self.view_is) ∙ sym c.self.invariant.parts.third.cols

pub number_at-c-requires-clause-places : goal.number_at-c-requires-clause-places
number_at-c-requires-clause-places c =
    let t = c.self.inside in
    let v = c.args.vector.now in
    let f = fit t.cols t.bits t.quarter t.words.from t.words.to c.args.places.now c.quarters_of.result.0.now c.quarters_of.result.1.now c.quarters_of.result.2.now c.quarters_of.result.3.now t.first t.second t.third t.fourth c.args.self.now c.self.invariant c.self.view_is c.requires.one_each c.requires.places c.quarters_of.ensures.first c.quarters_of.ensures.second c.quarters_of.ensures.third c.quarters_of.ensures.fourth in
    places_of f.third

pub number_at-c-requires-clause-one_each : goal.number_at-c-requires-clause-one_each
number_at-c-requires-clause-one_each c =
    let t = c.self.inside in
    let v = c.args.vector.now in
    let f = fit t.cols t.bits t.quarter t.words.from t.words.to c.args.places.now c.quarters_of.result.0.now c.quarters_of.result.1.now c.quarters_of.result.2.now c.quarters_of.result.3.now t.first t.second t.third t.fourth c.args.self.now c.self.invariant c.self.view_is c.requires.one_each c.requires.places c.quarters_of.ensures.first c.quarters_of.ensures.second c.quarters_of.ensures.third c.quarters_of.ensures.fourth in
    one_each f.third

pub xor_with_four-requires-clause-third : goal.xor_with_four-requires-clause-third
xor_with_four-requires-clause-third c = c.sum-then-a-b-gt0-2.ensures.width ∙ c.self.invariant.parts.third.cols ∙ ap (λ (b : Block). b.cols) c.self.view_is ∙ sym c.requires.vector

pub xor_with_four-requires-clause-third_within : goal.xor_with_four-requires-clause-third_within
xor_with_four-requires-clause-third_within c =
    let t = c.self.inside in
    let v = c.args.vector.now in
    let f = fit t.cols t.bits t.quarter t.words.from t.words.to c.args.places.now c.quarters_of.result.0.now c.quarters_of.result.1.now c.quarters_of.result.2.now c.quarters_of.result.3.now t.first t.second t.third t.fourth c.args.self.now c.self.invariant c.self.view_is c.requires.one_each c.requires.places c.quarters_of.ensures.first c.quarters_of.ensures.second c.quarters_of.ensures.third c.quarters_of.ensures.fourth in
    sum_within v c.sum-then-a-b-gt0-2.result.now f.third (c.sum-then-a-b-gt0-2.ensures.sum (map (bit v) c.quarters_of.result.2.now) (length-map c.quarters_of.result.2.now (bit v) ∙ one_each f.third) c.number_at-c.ensures.number)

pub number_at-d-requires-clause-vector : goal.number_at-d-requires-clause-vector
number_at-d-requires-clause-vector c = c.requires.vector ∙ sym (ap (λ (b : Block). b.cols) c.self.view_is) ∙ sym c.self.invariant.parts.fourth.cols

pub number_at-d-requires-clause-places : goal.number_at-d-requires-clause-places
number_at-d-requires-clause-places c =
    let t = c.self.inside in
    let v = c.args.vector.now in
    let f = fit t.cols t.bits t.quarter t.words.from t.words.to c.args.places.now c.quarters_of.result.0.now c.quarters_of.result.1.now c.quarters_of.result.2.now c.quarters_of.result.3.now t.first t.second t.third t.fourth c.args.self.now c.self.invariant c.self.view_is c.requires.one_each c.requires.places c.quarters_of.ensures.first c.quarters_of.ensures.second c.quarters_of.ensures.third c.quarters_of.ensures.fourth in
    places_of f.fourth

pub number_at-d-requires-clause-one_each : goal.number_at-d-requires-clause-one_each
number_at-d-requires-clause-one_each c =
    let t = c.self.inside in
    let v = c.args.vector.now in
    let f = fit t.cols t.bits t.quarter t.words.from t.words.to c.args.places.now c.quarters_of.result.0.now c.quarters_of.result.1.now c.quarters_of.result.2.now c.quarters_of.result.3.now t.first t.second t.third t.fourth c.args.self.now c.self.invariant c.self.view_is c.requires.one_each c.requires.places c.quarters_of.ensures.first c.quarters_of.ensures.second c.quarters_of.ensures.third c.quarters_of.ensures.fourth in
    one_each f.fourth

pub xor_with_four-requires-clause-fourth : goal.xor_with_four-requires-clause-fourth
xor_with_four-requires-clause-fourth c = c.sum-then-a-b-gt0-3.ensures.width ∙ c.self.invariant.parts.fourth.cols ∙ ap (λ (b : Block). b.cols) c.self.view_is ∙ sym c.requires.vector

pub xor_with_four-requires-clause-fourth_within : goal.xor_with_four-requires-clause-fourth_within
xor_with_four-requires-clause-fourth_within c =
    let t = c.self.inside in
    let v = c.args.vector.now in
    let f = fit t.cols t.bits t.quarter t.words.from t.words.to c.args.places.now c.quarters_of.result.0.now c.quarters_of.result.1.now c.quarters_of.result.2.now c.quarters_of.result.3.now t.first t.second t.third t.fourth c.args.self.now c.self.invariant c.self.view_is c.requires.one_each c.requires.places c.quarters_of.ensures.first c.quarters_of.ensures.second c.quarters_of.ensures.third c.quarters_of.ensures.fourth in
    sum_within v c.sum-then-a-b-gt0-3.result.now f.fourth (c.sum-then-a-b-gt0-3.ensures.sum (map (bit v) c.quarters_of.result.3.now) (length-map c.quarters_of.result.3.now (bit v) ∙ one_each f.fourth) c.number_at-d.ensures.number)

pub returns-then-a-b-gt0 : goal.returns-then-a-b-gt0
returns-then-a-b-gt0 c =
    let t = c.self.inside in
    let v = c.args.vector.now in
    let f = fit t.cols t.bits t.quarter t.words.from t.words.to c.args.places.now c.quarters_of.result.0.now c.quarters_of.result.1.now c.quarters_of.result.2.now c.quarters_of.result.3.now t.first t.second t.third t.fourth c.args.self.now c.self.invariant c.self.view_is c.requires.one_each c.requires.places c.quarters_of.ensures.first c.quarters_of.ensures.second c.quarters_of.ensures.third c.quarters_of.ensures.fourth in
    c.xor_with_four.ensures
    ∙ cleared_by_four t.cols t.bits t.quarter t.words.from t.words.to c.args.places.now c.quarters_of.result.0.now c.quarters_of.result.1.now c.quarters_of.result.2.now c.quarters_of.result.3.now t.first t.second t.third t.fourth c.args.self.now v c.sum.result.now c.sum-then-a-b-gt0.result.now c.sum-then-a-b-gt0-2.result.now c.sum-then-a-b-gt0-3.result.now c.self.invariant c.self.view_is c.requires.one_each f
    (c.sum.ensures.sum (map (bit v) c.quarters_of.result.0.now) (length-map c.quarters_of.result.0.now (bit v) ∙ one_each f.first) c.number_at-a.ensures.number) (c.sum-then-a-b-gt0.ensures.sum (map (bit v) c.quarters_of.result.1.now) (length-map c.quarters_of.result.1.now (bit v) ∙ one_each f.second) c.number_at-b.ensures.number) (c.sum-then-a-b-gt0-2.ensures.sum (map (bit v) c.quarters_of.result.2.now) (length-map c.quarters_of.result.2.now (bit v) ∙ one_each f.third) c.number_at-c.ensures.number) (c.sum-then-a-b-gt0-3.ensures.sum (map (bit v) c.quarters_of.result.3.now) (length-map c.quarters_of.result.3.now (bit v) ∙ one_each f.fourth) c.number_at-d.ensures.number)

pub returns-else-a-b-gt0 : goal.returns-else-a-b-gt0
returns-else-a-b-gt0 c =
    let t = c.self.inside in
    let v = c.args.vector.now in
    let f = fit t.cols t.bits t.quarter t.words.from t.words.to c.args.places.now c.quarters_of.result.0.now c.quarters_of.result.1.now c.quarters_of.result.2.now c.quarters_of.result.3.now t.first t.second t.third t.fourth c.args.self.now c.self.invariant c.self.view_is c.requires.one_each c.requires.places c.quarters_of.ensures.first c.quarters_of.ensures.second c.quarters_of.ensures.third c.quarters_of.ensures.fourth in
    let wide : length v ≡ t.cols = c.requires.vector ∙ sym (ap (λ (b : Block). b.cols) c.self.view_is) in
    let zero_a = none_at_zero t.first.cols c.number_at-a.result (map (bit v) c.quarters_of.result.0.now) t.first.rows c.number_at-a.ensures.number (omega (arith, c.if-a-b-gt0.false)) ∙ ap zeros c.self.invariant.parts.first.cols in
    let zero_b = none_at_zero t.second.cols c.number_at-b.result (map (bit v) c.quarters_of.result.1.now) t.second.rows c.number_at-b.ensures.number (omega (arith, c.if-a-b-gt0.false)) ∙ ap zeros c.self.invariant.parts.second.cols in
    let zero_c = none_at_zero t.third.cols c.number_at-c.result (map (bit v) c.quarters_of.result.2.now) t.third.rows c.number_at-c.ensures.number (omega (arith, c.if-a-b-gt0.false)) ∙ ap zeros c.self.invariant.parts.third.cols in
    let zero_d = none_at_zero t.fourth.cols c.number_at-d.result (map (bit v) c.quarters_of.result.3.now) t.fourth.rows c.number_at-d.ensures.number (omega (arith, c.if-a-b-gt0.false)) ∙ ap zeros c.self.invariant.parts.fourth.cols in
    nothing_added t.cols v (combination t.first.cols (map (bit v) c.quarters_of.result.0.now) t.first.rows) (combination t.second.cols (map (bit v) c.quarters_of.result.1.now) t.second.rows) (combination t.third.cols (map (bit v) c.quarters_of.result.2.now) t.third.rows) (combination t.fourth.cols (map (bit v) c.quarters_of.result.3.now) t.fourth.rows) wide zero_a zero_b zero_c zero_d
    ∙ cleared_by_four t.cols t.bits t.quarter t.words.from t.words.to c.args.places.now c.quarters_of.result.0.now c.quarters_of.result.1.now c.quarters_of.result.2.now c.quarters_of.result.3.now t.first t.second t.third t.fourth c.args.self.now v (combination t.first.cols (map (bit v) c.quarters_of.result.0.now) t.first.rows) (combination t.second.cols (map (bit v) c.quarters_of.result.1.now) t.second.rows) (combination t.third.cols (map (bit v) c.quarters_of.result.2.now) t.third.rows) (combination t.fourth.cols (map (bit v) c.quarters_of.result.3.now) t.fourth.rows) c.self.invariant c.self.view_is c.requires.one_each f refl refl refl refl
