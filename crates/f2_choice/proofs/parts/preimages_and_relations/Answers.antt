use Rattle.std.proofs.Common.{◌≡◌, ℕ, ◌-◌, ◌<◌, ◌++◌, List, Bool, length, get_or, take, drop, ap, sym, ◌∙◌, arith}
use Rattle.f2_vec.specs.Spans.{row}
use Rattle.f2_choice.specs.Inside.Columns.{columns_at, with_element}
use Rattle.f2_choice.specs.Inside.Tables.{entry_at, vacant_places, wanted_places, spread_by}
use Rattle.f2_choice.proofs.AtPlaces.{as_written}
use Rattle.f2_choice.proofs.Form.{HasNoZeroRow-left, pivots_left, IsTableOfPivots-left}
use Rattle.f2_choice.proofs.WantedColumns.{count_vacant, enough_places, last_are_preimages, length-first, place_within, first_wide, turned_are_relations}
use Rattle.f2_choice.proofs.parts.preimages_and_relations.Goals as goal

pub table_of_pivots-requires-clause-nonzero : goal.table_of_pivots-requires-clause-nonzero
table_of_pivots-requires-clause-nonzero c = HasNoZeroRow-left c.args.n c.args.image.now c.requires.image.nonzero

pub table_of_pivots-requires-clause-within : goal.table_of_pivots-requires-clause-within
table_of_pivots-requires-clause-within c = pivots_left c.args.n c.args.image.now c.requires.image.nonzero

pub columns_of_form-requires : goal.columns_of_form-requires
columns_of_form-requires c = λ p t e. (c.in_ok-table.ensures.found p t (ap (λ z. entry_at z p) (sym c.as_slice-2.ensures.value) ∙ e)).0

pub overflow_sub-len : goal.overflow_sub-len
overflow_sub-len c =
    let n = c.args.n in
    let w = c.args.width in
    let image = c.args.image.now in
    let kernel = c.args.kernel.now in
    let table = c.in_ok-table.table.items in
    let t = IsTableOfPivots-left n image table c.requires.image.nonzero c.in_ok-table.ensures in
    let places_are : c.in_ok-places.places.items ≡ wanted_places table w = c.in_ok-places.ensures ∙ ap (λ z. wanted_places z w) c.as_slice.ensures.value in
    omega (arith, enough_places n w c.requires.bar image kernel table t c.requires.image c.requires.kernel, c.len.ensures, c.in_ok-places.places.ok, ap length places_are)

pub add_elements-requires-clause-within : goal.add_elements-requires-clause-within
add_elements-requires-clause-within c = λ k l.
    let n = c.args.n in
    let w = c.args.width in
    let image = c.args.image.now in
    let kernel = c.args.kernel.now in
    let table = c.in_ok-table.table.items in
    let t = IsTableOfPivots-left n image table c.requires.image.nonzero c.in_ok-table.ensures in
    let places_are : c.in_ok-places.places.items ≡ wanted_places table w = c.in_ok-places.ensures ∙ ap (λ z. wanted_places z w) c.as_slice.ensures.value in
    let rows = spread_by table w image ++ kernel in
    let columns_are : c.in_ok-relations.relations.items ≡ columns_at (wanted_places table w) rows =
    c.in_ok-relations.ensures ∙ ap (λ z. columns_at z (spread_by c.as_slice-2.result.now w image ++ kernel)) (c.as_slice-3.ensures.value ∙ places_are) ∙ ap (λ z. columns_at (wanted_places table w) (spread_by z w image ++ kernel)) c.as_slice-2.ensures.value in
    let count = c.len.result - (w - n) in
    let count_is : count ≡ length (vacant_places table) = omega (arith, count_vacant n w c.requires.bar image kernel table t c.requires.image c.requires.kernel, c.len.ensures, c.in_ok-places.places.ok, ap length places_are) in
    let first : c.as_mut_slice.result.now ≡ take count (columns_at (wanted_places table w) rows) = c.as_mut_slice.ensures.value ∙ c.shrink_to_fit.ensures.items ∙ c.in_ok-preimages.ensures.items ∙ ap (take count) columns_are in
    let many : length c.as_mut_slice.result.now ≡ length (vacant_places table) = ap length first ∙ length-first n w c.requires.bar image kernel table t c.requires.image c.requires.kernel count count_is in
    omega (arith, place_within n w c.requires.bar image kernel table t c.requires.image c.requires.kernel k (omega (arith, many, l)), ap (λ z. get_or z k 0) (c.as_slice-4.ensures.value ∙ places_are))

pub add_elements-requires-clause-lengths : goal.add_elements-requires-clause-lengths
add_elements-requires-clause-lengths c = λ k l.
    let n = c.args.n in
    let w = c.args.width in
    let image = c.args.image.now in
    let kernel = c.args.kernel.now in
    let table = c.in_ok-table.table.items in
    let t = IsTableOfPivots-left n image table c.requires.image.nonzero c.in_ok-table.ensures in
    let places_are : c.in_ok-places.places.items ≡ wanted_places table w = c.in_ok-places.ensures ∙ ap (λ z. wanted_places z w) c.as_slice.ensures.value in
    let rows = spread_by table w image ++ kernel in
    let columns_are : c.in_ok-relations.relations.items ≡ columns_at (wanted_places table w) rows =
    c.in_ok-relations.ensures ∙ ap (λ z. columns_at z (spread_by c.as_slice-2.result.now w image ++ kernel)) (c.as_slice-3.ensures.value ∙ places_are) ∙ ap (λ z. columns_at (wanted_places table w) (spread_by z w image ++ kernel)) c.as_slice-2.ensures.value in
    let count = c.len.result - (w - n) in
    let count_is : count ≡ length (vacant_places table) = omega (arith, count_vacant n w c.requires.bar image kernel table t c.requires.image c.requires.kernel, c.len.ensures, c.in_ok-places.places.ok, ap length places_are) in
    let first : c.as_mut_slice.result.now ≡ take count (columns_at (wanted_places table w) rows) = c.as_mut_slice.ensures.value ∙ c.shrink_to_fit.ensures.items ∙ c.in_ok-preimages.ensures.items ∙ ap (take count) columns_are in
    let many : length c.as_mut_slice.result.now ≡ length (vacant_places table) = ap length first ∙ length-first n w c.requires.bar image kernel table t c.requires.image c.requires.kernel count count_is in
    omega (arith, first_wide n w c.requires.bar image kernel table t c.requires.image c.requires.kernel count k count_is (omega (arith, many, l)), ap (λ z. length (row z k)) first)

pub returns-clause-preimages : goal.returns-clause-preimages
returns-clause-preimages c =
    let n = c.args.n in
    let w = c.args.width in
    let image = c.args.image.now in
    let kernel = c.args.kernel.now in
    let table = c.in_ok-table.table.items in
    let t = IsTableOfPivots-left n image table c.requires.image.nonzero c.in_ok-table.ensures in
    let places_are : c.in_ok-places.places.items ≡ wanted_places table w = c.in_ok-places.ensures ∙ ap (λ z. wanted_places z w) c.as_slice.ensures.value in
    let rows = spread_by table w image ++ kernel in
    let columns_are : c.in_ok-relations.relations.items ≡ columns_at (wanted_places table w) rows =
    c.in_ok-relations.ensures ∙ ap (λ z. columns_at z (spread_by c.as_slice-2.result.now w image ++ kernel)) (c.as_slice-3.ensures.value ∙ places_are) ∙ ap (λ z. columns_at (wanted_places table w) (spread_by z w image ++ kernel)) c.as_slice-2.ensures.value in
    let count = c.len.result - (w - n) in
    let count_is : count ≡ length (vacant_places table) = omega (arith, count_vacant n w c.requires.bar image kernel table t c.requires.image c.requires.kernel, c.len.ensures, c.in_ok-places.places.ok, ap length places_are) in
    c.in_ok-preimages.ensures.tail ∙ ap (drop count) columns_are ∙ last_are_preimages n w c.requires.bar image kernel table t c.requires.image c.requires.kernel count count_is

pub returns-clause-relations : goal.returns-clause-relations
returns-clause-relations c =
    let n = c.args.n in
    let w = c.args.width in
    let image = c.args.image.now in
    let kernel = c.args.kernel.now in
    let table = c.in_ok-table.table.items in
    let t = IsTableOfPivots-left n image table c.requires.image.nonzero c.in_ok-table.ensures in
    let places_are : c.in_ok-places.places.items ≡ wanted_places table w = c.in_ok-places.ensures ∙ ap (λ z. wanted_places z w) c.as_slice.ensures.value in
    let rows = spread_by table w image ++ kernel in
    let columns_are : c.in_ok-relations.relations.items ≡ columns_at (wanted_places table w) rows =
    c.in_ok-relations.ensures ∙ ap (λ z. columns_at z (spread_by c.as_slice-2.result.now w image ++ kernel)) (c.as_slice-3.ensures.value ∙ places_are) ∙ ap (λ z. columns_at (wanted_places table w) (spread_by z w image ++ kernel)) c.as_slice-2.ensures.value in
    let count = c.len.result - (w - n) in
    let count_is : count ≡ length (vacant_places table) = omega (arith, count_vacant n w c.requires.bar image kernel table t c.requires.image c.requires.kernel, c.len.ensures, c.in_ok-places.places.ok, ap length places_are) in
    let first : c.as_mut_slice.result.now ≡ take count (columns_at (wanted_places table w) rows) = c.as_mut_slice.ensures.value ∙ c.shrink_to_fit.ensures.items ∙ c.in_ok-preimages.ensures.items ∙ ap (take count) columns_are in
    let many : length c.as_mut_slice.result.now ≡ length (vacant_places table) = ap length first ∙ length-first n w c.requires.bar image kernel table t c.requires.image c.requires.kernel count count_is in
    let new = c.add_elements.new.columns in
    let old = c.as_mut_slice.result.now in
    let len : c.shrink_to_fit.new.self.len ≡ length new = omega (arith, c.add_elements.ensures.as_many, c.shrink_to_fit.new.self.ok, ap length c.as_mut_slice.ensures.value) in
    let each : (i : ℕ) → i < length (vacant_places table) → row new i ≡ with_element n (get_or (wanted_places table w) i 0) (row (take count (columns_at (wanted_places table w) rows)) i) = λ i l.
    c.add_elements.ensures.turned i (omega (arith, many, l))
    ∙ ap (λ z. with_element n (get_or z i 0) (row old i)) (c.as_slice-4.ensures.value ∙ places_are)
    ∙ ap (λ z. with_element n (get_or (wanted_places table w) i 0) (row z i)) first in
    as_written c.shrink_to_fit.new.self.len new c.shrink_to_fit.new.self.items len
    ∙ turned_are_relations n w c.requires.bar image kernel table t c.requires.image c.requires.kernel count new count_is (c.add_elements.ensures.as_many ∙ many) each
