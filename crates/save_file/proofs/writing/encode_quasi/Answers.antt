use Rattle.std.proofs.Common.{◌≡◌, Some, sym, ◌∙◌, ap, subst, rules}
use Rattle.std.specs.Prelude.{IfSome}
use Rattle.std.specs.Arc.{arc_value}
use Rattle.square.specs.Squares.{Placed, IsSquare}
use Rattle.square.specs.Tables.{square_at, IsQuasiAt}
use Rattle.square.proofs.Found.{square_found, kept_found}
use Rattle.save_file.proofs.Encoding.{degree_there, quasi_read}
use Rattle.save_file.proofs.writing.encode_quasi.Goals as goal

-- ---- the reduction that the square has kept

pub returns-in-Some-kept_quasi-clause-body : goal.returns-in-Some-kept_quasi-clause-body
returns-in-Some-kept_quasi-clause-body c =
    let table = c.args.table.now in
    let q = arc_value c.in-Some.square.now in
    let r = c.in-Some-kept_quasi.kept.now in
    let found : square_at table c.args.s c.args.t ≡ Some q = search rules in
    let square : IsSquare q = subst IsSquare c.deref.ensures c.kept_quasi.ensures.is_square in
    let kept = ap (λ (x : Placed). x.quasi) (sym c.deref.ensures) ∙ sym c.in-Some-kept_quasi.ensures.kept in
    let is : IsQuasiAt table c.args.s c.args.t r = kept_found table c.at.ensures.is_table c.args.s c.args.t q r (square_found table c.args.s c.args.t q found) square kept in
    record {
      above = c.above.result;
      degree = degree_there table c.at.ensures.is_table c.args.s c.args.t q r c.above.result found (c.above.ensures.above ∙ ap (λ (x : Placed). x.above) c.deref-in-Some-kept_quasi.ensures) is;
      quasi = r;
      is_quasi = is;
      is = c.in_ok-bytes.ensures.bytes;
    }

pub returns-in-Some-kept_quasi-clause-read : goal.returns-in-Some-kept_quasi-clause-read
returns-in-Some-kept_quasi-clause-read c =
    let table = c.args.table.now in
    let q = arc_value c.in-Some.square.now in
    let r = c.in-Some-kept_quasi.kept.now in
    let found : square_at table c.args.s c.args.t ≡ Some q = search rules in
    let square : IsSquare q = subst IsSquare c.deref.ensures c.kept_quasi.ensures.is_square in
    let kept = ap (λ (x : Placed). x.quasi) (sym c.deref.ensures) ∙ sym c.in-Some-kept_quasi.ensures.kept in
    let is : IsQuasiAt table c.args.s c.args.t r = kept_found table c.at.ensures.is_table c.args.s c.args.t q r (square_found table c.args.s c.args.t q found) square kept in
    let degree = degree_there table c.at.ensures.is_table c.args.s c.args.t q r c.above.result found (c.above.ensures.above ∙ ap (λ (x : Placed). x.above) c.deref-in-Some-kept_quasi.ensures) is in
    quasi_read c.parts_are_reduction.ensures table c.at.ensures.is_table c.args.s c.above.result c.args.t q r c.in_ok-bytes.bytes.items degree found is
    (subst (λ o. IfSome o (λ (x : Placed). r.kernel ≡ x.content.kernel)) found (c.requires.kernel r is)) c.in_ok-bytes.ensures.fits.0 c.in_ok-bytes.ensures.fits.1 c.in_ok-bytes.ensures.bytes

-- ---- the reduction that the table makes

pub returns-clause-body : goal.returns-clause-body
returns-clause-body c =
    let table = c.args.table.now in
    let q = arc_value c.in-Some.square.now in
    let is : IsQuasiAt table c.args.s c.args.t c.in_ok-quasi.quasi = search rules in
    let found : square_at table c.args.s c.args.t ≡ Some q = search rules in
    record {
      above = c.above-2.result;
      degree = degree_there table c.at.ensures.is_table c.args.s c.args.t q c.in_ok-quasi.quasi c.above-2.result found (c.above-2.ensures.above ∙ ap (λ (x : Placed). x.above) c.deref-2.ensures) is;
      quasi = c.in_ok-quasi.quasi;
      is_quasi = is;
      is = c.in_ok-bytes-2.ensures.bytes;
    }

pub returns-clause-read : goal.returns-clause-read
returns-clause-read c =
    let table = c.args.table.now in
    let q = arc_value c.in-Some.square.now in
    let is : IsQuasiAt table c.args.s c.args.t c.in_ok-quasi.quasi = search rules in
    let found : square_at table c.args.s c.args.t ≡ Some q = search rules in
    let degree = degree_there table c.at.ensures.is_table c.args.s c.args.t q c.in_ok-quasi.quasi c.above-2.result found (c.above-2.ensures.above ∙ ap (λ (x : Placed). x.above) c.deref-2.ensures) is in
    quasi_read c.parts_are_reduction.ensures table c.at.ensures.is_table c.args.s c.above-2.result c.args.t q c.in_ok-quasi.quasi c.in_ok-bytes-2.bytes.items degree found is
    (subst (λ o. IfSome o (λ (x : Placed). c.in_ok-quasi.quasi.kernel ≡ x.content.kernel)) found (c.requires.kernel c.in_ok-quasi.quasi is)) c.in_ok-bytes-2.ensures.fits.0 c.in_ok-bytes-2.ensures.fits.1 c.in_ok-bytes-2.ensures.bytes
