use Rattle.std.proofs.Common.{rules, ◌≡◌, None, refl, sym, ap, ◌∙◌}
use Rattle.std.specs.Arc.{arc_value}
use Rattle.std.proofs.lemmas.Bool.{false≢true}
use Rattle.std.proofs.lemmas.Option.{slice_get_within}
use Rattle.certificate_laws.specs.Certificates.{CoversAt}
use Rattle.square.specs.Squares.{Placed, over}
use Rattle.square.specs.Tables.{row_in}
use Rattle.cert_check.specs.Certified.{part_of, IsQuasiOf}
use Rattle.cert_check.proofs.Faults.{kept_here, covers_is_exact, clear_is_needed, candidates-part, clear_here}
use Rattle.cert_check.proofs.checking.check_square.Goals as goal

pub returns-in_default-kept_quasi-clause-fault : goal.returns-in_default-kept_quasi-clause-fault
returns-in_default-kept_quasi-clause-fault c =
    let table = c.args.table.now in
    let range = c.args.range in
    let s = c.args.s in
    let k = c.args.above in
    let q = arc_value c.in-Some.square.now in
    let there = sym c.in-Some.ensures.square in
    let h = c.requires.row in
    let l = c.requires.degree in
    let none : q.quasi ≡ None = ap (λ (y : Placed). y.quasi) (sym c.deref.ensures) ∙ sym c.in_default-kept_quasi.ensures.kept in
    record {
      above = k;
      degree = search rules;
      row = h;
      within = l;
      before = c.requires.before;
      is_fault = record { square = q; there = there; none = none };
    }

pub covers-requires : goal.covers-requires
covers-requires c = slice_get_within (row_in c.args.table.now.rows c.args.s) c.args.above (arc_value c.in-Some.square.now) (sym c.in-Some.ensures.square)

pub returns-then-not-covers-clause-fault : goal.returns-then-not-covers-clause-fault
returns-then-not-covers-clause-fault c =
    let table = c.args.table.now in
    let range = c.args.range in
    let s = c.args.s in
    let k = c.args.above in
    let q = arc_value c.in-Some.square.now in
    let there = sym c.in-Some.ensures.square in
    let h = c.requires.row in
    let l = c.requires.degree in
    let r = c.in-Some-kept_quasi.quasi.now in
    let x : IsQuasiOf table range s k r = kept_here table range c.square.ensures.is_table s k q c.deref.result.now r h l there c.deref.ensures c.kept_quasi.ensures.is_square c.in-Some-kept_quasi.ensures.kept in
    record {
      above = k;
      degree = search rules;
      row = h;
      within = l;
      before = c.requires.before;
      is_fault = record { reduction = r; quasi = x; fails = λ exact. false≢true (c.if-not-covers.ensures.1 (c.image.ensures.rows ∙ ((covers_is_exact table range s k r h l c.requires.before x).1 exact ∙ candidates-part table range s k h l))) };
    }

pub returns-then-not-clear-clause-fault : goal.returns-then-not-clear-clause-fault
returns-then-not-clear-clause-fault c =
    let table = c.args.table.now in
    let range = c.args.range in
    let s = c.args.s in
    let k = c.args.above in
    let q = arc_value c.in-Some.square.now in
    let there = sym c.in-Some.ensures.square in
    let h = c.requires.row in
    let l = c.requires.degree in
    let r = c.in-Some-kept_quasi.quasi.now in
    let x : IsQuasiOf table range s k r = kept_here table range c.square.ensures.is_table s k q c.deref.result.now r h l there c.deref.ensures c.kept_quasi.ensures.is_square c.in-Some-kept_quasi.ensures.kept in
    let covers : CoversAt (over table.resolved) (part_of table range) s k r = sym c.image.ensures.rows ∙ (c.if-not-covers.ensures.0 refl ∙ sym (candidates-part table range s k h l)) in
    let exact = (covers_is_exact table range s k r h l c.requires.before x).0 covers in
    let clear = clear_here table range s k q c.deref-2.result.now r h l there c.deref-2.ensures x in
    record {
      above = k;
      degree = search rules;
      row = h;
      within = l;
      before = c.requires.before;
      is_fault = record { reduction = r; quasi = x; exact = exact; fails = λ needed. false≢true (sym c.if-not-clear.true ∙ c.is_clear-clear.ensures.1 (clear.1 ((clear_is_needed table range s k r h l x).1 needed))) };
    }

pub returns-clause-ok : goal.returns-clause-ok
returns-clause-ok c =
    let table = c.args.table.now in
    let range = c.args.range in
    let s = c.args.s in
    let k = c.args.above in
    let q = arc_value c.in-Some.square.now in
    let there = sym c.in-Some.ensures.square in
    let h = c.requires.row in
    let l = c.requires.degree in
    let r = c.in-Some-kept_quasi.quasi.now in
    let x : IsQuasiOf table range s k r = kept_here table range c.square.ensures.is_table s k q c.deref.result.now r h l there c.deref.ensures c.kept_quasi.ensures.is_square c.in-Some-kept_quasi.ensures.kept in
    let covers : CoversAt (over table.resolved) (part_of table range) s k r = sym c.image.ensures.rows ∙ (c.if-not-covers.ensures.0 refl ∙ sym (candidates-part table range s k h l)) in
    let clear = clear_here table range s k q c.deref-2.result.now r h l there c.deref-2.ensures x in
    record { reduction = r; quasi = x; covers = covers; clear = clear.0 (c.is_clear-clear.ensures.0 c.if-not-clear.false) }
