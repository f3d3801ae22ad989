use Rattle.std.proofs.Common.{◌≡◌, ◌+◌, [], inl, inr, to_z, of_z, w32, subst, arith, rules}
use Rattle.save_file.specs.Saved.{IsReadAsQuasi}
use Rattle.save_file.proofs.Keeping.{IsBareThere, and_quasi, fits_quasi, put, put_kept, unput, unput_kept, takes, between, between_kept, retained_alone, come_kept, come_quasi, kept_after, kept_as_before, durable, quasi_named, quasi_or_not, quasi_stays}
use Rattle.save_file.proofs.saving.SaveFile.keep_quasi.Goals as goal

pub returns-in-Ok-clause-live : goal.returns-in-Ok-clause-live
returns-in-Ok-clause-live g c =
    let same : to_z w32 (of_z w32 c.args.t) ≡ c.args.t = search rules in
    let read : IsReadAsQuasi c.args.table.now c.args.s c.args.t c.in_ok-body.body = subst (λ t. IsReadAsQuasi c.args.table.now c.args.s t c.in_ok-body.body) same c.in_ok-body.ensures.read in
    takes g.D.Disk.now g.D.Disk.moment g.D.Disk.images g.D.Disk.since c.in_ok-body.body [] (and_quasi c.args.table.now c.args.s c.args.t c.in_ok-body.body read) (IsBareThere c.args.self.now c.args.table.now c.args.s read.above) (record { journal = c.self.inside.journal; count = c.self.inside.count; resolved = c.self.inside.opened.value.resolved; start = c.self.inside.opened.value.start }) c.args.self.now c.self.view_is
    (fits_quasi g.D.Disk.now g.D.Disk.images c.args.self.now c.args.table.now c.args.s c.args.t c.in_ok-body.body c.requires.live c.requires.of_table.holds c.requires.of_table.resolved c.requires.bare read)
    c.append.new.self _ (omega arith) c.in-Ok.ensures.live c.append.ensures.same c.in-Ok.ensures.grown c.append.ensures.told c.in-Ok.ensures.appended

pub returns-in-Ok-clause-put : goal.returns-in-Ok-clause-put
returns-in-Ok-clause-put g c =
    let same : to_z w32 (of_z w32 c.args.t) ≡ c.args.t = search rules in
    let read : IsReadAsQuasi c.args.table.now c.args.s c.args.t c.in_ok-body.body = subst (λ t. IsReadAsQuasi c.args.table.now c.args.s t c.in_ok-body.body) same c.in_ok-body.ensures.read in
    λ k r degree is. quasi_named c.args.table.now c.args.s c.args.t c.in_ok-body.body read _ _ (put_kept g.D.Disk.now g.D.Disk.moment g.D.Disk.images g.D.Disk.since c.in_ok-body.body [] (and_quasi c.args.table.now c.args.s c.args.t c.in_ok-body.body read) (IsBareThere c.args.self.now c.args.table.now c.args.s read.above) (record { journal = c.self.inside.journal; count = c.self.inside.count; resolved = c.self.inside.opened.value.resolved; start = c.self.inside.opened.value.start }) c.args.self.now c.self.view_is
    (fits_quasi g.D.Disk.now g.D.Disk.images c.args.self.now c.args.table.now c.args.s c.args.t c.in_ok-body.body c.requires.live c.requires.of_table.holds c.requires.of_table.resolved c.requires.bare read)
    c.append.new.self _ (omega arith) c.append.ensures.told c.in-Ok.ensures.appended) k r degree is

pub returns-in-Ok-clause-between : goal.returns-in-Ok-clause-between
returns-in-Ok-clause-between g c =
    let same : to_z w32 (of_z w32 c.args.t) ≡ c.args.t = search rules in
    let read : IsReadAsQuasi c.args.table.now c.args.s c.args.t c.in_ok-body.body = subst (λ t. IsReadAsQuasi c.args.table.now c.args.s t c.in_ok-body.body) same c.in_ok-body.ensures.read in
    quasi_or_not g.D.Disk.since _ c.append.new.self.disk _ c.args.table.now c.args.s c.args.t c.in_ok-body.body read _ (between_kept g.D.Disk.now g.D.Disk.moment g.D.Disk.images g.D.Disk.since c.in_ok-body.body [] (and_quasi c.args.table.now c.args.s c.args.t c.in_ok-body.body read) (IsBareThere c.args.self.now c.args.table.now c.args.s read.above) (record { journal = c.self.inside.journal; count = c.self.inside.count; resolved = c.self.inside.opened.value.resolved; start = c.self.inside.opened.value.start }) c.args.self.now c.self.view_is
    (fits_quasi g.D.Disk.now g.D.Disk.images c.args.self.now c.args.table.now c.args.s c.args.t c.in_ok-body.body c.requires.live c.requires.of_table.holds c.requires.of_table.resolved c.requires.bare read)
    c.append.new.self c.append.ensures.any_moment)

pub returns-in-Ok-clause-kept : goal.returns-in-Ok-clause-kept
returns-in-Ok-clause-kept g c =
    let same : to_z w32 (of_z w32 c.args.t) ≡ c.args.t = search rules in
    let read : IsReadAsQuasi c.args.table.now c.args.s c.args.t c.in_ok-body.body = subst (λ t. IsReadAsQuasi c.args.table.now c.args.s t c.in_ok-body.body) same c.in_ok-body.ensures.read in
    kept_after g.D.Disk.now g.D.Disk.moment g.D.Disk.images g.D.Disk.images_at g.D.Disk.since g.D.Disk.faults (record { journal = c.self.inside.journal; count = c.self.inside.count; resolved = c.self.inside.opened.value.resolved; start = c.self.inside.opened.value.start }) c.args.self.now c.self.view_is c.append.new.self (c.self.inside.count + 1) c.requires.live (λ t u x le s. g.met.D.Disk.since_earlier c.append.new.self.disk t u x le s)
    (inr (put g.D.Disk.now g.D.Disk.moment g.D.Disk.images g.D.Disk.since c.in_ok-body.body [] (and_quasi c.args.table.now c.args.s c.args.t c.in_ok-body.body read) (IsBareThere c.args.self.now c.args.table.now c.args.s read.above) (record { journal = c.self.inside.journal; count = c.self.inside.count; resolved = c.self.inside.opened.value.resolved; start = c.self.inside.opened.value.start }) c.args.self.now c.self.view_is
    (fits_quasi g.D.Disk.now g.D.Disk.images c.args.self.now c.args.table.now c.args.s c.args.t c.in_ok-body.body c.requires.live c.requires.of_table.holds c.requires.of_table.resolved c.requires.bare read)
    c.append.new.self (c.self.inside.count + 1) (omega arith) c.append.ensures.told c.in-Ok.ensures.appended)) c.append.ensures.never_fall c.append.ensures.time c.append.ensures.past
    (between g.D.Disk.now g.D.Disk.moment g.D.Disk.images g.D.Disk.since c.in_ok-body.body [] (and_quasi c.args.table.now c.args.s c.args.t c.in_ok-body.body read) (IsBareThere c.args.self.now c.args.table.now c.args.s read.above) (record { journal = c.self.inside.journal; count = c.self.inside.count; resolved = c.self.inside.opened.value.resolved; start = c.self.inside.opened.value.start }) c.args.self.now c.self.view_is
    (fits_quasi g.D.Disk.now g.D.Disk.images c.args.self.now c.args.table.now c.args.s c.args.t c.in_ok-body.body c.requires.live c.requires.of_table.holds c.requires.of_table.resolved c.requires.bare read)
    c.append.new.self (c.self.inside.count + 1) c.append.ensures.any_moment)
    (retained_alone g.D.Disk.now g.D.Disk.moment g.D.Disk.images g.D.Disk.images_at g.D.Disk.since c.in_ok-body.body (and_quasi c.args.table.now c.args.s c.args.t c.in_ok-body.body read) (IsBareThere c.args.self.now c.args.table.now c.args.s read.above) (record { journal = c.self.inside.journal; count = c.self.inside.count; resolved = c.self.inside.opened.value.resolved; start = c.self.inside.opened.value.start }) c.args.self.now c.self.view_is c.append.new.self (c.self.inside.count + 1) (λ t x was. (g.met.D.Disk.since_is c.append.new.self.disk t x).1 was, g.met.D.Disk.some_image c.append.new.self.disk) c.append.ensures.told c.append.ensures.any_moment
    (fits_quasi g.D.Disk.now g.D.Disk.images c.args.self.now c.args.table.now c.args.s c.args.t c.in_ok-body.body c.requires.live c.requires.of_table.holds c.requires.of_table.resolved c.requires.bare read)) _ _

pub returns-clause-between : goal.returns-clause-between
returns-clause-between g c =
    let same : to_z w32 (of_z w32 c.args.t) ≡ c.args.t = search rules in
    let read : IsReadAsQuasi c.args.table.now c.args.s c.args.t c.in_ok-body.body = subst (λ t. IsReadAsQuasi c.args.table.now c.args.s t c.in_ok-body.body) same c.in_ok-body.ensures.read in
    quasi_or_not g.D.Disk.since _ c.append.new.self.disk _ c.args.table.now c.args.s c.args.t c.in_ok-body.body read _ (between_kept g.D.Disk.now g.D.Disk.moment g.D.Disk.images g.D.Disk.since c.in_ok-body.body [] (and_quasi c.args.table.now c.args.s c.args.t c.in_ok-body.body read) (IsBareThere c.args.self.now c.args.table.now c.args.s read.above) (record { journal = c.self.inside.journal; count = c.self.inside.count; resolved = c.self.inside.opened.value.resolved; start = c.self.inside.opened.value.start }) c.args.self.now c.self.view_is
    (fits_quasi g.D.Disk.now g.D.Disk.images c.args.self.now c.args.table.now c.args.s c.args.t c.in_ok-body.body c.requires.live c.requires.of_table.holds c.requires.of_table.resolved c.requires.bare read)
    c.append.new.self c.append.ensures.any_moment)

pub returns-clause-kept : goal.returns-clause-kept
returns-clause-kept g c =
    let same : to_z w32 (of_z w32 c.args.t) ≡ c.args.t = search rules in
    let read : IsReadAsQuasi c.args.table.now c.args.s c.args.t c.in_ok-body.body = subst (λ t. IsReadAsQuasi c.args.table.now c.args.s t c.in_ok-body.body) same c.in_ok-body.ensures.read in
    kept_after g.D.Disk.now g.D.Disk.moment g.D.Disk.images g.D.Disk.images_at g.D.Disk.since g.D.Disk.faults (record { journal = c.self.inside.journal; count = c.self.inside.count; resolved = c.self.inside.opened.value.resolved; start = c.self.inside.opened.value.start }) c.args.self.now c.self.view_is c.append.new.self (c.self.inside.count) c.requires.live (λ t u x le s. g.met.D.Disk.since_earlier c.append.new.self.disk t u x le s)
    (inl (unput g.D.Disk.now g.D.Disk.moment g.D.Disk.images g.D.Disk.since c.in_ok-body.body [] (and_quasi c.args.table.now c.args.s c.args.t c.in_ok-body.body read) (IsBareThere c.args.self.now c.args.table.now c.args.s read.above) (record { journal = c.self.inside.journal; count = c.self.inside.count; resolved = c.self.inside.opened.value.resolved; start = c.self.inside.opened.value.start }) c.args.self.now c.self.view_is
    (fits_quasi g.D.Disk.now g.D.Disk.images c.args.self.now c.args.table.now c.args.s c.args.t c.in_ok-body.body c.requires.live c.requires.of_table.holds c.requires.of_table.resolved c.requires.bare read)
    c.append.new.self c.append.ensures.told)) c.append.ensures.never_fall c.append.ensures.time c.append.ensures.past
    (between g.D.Disk.now g.D.Disk.moment g.D.Disk.images g.D.Disk.since c.in_ok-body.body [] (and_quasi c.args.table.now c.args.s c.args.t c.in_ok-body.body read) (IsBareThere c.args.self.now c.args.table.now c.args.s read.above) (record { journal = c.self.inside.journal; count = c.self.inside.count; resolved = c.self.inside.opened.value.resolved; start = c.self.inside.opened.value.start }) c.args.self.now c.self.view_is
    (fits_quasi g.D.Disk.now g.D.Disk.images c.args.self.now c.args.table.now c.args.s c.args.t c.in_ok-body.body c.requires.live c.requires.of_table.holds c.requires.of_table.resolved c.requires.bare read)
    c.append.new.self (c.self.inside.count) c.append.ensures.any_moment)
    (retained_alone g.D.Disk.now g.D.Disk.moment g.D.Disk.images g.D.Disk.images_at g.D.Disk.since c.in_ok-body.body (and_quasi c.args.table.now c.args.s c.args.t c.in_ok-body.body read) (IsBareThere c.args.self.now c.args.table.now c.args.s read.above) (record { journal = c.self.inside.journal; count = c.self.inside.count; resolved = c.self.inside.opened.value.resolved; start = c.self.inside.opened.value.start }) c.args.self.now c.self.view_is c.append.new.self (c.self.inside.count) (λ t x was. (g.met.D.Disk.since_is c.append.new.self.disk t x).1 was, g.met.D.Disk.some_image c.append.new.self.disk) c.append.ensures.told c.append.ensures.any_moment
    (fits_quasi g.D.Disk.now g.D.Disk.images c.args.self.now c.args.table.now c.args.s c.args.t c.in_ok-body.body c.requires.live c.requires.of_table.holds c.requires.of_table.resolved c.requires.bare read)) _ _

pub returns-clause-unput : goal.returns-clause-unput
returns-clause-unput g c =
    let same : to_z w32 (of_z w32 c.args.t) ≡ c.args.t = search rules in
    let read : IsReadAsQuasi c.args.table.now c.args.s c.args.t c.in_ok-body.body = subst (λ t. IsReadAsQuasi c.args.table.now c.args.s t c.in_ok-body.body) same c.in_ok-body.ensures.read in
    λ _. unput_kept g.D.Disk.now g.D.Disk.moment g.D.Disk.images g.D.Disk.since c.in_ok-body.body [] (and_quasi c.args.table.now c.args.s c.args.t c.in_ok-body.body read) (IsBareThere c.args.self.now c.args.table.now c.args.s read.above) (record { journal = c.self.inside.journal; count = c.self.inside.count; resolved = c.self.inside.opened.value.resolved; start = c.self.inside.opened.value.start }) c.args.self.now c.self.view_is
    (fits_quasi g.D.Disk.now g.D.Disk.images c.args.self.now c.args.table.now c.args.s c.args.t c.in_ok-body.body c.requires.live c.requires.of_table.holds c.requires.of_table.resolved c.requires.bare read)
    c.append.new.self c.append.ensures.told

pub returns-in-Ok-clause-retained : goal.returns-in-Ok-clause-retained
returns-in-Ok-clause-retained g c =
    let same : to_z w32 (of_z w32 c.args.t) ≡ c.args.t = search rules in
    let read : IsReadAsQuasi c.args.table.now c.args.s c.args.t c.in_ok-body.body = subst (λ t. IsReadAsQuasi c.args.table.now c.args.s t c.in_ok-body.body) same c.in_ok-body.ensures.read in
    come_quasi g.D.Disk.moment g.D.Disk.images_at _ c.args.self.now.journal.disk c.append.new.self.disk c.args.self.now.resolved c.args.table.now c.args.s c.args.t c.in_ok-body.body read (come_kept g.D.Disk.now g.D.Disk.moment g.D.Disk.images g.D.Disk.since c.in_ok-body.body [] (and_quasi c.args.table.now c.args.s c.args.t c.in_ok-body.body read) (IsBareThere c.args.self.now c.args.table.now c.args.s read.above) (record { journal = c.self.inside.journal; count = c.self.inside.count; resolved = c.self.inside.opened.value.resolved; start = c.self.inside.opened.value.start }) c.args.self.now c.self.view_is
    (fits_quasi g.D.Disk.now g.D.Disk.images c.args.self.now c.args.table.now c.args.s c.args.t c.in_ok-body.body c.requires.live c.requires.of_table.holds c.requires.of_table.resolved c.requires.bare read)
    c.append.new.self g.D.Disk.images_at (λ t x was. (g.met.D.Disk.since_is c.append.new.self.disk t x).1 was) c.append.ensures.any_moment c.append.ensures.retained)

pub returns-clause-retained : goal.returns-clause-retained
returns-clause-retained g c =
    let same : to_z w32 (of_z w32 c.args.t) ≡ c.args.t = search rules in
    let read : IsReadAsQuasi c.args.table.now c.args.s c.args.t c.in_ok-body.body = subst (λ t. IsReadAsQuasi c.args.table.now c.args.s t c.in_ok-body.body) same c.in_ok-body.ensures.read in
    come_quasi g.D.Disk.moment g.D.Disk.images_at _ c.args.self.now.journal.disk c.append.new.self.disk c.args.self.now.resolved c.args.table.now c.args.s c.args.t c.in_ok-body.body read (come_kept g.D.Disk.now g.D.Disk.moment g.D.Disk.images g.D.Disk.since c.in_ok-body.body [] (and_quasi c.args.table.now c.args.s c.args.t c.in_ok-body.body read) (IsBareThere c.args.self.now c.args.table.now c.args.s read.above) (record { journal = c.self.inside.journal; count = c.self.inside.count; resolved = c.self.inside.opened.value.resolved; start = c.self.inside.opened.value.start }) c.args.self.now c.self.view_is
    (fits_quasi g.D.Disk.now g.D.Disk.images c.args.self.now c.args.table.now c.args.s c.args.t c.in_ok-body.body c.requires.live c.requires.of_table.holds c.requires.of_table.resolved c.requires.bare read)
    c.append.new.self g.D.Disk.images_at (λ t x was. (g.met.D.Disk.since_is c.append.new.self.disk t x).1 was) c.append.ensures.any_moment c.append.ensures.retained)

pub returns-in-Ok-clause-durable : goal.returns-in-Ok-clause-durable
returns-in-Ok-clause-durable g c =
    let same : to_z w32 (of_z w32 c.args.t) ≡ c.args.t = search rules in
    let read : IsReadAsQuasi c.args.table.now c.args.s c.args.t c.in_ok-body.body = subst (λ t. IsReadAsQuasi c.args.table.now c.args.s t c.in_ok-body.body) same c.in_ok-body.ensures.read in
    durable g.D.Disk.now g.D.Disk.images (record { journal = c.self.inside.journal; count = c.self.inside.count; resolved = c.self.inside.opened.value.resolved; start = c.self.inside.opened.value.start }) c.args.self.now c.self.view_is c.append.new.self (c.self.inside.count + 1)
    (takes g.D.Disk.now g.D.Disk.moment g.D.Disk.images g.D.Disk.since c.in_ok-body.body [] (and_quasi c.args.table.now c.args.s c.args.t c.in_ok-body.body read) (IsBareThere c.args.self.now c.args.table.now c.args.s read.above) (record { journal = c.self.inside.journal; count = c.self.inside.count; resolved = c.self.inside.opened.value.resolved; start = c.self.inside.opened.value.start }) c.args.self.now c.self.view_is
    (fits_quasi g.D.Disk.now g.D.Disk.images c.args.self.now c.args.table.now c.args.s c.args.t c.in_ok-body.body c.requires.live c.requires.of_table.holds c.requires.of_table.resolved c.requires.bare read)
    c.append.new.self (c.self.inside.count + 1) (omega arith) c.in-Ok.ensures.live c.append.ensures.same c.in-Ok.ensures.grown c.append.ensures.told c.in-Ok.ensures.appended)

pub returns-in_err-body-clause-kept : goal.returns-in_err-body-clause-kept
returns-in_err-body-clause-kept g c =
    kept_as_before g.D.Disk.now g.D.Disk.moment g.D.Disk.images g.D.Disk.images_at g.D.Disk.since g.D.Disk.faults (λ d x s. g.met.D.Disk.only_now d x s) (λ d t u x le s. g.met.D.Disk.since_earlier d t u x le s) c.args.self.now c.requires.live _ _

pub returns-in_err-body-clause-retained : goal.returns-in_err-body-clause-retained
returns-in_err-body-clause-retained g c =
    quasi_stays g.D.Disk.moment g.D.Disk.images_at _ c.args.self.now.journal.disk c.args.self.now.resolved c.args.table.now c.args.s c.args.t
