use Rattle.std.proofs.Common.{◌+◌, [], ◌∷◌, arith}
use Rattle.square.specs.Squares.{entry_of}
use Rattle.save_file.proofs.Adding.{and_square}
use Rattle.save_file.proofs.Keeping.{IsNextThere, fits_square, put, put_kept, unput, unput_kept, takes, between, earlier, unchanged, past, past_unchanged, retained, retained_unchanged}
use Rattle.save_file.proofs.saving.SaveFileKeep.keep.Goals as goal

pub returns-in_default-clause-earlier : goal.returns-in_default-clause-earlier
returns-in_default-clause-earlier g c =
    unchanged g.D.Disk.now g.D.Disk.moment g.D.Disk.since c.args.self.now (λ t u x le s. g.met.D.Disk.since_earlier c.args.self.now.journal.disk t u x le s)

pub returns-in_default-clause-past : goal.returns-in_default-clause-past
returns-in_default-clause-past g c =
    past_unchanged g.D.Disk.moment g.D.Disk.images_at c.args.self.now

pub returns-in_default-clause-retained : goal.returns-in_default-clause-retained
returns-in_default-clause-retained g c =
    retained_unchanged g.D.Disk.now g.D.Disk.moment g.D.Disk.images_at c.args.self.now

pub returns-in-Ok-append-clause-live : goal.returns-in-Ok-append-clause-live
returns-in-Ok-append-clause-live g c =
    takes g.D.Disk.now g.D.Disk.moment g.D.Disk.images g.D.Disk.since c.in-Ok.body (entry_of c.args.square.now ∷ []) (and_square c.args.square.now) (IsNextThere c.args.self.now c.args.square.now) (record { journal = c.self.inside.journal; count = c.self.inside.count; resolved = c.self.inside.opened.value.resolved; start = c.self.inside.opened.value.start }) c.args.self.now c.self.view_is
    (fits_square g.D.Disk.now g.D.Disk.images c.args.self.now c.args.square.now c.in-Ok.body c.requires.live c.requires.next c.requires.resolved c.requires.start c.in-Ok.ensures.read c.in-Ok.ensures.is_square c.in-Ok.ensures.where_made)
    c.append.new.self _ (omega arith) c.in-Ok-append.ensures.live c.append.ensures.same c.in-Ok-append.ensures.grown c.append.ensures.told c.in-Ok-append.ensures.appended

pub returns-in-Ok-append-clause-put : goal.returns-in-Ok-append-clause-put
returns-in-Ok-append-clause-put g c =
    put g.D.Disk.now g.D.Disk.moment g.D.Disk.images g.D.Disk.since c.in-Ok.body (entry_of c.args.square.now ∷ []) (and_square c.args.square.now) (IsNextThere c.args.self.now c.args.square.now) (record { journal = c.self.inside.journal; count = c.self.inside.count; resolved = c.self.inside.opened.value.resolved; start = c.self.inside.opened.value.start }) c.args.self.now c.self.view_is
    (fits_square g.D.Disk.now g.D.Disk.images c.args.self.now c.args.square.now c.in-Ok.body c.requires.live c.requires.next c.requires.resolved c.requires.start c.in-Ok.ensures.read c.in-Ok.ensures.is_square c.in-Ok.ensures.where_made)
    c.append.new.self _ (omega arith) c.append.ensures.told c.in-Ok-append.ensures.appended

pub returns-in-Ok-append-clause-quasis : goal.returns-in-Ok-append-clause-quasis
returns-in-Ok-append-clause-quasis g c =
    put_kept g.D.Disk.now g.D.Disk.moment g.D.Disk.images g.D.Disk.since c.in-Ok.body (entry_of c.args.square.now ∷ []) (and_square c.args.square.now) (IsNextThere c.args.self.now c.args.square.now) (record { journal = c.self.inside.journal; count = c.self.inside.count; resolved = c.self.inside.opened.value.resolved; start = c.self.inside.opened.value.start }) c.args.self.now c.self.view_is
    (fits_square g.D.Disk.now g.D.Disk.images c.args.self.now c.args.square.now c.in-Ok.body c.requires.live c.requires.next c.requires.resolved c.requires.start c.in-Ok.ensures.read c.in-Ok.ensures.is_square c.in-Ok.ensures.where_made)
    c.append.new.self _ (omega arith) c.append.ensures.told c.in-Ok-append.ensures.appended

pub returns-in-Ok-append-clause-between : goal.returns-in-Ok-append-clause-between
returns-in-Ok-append-clause-between g c =
    between g.D.Disk.now g.D.Disk.moment g.D.Disk.images g.D.Disk.since c.in-Ok.body (entry_of c.args.square.now ∷ []) (and_square c.args.square.now) (IsNextThere c.args.self.now c.args.square.now) (record { journal = c.self.inside.journal; count = c.self.inside.count; resolved = c.self.inside.opened.value.resolved; start = c.self.inside.opened.value.start }) c.args.self.now c.self.view_is
    (fits_square g.D.Disk.now g.D.Disk.images c.args.self.now c.args.square.now c.in-Ok.body c.requires.live c.requires.next c.requires.resolved c.requires.start c.in-Ok.ensures.read c.in-Ok.ensures.is_square c.in-Ok.ensures.where_made)
    c.append.new.self (c.self.inside.count + 1) c.append.ensures.any_moment

pub returns-in-Ok-append-clause-earlier : goal.returns-in-Ok-append-clause-earlier
returns-in-Ok-append-clause-earlier g c =
    earlier g.D.Disk.now g.D.Disk.moment g.D.Disk.since (record { journal = c.self.inside.journal; count = c.self.inside.count; resolved = c.self.inside.opened.value.resolved; start = c.self.inside.opened.value.start }) c.args.self.now c.self.view_is
    c.append.new.self (c.self.inside.count + 1) (λ t u x le s. g.met.D.Disk.since_earlier c.append.new.self.disk t u x le s) c.append.ensures.time

pub returns-in-Ok-append-clause-past : goal.returns-in-Ok-append-clause-past
returns-in-Ok-append-clause-past g c =
    past g.D.Disk.moment g.D.Disk.images_at (record { journal = c.self.inside.journal; count = c.self.inside.count; resolved = c.self.inside.opened.value.resolved; start = c.self.inside.opened.value.start }) c.args.self.now c.self.view_is c.append.new.self (c.self.inside.count + 1) c.append.ensures.past

pub returns-in-Ok-append-clause-retained : goal.returns-in-Ok-append-clause-retained
returns-in-Ok-append-clause-retained g c =
    retained g.D.Disk.now g.D.Disk.moment g.D.Disk.images g.D.Disk.images_at g.D.Disk.since c.in-Ok.body (and_square c.args.square.now) (IsNextThere c.args.self.now c.args.square.now) (record { journal = c.self.inside.journal; count = c.self.inside.count; resolved = c.self.inside.opened.value.resolved; start = c.self.inside.opened.value.start }) c.args.self.now c.self.view_is c.append.new.self (c.self.inside.count + 1)
    (λ t x was. (g.met.D.Disk.since_is c.append.new.self.disk t x).1 was, g.met.D.Disk.some_image c.append.new.self.disk) c.append.ensures.told c.append.ensures.any_moment (entry_of c.args.square.now) (fits_square g.D.Disk.now g.D.Disk.images c.args.self.now c.args.square.now c.in-Ok.body c.requires.live c.requires.next c.requires.resolved c.requires.start c.in-Ok.ensures.read c.in-Ok.ensures.is_square c.in-Ok.ensures.where_made) c.append.ensures.retained

pub returns-clause-earlier : goal.returns-clause-earlier
returns-clause-earlier g c =
    earlier g.D.Disk.now g.D.Disk.moment g.D.Disk.since (record { journal = c.self.inside.journal; count = c.self.inside.count; resolved = c.self.inside.opened.value.resolved; start = c.self.inside.opened.value.start }) c.args.self.now c.self.view_is
    c.append.new.self c.self.inside.count (λ t u x le s. g.met.D.Disk.since_earlier c.append.new.self.disk t u x le s) c.append.ensures.time

pub returns-clause-past : goal.returns-clause-past
returns-clause-past g c =
    past g.D.Disk.moment g.D.Disk.images_at (record { journal = c.self.inside.journal; count = c.self.inside.count; resolved = c.self.inside.opened.value.resolved; start = c.self.inside.opened.value.start }) c.args.self.now c.self.view_is c.append.new.self c.self.inside.count c.append.ensures.past

pub returns-clause-retained : goal.returns-clause-retained
returns-clause-retained g c =
    retained g.D.Disk.now g.D.Disk.moment g.D.Disk.images g.D.Disk.images_at g.D.Disk.since c.in-Ok.body (and_square c.args.square.now) (IsNextThere c.args.self.now c.args.square.now) (record { journal = c.self.inside.journal; count = c.self.inside.count; resolved = c.self.inside.opened.value.resolved; start = c.self.inside.opened.value.start }) c.args.self.now c.self.view_is c.append.new.self c.self.inside.count
    (λ t x was. (g.met.D.Disk.since_is c.append.new.self.disk t x).1 was, g.met.D.Disk.some_image c.append.new.self.disk) c.append.ensures.told c.append.ensures.any_moment (entry_of c.args.square.now) (fits_square g.D.Disk.now g.D.Disk.images c.args.self.now c.args.square.now c.in-Ok.body c.requires.live c.requires.next c.requires.resolved c.requires.start c.in-Ok.ensures.read c.in-Ok.ensures.is_square c.in-Ok.ensures.where_made) c.append.ensures.retained

pub returns-clause-unput : goal.returns-clause-unput
returns-clause-unput g c =
    λ _. (
      unput g.D.Disk.now g.D.Disk.moment g.D.Disk.images g.D.Disk.since c.in-Ok.body (entry_of c.args.square.now ∷ []) (and_square c.args.square.now) (IsNextThere c.args.self.now c.args.square.now) (record { journal = c.self.inside.journal; count = c.self.inside.count; resolved = c.self.inside.opened.value.resolved; start = c.self.inside.opened.value.start }) c.args.self.now c.self.view_is
          (fits_square g.D.Disk.now g.D.Disk.images c.args.self.now c.args.square.now c.in-Ok.body c.requires.live c.requires.next c.requires.resolved c.requires.start c.in-Ok.ensures.read c.in-Ok.ensures.is_square c.in-Ok.ensures.where_made)
          c.append.new.self c.append.ensures.told,
      unput_kept g.D.Disk.now g.D.Disk.moment g.D.Disk.images g.D.Disk.since c.in-Ok.body (entry_of c.args.square.now ∷ []) (and_square c.args.square.now) (IsNextThere c.args.self.now c.args.square.now) (record { journal = c.self.inside.journal; count = c.self.inside.count; resolved = c.self.inside.opened.value.resolved; start = c.self.inside.opened.value.start }) c.args.self.now c.self.view_is
          (fits_square g.D.Disk.now g.D.Disk.images c.args.self.now c.args.square.now c.in-Ok.body c.requires.live c.requires.next c.requires.resolved c.requires.start c.in-Ok.ensures.read c.in-Ok.ensures.is_square c.in-Ok.ensures.where_made)
          c.append.new.self c.append.ensures.told,
    )

pub returns-clause-between : goal.returns-clause-between
returns-clause-between g c =
    between g.D.Disk.now g.D.Disk.moment g.D.Disk.images g.D.Disk.since c.in-Ok.body (entry_of c.args.square.now ∷ []) (and_square c.args.square.now) (IsNextThere c.args.self.now c.args.square.now) (record { journal = c.self.inside.journal; count = c.self.inside.count; resolved = c.self.inside.opened.value.resolved; start = c.self.inside.opened.value.start }) c.args.self.now c.self.view_is
    (fits_square g.D.Disk.now g.D.Disk.images c.args.self.now c.args.square.now c.in-Ok.body c.requires.live c.requires.next c.requires.resolved c.requires.start c.in-Ok.ensures.read c.in-Ok.ensures.is_square c.in-Ok.ensures.where_made)
    c.append.new.self c.self.inside.count c.append.ensures.any_moment
