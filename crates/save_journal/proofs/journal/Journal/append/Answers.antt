use Rattle.std.proofs.Common.{◌+◌, [], ◌∷◌, sym, ◌∙◌, subst, length, refl, arith}
use Rattle.edge.specs.Disk.{written, Torn}
use Rattle.edge.proofs.Moments.{Lawful}
use Rattle.save_journal.specs.Journals.{IsLive}
use Rattle.edge.proofs.Moments.{both_mapped, both_then, both_along}
use Rattle.save_journal.proofs.Append.{place_behind, place_gate, leaves1, leaves2, leaves3, leaves4, told_of, told4, durable, settled4, beginning, passing, retained1, retained2, retained3, retained4}
use Rattle.edge.proofs.Moments.{past_then}
use Rattle.save_journal.proofs.journal.Journal.append.Given.{Over}
use Rattle.save_journal.proofs.journal.Journal.append.Goals as goal

laws : (g : Over) → Lawful g.D.Disk.now g.D.Disk.moment g.D.Disk.images g.D.Disk.since
laws g = record {
  now_is_image = g.met.D.Disk.now_is_image;
  counts_now = g.met.D.Disk.counts_now;
  only_now = g.met.D.Disk.only_now;
  since_earlier = g.met.D.Disk.since_earlier;
}

pub write_at-requires : goal.write_at-requires
write_at-requires g c =
    record { within = place_behind (laws g) c.self.inside.digest c.self.inside.end c.args.framed.now c.bytes-bytes.result.now c.bytes-bytes.ensures.bytes c.bytes-bytes.ensures.sayable c.self.inside.disk (subst (IsLive g.D.Disk.now g.D.Disk.images) (sym c.self.view_is) c.requires).settled }

pub write_at-requires-2 : goal.write_at-requires-2
write_at-requires-2 g c =
    record { within = place_gate (laws g) c.self.inside.digest c.self.inside.end c.args.framed.now c.bytes-bytes.result.now c.bytes-bytes.ensures.bytes c.bytes-bytes.ensures.sayable c.self.inside.disk (subst (IsLive g.D.Disk.now g.D.Disk.images) (sym c.self.view_is) c.requires).settled c.write_at.new.self c.write_at.ensures.images c.write_at.ensures.time c.sync.new.self c.sync.ensures.images c.sync.ensures.time c.in_ok-write_at.ensures.written c.sync.ensures.same c.in_ok-sync.ensures.durable }

pub returns-in_err-write_at-clause-any_moment : goal.returns-in_err-write_at-clause-any_moment
returns-in_err-write_at-clause-any_moment g c =
    rw (← c.self.view_is) (leaves1 (laws g) c.self.inside.digest c.self.inside.end c.args.framed.now c.bytes-bytes.result.now c.bytes-bytes.ensures.bytes c.bytes-bytes.ensures.sayable c.self.inside.disk (subst (IsLive g.D.Disk.now g.D.Disk.images) (sym c.self.view_is) c.requires).settled c.write_at.new.self c.write_at.ensures.images c.write_at.ensures.time)

pub returns-in_err-write_at-clause-told : goal.returns-in_err-write_at-clause-told
returns-in_err-write_at-clause-told g c =
    rw (← c.self.view_is) (told_of (laws g) c.self.inside.digest c.self.inside.end c.args.framed.now c.bytes-bytes.result.now c.bytes-bytes.ensures.bytes c.bytes-bytes.ensures.sayable c.self.inside.disk c.write_at.new.self (both_then (g.D.Disk.now c.self.inside.disk) (g.D.Disk.now c.write_at.new.self) (Torn (c.self.inside.end + 1) (length c.bytes-bytes.result.now)) c.in_err-write_at.ensures.torn) (leaves1 (laws g) c.self.inside.digest c.self.inside.end c.args.framed.now c.bytes-bytes.result.now c.bytes-bytes.ensures.bytes c.bytes-bytes.ensures.sayable c.self.inside.disk (subst (IsLive g.D.Disk.now g.D.Disk.images) (sym c.self.view_is) c.requires).settled c.write_at.new.self c.write_at.ensures.images c.write_at.ensures.time))

pub returns-in_err-sync-clause-any_moment : goal.returns-in_err-sync-clause-any_moment
returns-in_err-sync-clause-any_moment g c =
    rw (← c.self.view_is) (leaves2 (laws g) c.self.inside.digest c.self.inside.end c.args.framed.now c.bytes-bytes.result.now c.bytes-bytes.ensures.bytes c.bytes-bytes.ensures.sayable c.self.inside.disk (subst (IsLive g.D.Disk.now g.D.Disk.images) (sym c.self.view_is) c.requires).settled c.write_at.new.self c.write_at.ensures.images c.write_at.ensures.time c.sync.new.self c.sync.ensures.images c.sync.ensures.time)

pub returns-in_err-sync-clause-told : goal.returns-in_err-sync-clause-told
returns-in_err-sync-clause-told g c =
    rw (← c.self.view_is) (told_of (laws g) c.self.inside.digest c.self.inside.end c.args.framed.now c.bytes-bytes.result.now c.bytes-bytes.ensures.bytes c.bytes-bytes.ensures.sayable c.self.inside.disk c.sync.new.self (both_mapped (g.D.Disk.now c.self.inside.disk) (g.D.Disk.now c.sync.new.self) (written (c.self.inside.end + 1) c.bytes-bytes.result.now) (c.sync.ensures.same ∙ c.in_ok-write_at.ensures.written)) (leaves2 (laws g) c.self.inside.digest c.self.inside.end c.args.framed.now c.bytes-bytes.result.now c.bytes-bytes.ensures.bytes c.bytes-bytes.ensures.sayable c.self.inside.disk (subst (IsLive g.D.Disk.now g.D.Disk.images) (sym c.self.view_is) c.requires).settled c.write_at.new.self c.write_at.ensures.images c.write_at.ensures.time c.sync.new.self c.sync.ensures.images c.sync.ensures.time))

pub returns-in_err-write_at-2-clause-any_moment : goal.returns-in_err-write_at-2-clause-any_moment
returns-in_err-write_at-2-clause-any_moment g c =
    rw (← c.self.view_is) (leaves3 (laws g) c.self.inside.digest c.self.inside.end c.args.framed.now c.bytes-bytes.result.now c.bytes-bytes.ensures.bytes c.bytes-bytes.ensures.sayable c.self.inside.disk (subst (IsLive g.D.Disk.now g.D.Disk.images) (sym c.self.view_is) c.requires).settled c.write_at.new.self c.write_at.ensures.images c.write_at.ensures.time c.sync.new.self c.sync.ensures.images c.sync.ensures.time c.in_ok-write_at.ensures.written c.sync.ensures.same c.in_ok-sync.ensures.durable c.write_at-2.new.self c.write_at-2.ensures.images c.write_at-2.ensures.time)

pub returns-in_err-write_at-2-clause-told : goal.returns-in_err-write_at-2-clause-told
returns-in_err-write_at-2-clause-told g c =
    rw (← c.self.view_is) (told_of (laws g) c.self.inside.digest c.self.inside.end c.args.framed.now c.bytes-bytes.result.now c.bytes-bytes.ensures.bytes c.bytes-bytes.ensures.sayable c.self.inside.disk c.write_at-2.new.self (both_along (g.D.Disk.now c.self.inside.disk) (g.D.Disk.now c.sync.new.self) (g.D.Disk.now c.write_at-2.new.self) (both_mapped (g.D.Disk.now c.self.inside.disk) (g.D.Disk.now c.sync.new.self) (written (c.self.inside.end + 1) c.bytes-bytes.result.now) (c.sync.ensures.same ∙ c.in_ok-write_at.ensures.written)) (both_then (g.D.Disk.now c.sync.new.self) (g.D.Disk.now c.write_at-2.new.self) (Torn c.self.inside.end 1) c.in_err-write_at-2.ensures.torn)) (leaves3 (laws g) c.self.inside.digest c.self.inside.end c.args.framed.now c.bytes-bytes.result.now c.bytes-bytes.ensures.bytes c.bytes-bytes.ensures.sayable c.self.inside.disk (subst (IsLive g.D.Disk.now g.D.Disk.images) (sym c.self.view_is) c.requires).settled c.write_at.new.self c.write_at.ensures.images c.write_at.ensures.time c.sync.new.self c.sync.ensures.images c.sync.ensures.time c.in_ok-write_at.ensures.written c.sync.ensures.same c.in_ok-sync.ensures.durable c.write_at-2.new.self c.write_at-2.ensures.images c.write_at-2.ensures.time))

pub returns-in_err-sync-2-clause-any_moment : goal.returns-in_err-sync-2-clause-any_moment
returns-in_err-sync-2-clause-any_moment g c =
    rw (← c.self.view_is) (leaves4 (laws g) c.self.inside.digest c.self.inside.end c.args.framed.now c.bytes-bytes.result.now c.bytes-bytes.ensures.bytes c.bytes-bytes.ensures.sayable c.self.inside.disk (subst (IsLive g.D.Disk.now g.D.Disk.images) (sym c.self.view_is) c.requires).settled c.write_at.new.self c.write_at.ensures.images c.write_at.ensures.time c.sync.new.self c.sync.ensures.images c.sync.ensures.time c.in_ok-write_at.ensures.written c.sync.ensures.same c.in_ok-sync.ensures.durable c.write_at-2.new.self c.write_at-2.ensures.images c.write_at-2.ensures.time c.sync-2.new.self c.sync-2.ensures.images c.sync-2.ensures.time)

pub returns-in_err-sync-2-clause-told : goal.returns-in_err-sync-2-clause-told
returns-in_err-sync-2-clause-told g c =
    rw (← c.self.view_is) (told_of (laws g) c.self.inside.digest c.self.inside.end c.args.framed.now c.bytes-bytes.result.now c.bytes-bytes.ensures.bytes c.bytes-bytes.ensures.sayable c.self.inside.disk c.sync-2.new.self (both_along (g.D.Disk.now c.self.inside.disk) (g.D.Disk.now c.sync.new.self) (g.D.Disk.now c.sync-2.new.self) (both_mapped (g.D.Disk.now c.self.inside.disk) (g.D.Disk.now c.sync.new.self) (written (c.self.inside.end + 1) c.bytes-bytes.result.now) (c.sync.ensures.same ∙ c.in_ok-write_at.ensures.written)) (both_mapped (g.D.Disk.now c.sync.new.self) (g.D.Disk.now c.sync-2.new.self) (written c.self.inside.end (0xA5 ∷ [])) (c.sync-2.ensures.same ∙ c.in_ok-write_at-2.ensures.written))) (leaves4 (laws g) c.self.inside.digest c.self.inside.end c.args.framed.now c.bytes-bytes.result.now c.bytes-bytes.ensures.bytes c.bytes-bytes.ensures.sayable c.self.inside.disk (subst (IsLive g.D.Disk.now g.D.Disk.images) (sym c.self.view_is) c.requires).settled c.write_at.new.self c.write_at.ensures.images c.write_at.ensures.time c.sync.new.self c.sync.ensures.images c.sync.ensures.time c.in_ok-write_at.ensures.written c.sync.ensures.same c.in_ok-sync.ensures.durable c.write_at-2.new.self c.write_at-2.ensures.images c.write_at-2.ensures.time c.sync-2.new.self c.sync-2.ensures.images c.sync-2.ensures.time))

pub returns-clause-any_moment : goal.returns-clause-any_moment
returns-clause-any_moment g c =
    rw (← c.self.view_is) (leaves4 (laws g) c.self.inside.digest c.self.inside.end c.args.framed.now c.bytes-bytes.result.now c.bytes-bytes.ensures.bytes c.bytes-bytes.ensures.sayable c.self.inside.disk (subst (IsLive g.D.Disk.now g.D.Disk.images) (sym c.self.view_is) c.requires).settled c.write_at.new.self c.write_at.ensures.images c.write_at.ensures.time c.sync.new.self c.sync.ensures.images c.sync.ensures.time c.in_ok-write_at.ensures.written c.sync.ensures.same c.in_ok-sync.ensures.durable c.write_at-2.new.self c.write_at-2.ensures.images c.write_at-2.ensures.time c.sync-2.new.self c.sync-2.ensures.images c.sync-2.ensures.time)

pub returns-clause-told : goal.returns-clause-told
returns-clause-told g c =
    rw (← c.self.view_is) (told_of (laws g) c.self.inside.digest c.self.inside.end c.args.framed.now c.bytes-bytes.result.now c.bytes-bytes.ensures.bytes c.bytes-bytes.ensures.sayable c.self.inside.disk c.sync-2.new.self (both_along (g.D.Disk.now c.self.inside.disk) (g.D.Disk.now c.sync.new.self) (g.D.Disk.now c.sync-2.new.self) (both_mapped (g.D.Disk.now c.self.inside.disk) (g.D.Disk.now c.sync.new.self) (written (c.self.inside.end + 1) c.bytes-bytes.result.now) (c.sync.ensures.same ∙ c.in_ok-write_at.ensures.written)) (both_mapped (g.D.Disk.now c.sync.new.self) (g.D.Disk.now c.sync-2.new.self) (written c.self.inside.end (0xA5 ∷ [])) (c.sync-2.ensures.same ∙ c.in_ok-write_at-2.ensures.written))) (leaves4 (laws g) c.self.inside.digest c.self.inside.end c.args.framed.now c.bytes-bytes.result.now c.bytes-bytes.ensures.bytes c.bytes-bytes.ensures.sayable c.self.inside.disk (subst (IsLive g.D.Disk.now g.D.Disk.images) (sym c.self.view_is) c.requires).settled c.write_at.new.self c.write_at.ensures.images c.write_at.ensures.time c.sync.new.self c.sync.ensures.images c.sync.ensures.time c.in_ok-write_at.ensures.written c.sync.ensures.same c.in_ok-sync.ensures.durable c.write_at-2.new.self c.write_at-2.ensures.images c.write_at-2.ensures.time c.sync-2.new.self c.sync-2.ensures.images c.sync-2.ensures.time))

pub returns-clause-appended : goal.returns-clause-appended
returns-clause-appended g c =
    rw (← c.self.view_is) (told4 (laws g) c.self.inside.digest c.self.inside.end c.args.framed.now c.bytes-bytes.result.now c.bytes-bytes.ensures.bytes c.bytes-bytes.ensures.sayable c.self.inside.disk (subst (IsLive g.D.Disk.now g.D.Disk.images) (sym c.self.view_is) c.requires).settled c.write_at.new.self c.write_at.ensures.images c.write_at.ensures.time c.sync.new.self c.sync.ensures.images c.sync.ensures.time c.in_ok-write_at.ensures.written c.sync.ensures.same c.in_ok-sync.ensures.durable c.write_at-2.new.self c.write_at-2.ensures.images c.write_at-2.ensures.time c.sync-2.new.self c.sync-2.ensures.images c.sync-2.ensures.time c.in_ok-write_at-2.ensures.written c.sync-2.ensures.same c.in_ok-sync-2.ensures.durable)

pub returns-clause-durable : goal.returns-clause-durable
returns-clause-durable g c =
    rw (← c.self.view_is) (durable (laws g) c.self.inside.digest c.self.inside.end c.args.framed.now c.bytes-bytes.result.now c.bytes-bytes.ensures.bytes c.bytes-bytes.ensures.sayable c.self.inside.disk (subst (IsLive g.D.Disk.now g.D.Disk.images) (sym c.self.view_is) c.requires).settled c.write_at.new.self c.write_at.ensures.images c.write_at.ensures.time c.sync.new.self c.sync.ensures.images c.sync.ensures.time c.in_ok-write_at.ensures.written c.sync.ensures.same c.in_ok-sync.ensures.durable c.write_at-2.new.self c.write_at-2.ensures.images c.write_at-2.ensures.time c.sync-2.new.self c.sync-2.ensures.images c.sync-2.ensures.time c.in_ok-write_at-2.ensures.written c.sync-2.ensures.same c.in_ok-sync-2.ensures.durable)

pub returns-clause-live : goal.returns-clause-live
returns-clause-live g c =
    record { flag = refl; limit = omega (arith, c.in_ok-write_at.ensures.limit); settled = settled4 (laws g) c.self.inside.digest c.self.inside.end c.args.framed.now c.bytes-bytes.result.now c.bytes-bytes.ensures.bytes c.bytes-bytes.ensures.sayable c.self.inside.disk (subst (IsLive g.D.Disk.now g.D.Disk.images) (sym c.self.view_is) c.requires).settled c.write_at.new.self c.write_at.ensures.images c.write_at.ensures.time c.sync.new.self c.sync.ensures.images c.sync.ensures.time c.in_ok-write_at.ensures.written c.sync.ensures.same c.in_ok-sync.ensures.durable c.write_at-2.new.self c.write_at-2.ensures.images c.write_at-2.ensures.time c.sync-2.new.self c.sync-2.ensures.images c.sync-2.ensures.time c.in_ok-write_at-2.ensures.written c.sync-2.ensures.same c.in_ok-sync-2.ensures.durable }

pub returns-in_err-write_at-clause-time : goal.returns-in_err-write_at-clause-time
returns-in_err-write_at-clause-time g c =
    rw (← c.self.view_is) ((passing (laws g) c.self.inside.disk c.self.inside.disk c.write_at.new.self (beginning (laws g) c.self.inside.disk) c.write_at.ensures.time))

pub returns-in_err-sync-clause-time : goal.returns-in_err-sync-clause-time
returns-in_err-sync-clause-time g c =
    rw (← c.self.view_is) ((passing (laws g) c.self.inside.disk c.write_at.new.self c.sync.new.self (passing (laws g) c.self.inside.disk c.self.inside.disk c.write_at.new.self (beginning (laws g) c.self.inside.disk) c.write_at.ensures.time) c.sync.ensures.time))

pub returns-in_err-write_at-2-clause-time : goal.returns-in_err-write_at-2-clause-time
returns-in_err-write_at-2-clause-time g c =
    rw (← c.self.view_is) ((passing (laws g) c.self.inside.disk c.sync.new.self c.write_at-2.new.self (passing (laws g) c.self.inside.disk c.write_at.new.self c.sync.new.self (passing (laws g) c.self.inside.disk c.self.inside.disk c.write_at.new.self (beginning (laws g) c.self.inside.disk) c.write_at.ensures.time) c.sync.ensures.time) c.write_at-2.ensures.time))

pub returns-in_err-sync-2-clause-time : goal.returns-in_err-sync-2-clause-time
returns-in_err-sync-2-clause-time g c =
    rw (← c.self.view_is) ((passing (laws g) c.self.inside.disk c.write_at-2.new.self c.sync-2.new.self (passing (laws g) c.self.inside.disk c.sync.new.self c.write_at-2.new.self (passing (laws g) c.self.inside.disk c.write_at.new.self c.sync.new.self (passing (laws g) c.self.inside.disk c.self.inside.disk c.write_at.new.self (beginning (laws g) c.self.inside.disk) c.write_at.ensures.time) c.sync.ensures.time) c.write_at-2.ensures.time) c.sync-2.ensures.time))

pub returns-clause-time : goal.returns-clause-time
returns-clause-time g c =
    rw (← c.self.view_is) ((passing (laws g) c.self.inside.disk c.write_at-2.new.self c.sync-2.new.self (passing (laws g) c.self.inside.disk c.sync.new.self c.write_at-2.new.self (passing (laws g) c.self.inside.disk c.write_at.new.self c.sync.new.self (passing (laws g) c.self.inside.disk c.self.inside.disk c.write_at.new.self (beginning (laws g) c.self.inside.disk) c.write_at.ensures.time) c.sync.ensures.time) c.write_at-2.ensures.time) c.sync-2.ensures.time))

pub returns-in_err-write_at-clause-retained : goal.returns-in_err-write_at-clause-retained
returns-in_err-write_at-clause-retained g c =
    rw (← c.self.view_is) (retained1 (laws g) c.self.inside.digest c.self.inside.end c.args.framed.now c.bytes-bytes.result.now c.bytes-bytes.ensures.bytes c.bytes-bytes.ensures.sayable c.self.inside.disk (subst (IsLive g.D.Disk.now g.D.Disk.images) (sym c.self.view_is) c.requires).settled c.write_at.new.self c.write_at.ensures.images c.write_at.ensures.time g.D.Disk.images_at g.met.D.Disk.images_at_now c.write_at.ensures.passes)

pub returns-in_err-write_at-clause-past : goal.returns-in_err-write_at-clause-past
returns-in_err-write_at-clause-past g c =
    rw (← c.self.view_is) (c.write_at.ensures.passes.past)

pub returns-in_err-sync-clause-retained : goal.returns-in_err-sync-clause-retained
returns-in_err-sync-clause-retained g c =
    rw (← c.self.view_is) (retained2 (laws g) c.self.inside.digest c.self.inside.end c.args.framed.now c.bytes-bytes.result.now c.bytes-bytes.ensures.bytes c.bytes-bytes.ensures.sayable c.self.inside.disk (subst (IsLive g.D.Disk.now g.D.Disk.images) (sym c.self.view_is) c.requires).settled c.write_at.new.self c.write_at.ensures.images c.write_at.ensures.time c.sync.new.self c.sync.ensures.images c.sync.ensures.time g.D.Disk.images_at g.met.D.Disk.images_at_now c.write_at.ensures.passes c.sync.ensures.passes)

pub returns-in_err-sync-clause-past : goal.returns-in_err-sync-clause-past
returns-in_err-sync-clause-past g c =
    rw (← c.self.view_is) (past_then g.D.Disk.moment g.D.Disk.images_at c.self.inside.disk c.write_at.new.self c.sync.new.self (omega (arith, c.write_at.ensures.time.later)) (c.write_at.ensures.passes.past) c.sync.ensures.passes.past)

pub returns-in_err-write_at-2-clause-retained : goal.returns-in_err-write_at-2-clause-retained
returns-in_err-write_at-2-clause-retained g c =
    rw (← c.self.view_is) (retained3 (laws g) c.self.inside.digest c.self.inside.end c.args.framed.now c.bytes-bytes.result.now c.bytes-bytes.ensures.bytes c.bytes-bytes.ensures.sayable c.self.inside.disk (subst (IsLive g.D.Disk.now g.D.Disk.images) (sym c.self.view_is) c.requires).settled c.write_at.new.self c.write_at.ensures.images c.write_at.ensures.time c.sync.new.self c.sync.ensures.images c.sync.ensures.time c.in_ok-write_at.ensures.written c.sync.ensures.same c.in_ok-sync.ensures.durable c.write_at-2.new.self c.write_at-2.ensures.images c.write_at-2.ensures.time g.D.Disk.images_at g.met.D.Disk.images_at_now c.write_at.ensures.passes c.sync.ensures.passes c.write_at-2.ensures.passes)

pub returns-in_err-write_at-2-clause-past : goal.returns-in_err-write_at-2-clause-past
returns-in_err-write_at-2-clause-past g c =
    rw (← c.self.view_is) (past_then g.D.Disk.moment g.D.Disk.images_at c.self.inside.disk c.sync.new.self c.write_at-2.new.self (omega (arith, c.write_at.ensures.time.later, c.sync.ensures.time.later)) (past_then g.D.Disk.moment g.D.Disk.images_at c.self.inside.disk c.write_at.new.self c.sync.new.self (omega (arith, c.write_at.ensures.time.later)) (c.write_at.ensures.passes.past) c.sync.ensures.passes.past) c.write_at-2.ensures.passes.past)

pub returns-in_err-sync-2-clause-retained : goal.returns-in_err-sync-2-clause-retained
returns-in_err-sync-2-clause-retained g c =
    rw (← c.self.view_is) (retained4 (laws g) c.self.inside.digest c.self.inside.end c.args.framed.now c.bytes-bytes.result.now c.bytes-bytes.ensures.bytes c.bytes-bytes.ensures.sayable c.self.inside.disk (subst (IsLive g.D.Disk.now g.D.Disk.images) (sym c.self.view_is) c.requires).settled c.write_at.new.self c.write_at.ensures.images c.write_at.ensures.time c.sync.new.self c.sync.ensures.images c.sync.ensures.time c.in_ok-write_at.ensures.written c.sync.ensures.same c.in_ok-sync.ensures.durable c.write_at-2.new.self c.write_at-2.ensures.images c.write_at-2.ensures.time c.sync-2.new.self c.sync-2.ensures.images c.sync-2.ensures.time g.D.Disk.images_at g.met.D.Disk.images_at_now c.write_at.ensures.passes c.sync.ensures.passes c.write_at-2.ensures.passes c.sync-2.ensures.passes)

pub returns-in_err-sync-2-clause-past : goal.returns-in_err-sync-2-clause-past
returns-in_err-sync-2-clause-past g c =
    rw (← c.self.view_is) (past_then g.D.Disk.moment g.D.Disk.images_at c.self.inside.disk c.write_at-2.new.self c.sync-2.new.self (omega (arith, c.write_at.ensures.time.later, c.sync.ensures.time.later, c.write_at-2.ensures.time.later)) (past_then g.D.Disk.moment g.D.Disk.images_at c.self.inside.disk c.sync.new.self c.write_at-2.new.self (omega (arith, c.write_at.ensures.time.later, c.sync.ensures.time.later)) (past_then g.D.Disk.moment g.D.Disk.images_at c.self.inside.disk c.write_at.new.self c.sync.new.self (omega (arith, c.write_at.ensures.time.later)) (c.write_at.ensures.passes.past) c.sync.ensures.passes.past) c.write_at-2.ensures.passes.past) c.sync-2.ensures.passes.past)

pub returns-clause-retained : goal.returns-clause-retained
returns-clause-retained g c =
    rw (← c.self.view_is) (retained4 (laws g) c.self.inside.digest c.self.inside.end c.args.framed.now c.bytes-bytes.result.now c.bytes-bytes.ensures.bytes c.bytes-bytes.ensures.sayable c.self.inside.disk (subst (IsLive g.D.Disk.now g.D.Disk.images) (sym c.self.view_is) c.requires).settled c.write_at.new.self c.write_at.ensures.images c.write_at.ensures.time c.sync.new.self c.sync.ensures.images c.sync.ensures.time c.in_ok-write_at.ensures.written c.sync.ensures.same c.in_ok-sync.ensures.durable c.write_at-2.new.self c.write_at-2.ensures.images c.write_at-2.ensures.time c.sync-2.new.self c.sync-2.ensures.images c.sync-2.ensures.time g.D.Disk.images_at g.met.D.Disk.images_at_now c.write_at.ensures.passes c.sync.ensures.passes c.write_at-2.ensures.passes c.sync-2.ensures.passes)

pub returns-clause-past : goal.returns-clause-past
returns-clause-past g c =
    rw (← c.self.view_is) (past_then g.D.Disk.moment g.D.Disk.images_at c.self.inside.disk c.write_at-2.new.self c.sync-2.new.self (omega (arith, c.write_at.ensures.time.later, c.sync.ensures.time.later, c.write_at-2.ensures.time.later)) (past_then g.D.Disk.moment g.D.Disk.images_at c.self.inside.disk c.sync.new.self c.write_at-2.new.self (omega (arith, c.write_at.ensures.time.later, c.sync.ensures.time.later)) (past_then g.D.Disk.moment g.D.Disk.images_at c.self.inside.disk c.write_at.new.self c.sync.new.self (omega (arith, c.write_at.ensures.time.later)) (c.write_at.ensures.passes.past) c.sync.ensures.passes.past) c.write_at-2.ensures.passes.past) c.sync-2.ensures.passes.past)
