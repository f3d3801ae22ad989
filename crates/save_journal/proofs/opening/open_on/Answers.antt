use Rattle.std.proofs.Common.{rules, ◌≡◌, ◌≤◌, length, arith, ap, sym, ◌∙◌, subst}
use Rattle.edge.specs.Disk.{Follows, Torn, written, LeavesOnly}
use Rattle.edge.proofs.Moments.{Lawful, where_some, at_told, past_then}
use Rattle.std.specs.Option.{option_map}
use Rattle.save_journal.specs.Journals.{contents}
use Rattle.save_journal.specs.Records.{fresh, opened}
use Rattle.save_journal.specs.Inside.Held.{IsHeld}
use Rattle.std.specs.Prelude.{IfSome, [], Result, Ok, Err, OnOk}
use Rattle.std.proofs.lemmas.Slice.Eq.{bytes_eq-Decides}
use Rattle.save_journal.proofs.Entry.{length-fresh, opened_few, fresh_at_rest, leaves1_told, leaves2_told, alone2, timed3, timed4, held2, leaves3, leaves4, held4, file4, retained1, retained2, retained3, retained4}
use Rattle.save_journal.proofs.opening.open_on.Given.{Over}
use Rattle.save_journal.proofs.opening.open_on.Goals as goal

laws : (g : Over) → Lawful g.D.Disk.now g.D.Disk.moment g.D.Disk.images g.D.Disk.since
laws g = record {
  now_is_image = g.met.D.Disk.now_is_image;
  counts_now = g.met.D.Disk.counts_now;
  only_now = g.met.D.Disk.only_now;
  since_earlier = g.met.D.Disk.since_earlier;
}

pub returns-then-len-gt41-clause-any_moment : goal.returns-then-len-gt41-clause-any_moment
returns-then-len-gt41-clause-any_moment g c =
    leaves2_told (laws g) c.args.digest.now c.args.disk.now c.sync.new.self c.sync.ensures.images c.sync.ensures.time c.read_all.new.disk c.read_all.ensures.any_moment

pub returns-then-eq-clause-any_moment : goal.returns-then-eq-clause-any_moment
returns-then-eq-clause-any_moment g c =
    leaves2_told (laws g) c.args.digest.now c.args.disk.now c.sync.new.self c.sync.ensures.images c.sync.ensures.time c.read_all.new.disk c.read_all.ensures.any_moment

pub returns-in_err-write_at-clause-any_moment : goal.returns-in_err-write_at-clause-any_moment
returns-in_err-write_at-clause-any_moment g c =
    let width : length c.args.digest.now ≡ 32 = search rules in
    let few : length c.in_ok-bytes.bytes.items ≤ 41 = omega (arith, c.in_ok-bytes.bytes.ok, c.len.ensures, c.if-len-gt41.false) in
    let size : length c.fresh_file-fresh.result ≡ 41 = ap length c.fresh_file-fresh.ensures ∙ length-fresh c.args.digest.now width in
    leaves3 (laws g) c.args.digest.now c.args.disk.now c.sync.new.self c.sync.ensures.images c.sync.ensures.time c.read_all.new.disk c.read_all.ensures.any_moment c.in_ok-sync.ensures.durable c.read_all.ensures.images c.sync.ensures.same c.read_all.ensures.same c.in_ok-bytes.bytes.items c.in_ok-bytes.ensures.read few width c.write_at.new.self (subst (λ n. Follows (Torn 0 n) (g.D.Disk.images c.read_all.new.disk) (g.D.Disk.images c.write_at.new.self)) size c.write_at.ensures.images) c.write_at.ensures.time

pub returns-in_err-sync-2-clause-any_moment : goal.returns-in_err-sync-2-clause-any_moment
returns-in_err-sync-2-clause-any_moment g c =
    let width : length c.args.digest.now ≡ 32 = search rules in
    let few : length c.in_ok-bytes.bytes.items ≤ 41 = omega (arith, c.in_ok-bytes.bytes.ok, c.len.ensures, c.if-len-gt41.false) in
    let size : length c.fresh_file-fresh.result ≡ 41 = ap length c.fresh_file-fresh.ensures ∙ length-fresh c.args.digest.now width in
    leaves4 (laws g) c.args.digest.now c.args.disk.now c.sync.new.self c.sync.ensures.images c.sync.ensures.time c.read_all.new.disk c.read_all.ensures.any_moment c.in_ok-sync.ensures.durable c.read_all.ensures.images c.sync.ensures.same c.read_all.ensures.same c.in_ok-bytes.bytes.items c.in_ok-bytes.ensures.read few width c.write_at.new.self (subst (λ n. Follows (Torn 0 n) (g.D.Disk.images c.read_all.new.disk) (g.D.Disk.images c.write_at.new.self)) size c.write_at.ensures.images) c.write_at.ensures.time c.sync-2.new.self c.sync-2.ensures.images c.sync-2.ensures.time

pub returns-clause-any_moment : goal.returns-clause-any_moment
returns-clause-any_moment g c =
    let width : length c.args.digest.now ≡ 32 = search rules in
    let few : length c.in_ok-bytes.bytes.items ≤ 41 = omega (arith, c.in_ok-bytes.bytes.ok, c.len.ensures, c.if-len-gt41.false) in
    let size : length c.fresh_file-fresh.result ≡ 41 = ap length c.fresh_file-fresh.ensures ∙ length-fresh c.args.digest.now width in
    leaves4 (laws g) c.args.digest.now c.args.disk.now c.sync.new.self c.sync.ensures.images c.sync.ensures.time c.read_all.new.disk c.read_all.ensures.any_moment c.in_ok-sync.ensures.durable c.read_all.ensures.images c.sync.ensures.same c.read_all.ensures.same c.in_ok-bytes.bytes.items c.in_ok-bytes.ensures.read few width c.write_at.new.self (subst (λ n. Follows (Torn 0 n) (g.D.Disk.images c.read_all.new.disk) (g.D.Disk.images c.write_at.new.self)) size c.write_at.ensures.images) c.write_at.ensures.time c.sync-2.new.self c.sync-2.ensures.images c.sync-2.ensures.time

pub returns-then-eq-clause-held : goal.returns-then-eq-clause-held
returns-then-eq-clause-held g c =
    let width : length c.args.digest.now ≡ 32 = search rules in
    let few : length c.in_ok-bytes.bytes.items ≤ 41 = omega (arith, c.in_ok-bytes.bytes.ok, c.len.ensures, c.if-len-gt41.false) in
    let size : length c.fresh_file-fresh.result ≡ 41 = ap length c.fresh_file-fresh.ensures ∙ length-fresh c.args.digest.now width in
    let same : c.as_slice.result.now ≡ c.as_slice-2.result.now = (bytes_eq-Decides c.as_slice.result.now c.as_slice-2.result.now).0 (sym c.eq.ensures ∙ c.if-eq.true) in
    let is : c.in_ok-bytes.bytes.items ≡ fresh c.args.digest.now = sym c.as_slice.ensures.value ∙ same ∙ c.as_slice-2.ensures ∙ c.fresh_file-fresh.ensures in
    let none : contents c.new.result.items ≡ [] = ap contents c.new.ensures.items in
    subst (λ l. IfSome (g.D.Disk.now c.read_all.new.disk) (λ file. IsHeld c.args.digest.now 40 l file (g.D.Disk.images c.read_all.new.disk))) (sym none) (held2 (laws g) c.args.digest.now c.args.disk.now c.sync.new.self c.sync.ensures.images c.sync.ensures.time c.read_all.new.disk c.read_all.ensures.any_moment c.in_ok-sync.ensures.durable c.read_all.ensures.images c.sync.ensures.same c.read_all.ensures.same c.in_ok-bytes.bytes.items c.in_ok-bytes.ensures.read 40 [] (fresh_at_rest c.args.digest.now c.in_ok-bytes.bytes.items width is))

pub returns-clause-held : goal.returns-clause-held
returns-clause-held g c =
    let width : length c.args.digest.now ≡ 32 = search rules in
    let few : length c.in_ok-bytes.bytes.items ≤ 41 = omega (arith, c.in_ok-bytes.bytes.ok, c.len.ensures, c.if-len-gt41.false) in
    let size : length c.fresh_file-fresh.result ≡ 41 = ap length c.fresh_file-fresh.ensures ∙ length-fresh c.args.digest.now width in
    let none : contents c.new-2.result.items ≡ [] = ap contents c.new-2.ensures.items in
    let wrote : g.D.Disk.now c.write_at.new.self ≡ option_map (written 0 (fresh c.args.digest.now)) (g.D.Disk.now c.read_all.new.disk) = subst (λ h. g.D.Disk.now c.write_at.new.self ≡ option_map (written 0 h) (g.D.Disk.now c.read_all.new.disk)) c.fresh_file-fresh.ensures c.in_ok-write_at.ensures.written in
    subst (λ l. IfSome (g.D.Disk.now c.sync-2.new.self) (λ file. IsHeld c.args.digest.now 40 l file (g.D.Disk.images c.sync-2.new.self))) (sym none) (held4 (laws g) c.args.digest.now c.args.disk.now c.sync.new.self c.sync.ensures.images c.sync.ensures.time c.read_all.new.disk c.read_all.ensures.any_moment c.in_ok-sync.ensures.durable c.read_all.ensures.images c.sync.ensures.same c.read_all.ensures.same c.in_ok-bytes.bytes.items c.in_ok-bytes.ensures.read few width c.write_at.new.self (subst (λ n. Follows (Torn 0 n) (g.D.Disk.images c.read_all.new.disk) (g.D.Disk.images c.write_at.new.self)) size c.write_at.ensures.images) c.write_at.ensures.time c.sync-2.new.self c.sync-2.ensures.images c.sync-2.ensures.time wrote c.sync-2.ensures.same c.in_ok-sync-2.ensures.durable)

pub returns-clause-file : goal.returns-clause-file
returns-clause-file g c =
    let width : length c.args.digest.now ≡ 32 = search rules in
    let few : length c.in_ok-bytes.bytes.items ≤ 41 = omega (arith, c.in_ok-bytes.bytes.ok, c.len.ensures, c.if-len-gt41.false) in
    let size : length c.fresh_file-fresh.result ≡ 41 = ap length c.fresh_file-fresh.ensures ∙ length-fresh c.args.digest.now width in
    let wrote : g.D.Disk.now c.write_at.new.self ≡ option_map (written 0 (fresh c.args.digest.now)) (g.D.Disk.now c.read_all.new.disk) = subst (λ h. g.D.Disk.now c.write_at.new.self ≡ option_map (written 0 h) (g.D.Disk.now c.read_all.new.disk)) c.fresh_file-fresh.ensures c.in_ok-write_at.ensures.written in
    file4 (laws g) c.args.digest.now c.args.disk.now c.sync.new.self c.sync.ensures.images c.sync.ensures.time c.read_all.new.disk c.read_all.ensures.any_moment c.in_ok-sync.ensures.durable c.read_all.ensures.images c.sync.ensures.same c.read_all.ensures.same c.in_ok-bytes.bytes.items c.in_ok-bytes.ensures.read few width c.write_at.new.self (subst (λ n. Follows (Torn 0 n) (g.D.Disk.images c.read_all.new.disk) (g.D.Disk.images c.write_at.new.self)) size c.write_at.ensures.images) c.write_at.ensures.time c.sync-2.new.self c.sync-2.ensures.images c.sync-2.ensures.time wrote c.sync-2.ensures.same

pub returns-in_err-sync-clause-retained : goal.returns-in_err-sync-clause-retained
returns-in_err-sync-clause-retained g c =
    retained1 (laws g) c.args.digest.now c.args.disk.now c.sync.new.self c.sync.ensures.images c.sync.ensures.time g.D.Disk.images_at g.met.D.Disk.images_at_now c.sync.ensures.passes

pub returns-in_err-sync-clause-past : goal.returns-in_err-sync-clause-past
returns-in_err-sync-clause-past g c = c.sync.ensures.passes.past

pub returns-in_err-bytes-clause-retained : goal.returns-in_err-bytes-clause-retained
returns-in_err-bytes-clause-retained g c =
    retained2 (laws g) c.args.digest.now c.args.disk.now c.sync.new.self c.sync.ensures.images c.sync.ensures.time c.read_all.new.disk c.read_all.ensures.any_moment g.D.Disk.images_at g.met.D.Disk.images_at_now c.sync.ensures.passes c.read_all.ensures.passes c.read_all.ensures.images

pub returns-in_err-bytes-clause-past : goal.returns-in_err-bytes-clause-past
returns-in_err-bytes-clause-past g c = past_then g.D.Disk.moment g.D.Disk.images_at c.args.disk.now c.sync.new.self c.read_all.new.disk (omega (arith, c.sync.ensures.time.later)) (c.sync.ensures.passes.past) c.read_all.ensures.passes.past

pub returns-then-len-gt41-clause-retained : goal.returns-then-len-gt41-clause-retained
returns-then-len-gt41-clause-retained g c =
    retained2 (laws g) c.args.digest.now c.args.disk.now c.sync.new.self c.sync.ensures.images c.sync.ensures.time c.read_all.new.disk c.read_all.ensures.any_moment g.D.Disk.images_at g.met.D.Disk.images_at_now c.sync.ensures.passes c.read_all.ensures.passes c.read_all.ensures.images

pub returns-then-len-gt41-clause-past : goal.returns-then-len-gt41-clause-past
returns-then-len-gt41-clause-past g c = past_then g.D.Disk.moment g.D.Disk.images_at c.args.disk.now c.sync.new.self c.read_all.new.disk (omega (arith, c.sync.ensures.time.later)) (c.sync.ensures.passes.past) c.read_all.ensures.passes.past

pub returns-then-eq-clause-retained : goal.returns-then-eq-clause-retained
returns-then-eq-clause-retained g c =
    retained2 (laws g) c.args.digest.now c.args.disk.now c.sync.new.self c.sync.ensures.images c.sync.ensures.time c.read_all.new.disk c.read_all.ensures.any_moment g.D.Disk.images_at g.met.D.Disk.images_at_now c.sync.ensures.passes c.read_all.ensures.passes c.read_all.ensures.images

pub returns-then-eq-clause-past : goal.returns-then-eq-clause-past
returns-then-eq-clause-past g c = past_then g.D.Disk.moment g.D.Disk.images_at c.args.disk.now c.sync.new.self c.read_all.new.disk (omega (arith, c.sync.ensures.time.later)) (c.sync.ensures.passes.past) c.read_all.ensures.passes.past

pub returns-in_err-write_at-clause-retained : goal.returns-in_err-write_at-clause-retained
returns-in_err-write_at-clause-retained g c =
    let width : length c.args.digest.now ≡ 32 = search rules in
    let few : length c.in_ok-bytes.bytes.items ≤ 41 = omega (arith, c.in_ok-bytes.bytes.ok, c.len.ensures, c.if-len-gt41.false) in
    let size : length c.fresh_file-fresh.result ≡ 41 = ap length c.fresh_file-fresh.ensures ∙ length-fresh c.args.digest.now width in
    retained3 (laws g) c.args.digest.now c.args.disk.now c.sync.new.self c.sync.ensures.images c.sync.ensures.time c.read_all.new.disk c.read_all.ensures.any_moment c.in_ok-sync.ensures.durable c.read_all.ensures.images c.sync.ensures.same c.read_all.ensures.same c.in_ok-bytes.bytes.items c.in_ok-bytes.ensures.read few width c.write_at.new.self (subst (λ n. Follows (Torn 0 n) (g.D.Disk.images c.read_all.new.disk) (g.D.Disk.images c.write_at.new.self)) size c.write_at.ensures.images) c.write_at.ensures.time g.D.Disk.images_at g.met.D.Disk.images_at_now c.sync.ensures.passes c.read_all.ensures.passes c.write_at.ensures.passes

pub returns-in_err-write_at-clause-past : goal.returns-in_err-write_at-clause-past
returns-in_err-write_at-clause-past g c = past_then g.D.Disk.moment g.D.Disk.images_at c.args.disk.now c.read_all.new.disk c.write_at.new.self (omega (arith, c.sync.ensures.time.later, c.read_all.ensures.any_moment.later)) (past_then g.D.Disk.moment g.D.Disk.images_at c.args.disk.now c.sync.new.self c.read_all.new.disk (omega (arith, c.sync.ensures.time.later)) (c.sync.ensures.passes.past) c.read_all.ensures.passes.past) c.write_at.ensures.passes.past

pub returns-in_err-sync-2-clause-retained : goal.returns-in_err-sync-2-clause-retained
returns-in_err-sync-2-clause-retained g c =
    let width : length c.args.digest.now ≡ 32 = search rules in
    let few : length c.in_ok-bytes.bytes.items ≤ 41 = omega (arith, c.in_ok-bytes.bytes.ok, c.len.ensures, c.if-len-gt41.false) in
    let size : length c.fresh_file-fresh.result ≡ 41 = ap length c.fresh_file-fresh.ensures ∙ length-fresh c.args.digest.now width in
    retained4 (laws g) c.args.digest.now c.args.disk.now c.sync.new.self c.sync.ensures.images c.sync.ensures.time c.read_all.new.disk c.read_all.ensures.any_moment c.in_ok-sync.ensures.durable c.read_all.ensures.images c.sync.ensures.same c.read_all.ensures.same c.in_ok-bytes.bytes.items c.in_ok-bytes.ensures.read few width c.write_at.new.self (subst (λ n. Follows (Torn 0 n) (g.D.Disk.images c.read_all.new.disk) (g.D.Disk.images c.write_at.new.self)) size c.write_at.ensures.images) c.write_at.ensures.time c.sync-2.new.self c.sync-2.ensures.images c.sync-2.ensures.time g.D.Disk.images_at g.met.D.Disk.images_at_now c.sync.ensures.passes c.read_all.ensures.passes c.write_at.ensures.passes c.sync-2.ensures.passes

pub returns-in_err-sync-2-clause-past : goal.returns-in_err-sync-2-clause-past
returns-in_err-sync-2-clause-past g c = past_then g.D.Disk.moment g.D.Disk.images_at c.args.disk.now c.write_at.new.self c.sync-2.new.self (omega (arith, c.sync.ensures.time.later, c.read_all.ensures.any_moment.later, c.write_at.ensures.time.later)) (past_then g.D.Disk.moment g.D.Disk.images_at c.args.disk.now c.read_all.new.disk c.write_at.new.self (omega (arith, c.sync.ensures.time.later, c.read_all.ensures.any_moment.later)) (past_then g.D.Disk.moment g.D.Disk.images_at c.args.disk.now c.sync.new.self c.read_all.new.disk (omega (arith, c.sync.ensures.time.later)) (c.sync.ensures.passes.past) c.read_all.ensures.passes.past) c.write_at.ensures.passes.past) c.sync-2.ensures.passes.past

pub returns-clause-retained : goal.returns-clause-retained
returns-clause-retained g c =
    let width : length c.args.digest.now ≡ 32 = search rules in
    let few : length c.in_ok-bytes.bytes.items ≤ 41 = omega (arith, c.in_ok-bytes.bytes.ok, c.len.ensures, c.if-len-gt41.false) in
    let size : length c.fresh_file-fresh.result ≡ 41 = ap length c.fresh_file-fresh.ensures ∙ length-fresh c.args.digest.now width in
    retained4 (laws g) c.args.digest.now c.args.disk.now c.sync.new.self c.sync.ensures.images c.sync.ensures.time c.read_all.new.disk c.read_all.ensures.any_moment c.in_ok-sync.ensures.durable c.read_all.ensures.images c.sync.ensures.same c.read_all.ensures.same c.in_ok-bytes.bytes.items c.in_ok-bytes.ensures.read few width c.write_at.new.self (subst (λ n. Follows (Torn 0 n) (g.D.Disk.images c.read_all.new.disk) (g.D.Disk.images c.write_at.new.self)) size c.write_at.ensures.images) c.write_at.ensures.time c.sync-2.new.self c.sync-2.ensures.images c.sync-2.ensures.time g.D.Disk.images_at g.met.D.Disk.images_at_now c.sync.ensures.passes c.read_all.ensures.passes c.write_at.ensures.passes c.sync-2.ensures.passes

pub returns-clause-past : goal.returns-clause-past
returns-clause-past g c = past_then g.D.Disk.moment g.D.Disk.images_at c.args.disk.now c.write_at.new.self c.sync-2.new.self (omega (arith, c.sync.ensures.time.later, c.read_all.ensures.any_moment.later, c.write_at.ensures.time.later)) (past_then g.D.Disk.moment g.D.Disk.images_at c.args.disk.now c.read_all.new.disk c.write_at.new.self (omega (arith, c.sync.ensures.time.later, c.read_all.ensures.any_moment.later)) (past_then g.D.Disk.moment g.D.Disk.images_at c.args.disk.now c.sync.new.self c.read_all.new.disk (omega (arith, c.sync.ensures.time.later)) (c.sync.ensures.passes.past) c.read_all.ensures.passes.past) c.write_at.ensures.passes.past) c.sync-2.ensures.passes.past

pub returns-in_err-sync-clause-any_moment : goal.returns-in_err-sync-clause-any_moment
returns-in_err-sync-clause-any_moment g c = leaves1_told (laws g) c.args.digest.now c.args.disk.now c.sync.new.self c.sync.ensures.images c.sync.ensures.time

pub returns-in_err-bytes-clause-any_moment : goal.returns-in_err-bytes-clause-any_moment
returns-in_err-bytes-clause-any_moment g c = leaves2_told (laws g) c.args.digest.now c.args.disk.now c.sync.new.self c.sync.ensures.images c.sync.ensures.time c.read_all.new.disk c.read_all.ensures.any_moment

whatever : {T E : Type 0} (r : Result T E) (P : Type 0) → P → OnOk r P
whatever (Ok value) P p = p
whatever (Err e) P p = tt

pub returns-then-len-gt41-clause-left_alone : goal.returns-then-len-gt41-clause-left_alone
returns-then-len-gt41-clause-left_alone g c =
    whatever c.read_records.result _ (where_some (g.D.Disk.now c.args.disk.now) (λ file. opened c.args.digest.now file ≡ file → LeavesOnly g.D.Disk.moment g.D.Disk.since c.args.disk.now c.read_all.new.disk (g.D.Disk.images c.args.disk.now)) (λ _ _ _. alone2 (laws g) c.args.digest.now c.args.disk.now c.sync.new.self c.sync.ensures.images c.sync.ensures.time c.read_all.new.disk c.read_all.ensures.any_moment))

pub returns-in_err-write_at-clause-time : goal.returns-in_err-write_at-clause-time
returns-in_err-write_at-clause-time g c = timed3 (laws g) c.args.digest.now c.args.disk.now c.sync.new.self c.sync.ensures.images c.sync.ensures.time c.read_all.new.disk c.read_all.ensures.any_moment c.write_at.new.self c.write_at.ensures.time

pub returns-in_err-sync-2-clause-time : goal.returns-in_err-sync-2-clause-time
returns-in_err-sync-2-clause-time g c = timed4 (laws g) c.args.digest.now c.args.disk.now c.sync.new.self c.sync.ensures.images c.sync.ensures.time c.read_all.new.disk c.read_all.ensures.any_moment c.write_at.new.self c.sync-2.new.self c.write_at.ensures.time c.sync-2.ensures.time

pub returns-clause-time : goal.returns-clause-time
returns-clause-time g c = timed4 (laws g) c.args.digest.now c.args.disk.now c.sync.new.self c.sync.ensures.images c.sync.ensures.time c.read_all.new.disk c.read_all.ensures.any_moment c.write_at.new.self c.sync-2.new.self c.write_at.ensures.time c.sync-2.ensures.time

pub returns-clause-left_alone : goal.returns-clause-left_alone
returns-clause-left_alone g c =
    let few : length c.in_ok-bytes.bytes.items ≤ 41 = omega (arith, c.in_ok-bytes.bytes.ok, c.len.ensures, c.if-len-gt41.false) in
    where_some (g.D.Disk.now c.args.disk.now) _ (λ file here alone.
    let is : c.in_ok-bytes.bytes.items ≡ file = at_told (g.D.Disk.now c.sync.new.self) (λ f. c.in_ok-bytes.bytes.items ≡ f) file (c.sync.ensures.same ∙ here) c.in_ok-bytes.ensures.read in
    let short : length file ≤ 41 = omega (arith, few, ap length is) in
    let same : c.as_slice.result.now ≡ c.as_slice-2.result.now = c.as_slice.ensures.value ∙ is ∙ sym alone ∙ opened_few c.args.digest.now file short ∙ sym c.fresh_file-fresh.ensures ∙ sym c.as_slice-2.ensures in
    let yes = (bytes_eq-Decides c.as_slice.result.now c.as_slice-2.result.now).1 same in
    let test = c.eq.ensures in
    let no = c.if-eq.false in
    absurd (cc))
