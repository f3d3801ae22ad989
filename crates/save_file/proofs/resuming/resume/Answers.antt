use Rattle.std.proofs.Common.{rules, ◌≡◌, ◌≤◌, List, length, Result, Ok, Err, sym, ◌∙◌, ap, subst, arith}
use Rattle.std.specs.Prelude.{ℕ, IfSome}
use Rattle.std.proofs.lemmas.Bool.{false≢true}
use Rattle.std.proofs.lemmas.List.{length-map}
use Rattle.sha2.specs.Sha256.{sha256}
use Rattle.edge.specs.Disk.{LeavesOnly}
use Rattle.edge.proofs.Moments.{Lawful}
use Rattle.square.specs.Squares.{over}
use Rattle.save_journal.specs.Records.{opened}
use Rattle.save_journal.specs.declared.fault.OpenFault.TheVariants.{Failed as DiskFailed, Memory as OpenMemory}
use Rattle.save_journal.specs.Journals.{HasRecordsOf, HaveSameRecords, ComeFromEarlier, contents}
use Rattle.save_file.specs.Bodies.{Kept}
use Rattle.save_file.specs.Reading.{kept_from, kept_of_bodies}
use Rattle.save_file.specs.Saved.{kept_of_table}
use Rattle.save_file.specs.Files.{opening_refusal, digest_of}
use Rattle.save_file.proofs.Adding.{anyway}
use Rattle.save_file.proofs.TakenUp.{IsOpened, is_opened, stands, stands_for, as_was, not_written, takes, kept, quasis, keeper, from_none, refused, failed, not_open, strange, strange_not_open, not_called, untouched, not_moved, nothing_lost}
use Rattle.save_file.proofs.resuming.resume.Given.{Over}
use Rattle.save_file.proofs.resuming.resume.Goals.{After-open, After-read_bodies}
use Rattle.save_file.proofs.resuming.resume.Goals as goal

laws : (g : Over) → Lawful g.D.Disk.now g.D.Disk.moment g.D.Disk.images g.D.Disk.since
laws g = record {
  now_is_image = g.met.D.Disk.now_is_image;
  counts_now = g.met.D.Disk.counts_now;
  only_now = g.met.D.Disk.only_now;
  since_earlier = g.met.D.Disk.since_earlier;
}

named : (g : Over) (c : After-open g) → c.digest-digest.result ≡ digest_of c.args.module.plain
named g c = c.digest-digest.ensures ∙ ap sha256 (c.as_slice.ensures.value ∙ c.in-Ok.ensures.text)

opened_here : (g : Over) (c : After-read_bodies g) → IsOpened g.D.Disk.now g.D.Disk.images c.args.module c.args.disk c.in-Ok-open.opened.0 (contents c.in-Ok-open.opened.1.items)
opened_here g c =
    let width : length c.digest-digest.result ≡ 32 = search rules in
    let few : length (contents c.in-Ok-open.opened.1.items) ≤ c.in-Ok-open.opened.0.end = omega (arith, length-map c.in-Ok-open.opened.1.items (λ v. v.items), c.in-Ok-open.ensures.count) in
    is_opened g.D.Disk.now g.D.Disk.images c.args.module c.args.disk c.in-Ok-open.opened.0 c.digest-digest.result (contents c.in-Ok-open.opened.1.items) (c.digest-digest.ensures ∙ ap sha256 (c.as_slice.ensures.value ∙ c.in-Ok.ensures.text)) width
    c.in-Ok-open.ensures.live c.in-Ok-open.ensures.digest few c.in-Ok-open.ensures.file c.in-Ok-open.ensures.bodies

-- what was read behind the empty table
kept_here : (g : Over) (c : After-read_bodies g) (r : Result (List Kept) ℕ) → kept_from (over c.in-Ok.table.resolved) (kept_of_table c.in-Ok.table) 0 (contents c.in-Ok-open.opened.1.items) ≡ r → kept_of_bodies (over c.args.module) (contents c.in-Ok-open.opened.1.items) ≡ r
kept_here g c r e =
    from_none c.args.module (contents c.in-Ok-open.opened.1.items) r c.in-Ok.table c.in-Ok.ensures.resolved c.in-Ok.ensures.start e

-- an opening that leaves the file as it is writes nothing
alone_here : (g : Over) (c : After-read_bodies g) → IfSome (g.D.Disk.now c.args.disk) (λ file. opened (digest_of c.args.module.plain) file ≡ file → LeavesOnly g.D.Disk.moment g.D.Disk.since c.args.disk c.in-Ok-open.opened.0.disk (g.D.Disk.images c.args.disk))
alone_here g c =
    subst (λ d. IfSome (g.D.Disk.now c.args.disk) (λ file. opened d file ≡ file → LeavesOnly g.D.Disk.moment g.D.Disk.since c.args.disk c.in-Ok-open.opened.0.disk (g.D.Disk.images c.args.disk))) (c.digest-digest.ensures ∙ ap sha256 (c.as_slice.ensures.value ∙ c.in-Ok.ensures.text)) c.in-Ok-open.ensures.left_alone

-- ---- before the disk got a call

pub returns-in_default-clause-any_moment : goal.returns-in_default-clause-any_moment
returns-in_default-clause-any_moment g c = not_called g.D.Disk.now g.D.Disk.moment g.D.Disk.images g.D.Disk.since (laws g) (digest_of c.args.module.plain) c.args.disk

pub returns-in_default-clause-unwritten : goal.returns-in_default-clause-unwritten
returns-in_default-clause-unwritten g c = λ _. untouched g.D.Disk.now g.D.Disk.moment g.D.Disk.images g.D.Disk.since (laws g) c.args.disk

-- ---- a file that was not opened

pub returns-in-Err-clause-refused : goal.returns-in-Err-clause-refused
returns-in-Err-clause-refused g c = refused c.args.module c.digest-digest.result c.in-Err.fault c.from.result (g.D.Disk.now c.args.disk) c.from.ensures (named g (goal.at.returns-in-Err-clause-refused g c).After-open) c.in-Err.ensures.refused

pub returns-in-Err-clause-memory : goal.returns-in-Err-clause-memory
returns-in-Err-clause-memory g c = λ e. not_open c.in-Err.fault (sym c.from.ensures ∙ e)

pub returns-in-Err-clause-same : goal.returns-in-Err-clause-same
returns-in-Err-clause-same g c = λ other. c.in-Err.ensures.same (λ e. other (c.from.ensures ∙ ap opening_refusal e))

pub returns-in-Err-clause-unwritten : goal.returns-in-Err-clause-unwritten
returns-in-Err-clause-unwritten g c = λ other. anyway (g.D.Disk.now c.args.disk) _ (c.in-Err.ensures.unwritten (λ e. other (c.from.ensures ∙ ap opening_refusal e)))

pub returns-in-Err-clause-any_moment : goal.returns-in-Err-clause-any_moment
returns-in-Err-clause-any_moment g c =
    subst (λ d. IfSome (g.D.Disk.now c.args.disk) (λ _. LeavesOnly g.D.Disk.moment g.D.Disk.since c.args.disk c.in-Err.disk (HasRecordsOf d (g.D.Disk.images c.args.disk)))) (named g (goal.at.returns-in-Err-clause-any_moment g c).After-open) c.in-Err.ensures.any_moment

pub returns-in-Err-clause-cause : goal.returns-in-Err-clause-cause
returns-in-Err-clause-cause g c = λ e. c.in-Err.ensures.cause (failed c.in-Err.fault (sym c.from.ensures ∙ e))

-- ---- a file with a strange body

pub returns-in-Err-read_bodies-clause-refused : goal.returns-in-Err-read_bodies-clause-refused
returns-in-Err-read_bodies-clause-refused g c =
    let at = (goal.at.returns-in-Err-read_bodies-clause-refused g c).After-read_bodies in
    strange c.args.module c.in-Err-read_bodies.fault (g.D.Disk.now c.args.disk) (contents c.in-Ok-open.opened.1.items) _ _ c.in-Err-read_bodies.ensures.refused (λ n is.
    stands g.D.Disk.now g.D.Disk.images c.args.module c.args.disk c.in-Ok-open.opened.0 (contents c.in-Ok-open.opened.1.items) (opened_here g at) (Err n) (kept_here g at (Err n) is))

pub returns-in-Err-read_bodies-clause-memory : goal.returns-in-Err-read_bodies-clause-memory
returns-in-Err-read_bodies-clause-memory g c = strange_not_open c.in-Err-read_bodies.fault (contents c.in-Ok-open.opened.1.items) _ _ OpenMemory c.in-Err-read_bodies.ensures.refused

pub returns-in-Err-read_bodies-clause-cause : goal.returns-in-Err-read_bodies-clause-cause
returns-in-Err-read_bodies-clause-cause g c = λ is. absurd (strange_not_open c.in-Err-read_bodies.fault (contents c.in-Ok-open.opened.1.items) _ _ DiskFailed c.in-Err-read_bodies.ensures.refused is)

pub read_bodies-requires-clause-places : goal.read_bodies-requires-clause-places
read_bodies-requires-clause-places g c = omega (arith, c.in-Ok-open.ensures.end, c.in-Ok-open.ensures.live.limit)

pub returns-in-Err-read_bodies-clause-same : goal.returns-in-Err-read_bodies-clause-same
returns-in-Err-read_bodies-clause-same g c = λ _.
    ap g.D.Disk.now c.into_disk.ensures
    ∙ as_was g.D.Disk.now g.D.Disk.images c.args.module c.args.disk c.in-Ok-open.opened.0 (contents c.in-Ok-open.opened.1.items) (opened_here g (goal.at.returns-in-Err-read_bodies-clause-same g c).After-read_bodies) (λ none. absurd (false≢true (c.in-Err-read_bodies.ensures.none none)))

pub returns-in-Err-read_bodies-clause-unwritten : goal.returns-in-Err-read_bodies-clause-unwritten
returns-in-Err-read_bodies-clause-unwritten g c = λ _.
    let at = (goal.at.returns-in-Err-read_bodies-clause-unwritten g c).After-read_bodies in
    subst (λ d. IfSome (g.D.Disk.now c.args.disk) (λ _. LeavesOnly g.D.Disk.moment g.D.Disk.since c.args.disk d (g.D.Disk.images c.args.disk))) (sym c.into_disk.ensures)
    (not_written g.D.Disk.now g.D.Disk.images c.args.module c.args.disk c.in-Ok-open.opened.0 (contents c.in-Ok-open.opened.1.items) (opened_here g at) (λ none. absurd (false≢true (c.in-Err-read_bodies.ensures.none none)))
    (LeavesOnly g.D.Disk.moment g.D.Disk.since c.args.disk c.in-Ok-open.opened.0.disk (g.D.Disk.images c.args.disk)) (alone_here g at))

-- ---- a file that was taken up

pub returns-in-Ok-read_bodies-clause-squares : goal.returns-in-Ok-read_bodies-clause-squares
returns-in-Ok-read_bodies-clause-squares g c =
    let at = (goal.at.returns-in-Ok-read_bodies-clause-squares g c).After-read_bodies in
    stands_for g.D.Disk.now g.D.Disk.images c.args.module c.args.disk c.in-Ok-open.opened.0 (contents c.in-Ok-open.opened.1.items) (opened_here g at) c.read_bodies.new.table (kept_here g at (Ok (kept_of_table c.read_bodies.new.table)) c.in-Ok-read_bodies.ensures.read)

pub returns-in-Ok-read_bodies-clause-live : goal.returns-in-Ok-read_bodies-clause-live
returns-in-Ok-read_bodies-clause-live g c =
    let at = (goal.at.returns-in-Ok-read_bodies-clause-live g c).After-read_bodies in
    takes g.D.Disk.now g.D.Disk.images c.args.module c.args.disk c.in-Ok-open.opened.0 (contents c.in-Ok-open.opened.1.items) (opened_here g at) c.read_bodies.new.table c.of-opened.result.value c.len-count.result c.of-opened.ensures
    (omega (arith, length-map c.in-Ok-open.opened.1.items (λ v. v.items), c.len-count.ensures, c.in-Ok-open.opened.1.ok)) (c.read_bodies.ensures.resolved ∙ c.in-Ok.ensures.resolved) (kept_here g at (Ok (kept_of_table c.read_bodies.new.table)) c.in-Ok-read_bodies.ensures.read) c.in-Ok-read_bodies.ensures.is_table c.read_bodies.ensures.all_read

pub returns-in-Ok-read_bodies-clause-keeper : goal.returns-in-Ok-read_bodies-clause-keeper
returns-in-Ok-read_bodies-clause-keeper g c =
    let at = (goal.at.returns-in-Ok-read_bodies-clause-keeper g c).After-read_bodies in
    keeper g.D.Disk.now g.D.Disk.images c.args.module c.args.disk c.in-Ok-open.opened.0 (contents c.in-Ok-open.opened.1.items) (opened_here g at) c.read_bodies.new.table c.of-opened.result.value c.len-count.result c.of-opened.ensures
    (omega (arith, length-map c.in-Ok-open.opened.1.items (λ v. v.items), c.len-count.ensures, c.in-Ok-open.opened.1.ok)) (c.read_bodies.ensures.resolved ∙ c.in-Ok.ensures.resolved) (kept_here g at (Ok (kept_of_table c.read_bodies.new.table)) c.in-Ok-read_bodies.ensures.read) c.in-Ok-read_bodies.ensures.is_table c.read_bodies.ensures.all_read
    g.D.Disk.moment g.D.Disk.images_at g.D.Disk.since g.D.Disk.faults

pub returns-in-Ok-read_bodies-clause-kept : goal.returns-in-Ok-read_bodies-clause-kept
returns-in-Ok-read_bodies-clause-kept g c =
    let at = (goal.at.returns-in-Ok-read_bodies-clause-kept g c).After-read_bodies in
    kept g.D.Disk.now g.D.Disk.images c.args.module c.args.disk c.in-Ok-open.opened.0 (contents c.in-Ok-open.opened.1.items) (opened_here g at) c.read_bodies.new.table c.of-opened.result.value c.len-count.result c.of-opened.ensures
    (omega (arith, length-map c.in-Ok-open.opened.1.items (λ v. v.items), c.len-count.ensures, c.in-Ok-open.opened.1.ok)) (c.read_bodies.ensures.resolved ∙ c.in-Ok.ensures.resolved) (kept_here g at (Ok (kept_of_table c.read_bodies.new.table)) c.in-Ok-read_bodies.ensures.read) c.in-Ok-read_bodies.ensures.is_table c.read_bodies.ensures.all_read

pub returns-in-Ok-read_bodies-clause-quasis : goal.returns-in-Ok-read_bodies-clause-quasis
returns-in-Ok-read_bodies-clause-quasis g c =
    let at = (goal.at.returns-in-Ok-read_bodies-clause-quasis g c).After-read_bodies in
    quasis g.D.Disk.now g.D.Disk.images c.args.module c.args.disk c.in-Ok-open.opened.0 (contents c.in-Ok-open.opened.1.items) (opened_here g at) c.read_bodies.new.table c.of-opened.result.value c.len-count.result c.of-opened.ensures
    (omega (arith, length-map c.in-Ok-open.opened.1.items (λ v. v.items), c.len-count.ensures, c.in-Ok-open.opened.1.ok)) (c.read_bodies.ensures.resolved ∙ c.in-Ok.ensures.resolved) (kept_here g at (Ok (kept_of_table c.read_bodies.new.table)) c.in-Ok-read_bodies.ensures.read) c.in-Ok-read_bodies.ensures.is_table c.read_bodies.ensures.all_read

pub returns-in-Ok-read_bodies-clause-left_alone : goal.returns-in-Ok-read_bodies-clause-left_alone
returns-in-Ok-read_bodies-clause-left_alone g c = alone_here g (goal.at.returns-in-Ok-read_bodies-clause-left_alone g c).After-read_bodies

-- ---- moments

pub returns-in_default-clause-past : goal.returns-in_default-clause-past
returns-in_default-clause-past g c = not_moved g.D.Disk.moment g.D.Disk.images_at c.args.disk

pub returns-in_default-clause-retained : goal.returns-in_default-clause-retained
returns-in_default-clause-retained g c = nothing_lost g.D.Disk.now g.D.Disk.moment g.D.Disk.images_at (digest_of c.args.module.plain) c.args.disk

pub returns-in-Err-clause-retained : goal.returns-in-Err-clause-retained
returns-in-Err-clause-retained g c =
    subst (λ d. IfSome (g.D.Disk.now c.args.disk) (λ _. ComeFromEarlier g.D.Disk.moment g.D.Disk.images_at c.args.disk c.in-Err.disk (HaveSameRecords d))) (named g (goal.at.returns-in-Err-clause-retained g c).After-open) c.in-Err.ensures.retained

-- what is retained by the opening
retained_here : (g : Over) (c : After-read_bodies g) → IfSome (g.D.Disk.now c.args.disk) (λ _. ComeFromEarlier g.D.Disk.moment g.D.Disk.images_at c.args.disk c.in-Ok-open.opened.0.disk (HaveSameRecords (digest_of c.args.module.plain)))
retained_here g c =
    subst (λ d. IfSome (g.D.Disk.now c.args.disk) (λ _. ComeFromEarlier g.D.Disk.moment g.D.Disk.images_at c.args.disk c.in-Ok-open.opened.0.disk (HaveSameRecords d))) (c.digest-digest.ensures ∙ ap sha256 (c.as_slice.ensures.value ∙ c.in-Ok.ensures.text)) c.in-Ok-open.ensures.retained

pub returns-in-Ok-read_bodies-clause-retained : goal.returns-in-Ok-read_bodies-clause-retained
returns-in-Ok-read_bodies-clause-retained g c = retained_here g (goal.at.returns-in-Ok-read_bodies-clause-retained g c).After-read_bodies

pub returns-in-Err-read_bodies-clause-retained : goal.returns-in-Err-read_bodies-clause-retained
returns-in-Err-read_bodies-clause-retained g c =
    subst (λ d. IfSome (g.D.Disk.now c.args.disk) (λ _. ComeFromEarlier g.D.Disk.moment g.D.Disk.images_at c.args.disk d (HaveSameRecords (digest_of c.args.module.plain)))) (sym c.into_disk.ensures) (retained_here g (goal.at.returns-in-Err-read_bodies-clause-retained g c).After-read_bodies)
