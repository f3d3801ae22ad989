use Rattle.std.proofs.Common.{◌≡◌, ◌+◌, length, get_or, rules, sym, ap, ◌∙◌, arith}
use Rattle.std.proofs.lemmas.List.{length-set}
use Rattle.std.specs.Prelude.{Err}
use Rattle.save_journal.specs.Journals.{contents}
use Rattle.save_file.specs.Saved.{kept_of_table}
use Rattle.save_file.specs.Files.{place_of}
use Rattle.save_file.specs.declared.fault.DecodeFault.{DecodeFault}
use Rattle.save_file.proofs.TakingUp.{goes_on, stops_at, ends_with, refused_at, place_on, rest_on, place_within}
use Rattle.save_file.proofs.resuming.read_bodies.Goals as goal

pub loop-i-preserved : goal.loop-i-preserved
loop-i-preserved c =
    let at : c.replace-body.result ≡ get_or c.loop-i.bodies.items c.loop-i.i c.replace-body.result = search rules in
    let many : length c.loop-i.bodies.items ≡ length c.args.bodies.items = c.loop-i.invariant.as_many in
    record {
      all_read = search rules;
      resolved = search rules;
      as_many = length-set c.loop-i.bodies.items c.loop-i.i c.replace-body.new.dest ∙ many;
      rest = rest_on (contents c.args.bodies.items) c.loop-i.i c.loop-i.bodies.items c.replace-body.new.dest c.loop-i.invariant.rest;
      place = place_on (contents c.args.bodies.items) c.loop-i.i c.loop-i.place c.len.result c.loop-i.bodies.items c.replace-body.result (omega (arith, c.loop-i-test.true)) at (search rules) c.loop-i.invariant.rest c.loop-i.invariant.place;
      left = goes_on c.args.table.now.resolved c.loop-i.table.resolved _ (kept_of_table c.loop-i.table) (kept_of_table c.read_body.new.table) c.loop-i.i c.loop-i.bodies.items c.replace-body.result c.replace-body.new.dest c.as_slice.result.now c.loop-i.invariant.resolved (omega (arith, c.loop-i-test.true)) at c.as_slice.ensures.value c.in-Ok.ensures.read c.loop-i.invariant.left;
    }

pub returns-in-Err-clause-refused : goal.returns-in-Err-clause-refused
returns-in-Err-clause-refused c = refused_at _ _ (contents c.args.bodies.items) c.loop-i.place c.in-Err.fault c.refusal.result c.refusal.ensures (λ n e.
    let at : c.replace-body.result ≡ get_or c.loop-i.bodies.items c.loop-i.i c.replace-body.result = search rules in
    let many : length c.loop-i.bodies.items ≡ length c.args.bodies.items = c.loop-i.invariant.as_many in
    let strange = c.in-Err.ensures.strange n (ap (λ (f : DecodeFault). Err f) e) in (
      stops_at c.args.table.now.resolved c.loop-i.table.resolved _ (kept_of_table c.loop-i.table) c.loop-i.i n c.loop-i.bodies.items c.replace-body.result c.as_slice.result.now c.loop-i.invariant.resolved (omega (arith, c.loop-i-test.true)) at c.as_slice.ensures.value strange c.loop-i.invariant.left,
      c.loop-i.invariant.place ∙ ap (λ k. place_of k (contents c.args.bodies.items)) (sym strange.0),
    ))

pub returns-clause-read : goal.returns-clause-read
returns-clause-read c =
    let many : length c.loop-i.bodies.items ≡ length c.args.bodies.items = c.loop-i.invariant.as_many in
    ends_with c.args.table.now.resolved _ (kept_of_table c.loop-i.table) c.loop-i.i c.loop-i.bodies.items (omega (arith, c.loop-i-test.false)) c.loop-i.invariant.left

pub overflow_add-place-in-Ok : goal.overflow_add-place-in-Ok
overflow_add-place-in-Ok c =
    let at : c.replace-body.result ≡ get_or c.loop-i.bodies.items c.loop-i.i c.replace-body.result = search rules in
    let more : c.loop-i.place + (41 + c.len.result) ≡ place_of (c.loop-i.i + 1) (contents c.args.bodies.items) = place_on (contents c.args.bodies.items) c.loop-i.i c.loop-i.place c.len.result c.loop-i.bodies.items c.replace-body.result (omega (arith, c.loop-i-test.true)) at (search rules) c.loop-i.invariant.rest c.loop-i.invariant.place in
    omega (arith, more, place_within (c.loop-i.i + 1) (contents c.args.bodies.items), c.requires.places)
