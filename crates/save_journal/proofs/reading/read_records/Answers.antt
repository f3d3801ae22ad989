use Rattle.std.proofs.Common.{rules, ◌≡◌, ℕ, ◌+◌, ◌^◌, ◌<◌, ◌≤◌, [], ◌∷◌, ◌++◌, length, drop, get_or, arith, sym, ◌∙◌, ap, subst}
use Rattle.std.proofs.lemmas.Grind.{common_steps}
use Rattle.sha2.specs.Sha256.{sha256}
use Rattle.std.proofs.lemmas.List.{take_rest, get_or-drop}
use Rattle.std.specs.Prelude.{◌⊎◌, Err}
use Rattle.save_journal.specs.declared.fault.OpenFault.TheVariants.{Memory}
use Rattle.save_journal.specs.Records.{records_from, body_length, body_of, kept_of}
use Rattle.save_journal.specs.Journals.{contents}
use Rattle.std.specs.Prelude.{Vec}
use Rattle.std.specs.declared.alloc.Global.{Global}
use Rattle.std.proofs.lemmas.List.{length-map}
use Rattle.save_journal.proofs.Walk.{few_records}
use Rattle.save_journal.proofs.ReadTo.{IsReadTo, at_header, length-body, one_more, refused_by, records_to, contents_push}
use Rattle.save_journal.proofs.reading.read_records.Goals as goal

pub loop-place-init : goal.loop-place-init
loop-place-init c =
    let nothing : contents c.new-list.result.items ≡ [] = ap contents c.new-list.ensures.items in
    let width : length c.args.digest.now ≡ 32 = search rules in
    subst (λ l. IsReadTo c.args.digest.now c.args.bytes.now l 40) (sym nothing) (at_header c.args.digest.now c.args.bytes.now width c.requires.long c.requires.ours)

pub returns-in-Err-clause-refused : goal.returns-in-Err-clause-refused
returns-in-Err-clause-refused c =
    let gate : get_or c.args.bytes.now c.loop-place.place 0 ≡ 0xA5 = search rules in
    let fits : (k : ℕ) → get_or c.args.bytes.now k 0 < 256 = λ k. search rules in
    let e = take_rest c.args.bytes.now (c.loop-place.place + 1) in
    let count : c.len.result ≡ length (contents c.loop-place.list.items) = grind (arith, common_steps) in
    let refused = subst (λ l. (c.in-Err.fault ≡ Memory) ⊎ (records_from c.len.result c.loop-place.place 0 (0xA5 ∷ l) ≡ Err c.in-Err.fault)) e c.in-Err.ensures.refused in
    let refused_here = subst (λ n. (c.in-Err.fault ≡ Memory) ⊎ (records_from n c.loop-place.place 0 (0xA5 ∷ drop (c.loop-place.place + 1) c.args.bytes.now) ≡ Err c.in-Err.fault)) count refused in
    refused_by c.args.digest.now c.args.bytes.now (contents c.loop-place.list.items) _ c.in-Err.fault (records_to c.args.digest.now c.args.bytes.now (contents c.loop-place.list.items) c.loop-place.place c.loop-place.invariant gate fits c.requires.long) refused_here

pub loop-place-preserved : goal.loop-place-preserved
loop-place-preserved c =
    let bytes = c.args.bytes.now in
    let place = c.loop-place.place in
    let gate : get_or c.args.bytes.now c.loop-place.place 0 ≡ 0xA5 = search rules in
    let fits : (k : ℕ) → get_or c.args.bytes.now k 0 < 256 = λ k. search rules in
    let e = take_rest c.args.bytes.now (c.loop-place.place + 1) in
    let b = drop (c.loop-place.place + 1) c.args.bytes.now in
    let whole : 41 + body_length (drop (c.loop-place.place + 1) c.args.bytes.now) ≤ length (drop (c.loop-place.place + 1) c.args.bytes.now) = subst (λ l. 41 + body_length l ≤ length l) e c.in-Ok.ensures.whole in
    let body : c.in-Ok.body.items ≡ body_of (drop (c.loop-place.place + 1) c.args.bytes.now) = subst (λ l. c.in-Ok.body.items ≡ body_of l) e c.in-Ok.ensures.body in
    let right : sha256 (body_of (drop (c.loop-place.place + 1) c.args.bytes.now)) ≡ kept_of (drop (c.loop-place.place + 1) c.args.bytes.now) = subst (λ l. sha256 (body_of l) ≡ kept_of l) e c.in-Ok.ensures.right in
    let size : length (body_of (drop (c.loop-place.place + 1) c.args.bytes.now)) ≡ body_length (drop (c.loop-place.place + 1) c.args.bytes.now) = length-body (drop (c.loop-place.place + 1) c.args.bytes.now) (λ k. rw (get_or-drop (c.loop-place.place + 1) c.args.bytes.now k 0) (fits (c.loop-place.place + 1 + k))) whole in
    let len : c.len-in-loop-place.result ≡ body_length (drop (c.loop-place.place + 1) c.args.bytes.now) = omega (arith, ap length body, size, c.len-in-loop-place.ensures, c.in-Ok.body.ok) in
    let small : body_length (drop (c.loop-place.place + 1) c.args.bytes.now) < 2 ^ 64 = omega (arith, c.in-Ok.body.small, c.in-Ok.body.ok, ap length body, size) in
    let items : contents c.push.new.self.items ≡ contents c.loop-place.list.items ++ body_of (drop (c.loop-place.place + 1) c.args.bytes.now) ∷ [] =
    ap contents c.in_ok-push.ensures.items ∙ contents_push c.loop-place.list.items c.in-Ok.body ∙ ap (λ x. contents c.loop-place.list.items ++ x ∷ []) body in
    let more = one_more c.args.digest.now c.args.bytes.now (contents c.loop-place.list.items) c.loop-place.place c.loop-place.invariant gate fits whole right small in
    let at_len = subst (λ n. IsReadTo c.args.digest.now c.args.bytes.now (contents c.loop-place.list.items ++ body_of (drop (c.loop-place.place + 1) c.args.bytes.now) ∷ []) (c.loop-place.place + (41 + n))) (sym len) more in
    subst (λ l. IsReadTo c.args.digest.now c.args.bytes.now l (c.loop-place.place + (41 + c.len-in-loop-place.result))) (sym items) at_len

pub returns-clause-count : goal.returns-clause-count
returns-clause-count c =
    let few = few_records (contents c.loop-place.list.items) in
    let same : length (contents c.loop-place.list.items) ≡ length c.loop-place.list.items = length-map c.loop-place.list.items (λ (v : Vec ℕ Global). v.items) in
    omega (arith, few, same, c.loop-place.invariant.at)
