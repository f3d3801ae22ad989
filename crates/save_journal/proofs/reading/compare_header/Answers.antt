use Rattle.std.proofs.Common.{rules, ◌≡◌, ◌≢◌, ℕ, List, ◌++◌, length, take, drop, sym, ◌∙◌, ap, arith}
use Rattle.std.proofs.Math.Seq.{take-add}
use Rattle.std.proofs.lemmas.List.{take-take, drop-take, take_all}
use Rattle.save_journal.specs.Records.{magic}
use Rattle.save_journal.proofs.ReadTo.{same_bytes, other_bytes}
use Rattle.save_journal.proofs.Standing.{differ, not_ours, of_others, other_digest}
use Rattle.save_journal.proofs.reading.compare_header.Goals as goal

pub returns-clause-ours : goal.returns-clause-ours
returns-clause-ours c =
    let width : length c.args.head.now ≡ 40 = search rules in
    let first : take 8 c.args.head.now ≡ magic = same_bytes _ _ c.ne.result (search rules) c.if-ne.false in
    let second : take 32 (drop 8 c.args.head.now) ≡ c.args.digest.now = same_bytes _ _ c.ne-2.result (search rules) c.if-ne-2.false in
    sym (take_all 40 c.args.head.now (omega (arith, width))) ∙ take-add 8 32 c.args.head.now ∙ ap (λ (l : List ℕ). l ++ take 32 (drop 8 c.args.head.now)) first ∙ ap (λ (l : List ℕ). magic ++ l) second

pub returns-then-ne-clause-refused : goal.returns-then-ne-clause-refused
returns-then-ne-clause-refused c file long same =
    let other : take 8 c.args.head.now ≢ magic = differ (take 8 c.args.head.now) magic (other_bytes (take 8 c.args.head.now) magic c.ne.result (search rules) c.if-ne.true) in
    let part : take 8 c.args.head.now ≡ take 8 file = ap (take 8) (sym same) ∙ take-take 8 40 file (omega arith) in
    not_ours c.args.digest.now file long (λ first. other (part ∙ first))

pub returns-then-ne-2-clause-refused : goal.returns-then-ne-2-clause-refused
returns-then-ne-2-clause-refused c file long same =
    let first : take 8 c.args.head.now ≡ magic = same_bytes _ _ c.ne.result (search rules) c.if-ne.false in
    let front : take 8 file ≡ take 8 c.args.head.now = sym (take-take 8 40 file (omega arith)) ∙ ap (take 8) same in
    let part : take 32 (drop 8 c.args.head.now) ≡ take 32 (drop 8 file) = ap (λ (l : List ℕ). take 32 (drop 8 l)) (sym same) ∙ ap (take 32) (drop-take 8 32 file) ∙ take-take 32 32 (drop 8 file) (omega arith) in
    let other : take 32 (drop 8 c.args.head.now) ≢ c.args.digest.now = differ (take 32 (drop 8 c.args.head.now)) c.args.digest.now (other_bytes (take 32 (drop 8 c.args.head.now)) c.args.digest.now c.ne-2.result (search rules) c.if-ne-2.true) in
    let is : c.array_of.result ≡ take 32 (drop 8 c.args.head.now) = search rules in
    of_others c.args.digest.now file long (front ∙ first) (λ e. other (part ∙ e)) ∙ ap (λ (k : List ℕ). other_digest k c.args.digest.now) (sym (is ∙ part))
