use Rattle.std.proofs.Common.{rules, ◌≡◌, ◌≢◌, [], Err, sym, subst, arith}
use Rattle.std.specs.List.{AllPairs}
use Rattle.serde_json.specs.View.{items_view}
use Rattle.module_spec.specs.WellFormed.{Agree}
use Rattle.module_json.specs.ModuleFile.{entries_from}
use Rattle.module_json.specs.declared.malformed.Malformed.TheVariants.{Memory}
use Rattle.module_json.proofs.Entries.{AreRead, AreRead-next, read_none, read_refused, read_all}
use Rattle.module_json.proofs.entry.entries.Goals as goal

pub loop-value-init : goal.loop-value-init
loop-value-init c =
    subst (AreRead c.args.gens.now c.args.actions.now 0) (sym c.in_ok-entries.ensures.items) (read_none c.args.gens.now c.args.actions.now)

pub next-requires : goal.next-requires
next-requires c = subst (AllPairs Agree) (sym c.as_slice.ensures.value) c.loop-value.invariant.agree

pub returns-in_err-entry-clause-refused : goal.returns-in_err-entry-clause-refused
returns-in_err-entry-clause-refused c =
    let fault = c.in_err-entry.field-0.0 in
    let refused : fault ≢ Memory → entries_from c.args.gens.now [] (items_view c.args.actions.now) ≡ Err fault =
    λ known. read_refused c.args.gens.now c.args.actions.now c.loop-value.value-index c.loop-value.entries.items c.value-item.result fault c.loop-value.invariant c.loop-value-test.true c.value-item.is (rw (← c.as_slice.ensures.value) (c.in_err-entry.ensures known)) in
    search rules

pub loop-value-preserved : goal.loop-value-preserved
loop-value-preserved c =
    rw c.in_ok-push.ensures.items
    (AreRead-next c.args.gens.now c.args.actions.now c.loop-value.value-index c.loop-value.entries.items c.value-item.result c.in_ok-entry.entry c.loop-value.invariant c.loop-value-test.true c.value-item.is (rw (← c.as_slice.ensures.value) c.in_ok-entry.ensures))

pub returns-clause-listed : goal.returns-clause-listed
returns-clause-listed c = read_all c.args.gens.now c.args.actions.now c.loop-value.value-index c.loop-value.entries.items c.loop-value.invariant c.loop-value-test.false

pub returns-clause-count : goal.returns-clause-count
returns-clause-count c =
    let count = c.loop-value.invariant.count in
    let past = c.loop-value-test.false in
    let within = c.loop-value.auto.value-index-end in
    omega arith

pub returns-clause-actions : goal.returns-clause-actions
returns-clause-actions c = c.loop-value.invariant.actions

pub returns-clause-agree : goal.returns-clause-agree
returns-clause-agree c = c.loop-value.invariant.agree
