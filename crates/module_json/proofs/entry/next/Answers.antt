use Rattle.std.proofs.Common.{◌≡◌, ◌≢◌, ◌∙◌, sym, ap, Some, option_map}
use Rattle.serde_json.specs.View.{view}
use Rattle.module_spec.specs.Spec.{number_of}
use Rattle.module_json.specs.ModuleFile.{numbers_of, written}
use Rattle.module_json.proofs.Entries.{entry_of-known}
use Rattle.module_json.proofs.entry.next.Goals as goal

pub returns : goal.returns
returns c =
    let w = c.in-Some.action in
    let positive : w.n ≢ 0 = rw (← ap (λ a. a.n) c.action.view_is) c.if-action-eq0.false in
    let known : number_of c.args.gens.now w.name ≡ Some c.in-Some-generator_named.generator = rw (← ap (λ a. a.name) c.action.view_is) (sym c.in-Some-generator_named.ensures.number) in
    let all_known : numbers_of c.args.gens.now w.sum ≡ Some c.in-Some-2.numbers.items = rw (← ap (λ a. a.sum) c.action.view_is, ← c.as_slice.ensures.value) (sym c.in_ok-numbers.ensures.numbers ∙ ap (λ o. option_map (λ v. v.items) o) c.in-Some-2.is) in
    let is = entry_of-known c.args.gens.now c.args.before.now (written (view c.args.value.now)) w c.in-Some-generator_named.generator c.in-Some-2.numbers.items (sym c.in_ok-action.ensures ∙ c.in-Some.is) positive known all_known in
    rw (is, ← ap (λ a. a.n) c.action.view_is, ← c.as_slice-2.ensures.value) c.numbered.ensures
