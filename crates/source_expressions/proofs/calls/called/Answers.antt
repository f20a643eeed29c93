use Rattle.std.proofs.Common.{◌≡◌, ◌∙◌, rules, sym}
use Rattle.c_tree.specs.TypedViews.{lib_view}
use Rattle.source_state.specs.Views.{callee_of, values_of, wait_of}
use Rattle.source_expressions.proofs.LibraryCalls.{called_library}
use Rattle.source_expressions.proofs.calls.called.Goals as goal

pub returns : goal.returns
returns c =
    let e : callee_of c.args.callee.now.value ≡ callee_of c.in_ok-clone-in-Some.field-0.value = search rules in
    let f : values_of c.args.before.now.value ≡ values_of c.in_ok-clone-in-Some-2.field-0.value = search rules in
    let g : wait_of c.args.wait.now ≡ wait_of c.in_ok-same_wait-in-Some.field-0 = sym c.in_ok-same_wait-in-Some.ensures in
    rw (e, f, g) (called_library (record { place = c.args.place; atomic = c.names_atomic.result }) (lib_view c.in-Library.lib) c.in-Some.action c.in_ok-clone-in-Some.field-0 c.in_ok-clone-in-Some-2.field-0 c.in_ok-same_wait-in-Some.field-0 (sym e ∙ search rules) (search rules) c.names_atomic.ensures)
