use Rattle.std.proofs.Common.{ap, sym, ◌∙◌, None}
use Rattle.std.specs.Prelude.{is_some, option_map}
use Rattle.struct_ir.specs.Valid.{last_list}
use Rattle.struct_ir.specs.Views.{nodes_view}
use Rattle.struct_ir.proofs.Views.{loop_is}
use Rattle.pin_checker.specs.Faults.{is_guarded}
use Rattle.pin_checker.proofs.guards.is_guarded.Goals as goal

pub returns-in-Loop : goal.returns-in-Loop
returns-in-Loop c =
    c.ends_in_safepoint.ensures
    ∙ (ap (λ l. is_some (last_list None (nodes_view l))) c.deref.ensures.value
    ∙ ap (λ n. is_guarded (option_map (λ s. s.now) c.args.before) n (nodes_view c.args.rest.now)) (sym (loop_is c.args.n.now c.in-Loop.field-0 c.in-Loop.step c.in-Loop.is)))
