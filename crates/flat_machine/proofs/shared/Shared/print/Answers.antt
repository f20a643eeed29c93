use Rattle.std.proofs.Common.{◌≡◌, ◌∙◌, length, take, ap, arith}
use Rattle.flat_machine.specs.Shares.{Shared}
use Rattle.flat_machine.specs.contracts.shared.Shared.{the_view}
use Rattle.flat_machine.proofs.Prints.{with_output}
use Rattle.flat_machine.proofs.Printed.{print_done, print_stopped, fault_done}
use Rattle.flat_machine.proofs.shared.Shared.print.Goals as goal
use Rattle.flat_machine.proofs.shared.Shared.print.Goals.{After-len-before, in-Outside, in-Full}

before_is : (c : After-len-before) → c.len-before.result ≡ length c.args.self.now.memory.output
before_is c = c.len-before.ensures ∙ c.self.inside.output.ok.0 ∙ ap (λ (s : Shared). length s.memory.output) c.self.view_is

pub returns-in-Ok-clause-does : goal.returns-in-Ok-clause-does
returns-in-Ok-clause-does c =
    let now : length c.self-2.inside.output.items ≡ length c.put_pieces.new.self.memory.output = ap (λ (s : Shared). length s.memory.output) c.self-2.view_is in
    let kept = c.self-2.invariant.0 in
    print_done c.args.self.now c.put_pieces.new.self _ c.went.result c.len-before.result _ _ (before_is (goal.at.returns-in-Ok-clause-does c).After-len-before) c.in-Ok.ensures (omega (arith, now, kept.printed, kept.output_small)) (omega (arith, c.len.ensures, c.self-2.inside.output.ok.0, now)) c.went.ensures

pub returns-after-fault-clause-does : goal.returns-after-fault-clause-does
returns-after-fault-clause-does c =
    let v = the_view c.self-2.inside in
    let r_is : c.match-fault.result ≡ fault_done c.in-Err.fault =
    elim c.match-fault.branch [
      | in-Outside w ↦ rw w.in-Outside.is w.result-is
      | in-Full w ↦ rw w.in-Full.is w.result-is
    ] in
    print_stopped c.args.self.now c.put_pieces.new.self _ _ c.in-Err.fault c.match-fault.result c.len-before.result (before_is (goal.at.returns-after-fault-clause-does c).After-len-before) c.in-Err.ensures
    (ap (with_output v) c.truncate.ensures.items ∙ ap (λ (s : Shared). with_output s (take c.len-before.result s.memory.output)) c.self-2.view_is)
    r_is
