-- What an evacuation does is what its event does, which may come: what is pinned isn't moved.
use Rattle.std.proofs.Common.{◌≡◌, Bool, true, false, List, Option, None, refl, sym, ap, ◌∙◌}
use Rattle.sub_heaps.specs.declared.moves.Move.{Move}
use Rattle.evacuate.proofs.Legal.{moves_legal}
use Rattle.struct_ir.specs.Instrs.{LinearCode}
use Rattle.flat_meaning.specs.Allowed.{pinned}
use Rattle.flat_meaning.specs.Events.{moved_state, serving_state, served_state}
use Rattle.flat_threads.specs.Contexts.{Context}
use Rattle.flat_machine.specs.Clearing.{cleared_state, evacuation_here, moves_some, shared_cleared}
use Rattle.flat_machine.specs.Laws.{EvacuationIsItsEvent}
use Rattle.flat_machine.specs.Shares.{Shared, image_of}
use Rattle.flat_machine.specs.Sweeping.{at_home, stages_home}
use Rattle.flat_machine.proofs.BarrierEvents.{all_stand}
use Rattle.flat_machine.proofs.Evacuated.{none_moves}

-- the state behind it is that behind its event
evacuation_after : (code : LinearCode) (s : Shared) (home : List (Option Context)) (moved : Bool) → s.memory.leaving ≡ None → moves_some (evacuation_here (image_of code s) (at_home s home)) ≡ moved
    → at_home (shared_cleared (image_of code s) s (at_home s home) moved) home ≡ cleared_state (image_of code s) (at_home s home)
evacuation_after code s home true idle is = refl
evacuation_after code s home false idle is =
    let none = none_moves (evacuation_here (image_of code s) (at_home s home)) is in
    (λ i. record { memory = record { storage = s.memory.storage; output = s.memory.output; threads = s.memory.threads; leaving = idle i }; own = stages_home s.memory.threads home; end = None })
    ∙ ap (λ (ms : List Move). served_state (serving_state (moved_state ms (at_home s home)))) (sym none)

pub evacuation_is_its_event : EvacuationIsItsEvent
evacuation_is_its_event code s home shared sound all homes =
    record {
      allowed = ((refl, (all_stand code s home all homes, moves_legal (pinned (image_of code s) (at_home s home)) s.memory.storage.heaps sound, tt)), tt);
      after = evacuation_after code s home _ shared.idle refl;
    }
