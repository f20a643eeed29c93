-- What act makes of a context and of what threads share, from what its parts leave.
use Rattle.std.proofs.Common.{◌≡◌, Option, Some, sym, ap, ◌∙◌, subst}
use Rattle.struct_ir.specs.Instrs.{LinearCode}
use Rattle.struct_ir.specs.Linear.{Spot}
use Rattle.flat_meaning.specs.declared.endings.Stop.{Stop}
use Rattle.flat_meaning.specs.declared.endings.Stop.TheVariants.{NoRoom}
use Rattle.flat_meaning.specs.Stages.{Stage}
use Rattle.flat_rules.specs.Machine as turns
use Rattle.flat_threads.specs.Belonging.{HasStopped, IsContextOf}
use Rattle.flat_threads.specs.Contexts.{Context, own_image, standing}
use Rattle.flat_threads.specs.Waits.{waits_at}
use Rattle.flat_machine.specs.Shares.{Shared, image_of}
use Rattle.flat_machine.specs.declared.turned.Turned.TheVariants.{LackedStack}
use Rattle.flat_machine.specs.inner.Acted.{TurnIsDone}
use Rattle.flat_machine.specs.inner.Dones.{with_memory}
use Rattle.flat_machine.specs.lemmas.Steps.{Stays, lacks}

-- a call has no room: nothing is changed
pub turn_lacks : (code : LinearCode) (stop : Option Stop) (s : Shared) (c : Context) → IsContextOf code c → stop ≡ Some NoRoom → HasStopped (own_image code) c.stage NoRoom → TurnIsDone code stop s s c c LackedStack
turn_lacks code stop s c of_ is h =
    let stays : Stays (image_of code s) c.number s.memory c.stage NoRoom turns.lacked_stack =
    subst (λ (o : Option (Stage Spot)). Stays (image_of code s) c.number s.memory o NoRoom turns.lacked_stack) (sym h.is) (lacks code s c.number h.at_stage h.most h.turns h.stops) in
    subst (λ (o : Option Stop). TurnIsDone code o s s c c LackedStack) (sym is) (record {
      shared = ap (with_memory s) (sym stays.memory);
      context = ap (standing c c.stage) of_.wait ∙ ap (λ (o : Option (Stage Spot)). standing c o (waits_at (own_image code) o)) (sym stays.same);
      turned_ = sym stays.turned_;
    })
