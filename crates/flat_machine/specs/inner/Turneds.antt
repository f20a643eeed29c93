-- How a step went, as the code has it.
use Rattle.flat_rules.specs.Machine as turns
use Rattle.flat_machine.specs.declared.turned.Turned.{Turned}
use Rattle.flat_machine.specs.declared.turned.Turned.TheVariants as code

-- how a turn ended, as the rules of a run tell it
abbrev pub turned_view : Turned → turns.Turned
turned_view code.Looked = turns.looked
turned_view code.Stepped = turns.stepped
turned_view (code.Got id place) = turns.got id place
turned_view code.GotNull = turns.got_null
turned_view (code.MadeThread number) = turns.made_thread number
turned_view code.RefusedThread = turns.refused_thread
turned_view code.FoundBusy = turns.found_busy
turned_view code.WantsRoom = turns.wants_room
turned_view code.Rested = turns.rested
turned_view (code.Ended value) = turns.ended value
turned_view (code.Trapped word kind) = turns.trapped word kind
turned_view code.PassedLimit = turns.passed_limit
turned_view code.LackedStack = turns.lacked_stack
