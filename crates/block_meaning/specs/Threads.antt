-- What the code's threads are: those of the meaning of the source.
use Rattle.std.specs.Prelude.{List, [], ◌∷◌, map, reverse, Option}
use Rattle.std.specs.Option.{option_map}
use Rattle.std.specs.Global.{Vec}
use Rattle.c_meaning.specs.Control as control
use Rattle.race_rules.specs.declared.touch.Touch.{Touch}
use Rattle.source_state.specs.Views.{todo_of, use_of, loop_of, wait_of}
use Rattle.block_meaning.specs.declared.thread.At.{At}
use Rattle.block_meaning.specs.declared.thread.At.TheVariants as ats
use Rattle.block_meaning.specs.declared.thread.Caller.{Caller}
use Rattle.block_meaning.specs.declared.thread.Own.{Own}
use Rattle.block_meaning.specs.declared.touch_list.Touches.{Touches}
use Rattle.block_meaning.specs.declared.touch_list.Touches.TheVariants as lists

-- where a turn begins
abbrev pub point_of_at : At → control.TurnStart
point_of_at (ats.Gives v k) = control.gives v (use_of k.value)
point_of_at (ats.Lacks place) = control.lacks place
point_of_at (ats.Begins k) = control.begins (todo_of k.value)
point_of_at (ats.Round l k) = control.round (loop_of l.value) (todo_of k.value)

-- a call that waits for the one that it made
abbrev pub caller_of : Caller → control.Caller
caller_of c = record { function = c.function; locals = c.locals.now; wait = wait_of c.wait }

-- the calls that wait, the nearest first
abbrev pub callers_of : Vec Caller → List control.Caller
callers_of v = map caller_of (reverse v.items)

-- what was touched, in order
abbrev pub touches_in : Touches → List Touch
touches_in lists.None = []
touches_in (lists.One only) = only ∷ []
touches_in (lists.Two all) = all
touches_in (lists.More all) = all.items

-- what a thread has of its own
abbrev pub control_of : Own → control.Control
control_of own = record { function = own.function; locals = own.locals.now; point = point_of_at own.at; callers = callers_of own.callers; touched = touches_in own.touched }

-- what each thread has of its own: none once it has ended
abbrev pub owns_of : List (Option Own) → List (Option control.Control)
owns_of all = map (option_map control_of) all
