-- What is left of a journal's order in the middle of a walk.
use Rattle.std.specs.Prelude.{ℕ, List, ◌++◌, map, replicate, option_to_list}
use Rattle.ak_trace.specs.declared.order.Answer.{Answer}
use Rattle.ak_trace.specs.declared.order.Answer.TheVariants.{Plain}
use Rattle.ak_trace.specs.declared.walk.Begun.{Begun}

-- what is left of the turns of an entry that was begun: its local ones, and the one that it ends with
abbrev pub left_of_entry : Begun → List (ℕ × Answer)
left_of_entry b = replicate b.local (b.thread, Plain) ++ map (λ answer. (b.thread, answer)) (option_to_list b.last)
