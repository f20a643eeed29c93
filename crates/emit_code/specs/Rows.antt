-- Each form of control once, as instructions.
use Rattle.std.specs.Prelude.{List, [], ◌∷◌, Some, None}
use Rattle.struct_ir.specs.Nodes.{null, set, look, safepoint, begin_object, end_object, Node, Nodes, no_nodes, more_nodes, plain, if_, loop, break_, next_, ret}
use Rattle.struct_ir.specs.Instrs.{Instr, acts, unless, jump, round_to, leave}
use Rattle.struct_ir.specs.Lawful.{IsLawful}
use Rattle.struct_ir.specs.Stands.{Lies}

-- a row of one node
abbrev pub one : Node → Nodes
one n = more_nodes n no_nodes

-- t1 = null; look s0 t1; loop { begin object 7; if t3 { break } else { t2 = null; next }; t4 = null; end object 7 } step { t5 = null; safepoint s0 }; return t6
abbrev pub a_loop : Nodes
a_loop =
    more_nodes (plain 10 (set 1 null)) (more_nodes (plain 11 (look 0 1)) (more_nodes (loop 12
    (more_nodes (plain 13 (begin_object 7)) (more_nodes (if_ 14 3 (one (break_ 15)) (more_nodes (plain 16 (set 2 null)) (one (next_ 17)))) (more_nodes (plain 18 (set 4 null)) (one (plain 19 (end_object 7))))))
    (more_nodes (plain 20 (set 5 null)) (one (plain 21 (safepoint (0 ∷ [])))))) (one (ret 22 (Some 6)))))

-- its instructions: the break goes to the return, the next to the step, and the round to the body
abbrev pub instrs_of_a_loop : List Instr
instrs_of_a_loop =
    acts 10 (set 1 null) ∷ acts 11 (look 0 1) ∷ unless 14 3 5 ∷ jump 15 11 ∷ jump 14 7 ∷ acts 16 (set 2 null) ∷ jump 17 8 ∷ acts 18 (set 4 null)
    ∷ acts 20 (set 5 null) ∷ acts 21 (safepoint (0 ∷ [])) ∷ round_to 12 2 ∷ leave 22 (Some 6) ∷ leave 0 None ∷ []

-- jump over a safepoint to a round that leads back: a thread that rests only at safepoints never stops in it
abbrev pub skipping : List Instr
skipping = jump 0 2 ∷ acts 0 (safepoint []) ∷ round_to 0 0 ∷ leave 0 None ∷ []

-- a round that leads to itself
abbrev pub turning : List Instr
turning = acts 0 (safepoint []) ∷ round_to 0 1 ∷ leave 0 None ∷ []

-- the rows hold: from index 0 up to the end, where a Break or a Next outside of loops would go on
pub record RowsHold : Type 0 where
  pub empty : Lies (leave 0 None ∷ []) no_nodes 0 0 0 0
  pub an_if_without_else : Lies (unless 1 2 3 ∷ acts 3 (set 4 null) ∷ jump 1 3 ∷ leave 0 None ∷ []) (one (if_ 1 2 (one (plain 3 (set 4 null))) no_nodes)) 0 3 3 3
  pub a_loop : Lies instrs_of_a_loop a_loop 0 12 12 12
  pub a_loop_is_lawful : IsLawful instrs_of_a_loop
  pub skipping_is_not : IsLawful skipping → ⊥
  pub turning_is_not : IsLawful turning → ⊥
