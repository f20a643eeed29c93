-- As many calls wait in a thread of a program's code as in the program's, and as many in erased code as in the code.
use Rattle.std.proofs.Common.{◌≡◌, refl, ap, ℕ, suc, List, [], ◌∷◌, length}
use Rattle.c_tree.specs.Typed as tree
use Rattle.c_meaning.specs.Control.{Caller, Control}
use Rattle.struct_ir.specs.Structured.{Position}
use Rattle.struct_ir.specs.Machine.{Point}
use Rattle.struct_ir.specs.Erased.{at_erased}
use Rattle.struct_ir.specs.MapsTurns.{points_mapped}
use Rattle.struct_ir.specs.Threads.{Thread}
use Rattle.struct_ir.specs.meaning.Blocks.{Own}
use Rattle.lower_turns.proofs.Relation.{Callers, no_callers, one_wants, one_drops, Same, same}

-- in lowered code as many calls wait
callers_long : (t : tree.Typed) (m : ℕ) (cs : List Caller) (cs' : List (Point Position Own)) → Callers t m cs cs' → length cs' ≡ length cs
callers_long t _ _ _ (no_callers m g there gives) = refl
callers_long t _ _ _ (one_wants {n} {cs = cs} {cs' = cs'} m g place ts there calls call above agrees at rest) = ap suc (callers_long t n cs cs' rest)
callers_long t _ _ _ (one_drops {n} {cs = cs} {cs' = cs'} m place ts calls call agrees at rest) = ap suc (callers_long t n cs cs' rest)

pub same_long : (t : tree.Typed) (c : Control) (b : Thread Position Own) → Same t c b → length b.callers ≡ length c.callers
same_long t _ _ (same {n} {cs = cs} {cs' = cs'} call agrees point callers) = callers_long t n cs cs' callers

-- and as many in erased code as in the code
pub mapped_long : (ps : List (Point Position Own)) → length (points_mapped at_erased ps) ≡ length ps
mapped_long [] = refl
mapped_long (p ∷ ps) = ap suc (mapped_long ps)
