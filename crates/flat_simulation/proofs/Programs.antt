-- What is kept of guarded code as it is loaded, and where the stack objects of its calls lie.
use Rattle.std.proofs.Common.{◌≡◌, ℕ, ◌+◌, ◌<◌, ◌≤◌, List, option_map, Some, refl, sym, ap, subst, ◌∙◌, arith}
use Rattle.std.specs.Prelude.{slice_get, true}
use Rattle.std.proofs.lemmas.Option.{slice_get-map}
use Rattle.arena_meaning.specs.Arena.{Storage, IsConsistent, start_behind}
use Rattle.struct_ir.specs.Nodes.{Func, Ir}
use Rattle.struct_ir.specs.Flow.{Path}
use Rattle.struct_ir.specs.Structured.{done, then_, nodes_of, structured}
use Rattle.struct_ir.specs.Valid.{scope_of}
use Rattle.struct_ir.specs.ValidCode.{is_here}
use Rattle.struct_ir.proofs.Sizes.{structured_shrinks}
use Rattle.struct_ir.proofs.ValidCode.{valid_is_reached}
use Rattle.struct_ir.specs.meaning.Blocks.{objects_of}
use Rattle.struct_ir.specs.meaning.Threads.{start_in}
use Rattle.flat_meaning.specs.Image.{Image, Frame, func_frame, frame_if, frame_of, limits_for, structured_image, plain_size, objects_bytes}
use Rattle.flat_meaning.specs.Words.{Words}
use Rattle.flat_meaning.specs.Simulation.{IsChecked}
use Rattle.flat_simulation.specs.Kinds.{IsGuarded}
use Rattle.flat_simulation.specs.inner.Calls.{objects_in}
use Rattle.flat_simulation.specs.inner.Frames.{FrameLies}
use Rattle.flat_simulation.specs.inner.Lags.{LieLow}
use Rattle.flat_simulation.specs.inner.Programs.{IsImage, HasFrame}
use Rattle.flat_simulation.proofs.Frames.{frame_lies}

-- ---- guarded code

-- checked code is guarded
pub guarded_of : (p : Ir) → IsChecked p → IsGuarded p
guarded_of p c = record { valid = c.valid; safe = c.safe; main = c.main; params = c.params; inits = c.inits; small = c.small }

-- where a function begins
begins_there : (p : Ir) (n : ℕ) (f : Func) → slice_get p.funcs n ≡ Some f → start_in p n ≡ then_ f.nodes done
begins_there p n f at = ap (λ o. then_ (nodes_of o) done) at

pub guarded_image : (p : Ir) → IsGuarded p → (output heaps heap ids : ℕ) → IsImage (structured_image p (limits_for output heaps heap ids)) p
guarded_image p c output heaps heap ids = record {
  frames = refl;
  globals = refl;
  literals = refl;
  shrinks = structured_shrinks;
  valid = λ n f w k at path. valid_is_reached p c.valid n f at w k (subst (λ start. Path structured start w k) (begins_there p n f at) path);
  safe = c.safe;
  params = c.params;
  small = omega (arith, c.small);
}

-- ---- frames

module _ {P : Type 0} (x : Image P) (p : Ir) (image : IsImage x p) (q : Words) (frame : HasFrame x.layout p q) where
  its_frame : frame_of x.layout q.function ≡ func_frame frame.func
  its_frame = ap (λ fs. frame_if (slice_get fs q.function)) image.frames ∙ (ap frame_if (slice_get-map func_frame p.funcs q.function) ∙ ap (λ o. frame_if (option_map func_frame o)) frame.there)

  pub its_objects : objects_in p q.function ≡ frame.func.objects
  its_objects = ap objects_of frame.there

  pub frame_objects : (frame_of x.layout q.function).objects ≡ frame.func.objects
  frame_objects = ap (λ (f : Frame). f.objects) its_frame

  -- its objects lie in its thread's stack
  pub lies_in_stack : (thread : ℕ) → thread < x.layout.limits.threads → FrameLies x.layout p thread (start_behind (plain_size x.layout)) q.function q
  lies_in_stack thread stack =
      frame_lies x.layout p thread q.function q (frame_objects ∙ sym its_objects) stack (subst (λ os. q.below.stack + objects_bytes os ≤ x.layout.limits.stack) (sym its_objects) frame.room)

  -- and below all handles
  pub lies_low : (thread : ℕ) (s : Storage) → thread < x.layout.limits.threads → IsConsistent s → s.start ≡ start_behind (plain_size x.layout) → LieLow x.layout p thread q
  lies_low thread s stack consistent start i below =
      let lies = lies_in_stack thread stack in
      let inside = lies.inside i below in
      omega (arith, inside, lies.below, consistent.small, start)

  -- what stands on a path of its function is in range
  pub in_range : (way : List P) (k : P) → Path x.flow (x.start q.function) way k → is_here (scope_of p frame.func) (x.flow.here k) ≡ true
  in_range way k path = image.valid q.function frame.func way k frame.there path
