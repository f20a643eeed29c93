-- A turn ends: at a call that is entered, at the end of a round, and where a call is left.
use Rattle.std.proofs.Common.{◌≡◌, ℕ, ◌+◌, ◌<◌, ◌≤◌, List, [], ◌∷◌, length, true, Some, None, refl, sym, ap, subst, ◌∙◌, arith, inl, inr}
use Rattle.std.specs.Prelude.{◌&&◌}
use Rattle.std.proofs.lemmas.Bool.{and_parts}
use Rattle.block_store.specs.Blocks.{Block, live}
use Rattle.block_store.specs.Actions.{World, with_blocks}
use Rattle.c_tree.specs.TypedForm.{taken}
use Rattle.arena_meaning.specs.Arena.{Storage}
use Rattle.struct_ir.specs.Nodes.{Call, call, Ir}
use Rattle.struct_ir.specs.Flow.{does, round, IsCall, entry}
use Rattle.struct_ir.specs.Machine.{Point}
use Rattle.struct_ir.specs.Threads.{went, behind}
use Rattle.struct_ir.specs.Valid.{scope_of, is_below_if, are_below, is_list}
use Rattle.struct_ir.specs.ValidCode.{is_here}
use Rattle.struct_ir.specs.meaning.Blocks.{Own}
use Rattle.struct_ir.specs.meaning.Threads as source
use Rattle.flat_meaning.specs.Image.{Image, stack_address, objects_bytes}
use Rattle.flat_meaning.specs.Words.{Words, used_with, has_room, object_address}
use Rattle.flat_meaning.specs.Memory.{Memory}
use Rattle.flat_meaning.specs.Machine as machine
use Rattle.flat_meaning.specs.Names.{Name, plain, name_of}
use Rattle.flat_simulation.specs.inner.Values.{AnyBlock}
use Rattle.flat_simulation.specs.inner.Calls.{objects_in, object_size}
use Rattle.flat_simulation.specs.inner.Turns.{IsClear}
use Rattle.flat_simulation.specs.inner.Lags.{StandsIn}
use Rattle.flat_simulation.specs.inner.Programs.{IsImage, HasFrame}
use Rattle.flat_simulation.specs.inner.Worlds.{WorldStands, TurnEnded}
use Rattle.flat_simulation.specs.inner.Threads.{CallersStand, TurnsAlike}
use Rattle.flat_simulation.proofs.Entered.{has_function, entered_stands, entered_frame}
use Rattle.flat_simulation.proofs.Frames.{in_frame}
use Rattle.flat_simulation.proofs.Later.{fresh_thread}
use Rattle.flat_simulation.proofs.Points.{IsSilent, point_silent}
use Rattle.flat_simulation.proofs.Programs.{its_objects, frame_objects, in_range}
use Rattle.flat_simulation.proofs.Settled.{nothing_ended}

module _ {P : Type 0} (x : Image P) (p : Ir) (image : IsImage x p) (thread : ℕ) (stack : thread < x.layout.limits.threads) (n : List Name) (w0 : World) (m : Memory) (l : Own) (world : WorldStands x.layout p n (with_blocks w0 l.blocks) m) (k : P) (q : Words) (ks : List (Point P Own)) (qs : List (Point P Words))
    (stands : StandsIn x p thread n AnyBlock m.storage (record { at = k; own = l }) (record { at = k; own = q })) (frame : HasFrame x.layout p q)
    (clear : IsClear n AnyBlock l.blocks (stack_address x.layout thread + q.below.stack) (stack_address x.layout thread + x.layout.limits.stack) l.objects) (under : CallersStand x p thread n l.blocks m.storage q.below.stack ks qs) where
  abbrev w : World
  w = with_blocks w0 l.blocks

  abbrev s : Storage
  s = m.storage

  abbrev nothing : TurnEnded x.layout p thread n n [] w w m m
  nothing = nothing_ended x.layout p thread n w m world

  -- ---- a call

  -- what the call's frame ends with
  frame_end : (used_with x.layout q).stack ≡ q.below.stack + objects_bytes frame.func.objects
  frame_end = ap (λ os. q.below.stack + objects_bytes os) (frame_objects x p image q frame)

  -- its objects end there
  object_below : (block a i : ℕ) (b : Block) → live l.blocks block ≡ Some b → l.objects i ≡ Some block → name_of n block ≡ plain a → a + taken (length b.cells) ≤ stack_address x.layout thread + (q.below.stack + objects_bytes frame.func.objects)
  object_below block a i b e at named =
      let o = stands.call.objects i block at in
      let both : plain (object_address x.layout thread q i) ≡ plain a = sym o.there.at ∙ named in
      let is : object_address x.layout thread q i ≡ a = cc in
      let size = ap taken (o.size b e) in
      let index : i < length (objects_in p q.function) = subst (λ f. i < length (objects_in p f)) (sym stands.call.function) o.index in
      let all = in_frame x.layout p thread q.function q (frame_objects x p image q frame ∙ sym (its_objects x p image q frame)) stack (subst (λ os. q.below.stack + objects_bytes os ≤ x.layout.limits.stack) (sym (its_objects x p image q frame)) frame.room) i index in
      let same : object_size p q.function i ≡ object_size p l.function i = ap (λ f. object_size p f i) stands.call.function in
      let bytes = ap objects_bytes (its_objects x p image q frame) in
      let many = ap taken same in
      omega (arith, all, is, size, many, bytes)

  pub call_ends : (place : ℕ) (c : Call) → x.flow.here k ≡ does place (call c) → has_room x.layout (used_with x.layout q) c.function ≡ true
      → TurnsAlike x p thread n [] None w m (went (record { top = record { at = x.start c.function; own = source.entered c.function l c.temps }; callers = record { at = k; own = l } ∷ ks }) w)
      (went (record { top = record { at = x.start c.function; own = machine.entered x.layout c.function q c.temps }; callers = record { at = k; own = q } ∷ qs }) m)
  call_ends place c e room =
      let ok = subst (λ h. is_here (scope_of p frame.func) h ≡ true) e (in_range x p image q frame stands.way k stands.path) in
      let parts = and_parts (is_below_if frame.func.temps c.to && are_below frame.func.temps c.temps) _ ok in
      let args : are_below (length q.temps) c.temps ≡ true = subst (λ z. are_below z c.temps ≡ true) (sym frame.temps) (and_parts (is_below_if frame.func.temps c.to) (are_below frame.func.temps c.temps) parts.0).1 in
      let func = has_function p c.function (length c.temps) (and_parts _ (is_list (scope_of p frame.func) c.slots) parts.1).0 in
      let its = entered_frame x p image thread n AnyBlock l q stands.call c.function c.temps args func.0 func.1 func.2 room in
      let fits = its.room in
      let ends = frame_end in (
        n,
        nothing,
        fresh_thread x p thread n l.blocks s _ _ world.blocks.names_stand.each (record {
          stack = stack;
          frame = its;
          top = record {
            here = refl;
            call = entered_stands x p image thread n AnyBlock l q stands.call c.function c.temps args;
            way = [];
            path = entry;
            slots = λ slot base i. absurd cc;
          };
          clear = λ block a b kn v at. elim (clear block a b kn v at) [
            | inl r ↦ inl (omega (arith, r))
            | inr z ↦ elim z [ inl r ↦ inr (inl r) | inr o ↦ let r = object_below block a o.0 b v o.1 at in inl (omega (arith, r, ends)) ]
          ];
          callers = (
            record {
              point = stands;
              frame = frame;
              call = subst IsCall (sym e) refl;
              above_it = ends;
              clear = λ block a b kn v at. elim (clear block a b kn v at) [ inl r ↦ inl r | inr z ↦ elim z [ inl r ↦ inr (inl (omega (arith, r, fits))) | inr o ↦ inr (inr o) ] ];
            },
            under,
          );
        }),
      )

  -- ---- a round

  pub round_ends : x.flow.here k ≡ round → TurnsAlike x p thread n [] None w m (went (record { top = behind x.flow (record { at = k; own = l }) l; callers = ks }) w) (went (record { top = behind x.flow (record { at = k; own = q }) q; callers = qs }) m)
  round_ends e = (
    n,
    nothing,
    fresh_thread x p thread n l.blocks s _ _ world.blocks.names_stand.each (record {
      stack = stack;
      frame = frame;
      top = point_silent x p thread n AnyBlock s (record { at = k; own = l }) (record { at = k; own = q }) true (subst (IsSilent x p thread) (sym e) tt) stands;
      clear = clear;
      callers = under;
    }),
  )
