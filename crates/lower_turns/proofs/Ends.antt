-- Blocks that begin, and all that end with a block of statements or with a call.
use Rattle.std.proofs.Common.{◌≡◌, ◌≢◌, ℕ, zero, suc, ◌+◌, ◌<◌, ◌≤◌, Bool, true, false, List, [], ◌∷◌, ◌++◌, length, set, Option, Some, None, refl, sym, ap, subst, ◌∙◌, arith, length-set, add-zero, ◌==◌, if◌then◌else◌}
use Rattle.std.specs.Prelude.{slice_get}
use Rattle.block_store.specs.declared.values.Access.{Access}
use Rattle.block_store.specs.declared.values.BlockKind.TheVariants as block_kinds
use Rattle.block_store.specs.declared.values.Cell.TheVariants.{Unknown}
use Rattle.block_store.specs.Actions as actions
use Rattle.block_store.specs.Actions.{World}
use Rattle.block_store.specs.Blocks.{Blocks, made}
use Rattle.block_store.specs.Runs.{Turn}
use Rattle.c_tree.specs.Typed as tree
use Rattle.c_tree.specs.TypedForm.{Jumps}
use Rattle.c_tree.specs.TypedLayout.{size_in}
use Rattle.c_meaning.specs.Values.{access_of_type}
use Rattle.c_meaning.specs.Control as source
use Rattle.c_meaning.specs.Control.{Variable, Control}
use Rattle.c_meaning.specs.Turns.{Now, Way, end_way, ended_local, ended_locals, without_block, without_blocks, with_block, made_local, declared_in, local_at, size_of_local}
use Rattle.struct_ir.specs.Nodes.{Nodes, StackObject, Func}
use Rattle.struct_ir.specs.Structured.{Position, then_, out_of, end_of}
use Rattle.struct_ir.specs.meaning.Blocks as code
use Rattle.struct_ir.specs.meaning.Blocks.{Held, Own, set_at, without, object_ended, all_ended, begun, begun_after, size_of}
use Rattle.struct_ir.specs.meaning.Threads.{over}
use Rattle.lower_forms.specs.Forms.{home, home_or_none, among, again, with_home, ends}
use Rattle.lower_forms.specs.Programs.{home_if, next_home, homes_from, object_of, with_object, objects_of, lowered}
use Rattle.lower_turns.proofs.Relation.{InRegister, no_value, one_value, InBlock, no_block, one_block, held_in, homes_of, at_end, in_a_block}
use Rattle.lower_turns.proofs.Registers.{set_here, set_there}
use Rattle.lower_turns.proofs.Calls.{nth_lowered}
use Rattle.lower_turns.proofs.Steps.{onward, ends_object, then_same}
use Rattle.lower_turns.proofs.Over.{over_last, over_twice, over_none, over_forgiven}
use Rattle.lower_turns.proofs.Setting.{Stands, Setting, here, now, own, Alike, frame, objects_over, Leaves, Forgives, GoesS, halted_in, at_around}
use Rattle.lower_turns.proofs.Objects.{held_here, held_there, object_at, Over, agrees_block, within_locals, end_one, end_register}

-- ---- several blocks end

pub over_two : (is js : List ℕ) (l : Own) → objects_over (is ++ js) l ≡ objects_over js (objects_over is l)
over_two [] js l = refl
over_two (i ∷ is) js l = over_two is js (object_ended l i)

module _ (g : Setting) where
  -- the code of it
  pub ends_then : (x : Turn Control) (place : ℕ) (is : List ℕ) (r : Nodes) (q : Position) (l : Own) → Alike g x (then_ r q) (objects_over is l) → Alike g x (then_ (ends place is r) q) l
  ends_then x place [] r q l h = h
  ends_then x place (i ∷ is) r q l h =
      then_same (lowered g.t) g.thread g.answer g.cs' g.s g.t x _ _ _ _ (ends_object (lowered g.t) g.thread g.answer g.cs' g.s place i (ends place is r) q l) (ends_then x place is r q (object_ended l i) h)

  module _ (tm : ℕ → Held) where
    ends_at : (i : ℕ) (is : List ℕ) → ((vs : List Variable) (b : Blocks) (ob : ℕ → Option ℕ) → Stands g vs tm ob → Over g tm (ended_locals is (now g vs b)) (objects_over (homes_of (homes_from 0 g.f.locals) is) (own g ob tm b)))
        → (vs : List Variable) (b : Blocks) (ob : ℕ → Option ℕ) → Stands g vs tm ob → (hm : Option ℕ) → home (frame g) i ≡ hm
        → Over g tm (ended_locals is (ended_local i (now g vs b))) (objects_over (with_home hm (homes_of (homes_from 0 g.f.locals) is)) (own g ob tm b))
    ends_at i is rest vs b ob agrees None e =
        subst (λ (x : Now). Over g tm (ended_locals is x) (objects_over (homes_of (homes_from 0 g.f.locals) is) (own g ob tm b))) (sym (end_register g vs tm ob agrees b i e)) (rest vs b ob agrees)
    ends_at i is rest vs b ob agrees (Some k) e =
        let o = end_one g vs tm ob agrees b i k e in
        subst (λ (x : Now). Over g tm (ended_locals is x) (objects_over (homes_of (homes_from 0 g.f.locals) is) (object_ended (own g ob tm b) k))) (sym o.source_is)
        (subst (λ (l : Own). Over g tm (ended_locals is (now g o.vs' o.b')) (objects_over (homes_of (homes_from 0 g.f.locals) is) l)) (sym o.code_is) (rest o.vs' o.b' o.ob' o.agrees'))

    -- the same on both sides
    pub ends_over : (is : List ℕ) (vs : List Variable) (b : Blocks) (ob : ℕ → Option ℕ) → Stands g vs tm ob → Over g tm (ended_locals is (now g vs b)) (objects_over (homes_of (homes_from 0 g.f.locals) is) (own g ob tm b))
    ends_over [] vs b ob agrees = record { vs' = vs; b' = b; ob' = ob; source_is = refl; code_is = refl; agrees' = agrees }
    ends_over (i ∷ is) vs b ob agrees = ends_at i is (ends_over is) vs b ob agrees (home (frame g) i) refl

-- ---- a block is left by a break that ends none of its objects but those that are declared around the loop, too

pub over_swap : (is js : List ℕ) (l : Own) → objects_over is (objects_over js l) ≡ objects_over js (objects_over is l)
over_swap is [] l = refl
over_swap is (j ∷ js) l = over_swap is js (object_ended l j) ∙ ap (objects_over js) (over_last is l j)

-- none of them has a block then
pub ended_all : (is : List ℕ) (l : Own) (k : ℕ) → among is k ≡ true → (objects_over is l).objects k ≡ None
ended_all is l k e = ap (λ (z : Own). z.objects k) (sym (over_twice is l k e) ∙ over_last is l k) ∙ set_here (objects_over is l).objects k None

neither_by : (x : ℕ) (xs ys : List ℕ) (k : ℕ) → (among xs k ≡ false → among (xs ++ ys) k ≡ false) → (b : Bool) → (if b then true else among xs k) ≡ false → (if b then true else among (xs ++ ys) k) ≡ false
neither_by x xs ys k rest true d = absurd cc
neither_by x xs ys k rest false d = rest d

among_neither : (xs ys : List ℕ) (k : ℕ) → among xs k ≡ false → among ys k ≡ false → among (xs ++ ys) k ≡ false
among_neither [] ys k e h = h
among_neither (x ∷ xs) ys k e h = neither_by x xs ys k (λ d. among_neither xs ys k d h) (x == k) e

-- in a block that declares locals with these objects
abbrev pub blocked_in : Setting → List ℕ → Setting
blocked_in g os = at_around g (in_a_block g.a os) g.low

-- where it begins
pub opens_block : (g : Setting) (os : List ℕ) (vs : List Variable) (tm : ℕ → Held) (ob : ℕ → Option ℕ) → Stands g vs tm ob → Stands (blocked_in g os) vs tm ob
opens_block g os vs tm ob h = record {
  count = h.count;
  low = h.low;
  switches = h.switches;
  register = h.register;
  block = h.block;
  closed = λ k e. h.closed k (outer_by os k e);
}
  where
    outer_one : (x : ℕ) (xs : List ℕ) (k : ℕ) → (among (xs ++ g.a.around) k ≡ false → among g.a.around k ≡ false) → (b : Bool) → (if b then true else among (xs ++ g.a.around) k) ≡ false → among g.a.around k ≡ false
    outer_one x xs k rest true d = absurd cc
    outer_one x xs k rest false d = rest d

    outer_by : (xs : List ℕ) (k : ℕ) → among (xs ++ g.a.around) k ≡ false → among g.a.around k ≡ false
    outer_by [] k e = e
    outer_by (x ∷ xs) k e = outer_one x xs k (outer_by xs k) (x == k) e

-- behind the block, once they have ended
pub shut : (g : Setting) (os : List ℕ) (vs : List Variable) (tm : ℕ → Held) (ob : ℕ → Option ℕ) → Stands (blocked_in g os) vs tm ob → ((k : ℕ) → among os k ≡ true → ob k ≡ None) → Stands g vs tm ob
shut g os vs tm ob h ended = record {
  count = h.count;
  low = h.low;
  switches = h.switches;
  register = h.register;
  block = h.block;
  closed = λ k e. by k e (among os k) refl;
}
  where
    by : (k : ℕ) → among g.a.around k ≡ false → (b : Bool) → among os k ≡ b → ob k ≡ None
    by k e true d = ended k d
    by k e false d = h.closed k (among_neither os g.a.around k d e)

-- behind it
block_ends : (g : Setting) (finish : Now → Turn Control) (r : Nodes) (q : Position) → ((vs : List Variable) (b : Blocks) (tm : ℕ → Held) (ob : ℕ → Option ℕ) → Stands g vs tm ob → Alike g (finish (now g vs b)) (then_ r q) (own g ob tm b))
    → (place : ℕ) (is : List ℕ) (vs : List Variable) (b : Blocks) (tm : ℕ → Held) (ob : ℕ → Option ℕ) → Stands (blocked_in g (homes_of (homes_from 0 g.f.locals) is)) vs tm ob
    → Alike g (finish (ended_locals is (now g vs b))) (then_ (ends place (homes_of (homes_from 0 g.f.locals) is) r) q) (own g ob tm b)
block_ends g finish r q goes place is vs b tm ob h =
    let os : List ℕ = homes_of (homes_from 0 g.f.locals) is in
    let m : Own = own g ob tm b in
    let o = ends_over (blocked_in g os) tm is vs b ob h in
    let stands = shut g os o.vs' tm o.ob' o.agrees' (λ k e. sym (ap (λ (z : Own). z.objects k) o.code_is) ∙ ended_all os m k e) in
    ends_then g (finish (ended_locals is (now g vs b))) place os r q m
    (subst (λ (x : Now). Alike g (finish x) (then_ r q) (objects_over os m)) (sym o.source_is)
    (subst (λ (l : Own). Alike g (finish (now g o.vs' o.b')) (then_ r q) l) (sym o.code_is) (goes o.vs' o.b' tm o.ob' stands)))

-- at a position where the other objects end next anyway
block_left : (g : Setting) (finish : Now → Turn Control) (left : List ℕ) (q : Position) (is : List ℕ)
    → ((k : ℕ) → among (homes_of (homes_from 0 g.f.locals) is) k ≡ true → among g.a.outer k ≡ false → Forgives g q k)
    → ((vs : List Variable) (b : Blocks) (tm : ℕ → Held) (ob : ℕ → Option ℕ) → Stands g vs tm ob → Alike g (finish (now g vs b)) q (objects_over left (own g ob tm b)))
    → (vs : List Variable) (b : Blocks) (tm : ℕ → Held) (ob : ℕ → Option ℕ) → Stands (blocked_in g (homes_of (homes_from 0 g.f.locals) is)) vs tm ob
    → Alike g (finish (ended_locals is (now g vs b))) q (objects_over (again g.a.outer (homes_of (homes_from 0 g.f.locals) is) ++ left) (own g ob tm b))
block_left g finish left q is forgives goes vs b tm ob h =
    let os : List ℕ = homes_of (homes_from 0 g.f.locals) is in
    let m : Own = own g ob tm b in
    let o = ends_over (blocked_in g os) tm is vs b ob h in
    let stands = shut g os o.vs' tm o.ob' o.agrees' (λ k e. sym (ap (λ (z : Own). z.objects k) o.code_is) ∙ ended_all os m k e) in
    let same : onward (lowered g.t) g.thread g.answer g.cs' g.s q (objects_over (again g.a.outer os ++ left) m) ≡ onward (lowered g.t) g.thread g.answer g.cs' g.s q (objects_over left (objects_over os m))
    = ap (onward (lowered g.t) g.thread g.answer g.cs' g.s q) (over_two (again g.a.outer os) left m ∙ over_swap left (again g.a.outer os) m)
    ∙ sym (over_forgiven (lowered g.t) g.thread g.answer g.cs' g.s g.a.outer os q forgives (objects_over left m))
    ∙ ap (onward (lowered g.t) g.thread g.answer g.cs' g.s q) (over_swap os left m) in
    then_same (lowered g.t) g.thread g.answer g.cs' g.s g.t (finish (ended_locals is (now g vs b))) q q (objects_over (again g.a.outer os ++ left) m) (objects_over left (objects_over os m)) same
    (subst (λ (x : Now). Alike g (finish x) q (objects_over left (objects_over os m))) (sym o.source_is)
    (subst (λ (l : Own). Alike g (finish (now g o.vs' o.b')) q (objects_over left l)) (sym o.code_is) (goes o.vs' o.b' tm o.ob' stands)))

block_leaves : (g : Setting) (w : Way) (left : List ℕ) (r : Nodes) (q : Position) (place : ℕ) (is : List ℕ) (flag : Option ℕ)
    → (flag ≡ None → (k : ℕ) → among (homes_of (homes_from 0 g.f.locals) is) k ≡ true → among g.a.outer k ≡ false → Forgives g (out_of q) k) → Leaves g w left r q flag
    → Leaves (blocked_in g (homes_of (homes_from 0 g.f.locals) is)) (end_way is w) (again g.a.outer (homes_of (homes_from 0 g.f.locals) is) ++ left) (ends place (homes_of (homes_from 0 g.f.locals) is) r) q flag
block_leaves g w left r q place is None forgives goes = block_left g w.breaks left (out_of q) is (forgives refl) goes
block_leaves g w left r q place is (Some flag) forgives goes = λ vs b tm ob h. block_ends (halted_in g) w.breaks r q goes place is vs b tm ob h

-- where a loop is left by its condition, and before its step: none of these objects has a block, so their Ends do nothing
pub none_left : (g : Setting) (vs : List Variable) (b : Blocks) (tm : ℕ → Held) (ob : ℕ → Option ℕ) → Stands g vs tm ob → (place : ℕ) (os : List ℕ) → ((k : ℕ) → among os k ≡ true → among g.a.around k ≡ false) → (x : Turn Control) (r : Nodes) (q : Position)
    → Alike g x (then_ r q) (own g ob tm b) → Alike g x (then_ (ends place os r) q) (own g ob tm b)
none_left g vs b tm ob h place os apart x r q goes =
    ends_then g x place os r q (own g ob tm b) (subst (λ (l : Own). Alike g x (then_ r q) l) (sym (over_none os (own g ob tm b) (λ k e. h.closed k (apart k e)))) goes)

-- a block's locals end behind it, and on every way out
pub end_goes : (g : Setting) (io : Jumps) (w : Way) (left : List ℕ) (r : Nodes) (q : Position) → GoesS g io w left r q → (place : ℕ) (is : List ℕ)
    → ((k : ℕ) → among (homes_of (homes_from 0 g.f.locals) is) k ≡ true → among g.a.outer k ≡ false → g.a.over k ≡ true)
    → GoesS (blocked_in g (homes_of (homes_from 0 g.f.locals) is)) io (end_way is w) (again g.a.outer (homes_of (homes_from 0 g.f.locals) is) ++ left) (ends place (homes_of (homes_from 0 g.f.locals) is) r) q
end_goes g io w left r q goes place is covers = record {
  at = at_end place is covers goes.at;
  end = λ vs b tm ob h. block_ends g w.end r q goes.end place is vs b tm ob h;
  breaks = λ e. block_leaves g w left r q place is g.a.flag (λ none k h apart. goes.over_breaks e none k (covers k h apart)) (goes.breaks e);
  continues = λ e. block_left g w.continues left (end_of q) is (λ k h apart. goes.over_nexts e k (covers k h apart)) (goes.continues e);
  over_breaks = goes.over_breaks;
  over_nexts = goes.over_nexts;
}

-- ---- a block begins

pub record Begun (g : Setting) (tm : ℕ → Held) (k c : ℕ) (x : Now) (l : Own) : Type 0 where
  pub both : Over g tm x l
  pub there : both.ob' k ≡ Some c

module _ (g : Setting) (vs : List Variable) (tm : ℕ → Held) (ob : ℕ → Option ℕ) (agrees : Stands g vs tm ob) where
  size_is : (i : ℕ) (l : tree.Local) → slice_get g.f.locals i ≡ Some l → size_of_local (here g) (local_at (here g) i) ≡ size_in g.t.structs l.ty
  size_is i l e = ap (λ (o : Option tree.Func). size_of_local (here g) (declared_in o i)) g.call.there ∙ ap (size_of_local (here g)) e

  object_size : (i k : ℕ) (l : tree.Local) → slice_get g.f.locals i ≡ Some l → home (frame g) i ≡ Some k → size_of (slice_get (code.objects_of (slice_get (lowered g.t).funcs g.n)) k) ≡ size_in g.t.structs l.ty
  object_size i k l e h =
      ap (λ (o : Option Func). size_of (slice_get (code.objects_of o) k)) (nth_lowered g.t g.n g.f g.call.there) ∙ ap size_of (object_at g.t.structs g.f.locals i k l e h)

  pub begin_block : (b : Blocks) (i k : ℕ) (l : tree.Local) → slice_get g.f.locals i ≡ Some l → home (frame g) i ≡ Some k → among g.a.around k ≡ true
      → Begun g tm k (length (ended_local i (now g vs b)).world.blocks) (made_local (here g) i (now g vs b)) (begun (lowered g.t) (own g ob tm b) k)
  begin_block b i k l e has inside =
      let o = end_one g vs tm ob agrees b i k has in
      let blocks_are : without b (ob k) ≡ o.b' = ap (λ (z : Own). z.blocks) o.code_is in
      let name_is : length (ended_local i (now g vs b)).world.blocks ≡ length o.b' = ap (λ (z : Now). length z.world.blocks) o.source_is in
      record {
        both = record {
          vs' = set o.vs' i (source.lies (length o.b'));
          b' = made o.b' (size_in g.t.structs l.ty) block_kinds.Local Unknown;
          ob' = set_at ob k (Some (length o.b'));
          source_is = ap (λ m. with_block i m (ended_local i (now g vs b))) (size_is i l e) ∙ ap (with_block i (size_in g.t.structs l.ty)) o.source_is;
          code_is = ap (λ m. begun_after (own g ob tm b) k m (without b (ob k))) (object_size i k l e has) ∙ ap (begun_after (own g ob tm b) k (size_in g.t.structs l.ty)) blocks_are;
          agrees' = agrees_block g o.vs' tm o.ob' o.agrees' i k has (set o.vs' i (source.lies (length o.b'))) (set_at ob k (Some (length o.b'))) (length-set o.vs' i (source.lies (length o.b'))) (λ j ne. held_there o.vs' i j (source.lies (length o.b')) ne)
              (λ m ne. set_there ob k (Some (length o.b')) m ne ∙ sym (set_there ob k None m ne) ∙ ap (λ (z : Own). z.objects m) o.code_is)
              (subst (λ y. InBlock y (set_at ob k (Some (length o.b')) k)) (sym (held_here o.vs' i (source.lies (length o.b')) (within_locals g o.vs' tm o.ob' o.agrees' i k has)))
              (subst (InBlock (source.lies (length o.b'))) (sym (set_here ob k (Some (length o.b')))) (one_block (length o.b')))) (λ z. let c : true ≡ false = sym inside ∙ z in absurd cc);
        };
        there = set_here ob k (Some (length o.b')) ∙ ap Some (sym name_is);
      }

-- ---- all blocks of a call end

module _ (g : Setting) (vs : List Variable) (tm : ℕ → Held) (ob : ℕ → Option ℕ) where
  still : (b : Blocks) (m k : ℕ) → m ≤ k → (all_ended (own g ob tm b) m).objects k ≡ ob k
  still b zero k le = refl
  still b (suc m) k le =
      let ne : k ≢ m = λ e. absurd (omega (arith, le, e)) in
      set_there (all_ended (own g ob tm b) m).objects m None k ne ∙ still b m k (omega (arith, le))

  -- a local has no block
  abbrev NoBlock : Variable → Type 0
  NoBlock x = (w : World) → without_block x w ≡ w

  one_over : (b : Blocks) (next : ℕ) (x : Variable) (o : Option ℕ) → InBlock x o → ob next ≡ o
      → without_block x (actions.with_blocks g.s (all_ended (own g ob tm b) next).blocks) ≡ actions.with_blocks g.s (all_ended (own g ob tm b) (suc next)).blocks
  one_over b next _ _ no_block e =
      ap (λ (y : Option ℕ). actions.with_blocks g.s (without (all_ended (own g ob tm b) next).blocks y)) (sym (still b next next (omega arith) ∙ e))
  one_over b next _ _ (one_block c) e =
      ap (λ (y : Option ℕ). actions.with_blocks g.s (without (all_ended (own g ob tm b) next).blocks y)) (sym (still b next next (omega arith) ∙ e))

  step_over : (b : Blocks) (next : ℕ) (x : Variable) (xs : List Variable) (o : StackObject) (os : List StackObject) (m : Bool) → (home_if m next ≡ None → NoBlock x) → ((k : ℕ) → home_if m next ≡ Some k → InBlock x (ob k))
      → without_blocks xs (actions.with_blocks g.s (all_ended (own g ob tm b) (next_home m next)).blocks) ≡ actions.with_blocks g.s (all_ended (own g ob tm b) (next_home m next + length os)).blocks
      → without_blocks xs (without_block x (actions.with_blocks g.s (all_ended (own g ob tm b) next).blocks)) ≡ actions.with_blocks g.s (all_ended (own g ob tm b) (next + length (with_object m o os))).blocks
  step_over b next x xs o os false none some rest = ap (without_blocks xs) (none refl (actions.with_blocks g.s (all_ended (own g ob tm b) next).blocks)) ∙ rest
  step_over b next x xs o os true none some rest =
      let e : suc next + length os ≡ next + suc (length os) = omega arith in
      ap (without_blocks xs) (one_over b next x (ob next) (some next refl) refl) ∙ rest ∙ ap (λ m. actions.with_blocks g.s (all_ended (own g ob tm b) m).blocks) e

  all_over : (b : Blocks) (next : ℕ) (ls : List tree.Local) (xs : List Variable) → length xs ≡ length ls
      → ((j : ℕ) → j < length ls → home_or_none (slice_get (homes_from next ls) j) ≡ None → NoBlock (held_in xs j)) → ((j k : ℕ) → home_or_none (slice_get (homes_from next ls) j) ≡ Some k → InBlock (held_in xs j) (ob k))
      → without_blocks xs (actions.with_blocks g.s (all_ended (own g ob tm b) next).blocks) ≡ actions.with_blocks g.s (all_ended (own g ob tm b) (next + length (objects_of g.t.structs ls))).blocks
  all_over b next [] [] long none some = ap (λ m. actions.with_blocks g.s (all_ended (own g ob tm b) m).blocks) (sym (add-zero next))
  all_over b next [] (x ∷ xs) long none some = absurd (omega (arith, long))
  all_over b next (l ∷ ls) [] long none some = absurd (omega (arith, long))
  all_over b next (l ∷ ls) (x ∷ xs) long none some =
      step_over b next x xs (object_of g.t.structs l) (objects_of g.t.structs ls) l.in_memory (λ e. none 0 (omega arith) e) (λ k e. some 0 k e)
      (all_over b (next_home l.in_memory next) ls xs (omega (arith, long)) (λ j lt e. none (suc j) (omega (arith, lt)) e) (λ j k e. some (suc j) k e))

  register_free : (how : Access) (x : Variable) (h : Held) → InRegister how x h → NoBlock x
  register_free how _ _ no_value w = refl
  register_free how _ _ (one_value v kind) w = refl

  free_at : (a : ℕ → Held) → Stands g vs a ob → (j : ℕ) (o : Option tree.Local) → slice_get g.f.locals j ≡ o → j < length g.f.locals → home (frame g) j ≡ None → NoBlock (held_in vs j)
  free_at a agrees j (Some l) e lt none = register_free (access_of_type l.ty) (held_in vs j) (a j) (agrees.register j l e none)
  free_at a agrees j None e lt none = absurd (past g.f.locals j e lt)
    where
      past : (ls : List tree.Local) (j : ℕ) → slice_get ls j ≡ None → j < length ls → ⊥
      past [] j e lt = absurd (omega (arith, lt))
      past (l ∷ ls) zero e lt = absurd cc
      past (l ∷ ls) (suc j) e lt = past ls j e (omega (arith, lt))

  -- the blocks that are left once a call is left
  pub blocks_over : (a : ℕ → Held) → Stands g vs a ob → (b : Blocks) → without_blocks vs (actions.with_blocks g.s b) ≡ actions.with_blocks g.s (over (lowered g.t) (own g ob tm b)).blocks
  blocks_over a agrees b =
      let e : 0 + length (objects_of g.t.structs g.f.locals) ≡ length (objects_of g.t.structs g.f.locals) = omega arith in
      all_over b 0 g.f.locals vs agrees.count (λ j lt none. free_at a agrees j (slice_get g.f.locals j) refl lt none) (λ j k has. agrees.block j k has)
      ∙ ap (λ m. actions.with_blocks g.s (all_ended (own g ob tm b) m).blocks) e
      ∙ ap (λ (o : Option Func). actions.with_blocks g.s (all_ended (own g ob tm b) (length (code.objects_of o))).blocks) (sym (nth_lowered g.t g.n g.f g.call.there))
