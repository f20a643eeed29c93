-- A turn under way, on both sides, and what has to follow a value and a statement.
use Rattle.std.proofs.Common.{◌≡◌, ℕ, ◌≤◌, true, List, [], ◌∷◌, length, Option, Some, None, subst}
use Rattle.block_store.specs.declared.values.Access.{Access}
use Rattle.block_store.specs.declared.values.Answer.{Answer}
use Rattle.block_store.specs.declared.values.Value.{Value}
use Rattle.block_store.specs.declared.values.Value.TheVariants as values
use Rattle.block_store.specs.Actions as actions
use Rattle.block_store.specs.Actions.{World}
use Rattle.block_store.specs.Blocks.{Blocks}
use Rattle.block_store.specs.Runs.{Turn}
use Rattle.c_tree.specs.Typed as tree
use Rattle.c_tree.specs.TypedForm.{Jumps, IsFunc, IsWellFormed}
use Rattle.c_meaning.specs.Control.{Variable, Caller, Control, Loop}
use Rattle.c_meaning.specs.Turns.{TurnContext, Now, WayOfUse, Way}
use Rattle.struct_ir.specs.Nodes.{Nodes, no_nodes}
use Rattle.struct_ir.specs.Structured.{Position, then_, out_of, end_of}
use Rattle.struct_ir.specs.Machine.{Point}
use Rattle.struct_ir.specs.Threads.{Thread}
use Rattle.struct_ir.specs.meaning.Blocks.{Held, value, Own, object_ended}
use Rattle.lower_forms.specs.Forms.{Reach, found, Frame, home, among}
use Rattle.lower_forms.specs.Programs.{homes_from, lowered}
use Rattle.lower_turns.proofs.Relation.{HasKind, Below, Points, Around, running, in_the_body, in_the_step, halted, AgreesIn, fr, AtE, AtS, at_found, at_inside, at_inner, AllBegin, InCall, Callers, Together}
use Rattle.lower_turns.proofs.Registers.{below_less, below_then, use_below, agrees_below}
use Rattle.lower_turns.proofs.Steps.{onward, no_more, then_same}

-- what stays the same in a turn
pub record Setting : Type 0 where
  pub t : tree.Typed
  pub well : IsWellFormed t
  pub thread : ℕ
  pub answer : Answer
  pub s : World
  pub begun : AllBegin t s
  pub n : ℕ
  pub f : tree.Func
  pub call : InCall t n f
  pub is_func : IsFunc t f
  -- where the statement stands
  pub a : Around
  pub low : length f.locals ≤ a.first
  pub cs : List Caller
  pub cs' : List (Point Position Own)
  pub callers : Callers t n cs cs'

abbrev pub here : Setting → TurnContext
here g = record { typed = g.t; thread = g.thread; answer = g.answer; function = g.n; callers = g.cs }

abbrev pub now : Setting → List Variable → Blocks → Now
now g vs b = record { locals = vs; world = actions.with_blocks g.s b }

abbrev pub own : Setting → (ℕ → Option ℕ) → (ℕ → Held) → Blocks → Own
own g ob tm b = record { function = g.n; temps = tm; objects = ob; blocks = b }

abbrev pub goes_on : Setting → Position → Own → Turn (Thread Position Own)
goes_on g k l = onward (lowered g.t) g.thread g.answer g.cs' g.s k l

abbrev pub Alike : Setting → Turn Control → Position → Own → Type 0
Alike g x k l = Together g.t x (onward (lowered g.t) g.thread g.answer g.cs' g.s k l)

abbrev pub frame : Setting → Frame
frame g = fr g.t g.n g.f g.a

abbrev pub start : Setting → ℕ
start g = g.a.first

-- the locals agree, and the registers of the switches around hold what they do while their statements are executed
abbrev pub Stands : Setting → List Variable → (ℕ → Held) → (ℕ → Option ℕ) → Type 0
Stands g vs tm ob = AgreesIn g.f g.a vs tm ob

-- the same where another statement stands
abbrev pub at_around : (g : Setting) (a : Around) → length g.f.locals ≤ a.first → Setting
at_around g a low = record {
  t = g.t;
  well = g.well;
  thread = g.thread;
  answer = g.answer;
  s = g.s;
  begun = g.begun;
  n = g.n;
  f = g.f;
  call = g.call;
  is_func = g.is_func;
  a = a;
  low = low;
  cs = g.cs;
  cs' = g.cs';
  callers = g.callers;
}

-- the stack object of a local is one of a block around
abbrev pub IsOpen : Setting → ℕ → Type 0
IsOpen g i = (k : ℕ) → home (frame g) i ≡ Some k → among g.a.around k ≡ true

-- in a loop's body, in its step, and where a break has cleared the flag around
abbrev pub body_in : Setting → Loop → Setting
body_in g l = at_around g (in_the_body g.t g.n g.f g.a l) g.low

abbrev pub step_in : Setting → Setting
step_in g = at_around g (in_the_step g.t g.n g.f g.a) g.low

abbrev pub halted_in : Setting → Setting
halted_in g = at_around g (halted g.a) g.low

-- each local has a register of its own below the first free one
pub start_is : (g : Setting) → length g.f.locals ≤ start g
start_is g = g.low

pub agrees_on : (g : Setting) (vs : List Variable) (a b : ℕ → Held) (ob : ℕ → Option ℕ) (u : ℕ) → start g ≤ u → Stands g vs a ob → Below u a b → Stands g vs b ob
agrees_on g vs a b ob u le h w = agrees_below (homes_from 0 g.f.locals) g.a.first (running g.a) g.a.around g.f.locals vs a b ob h (below_less u (start g) a b le w)

-- ---- after a value

pub record GoesE (g : Setting) (vs : List Variable) (ob : ℕ → Option ℕ) (b : Blocks) (tm : ℕ → Held) (w : WayOfUse) (u : ℕ) (how : Access) (rch : Reach) (r : Nodes) (q : Position) : Type 0 where
  pub at : AtE g.t g.n g.f ob tm g.a w.k u how rch r q
  pub above : start g ≤ u
  pub agrees : Stands g vs tm ob
  pub go : (v : Value) (tm' : ℕ → Held) → HasKind how v → Below u tm tm' → tm' u ≡ value v → Points tm' rch u v → Alike g (w.go v (now g vs b)) (then_ r q) (own g ob tm' b)

pub points_found : (tm : ℕ → Held) (u : ℕ) (v : Value) → tm u ≡ value v → Points tm found u v
points_found tm u (values.Num n) e = tt
points_found tm u (values.Pointer p) e = e

module _ (g : Setting) (vs : List Variable) (ob : ℕ → Option ℕ) (b : Blocks) (tm : ℕ → Held) (w : WayOfUse) (u : ℕ) (how : Access) where
  -- other registers from u on
  pub later : (tm' : ℕ → Held) (rch : Reach) (r : Nodes) (q : Position) → Below u tm tm' → GoesE g vs ob b tm w u how rch r q → GoesE g vs ob b tm' w u how rch r q
  later tm' rch r q below goes = record {
    at = use_below g.t g.n g.f ob tm tm' g.a w.k u how rch r q goes.at below;
    above = goes.above;
    agrees = agrees_on g vs tm tm' ob u goes.above goes.agrees below;
    go = λ v a kind under is points. goes.go v a kind (below_then u tm tm' a below under) is points;
  }

  -- how the object is reached counts nowhere
  pub anyhow : (rch : Reach) (r : Nodes) (q : Position) → GoesE g vs ob b tm w u how found r q → GoesE g vs ob b tm w u how rch r q
  anyhow rch r q goes = record {
    at = at_found rch goes.at;
    above = goes.above;
    agrees = goes.agrees;
    go = λ v a kind under is points. goes.go v a kind under is (points_found a u v is);
  }

  -- at the end of a row
  pub inner : (rch : Reach) (r : Nodes) (q : Position) → GoesE g vs ob b tm w u how rch r q → GoesE g vs ob b tm w u how rch no_nodes (then_ r q)
  inner rch r q goes = record {
    at = at_inside goes.at;
    above = goes.above;
    agrees = goes.agrees;
    go = λ v a kind under is points. then_same (lowered g.t) g.thread g.answer g.cs' g.s g.t _ _ _ _ _ (no_more (lowered g.t) g.thread g.answer g.cs' g.s (then_ r q) (own g ob a b)) (goes.go v a kind under is points);
  }

  -- a kind that is the same
  pub of_kind : (how' : Access) (rch : Reach) (r : Nodes) (q : Position) → how ≡ how' → GoesE g vs ob b tm w u how rch r q → GoesE g vs ob b tm w u how' rch r q
  of_kind how' rch r q e goes = subst (λ x. GoesE g vs ob b tm w u x rch r q) e goes

-- ---- after a statement

-- the objects that end where a loop is left
abbrev pub objects_over : List ℕ → Own → Own
objects_over [] l = l
objects_over (i ∷ is) l = objects_over is (object_ended l i)

-- a break: out of the loop around, or to what follows, where the flag is cleared
abbrev pub Leaves : Setting → Way → List ℕ → Nodes → Position → Option ℕ → Type 0
Leaves g w left r q None = (vs : List Variable) (b : Blocks) (tm : ℕ → Held) (ob : ℕ → Option ℕ) → Stands g vs tm ob → Alike g (w.breaks (now g vs b)) (out_of q) (objects_over left (own g ob tm b))
Leaves g w left r q (Some flag) = (vs : List Variable) (b : Blocks) (tm : ℕ → Held) (ob : ℕ → Option ℕ) → Stands (halted_in g) vs tm ob → Alike g (w.breaks (now g vs b)) (then_ r q) (own g ob tm b)

-- at this position an object that hasn't ended yet makes no difference
abbrev pub Forgives : Setting → Position → ℕ → Type 0
Forgives g q k = (l : Own) → onward (lowered g.t) g.thread g.answer g.cs' g.s q (object_ended l k) ≡ onward (lowered g.t) g.thread g.answer g.cs' g.s q l

pub record GoesS (g : Setting) (io : Jumps) (w : Way) (left : List ℕ) (r : Nodes) (q : Position) : Type 0 where
  pub at : AtS g.t g.n g.f g.a io w.k left r q
  pub end : (vs : List Variable) (b : Blocks) (tm : ℕ → Held) (ob : ℕ → Option ℕ) → Stands g vs tm ob → Alike g (w.end (now g vs b)) (then_ r q) (own g ob tm b)
  pub breaks : io.breaks ≡ true → Leaves g w left r q g.a.flag
  pub continues : io.continues ≡ true → (vs : List Variable) (b : Blocks) (tm : ℕ → Held) (ob : ℕ → Option ℕ) → Stands g vs tm ob
      → Alike g (w.continues (now g vs b)) (end_of q) (objects_over left (own g ob tm b))
  -- what ends anyway behind the loop around, and before its step
  pub over_breaks : io.breaks ≡ true → g.a.flag ≡ None → (k : ℕ) → g.a.over k ≡ true → Forgives g (out_of q) k
  pub over_nexts : io.continues ≡ true → (k : ℕ) → g.a.over k ≡ true → Forgives g (end_of q) k

pub row_ends : (g : Setting) (x : Turn Control) (q : Position) (l : Own) → Alike g x q l → Alike g x (then_ no_nodes q) l
row_ends g x q l h = then_same (lowered g.t) g.thread g.answer g.cs' g.s g.t x (then_ no_nodes q) q l l (no_more (lowered g.t) g.thread g.answer g.cs' g.s q l) h

-- at the end of a row
pub inner_row : (g : Setting) (io : Jumps) (w : Way) (left : List ℕ) (r : Nodes) (q : Position) → GoesS g io w left r q → GoesS g io w left no_nodes (then_ r q)
inner_row g io w left r q goes = record {
  at = at_inner goes.at;
  end = λ vs b tm ob h. row_ends g (w.end (now g vs b)) (then_ r q) (own g ob tm b) (goes.end vs b tm ob h);
  breaks = λ e. inner_leaves g.a.flag (goes.breaks e);
  continues = goes.continues;
  over_breaks = goes.over_breaks;
  over_nexts = goes.over_nexts;
}
  where
    inner_leaves : (flag : Option ℕ) → Leaves g w left r q flag → Leaves g w left no_nodes (then_ r q) flag
    inner_leaves None h = h
    inner_leaves (Some flag) h = λ vs b tm ob agrees. row_ends g (w.breaks (now g vs b)) (then_ r q) (own g ob tm b) (h vs b tm ob agrees)
