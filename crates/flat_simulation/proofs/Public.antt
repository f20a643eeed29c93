-- What proofs keep of threads and of the state is what the law says of them.
use Rattle.std.proofs.Common.{◌≡◌, ℕ, List, [], ◌∷◌, ◌++◌, length, Option, Some, None, refl, sym, ap, subst, inl}
use Rattle.block_store.specs.declared.values.Ptr.TheVariants.{To}
use Rattle.block_store.specs.declared.values.Value.TheVariants as values
use Rattle.block_store.specs.Blocks.{Blocks}
use Rattle.block_store.specs.Runs as runs
use Rattle.block_store.specs.Runs.{own_at}
use Rattle.arena_meaning.specs.Arena.{Storage}
use Rattle.struct_ir.specs.Nodes.{Ir}
use Rattle.struct_ir.specs.Flow.{entry}
use Rattle.struct_ir.specs.Machine.{Point, still}
use Rattle.struct_ir.specs.Threads.{Thread}
use Rattle.struct_ir.specs.meaning.Blocks.{Held, value, Own}
use Rattle.struct_ir.specs.meaning.Threads.{first_own}
use Rattle.flat_meaning.specs.Image.{Image}
use Rattle.flat_meaning.specs.Words.{Words, word_at}
use Rattle.flat_meaning.specs.Stages.{Stage, starts, going, waiting, landed, first_thread}
use Rattle.flat_meaning.specs.Events.{MachineState}
use Rattle.flat_meaning.specs.Names.{Name}
use Rattle.flat_meaning.specs.Stands as public
use Rattle.flat_meaning.specs.Stands.{in_blocks}
use Rattle.flat_simulation.specs.inner.Aged.{Aged}
use Rattle.flat_simulation.specs.inner.Values.{AnyBlock, KnownIn, Stands}
use Rattle.flat_simulation.specs.inner.Calls.{CallStands}
use Rattle.flat_simulation.specs.inner.Lags.{StandsIn, CatchesUpInTurn, comes, breaks, InTurn}
use Rattle.flat_simulation.specs.inner.Programs.{IsImage}
use Rattle.flat_simulation.specs.inner.Threads.{CallersStand, ThreadStands, StartStands, LandedStands, StageStands, StateStands}
use Rattle.flat_simulation.proofs.Entered.{first_call_stands}
use Rattle.flat_simulation.proofs.Made.{world_agrees}
use Rattle.flat_simulation.proofs.Values.{agrees, pointer_later}

append_nothing : (xs : List Name) → xs ≡ xs ++ []
append_nothing [] = refl
append_nothing (n ∷ xs) = ap (λ z. n ∷ z) (append_nothing xs)

module _ {P : Type 0} (x : Image P) (p : Ir) (thread : ℕ) where
  -- a call
  own_stands : (names : List Name) (K : ℕ → Type 0) (l : Own) (q : Words) → CallStands x.layout p thread names K l q → public.OwnStands x thread names l q
  own_stands names K l q stand = record { function = stand.function; temps = λ r below. agrees names l.blocks K (l.temps r) (word_at q r) (stand.temps r below); objects = λ i block e. (stand.objects i block e).there.at }

  pub point_stands : (names : List Name) (K : ℕ → Type 0) (s : Storage) (k : Point P Own) (q : Point P Words) → StandsIn x p thread names K s k q → public.PointStands x thread names s k q
  point_stands names K s k q stand = record {
    here = stand.here;
    own = own_stands names K k.own q.own stand.call;
    function = q.own.function;
    way = stand.way;
    path = stand.path;
    slots = λ slot base e. (stand.slots slot base e).1;
  }

  callers_stand : (names : List Name) (blocks : Blocks) (s : Storage) (above : ℕ) (ks : List (Point P Own)) (qs : List (Point P Words)) → CallersStand x p thread names blocks s above ks qs → public.CallersStand x thread names blocks s ks qs
  callers_stand names blocks s above [] [] stand = tt
  callers_stand names blocks s above [] (q ∷ qs) stand = absurd stand
  callers_stand names blocks s above (k ∷ ks) [] stand = absurd stand
  callers_stand names blocks s above (k ∷ ks) (q ∷ qs) stand = (point_stands names AnyBlock s (in_blocks blocks k) q stand.0.point, stand.0.call, callers_stand names blocks s q.own.below.stack ks qs stand.1)

  -- ---- within a turn

  -- what a pointer points to is known
  is_known : (names : List Name) (K : ℕ → Type 0) (blocks : Blocks) (block offset : ℕ) (h : Held) (word : ℕ) → Stands names K blocks h word → h ≡ value (values.Pointer (To block offset)) → K block
  is_known names K blocks block offset h word stand e = (subst (λ z. Stands names K blocks z word) e stand).known

  lags : (all : List Name) (blocks later : Blocks) (s : Storage) (k : Point P Own) (q : Point P Words) → CatchesUpInTurn x p thread (length blocks) all later s k q → public.CatchesUp x p thread all blocks later s k q
  lags all blocks later s k q (breaks f e) = public.breaks f e
  lags all blocks later s k q (comes y n path far at) =
      let first = far.aged.first in
      public.comes y first.0 path (point_stands (all ++ first.0) (KnownIn (length blocks) (length later)) s y q (subst (λ z. StandsIn x p thread z (KnownIn (length blocks) (length later)) s y q) first.1 at))
      (λ r block offset below e. is_known n (KnownIn (length blocks) (length later)) y.own.blocks block offset (y.own.temps r) (word_at q.own r) (at.call.temps r below) e)

  reaches : (names : List Name) (blocks : Blocks) (s : Storage) (k : Point P Own) (q : Point P Words) → length names ≡ length blocks → InTurn x p thread names blocks s k q → public.AlwaysCatchesUp x p thread names blocks s k q
  reaches names blocks s k q each turn later all ages first each_later = lags all blocks later s k q (turn all later (record { ages = ages; first = first; each = each; each_later = each_later }))

  thread_stands : (names : List Name) (blocks : Blocks) (s : Storage) (k : Thread P Own) (q : Thread P Words) → length names ≡ length blocks → ThreadStands x p thread names blocks s k q → public.ThreadStands x p thread names blocks s k q
  thread_stands names blocks s k q each stand = record { top = reaches names blocks s k.top q.top each stand.top; callers = callers_stand names blocks s q.top.own.below.stack k.callers q.callers stand.callers }

  -- ---- the other stages

  landed_stands : (names : List Name) (blocks : Blocks) (s : Storage) (list : List ℕ) (k : Thread P Own) (q : Thread P Words) → LandedStands x p thread names blocks s list k q → public.LandedStands x thread names blocks s list k q
  unfolding point_stands
  landed_stands names blocks s list k q stand = record {
    top = point_stands names AnyBlock s (in_blocks blocks k.top) q.top stand.fresh.top;
    listed = stand.listed;
    callers = callers_stand names blocks s q.top.own.below.stack k.callers q.callers stand.fresh.callers;
  }

  module _ (image : IsImage x p) where
    start_stands : (names : List Name) (blocks : Blocks) (s : Storage) (k : Thread P Own) (function argument : ℕ) → length names ≡ length blocks → StartStands x p thread names blocks k function argument
        → public.ThreadStands x p thread names blocks s k (first_thread x function argument)
    start_stands names blocks s k function argument each stand =
        subst (λ (z : Thread P Own). public.ThreadStands x p thread names blocks s z (first_thread x function argument)) (sym stand.begins) (record {
          top = λ later all ages first each_later. at_first later all (record { ages = ages; first = first; each = each; each_later = each_later });
          callers = tt;
        })
      where
        begins : Point P Own
        begins = record { at = x.start function; own = first_own p function stand.pointer }

        at_first : (later : Blocks) (all : List Name) → Aged names all blocks later → public.CatchesUp x p thread all blocks later s begins (first_thread x function argument).top
        at_first later all aged =
            let pointer = pointer_later names all blocks later aged AnyBlock (KnownIn (length blocks) (length later)) (λ block lt kn. inl lt) stand.pointer argument stand.argument_stands in
            let call = first_call_stands x p image function stand.func stand.there thread all (KnownIn (length blocks) (length later)) later stand.pointer argument pointer in
            let at : StandsIn x p thread all (KnownIn (length blocks) (length later)) s (in_blocks later begins) (first_thread x function argument).top = record { here = refl; call = call; way = []; path = entry; slots = λ slot base i. absurd cc } in
            let nothing : all ≡ all ++ [] = append_nothing all in
            public.comes (in_blocks later begins) [] still (point_stands (all ++ []) (KnownIn (length blocks) (length later)) s (in_blocks later begins) (first_thread x function argument).top
            (subst (λ z. StandsIn x p thread z (KnownIn (length blocks) (length later)) s (in_blocks later begins) (first_thread x function argument).top) nothing at))
            (λ r block offset below e. is_known all (KnownIn (length blocks) (length later)) later block offset ((first_own p function stand.pointer).temps r) (word_at (first_thread x function argument).top.own r) (call.temps r below) e)

    stage_stands : (names : List Name) (blocks : Blocks) (s : Storage) → length names ≡ length blocks → (k : Option (Thread P Own)) (g : Option (Stage P)) → StageStands x p thread names blocks s k g → public.StageStands x p thread names blocks s k g
    stage_stands names blocks s each (Some k) (Some (starts function argument)) stand = start_stands names blocks s k function argument each stand
    stage_stands names blocks s each (Some k) (Some (going q)) stand = thread_stands names blocks s k q each stand
    stage_stands names blocks s each (Some k) (Some (waiting q)) stand = thread_stands names blocks s k q each stand
    stage_stands names blocks s each (Some k) (Some (landed list q)) stand = landed_stands names blocks s list k q stand
    stage_stands names blocks s each (Some k) None stand = absurd stand
    stage_stands names blocks s each None (Some g) stand = absurd stand
    stage_stands names blocks s each None None stand = tt

-- the state of the machine stands for the source's
pub state_stands : {P : Type 0} (x : Image P) (p : Ir) → IsImage x p → (names : List Name) (u : runs.State (Thread P Own)) (s : MachineState P) → StateStands x p names u s → public.StandsFor x p names u s
state_stands x p image names u s stand = record {
  world = world_agrees x.layout p names u.world s.memory stand.world;
  count = stand.count;
  threads = λ thread. stage_stands x p thread image names u.world.blocks s.memory.storage stand.world.blocks.names_stand.each (own_at u.own thread) (own_at s.own thread) (stand.threads thread);
}
