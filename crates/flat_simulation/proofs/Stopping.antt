-- Where a thread over words stands at the end of a turn, the other comes there from the turn's start, or breaks a rule before.
use Rattle.std.proofs.Common.{◌≡◌, ℕ, ◌+◌, List, [], length, true, Ok, Err, refl, sym, ap, ◌∙◌, ◌⊎◌, inl, inr}
use Rattle.block_store.specs.Actions.{World, with_blocks}
use Rattle.arena_meaning.specs.Arena.{Storage}
use Rattle.struct_ir.specs.Nodes.{Ir}
use Rattle.struct_ir.specs.Flow.{Here, does, tests, passes, round, returns}
use Rattle.struct_ir.specs.Machine.{Point, stops, stopped_or, after_act, ahead_at, ahead, run, IsRun}
use Rattle.struct_ir.specs.Threads.{Thread}
use Rattle.struct_ir.proofs.Runs.{runs_are_steps}
use Rattle.struct_ir.specs.meaning.Blocks.{Own, Fault, ends_turn, blocks_machine}
use Rattle.flat_meaning.specs.Image.{Image, stack_address}
use Rattle.flat_meaning.specs.Words.{Words}
use Rattle.flat_meaning.specs.Memory.{Memory}
use Rattle.flat_meaning.specs.Names.{Name}
use Rattle.flat_meaning.specs.Stands.{in_blocks}
use Rattle.flat_simulation.specs.inner.Values.{AnyBlock, KnownIn}
use Rattle.flat_simulation.specs.inner.Turns.{Far, IsClear}
use Rattle.flat_simulation.specs.inner.Lags.{StandsIn, CatchesUpInTurn, comes, breaks}
use Rattle.flat_simulation.specs.inner.Programs.{IsImage}
use Rattle.flat_simulation.specs.inner.Worlds.{WorldStands, TurnEnded}
use Rattle.flat_simulation.specs.inner.Threads.{CallersStand, ThreadStands}
use Rattle.flat_simulation.proofs.Blocks.{aged_still}
use Rattle.flat_simulation.proofs.Points.{call_still, point_later}
use Rattle.flat_simulation.proofs.Settled.{settled_world, settled, settled_clear, settled_callers}

-- a turn over named blocks ends before this
abbrev pub IsStop : Here → Type 0
IsStop (does place a) = ends_turn a ≡ true
IsStop (tests place temp) = ⊥
IsStop passes = ⊥
IsStop round = Unit {0}
IsStop (returns temp) = Unit {0}

module _ {P : Type 0} (x : Image P) (p : Ir) where
  -- so nothing is ahead of it
  stops_there : (y : Point P Own) (h : Here) → IsStop h → ahead_at x.flow (blocks_machine p) y h ≡ stops
  stops_there y (does place a) stop = ap (λ b. stopped_or b (after_act (x.flow.next y.at true) ((blocks_machine p).does place a y.own))) stop
  stops_there y (tests place temp) stop = absurd stop
  stops_there y passes stop = absurd stop
  stops_there y round stop = refl
  stops_there y (returns temp) stop = refl

module _ {P : Type 0} (x : Image P) (p : Ir) (image : IsImage x p) (thread : ℕ) (names : List Name) (w : World) (m : Memory) (world : WorldStands x.layout p names w m) (k : Thread P Own) (q : Thread P Words) (stand : ThreadStands x p thread names w.blocks m.storage k q)
    (stop : IsStop (x.flow.here q.top.at)) where
  abbrev s : Storage
  s = m.storage

  abbrev K : ℕ → Type 0
  K = KnownIn (length w.blocks) (length w.blocks)

  -- the other stops at the same place, with the blocks that the turn has made by then
  pub record Stopped : Type 0 where
    pub made_names : List Name
    pub own : Own
    pub runs : run x.flow (blocks_machine p) (in_blocks w.blocks k.top) ≡ Ok (record { at = q.top.at; own = own })
    pub far : Far x.layout (length w.blocks) names w.blocks made_names thread own q.top.own
    pub stands : StandsIn x p thread made_names K s (record { at = q.top.at; own = own }) q.top

  -- it stops there, or has a fault before
  pub stops_or_breaks : Stopped ⊎ ((f : Fault) × (run x.flow (blocks_machine p) (in_blocks w.blocks k.top) ≡ Err f))
  stops_or_breaks = by_turn (stand.top names w.blocks (aged_still names w.blocks world.blocks.names_stand.each))
    where
      is_run : IsRun x.flow (blocks_machine p)
      is_run = runs_are_steps P Own Fault x.flow image.shrinks (blocks_machine p)

      by_turn : CatchesUpInTurn x p thread (length w.blocks) names w.blocks s k.top q.top → Stopped ⊎ ((f : Fault) × (run x.flow (blocks_machine p) (in_blocks w.blocks k.top) ≡ Err f))
      by_turn (breaks f e) = inr (f, e)
      by_turn (comes y n steps far stands) =
          let end : ahead x.flow (blocks_machine p) y ≡ stops = ap (λ at. ahead_at x.flow (blocks_machine p) y (x.flow.here at)) (sym stands.here) ∙ stops_there x p y (x.flow.here q.top.at) stop in
          let is : y ≡ record { at = q.top.at; own = y.own } = ap (λ at. record { at = at; own = y.own }) (sym stands.here) in
          inl (record {
            made_names = n;
            own = y.own;
            runs = is_run.stops_only (in_blocks w.blocks k.top) y steps end ∙ ap Ok is;
            far = far;
            stands = record { here = refl; call = stands.call; way = stands.way; path = stands.path; slots = stands.slots };
          })

  module _ (t : Stopped) where
    -- what threads share, with those blocks
    abbrev pub left : World
    left = with_blocks w t.own.blocks

    pub stopped_world : WorldStands x.layout p t.made_names left m
    stopped_world = settled_world x p image thread stand.stack names w m world t.made_names t.own q.top.own stand.frame t.far t.stands.call

    pub stopped_ended : TurnEnded x.layout p thread names t.made_names [] w left m m
    stopped_ended = settled x p image thread stand.stack names w m world t.made_names t.own q.top.own stand.frame t.far t.stands.call

    pub stopped_stands : StandsIn x p thread t.made_names AnyBlock s (record { at = q.top.at; own = t.own }) q.top
    stopped_stands =
        point_later x p thread t.made_names t.made_names K AnyBlock s s (record { at = q.top.at; own = t.own }) q.top t.own.blocks (aged_still t.made_names t.own.blocks t.far.aged.each_later) (λ n lt kn. tt)
        (call_still x p thread t.made_names t.own.blocks t.own.blocks s q.top) t.stands

    pub stopped_clear : IsClear t.made_names AnyBlock t.own.blocks (stack_address x.layout thread + q.top.own.below.stack) (stack_address x.layout thread + x.layout.limits.stack) t.own.objects
    stopped_clear = settled_clear x p image thread stand.stack names w m world t.made_names t.own q.top.own stand.frame t.far t.stands.call

    pub stopped_callers : CallersStand x p thread t.made_names t.own.blocks s q.top.own.below.stack k.callers q.callers
    stopped_callers = settled_callers x p image thread stand.stack names w m world t.made_names t.own q.top.own stand.frame t.far t.stands.call k.callers q.callers stand.callers
