-- Threads of two codes of which the second follows the first: the first may still stand before marks that the second doesn't have.
use Rattle.std.specs.Prelude.{◌≡◌, ◌≢◌, ℕ, ◌≤◌, List, length, Option, Some, None}
use Rattle.block_store.specs.Runs.{own_at}
use Rattle.struct_ir.specs.Flow.{Flow, IsCall}
use Rattle.struct_ir.specs.Threads.{Thread}
use Rattle.struct_ir.specs.Alike.{LevelThreads, SameThreads}
use Rattle.flat_meaning.specs.Image.{Layout, Image}
use Rattle.flat_meaning.specs.Words.{Words}
use Rattle.flat_meaning.specs.Memory.{Memory}
use Rattle.flat_meaning.specs.Stages.{Stage, starts, going, waiting, landed, Advance}
use Rattle.flat_meaning.specs.Effects.{Effect}
use Rattle.flat_meaning.specs.Events.{MachineState}

-- code, where its functions begin, and the rest of a program
abbrev pub image : {P : Type 0} → Flow P → (ℕ → P) → Layout → Image P
image C code Y = record { flow = C; start = code; layout = Y }

module _ {P Q : Type 0} (C : Flow P) (D : Flow Q) (R : P → Q → Type 0) where
  -- both stand before the same; or they are level, and the second stands before no call
  pub data Near (t : Thread P Words) (u : Thread Q Words) : Type 0 where
    same : SameThreads C D R t u → Near t u
    level : LevelThreads C D R t u → (IsCall (D.here u.top.at) → ⊥) → Near t u

  -- they went on alone alike
  abbrev pub GonesMatch : Advance P → Advance Q → Type 0
  GonesMatch g h = (h.turns ≡ g.turns) × Near g.thread h.thread

  -- their stages, by kind
  abbrev pub StagesMatch : Option (Stage P) → Option (Stage Q) → Type 0
  StagesMatch None None = Unit {0}
  StagesMatch (Some (starts f a)) (Some (starts g b)) = (g ≡ f) × (b ≡ a)
  StagesMatch (Some (going t)) (Some (going u)) = Near t u
  StagesMatch (Some (waiting t)) (Some (waiting u)) = SameThreads C D R t u
  StagesMatch (Some (landed list t)) (Some (landed other u)) = (other ≡ list) × LevelThreads C D R t u
  StagesMatch _ o = ⊥

  -- all stages but that of one thread; none of the threads that were made is without one
  pub record OthersMatch (thread : ℕ) (m : Memory) (own : List (Option (Stage P))) (other : List (Option (Stage Q))) : Type 0 where
    pub count : length other ≡ length own
    pub made : length m.threads ≤ length own
    pub each : (n : ℕ) → n ≢ thread → StagesMatch (own_at own n) (own_at other n)

  -- all stages
  pub record OwnsMatch (m : Memory) (own : List (Option (Stage P))) (other : List (Option (Stage Q))) : Type 0 where
    pub count : length other ≡ length own
    pub made : length m.threads ≤ length own
    pub each : (n : ℕ) → StagesMatch (own_at own n) (own_at other n)

  -- the same is shared, and as long as the run hasn't ended all stages match
  pub record StatesMatch (s : MachineState P) (r : MachineState Q) : Type 0 where
    pub memory : r.memory ≡ s.memory
    pub end : r.end ≡ s.end
    pub stages : r.end ≡ None → OwnsMatch s.memory s.own r.own

  -- the same came of what each of them did
  pub record EffectsMatch (e : Effect P) (f : Effect Q) : Type 0 where
    pub memory : f.memory ≡ e.memory
    pub end : f.end ≡ e.end
    pub stage : StagesMatch e.stage f.stage
