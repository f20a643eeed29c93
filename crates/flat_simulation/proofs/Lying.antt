-- The stack objects of linear code's threads lie where those of the structured code do.
use Rattle.std.proofs.Common.{◌≡◌, ℕ, List, [], ◌∷◌, length, Option, Some, None, refl, sym, subst, arith, append-nil}
use Rattle.block_store.specs.Blocks.{Blocks}
use Rattle.arena_meaning.specs.Arena.{Storage}
use Rattle.struct_ir.specs.Nodes.{Ir}
use Rattle.struct_ir.specs.Flow.{Flow}
use Rattle.struct_ir.specs.Machine.{Point, still}
use Rattle.struct_ir.specs.Linear.{Spot}
use Rattle.struct_ir.specs.Structured.{Position, structured}
use Rattle.struct_ir.specs.Threads.{Thread}
use Rattle.struct_ir.specs.Alike.{SameCallers}
use Rattle.struct_ir.specs.meaning.Blocks.{Own}
use Rattle.flat_meaning.specs.Image.{Layout, Image}
use Rattle.flat_meaning.specs.Words.{Words}
use Rattle.flat_meaning.specs.Stages.{Stage, starts, going, waiting, landed, first_thread, thread_at}
use Rattle.flat_meaning.specs.Names.{Name}
use Rattle.flat_meaning.specs.Stands as public
use Rattle.flat_meaning.specs.Stands.{in_blocks, OwnStands, PointStands, Ages, CatchesUp}
use Rattle.flat_simulation.specs.LinearSteps.{source_image, TopLies, comes, breaks, CallersLie, StackLies}
use Rattle.flat_simulation.specs.inner.Level.{image, Near, same, level, StagesMatch}
use Rattle.flat_simulation.proofs.TurnsStand.{still_first}

module _ (Y : Layout) (p : Ir) (D : Flow Spot) (code' : ℕ → Spot) (R : Position → Spot → Type 0) (thread : ℕ) (names : List Name) (blocks : Blocks) (s : Storage) (each : length names ≡ length blocks) where
  abbrev x : Image Position
  x = source_image p Y

  abbrev y : Image Spot
  y = image D code' Y

  abbrev Lies : Thread Position Own → Thread Spot Words → Type 0
  Lies k u = StackLies x p thread names blocks k u

  top_lies : (k : Point Position Own) (q : Point Position Words) → CatchesUp x p thread names blocks blocks s k q → TopLies x p thread names blocks k q.own
  top_lies k q (public.comes stop made steps at known) = comes stop made steps at.own
  top_lies k q (public.breaks f e) = breaks f e

  same_blocks : Ages blocks blocks
  same_blocks = record { more = omega arith; lives = λ block b lt e. (b, e, refl, refl) }

  callers_lie : (ks : List (Point Position Own)) (qs : List (Point Position Words)) (us : List (Point Spot Words)) → public.CallersStand x thread names blocks s ks qs → SameCallers structured D R qs us → CallersLie x thread names blocks ks us
  callers_lie [] [] [] a b = tt
  callers_lie [] [] (u ∷ us) a b = absurd b
  callers_lie [] (q ∷ qs) us a b = absurd a
  callers_lie (k ∷ ks) [] us a b = absurd a
  callers_lie (k ∷ ks) (q ∷ qs) [] a b = absurd b
  callers_lie (k ∷ ks) (q ∷ qs) (u ∷ us) a b = (subst (λ l. OwnStands x thread names (in_blocks blocks k).own l) (sym b.0.own) a.0.own, callers_lie ks qs us a.2 b.1)

  thread_lies : (k : Thread Position Own) (q : Thread Position Words) (u : Thread Spot Words) → public.ThreadStands x p thread names blocks s k q → u.top.own ≡ q.top.own → SameCallers structured D R q.callers u.callers → Lies k u
  thread_lies k q u z own calls = record {
    top = subst (λ l. TopLies x p thread names blocks k.top l) (sym own) (top_lies k.top q.top (z.top blocks names same_blocks (still_first names) each));
    callers = callers_lie k.callers q.callers u.callers z.callers calls;
  }

  landed_lies : (list : List ℕ) (k : Thread Position Own) (q : Thread Position Words) (u : Thread Spot Words) → public.LandedStands x thread names blocks s list k q → u.top.own ≡ q.top.own → SameCallers structured D R q.callers u.callers → Lies k u
  landed_lies list k q u z own calls = record {
    top = subst (λ l. TopLies x p thread names blocks k.top l) (sym own)
        (comes (in_blocks blocks k.top) [] still (subst (λ l. OwnStands x thread l (in_blocks blocks k.top).own q.top.own) (sym (append-nil names)) z.top.own));
    callers = callers_lie k.callers q.callers u.callers z.callers calls;
  }

  first_callers : (ks : List (Point Position Own)) → public.CallersStand x thread names blocks s ks [] → CallersLie x thread names blocks ks []
  first_callers [] a = tt
  first_callers (k ∷ ks) a = absurd a

  starts_lie : (k : Thread Position Own) (f a g b : ℕ) → public.ThreadStands x p thread names blocks s k (first_thread x f a) → g ≡ f → b ≡ a → Lies k (first_thread y g b)
  starts_lie k f a g b z e h = subst (λ n. Lies k (first_thread y n b)) (sym e) (subst (λ n. Lies k (first_thread y f n)) (sym h) (record {
    top = top_lies k.top (first_thread x f a).top (z.top blocks names same_blocks (still_first names) each);
    callers = first_callers k.callers z.callers;
  }))

  near_lies : (k : Thread Position Own) (q : Thread Position Words) (u : Thread Spot Words) → public.ThreadStands x p thread names blocks s k q → Near structured D R q u → Lies k u
  near_lies k q u z (same n) = thread_lies k q u z n.top.own n.callers
  near_lies k q u z (level n free) = thread_lies k q u z n.top.own n.callers

  pub stage_lies : (k : Thread Position Own) (g : Option (Stage Position)) (h : Stage Spot) → public.StageStands x p thread names blocks s (Some k) g → StagesMatch structured D R g (Some h) → Lies k (thread_at y h)
  stage_lies k None h z e = absurd z
  stage_lies k (Some (starts f a)) (starts g b) z e = starts_lie k f a g b z e.0 e.1
  stage_lies k (Some (going q)) (going u) z e = near_lies k q u z e
  stage_lies k (Some (waiting q)) (waiting u) z e = thread_lies k q u z e.top.own e.callers
  stage_lies k (Some (landed list q)) (landed other u) z e = landed_lies list k q u z e.1.top.own e.1.callers
  stage_lies k (Some (starts f a)) (going u) z e = absurd e
  stage_lies k (Some (starts f a)) (waiting u) z e = absurd e
  stage_lies k (Some (starts f a)) (landed other u) z e = absurd e
  stage_lies k (Some (going q)) (starts g b) z e = absurd e
  stage_lies k (Some (going q)) (waiting u) z e = absurd e
  stage_lies k (Some (going q)) (landed other u) z e = absurd e
  stage_lies k (Some (waiting q)) (starts g b) z e = absurd e
  stage_lies k (Some (waiting q)) (going u) z e = absurd e
  stage_lies k (Some (waiting q)) (landed other u) z e = absurd e
  stage_lies k (Some (landed list q)) (starts g b) z e = absurd e
  stage_lies k (Some (landed list q)) (going u) z e = absurd e
  stage_lies k (Some (landed list q)) (waiting u) z e = absurd e
