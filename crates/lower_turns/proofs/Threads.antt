-- The code of a program shows under every order what the source shows.
use Rattle.std.proofs.Common.{◌≡◌, ◌∙◌, refl, sym, ap, inl, ℕ, List, [], ◌∷◌, ◌++◌, length, set, Option, Some, None}
use Rattle.block_store.specs.declared.values.Ptr.{Ptr}
use Rattle.block_store.specs.Actions.{World}
use Rattle.block_store.specs.Runs.{Turn, Program, State, Pick, begun, turn_if, next_state, Shown, it_begins, it_went, it_ended, it_blocked, it_was_unfit, no_such_turn, shown_then, shown_from}
use Rattle.c_tree.specs.Typed as tree
use Rattle.c_tree.specs.TypedForm.{IsWellFormed}
use Rattle.c_meaning.specs.Control.{Control}
use Rattle.c_meaning.specs.Meaning.{program, start}
use Rattle.struct_ir.specs.Structured.{Position}
use Rattle.struct_ir.specs.Threads.{Thread}
use Rattle.struct_ir.specs.meaning.Blocks.{Own}
use Rattle.struct_ir.specs.meaning.Threads.{program_of}
use Rattle.lower_forms.specs.Programs.{lowered}
use Rattle.c_meaning.specs.Alike.{reached_in}
use Rattle.c_meaning.proofs.Alike.{reached_shown}
use Rattle.lower_turns.specs.Turns.{LowerKeepsEveryTurn, LowerKeepsEveryRun}
use Rattle.lower_turns.proofs.Relation.{Same, CanBegin, AllBegin, Together, both_went, both_ended, both_blocked, both_unfit, both_broke}
use Rattle.lower_turns.proofs.Turns.{turn_alike, begins_alike}
use Rattle.lower_turns.proofs.Depths.{same_long}
use Rattle.lower_turns.proofs.Pairs.{OneAlike, neither, both, AllAlike, own_alike, begun_alike, next_alike}

module _ (t : tree.Typed) (well : IsWellFormed t) where
  abbrev the_source : Program Control
  the_source = program t

  abbrev the_code : Program (Thread Position Own)
  the_code = program_of (lowered t)

  both_begin : (f : ℕ) (argument : Ptr) → CanBegin t f → Same t (the_source.begins f argument) (the_code.begins f argument)
  both_begin f argument = begins_alike t well argument f

  first_alike : (w : World) → AllBegin t w → AllAlike (Same t) (begun the_source 0 w) (begun the_code 0 w)
  first_alike = begun_alike (Same t) the_source the_code (CanBegin t) both_begin 0

  -- ---- states in one world

  abbrev state : {A : Type 0} → World → List (Option A) → State A
  state w own = record { world = w; own = own }

  -- after a turn, also one that has made threads
  after_turn : (xs : List (Option Control)) (ys : List (Option (Thread Position Own))) (n : ℕ) (a : Option Control) (b : Option (Thread Position Own)) (next : World) → AllBegin t next
      → AllAlike (Same t) xs ys → OneAlike (Same t) a b → AllAlike (Same t) (set xs n a ++ begun the_source (length xs) next) (set ys n b ++ begun the_code (length ys) next)
  after_turn = next_alike (Same t) the_source the_code (CanBegin t) both_begin

  -- what is shown of the rest is the same
  abbrev RestAlike : (State Control → List Shown) → (State (Thread Position Own) → List Shown) → Type 0
  RestAlike go go' = (xs : List (Option Control)) (ys : List (Option (Thread Position Own))) (w : World) → AllBegin t w → AllAlike (Same t) xs ys → go (state w xs) ≡ go' (state w ys)

  -- what is shown of one turn, and then of the rest
  turn_shown : (go : State Control → List Shown) (go' : State (Thread Position Own) → List Shown) → RestAlike go go'
      → (xs : List (Option Control)) (ys : List (Option (Thread Position Own))) (w : World) (n : ℕ) → AllBegin t w → AllAlike (Same t) xs ys → (x : Turn Control) (y : Turn (Thread Position Own)) → Together t x y
      → shown_then the_source go (state w xs) n (Some x) ≡ shown_then the_code go' (state w ys) n (Some y)
  turn_shown go go' rest xs ys w n begins all _ _ (both_went {a} {b} next more r) =
      ap (λ calls. it_went calls next ∷ go (next_state the_source (state w xs) n (Some a) next)) (sym (same_long t a b r))
      ∙ ap (λ z. it_went (the_code.calls b) next ∷ z) (rest _ _ next more (after_turn xs ys n (Some a) (Some b) next more all (both a b r)))
  turn_shown go go' rest xs ys w n begins all _ _ (both_ended next more) = ap (λ z. it_ended next ∷ z) (rest _ _ next more (after_turn xs ys n None None next more all neither))
  turn_shown go go' rest xs ys w n begins all _ _ both_blocked = ap (λ z. it_blocked ∷ z) (rest xs ys w begins all)
  turn_shown go go' rest xs ys w n begins all _ _ both_unfit = ap (λ z. it_was_unfit ∷ z) (rest xs ys w begins all)
  turn_shown go go' rest xs ys w n begins all _ _ (both_broke rule place) = refl

  -- a pick, by what main and the picked thread have
  pick_shown : (go : State Control → List Shown) (go' : State (Thread Position Own) → List Shown) → RestAlike go go'
      → (xs : List (Option Control)) (ys : List (Option (Thread Position Own))) (w : World) (p : Pick) → AllBegin t w → AllAlike (Same t) xs ys
      → (m : Option Control) (m' : Option (Thread Position Own)) → OneAlike (Same t) m m' → (o : Option Control) (o' : Option (Thread Position Own)) → OneAlike (Same t) o o'
      → shown_then the_source go (state w xs) p.thread (turn_if the_source (state w xs) p m o) ≡ shown_then the_code go' (state w ys) p.thread (turn_if the_code (state w ys) p m' o')
  pick_shown go go' rest xs ys w p begins all _ _ neither o o' h = ap (λ z. no_such_turn ∷ z) (rest xs ys w begins all)
  pick_shown go go' rest xs ys w p begins all _ _ (both m m' r) _ _ neither = ap (λ z. no_such_turn ∷ z) (rest xs ys w begins all)
  pick_shown go go' rest xs ys w p begins all _ _ (both m m' r) _ _ (both a b s) = turn_shown go go' rest xs ys w p.thread begins all _ _ (turn_alike t well p.thread p.answer a b w begins s)

  same_from : (order : List Pick) (xs : List (Option Control)) (ys : List (Option (Thread Position Own))) (w : World) → AllBegin t w → AllAlike (Same t) xs ys → shown_from the_source order (state w xs) ≡ shown_from the_code order (state w ys)
  same_from [] xs ys w begins all = refl
  same_from (p ∷ order) xs ys w begins all =
      pick_shown (shown_from the_source order) (shown_from the_code order) (same_from order) xs ys w p begins all _ _ (own_alike (Same t) xs ys 0 all) _ _ (own_alike (Same t) xs ys p.thread all)

-- the theorem
pub lower_keeps_every_turn : LowerKeepsEveryTurn
lower_keeps_every_turn t well order =
    ap (λ z. it_begins (start t) ∷ z)
    (sym (same_from t well order (begun (program t) 0 (start t)) (begun (program_of (lowered t)) 0 (start t)) (start t) (inl refl, tt) (first_alike t well (start t) (inl refl, tt))))

pub lower_keeps_every_run : LowerKeepsEveryRun
lower_keeps_every_run t well order =
    reached_shown (program_of (lowered t)) (start t) (start t) order ∙ ap (reached_in (start t) 0) (lower_keeps_every_turn t well order) ∙ sym (reached_shown (program t) (start t) (start t) order)
