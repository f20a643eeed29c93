-- Code from its own first world on: it begins as the program does, goes on as that does, and is as deep in calls.
use Rattle.std.proofs.Common.{◌≡◌, ℕ, suc, List, [], ◌∷◌, ◌++◌, length, map, refl, sym, ap, ◌∙◌}
use Rattle.block_store.specs.Blocks.{global_block, literal_block}
use Rattle.block_store.specs.Actions.{first_world}
use Rattle.block_store.specs.Runs as runs
use Rattle.block_store.specs.Runs.{Pick, Run}
use Rattle.c_tree.specs.Typed as tree
use Rattle.c_tree.specs.TypedLayout.{size_in}
use Rattle.c_meaning.specs.Alike.{at_no_run, reached_by, reached_in}
use Rattle.c_meaning.specs.Meaning as source
use Rattle.c_meaning.proofs.Alike.{reached_shown, begins_outside_calls, calls_shown}
use Rattle.c_meaning.proofs.TypedRuns.{runs_go_on}
use Rattle.struct_ir.specs.Nodes.{Ir}
use Rattle.struct_ir.specs.meaning.Start as code
use Rattle.struct_ir.specs.meaning.Threads.{program_of}
use Rattle.lower_forms.specs.Programs.{lowered, globals_lowered}
use Rattle.lower_turns.specs.Turns.{CodeWithLooksKeepsEveryRun, CodeBeginsAlike, CodeKeepsEveryTurn, CodeGoesOn, KeepsEveryTurn, ErasedKeepsEveryTurn, CallsAreAsDeep}
use Rattle.lower_turns.proofs.Looks.{erased_code_shows, looks_keep_every_turn}

-- ---- first worlds

first_value_same : (n : ℕ) (i : tree.Init) → code.first_value n i ≡ source.first_value n i
first_value_same n tree.zero_bytes = refl
first_value_same n (tree.number t z) = refl
first_value_same n (tree.literal_at k) = refl

globals_long : (structs : List tree.Layout) (gs : List tree.GlobalVar) → length (globals_lowered structs gs) ≡ length gs
globals_long structs [] = refl
globals_long structs (g ∷ gs) = ap suc (globals_long structs gs)

-- the blocks of the globals, of which there are n in all
blocks_same : (t : tree.Typed) (n : ℕ) → n ≡ length t.globals → (gs : List tree.GlobalVar) → map (code.block_of n) (globals_lowered t.structs gs) ≡ map (source.block_of t) gs
blocks_same t n e [] = refl
blocks_same t n e (g ∷ gs) =
    ap (λ v. global_block (size_in t.structs g.ty) v ∷ map (code.block_of n) (globals_lowered t.structs gs)) (first_value_same n g.init ∙ ap (λ k. source.first_value k g.init) e)
    ∙ ap (λ rest. source.block_of t g ∷ rest) (blocks_same t n e gs)

lowered_begins : (t : tree.Typed) → code.start (lowered t) ≡ source.start t
lowered_begins t =
    ap (λ blocks. first_world (blocks ++ map literal_block t.literals) t.main)
    (blocks_same t (length (globals_lowered t.structs t.globals)) (globals_long t.structs t.globals) t.globals)

pub code_begins_alike : CodeBeginsAlike
code_begins_alike t ready e = ap code.start e ∙ lowered_begins t

-- ---- turns and runs

pub code_keeps_every_turn : CodeKeepsEveryTurn
code_keeps_every_turn t well ready e order =
    ap (λ w. runs.shown (program_of ready) w order) (code_begins_alike t ready e) ∙ looks_keep_every_turn t well ready e order

pub looks_keep_every_run : CodeWithLooksKeepsEveryRun
looks_keep_every_run t well ready e order =
    reached_shown (program_of ready) (source.start t) (source.start t) order ∙ ap (reached_in (source.start t) 0) (looks_keep_every_turn t well ready e order) ∙ sym (reached_shown (source.program t) (source.start t) (source.start t) order)

no_run_is : {A : Type 0} (r : Run A) (k : ℕ) → at_no_run k ≡ reached_by r → r ≡ runs.no_run k
no_run_is (runs.reaches s) k e = absurd cc
no_run_is (runs.breaks rule n) k e = absurd cc
no_run_is (runs.no_run n) k e = let same : k ≡ n = cc in ap runs.no_run (sym same)

no_run_too : (t : tree.Typed) (ready : Ir) → KeepsEveryTurn t ready → (order : List Pick) (k : ℕ) → runs.run (program_of ready) (code.start ready) order ≡ runs.no_run k → source.run t order ≡ runs.no_run k
no_run_too t ready keeps order k none =
    no_run_is (source.run t order) k
    (sym (reached_shown (source.program t) (source.start t) (source.start t) order ∙ ap (reached_in (source.start t) 0) (sym (keeps order)) ∙ sym (reached_shown (program_of ready) (code.start ready) (source.start t) order) ∙ ap reached_by none))

pub code_goes_on : CodeGoesOn
code_goes_on t well ready keeps order s reaches p main own runs_main runs_own =
    let goes = runs_go_on t well order s reaches p main own runs_main runs_own in
    (goes.0, goes.1, λ fits k none. goes.2 fits k (no_run_too t ready keeps (order ++ p ∷ []) k none))

-- ---- calls that wait

pub calls_are_as_deep : CallsAreAsDeep
calls_are_as_deep t ready keeps order s u p q thread =
    calls_shown (source.program t) (program_of ready) (begins_outside_calls t) (λ f argument. refl) (source.start t) (code.start ready) order (sym (keeps order)) s u p q thread

-- ---- with Looks, safepoints, slots and lists, and without

pub erased_keeps_every_turn : ErasedKeepsEveryTurn
erased_keeps_every_turn t p =
    (λ keeps order. sym (erased_code_shows p (code.start p) order) ∙ keeps order, λ keeps order. erased_code_shows p (code.start p) order ∙ keeps order)
