-- An action makes at most one block.
use Rattle.std.proofs.Common.{◌≡◌, ◌≤◌, ◌+◌, ◌==◌, ℕ, Bool, true, false, List, [], ◌∷◌, ◌++◌, length, replicate, Option, Some, None, Ok, Err, ℤ, refl, ap, ◌∙◌, arith}
use Rattle.std.specs.Prelude.{Result, pos, if◌then◌else◌, ◌^◌, nat_lt, slice_get}
use Rattle.std.proofs.lemmas.List.{length-set, length_push}
use Rattle.std.specs.Ordering.{int_eq}
use Rattle.ak_words.specs.declared.int_type.IntType.{IntType}
use Rattle.ak_words.specs.declared.rule.Rule.{Rule}
use Rattle.ak_words.specs.declared.rule.Rule.TheVariants.{C10, C11, C12, C13, C14}
use Rattle.ak_words.specs.IntType.{int}
use Rattle.ak_words.specs.Num.{num}
use Rattle.block_store.specs.declared.values.Answer.{Answer}
use Rattle.block_store.specs.declared.values.Answer.TheVariants as answers
use Rattle.block_store.specs.declared.values.Cell.{Cell}
use Rattle.block_store.specs.declared.values.Cell.TheVariants.{Unknown}
use Rattle.block_store.specs.declared.values.Change.{Change}
use Rattle.block_store.specs.declared.values.Ptr.{Ptr}
use Rattle.block_store.specs.declared.values.Ptr.TheVariants.{Null, To}
use Rattle.block_store.specs.declared.values.Value.{Value}
use Rattle.block_store.specs.declared.values.Value.TheVariants as values
use Rattle.block_store.specs.declared.values.BlockKind.TheVariants as kinds
use Rattle.block_store.specs.Actions as actions
use Rattle.block_store.specs.Actions.{World, Done, Outcomes, SharedAction, Stage, ThreadRecord, with_blocks}
use Rattle.block_store.specs.Atomics.{Number, writable_at, number_in, with_number, becomes, change_of, compare_numbers, compare_places}
use Rattle.block_store.specs.Blocks.{Blocks, Range, live, made, is_freeable, is_literal, spot_at, range_at, cells_at, with_cells, with_cells_at, written_at, stored, clash, copied_to, copied_between, copied, freed, ended, loaded, renewed, resized, cells_in, made_with}
use Rattle.block_store.specs.Cells.{size_of, access_of, cells_of}
use Rattle.block_store.specs.Mutexes.{Mutex, mutex_at, renumbered, lock_by, locked, unlock_by, unlocked, destroyed}
use Rattle.c_meaning.specs.Control as control
use Rattle.c_meaning.specs.Turns.{without_block, without_blocks}

-- ---- the blocks after an action

-- as many blocks as before
abbrev Keeps : (b : ℕ) → Result Blocks Rule → Type 0
Keeps b (Ok blocks) = length blocks ≡ b
Keeps b (Err rule) = Unit {0}

keeps_if : (b : ℕ) (c : Bool) (x y : Result Blocks Rule) → Keeps b x → Keeps b y → Keeps b (if c then x else y)
keeps_if b true x y p q = p
keeps_if b false x y p q = q

cells_kept : (blocks : Blocks) (new : List Cell) (s : Range) → length (with_cells_at blocks new s) ≡ length blocks
cells_kept blocks new s = length-set blocks s.name (Some (record { kind = s.block.kind; cells = with_cells s.block.cells s.offset new }))

written_keeps : (blocks : Blocks) (new : List Cell) (s : Result Range Rule) → Keeps (length blocks) (written_at blocks new s)
written_keeps blocks new (Err rule) = tt
written_keeps blocks new (Ok s) = keeps_if (length blocks) (is_literal s.block.kind) (Err C12) (Ok (with_cells_at blocks new s)) tt (cells_kept blocks new s)

stored_keeps : (blocks : Blocks) (at : Ptr) (v : Value) → Keeps (length blocks) (stored blocks at v)
stored_keeps blocks at v = written_keeps blocks (cells_of v) (spot_at blocks (size_of (access_of v)) at)

copied_to_keeps : (blocks : Blocks) (n : ℕ) (same : Bool) (to from : Range) → Keeps (length blocks) (copied_to blocks n same to from)
copied_to_keeps blocks n same to from =
    keeps_if (length blocks) (is_literal to.block.kind) (Err C12) (if clash n same to from then Err C11 else Ok (with_cells_at blocks (cells_at n from) to)) tt
    (keeps_if (length blocks) (clash n same to from) (Err C11) (Ok (with_cells_at blocks (cells_at n from) to)) tt (cells_kept blocks (cells_at n from) to))

copied_between_keeps : (blocks : Blocks) (n : ℕ) (same : Bool) (to from : Result Range Rule) → Keeps (length blocks) (copied_between blocks n same to from)
copied_between_keeps blocks n same (Err rule) from = tt
copied_between_keeps blocks n same (Ok to) (Err rule) = tt
copied_between_keeps blocks n same (Ok to) (Ok from) = copied_to_keeps blocks n same to from

copied_keeps : (blocks : Blocks) (to from : Ptr) (n align : ℕ) (same : Bool) → Keeps (length blocks) (copied blocks to from n align same)
copied_keeps blocks to from n align same =
    keeps_if (length blocks) (n == 0) (Ok blocks) (copied_between blocks n same (range_at blocks n align to) (range_at blocks n align from)) refl
    (copied_between_keeps blocks n same (range_at blocks n align to) (range_at blocks n align from))

freed_keeps : (blocks : Blocks) (at : Ptr) → Keeps (length blocks) (freed blocks at)
freed_keeps blocks Null = refl
freed_keeps blocks (To name offset) = keeps_if (length blocks) (is_freeable offset (live blocks name)) (Ok (ended blocks name)) (Err C10) (length-set blocks name None) tt

unlock_by_keeps : (blocks : Blocks) (thread : ℕ) (m : Result Mutex Rule) → Keeps (length blocks) (unlock_by blocks thread m)
unlock_by_keeps blocks thread (Err rule) = tt
unlock_by_keeps blocks thread (Ok m) = keeps_if (length blocks) (m.number == thread + 1) (Ok (renumbered blocks m 0)) (Err C13) (length-set blocks m.spot.name _) tt

-- the same of a lock, which may have to wait
abbrev KeepsOrWaits : (b : ℕ) → Result (Option Blocks) Rule → Type 0
KeepsOrWaits b (Ok (Some blocks)) = length blocks ≡ b
KeepsOrWaits b (Ok None) = Unit {0}
KeepsOrWaits b (Err rule) = Unit {0}

waits_if : (b : ℕ) (c : Bool) (x y : Result (Option Blocks) Rule) → KeepsOrWaits b x → KeepsOrWaits b y → KeepsOrWaits b (if c then x else y)
waits_if b true x y p q = p
waits_if b false x y p q = q

lock_by_keeps : (blocks : Blocks) (thread : ℕ) (m : Result Mutex Rule) → KeepsOrWaits (length blocks) (lock_by blocks thread m)
lock_by_keeps blocks thread (Err rule) = tt
lock_by_keeps blocks thread (Ok m) =
    waits_if (length blocks) (m.number == 0) (Ok (Some (renumbered blocks m (thread + 1)))) (if m.number == thread + 1 then Err C13 else Ok None) (length-set blocks m.spot.name _)
    (waits_if (length blocks) (m.number == thread + 1) (Err C13) (Ok None) tt tt)

-- ---- what comes of an action

-- at most one block more
abbrev pub Small : (b : ℕ) → Done → Type 0
Small b (actions.went v w) = length w.blocks ≤ b + 1
Small b actions.blocked = Unit {0}
Small b actions.unfit = Unit {0}
Small b (actions.broke rule) = Unit {0}

small_if : (b : ℕ) (c : Bool) (x y : Done) → Small b x → Small b y → Small b (if c then x else y)
small_if b true x y p q = p
small_if b false x y p q = q

small_gives : (w : World) (r : Result Value Rule) → Small (length w.blocks) (actions.gives w r)
small_gives w (Ok v) = omega arith
small_gives w (Err rule) = tt

small_changes : (w : World) (r : Result Blocks Rule) → Keeps (length w.blocks) r → Small (length w.blocks) (actions.changes w r)
small_changes w (Ok blocks) k = omega (arith, k)
small_changes w (Err rule) k = tt

small_changes_or_waits : (w : World) (r : Result (Option Blocks) Rule) → KeepsOrWaits (length w.blocks) r → Small (length w.blocks) (actions.changes_or_waits w r)
small_changes_or_waits w (Ok (Some blocks)) k = omega (arith, k)
small_changes_or_waits w (Ok None) k = tt
small_changes_or_waits w (Err rule) k = tt

small_passes : (w : World) (r : Result (Unit {0}) Rule) → Small (length w.blocks) (actions.passes w r)
small_passes w (Ok u) = omega arith
small_passes w (Err rule) = tt

small_prints : (w : World) (r : Result (List ℕ) Rule) → Small (length w.blocks) (actions.prints w r)
small_prints w (Ok all) = omega arith
small_prints w (Err rule) = tt

small_allocated : (w : World) (size : ℕ) (first : Cell) → Small (length w.blocks) (actions.allocated w size first)
small_allocated w size first =
    let one : length (made w.blocks size kinds.Heap first) ≤ length w.blocks + 1 = omega (arith, length_push w.blocks (Some (record { kind = kinds.Heap; cells = replicate size first }))) in
    small_if (length w.blocks) (nat_lt size (2 ^ 32)) _ actions.unfit one tt

-- one block more
abbrev Grows : (b : ℕ) → Result Blocks Rule → Type 0
Grows b (Ok blocks) = length blocks ≡ b + 1
Grows b (Err rule) = Unit {0}

grows_if : (b : ℕ) (c : Bool) (x y : Result Blocks Rule) → Grows b x → Grows b y → Grows b (if c then x else y)
grows_if b true x y p q = p
grows_if b false x y p q = q

renewed_grows : (blocks : Blocks) (at : Ptr) (size : ℕ) → Grows (length blocks) (renewed blocks at size)
renewed_grows blocks Null size = length_push blocks (Some (record { kind = kinds.Heap; cells = replicate size Unknown }))
renewed_grows blocks (To name offset) size =
    let cells = resized size (cells_in (live blocks name)) in
    grows_if (length blocks) (is_freeable offset (live blocks name)) (Ok (ended (made_with blocks cells) name)) (Err C10)
    (length-set (made_with blocks cells) name None ∙ length_push blocks (Some (record { kind = kinds.Heap; cells = cells }))) tt

small_renews : (w : World) (size : ℕ) (answer : Answer) (r : Result Blocks Rule) → Grows (length w.blocks) r → Small (length w.blocks) (actions.under answer (actions.renews w size r))
small_renews w size answers.Plain (Err rule) k = tt
small_renews w size answers.Got (Err rule) k = tt
small_renews w size answers.None (Err rule) k = tt
small_renews w size answers.Plain (Ok blocks) k = tt
small_renews w size answers.Got (Ok blocks) k = small_if (length w.blocks) (nat_lt size (2 ^ 32)) _ actions.unfit (omega (arith, k)) tt
small_renews w size answers.None (Ok blocks) k = omega arith

small_changes_number : (w : World) (ty : IntType) (how : Change) (by : ℤ) (r : Result Number Rule) → Small (length w.blocks) (actions.changes_number w (change_of w.blocks ty how by r))
small_changes_number w ty how by (Err rule) = tt
small_changes_number w ty how by (Ok n) = omega (arith, cells_kept w.blocks (cells_of (values.Num (becomes how ty n.value.value by))) n.spot)

small_compare_of : (w : World) (ty : IntType) (new : ℤ) (at want : Number) (equal : Bool)
    → Small (length w.blocks) (actions.compares w (Ok (if equal then record { blocks = with_number w.blocks at.spot (num ty new); equal = true } else record { blocks = with_number w.blocks want.spot at.value; equal = false })))
small_compare_of w ty new at want true = omega (arith, cells_kept w.blocks (cells_of (values.Num (num ty new))) at.spot)
small_compare_of w ty new at want false = omega (arith, cells_kept w.blocks (cells_of (values.Num at.value)) want.spot)

small_compare_numbers : (w : World) (ty : IntType) (new : ℤ) (at want : Result Number Rule) → Small (length w.blocks) (actions.compares w (compare_numbers w.blocks ty new at want))
small_compare_numbers w ty new (Err rule) want = tt
small_compare_numbers w ty new (Ok at) (Err rule) = tt
small_compare_numbers w ty new (Ok at) (Ok want) = small_compare_of w ty new at want (int_eq at.value.value want.value.value)

small_compares : (w : World) (ty : IntType) (new : ℤ) (at want : Result Range Rule) → Small (length w.blocks) (actions.compares w (compare_places w.blocks ty new at want))
small_compares w ty new (Err rule) want = tt
small_compares w ty new (Ok at) (Err rule) = tt
small_compares w ty new (Ok at) (Ok want) = small_compare_numbers w ty new (number_in ty (Ok at)) (number_in ty (Ok want))

small_starts : (w : World) (function : ℕ) (argument : Ptr) (r : Result Blocks Rule) → Keeps (length w.blocks) r → Small (length w.blocks) (actions.starts w function argument r)
small_starts w function argument (Ok blocks) k = omega (arith, k)
small_starts w function argument (Err rule) k = tt

-- a stage changes no block
pub staged_blocks : (w : World) (number : ℕ) (stage : Stage) (t : Option ThreadRecord) → (actions.staged_if w number stage t).blocks ≡ w.blocks
staged_blocks w number stage None = refl
staged_blocks w number stage (Some t) = refl

small_staged : (b : ℕ) (v : Option Value) (w : World) (number : ℕ) (stage : Stage) → length w.blocks ≤ b + 1 → Small b (actions.went v (actions.staged w number stage))
small_staged b v w number stage h = omega (arith, h, ap length (staged_blocks w number stage (slice_get w.threads number)))

unless_null_keeps : (blocks : Blocks) (to : Ptr) (z : ℤ) → Keeps (length blocks) (actions.stored_unless_null blocks to z)
unless_null_keeps blocks Null z = refl
unless_null_keeps blocks (To name offset) z = stored_keeps blocks (To name offset) (values.Num (num int z))

small_joins : (w : World) (thread : ℕ) (z : ℤ) (r : Result Blocks Rule) → Keeps (length w.blocks) r → Small (length w.blocks) (actions.joins w thread z r)
small_joins w thread z (Ok blocks) k = small_staged (length w.blocks) (actions.int_value (pos 0)) (with_blocks w blocks) thread (actions.joined z) (omega (arith, k))
small_joins w thread z (Err rule) k = tt

small_joins_at : (w : World) (thread : ℕ) (to : Ptr) (stage : Stage) → Small (length w.blocks) (actions.joins_at w thread to stage)
small_joins_at w thread to actions.running = tt
small_joins_at w thread to (actions.returned z) = small_joins w thread z (actions.stored_unless_null w.blocks to z) (unless_null_keeps w.blocks to z)
small_joins_at w thread to (actions.joined z) = tt

small_joins_if : (w : World) (thread : ℕ) (to : Ptr) (t : Option ThreadRecord) → Small (length w.blocks) (actions.joins_if w thread to t)
small_joins_if w thread to None = tt
small_joins_if w thread to (Some t) = small_joins_at w thread to t.stage

small_under : (b : ℕ) (answer : Answer) (o : Outcomes) → Small b o.plain → Small b o.got → Small b o.none → Small b (actions.under answer o)
small_under b answers.Plain o p q r = p
small_under b answers.Got o p q r = q
small_under b answers.None o p q r = r

-- what comes of any action
small_outcome : (w : World) (thread : ℕ) (answer : Answer) (action : SharedAction) → Small (length w.blocks) (actions.under answer (actions.outcomes w thread action))
small_outcome w thread answer (actions.load at how) = small_under (length w.blocks) answer (actions.outcomes w thread (actions.load at how)) (small_gives w (loaded w.blocks at how)) tt tt
small_outcome w thread answer (actions.store at v) = small_under (length w.blocks) answer (actions.outcomes w thread (actions.store at v)) (small_changes w (stored w.blocks at v) (stored_keeps w.blocks at v)) tt tt
small_outcome w thread answer (actions.copy to from n align same) =
    small_under (length w.blocks) answer (actions.outcomes w thread (actions.copy to from n align same)) (small_changes w (copied w.blocks to from n align same) (copied_keeps w.blocks to from n align same)) tt tt
small_outcome w thread answer (actions.allocate size first) =
    let same : length w.blocks ≤ length w.blocks + 1 = omega arith in
    small_under (length w.blocks) answer (actions.outcomes w thread (actions.allocate size first)) tt (small_allocated w size first) same
small_outcome w thread answer (actions.reallocate at size) = small_renews w size answer (renewed w.blocks at size) (renewed_grows w.blocks at size)
small_outcome w thread answer (actions.change at ty how by) =
    small_under (length w.blocks) answer (actions.outcomes w thread (actions.change at ty how by)) (small_changes_number w ty how by (number_in ty (writable_at w.blocks ty at))) tt tt
small_outcome w thread answer (actions.compare at want ty new) =
    small_under (length w.blocks) answer (actions.outcomes w thread (actions.compare at want ty new)) (small_compares w ty new (writable_at w.blocks ty at) (writable_at w.blocks ty want)) tt tt
small_outcome w thread answer (actions.free at) = small_under (length w.blocks) answer (actions.outcomes w thread (actions.free at)) (small_changes w (freed w.blocks at) (freed_keeps w.blocks at)) tt tt
small_outcome w thread answer (actions.print parts) = small_under (length w.blocks) answer (actions.outcomes w thread (actions.print parts)) (small_prints w (actions.all_bytes w.blocks parts)) tt tt
small_outcome w thread answer (actions.lock at) =
    small_under (length w.blocks) answer (actions.outcomes w thread (actions.lock at)) (small_changes_or_waits w (locked w.blocks at thread) (lock_by_keeps w.blocks thread (mutex_at w.blocks at))) tt tt
small_outcome w thread answer (actions.unlock at) =
    small_under (length w.blocks) answer (actions.outcomes w thread (actions.unlock at)) (small_changes w (unlocked w.blocks at thread) (unlock_by_keeps w.blocks thread (mutex_at w.blocks at))) tt tt
small_outcome w thread answer (actions.destroy at) = small_under (length w.blocks) answer (actions.outcomes w thread (actions.destroy at)) (small_passes w (destroyed w.blocks at)) tt tt
small_outcome w thread answer (actions.start to function argument) =
    let same : length w.blocks ≤ length w.blocks + 1 = omega arith in
    small_under (length w.blocks) answer (actions.outcomes w thread (actions.start to function argument)) tt (small_starts w function argument (stored w.blocks to (actions.next_number w)) (stored_keeps w.blocks to (actions.next_number w))) same
small_outcome w thread answer (actions.join number to) =
    small_under (length w.blocks) answer (actions.outcomes w thread (actions.join number to)) (small_if (length w.blocks) (thread == number) (actions.broke C14) (actions.joins_if w number to (slice_get w.threads number)) tt (small_joins_if w number to (slice_get w.threads number))) tt tt
small_outcome w thread answer (actions.finish value) =
    let same : length w.blocks ≤ length w.blocks + 1 = omega arith in
    small_under (length w.blocks) answer (actions.outcomes w thread (actions.finish value)) (small_staged (length w.blocks) None w thread (actions.returned (actions.result_of value)) same) tt tt

-- what was reached makes no block
small_telling : (b : ℕ) (reached : List actions.Reached) (d : Done) → Small b d → Small b (actions.telling reached d)
small_telling b reached (actions.went v w) small = small
small_telling b reached actions.blocked small = tt
small_telling b reached actions.unfit small = tt
small_telling b reached (actions.broke rule) small = tt

-- any action
pub small_acted : (w : World) (thread : ℕ) (answer : Answer) (action : SharedAction) → Small (length w.blocks) (actions.acted w thread answer action)
small_acted w thread answer action =
    small_telling (length w.blocks) (actions.reads_of w action ++ actions.writes_of w answer action) (actions.under answer (actions.outcomes w thread action)) (small_outcome w thread answer action)

-- ---- locals that end

without_block_length : (v : control.Variable) (w : World) → length (without_block v w).blocks ≡ length w.blocks
without_block_length control.unset w = refl
without_block_length (control.holds v) w = refl
without_block_length (control.lies block) w = length-set w.blocks block None

pub without_blocks_length : (vs : List control.Variable) (w : World) → length (without_blocks vs w).blocks ≡ length w.blocks
without_blocks_length [] w = refl
without_blocks_length (v ∷ vs) w = without_blocks_length vs (without_block v w) ∙ without_block_length v w
