-- A block that has ended stays so, whatever is done.
use Rattle.std.proofs.Common.{◌≡◌, ◌+◌, ◌==◌, ℕ, zero, suc, Bool, true, false, List, [], ◌∷◌, ◌++◌, length, replicate, set, slice_get, Option, Some, None, Ok, Err, ℤ, refl, sym, ap, ◌∙◌}
use Rattle.std.specs.Prelude.{Result, if◌then◌else◌, ◌^◌, ◌/◌, ◌%◌, nat_lt, nat_le}
use Rattle.std.specs.Option.{option_flatten}
use Rattle.std.specs.Ordering.{int_eq}
use Rattle.ak_words.specs.declared.int_type.IntType.{IntType}
use Rattle.ak_words.specs.declared.rule.Rule.{Rule}
use Rattle.ak_words.specs.declared.rule.Rule.TheVariants.{C5, C6, C10, C11, C12, C13, C14}
use Rattle.ak_words.specs.IntType.{int}
use Rattle.ak_words.specs.Num.{num}
use Rattle.block_store.specs.declared.values.Answer.{Answer}
use Rattle.block_store.specs.declared.values.Answer.TheVariants as answers
use Rattle.block_store.specs.declared.values.BlockKind.TheVariants as kinds
use Rattle.block_store.specs.declared.values.Cell.{Cell}
use Rattle.block_store.specs.declared.values.Cell.TheVariants.{Unknown}
use Rattle.block_store.specs.declared.values.Change.{Change}
use Rattle.block_store.specs.declared.values.Ptr.{Ptr}
use Rattle.block_store.specs.declared.values.Ptr.TheVariants.{Null, To}
use Rattle.block_store.specs.declared.values.Value.{Value}
use Rattle.block_store.specs.declared.values.Value.TheVariants as values
use Rattle.block_store.specs.Actions as actions
use Rattle.block_store.specs.Actions.{World, Done, Outcomes, SharedAction, Stage, ThreadRecord, with_blocks}
use Rattle.block_store.specs.Atomics.{Number, writable, writable_at, number_read, number_in, with_number, becomes, change_of, compare_numbers, compare_places}
use Rattle.block_store.specs.Blocks.{Block, Blocks, Range, live, is_freeable, is_literal, range_in, range_at, spot_at, cells_at, with_cells, with_cells_at, written_at, stored, clash, copied_to, copied_between, copied, freed, ended, loaded, renewed, resized, cells_in, made_with}
use Rattle.block_store.specs.Cells.{size_of, access_of, cells_of, read_number}
use Rattle.block_store.specs.Mutexes.{Mutex, with_number as with_mutex_number, mutex_in, mutex_at, renumbered, lock_by, locked, unlock_by, unlocked, destroyed}
use Rattle.block_meaning.specs.Running.{HasEnded}

-- ---- lists of blocks

pub set_none : (blocks : Blocks) (i j : ℕ) → slice_get blocks j ≡ Some None → slice_get (set blocks i None) j ≡ Some None
set_none [] i j e = absurd (cc e)
set_none (b ∷ blocks) zero zero e = refl
set_none (b ∷ blocks) zero (suc j) e = e
set_none (b ∷ blocks) (suc i) zero e = e
set_none (b ∷ blocks) (suc i) (suc j) e = set_none blocks i j e

set_other : {A : Type 0} (xs : List A) (i j : ℕ) (x : A) → (i ≡ j → ⊥) → slice_get (set xs i x) j ≡ slice_get xs j
set_other [] i j x other = refl
set_other (y ∷ xs) zero zero x other = absurd (other refl)
set_other (y ∷ xs) zero (suc j) x other = refl
set_other (y ∷ xs) (suc i) zero x other = refl
set_other (y ∷ xs) (suc i) (suc j) x other = set_other xs i j x (λ e. other (ap suc e))

pub append_stays : {A : Type 0} (xs ys : List A) (j : ℕ) (x : A) → slice_get xs j ≡ Some x → slice_get (xs ++ ys) j ≡ Some x
append_stays [] ys j x e = absurd (cc e)
append_stays (y ∷ xs) ys zero x e = e
append_stays (y ∷ xs) ys (suc j) x e = append_stays xs ys j x e

pub none_live : (blocks : Blocks) (name gone : ℕ) → HasEnded blocks gone → name ≡ gone → live blocks name ≡ None
none_live blocks name gone e same = let F : ℕ → Option Block = λ k. live blocks k in ap F same ∙ ap option_flatten e

-- ---- the blocks after an action

module _ (gone : ℕ) where
  -- bytes of another block, if they were found
  abbrev Away : Result Range Rule → Type 0
  Away (Ok s) = s.name ≡ gone → ⊥
  Away (Err rule) = Unit {0}

  away_if : (c : Bool) (x y : Result Range Rule) → Away x → Away y → Away (if c then x else y)
  away_if true x y p q = p
  away_if false x y p q = q

  range_in_away : (blocks : Blocks) → HasEnded blocks gone → (size align name offset : ℕ) (b : Option Block) → live blocks name ≡ b → Away (range_in size align name offset b)
  range_in_away blocks r size align name offset None e = tt
  range_in_away blocks r size align name offset (Some b) e =
      let found : Result Range Rule = Ok (record { name = name; block = b; offset = offset }) in
      let other : name ≡ gone → ⊥ = λ same. absurd (cc (sym e ∙ none_live blocks name gone r same)) in
      away_if (nat_le (offset + size) (length b.cells)) (if offset % align == 0 then found else Err C6) (Err C5) (away_if (offset % align == 0) found (Err C6) other tt) tt

  range_away : (blocks : Blocks) → HasEnded blocks gone → (size align : ℕ) (at : Ptr) → Away (range_at blocks size align at)
  range_away blocks r size align Null = tt
  range_away blocks r size align (To name offset) = range_in_away blocks r size align name offset (live blocks name) refl

  writable_away : (s : Result Range Rule) → Away s → Away (writable s)
  writable_away (Err rule) a = tt
  writable_away (Ok s) a = away_if (is_literal s.block.kind) (Err C12) (Ok s) tt a

  writable_at_away : (blocks : Blocks) → HasEnded blocks gone → (ty : IntType) (at : Ptr) → Away (writable_at blocks ty at)
  writable_at_away blocks r ty at = writable_away (spot_at blocks (ty.bits / 8) at) (range_away blocks r (ty.bits / 8) (ty.bits / 8) at)

  -- it has ended in these, too
  abbrev Keeps : Result Blocks Rule → Type 0
  Keeps (Ok blocks) = HasEnded blocks gone
  Keeps (Err rule) = Unit {0}

  keeps_if : (c : Bool) (x y : Result Blocks Rule) → Keeps x → Keeps y → Keeps (if c then x else y)
  keeps_if true x y p q = p
  keeps_if false x y p q = q

  cells_keep : (blocks : Blocks) (new : List Cell) (s : Range) → HasEnded blocks gone → (s.name ≡ gone → ⊥) → HasEnded (with_cells_at blocks new s) gone
  cells_keep blocks new s r other = set_other blocks s.name gone (Some (record { kind = s.block.kind; cells = with_cells s.block.cells s.offset new })) other ∙ r

  written_keeps : (blocks : Blocks) (new : List Cell) (s : Result Range Rule) → HasEnded blocks gone → Away s → Keeps (written_at blocks new s)
  written_keeps blocks new (Err rule) r a = tt
  written_keeps blocks new (Ok s) r a = keeps_if (is_literal s.block.kind) (Err C12) (Ok (with_cells_at blocks new s)) tt (cells_keep blocks new s r a)

  stored_keeps : (blocks : Blocks) → HasEnded blocks gone → (at : Ptr) (v : Value) → Keeps (stored blocks at v)
  stored_keeps blocks r at v = let n = size_of (access_of v) in written_keeps blocks (cells_of v) (spot_at blocks n at) r (range_away blocks r n n at)

  copied_to_keeps : (blocks : Blocks) → HasEnded blocks gone → (n : ℕ) (same : Bool) (to from : Range) → (to.name ≡ gone → ⊥) → Keeps (copied_to blocks n same to from)
  copied_to_keeps blocks r n same to from a =
      keeps_if (is_literal to.block.kind) (Err C12) (if clash n same to from then Err C11 else Ok (with_cells_at blocks (cells_at n from) to)) tt
      (keeps_if (clash n same to from) (Err C11) (Ok (with_cells_at blocks (cells_at n from) to)) tt (cells_keep blocks (cells_at n from) to r a))

  copied_between_keeps : (blocks : Blocks) → HasEnded blocks gone → (n : ℕ) (same : Bool) (to from : Result Range Rule) → Away to → Keeps (copied_between blocks n same to from)
  copied_between_keeps blocks r n same (Err rule) from a = tt
  copied_between_keeps blocks r n same (Ok to) (Err rule) a = tt
  copied_between_keeps blocks r n same (Ok to) (Ok from) a = copied_to_keeps blocks r n same to from a

  copied_keeps : (blocks : Blocks) → HasEnded blocks gone → (to from : Ptr) (n align : ℕ) (same : Bool) → Keeps (copied blocks to from n align same)
  copied_keeps blocks r to from n align same =
      keeps_if (n == 0) (Ok blocks) (copied_between blocks n same (range_at blocks n align to) (range_at blocks n align from)) r
      (copied_between_keeps blocks r n same (range_at blocks n align to) (range_at blocks n align from) (range_away blocks r n align to))

  freed_keeps : (blocks : Blocks) → HasEnded blocks gone → (at : Ptr) → Keeps (freed blocks at)
  freed_keeps blocks r Null = r
  freed_keeps blocks r (To name offset) = keeps_if (is_freeable offset (live blocks name)) (Ok (ended blocks name)) (Err C10) (set_none blocks name gone r) tt

  renewed_keeps : (blocks : Blocks) → HasEnded blocks gone → (at : Ptr) (size : ℕ) → Keeps (renewed blocks at size)
  renewed_keeps blocks r Null size = append_stays blocks (Some (record { kind = kinds.Heap; cells = replicate size Unknown }) ∷ []) gone None r
  renewed_keeps blocks r (To name offset) size =
      let cells = resized size (cells_in (live blocks name)) in
      keeps_if (is_freeable offset (live blocks name)) (Ok (ended (made_with blocks cells) name)) (Err C10)
      (set_none (made_with blocks cells) name gone (append_stays blocks (Some (record { kind = kinds.Heap; cells = cells }) ∷ []) gone None r)) tt

  -- a mutex in another block, if it was found
  abbrev MutexAway : Result Mutex Rule → Type 0
  MutexAway (Ok m) = m.spot.name ≡ gone → ⊥
  MutexAway (Err rule) = Unit {0}

  numbered_away : (s : Range) (n : Result ℕ Rule) → (s.name ≡ gone → ⊥) → MutexAway (with_mutex_number s n)
  numbered_away s (Err rule) a = tt
  numbered_away s (Ok n) a = a

  mutex_if : (c : Bool) (x y : Result Mutex Rule) → MutexAway x → MutexAway y → MutexAway (if c then x else y)
  mutex_if true x y p q = p
  mutex_if false x y p q = q

  mutex_in_away : (s : Result Range Rule) → Away s → MutexAway (mutex_in s)
  mutex_in_away (Err rule) a = tt
  mutex_in_away (Ok s) a = mutex_if (is_literal s.block.kind) (Err C12) (with_mutex_number s (read_number (cells_at 8 s))) tt (numbered_away s (read_number (cells_at 8 s)) a)

  mutex_away : (blocks : Blocks) → HasEnded blocks gone → (at : Ptr) → MutexAway (mutex_at blocks at)
  mutex_away blocks r at = mutex_in_away (spot_at blocks 8 at) (range_away blocks r 8 8 at)

  unlock_by_keeps : (blocks : Blocks) → HasEnded blocks gone → (thread : ℕ) (m : Result Mutex Rule) → MutexAway m → Keeps (unlock_by blocks thread m)
  unlock_by_keeps blocks r thread (Err rule) a = tt
  unlock_by_keeps blocks r thread (Ok m) a = keeps_if (m.number == thread + 1) (Ok (renumbered blocks m 0)) (Err C13) (cells_keep blocks _ m.spot r a) tt

  -- the same of a lock, which may have to wait
  abbrev KeepsOrWaits : Result (Option Blocks) Rule → Type 0
  KeepsOrWaits (Ok (Some blocks)) = HasEnded blocks gone
  KeepsOrWaits (Ok None) = Unit {0}
  KeepsOrWaits (Err rule) = Unit {0}

  waits_if : (c : Bool) (x y : Result (Option Blocks) Rule) → KeepsOrWaits x → KeepsOrWaits y → KeepsOrWaits (if c then x else y)
  waits_if true x y p q = p
  waits_if false x y p q = q

  lock_by_keeps : (blocks : Blocks) → HasEnded blocks gone → (thread : ℕ) (m : Result Mutex Rule) → MutexAway m → KeepsOrWaits (lock_by blocks thread m)
  lock_by_keeps blocks r thread (Err rule) a = tt
  lock_by_keeps blocks r thread (Ok m) a =
      waits_if (m.number == 0) (Ok (Some (renumbered blocks m (thread + 1)))) (if m.number == thread + 1 then Err C13 else Ok None) (cells_keep blocks _ m.spot r a)
      (waits_if (m.number == thread + 1) (Err C13) (Ok None) tt tt)

  -- a number in another block, if it was found
  abbrev NumberAway : Result Number Rule → Type 0
  NumberAway (Ok n) = n.spot.name ≡ gone → ⊥
  NumberAway (Err rule) = Unit {0}

  read_away : (ty : IntType) (s : Range) (bits : Result ℕ Rule) → (s.name ≡ gone → ⊥) → NumberAway (number_read ty s bits)
  read_away ty s (Err rule) a = tt
  read_away ty s (Ok bits) a = a

  number_away : (ty : IntType) (s : Result Range Rule) → Away s → NumberAway (number_in ty s)
  number_away ty (Err rule) a = tt
  number_away ty (Ok s) a = read_away ty s (read_number (cells_at (ty.bits / 8) s)) a

  -- ---- what comes of an action

  -- it has ended in what is left, too
  abbrev pub Leaves : Done → Type 0
  Leaves (actions.went v w) = HasEnded w.blocks gone
  Leaves actions.blocked = Unit {0}
  Leaves actions.unfit = Unit {0}
  Leaves (actions.broke rule) = Unit {0}

  leaves_if : (c : Bool) (x y : Done) → Leaves x → Leaves y → Leaves (if c then x else y)
  leaves_if true x y p q = p
  leaves_if false x y p q = q

  leaves_gives : (w : World) (v : Result Value Rule) → HasEnded w.blocks gone → Leaves (actions.gives w v)
  leaves_gives w (Ok v) r = r
  leaves_gives w (Err rule) r = tt

  leaves_changes : (w : World) (b : Result Blocks Rule) → Keeps b → Leaves (actions.changes w b)
  leaves_changes w (Ok blocks) k = k
  leaves_changes w (Err rule) k = tt

  leaves_changes_or_waits : (w : World) (b : Result (Option Blocks) Rule) → KeepsOrWaits b → Leaves (actions.changes_or_waits w b)
  leaves_changes_or_waits w (Ok (Some blocks)) k = k
  leaves_changes_or_waits w (Ok None) k = tt
  leaves_changes_or_waits w (Err rule) k = tt

  leaves_passes : (w : World) (u : Result (Unit {0}) Rule) → HasEnded w.blocks gone → Leaves (actions.passes w u)
  leaves_passes w (Ok u) r = r
  leaves_passes w (Err rule) r = tt

  leaves_prints : (w : World) (all : Result (List ℕ) Rule) → HasEnded w.blocks gone → Leaves (actions.prints w all)
  leaves_prints w (Ok all) r = r
  leaves_prints w (Err rule) r = tt

  leaves_allocated : (w : World) (size : ℕ) (first : Cell) → HasEnded w.blocks gone → Leaves (actions.allocated w size first)
  leaves_allocated w size first r =
      leaves_if (nat_lt size (2 ^ 32)) _ actions.unfit (append_stays w.blocks (Some (record { kind = kinds.Heap; cells = replicate size first }) ∷ []) gone None r) tt

  leaves_renews : (w : World) (size : ℕ) (answer : Answer) (b : Result Blocks Rule) → HasEnded w.blocks gone → Keeps b → Leaves (actions.under answer (actions.renews w size b))
  leaves_renews w size answers.Plain (Err rule) r k = tt
  leaves_renews w size answers.Got (Err rule) r k = tt
  leaves_renews w size answers.None (Err rule) r k = tt
  leaves_renews w size answers.Plain (Ok blocks) r k = tt
  leaves_renews w size answers.Got (Ok blocks) r k = leaves_if (nat_lt size (2 ^ 32)) _ actions.unfit k tt
  leaves_renews w size answers.None (Ok blocks) r k = r

  leaves_changes_number : (w : World) (ty : IntType) (how : Change) (by : ℤ) (n : Result Number Rule) → HasEnded w.blocks gone → NumberAway n → Leaves (actions.changes_number w (change_of w.blocks ty how by n))
  leaves_changes_number w ty how by (Err rule) r a = tt
  leaves_changes_number w ty how by (Ok n) r a = cells_keep w.blocks (cells_of (values.Num (becomes how ty n.value.value by))) n.spot r a

  leaves_compare_of : (w : World) (ty : IntType) (new : ℤ) (at want : Number) (equal : Bool) → HasEnded w.blocks gone → (at.spot.name ≡ gone → ⊥) → (want.spot.name ≡ gone → ⊥)
      → Leaves (actions.compares w (Ok (if equal then record { blocks = with_number w.blocks at.spot (num ty new); equal = true } else record { blocks = with_number w.blocks want.spot at.value; equal = false })))
  leaves_compare_of w ty new at want true r a b = cells_keep w.blocks (cells_of (values.Num (num ty new))) at.spot r a
  leaves_compare_of w ty new at want false r a b = cells_keep w.blocks (cells_of (values.Num at.value)) want.spot r b

  leaves_compare_numbers : (w : World) (ty : IntType) (new : ℤ) (at want : Result Number Rule) → HasEnded w.blocks gone → NumberAway at → NumberAway want → Leaves (actions.compares w (compare_numbers w.blocks ty new at want))
  leaves_compare_numbers w ty new (Err rule) want r a b = tt
  leaves_compare_numbers w ty new (Ok at) (Err rule) r a b = tt
  leaves_compare_numbers w ty new (Ok at) (Ok want) r a b = leaves_compare_of w ty new at want (int_eq at.value.value want.value.value) r a b

  leaves_compares : (w : World) (ty : IntType) (new : ℤ) (at want : Result Range Rule) → HasEnded w.blocks gone → Away at → Away want → Leaves (actions.compares w (compare_places w.blocks ty new at want))
  leaves_compares w ty new (Err rule) want r a b = tt
  leaves_compares w ty new (Ok at) (Err rule) r a b = tt
  leaves_compares w ty new (Ok at) (Ok want) r a b =
      leaves_compare_numbers w ty new (number_in ty (Ok at)) (number_in ty (Ok want)) r (number_away ty (Ok at) a) (number_away ty (Ok want) b)

  leaves_starts : (w : World) (function : ℕ) (argument : Ptr) (b : Result Blocks Rule) → Keeps b → Leaves (actions.starts w function argument b)
  leaves_starts w function argument (Ok blocks) k = k
  leaves_starts w function argument (Err rule) k = tt

  -- a stage ends no block
  staged_keeps : (w : World) (number : ℕ) (stage : Stage) (t : Option ThreadRecord) → HasEnded w.blocks gone → HasEnded (actions.staged_if w number stage t).blocks gone
  staged_keeps w number stage None r = r
  staged_keeps w number stage (Some t) r = r

  unless_null_keeps : (blocks : Blocks) → HasEnded blocks gone → (to : Ptr) (z : ℤ) → Keeps (actions.stored_unless_null blocks to z)
  unless_null_keeps blocks r Null z = r
  unless_null_keeps blocks r (To name offset) z = stored_keeps blocks r (To name offset) (values.Num (num int z))

  leaves_joins : (w : World) (thread : ℕ) (z : ℤ) (b : Result Blocks Rule) → Keeps b → Leaves (actions.joins w thread z b)
  leaves_joins w thread z (Ok blocks) k = staged_keeps (with_blocks w blocks) thread (actions.joined z) (slice_get w.threads thread) k
  leaves_joins w thread z (Err rule) k = tt

  leaves_joins_at : (w : World) (thread : ℕ) (to : Ptr) (stage : Stage) → HasEnded w.blocks gone → Leaves (actions.joins_at w thread to stage)
  leaves_joins_at w thread to actions.running r = tt
  leaves_joins_at w thread to (actions.returned z) r = leaves_joins w thread z (actions.stored_unless_null w.blocks to z) (unless_null_keeps w.blocks r to z)
  leaves_joins_at w thread to (actions.joined z) r = tt

  leaves_joins_if : (w : World) (thread : ℕ) (to : Ptr) (t : Option ThreadRecord) → HasEnded w.blocks gone → Leaves (actions.joins_if w thread to t)
  leaves_joins_if w thread to None r = tt
  leaves_joins_if w thread to (Some t) r = leaves_joins_at w thread to t.stage r

  leaves_under : (answer : Answer) (o : Outcomes) → Leaves o.plain → Leaves o.got → Leaves o.none → Leaves (actions.under answer o)
  leaves_under answers.Plain o p q r = p
  leaves_under answers.Got o p q r = q
  leaves_under answers.None o p q r = r

  leaves_outcome : (w : World) → HasEnded w.blocks gone → (thread : ℕ) (answer : Answer) (action : SharedAction) → Leaves (actions.under answer (actions.outcomes w thread action))
  leaves_outcome w r thread answer (actions.load at how) = leaves_under answer (actions.outcomes w thread (actions.load at how)) (leaves_gives w (loaded w.blocks at how) r) tt tt
  leaves_outcome w r thread answer (actions.store at v) = leaves_under answer (actions.outcomes w thread (actions.store at v)) (leaves_changes w (stored w.blocks at v) (stored_keeps w.blocks r at v)) tt tt
  leaves_outcome w r thread answer (actions.copy to from n align same) =
      leaves_under answer (actions.outcomes w thread (actions.copy to from n align same)) (leaves_changes w (copied w.blocks to from n align same) (copied_keeps w.blocks r to from n align same)) tt tt
  leaves_outcome w r thread answer (actions.allocate size first) = leaves_under answer (actions.outcomes w thread (actions.allocate size first)) tt (leaves_allocated w size first r) r
  leaves_outcome w r thread answer (actions.reallocate at size) = leaves_renews w size answer (renewed w.blocks at size) r (renewed_keeps w.blocks r at size)
  leaves_outcome w r thread answer (actions.change at ty how by) =
      leaves_under answer (actions.outcomes w thread (actions.change at ty how by))
      (leaves_changes_number w ty how by (number_in ty (writable_at w.blocks ty at)) r (number_away ty (writable_at w.blocks ty at) (writable_at_away w.blocks r ty at))) tt tt
  leaves_outcome w r thread answer (actions.compare at want ty new) =
      leaves_under answer (actions.outcomes w thread (actions.compare at want ty new))
      (leaves_compares w ty new (writable_at w.blocks ty at) (writable_at w.blocks ty want) r (writable_at_away w.blocks r ty at) (writable_at_away w.blocks r ty want)) tt tt
  leaves_outcome w r thread answer (actions.free at) = leaves_under answer (actions.outcomes w thread (actions.free at)) (leaves_changes w (freed w.blocks at) (freed_keeps w.blocks r at)) tt tt
  leaves_outcome w r thread answer (actions.print parts) = leaves_under answer (actions.outcomes w thread (actions.print parts)) (leaves_prints w (actions.all_bytes w.blocks parts) r) tt tt
  leaves_outcome w r thread answer (actions.lock at) =
      leaves_under answer (actions.outcomes w thread (actions.lock at)) (leaves_changes_or_waits w (locked w.blocks at thread) (lock_by_keeps w.blocks r thread (mutex_at w.blocks at) (mutex_away w.blocks r at))) tt tt
  leaves_outcome w r thread answer (actions.unlock at) =
      leaves_under answer (actions.outcomes w thread (actions.unlock at)) (leaves_changes w (unlocked w.blocks at thread) (unlock_by_keeps w.blocks r thread (mutex_at w.blocks at) (mutex_away w.blocks r at))) tt tt
  leaves_outcome w r thread answer (actions.destroy at) = leaves_under answer (actions.outcomes w thread (actions.destroy at)) (leaves_passes w (destroyed w.blocks at) r) tt tt
  leaves_outcome w r thread answer (actions.start to function argument) =
      leaves_under answer (actions.outcomes w thread (actions.start to function argument)) tt (leaves_starts w function argument (stored w.blocks to (actions.next_number w)) (stored_keeps w.blocks r to (actions.next_number w))) r
  leaves_outcome w r thread answer (actions.join number to) =
      leaves_under answer (actions.outcomes w thread (actions.join number to)) (leaves_if (thread == number) (actions.broke C14) (actions.joins_if w number to (slice_get w.threads number)) tt (leaves_joins_if w number to (slice_get w.threads number) r)) tt tt
  leaves_outcome w r thread answer (actions.finish value) =
      leaves_under answer (actions.outcomes w thread (actions.finish value)) (staged_keeps w thread (actions.returned (actions.result_of value)) (slice_get w.threads thread) r) tt tt

  leaves_telling : (reached : List actions.Reached) (d : Done) → Leaves d → Leaves (actions.telling reached d)
  leaves_telling reached (actions.went v w) l = l
  leaves_telling reached actions.blocked l = tt
  leaves_telling reached actions.unfit l = tt
  leaves_telling reached (actions.broke rule) l = tt

  -- any action
  pub leaves_acted : (w : World) → HasEnded w.blocks gone → (thread : ℕ) (answer : Answer) (action : SharedAction) → Leaves (actions.acted w thread answer action)
  leaves_acted w r thread answer action =
      leaves_telling (actions.reads_of w action ++ actions.writes_of w answer action) (actions.under answer (actions.outcomes w thread action)) (leaves_outcome w r thread answer action)
