-- What an action gives is of the type that it should be, and which answers it takes.
use Rattle.std.proofs.Common.{◌≡◌, ℕ, zero, suc, ◌==◌, ◌/◌, ◌^◌, nat_lt, Bool, true, false, List, [], ◌∷◌, ◌++◌, set, Option, Some, None, Ok, Err, ℤ, pos, refl, subst}
use Rattle.std.specs.Prelude.{Result, if◌then◌else◌, slice_get}
use Rattle.std.specs.Option.{option_map, ok_or}
use Rattle.std.specs.List.{AllByRecursion}
use Rattle.ak_words.specs.declared.int_type.IntType.{IntType}
use Rattle.ak_words.specs.declared.rule.Rule.{Rule}
use Rattle.ak_words.specs.declared.rule.Rule.TheVariants.{C4, C14, C16}
use Rattle.ak_words.specs.IntType.{int}
use Rattle.ak_words.specs.Num.{num}
use Rattle.block_store.specs.declared.values.Answer.{Answer}
use Rattle.block_store.specs.declared.values.Answer.TheVariants as answers
use Rattle.block_store.specs.declared.values.Cell.{Cell}
use Rattle.block_store.specs.declared.values.Change.{Change}
use Rattle.block_store.specs.declared.values.Ptr.{Ptr}
use Rattle.block_store.specs.declared.values.Value.{Value}
use Rattle.block_store.specs.declared.values.Value.TheVariants as values
use Rattle.block_store.specs.Actions as actions
use Rattle.block_store.specs.Actions.{World, ThreadRecord, Stage, SharedAction, Done, Reached, acted, under, outcomes, telling, at_stage, staged_if, staged}
use Rattle.block_store.specs.Atomics as atomics
use Rattle.block_store.specs.Atomics.{Number, number_in, writable_at, Changed, change_of, changed, Compared, compared}
use Rattle.block_store.specs.Blocks.{Blocks, Range, loaded, read_at, spot_at, cells_at, stored, copied, renewed}
use Rattle.block_store.specs.Cells.{size_of, value_of, read, has_unknown, number_of, pointer_of, read_number}
use Rattle.c_tree.specs.Typed as tree
use Rattle.c_meaning.specs.Values.{access_of_type}
use Rattle.c_meaning.specs.Kinds.{HasType, HasTypeIf, CanBegin, IsTypedWorld}
use Rattle.c_meaning.proofs.TypedValues.{HasValues}

-- ---- what is done

-- where an action is done, its value has this property, and the world is well formed
abbrev pub DoneWith : tree.Typed → (Option Value → Type 0) → Done → Type 0
DoneWith t P (actions.went v w) = P v × IsTypedWorld t w
DoneWith t P actions.blocked = Unit {0}
DoneWith t P actions.unfit = Unit {0}
DoneWith t P (actions.broke rule) = Unit {0}

telling_done : (t : tree.Typed) (P : Option Value → Type 0) (reached : List Reached) (d : Done) → DoneWith t P d → DoneWith t P (telling reached d)
telling_done t P reached (actions.went v w) h = h
telling_done t P reached actions.blocked h = tt
telling_done t P reached actions.unfit h = tt
telling_done t P reached (actions.broke rule) h = tt

under_done : (t : tree.Typed) (P : Option Value → Type 0) (answer : Answer) (o : actions.Outcomes) → DoneWith t P o.plain → DoneWith t P o.got → DoneWith t P o.none → DoneWith t P (under answer o)
under_done t P answers.Plain o p g n = p
under_done t P answers.Got o p g n = g
under_done t P answers.None o p g n = n

pub acted_done : (t : tree.Typed) (P : Option Value → Type 0) (w : World) (thread : ℕ) (answer : Answer) (action : SharedAction)
    → DoneWith t P (outcomes w thread action).plain → DoneWith t P (outcomes w thread action).got → DoneWith t P (outcomes w thread action).none → DoneWith t P (acted w thread answer action)
acted_done t P w thread answer action p g n =
    telling_done t P (actions.reads_of w action ++ actions.writes_of w answer action) (under answer (outcomes w thread action)) (under_done t P answer (outcomes w thread action) p g n)

pub done_if : (t : tree.Typed) (P : Option Value → Type 0) (b : Bool) (d e : Done) → DoneWith t P d → DoneWith t P e → DoneWith t P (if b then d else e)
done_if t P true d e p q = p
done_if t P false d e p q = q

-- no value
abbrev pub IsNoValue : Option Value → Type 0
IsNoValue v = v ≡ None

pub changes_done : (t : tree.Typed) (w : World) (r : Result Blocks Rule) → IsTypedWorld t w → DoneWith t IsNoValue (actions.changes w r)
changes_done t w (Ok blocks) h = (refl, h)
changes_done t w (Err rule) h = tt

pub waits_done : (t : tree.Typed) (w : World) (r : Result (Option Blocks) Rule) → IsTypedWorld t w → DoneWith t IsNoValue (actions.changes_or_waits w r)
waits_done t w (Ok (Some blocks)) h = (refl, h)
waits_done t w (Ok None) h = tt
waits_done t w (Err rule) h = tt

pub passes_done : (t : tree.Typed) (w : World) (r : Result (Unit {0}) Rule) → IsTypedWorld t w → DoneWith t IsNoValue (actions.passes w r)
passes_done t w (Ok u) h = (refl, h)
passes_done t w (Err rule) h = tt

-- ---- loads

abbrev OkTyped : tree.Ty → Result Value Rule → Type 0
OkTyped ty (Ok v) = HasType ty v
OkTyped ty (Err rule) = Unit {0}

abbrev SomeTyped : tree.Ty → Option Value → Type 0
SomeTyped ty None = Unit {0}
SomeTyped ty (Some v) = HasType ty v

number_read : (t : IntType) (o : Option ℕ) → SomeTyped (tree.integer t) (option_map (λ (bits : ℕ). values.Num (num t (pos bits))) o)
number_read t None = tt
number_read t (Some bits) = refl

atomic_read : (t : IntType) (o : Option ℕ) → SomeTyped (tree.atomic t) (option_map (λ (bits : ℕ). values.Num (num t (pos bits))) o)
atomic_read t None = tt
atomic_read t (Some bits) = refl

pointer_read : (to : tree.Ty) (o : Option Ptr) → SomeTyped (tree.pointer to) (option_map values.Pointer o)
pointer_read to None = tt
pointer_read to (Some p) = tt

value_read : (ty : tree.Ty) (cells : List Cell) → HasValues ty → SomeTyped ty (value_of (access_of_type ty) cells)
value_read (tree.integer t) cells h = number_read t (number_of cells)
value_read (tree.atomic t) cells h = atomic_read t (number_of cells)
value_read (tree.pointer to) cells h = pointer_read to (pointer_of cells)
value_read ty cells h = elim h [ ]

ok_or_typed : (ty : tree.Ty) (o : Option Value) (rule : Rule) → SomeTyped ty o → OkTyped ty (ok_or o rule)
ok_or_typed ty None rule h = tt
ok_or_typed ty (Some v) rule h = h

unless_unknown : (ty : tree.Ty) (b : Bool) (r : Result Value Rule) → OkTyped ty r → OkTyped ty (if b then Err C4 else r)
unless_unknown ty true r h = tt
unless_unknown ty false r h = h

read_typed : (ty : tree.Ty) (cells : List Cell) → HasValues ty → OkTyped ty (read (access_of_type ty) cells)
read_typed ty cells h = unless_unknown ty (has_unknown cells) (ok_or (value_of (access_of_type ty) cells) C16) (ok_or_typed ty (value_of (access_of_type ty) cells) C16 (value_read ty cells h))

read_at_typed : (ty : tree.Ty) (s : Result Range Rule) → HasValues ty → OkTyped ty (read_at (access_of_type ty) s)
read_at_typed ty (Ok s) h = read_typed ty (cells_at (size_of (access_of_type ty)) s) h
read_at_typed ty (Err rule) h = tt

-- a load gives a value of the type whose access it is
pub loaded_typed : (ty : tree.Ty) (blocks : Blocks) (at : Ptr) → HasValues ty → OkTyped ty (loaded blocks at (access_of_type ty))
loaded_typed ty blocks at h = read_at_typed ty (spot_at blocks (size_of (access_of_type ty)) at) h

gives_done : (t : tree.Typed) (ty : tree.Ty) (w : World) (r : Result Value Rule) → OkTyped ty r → IsTypedWorld t w → DoneWith t (HasTypeIf ty) (actions.gives w r)
gives_done t ty w (Ok v) o h = (o, h)
gives_done t ty w (Err rule) o h = tt

pub load_done : (t : tree.Typed) (ty : tree.Ty) (w : World) (thread : ℕ) (answer : Answer) (at : Ptr) → HasValues ty → IsTypedWorld t w → DoneWith t (HasTypeIf ty) (acted w thread answer (actions.load at (access_of_type ty)))
load_done t ty w thread answer at s h = acted_done t (HasTypeIf ty) w thread answer (actions.load at (access_of_type ty)) (gives_done t ty w (loaded w.blocks at (access_of_type ty)) (loaded_typed ty w.blocks at s) h) tt tt

-- ---- stores and copies

pub store_done : (t : tree.Typed) (w : World) (thread : ℕ) (answer : Answer) (at : Ptr) (v : Value) → IsTypedWorld t w → DoneWith t IsNoValue (acted w thread answer (actions.store at v))
store_done t w thread answer at v h = acted_done t IsNoValue w thread answer (actions.store at v) (changes_done t w (stored w.blocks at v) h) tt tt

pub copy_done : (t : tree.Typed) (w : World) (thread : ℕ) (answer : Answer) (to from : Ptr) (n align : ℕ) (same : Bool) → IsTypedWorld t w → DoneWith t IsNoValue (acted w thread answer (actions.copy to from n align same))
copy_done t w thread answer to from n align same h = acted_done t IsNoValue w thread answer (actions.copy to from n align same) (changes_done t w (copied w.blocks to from n align same) h) tt tt

-- ---- allocations

renews_done : (t : tree.Typed) (to : tree.Ty) (w : World) (size : ℕ) (r : Result Blocks Rule) (answer : Answer) → IsTypedWorld t w → DoneWith t (HasTypeIf (tree.pointer to)) (under answer (actions.renews w size r))
renews_done t to w size (Err rule) answers.Plain h = tt
renews_done t to w size (Err rule) answers.Got h = tt
renews_done t to w size (Err rule) answers.None h = tt
renews_done t to w size (Ok blocks) answers.Plain h = tt
renews_done t to w size (Ok blocks) answers.Got h = done_if t (HasTypeIf (tree.pointer to)) (nat_lt size (2 ^ 32)) _ actions.unfit (tt, h) tt
renews_done t to w size (Ok blocks) answers.None h = (tt, h)

pub realloc_done : (t : tree.Typed) (to : tree.Ty) (w : World) (thread : ℕ) (answer : Answer) (at : Ptr) (size : ℕ) → IsTypedWorld t w → DoneWith t (HasTypeIf (tree.pointer to)) (acted w thread answer (actions.reallocate at size))
realloc_done t to w thread answer at size h =
    telling_done t (HasTypeIf (tree.pointer to)) (actions.writes_of w answer (actions.reallocate at size)) (under answer (actions.renews w size (renewed w.blocks at size))) (renews_done t to w size (renewed w.blocks at size) answer h)

-- ---- atomic numbers

-- a change gives the number that was there
-- a change gives a number of this type
abbrev pub OldIs : IntType → Result Changed Rule → Type 0
OldIs ty (Ok c) = c.old.ty ≡ ty
OldIs ty (Err rule) = Unit {0}

abbrev NumberIs : IntType → Result Number Rule → Type 0
NumberIs ty (Ok n) = n.value.ty ≡ ty
NumberIs ty (Err rule) = Unit {0}

number_read_is : (ty : IntType) (s : Range) (r : Result ℕ Rule) → NumberIs ty (atomics.number_read ty s r)
number_read_is ty s (Ok bits) = refl
number_read_is ty s (Err rule) = tt

number_in_is : (ty : IntType) (r : Result Range Rule) → NumberIs ty (number_in ty r)
number_in_is ty (Ok s) = number_read_is ty s (read_number (cells_at (ty.bits / 8) s))
number_in_is ty (Err rule) = tt

changed_old : (ty : IntType) (blocks : Blocks) (how : Change) (by : ℤ) (r : Result Number Rule) → NumberIs ty r → OldIs ty (change_of blocks ty how by r)
changed_old ty blocks how by (Ok n) h = h
changed_old ty blocks how by (Err rule) h = tt

pub old_is : (ty : IntType) (blocks : Blocks) (at : Ptr) (how : Change) (by : ℤ) → OldIs ty (changed blocks at ty how by)
old_is ty blocks at how by = changed_old ty blocks how by (number_in ty (writable_at blocks ty at)) (number_in_is ty (writable_at blocks ty at))

changes_number_done : (t : tree.Typed) (ty : IntType) (w : World) (r : Result Changed Rule) → OldIs ty r → IsTypedWorld t w → DoneWith t (HasTypeIf (tree.integer ty)) (actions.changes_number w r)
changes_number_done t ty w (Ok c) o h = (o, h)
changes_number_done t ty w (Err rule) o h = tt

pub change_done : (t : tree.Typed) (ty : IntType) (w : World) (thread : ℕ) (answer : Answer) (at : Ptr) (how : Change) (by : ℤ) → IsTypedWorld t w → DoneWith t (HasTypeIf (tree.integer ty)) (acted w thread answer (actions.change at ty how by))
change_done t ty w thread answer at how by h =
    acted_done t (HasTypeIf (tree.integer ty)) w thread answer (actions.change at ty how by) (changes_number_done t ty w (changed w.blocks at ty how by) (old_is ty w.blocks at how by) h) tt tt

compares_done : (t : tree.Typed) (w : World) (r : Result Compared Rule) → IsTypedWorld t w → DoneWith t (HasTypeIf (tree.integer int)) (actions.compares w r)
compares_done t w (Ok c) h = (refl, h)
compares_done t w (Err rule) h = tt

pub compare_done : (t : tree.Typed) (ty : IntType) (w : World) (thread : ℕ) (answer : Answer) (at want : Ptr) (new : ℤ) → IsTypedWorld t w → DoneWith t (HasTypeIf (tree.integer int)) (acted w thread answer (actions.compare at want ty new))
compare_done t ty w thread answer at want new h =
    acted_done t (HasTypeIf (tree.integer int)) w thread answer (actions.compare at want ty new) (compares_done t w (compared w.blocks at want ty new) h) tt tt

-- ---- threads

staged_threads : (t : tree.Typed) (all : List ThreadRecord) (n : ℕ) (stage : Stage) (h : ThreadRecord) → slice_get all n ≡ Some h → AllByRecursion (λ (x : ThreadRecord). CanBegin t x.function) all → AllByRecursion (λ (x : ThreadRecord). CanBegin t x.function) (set all n (at_stage stage h))
staged_threads t [] n stage h e a = tt
staged_threads t (x ∷ all) zero stage h e a = let same : x ≡ h = cc in (subst (λ (y : ThreadRecord). CanBegin t y.function) same a.0, a.1)
staged_threads t (x ∷ all) (suc n) stage h e a = (a.0, staged_threads t all n stage h e a.1)

staged_if_world : (t : tree.Typed) (w : World) (n : ℕ) (stage : Stage) (o : Option ThreadRecord) → slice_get w.threads n ≡ o → IsTypedWorld t w → IsTypedWorld t (staged_if w n stage o)
staged_if_world t w n stage None e h = h
staged_if_world t w n stage (Some x) e h = staged_threads t w.threads n stage x e h

staged_world : (t : tree.Typed) (w : World) (n : ℕ) (stage : Stage) → IsTypedWorld t w → IsTypedWorld t (staged w n stage)
staged_world t w n stage h = staged_if_world t w n stage (slice_get w.threads n) refl h

pub finish_done : (t : tree.Typed) (w : World) (thread : ℕ) (answer : Answer) (value : Option ℤ) → IsTypedWorld t w → DoneWith t IsNoValue (acted w thread answer (actions.finish value))
finish_done t w thread answer value h = acted_done t IsNoValue w thread answer (actions.finish value) (refl, staged_world t w thread (actions.returned (actions.result_of value)) h) tt tt

more_threads : (t : tree.Typed) (all : List ThreadRecord) (h : ThreadRecord) → AllByRecursion (λ (x : ThreadRecord). CanBegin t x.function) all → CanBegin t h.function → AllByRecursion (λ (x : ThreadRecord). CanBegin t x.function) (all ++ h ∷ [])
more_threads t [] h a c = (c, tt)
more_threads t (x ∷ all) h a c = (a.0, more_threads t all h a.1 c)

pub starts_done : (t : tree.Typed) (w : World) (function : ℕ) (argument : Ptr) (r : Result Blocks Rule) → CanBegin t function → IsTypedWorld t w → DoneWith t (HasTypeIf (tree.integer int)) (actions.starts w function argument r)
starts_done t w function argument (Ok blocks) c h = (refl, more_threads t w.threads (actions.beginning function argument) h c)
starts_done t w function argument (Err rule) c h = tt

joins_done : (t : tree.Typed) (w : World) (thread : ℕ) (z : ℤ) (r : Result Blocks Rule) → IsTypedWorld t w → DoneWith t (HasTypeIf (tree.integer int)) (actions.joins w thread z r)
joins_done t w thread z (Ok blocks) h = (refl, staged_world t (actions.with_blocks w blocks) thread (actions.joined z) h)
joins_done t w thread z (Err rule) h = tt

joins_at_done : (t : tree.Typed) (w : World) (thread : ℕ) (to : Ptr) (stage : Stage) → IsTypedWorld t w → DoneWith t (HasTypeIf (tree.integer int)) (actions.joins_at w thread to stage)
joins_at_done t w thread to actions.running h = tt
joins_at_done t w thread to (actions.returned z) h = joins_done t w thread z (actions.stored_unless_null w.blocks to z) h
joins_at_done t w thread to (actions.joined z) h = tt

joins_if_done : (t : tree.Typed) (w : World) (thread : ℕ) (to : Ptr) (o : Option ThreadRecord) → IsTypedWorld t w → DoneWith t (HasTypeIf (tree.integer int)) (actions.joins_if w thread to o)
joins_if_done t w thread to None h = tt
joins_if_done t w thread to (Some x) h = joins_at_done t w thread to x.stage h

pub joined_done : (t : tree.Typed) (w : World) (self thread : ℕ) (to : Ptr) → IsTypedWorld t w → DoneWith t (HasTypeIf (tree.integer int)) (actions.joined_by w self thread to)
joined_done t w self thread to h =
    done_if t (HasTypeIf (tree.integer int)) (self == thread) (actions.broke C14) (actions.joins_if w thread to (slice_get w.threads thread)) tt (joins_if_done t w thread to (slice_get w.threads thread) h)

pub prints_done : (t : tree.Typed) (w : World) (r : Result (List ℕ) Rule) → IsTypedWorld t w → DoneWith t (HasTypeIf (tree.integer int)) (actions.prints w r)
prints_done t w (Ok all) h = (refl, h)
prints_done t w (Err rule) h = tt
