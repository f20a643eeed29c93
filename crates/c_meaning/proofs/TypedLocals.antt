-- Locals keep their types, and what a call has where it begins.
use Rattle.std.proofs.Common.{◌≡◌, ℕ, zero, suc, ◌+◌, ◌-◌, ◌≤◌, Bool, true, false, List, [], ◌∷◌, ◌++◌, length, map, take, set, replicate, Option, Some, refl, sym, ap, subst, ◌∙◌, arith}
use Rattle.std.specs.Prelude.{if◌then◌else◌, slice_get}
use Rattle.std.specs.List.{AllByRecursion}
use Rattle.block_store.specs.declared.values.Answer.{Answer}
use Rattle.block_store.specs.declared.values.Ptr.{Ptr}
use Rattle.block_store.specs.declared.values.Value.{Value}
use Rattle.block_store.specs.declared.values.Value.TheVariants as values
use Rattle.block_store.specs.Actions.{World}
use Rattle.c_tree.specs.Typed as tree
use Rattle.c_tree.specs.TypedForm.{IsScalar, AreArguments, Inside, IsLocal, IsWellFormed}
use Rattle.c_meaning.specs.Control.{Variable, unset, holds, lies, Caller}
use Rattle.c_meaning.specs.Turns.{TurnContext, Now, local_at, declared_in, is_block, variable_or_unset, variable_at, with_variable, ended_if, ended_local, ended_locals, made_local, declared_local, without_block, without_blocks, first_locals}
use Rattle.c_meaning.specs.Kinds.{HasType, MayHold, AllHold, StandBefore, inside, AreTypedCallers, IsTypedWorld}
use Rattle.c_meaning.proofs.TypedValues.{fits_type}

-- ---- where a turn is

-- the call that a turn of a thread begins in: the program, the thread, the function and its number, and the calls that wait
pub record Site : Type 0 where
  pub typed : tree.Typed
  pub thread : ℕ
  pub number : ℕ
  pub func : tree.Func
  pub callers : List Caller

-- what stays the same in the turn, under each answer
abbrev pub here_at : Site → Answer → TurnContext
here_at s answer = record { typed = s.typed; thread = s.thread; answer = answer; function = s.number; callers = s.callers }

abbrev pub inside_at : Site → Inside
inside_at s = inside s.typed s.func

-- all of it is well formed
pub record Stands (s : Site) : Type 0 where
  pub well : IsWellFormed s.typed
  pub found : slice_get s.typed.funcs s.number ≡ Some s.func
  pub callers : AreTypedCallers s.typed s.func.result s.callers

-- and so is what changes
pub record IsNow (s : Site) (x : Now) : Type 0 where
  pub locals : AllHold s.func.locals x.locals
  pub world : IsTypedWorld s.typed x.world

-- ---- lists

pub hold_at : (ls : List tree.Local) (vs : List Variable) (n : ℕ) (l : tree.Local) → AllHold ls vs → slice_get ls n ≡ Some l → MayHold l (variable_or_unset (slice_get vs n))
hold_at [] [] n l h e = absurd cc
hold_at [] (v ∷ vs) n l h e = elim h [ ]
hold_at (m ∷ ls) [] n l h e = elim h [ ]
hold_at (m ∷ ls) (v ∷ vs) zero l h e = let same : m ≡ l = cc in subst (λ k. MayHold k v) same h.0
hold_at (m ∷ ls) (v ∷ vs) (suc n) l h e = hold_at ls vs n l h.1 e

pub hold_set : (ls : List tree.Local) (vs : List Variable) (n : ℕ) (v : Variable) → AllHold ls vs → ((l : tree.Local) → slice_get ls n ≡ Some l → MayHold l v) → AllHold ls (set vs n v)
hold_set [] [] n v h m = tt
hold_set [] (u ∷ vs) n v h m = elim h [ ]
hold_set (l ∷ ls) [] n v h m = elim h [ ]
hold_set (l ∷ ls) (u ∷ vs) zero v h m = (m l refl, h.1)
hold_set (l ∷ ls) (u ∷ vs) (suc n) v h m = (h.0, hold_set ls vs n v h.1 m)

-- what is said of each says it of one
pub at_number : {A : Type 0} (P : A → Type 0) (xs : List A) (n : ℕ) (x : A) → AllByRecursion P xs → slice_get xs n ≡ Some x → P x
at_number P [] n x h e = absurd cc
at_number P (y ∷ xs) zero x h e = let same : y ≡ x = cc in subst P same h.0
at_number P (y ∷ xs) (suc n) x h e = at_number P xs n x h.1 e

-- ---- the locals of a call

now_if : (s : Site) (b : Bool) (x y : Now) → (b ≡ true → IsNow s x) → (b ≡ false → IsNow s y) → IsNow s (if b then x else y)
now_if s true x y p q = p refl
now_if s false x y p q = q refl

pub with_now : (s : Site) (n : ℕ) (v : Variable) (x : Now) → IsNow s x → ((l : tree.Local) → slice_get s.func.locals n ≡ Some l → MayHold l v) → IsNow s (with_variable n v x)
with_now s n v x h m = record { locals = hold_set s.func.locals x.locals n v h.locals m; world = h.world }

pub unset_now : (s : Site) (n : ℕ) (x : Now) → IsNow s x → IsNow s (with_variable n unset x)
unset_now s n x h = with_now s n unset x h (λ l e. tt)

ended_if_now : (s : Site) (n : ℕ) (v : Variable) (x : Now) → IsNow s x → IsNow s (ended_if n v x)
ended_if_now s n unset x h = h
ended_if_now s n (holds v) x h = h
ended_if_now s n (lies block) x h = record { locals = hold_set s.func.locals x.locals n unset h.locals (λ l e. tt); world = h.world }

pub ended_local_now : (s : Site) (n : ℕ) (x : Now) → IsNow s x → IsNow s (ended_local n x)
ended_local_now s n x h = ended_if_now s n (variable_at x n) x h

pub ended_locals_now : (s : Site) (ns : List ℕ) (x : Now) → IsNow s x → IsNow s (ended_locals ns x)
ended_locals_now s [] x h = h
ended_locals_now s (n ∷ ns) x h = ended_locals_now s ns (ended_local n x) (ended_local_now s n x h)

-- what the program says of a local is what its function says
pub local_found : (s : Site) → Stands s → (answer : Answer) (n : ℕ) (l : tree.Local) → slice_get s.func.locals n ≡ Some l → is_block (local_at (here_at s answer) n) ≡ l.in_memory
local_found s f answer n l e = ap (λ (o : Option tree.Func). is_block (declared_in o n)) f.found ∙ ap is_block e

pub made_now : (s : Site) → Stands s → (answer : Answer) (n : ℕ) (x : Now) → is_block (local_at (here_at s answer) n) ≡ true → IsNow s x → IsNow s (made_local (here_at s answer) n x)
made_now s f answer n x b h =
    let y = ended_local n x in
    let ok = ended_local_now s n x h in
    record {
      locals = hold_set s.func.locals y.locals n (lies (length y.world.blocks)) ok.locals (λ l e. sym (local_found s f answer n l e) ∙ b);
      world = ok.world;
    }

pub declared_now : (s : Site) → Stands s → (answer : Answer) (n : ℕ) (x : Now) → IsNow s x → IsNow s (declared_local (here_at s answer) n x)
declared_now s f answer n x h =
    now_if s (is_block (local_at (here_at s answer) n)) (made_local (here_at s answer) n x) (with_variable n unset x)
    (λ b. made_now s f answer n x b h) (λ b. unset_now s n x h)

without_world : (t : tree.Typed) (v : Variable) (w : World) → IsTypedWorld t w → IsTypedWorld t (without_block v w)
without_world t unset w h = h
without_world t (holds v) w h = h
without_world t (lies block) w h = h

pub without_blocks_world : (t : tree.Typed) (vs : List Variable) (w : World) → IsTypedWorld t w → IsTypedWorld t (without_blocks vs w)
without_blocks_world t [] w h = h
without_blocks_world t (v ∷ vs) w h = without_blocks_world t vs (without_block v w) (without_world t v w h)

-- ---- the locals of a call that begins

-- values for the first of these locals, none of which is in memory
abbrev pub ArgumentsHold : List Value → List tree.Local → Type 0
ArgumentsHold [] ls = Unit {0}
ArgumentsHold (v ∷ vs) [] = ⊥
ArgumentsHold (v ∷ vs) (l ∷ ls) = ((l.in_memory ≡ false) × HasType l.ty v) × ArgumentsHold vs ls

unset_hold : (ls : List tree.Local) → AllHold ls (replicate (length ls) unset)
unset_hold [] = tt
unset_hold (l ∷ ls) = (tt, unset_hold ls)

as_many_hold : (ls : List tree.Local) (n : ℕ) → n ≡ length ls → AllHold ls (replicate n unset)
as_many_hold ls n e = subst (λ k. AllHold ls (replicate k unset)) (sym e) (unset_hold ls)

begun_hold : (vs : List Value) (ls : List tree.Local) (n : ℕ) → n + length vs ≡ length ls → ArgumentsHold vs ls → AllHold ls (map holds vs ++ replicate n unset)
begun_hold [] ls n e h = as_many_hold ls n (omega arith)
begun_hold (v ∷ vs) [] n e h = elim h [ ]
begun_hold (v ∷ vs) (l ∷ ls) n e h = (h.0, begun_hold vs ls n (omega arith) h.1)

not_more : (vs : List Value) (ls : List tree.Local) → ArgumentsHold vs ls → length vs ≤ length ls
not_more [] ls h = omega arith
not_more (v ∷ vs) [] h = elim h [ ]
not_more (v ∷ vs) (l ∷ ls) h = omega (arith, not_more vs ls h.1)

pub first_hold : (f : tree.Func) (vs : List Value) → ArgumentsHold vs f.locals → AllHold f.locals (first_locals f vs)
first_hold f vs h = begun_hold vs f.locals (length f.locals - length vs) (omega (arith, not_more vs f.locals h)) h

abbrev pub type_of_local : tree.Local → tree.Ty
type_of_local l = l.ty

abbrev pub NotInMemory : tree.Local → Type 0
NotInMemory l = l.in_memory ≡ false

-- the values of well formed arguments are those of the parameters
pub arguments_hold : (n : ℕ) (ls : List tree.Local) (all : tree.Exprs) (vs : List Value) → AllByRecursion NotInMemory (take n ls) → AreArguments (map type_of_local (take n ls)) all
    → StandBefore vs tree.no_exprs all → ArgumentsHold vs ls
arguments_hold n ls all [] m a h = tt
arguments_hold n ls tree.no_exprs (v ∷ vs) m a h = elim h [ ]
arguments_hold zero ls (tree.more_exprs e all) (v ∷ vs) m a h = elim a [ ]
arguments_hold (suc n) [] (tree.more_exprs e all) (v ∷ vs) m a h = elim a [ ]
arguments_hold (suc n) (l ∷ ls) (tree.more_exprs e all) (v ∷ vs) m a h = ((m.0, fits_type (tree.type_of e) l.ty v a.0 h.0), arguments_hold n ls all vs m.1 a.1 h.1)

-- the one pointer that a thread's function takes
pub pointer_holds : (n : ℕ) (ls : List tree.Local) (argument : Ptr) → AllByRecursion NotInMemory (take n ls) → map type_of_local (take n ls) ≡ tree.pointer tree.void ∷ [] → ArgumentsHold (values.Pointer argument ∷ []) ls
pointer_holds zero ls argument m e = absurd cc
pointer_holds (suc n) [] argument m e = absurd cc
pointer_holds (suc n) (l ∷ ls) argument m e = let is : l.ty ≡ tree.pointer tree.void = cc in ((m.0, subst (λ z. HasType z (values.Pointer argument)) (sym is) tt), tt)

-- where no local that is a block holds a value, parameters are scalar
pub params_scalar : (structs : List tree.Layout) (n : ℕ) (ls : List tree.Local) → AllByRecursion (IsLocal structs) ls → AllByRecursion NotInMemory (take n ls) → AllByRecursion IsScalar (map type_of_local (take n ls))
params_scalar structs zero ls h m = tt
params_scalar structs (suc n) [] h m = tt
params_scalar structs (suc n) (l ∷ ls) h m = (h.0.scalar m.0, params_scalar structs n ls h.1 m.1)
