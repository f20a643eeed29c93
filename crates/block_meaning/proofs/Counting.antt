-- A turn makes at most as many blocks as a function has declarations, and one.
use Rattle.std.proofs.Common.{◌≡◌, ◌≤◌, ◌+◌, ℕ, Bool, true, false, List, [], ◌∷◌, ◌++◌, length, Option, Some, None, Ok, Err, ℤ, refl, arith}
use Rattle.std.specs.Prelude.{Result, if◌then◌else◌, slice_get}
use Rattle.ak_words.specs.declared.rule.Rule.{Rule}
use Rattle.ak_words.specs.declared.int_type.IntType.{IntType}
use Rattle.ak_words.specs.Num.{num}
use Rattle.block_store.specs.declared.values.Ptr.TheVariants.{Null, To}
use Rattle.block_store.specs.declared.values.Access.{Access}
use Rattle.block_store.specs.declared.values.Answer.{Answer}
use Rattle.block_store.specs.declared.values.Answer.TheVariants as answers
use Rattle.block_store.specs.declared.values.Value.{Value}
use Rattle.block_store.specs.declared.values.Value.TheVariants as values
use Rattle.block_store.specs.Actions as actions
use Rattle.block_store.specs.Actions.{World, SharedAction, Done}
use Rattle.block_store.specs.Runs.{Turn, went, ended, blocked, unfit, broke}
use Rattle.c_tree.specs.Typed as tree
use Rattle.c_meaning.specs.Control as control
use Rattle.c_meaning.specs.Control.{Control, Variable, Wait, TurnStart, Caller, Callee, wanted, dropped}
use Rattle.c_meaning.specs.Library.{action_of, value_of_call, names_atomic}
use Rattle.c_meaning.specs.Values as reads
use Rattle.c_meaning.specs.Touches.{touches_of}
use Rattle.c_meaning.specs.Values.{access_of_type, is_atomic, element_size, truth_of, int_of, Unary, Binary}
use Rattle.c_meaning.specs.Turns.{TurnContext, Now, Does, WayOfUse, Way, on_ok, plainly, stays, having_touched, on_done, acts, after_call, variable_at, begins_in, enters, calls_library, calls, result_of_call, number_in, returns_to, leaves_call, without_blocks, pointer_in, read_way, only_way, second_way, first_way, second_test_way, is_same, first_test_way, choice_way, argument_way, reads_variable, finds_variable, literal_block, size_of_elements, run, run_node, run_place, run_place_node, run_arguments}
use Rattle.block_meaning.specs.Counts.{in_row, reached, reached_by, Fits, FitsUse, FitsWait, FitsPoint, FitsCallers, FitsControl, HasFewDeclarations}
use Rattle.block_meaning.proofs.Small.{Small, small_acted, without_blocks_length}

-- the values of constants
abbrev pub block_value : (block : ℕ) → Value
block_value block = values.Pointer (To block 0)

abbrev null_value : Value
null_value = values.Pointer Null

abbrev number_value : IntType → ℤ → Value
number_value t z = values.Num (num t z)

-- ---- what comes of a turn

-- at most b blocks, and one more by an action; and what is left to do fits
abbrev pub Within : (n b : ℕ) → Turn Control → Type 0
Within n b (went own w) = (length w.blocks ≤ b + 1) × FitsControl n own
Within n b (ended w) = length w.blocks ≤ b + 1
Within n b blocked = Unit {0}
Within n b unfit = Unit {0}
Within n b (broke rule place) = Unit {0}

pub within_more : (n a b : ℕ) (t : Turn Control) → a ≤ b → Within n a t → Within n b t
within_more n a b (went own w) h s = (omega (arith, h, s.0), s.1)
within_more n a b (ended w) h s = omega (arith, h, s)
within_more n a b blocked h s = tt
within_more n a b unfit h s = tt
within_more n a b (broke rule place) h s = tt

pub within_if : (n b : ℕ) (c : Bool) (s t : Turn Control) → Within n b s → Within n b t → Within n b (if c then s else t)
within_if n b true s t p q = p
within_if n b false s t p q = q

-- the rest of a turn makes at most m blocks, and one
abbrev pub Makes : (n m : ℕ) → Does → Type 0
Makes n m d = (x : Now) → Within n (length x.world.blocks + m) (d x)

pub makes_more : (n a b : ℕ) (d : Does) → a ≤ b → Makes n a d → Makes n b d
makes_more n a b d h s x = within_more n (length x.world.blocks + a) (length x.world.blocks + b) (d x) (omega (arith, h)) (s x)

pub record MakesUse (n : ℕ) (w : WayOfUse) : Type 0 where
  pub fits : FitsUse n w.k
  pub goes : (v : Value) → Makes n (reached_by w.k) (w.go v)

pub record MakesWay (n : ℕ) (w : Way) : Type 0 where
  pub fits : Fits n w.k
  pub ends : Makes n (reached w.k) w.end
  pub breaks : Makes n (reached w.k) w.breaks
  pub continues : Makes n (reached w.k) w.continues

-- what stays the same in a turn
pub record Few (n : ℕ) (h : TurnContext) : Type 0 where
  pub callers : FitsCallers n h.callers
  pub few : HasFewDeclarations n h.typed

-- ---- where a turn ends

pub on_ok_within : {V : Type 0} (n b place : ℕ) (go : V → Turn Control) (r : Result V Rule) → ((v : V) → Within n b (go v)) → Within n b (on_ok place go r)
on_ok_within n b place go (Ok v) s = s v
on_ok_within n b place go (Err rule) s = tt

pub plainly_within : (n b : ℕ) (answer : Answer) (t : Turn Control) → Within n b t → Within n b (plainly answer t)
plainly_within n b answers.Plain t s = s
plainly_within n b answers.Got t s = tt
plainly_within n b answers.None t s = tt

on_done_within : (n b c place : ℕ) (go : Option Value → World → Turn Control) (d : Done) → Small b d → ((v : Option Value) (w : World) → length w.blocks ≤ b + 1 → Within n c (go v w)) → Within n c (on_done place go d)
on_done_within n b c place go (actions.went v w) small s = s v w small
on_done_within n b c place go actions.blocked small s = tt
on_done_within n b c place go actions.unfit small s = tt
on_done_within n b c place go (actions.broke rule) small s = tt

-- an action, and where the thread goes on
pub acts_within : (n m : ℕ) (h : TurnContext) (place : ℕ) (atomic : Bool) (action : SharedAction) (locals : List Variable) (point : Option Value → TurnStart) → Few n h → ((v : Option Value) → FitsPoint n (point v)) → (x : Now)
    → Within n (length x.world.blocks + m) (acts h place atomic action (λ u next. stays h locals (point u) next) x)
acts_within n m h place atomic action locals point f fits x =
    on_done_within n (length x.world.blocks) (length x.world.blocks + m) place (λ u next. having_touched (touches_of place x.world h.answer atomic action) (stays h locals (point u) next)) (actions.acted x.world h.thread h.answer action) (small_acted x.world h.thread h.answer action)
    (λ v w s. (omega (arith, s), (fits v, f.callers)))

pub after_fits : (n : ℕ) (k : Wait) (v : Option Value) → FitsWait n k → FitsPoint n (after_call k v)
after_fits n (wanted place k) (Some v) s = s
after_fits n (wanted place k) None s = tt
after_fits n (dropped k) v s = s

-- ---- calls

enters_within : (n : ℕ) (h : TurnContext) (number : ℕ) (args : List Value) (k : Wait) (x : Now) (found : Option tree.Func) → Few n h → FitsWait n k → ((f : tree.Func) → found ≡ Some f → in_row f.body ≤ n)
    → Within n (length x.world.blocks) (enters h number args k x found)
enters_within n h number args k x None f fits few = tt
enters_within n h number args k x (Some g) f fits few =
    let here : in_row g.body ≤ n = few g refl in
    plainly_within n (length x.world.blocks) h.answer (went (begins_in number g args (record { function = h.function; locals = x.locals; wait = k } ∷ h.callers)) x.world)
    (omega arith, ((omega (arith, here), tt), (fits, f.callers)))

calls_library_within : (n : ℕ) (h : TurnContext) (place : ℕ) (which : tree.Lib) (args : List Value) (k : Wait) (action : Option SharedAction) (x : Now) → Few n h → FitsWait n k
    → Within n (length x.world.blocks + 0) (calls_library h place which args k action x)
calls_library_within n h place which args k None x f fits = tt
calls_library_within n h place which args k (Some action) x f fits =
    acts_within n 0 h place (names_atomic which) action x.locals (λ v. after_call k (value_of_call which args v)) f (λ v. after_fits n k (value_of_call which args v) fits) x

calls_within : (n : ℕ) (h : TurnContext) (place : ℕ) (callee : Callee) (args : List Value) (k : Wait) (x : Now) → Few n h → FitsWait n k → Within n (length x.world.blocks + 0) (calls h place callee args k x)
calls_within n h place (control.function number) args k x f fits =
    within_more n (length x.world.blocks) (length x.world.blocks + 0) (calls h place (control.function number) args k x) (omega arith)
    (enters_within n h number args k x (slice_get h.typed.funcs number) f fits (f.few number))
calls_within n h place (control.library which) args k x f fits = calls_library_within n h place which args k (action_of which args) x f fits

returns_within : (n : ℕ) (h : TurnContext) (v : Option Value) (w : World) (callers : List Caller) → FitsCallers n callers → Within n (length w.blocks) (returns_to h v w callers)
returns_within n h v w [] fits =
    on_done_within n (length w.blocks) (length w.blocks) 0 (λ u next. ended next) (actions.acted w h.thread h.answer (actions.finish (number_in v))) (small_acted w h.thread h.answer (actions.finish (number_in v))) (λ u next s. s)
returns_within n h v w (c ∷ callers) fits =
    plainly_within n (length w.blocks) h.answer (went (record { function = c.function; locals = c.locals; point = after_call c.wait v; callers = callers; touched = [] }) w)
    (omega arith, (after_fits n c.wait v fits.0, fits.1))

pub leaves_makes : (n m : ℕ) (h : TurnContext) (v : Option Value) → Few n h → Makes n m (leaves_call h v)
leaves_makes n m h v f x =
    within_more n (length (without_blocks x.locals x.world).blocks) (length x.world.blocks + m) (leaves_call h v x) (omega (arith, without_blocks_length x.locals x.world))
    (returns_within n h (result_of_call h v) (without_blocks x.locals x.world) h.callers f.callers)

-- ---- what uses a value in an expression

pub read_makes : (n : ℕ) (h : TurnContext) (place : ℕ) (how : Access) (atomic : Bool) (w : WayOfUse) → Few n h → MakesUse n w → MakesUse n (read_way h place how atomic w)
read_makes n h place how atomic w f g = record {
  fits = g.fits;
  goes = λ v x. acts_within n (reached_by w.k) h place atomic (actions.load (pointer_in v) how) x.locals (λ u. after_call (wanted place w.k) u) f (λ u. after_fits n (wanted place w.k) u g.fits) x;
}

pub only_makes : (n place : ℕ) (op : Unary) (w : WayOfUse) → MakesUse n w → MakesUse n (only_way place op w)
only_makes n place op w g = record {
  fits = g.fits;
  goes = λ v x. on_ok_within n (length x.world.blocks + reached_by w.k) place (λ r. w.go r x) (reads.of_one x.world.blocks op v) (λ r. g.goes r x);
}

pub second_makes : (n place : ℕ) (op : Binary) (left : Value) (w : WayOfUse) → MakesUse n w → MakesUse n (second_way place op left w)
second_makes n place op left w g = record {
  fits = g.fits;
  goes = λ v x. on_ok_within n (length x.world.blocks + reached_by w.k) place (λ r. w.go r x) (reads.of_two x.world.blocks op left v) (λ r. g.goes r x);
}

-- an expression, as it is evaluated before what uses its value
abbrev pub Runs : (n : ℕ) → (WayOfUse → Does) → Type 0
Runs n run_it = (w : WayOfUse) → MakesUse n w → Makes n (reached_by w.k) (run_it w)

pub first_makes : (n place : ℕ) (op : Binary) (right : tree.Expr) (run_right : WayOfUse → Does) (w : WayOfUse) → Runs n run_right → MakesUse n w → MakesUse n (first_way place op right run_right w)
first_makes n place op right run_right w s g = record {
  fits = g.fits;
  goes = λ v x. s (second_way place op v w) (second_makes n place op v w g) x;
}

pub second_test_makes : (n place : ℕ) (w : WayOfUse) → MakesUse n w → MakesUse n (second_test_way place w)
second_test_makes n place w g = record {
  fits = g.fits;
  goes = λ v x. on_ok_within n (length x.world.blocks + reached_by w.k) place (λ (b : Bool). w.go (int_of b) x) (truth_of x.world.blocks v) (λ b. g.goes (int_of b) x);
}

pub first_test_makes : (n place : ℕ) (decides : Bool) (right : tree.Expr) (run_right : WayOfUse → Does) (w : WayOfUse) → Runs n run_right → MakesUse n w → MakesUse n (first_test_way place decides right run_right w)
first_test_makes n place decides right run_right w s g = record {
  fits = g.fits;
  goes = λ v x. on_ok_within n (length x.world.blocks + reached_by w.k) place (λ (b : Bool). if is_same b decides then w.go (int_of b) x else run_right (second_test_way (tree.place_of right) w) x) (truth_of x.world.blocks v)
      (λ b. within_if n (length x.world.blocks + reached_by w.k) (is_same b decides) (w.go (int_of b) x) (run_right (second_test_way (tree.place_of right) w) x) (g.goes (int_of b) x) (s (second_test_way (tree.place_of right) w) (second_test_makes n (tree.place_of right) w g) x));
}

pub choice_makes : (n place : ℕ) (one other : tree.Expr) (run_one run_other : WayOfUse → Does) (w : WayOfUse) → Runs n run_one → Runs n run_other → MakesUse n w → MakesUse n (choice_way place one other run_one run_other w)
choice_makes n place one other run_one run_other w s t g = record {
  fits = g.fits;
  goes = λ v x. on_ok_within n (length x.world.blocks + reached_by w.k) place (λ (b : Bool). if b then run_one w x else run_other w x) (truth_of x.world.blocks v)
      (λ b. within_if n (length x.world.blocks + reached_by w.k) b (run_one w x) (run_other w x) (s w g x) (t w g x));
}

pub argument_makes : (n place : ℕ) (callee : Callee) (before : List Value) (rest : tree.Exprs) (run_rest : List Value → Wait → Does) (k : Wait) → FitsWait n k → ((all : List Value) → Makes n 0 (run_rest all k)) → MakesUse n (argument_way place callee before rest run_rest k)
argument_makes n place callee before rest run_rest k fits s = record { fits = fits; goes = λ v x. s (before ++ v ∷ []) x }

reads_variable_makes : (n : ℕ) (h : TurnContext) (place : ℕ) (ty : tree.Ty) (w : WayOfUse) (v : Variable) → Few n h → MakesUse n w → Makes n (reached_by w.k) (reads_variable h place ty w v)
reads_variable_makes n h place ty w control.unset f g x = tt
reads_variable_makes n h place ty w (control.holds v) f g x = g.goes v x
reads_variable_makes n h place ty w (control.lies block) f g x = (read_makes n h place (access_of_type ty) (is_atomic ty) w f g).goes (block_value block) x

finds_variable_makes : (n place : ℕ) (w : WayOfUse) (v : Variable) → MakesUse n w → Makes n (reached_by w.k) (finds_variable place w v)
finds_variable_makes n place w control.unset g x = tt
finds_variable_makes n place w (control.holds v) g x = tt
finds_variable_makes n place w (control.lies block) g x = g.goes (block_value block) x

-- ---- expressions

mutual
  pub run_makes : (n : ℕ) (h : TurnContext) → Few n h → (e : tree.Expr) → Runs n (run h e)
  run_makes n h f (tree.at place ty node) w g x = run_node_makes n h f place ty node w g x

  pub run_node_makes : (n : ℕ) (h : TurnContext) → Few n h → (place : ℕ) (ty : tree.Ty) (node : tree.ExprNode) → Runs n (run_node h place ty node)
  run_node_makes n h f place ty (tree.num t z) w g x = g.goes (number_value t z) x
  run_node_makes n h f place ty tree.null w g x = g.goes null_value x
  run_node_makes n h f place ty (tree.literal number) w g x = (read_makes n h place (access_of_type ty) (is_atomic ty) w f g).goes (block_value (literal_block h number)) x
  run_node_makes n h f place ty (tree.global number) w g x = (read_makes n h place (access_of_type ty) (is_atomic ty) w f g).goes (block_value number) x
  run_node_makes n h f place ty (tree.local number) w g x = reads_variable_makes n h place ty w (variable_at x number) f g x
  run_node_makes n h f place ty (tree.deref e) w g x = run_makes n h f e (read_way h place (access_of_type ty) (is_atomic ty) w) (read_makes n h place (access_of_type ty) (is_atomic ty) w f g) x
  run_node_makes n h f place ty (tree.member e number) w g x =
      let op = reads.selects (reads.member_offset h.typed.structs (tree.type_of e) number) in
      run_place_makes n h f e (only_way place op (read_way h place (access_of_type ty) (is_atomic ty) w)) (only_makes n place op (read_way h place (access_of_type ty) (is_atomic ty) w) (read_makes n h place (access_of_type ty) (is_atomic ty) w f g)) x
  run_node_makes n h f place ty (tree.address_of e) w g x = run_place_makes n h f e w g x
  run_node_makes n h f place ty (tree.decay e) w g x = run_place_makes n h f e w g x
  run_node_makes n h f place ty (tree.convert e) w g x = run_makes n h f e (only_way place (reads.converts ty) w) (only_makes n place (reads.converts ty) w g) x
  run_node_makes n h f place ty (tree.not_ e) w g x = run_makes n h f e (only_way place reads.negates w) (only_makes n place reads.negates w g) x
  run_node_makes n h f place ty (tree.binary op a b) w g x =
      run_makes n h f a (first_way place (reads.on_numbers op) b (run h b) w) (first_makes n place (reads.on_numbers op) b (run h b) w (run_makes n h f b) g) x
  run_node_makes n h f place ty (tree.and_also a b) w g x =
      run_makes n h f a (first_test_way (tree.place_of a) false b (run h b) w) (first_test_makes n (tree.place_of a) false b (run h b) w (run_makes n h f b) g) x
  run_node_makes n h f place ty (tree.or_else a b) w g x =
      run_makes n h f a (first_test_way (tree.place_of a) true b (run h b) w) (first_test_makes n (tree.place_of a) true b (run h b) w (run_makes n h f b) g) x
  run_node_makes n h f place ty (tree.choose c a b) w g x =
      run_makes n h f c (choice_way (tree.place_of c) a b (run h a) (run h b) w) (choice_makes n (tree.place_of c) a b (run h a) (run h b) w (run_makes n h f a) (run_makes n h f b) g) x
  run_node_makes n h f place ty (tree.pointer_add p q) w g x =
      run_makes n h f p (first_way place (reads.forward (element_size h.typed.structs ty)) q (run h q) w) (first_makes n place (reads.forward (element_size h.typed.structs ty)) q (run h q) w (run_makes n h f q) g) x
  run_node_makes n h f place ty (tree.pointer_sub p q) w g x =
      run_makes n h f p (first_way place (reads.backward (size_of_elements h p)) q (run h q) w) (first_makes n place (reads.backward (size_of_elements h p)) q (run h q) w (run_makes n h f q) g) x
  run_node_makes n h f place ty (tree.pointer_diff p q) w g x =
      run_makes n h f p (first_way place (reads.distance (size_of_elements h p)) q (run h q) w) (first_makes n place (reads.distance (size_of_elements h p)) q (run h q) w (run_makes n h f q) g) x
  run_node_makes n h f place ty (tree.pointer_compare op p q) w g x =
      run_makes n h f p (first_way place (reads.on_pointers op) q (run h q) w) (first_makes n place (reads.on_pointers op) q (run h q) w (run_makes n h f q) g) x
  run_node_makes n h f place ty (tree.pointer_test p) w g x = run_makes n h f p (only_way place reads.tests w) (only_makes n place reads.tests w g) x
  run_node_makes n h f place ty (tree.call number args) w g x =
      within_more n (length x.world.blocks + 0) (length x.world.blocks + reached_by w.k) (run_arguments h place (control.function number) args [] (wanted place w.k) x) (omega arith)
      (run_arguments_makes n h f place (control.function number) args [] (wanted place w.k) g.fits x)
  run_node_makes n h f place ty (tree.lib which args) w g x =
      within_more n (length x.world.blocks + 0) (length x.world.blocks + reached_by w.k) (run_arguments h place (control.library which) args [] (wanted place w.k) x) (omega arith)
      (run_arguments_makes n h f place (control.library which) args [] (wanted place w.k) g.fits x)

  pub run_place_makes : (n : ℕ) (h : TurnContext) → Few n h → (e : tree.Expr) → Runs n (run_place h e)
  run_place_makes n h f (tree.at place ty node) w g x = run_place_node_makes n h f place node w g x

  pub run_place_node_makes : (n : ℕ) (h : TurnContext) → Few n h → (place : ℕ) (node : tree.ExprNode) → Runs n (run_place_node h place node)
  run_place_node_makes n h f place (tree.literal number) w g x = g.goes (block_value (literal_block h number)) x
  run_place_node_makes n h f place (tree.global number) w g x = g.goes (block_value number) x
  run_place_node_makes n h f place (tree.local number) w g x = finds_variable_makes n place w (variable_at x number) g x
  run_place_node_makes n h f place (tree.deref e) w g x = run_makes n h f e w g x
  run_place_node_makes n h f place (tree.member e number) w g x =
      let op = reads.selects (reads.member_offset h.typed.structs (tree.type_of e) number) in
      run_place_makes n h f e (only_way place op w) (only_makes n place op w g) x
  run_place_node_makes n h f place (tree.num t z) w g x = tt
  run_place_node_makes n h f place tree.null w g x = tt
  run_place_node_makes n h f place (tree.address_of e) w g x = tt
  run_place_node_makes n h f place (tree.decay e) w g x = tt
  run_place_node_makes n h f place (tree.convert e) w g x = tt
  run_place_node_makes n h f place (tree.not_ e) w g x = tt
  run_place_node_makes n h f place (tree.binary op a b) w g x = tt
  run_place_node_makes n h f place (tree.and_also a b) w g x = tt
  run_place_node_makes n h f place (tree.or_else a b) w g x = tt
  run_place_node_makes n h f place (tree.choose c a b) w g x = tt
  run_place_node_makes n h f place (tree.pointer_add p q) w g x = tt
  run_place_node_makes n h f place (tree.pointer_sub p q) w g x = tt
  run_place_node_makes n h f place (tree.pointer_diff p q) w g x = tt
  run_place_node_makes n h f place (tree.pointer_compare op p q) w g x = tt
  run_place_node_makes n h f place (tree.pointer_test p) w g x = tt
  run_place_node_makes n h f place (tree.call number args) w g x = tt
  run_place_node_makes n h f place (tree.lib which args) w g x = tt

  pub run_arguments_makes : (n : ℕ) (h : TurnContext) → Few n h → (place : ℕ) (callee : Callee) (args : tree.Exprs) (before : List Value) (k : Wait) → FitsWait n k → Makes n 0 (run_arguments h place callee args before k)
  run_arguments_makes n h f place callee tree.no_exprs before k fits x = calls_within n h place callee before k x f fits
  run_arguments_makes n h f place callee (tree.more_exprs e rest) before k fits x =
      run_makes n h f e (argument_way place callee before rest (run_arguments h place callee rest) k)
      (argument_makes n place callee before rest (run_arguments h place callee rest) k fits (λ all. run_arguments_makes n h f place callee rest all k fits)) x
