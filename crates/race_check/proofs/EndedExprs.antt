-- No expression reads or writes a block that has ended, and the block stays so.
use Rattle.std.proofs.Common.{ℕ, Bool, true, false, List, [], ◌∷◌, ◌++◌, slice_get, Option, Some, None, Ok, Err, ℤ}
use Rattle.std.specs.Prelude.{Result, if◌then◌else◌}
use Rattle.ak_words.specs.declared.rule.Rule.{Rule}
use Rattle.ak_words.specs.declared.int_type.IntType.{IntType}
use Rattle.ak_words.specs.Num.{num}
use Rattle.block_store.specs.declared.values.Ptr.TheVariants.{Null, To}
use Rattle.block_store.specs.declared.values.Access.{Access}
use Rattle.block_store.specs.declared.values.Answer.{Answer}
use Rattle.block_store.specs.declared.values.Answer.TheVariants as answers
use Rattle.block_store.specs.declared.values.Value.{Value}
use Rattle.block_store.specs.declared.values.Value.TheVariants as values
use Rattle.block_store.specs.Actions as actions
use Rattle.block_store.specs.Actions.{World, SharedAction, Done}
use Rattle.block_store.specs.Runs.{Turn, went, ended, blocked, unfit, broke}
use Rattle.c_tree.specs.Typed as tree
use Rattle.c_meaning.specs.Control as control
use Rattle.c_meaning.specs.Control.{Control, Variable, Wait, TurnStart, Caller, Callee, wanted, dropped}
use Rattle.c_meaning.specs.Library.{action_of, value_of_call, names_atomic}
use Rattle.c_meaning.specs.Values as reads
use Rattle.c_meaning.specs.Touches.{touches_of}
use Rattle.c_meaning.specs.Values.{access_of_type, is_atomic, element_size, truth_of, int_of, Unary, Binary}
use Rattle.c_meaning.specs.Turns.{TurnContext, Now, Does, WayOfUse, Way, on_ok, plainly, stays, having_touched, on_done, acts, after_call, variable_at, begins_in, enters, calls_library, calls, result_of_call, number_in, returns_to, leaves_call, without_block, without_blocks, pointer_in, read_way, only_way, second_way, first_way, second_test_way, is_same, first_test_way, choice_way, argument_way, reads_variable, finds_variable, literal_block, size_of_elements, run, run_node, run_place, run_place_node, run_arguments}
use Rattle.race_rules.specs.declared.touch.Touch.{Touch}
use Rattle.race_rules.proofs.Touching.{no_has}
use Rattle.block_meaning.specs.Running.{HasEnded}
use Rattle.race_check.proofs.EndedActions.{Leaves, leaves_acted, set_none}
use Rattle.race_check.proofs.EndedTouches.{Touched, IsRefused, acted_refused}

-- the values of constants
abbrev pub block_value : (block : ℕ) → Value
block_value block = values.Pointer (To block 0)

abbrev null_value : Value
null_value = values.Pointer Null

abbrev number_value : IntType → ℤ → Value
number_value t z = values.Num (num t z)

-- ---- what comes of a turn

-- the block has still ended, and wasn't touched
abbrev pub Spares : (gone : ℕ) → Turn Control → Type 0
Spares gone (went own w) = HasEnded w.blocks gone × (Touched gone own.touched → ⊥)
Spares gone (ended w) = HasEnded w.blocks gone
Spares gone blocked = Unit {0}
Spares gone unfit = Unit {0}
Spares gone (broke rule place) = Unit {0}

-- the same of the rest of a turn
abbrev pub DoesSpare : (gone : ℕ) → Does → Type 0
DoesSpare gone d = (x : Now) → HasEnded x.world.blocks gone → Spares gone (d x)

abbrev pub UseSpares : (gone : ℕ) → WayOfUse → Type 0
UseSpares gone w = (v : Value) → DoesSpare gone (w.go v)

pub record WaySpares (gone : ℕ) (w : Way) : Type 0 where
  pub ends : DoesSpare gone w.end
  pub breaks : DoesSpare gone w.breaks
  pub continues : DoesSpare gone w.continues

-- of an expression, as it is evaluated before what uses its value
abbrev pub Runs : (gone : ℕ) → (WayOfUse → Does) → Type 0
Runs gone run_it = (w : WayOfUse) → UseSpares gone w → DoesSpare gone (run_it w)

module _ (gone : ℕ) where
  pub spares_if : (c : Bool) (s t : Turn Control) → Spares gone s → Spares gone t → Spares gone (if c then s else t)
  spares_if true s t p q = p
  spares_if false s t p q = q

  -- ---- where a turn ends

  pub on_ok_spares : {V : Type 0} (place : ℕ) (go : V → Turn Control) (r : Result V Rule) → ((v : V) → Spares gone (go v)) → Spares gone (on_ok place go r)
  on_ok_spares place go (Ok v) s = s v
  on_ok_spares place go (Err rule) s = tt

  pub plainly_spares : (answer : Answer) (t : Turn Control) → Spares gone t → Spares gone (plainly answer t)
  plainly_spares answers.Plain t s = s
  plainly_spares answers.Got t s = tt
  plainly_spares answers.None t s = tt

  acts_done : (h : TurnContext) (place : ℕ) (locals : List Variable) (point : Option Value → TurnStart) (touches : List Touch) (d : Done) → Leaves gone d → (Touched gone touches → IsRefused d)
      → Spares gone (on_done place (λ u next. having_touched touches (stays h locals (point u) next)) d)
  acts_done h place locals point touches (actions.went v w) l t = (l, t)
  acts_done h place locals point touches actions.blocked l t = tt
  acts_done h place locals point touches actions.unfit l t = tt
  acts_done h place locals point touches (actions.broke rule) l t = tt

  -- an action, and where the thread goes on
  pub acts_spare : (h : TurnContext) (place : ℕ) (atomic : Bool) (action : SharedAction) (locals : List Variable) (point : Option Value → TurnStart) → DoesSpare gone (acts h place atomic action (λ u next. stays h locals (point u) next))
  acts_spare h place atomic action locals point x r =
      acts_done h place locals point (touches_of place x.world h.answer atomic action) (actions.acted x.world h.thread h.answer action) (leaves_acted gone x.world r h.thread h.answer action)
      (λ t. acted_refused gone x.world r place h.thread h.answer atomic action t)

  -- ---- calls

  enters_spares : (h : TurnContext) (number : ℕ) (args : List Value) (k : Wait) (x : Now) (found : Option tree.Func) → HasEnded x.world.blocks gone → Spares gone (enters h number args k x found)
  enters_spares h number args k x None r = tt
  enters_spares h number args k x (Some g) r =
      plainly_spares h.answer (went (begins_in number g args (record { function = h.function; locals = x.locals; wait = k } ∷ h.callers)) x.world) (r, λ t. no_has t)

  calls_library_spares : (h : TurnContext) (place : ℕ) (which : tree.Lib) (args : List Value) (k : Wait) (action : Option SharedAction) → DoesSpare gone (calls_library h place which args k action)
  calls_library_spares h place which args k None x r = tt
  calls_library_spares h place which args k (Some action) x r = acts_spare h place (names_atomic which) action x.locals (λ v. after_call k (value_of_call which args v)) x r

  calls_spare : (h : TurnContext) (place : ℕ) (callee : Callee) (args : List Value) (k : Wait) → DoesSpare gone (calls h place callee args k)
  calls_spare h place (control.function number) args k x r = enters_spares h number args k x (slice_get h.typed.funcs number) r
  calls_spare h place (control.library which) args k x r = calls_library_spares h place which args k (action_of which args) x r

  finish_spares : (d : Done) → Leaves gone d → Spares gone (on_done 0 (λ u next. ended next) d)
  finish_spares (actions.went v w) l = l
  finish_spares actions.blocked l = tt
  finish_spares actions.unfit l = tt
  finish_spares (actions.broke rule) l = tt

  returns_spare : (h : TurnContext) (v : Option Value) (w : World) (callers : List Caller) → HasEnded w.blocks gone → Spares gone (returns_to h v w callers)
  returns_spare h v w [] r = finish_spares (actions.acted w h.thread h.answer (actions.finish (number_in v))) (leaves_acted gone w r h.thread h.answer (actions.finish (number_in v)))
  returns_spare h v w (c ∷ callers) r =
      plainly_spares h.answer (went (record { function = c.function; locals = c.locals; point = after_call c.wait v; callers = callers; touched = [] }) w) (r, λ t. no_has t)

  -- locals that end
  without_block_keeps : (v : Variable) (w : World) → HasEnded w.blocks gone → HasEnded (without_block v w).blocks gone
  without_block_keeps control.unset w r = r
  without_block_keeps (control.holds v) w r = r
  without_block_keeps (control.lies block) w r = set_none w.blocks block gone r

  without_blocks_keeps : (vs : List Variable) (w : World) → HasEnded w.blocks gone → HasEnded (without_blocks vs w).blocks gone
  without_blocks_keeps [] w r = r
  without_blocks_keeps (v ∷ vs) w r = without_blocks_keeps vs (without_block v w) (without_block_keeps v w r)

  pub leaves_spare : (h : TurnContext) (v : Option Value) → DoesSpare gone (leaves_call h v)
  leaves_spare h v x r = returns_spare h (result_of_call h v) (without_blocks x.locals x.world) h.callers (without_blocks_keeps x.locals x.world r)

  -- ---- what uses a value in an expression

  pub read_spares : (h : TurnContext) (place : ℕ) (how : Access) (atomic : Bool) (w : WayOfUse) → UseSpares gone (read_way h place how atomic w)
  read_spares h place how atomic w v x r = acts_spare h place atomic (actions.load (pointer_in v) how) x.locals (λ u. after_call (wanted place w.k) u) x r

  pub only_spares : (place : ℕ) (op : Unary) (w : WayOfUse) → UseSpares gone w → UseSpares gone (only_way place op w)
  only_spares place op w g v x r = on_ok_spares place (λ u. w.go u x) (reads.of_one x.world.blocks op v) (λ u. g u x r)

  pub second_spares : (place : ℕ) (op : Binary) (left : Value) (w : WayOfUse) → UseSpares gone w → UseSpares gone (second_way place op left w)
  second_spares place op left w g v x r = on_ok_spares place (λ u. w.go u x) (reads.of_two x.world.blocks op left v) (λ u. g u x r)

  pub first_spares : (place : ℕ) (op : Binary) (right : tree.Expr) (run_right : WayOfUse → Does) (w : WayOfUse) → Runs gone run_right → UseSpares gone w → UseSpares gone (first_way place op right run_right w)
  first_spares place op right run_right w s g v x r = s (second_way place op v w) (second_spares place op v w g) x r

  pub second_test_spares : (place : ℕ) (w : WayOfUse) → UseSpares gone w → UseSpares gone (second_test_way place w)
  second_test_spares place w g v x r = on_ok_spares place (λ (b : Bool). w.go (int_of b) x) (truth_of x.world.blocks v) (λ b. g (int_of b) x r)

  pub first_test_spares : (place : ℕ) (decides : Bool) (right : tree.Expr) (run_right : WayOfUse → Does) (w : WayOfUse) → Runs gone run_right → UseSpares gone w → UseSpares gone (first_test_way place decides right run_right w)
  first_test_spares place decides right run_right w s g v x r =
      let second = second_test_way (tree.place_of right) w in
      on_ok_spares place (λ (b : Bool). if is_same b decides then w.go (int_of b) x else run_right second x) (truth_of x.world.blocks v)
      (λ b. spares_if (is_same b decides) (w.go (int_of b) x) (run_right second x) (g (int_of b) x r) (s second (second_test_spares (tree.place_of right) w g) x r))

  pub choice_spares : (place : ℕ) (one other : tree.Expr) (run_one run_other : WayOfUse → Does) (w : WayOfUse) → Runs gone run_one → Runs gone run_other → UseSpares gone w → UseSpares gone (choice_way place one other run_one run_other w)
  choice_spares place one other run_one run_other w s t g v x r =
      on_ok_spares place (λ (b : Bool). if b then run_one w x else run_other w x) (truth_of x.world.blocks v) (λ b. spares_if b (run_one w x) (run_other w x) (s w g x r) (t w g x r))

  pub argument_spares : (place : ℕ) (callee : Callee) (before : List Value) (rest : tree.Exprs) (run_rest : List Value → Wait → Does) (k : Wait) → ((all : List Value) → DoesSpare gone (run_rest all k)) → UseSpares gone (argument_way place callee before rest run_rest k)
  argument_spares place callee before rest run_rest k s v x r = s (before ++ v ∷ []) x r

  reads_variable_spares : (h : TurnContext) (place : ℕ) (ty : tree.Ty) (w : WayOfUse) (v : Variable) → UseSpares gone w → DoesSpare gone (reads_variable h place ty w v)
  reads_variable_spares h place ty w control.unset g x r = tt
  reads_variable_spares h place ty w (control.holds v) g x r = g v x r
  reads_variable_spares h place ty w (control.lies block) g x r = read_spares h place (access_of_type ty) (is_atomic ty) w (block_value block) x r

  finds_variable_spares : (place : ℕ) (w : WayOfUse) (v : Variable) → UseSpares gone w → DoesSpare gone (finds_variable place w v)
  finds_variable_spares place w control.unset g x r = tt
  finds_variable_spares place w (control.holds v) g x r = tt
  finds_variable_spares place w (control.lies block) g x r = g (block_value block) x r

  -- ---- expressions

  mutual
    pub run_spares : (h : TurnContext) (e : tree.Expr) → Runs gone (run h e)
    run_spares h (tree.at place ty node) w g x r = run_node_spares h place ty node w g x r

    pub run_node_spares : (h : TurnContext) (place : ℕ) (ty : tree.Ty) (node : tree.ExprNode) → Runs gone (run_node h place ty node)
    run_node_spares h place ty (tree.num t z) w g x r = g (number_value t z) x r
    run_node_spares h place ty tree.null w g x r = g null_value x r
    run_node_spares h place ty (tree.literal number) w g x r = read_spares h place (access_of_type ty) (is_atomic ty) w (block_value (literal_block h number)) x r
    run_node_spares h place ty (tree.global number) w g x r = read_spares h place (access_of_type ty) (is_atomic ty) w (block_value number) x r
    run_node_spares h place ty (tree.local number) w g x r = reads_variable_spares h place ty w (variable_at x number) g x r
    run_node_spares h place ty (tree.deref e) w g x r = run_spares h e (read_way h place (access_of_type ty) (is_atomic ty) w) (read_spares h place (access_of_type ty) (is_atomic ty) w) x r
    run_node_spares h place ty (tree.member e number) w g x r =
        let op = reads.selects (reads.member_offset h.typed.structs (tree.type_of e) number) in
        let read = read_way h place (access_of_type ty) (is_atomic ty) w in
        run_place_spares h e (only_way place op read) (only_spares place op read (read_spares h place (access_of_type ty) (is_atomic ty) w)) x r
    run_node_spares h place ty (tree.address_of e) w g x r = run_place_spares h e w g x r
    run_node_spares h place ty (tree.decay e) w g x r = run_place_spares h e w g x r
    run_node_spares h place ty (tree.convert e) w g x r = run_spares h e (only_way place (reads.converts ty) w) (only_spares place (reads.converts ty) w g) x r
    run_node_spares h place ty (tree.not_ e) w g x r = run_spares h e (only_way place reads.negates w) (only_spares place reads.negates w g) x r
    run_node_spares h place ty (tree.binary op a b) w g x r =
        run_spares h a (first_way place (reads.on_numbers op) b (run h b) w) (first_spares place (reads.on_numbers op) b (run h b) w (run_spares h b) g) x r
    run_node_spares h place ty (tree.and_also a b) w g x r =
        run_spares h a (first_test_way (tree.place_of a) false b (run h b) w) (first_test_spares (tree.place_of a) false b (run h b) w (run_spares h b) g) x r
    run_node_spares h place ty (tree.or_else a b) w g x r =
        run_spares h a (first_test_way (tree.place_of a) true b (run h b) w) (first_test_spares (tree.place_of a) true b (run h b) w (run_spares h b) g) x r
    run_node_spares h place ty (tree.choose c a b) w g x r =
        run_spares h c (choice_way (tree.place_of c) a b (run h a) (run h b) w) (choice_spares (tree.place_of c) a b (run h a) (run h b) w (run_spares h a) (run_spares h b) g) x r
    run_node_spares h place ty (tree.pointer_add p q) w g x r =
        let op = reads.forward (element_size h.typed.structs ty) in
        run_spares h p (first_way place op q (run h q) w) (first_spares place op q (run h q) w (run_spares h q) g) x r
    run_node_spares h place ty (tree.pointer_sub p q) w g x r =
        let op = reads.backward (size_of_elements h p) in
        run_spares h p (first_way place op q (run h q) w) (first_spares place op q (run h q) w (run_spares h q) g) x r
    run_node_spares h place ty (tree.pointer_diff p q) w g x r =
        let op = reads.distance (size_of_elements h p) in
        run_spares h p (first_way place op q (run h q) w) (first_spares place op q (run h q) w (run_spares h q) g) x r
    run_node_spares h place ty (tree.pointer_compare op p q) w g x r =
        run_spares h p (first_way place (reads.on_pointers op) q (run h q) w) (first_spares place (reads.on_pointers op) q (run h q) w (run_spares h q) g) x r
    run_node_spares h place ty (tree.pointer_test p) w g x r = run_spares h p (only_way place reads.tests w) (only_spares place reads.tests w g) x r
    run_node_spares h place ty (tree.call number args) w g x r = run_arguments_spare h place (control.function number) args [] (wanted place w.k) x r
    run_node_spares h place ty (tree.lib which args) w g x r = run_arguments_spare h place (control.library which) args [] (wanted place w.k) x r

    pub run_place_spares : (h : TurnContext) (e : tree.Expr) → Runs gone (run_place h e)
    run_place_spares h (tree.at place ty node) w g x r = run_place_node_spares h place node w g x r

    pub run_place_node_spares : (h : TurnContext) (place : ℕ) (node : tree.ExprNode) → Runs gone (run_place_node h place node)
    run_place_node_spares h place (tree.literal number) w g x r = g (block_value (literal_block h number)) x r
    run_place_node_spares h place (tree.global number) w g x r = g (block_value number) x r
    run_place_node_spares h place (tree.local number) w g x r = finds_variable_spares place w (variable_at x number) g x r
    run_place_node_spares h place (tree.deref e) w g x r = run_spares h e w g x r
    run_place_node_spares h place (tree.member e number) w g x r =
        let op = reads.selects (reads.member_offset h.typed.structs (tree.type_of e) number) in
        run_place_spares h e (only_way place op w) (only_spares place op w g) x r
    run_place_node_spares h place (tree.num t z) w g x r = tt
    run_place_node_spares h place tree.null w g x r = tt
    run_place_node_spares h place (tree.address_of e) w g x r = tt
    run_place_node_spares h place (tree.decay e) w g x r = tt
    run_place_node_spares h place (tree.convert e) w g x r = tt
    run_place_node_spares h place (tree.not_ e) w g x r = tt
    run_place_node_spares h place (tree.binary op a b) w g x r = tt
    run_place_node_spares h place (tree.and_also a b) w g x r = tt
    run_place_node_spares h place (tree.or_else a b) w g x r = tt
    run_place_node_spares h place (tree.choose c a b) w g x r = tt
    run_place_node_spares h place (tree.pointer_add p q) w g x r = tt
    run_place_node_spares h place (tree.pointer_sub p q) w g x r = tt
    run_place_node_spares h place (tree.pointer_diff p q) w g x r = tt
    run_place_node_spares h place (tree.pointer_compare op p q) w g x r = tt
    run_place_node_spares h place (tree.pointer_test p) w g x r = tt
    run_place_node_spares h place (tree.call number args) w g x r = tt
    run_place_node_spares h place (tree.lib which args) w g x r = tt

    pub run_arguments_spare : (h : TurnContext) (place : ℕ) (callee : Callee) (args : tree.Exprs) (before : List Value) (k : Wait) → DoesSpare gone (run_arguments h place callee args before k)
    run_arguments_spare h place callee tree.no_exprs before k x r = calls_spare h place callee before k x r
    run_arguments_spare h place callee (tree.more_exprs e rest) before k x r =
        run_spares h e (argument_way place callee before rest (run_arguments h place callee rest) k)
        (argument_spares place callee before rest (run_arguments h place callee rest) k (λ all. run_arguments_spare h place callee rest all k)) x r
