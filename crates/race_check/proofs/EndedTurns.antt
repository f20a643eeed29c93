-- No turn reads or writes a block that has ended, and the block stays so.
use Rattle.std.proofs.Common.{ℕ, zero, suc, Bool, true, false, List, [], ◌∷◌, length, replicate, Option, Some, None}
use Rattle.std.specs.Prelude.{if◌then◌else◌}
use Rattle.block_store.specs.declared.values.Answer.{Answer}
use Rattle.block_store.specs.declared.values.BlockKind.TheVariants as kinds
use Rattle.block_store.specs.declared.values.Cell.TheVariants.{Unknown}
use Rattle.block_store.specs.declared.values.Value.{Value}
use Rattle.block_store.specs.Actions as actions
use Rattle.block_store.specs.Actions.{World, SharedAction}
use Rattle.c_tree.specs.Typed as tree
use Rattle.c_tree.specs.TypedLayout.{size_in, align_in}
use Rattle.c_meaning.specs.Control as control
use Rattle.c_meaning.specs.Control.{Control, Variable, Todo, Use, TurnStart, Loop, Update, wanted, dropped}
use Rattle.c_meaning.specs.Library.{changed_by}
use Rattle.c_meaning.specs.Switches.{chosen, starts_at}
use Rattle.c_meaning.specs.Values.{access_of_type, is_atomic, is_minus, is_scalar, truth_of, updated}
use Rattle.c_meaning.specs.Turns.{TurnContext, Now, Does, Way, stays, after_call, local_at, is_block, is_atomic_local, size_of_local, variable_at, with_variable, ended_if, ended_local, ended_locals, made_local, declared_local, declared, declared_by, pointer_in, run, run_node, run_place, run_place_node, run_arguments, nowhere_way, drops_object, run_dropped, run_dropped_node, local_way, place_way, left_way, struct_right_way, struct_left_way, is_struct, assigns_object, assigns, update_read_way, update_reads, update_changes, update_right_way, update_left_way, updates_variable, update_local_way, updates, initialises, declares, caller_way, returns, if_way, nothing, leaving, row_way, end_way, round_over, step_way, body_way, loop_test_way, rounds_if, rounds, loop_way, while_loop, for_loop, do_loop, switch_way, starts, switch_test_way, update_of, run_stmt, run_stmt_node, run_row, run_from, way_of, use_of, from_point, here, turn}
use Rattle.race_rules.proofs.Touching.{no_has}
use Rattle.block_meaning.specs.Running.{HasEnded}
use Rattle.race_check.proofs.EndedActions.{set_none, append_stays}
use Rattle.race_check.proofs.EndedExprs.{block_value, Spares, DoesSpare, UseSpares, WaySpares, spares_if, on_ok_spares, plainly_spares, acts_spare, leaves_spare, read_spares, only_spares, second_spares, first_spares, second_test_spares, first_test_spares, choice_spares, argument_spares, run_spares, run_node_spares, run_place_spares, run_place_node_spares, run_arguments_spare}

-- a statement, as it is executed before what follows it
abbrev Executes : (gone : ℕ) → (Way → Does) → Type 0
Executes gone run_it = (w : Way) → WaySpares gone w → DoesSpare gone (run_it w)

module _ (gone : ℕ) where
  -- one of two
  one_spares : (c : Bool) (d e : Does) → DoesSpare gone d → DoesSpare gone e → DoesSpare gone (if c then d else e)
  one_spares true d e p q = p
  one_spares false d e p q = q

  -- ---- locals

  abbrev Rests : Now → Type 0
  Rests x = HasEnded x.world.blocks gone

  ended_if_keeps : (number : ℕ) (v : Variable) (x : Now) → Rests x → Rests (ended_if number v x)
  ended_if_keeps number control.unset x r = r
  ended_if_keeps number (control.holds v) x r = r
  ended_if_keeps number (control.lies block) x r = set_none x.world.blocks block gone r

  ended_local_keeps : (number : ℕ) (x : Now) → Rests x → Rests (ended_local number x)
  ended_local_keeps number x r = ended_if_keeps number (variable_at x number) x r

  ended_locals_keep : (numbers : List ℕ) (x : Now) → Rests x → Rests (ended_locals numbers x)
  ended_locals_keep [] x r = r
  ended_locals_keep (number ∷ numbers) x r = ended_locals_keep numbers (ended_local number x) (ended_local_keeps number x r)

  made_local_keeps : (h : TurnContext) (number : ℕ) (x : Now) → Rests x → Rests (made_local h number x)
  made_local_keeps h number x r =
      append_stays (ended_local number x).world.blocks (Some (record { kind = kinds.Local; cells = replicate (size_of_local h (local_at h number)) Unknown }) ∷ []) gone None (ended_local_keeps number x r)

  -- ---- assignments and declarations

  nowhere_spares : (w : Way) → WaySpares gone w → UseSpares gone (nowhere_way w)
  nowhere_spares w g v x r = g.ends x r

  local_spares : (number : ℕ) (w : Way) → WaySpares gone w → UseSpares gone (local_way number w)
  local_spares number w g v x r = g.ends (with_variable number (control.holds v) x) r

  place_spares : (h : TurnContext) (place : ℕ) (atomic : Bool) (to : Value) (w : Way) → UseSpares gone (place_way h place atomic to w)
  place_spares h place atomic to w v x r = acts_spare gone h place atomic (actions.store (pointer_in to) v) x.locals (λ u. control.begins w.k) x r

  left_spares : (h : TurnContext) (place : ℕ) (atomic : Bool) (right : tree.Expr) (w : Way) → UseSpares gone (left_way h place atomic right w)
  left_spares h place atomic right w v x r = run_spares gone h right (place_way h place atomic v w) (place_spares h place atomic v w) x r

  struct_right_spares : (h : TurnContext) (place : ℕ) (ty : tree.Ty) (to : Value) (w : Way) → UseSpares gone (struct_right_way h place ty to w)
  struct_right_spares h place ty to w v x r =
      acts_spare gone h place false (actions.copy (pointer_in to) (pointer_in v) (size_in h.typed.structs ty) (align_in h.typed.structs ty) true) x.locals (λ u. control.begins w.k) x r

  struct_left_spares : (h : TurnContext) (place : ℕ) (ty : tree.Ty) (right : tree.Expr) (w : Way) → UseSpares gone (struct_left_way h place ty right w)
  struct_left_spares h place ty right w v x r = run_place_spares gone h right (struct_right_way h place ty v w) (struct_right_spares h place ty v w) x r

  assigns_object_spares : (h : TurnContext) (left right : tree.Expr) (w : Way) → DoesSpare gone (assigns_object h left right w)
  assigns_object_spares h left right w =
      let struct = struct_left_way h (tree.place_of left) (tree.type_of left) right w in
      let plain = left_way h (tree.place_of left) (is_atomic (tree.type_of left)) right w in
      one_spares (is_struct (tree.type_of left)) (run_place h left struct) (run_place h left plain)
      (run_place_spares gone h left struct (struct_left_spares h (tree.place_of left) (tree.type_of left) right w))
      (run_place_spares gone h left plain (left_spares h (tree.place_of left) (is_atomic (tree.type_of left)) right w))

  assigns_spare : (h : TurnContext) (node : tree.ExprNode) (left right : tree.Expr) (w : Way) → WaySpares gone w → DoesSpare gone (assigns h node left right w)
  assigns_spare h (tree.local number) left right w g =
      one_spares (is_block (local_at h number)) (assigns_object h left right w) (run h right (local_way number w))
      (assigns_object_spares h left right w) (run_spares gone h right (local_way number w) (local_spares number w g))
  assigns_spare h (tree.num t z) left right w g = assigns_object_spares h left right w
  assigns_spare h tree.null left right w g = assigns_object_spares h left right w
  assigns_spare h (tree.literal number) left right w g = assigns_object_spares h left right w
  assigns_spare h (tree.global number) left right w g = assigns_object_spares h left right w
  assigns_spare h (tree.deref e) left right w g = assigns_object_spares h left right w
  assigns_spare h (tree.member e number) left right w g = assigns_object_spares h left right w
  assigns_spare h (tree.address_of e) left right w g = assigns_object_spares h left right w
  assigns_spare h (tree.decay e) left right w g = assigns_object_spares h left right w
  assigns_spare h (tree.convert e) left right w g = assigns_object_spares h left right w
  assigns_spare h (tree.not_ e) left right w g = assigns_object_spares h left right w
  assigns_spare h (tree.binary op a b) left right w g = assigns_object_spares h left right w
  assigns_spare h (tree.and_also a b) left right w g = assigns_object_spares h left right w
  assigns_spare h (tree.or_else a b) left right w g = assigns_object_spares h left right w
  assigns_spare h (tree.choose c a b) left right w g = assigns_object_spares h left right w
  assigns_spare h (tree.pointer_add p q) left right w g = assigns_object_spares h left right w
  assigns_spare h (tree.pointer_sub p q) left right w g = assigns_object_spares h left right w
  assigns_spare h (tree.pointer_diff p q) left right w g = assigns_object_spares h left right w
  assigns_spare h (tree.pointer_compare op p q) left right w g = assigns_object_spares h left right w
  assigns_spare h (tree.pointer_test p) left right w g = assigns_object_spares h left right w
  assigns_spare h (tree.call number args) left right w g = assigns_object_spares h left right w
  assigns_spare h (tree.lib which args) left right w g = assigns_object_spares h left right w

  update_read_spares : (h : TurnContext) (u : Update) (at by : Value) (w : Way) → UseSpares gone (update_read_way h u at by w)
  update_read_spares h u at by w v x r =
      on_ok_spares gone u.operator (λ z. (place_way h u.place false at w).go z x) (updated h.typed.structs x.world.blocks u.ty u.op v by) (λ z. place_spares h u.place false at w z x r)

  update_reads_spare : (h : TurnContext) (u : Update) (at by : Value) (w : Way) → DoesSpare gone (update_reads h u at by w)
  update_reads_spare h u at by w x r =
      acts_spare gone h u.place false (actions.load (pointer_in at) (access_of_type u.ty)) x.locals (λ z. after_call (wanted u.place (control.update_read u at by w.k)) z) x r

  update_changes_spare : (h : TurnContext) (u : Update) (w : Way) (action : Option SharedAction) → DoesSpare gone (update_changes h u w action)
  update_changes_spare h u w None x r = tt
  update_changes_spare h u w (Some action) x r = acts_spare gone h u.place true action x.locals (λ old. control.begins w.k) x r

  update_right_spares : (h : TurnContext) (u : Update) (at : Value) (w : Way) → UseSpares gone (update_right_way h u at w)
  update_right_spares h u at w v x r =
      let changes = changed_by (is_minus u.op) (pointer_in at) v in
      spares_if gone (is_atomic u.ty) (update_changes h u w changes x) (update_reads h u at v w x) (update_changes_spare h u w changes x r) (update_reads_spare h u at v w x r)

  update_left_spares : (h : TurnContext) (u : Update) (right : tree.Expr) (w : Way) → UseSpares gone (update_left_way h u right w)
  update_left_spares h u right w v x r = run_spares gone h right (update_right_way h u v w) (update_right_spares h u v w) x r

  updates_variable_spares : (h : TurnContext) (u : Update) (number : ℕ) (by : Value) (w : Way) (v : Variable) → WaySpares gone w → DoesSpare gone (updates_variable h u number by w v)
  updates_variable_spares h u number by w control.unset g x r = tt
  updates_variable_spares h u number by w (control.holds v) g x r =
      on_ok_spares gone u.operator (λ z. w.end (with_variable number (control.holds z) x)) (updated h.typed.structs x.world.blocks u.ty u.op v by) (λ z. g.ends (with_variable number (control.holds z) x) r)
  updates_variable_spares h u number by w (control.lies block) g x r = tt

  update_local_spares : (h : TurnContext) (u : Update) (number : ℕ) (w : Way) → WaySpares gone w → UseSpares gone (update_local_way h u number w)
  update_local_spares h u number w g v x r = updates_variable_spares h u number v w (variable_at x number) g x r

  updates_object_spares : (h : TurnContext) (u : Update) (left right : tree.Expr) (w : Way) → DoesSpare gone (run_place h left (update_left_way h u right w))
  updates_object_spares h u left right w = run_place_spares gone h left (update_left_way h u right w) (update_left_spares h u right w)

  updates_spare : (h : TurnContext) (u : Update) (node : tree.ExprNode) (left right : tree.Expr) (w : Way) → WaySpares gone w → DoesSpare gone (updates h u node left right w)
  updates_spare h u (tree.local number) left right w g =
      one_spares (is_block (local_at h number)) (run_place h left (update_left_way h u right w)) (run h right (update_local_way h u number w))
      (updates_object_spares h u left right w) (run_spares gone h right (update_local_way h u number w) (update_local_spares h u number w g))
  updates_spare h u (tree.num t z) left right w g = updates_object_spares h u left right w
  updates_spare h u tree.null left right w g = updates_object_spares h u left right w
  updates_spare h u (tree.literal number) left right w g = updates_object_spares h u left right w
  updates_spare h u (tree.global number) left right w g = updates_object_spares h u left right w
  updates_spare h u (tree.deref e) left right w g = updates_object_spares h u left right w
  updates_spare h u (tree.member e number) left right w g = updates_object_spares h u left right w
  updates_spare h u (tree.address_of e) left right w g = updates_object_spares h u left right w
  updates_spare h u (tree.decay e) left right w g = updates_object_spares h u left right w
  updates_spare h u (tree.convert e) left right w g = updates_object_spares h u left right w
  updates_spare h u (tree.not_ e) left right w g = updates_object_spares h u left right w
  updates_spare h u (tree.binary op a b) left right w g = updates_object_spares h u left right w
  updates_spare h u (tree.and_also a b) left right w g = updates_object_spares h u left right w
  updates_spare h u (tree.or_else a b) left right w g = updates_object_spares h u left right w
  updates_spare h u (tree.choose c a b) left right w g = updates_object_spares h u left right w
  updates_spare h u (tree.pointer_add p q) left right w g = updates_object_spares h u left right w
  updates_spare h u (tree.pointer_sub p q) left right w g = updates_object_spares h u left right w
  updates_spare h u (tree.pointer_diff p q) left right w g = updates_object_spares h u left right w
  updates_spare h u (tree.pointer_compare op p q) left right w g = updates_object_spares h u left right w
  updates_spare h u (tree.pointer_test p) left right w g = updates_object_spares h u left right w
  updates_spare h u (tree.call number args) left right w g = updates_object_spares h u left right w
  updates_spare h u (tree.lib which args) left right w g = updates_object_spares h u left right w

  initialises_spares : (h : TurnContext) (place number : ℕ) (init : tree.Expr) (w : Way) → WaySpares gone w → DoesSpare gone (initialises h place number init w)
  initialises_spares h place number init w g x r =
      let to = block_value (length (ended_local number x).world.blocks) in
      let atomic = is_atomic_local (local_at h number) in
      spares_if gone (is_block (local_at h number)) (run h init (place_way h place atomic to w) (made_local h number x)) (run h init (local_way number w) (with_variable number control.unset x))
      (run_spares gone h init (place_way h place atomic to w) (place_spares h place atomic to w) (made_local h number x) (made_local_keeps h number x r))
      (run_spares gone h init (local_way number w) (local_spares number w g) (with_variable number control.unset x) r)

  one_rests : (c : Bool) (x y : Now) → Rests x → Rests y → Rests (if c then x else y)
  one_rests true x y p q = p
  one_rests false x y p q = q

  declares_spare : (h : TurnContext) (place number : ℕ) (init : Option tree.Expr) (w : Way) → WaySpares gone w → DoesSpare gone (declares h place number init w)
  declares_spare h place number None w g x r =
      g.ends (declared_local h number x) (one_rests (is_block (local_at h number)) (made_local h number x) (with_variable number control.unset x) (made_local_keeps h number x r) r)
  declares_spare h place number (Some init) w g x r = initialises_spares h place number init w g x r

  caller_spares : (h : TurnContext) → UseSpares gone (caller_way h)
  caller_spares h v x r = leaves_spare gone h (Some v) x r

  returns_spare : (h : TurnContext) (value : Option tree.Expr) → DoesSpare gone (returns h value)
  returns_spare h None x r = leaves_spare gone h None x r
  returns_spare h (Some e) x r = run_spares gone h e (caller_way h) (caller_spares h) x r

  drops_object_spares : (h : TurnContext) (place : ℕ) (ty : tree.Ty) (node : tree.ExprNode) (w : Way) → WaySpares gone w → DoesSpare gone (drops_object h place ty node w)
  drops_object_spares h place ty node w g x r =
      spares_if gone (is_scalar ty) (run_node h place ty node (nowhere_way w) x) (run_place_node h place node (nowhere_way w) x)
      (run_node_spares gone h place ty node (nowhere_way w) (nowhere_spares w g) x r) (run_place_node_spares gone h place node (nowhere_way w) (nowhere_spares w g) x r)

  plain_dropped : (h : TurnContext) (place : ℕ) (ty : tree.Ty) (node : tree.ExprNode) (w : Way) → WaySpares gone w → DoesSpare gone (run_node h place ty node (nowhere_way w))
  plain_dropped h place ty node w g = run_node_spares gone h place ty node (nowhere_way w) (nowhere_spares w g)

  mutual
    dropped_spares : (h : TurnContext) (e : tree.Expr) (w : Way) → WaySpares gone w → DoesSpare gone (run_dropped h e w)
    dropped_spares h (tree.at place ty node) w g x r = dropped_node_spares h place ty node w g x r

    dropped_node_spares : (h : TurnContext) (place : ℕ) (ty : tree.Ty) (node : tree.ExprNode) (w : Way) → WaySpares gone w → DoesSpare gone (run_dropped_node h place ty node w)
    dropped_node_spares h place ty (tree.call number args) w g x r = run_arguments_spare gone h place (control.function number) args [] (dropped w.k) x r
    dropped_node_spares h place ty (tree.lib which args) w g x r = run_arguments_spare gone h place (control.library which) args [] (dropped w.k) x r
    dropped_node_spares h place tree.void (tree.convert e) w g x r = dropped_spares h e w g x r
    dropped_node_spares h place (tree.integer t) (tree.convert e) w g x r = plain_dropped h place (tree.integer t) (tree.convert e) w g x r
    dropped_node_spares h place (tree.atomic t) (tree.convert e) w g x r = plain_dropped h place (tree.atomic t) (tree.convert e) w g x r
    dropped_node_spares h place tree.mutex (tree.convert e) w g x r = plain_dropped h place tree.mutex (tree.convert e) w g x r
    dropped_node_spares h place (tree.pointer to) (tree.convert e) w g x r = plain_dropped h place (tree.pointer to) (tree.convert e) w g x r
    dropped_node_spares h place (tree.array of size) (tree.convert e) w g x r = plain_dropped h place (tree.array of size) (tree.convert e) w g x r
    dropped_node_spares h place (tree.structure number) (tree.convert e) w g x r = plain_dropped h place (tree.structure number) (tree.convert e) w g x r
    dropped_node_spares h place ty (tree.num t z) w g x r = plain_dropped h place ty (tree.num t z) w g x r
    dropped_node_spares h place ty tree.null w g x r = plain_dropped h place ty tree.null w g x r
    dropped_node_spares h place ty (tree.literal number) w g x r = drops_object_spares h place ty (tree.literal number) w g x r
    dropped_node_spares h place ty (tree.global number) w g x r = drops_object_spares h place ty (tree.global number) w g x r
    dropped_node_spares h place ty (tree.local number) w g x r = drops_object_spares h place ty (tree.local number) w g x r
    dropped_node_spares h place ty (tree.deref e) w g x r = drops_object_spares h place ty (tree.deref e) w g x r
    dropped_node_spares h place ty (tree.member e number) w g x r = drops_object_spares h place ty (tree.member e number) w g x r
    dropped_node_spares h place ty (tree.address_of e) w g x r = plain_dropped h place ty (tree.address_of e) w g x r
    dropped_node_spares h place ty (tree.decay e) w g x r = plain_dropped h place ty (tree.decay e) w g x r
    dropped_node_spares h place ty (tree.not_ e) w g x r = plain_dropped h place ty (tree.not_ e) w g x r
    dropped_node_spares h place ty (tree.binary op a b) w g x r = plain_dropped h place ty (tree.binary op a b) w g x r
    dropped_node_spares h place ty (tree.and_also a b) w g x r = plain_dropped h place ty (tree.and_also a b) w g x r
    dropped_node_spares h place ty (tree.or_else a b) w g x r = plain_dropped h place ty (tree.or_else a b) w g x r
    dropped_node_spares h place ty (tree.choose c a b) w g x r = plain_dropped h place ty (tree.choose c a b) w g x r
    dropped_node_spares h place ty (tree.pointer_add p q) w g x r = plain_dropped h place ty (tree.pointer_add p q) w g x r
    dropped_node_spares h place ty (tree.pointer_sub p q) w g x r = plain_dropped h place ty (tree.pointer_sub p q) w g x r
    dropped_node_spares h place ty (tree.pointer_diff p q) w g x r = plain_dropped h place ty (tree.pointer_diff p q) w g x r
    dropped_node_spares h place ty (tree.pointer_compare op p q) w g x r = plain_dropped h place ty (tree.pointer_compare op p q) w g x r
    dropped_node_spares h place ty (tree.pointer_test p) w g x r = plain_dropped h place ty (tree.pointer_test p) w g x r

  -- ---- ways behind statements

  row_spares : (rest : tree.Stmts) (run_rest : Way → Does) (w : Way) → WaySpares gone w → DoesSpare gone (run_rest w) → WaySpares gone (row_way rest run_rest w)
  row_spares rest run_rest w g s = record { ends = s; breaks = g.breaks; continues = g.continues }

  behind_ends : (numbers : List ℕ) (d : Does) → DoesSpare gone d → DoesSpare gone (λ x. d (ended_locals numbers x))
  behind_ends numbers d s x r = s (ended_locals numbers x) (ended_locals_keep numbers x r)

  end_spares : (numbers : List ℕ) (w : Way) → WaySpares gone w → WaySpares gone (end_way numbers w)
  end_spares numbers w g = record { ends = behind_ends numbers w.end g.ends; breaks = behind_ends numbers w.breaks g.breaks; continues = behind_ends numbers w.continues g.continues }

  if_spares : (place : ℕ) (one other : tree.Stmt) (run_one run_other : Way → Does) (w : Way) → Executes gone run_one → Executes gone run_other → WaySpares gone w → UseSpares gone (if_way place one other run_one run_other w)
  if_spares place one other run_one run_other w s t g v x r =
      on_ok_spares gone place (λ (b : Bool). if b then run_one w x else run_other w x) (truth_of x.world.blocks v) (λ b. spares_if gone b (run_one w x) (run_other w x) (s w g x r) (t w g x r))

  -- ---- loops

  over_spares : (h : TurnContext) (l : Loop) (k : Todo) → DoesSpare gone (round_over h l k)
  over_spares h l k x r = plainly_spares gone h.answer (stays h x.locals (control.round l k) x.world) (r, λ t. no_has t)

  step_spares : (h : TurnContext) (l : Loop) (w : Way) → WaySpares gone w → WaySpares gone (step_way h l w)
  step_spares h l w g = record { ends = over_spares h l w.k; breaks = g.ends; continues = over_spares h l w.k }

  body_spares : (h : TurnContext) (l : Loop) (run_step : Way → Does) (w : Way) → Executes gone run_step → WaySpares gone w → WaySpares gone (body_way h l run_step w)
  body_spares h l run_step w s g =
      let step : DoesSpare gone (run_step (step_way h l w)) = s (step_way h l w) (step_spares h l w g) in record { ends = step; breaks = g.ends; continues = step }

  test_spares : (h : TurnContext) (place : ℕ) (l : Loop) (run_body run_step : Way → Does) (w : Way) → Executes gone run_body → Executes gone run_step → WaySpares gone w → UseSpares gone (loop_test_way h place l run_body run_step w)
  test_spares h place l run_body run_step w b s g v x r =
      let body = body_way h l run_step w in
      on_ok_spares gone place (λ (c : Bool). if c then run_body body x else w.end x) (truth_of x.world.blocks v)
      (λ c. spares_if gone c (run_body body x) (w.end x) (b body (body_spares h l run_step w s g) x r) (g.ends x r))

  rounds_if_spare : (h : TurnContext) (l : Loop) (run_body run_step : Way → Does) (w : Way) (condition : Option tree.Expr) → Executes gone run_body → Executes gone run_step → WaySpares gone w → DoesSpare gone (rounds_if h l run_body run_step w condition)
  rounds_if_spare h l run_body run_step w None b s g x r = b (body_way h l run_step w) (body_spares h l run_step w s g) x r
  rounds_if_spare h l run_body run_step w (Some e) b s g x r =
      run_spares gone h e (loop_test_way h (tree.place_of e) l run_body run_step w) (test_spares h (tree.place_of e) l run_body run_step w b s g) x r

  rounds_spare : (h : TurnContext) (l : Loop) (run_body run_step : Way → Does) (w : Way) → Executes gone run_body → Executes gone run_step → WaySpares gone w → DoesSpare gone (rounds h l run_body run_step w)
  rounds_spare h l run_body run_step w b s g x r = rounds_if_spare h l run_body run_step w l.condition b s g x r

  loop_spares : (h : TurnContext) (l : Loop) (run_body run_step : Way → Does) (w : Way) → Executes gone run_body → Executes gone run_step → WaySpares gone w → WaySpares gone (loop_way h l run_body run_step w)
  loop_spares h l run_body run_step w b s g = record { ends = rounds_spare h l run_body run_step w b s g; breaks = g.breaks; continues = g.continues }

  -- nothing is executed
  skips : Executes gone (λ v. v.end)
  skips w g = g.ends

  -- a loop is left
  leaves_loop : Executes gone (λ v. v.breaks)
  leaves_loop w g = g.breaks

  -- the condition of a do
  again_spares : (h : TurnContext) (e : tree.Expr) → Executes gone (λ v. run h e (if_way (tree.place_of e) (nothing (tree.place_of e)) (leaving (tree.place_of e)) (λ u. u.end) (λ u. u.breaks) v))
  again_spares h e w g x r =
      let test = if_way (tree.place_of e) (nothing (tree.place_of e)) (leaving (tree.place_of e)) (λ u. u.end) (λ u. u.breaks) w in
      run_spares gone h e test (if_spares (tree.place_of e) (nothing (tree.place_of e)) (leaving (tree.place_of e)) (λ u. u.end) (λ u. u.breaks) w skips leaves_loop g) x r

  -- ---- switch

  switch_spares : (w : Way) → WaySpares gone w → WaySpares gone (switch_way w)
  switch_spares w g = record { ends = g.ends; breaks = g.ends; continues = g.continues }

  starts_spare : (run_at : (at : ℕ) → Way → Does) (w : Way) (start : Option ℕ) → ((at : ℕ) → Executes gone (run_at at)) → WaySpares gone w → DoesSpare gone (starts run_at w start)
  starts_spare run_at w None s g x r = g.ends x r
  starts_spare run_at w (Some at) s g x r = s at (switch_way w) (switch_spares w g) x r

  switch_test_spares : (labels : List tree.Label) (body : tree.Stmts) (run_at : (at : ℕ) → Way → Does) (w : Way) → ((at : ℕ) → Executes gone (run_at at)) → WaySpares gone w → UseSpares gone (switch_test_way labels body run_at w)
  switch_test_spares labels body run_at w s g v x r = starts_spare run_at w (starts_at labels (chosen labels v)) s g x r

  -- ---- statements

  mutual
    stmt_spares : (h : TurnContext) (s : tree.Stmt) → Executes gone (run_stmt h s)
    stmt_spares h (tree.at_stmt place node) w g x r = node_spares h place node w g x r

    node_spares : (h : TurnContext) (place : ℕ) (node : tree.StmtNode) → Executes gone (run_stmt_node h place node)
    node_spares h place (tree.block body) w g x r = stmts_spare h body (end_way (declared body) w) (end_spares (declared body) w g) x r
    node_spares h place (tree.declare number init) w g x r = declares_spare h place number init w g x r
    node_spares h place (tree.if_ e one) w g x r =
        run_spares gone h e (if_way (tree.place_of e) one (nothing place) (run_stmt h one) (λ v. v.end) w)
        (if_spares (tree.place_of e) one (nothing place) (run_stmt h one) (λ v. v.end) w (stmt_spares h one) skips g) x r
    node_spares h place (tree.if_else e one other) w g x r =
        run_spares gone h e (if_way (tree.place_of e) one other (run_stmt h one) (run_stmt h other) w)
        (if_spares (tree.place_of e) one other (run_stmt h one) (run_stmt h other) w (stmt_spares h one) (stmt_spares h other) g) x r
    node_spares h place (tree.while_ e body) w g x r = rounds_spare h (while_loop place e body) (run_stmt h body) (λ v. v.end) w (stmt_spares h body) skips g x r
    node_spares h place (tree.for_ first e step body) w g x r =
        let l = for_loop e step body in
        let v = end_way (declared_by first []) w in
        stmt_spares h first (loop_way h l (run_stmt h body) (run_stmt h step) v)
        (loop_spares h l (run_stmt h body) (run_stmt h step) v (stmt_spares h body) (stmt_spares h step) (end_spares (declared_by first []) w g)) x r
    node_spares h place (tree.do_while body e) w g x r =
        rounds_spare h (do_loop body e) (run_stmt h body) (λ v. run h e (if_way (tree.place_of e) (nothing (tree.place_of e)) (leaving (tree.place_of e)) (λ u. u.end) (λ u. u.breaks) v)) w (stmt_spares h body) (again_spares h e) g x r
    node_spares h place (tree.switch e labels body) w g x r =
        run_spares gone h e (switch_test_way labels body (run_from h body) w) (switch_test_spares labels body (run_from h body) w (λ at. from_spares h body at) g) x r
    node_spares h place tree.break_ w g x r = g.breaks x r
    node_spares h place tree.continue_ w g x r = g.continues x r
    node_spares h place (tree.return_ value) w g x r = returns_spare h value x r
    node_spares h place (tree.assign left right) w g x r = assigns_spare h (tree.node_of left) left right w g x r
    node_spares h place (tree.update left op right) w g x r = updates_spare h (update_of place left op) (tree.node_of left) left right w g x r
    node_spares h place (tree.evaluate e) w g x r = dropped_spares h e w g x r
    node_spares h place tree.empty w g x r = g.ends x r

    stmts_spare : (h : TurnContext) (row : tree.Stmts) → Executes gone (run_row h row)
    stmts_spare h tree.no_stmts w g x r = g.ends x r
    stmts_spare h (tree.more_stmts s rest) w g x r = stmt_spares h s (row_way rest (run_row h rest) w) (row_spares rest (run_row h rest) w g (stmts_spare h rest w g)) x r

    from_spares : (h : TurnContext) (row : tree.Stmts) (at : ℕ) → Executes gone (run_from h row at)
    from_spares h tree.no_stmts at w g x r = g.ends x r
    from_spares h (tree.more_stmts s rest) zero w g x r = stmt_spares h s (row_way rest (run_row h rest) w) (row_spares rest (run_row h rest) w g (stmts_spare h rest w g)) x r
    from_spares h (tree.more_stmts s rest) (suc at) w g x r = from_spares h rest at w g x r

  -- ---- what is left to do

  way_spares : (h : TurnContext) (k : Todo) → WaySpares gone (way_of h k)
  way_spares h control.leaves = record { ends = leaves_spare gone h None; breaks = leaves_spare gone h None; continues = leaves_spare gone h None }
  way_spares h (control.then_row rest k) = let g = way_spares h k in row_spares rest (run_row h rest) (way_of h k) g (stmts_spare h rest (way_of h k) g)
  way_spares h (control.then_end numbers k) = end_spares numbers (way_of h k) (way_spares h k)
  way_spares h (control.then_loop l k) = loop_spares h l (run_stmt h l.body) (run_stmt h l.step) (way_of h k) (stmt_spares h l.body) (stmt_spares h l.step) (way_spares h k)
  way_spares h (control.in_body l k) = body_spares h l (run_stmt h l.step) (way_of h k) (stmt_spares h l.step) (way_spares h k)
  way_spares h (control.in_step l k) = step_spares h l (way_of h k) (way_spares h k)
  way_spares h (control.in_switch k) = switch_spares (way_of h k) (way_spares h k)

  use_spares : (h : TurnContext) (k : Use) → UseSpares gone (use_of h k)
  use_spares h (control.first_of place op right k) = first_spares gone place op right (run h right) (use_of h k) (run_spares gone h right) (use_spares h k)
  use_spares h (control.second_of place op left k) = second_spares gone place op left (use_of h k) (use_spares h k)
  use_spares h (control.only_of place op k) = only_spares gone place op (use_of h k) (use_spares h k)
  use_spares h (control.place_read place how atomic k) = read_spares gone h place how atomic (use_of h k)
  use_spares h (control.first_test place decides right k) = first_test_spares gone place decides right (run h right) (use_of h k) (run_spares gone h right) (use_spares h k)
  use_spares h (control.second_test place k) = second_test_spares gone place (use_of h k) (use_spares h k)
  use_spares h (control.choice place one other k) = choice_spares gone place one other (run h one) (run h other) (use_of h k) (run_spares gone h one) (run_spares gone h other) (use_spares h k)
  use_spares h (control.argument place callee before rest k) =
      argument_spares gone place callee before rest (run_arguments h place callee rest) k (λ all. run_arguments_spare gone h place callee rest all k)
  use_spares h (control.to_local number k) = local_spares number (way_of h k) (way_spares h k)
  use_spares h (control.left_place place atomic right k) = left_spares h place atomic right (way_of h k)
  use_spares h (control.to_place place atomic to k) = place_spares h place atomic to (way_of h k)
  use_spares h (control.struct_left place ty right k) = struct_left_spares h place ty right (way_of h k)
  use_spares h (control.struct_right place ty to k) = struct_right_spares h place ty to (way_of h k)
  use_spares h (control.update_left u right k) = update_left_spares h u right (way_of h k)
  use_spares h (control.update_local u number k) = update_local_spares h u number (way_of h k) (way_spares h k)
  use_spares h (control.update_right u at k) = update_right_spares h u at (way_of h k)
  use_spares h (control.update_read u at by k) = update_read_spares h u at by (way_of h k)
  use_spares h (control.if_test place one other k) = if_spares place one other (run_stmt h one) (run_stmt h other) (way_of h k) (stmt_spares h one) (stmt_spares h other) (way_spares h k)
  use_spares h (control.loop_test place l k) = test_spares h place l (run_stmt h l.body) (run_stmt h l.step) (way_of h k) (stmt_spares h l.body) (stmt_spares h l.step) (way_spares h k)
  use_spares h (control.switch_test labels body k) = switch_test_spares labels body (run_from h body) (way_of h k) (λ at. from_spares h body at) (way_spares h k)
  use_spares h control.to_caller = caller_spares h
  use_spares h (control.to_nowhere k) = nowhere_spares (way_of h k) (way_spares h k)

  -- ---- a turn

  from_point_spares : (h : TurnContext) (p : TurnStart) → DoesSpare gone (from_point h p)
  from_point_spares h (control.gives v k) x r = use_spares h k v x r
  from_point_spares h (control.lacks place) x r = tt
  from_point_spares h (control.begins k) x r = (way_spares h k).ends x r
  from_point_spares h (control.round l k) x r = rounds_spare h l (run_stmt h l.body) (run_stmt h l.step) (way_of h k) (stmt_spares h l.body) (stmt_spares h l.step) (way_spares h k) x r

  pub turn_spares : (typed : tree.Typed) (thread : ℕ) (answer : Answer) (c : Control) (w : World) → HasEnded w.blocks gone → Spares gone (turn typed thread answer c w)
  turn_spares typed thread answer c w r = from_point_spares (here typed thread answer c) c.point (record { locals = c.locals; world = w }) r
