-- The same of statements, of what is left to do, and of whole turns.
use Rattle.std.proofs.Common.{◌≡◌, ◌≤◌, ◌+◌, ℕ, zero, suc, Bool, true, false, List, [], ◌∷◌, length, replicate, Option, Some, None, refl, ap, ◌∙◌, arith}
use Rattle.std.specs.Prelude.{if◌then◌else◌}
use Rattle.std.proofs.lemmas.List.{length-set, length_push}
use Rattle.block_store.specs.declared.values.Answer.{Answer}
use Rattle.block_store.specs.declared.values.BlockKind.TheVariants as kinds
use Rattle.block_store.specs.declared.values.Cell.TheVariants.{Unknown}
use Rattle.block_store.specs.declared.values.Value.{Value}
use Rattle.block_store.specs.Actions as actions
use Rattle.block_store.specs.Actions.{World, SharedAction}
use Rattle.c_tree.specs.Typed as tree
use Rattle.c_tree.specs.TypedLayout.{size_in, align_in}
use Rattle.c_meaning.specs.Control as control
use Rattle.c_meaning.specs.Control.{Control, Variable, Todo, Use, TurnStart, Loop, Update, wanted, dropped}
use Rattle.c_meaning.specs.Library.{changed_by}
use Rattle.c_meaning.specs.Switches.{chosen, starts_at}
use Rattle.c_meaning.specs.Values.{access_of_type, is_atomic, is_minus, is_scalar, truth_of, updated}
use Rattle.c_meaning.specs.Turns.{TurnContext, Now, Does, Way, stays, after_call, local_at, is_block, is_atomic_local, size_of_local, variable_at, with_variable, ended_if, ended_local, ended_locals, made_local, declared_local, declared, declared_by, pointer_in, run, run_node, run_place, run_place_node, run_arguments, nowhere_way, drops_object, run_dropped, run_dropped_node, local_way, place_way, left_way, struct_right_way, struct_left_way, is_struct, assigns_object, assigns, update_read_way, update_reads, update_changes, update_right_way, update_left_way, updates_variable, update_local_way, updates, initialises, declares, caller_way, returns, if_way, nothing, leaving, leave_way, row_way, end_way, round_over, step_way, body_way, loop_test_way, rounds_if, rounds, loop_way, while_loop, for_loop, do_loop, switch_way, starts, switch_test_way, update_of, run_stmt, run_stmt_node, run_row, run_from, way_of, use_of, from_point, here, turn}
use Rattle.source_statements.proofs.Names.{name_todo, name_use}
use Rattle.block_meaning.specs.Counts.{in_stmt, in_node, in_row, in_loop, reached, reached_by, Fits, FitsUse, FitsPoint, FitsControl, HasFewDeclarations}
use Rattle.block_meaning.proofs.Counting.{Within, within_more, within_if, Makes, makes_more, MakesUse, MakesWay, Few, on_ok_within, plainly_within, acts_within, after_fits, leaves_makes, block_value, read_makes, only_makes, second_makes, first_makes, second_test_makes, first_test_makes, choice_makes, argument_makes, run_makes, run_node_makes, run_place_makes, run_place_node_makes, run_arguments_makes}

-- one of two
does_if : (n m : ℕ) (c : Bool) (d e : Does) → Makes n m d → Makes n m e → (x : Now) → Within n (length x.world.blocks + m) (if c then d x else e x)
does_if n m c d e p q x = within_if n (length x.world.blocks + m) c (d x) (e x) (p x) (q x)

makes_if : (n m : ℕ) (c : Bool) (d e : Does) → Makes n m d → Makes n m e → Makes n m (if c then d else e)
makes_if n m true d e p q = p
makes_if n m false d e p q = q

-- ---- locals

ended_if_length : (number : ℕ) (v : Variable) (x : Now) → length (ended_if number v x).world.blocks ≡ length x.world.blocks
ended_if_length number control.unset x = refl
ended_if_length number (control.holds v) x = refl
ended_if_length number (control.lies block) x = length-set x.world.blocks block None

ended_locals_length : (numbers : List ℕ) (x : Now) → length (ended_locals numbers x).world.blocks ≡ length x.world.blocks
ended_locals_length [] x = refl
ended_locals_length (number ∷ numbers) x = ended_locals_length numbers (ended_local number x) ∙ ended_if_length number (variable_at x number) x

made_local_length : (h : TurnContext) (number : ℕ) (x : Now) → length (made_local h number x).world.blocks ≡ length x.world.blocks + 1
made_local_length h number x =
    length_push (ended_local number x).world.blocks (Some (record { kind = kinds.Local; cells = replicate (size_of_local h (local_at h number)) Unknown })) ∙ ap (λ k. k + 1) (ended_if_length number (variable_at x number) x)

-- ---- assignments and declarations

nowhere_makes : (n : ℕ) (w : Way) → MakesWay n w → MakesUse n (nowhere_way w)
nowhere_makes n w g = record { fits = g.fits; goes = λ v x. g.ends x }

local_makes : (n number : ℕ) (w : Way) → MakesWay n w → MakesUse n (local_way number w)
local_makes n number w g = record { fits = g.fits; goes = λ v x. g.ends (with_variable number (control.holds v) x) }

place_makes : (n : ℕ) (h : TurnContext) (place : ℕ) (atomic : Bool) (to : Value) (w : Way) → Few n h → MakesWay n w → MakesUse n (place_way h place atomic to w)
place_makes n h place atomic to w f g = record {
  fits = g.fits;
  goes = λ v x. acts_within n (reached w.k) h place atomic (actions.store (pointer_in to) v) x.locals (λ u. control.begins w.k) f (λ u. g.fits) x;
}

left_makes : (n : ℕ) (h : TurnContext) (place : ℕ) (atomic : Bool) (right : tree.Expr) (w : Way) → Few n h → MakesWay n w → MakesUse n (left_way h place atomic right w)
left_makes n h place atomic right w f g = record { fits = g.fits; goes = λ v x. run_makes n h f right (place_way h place atomic v w) (place_makes n h place atomic v w f g) x }

struct_right_makes : (n : ℕ) (h : TurnContext) (place : ℕ) (ty : tree.Ty) (to : Value) (w : Way) → Few n h → MakesWay n w → MakesUse n (struct_right_way h place ty to w)
struct_right_makes n h place ty to w f g = record {
  fits = g.fits;
  goes = λ v x. acts_within n (reached w.k) h place false (actions.copy (pointer_in to) (pointer_in v) (size_in h.typed.structs ty) (align_in h.typed.structs ty) true) x.locals (λ u. control.begins w.k) f (λ u. g.fits) x;
}

struct_left_makes : (n : ℕ) (h : TurnContext) (place : ℕ) (ty : tree.Ty) (right : tree.Expr) (w : Way) → Few n h → MakesWay n w → MakesUse n (struct_left_way h place ty right w)
struct_left_makes n h place ty right w f g = record { fits = g.fits; goes = λ v x. run_place_makes n h f right (struct_right_way h place ty v w) (struct_right_makes n h place ty v w f g) x }

assigns_object_makes : (n : ℕ) (h : TurnContext) (left right : tree.Expr) (w : Way) → Few n h → MakesWay n w → Makes n (reached w.k) (assigns_object h left right w)
assigns_object_makes n h left right w f g =
    makes_if n (reached w.k) (is_struct (tree.type_of left)) (run_place h left (struct_left_way h (tree.place_of left) (tree.type_of left) right w)) (run_place h left (left_way h (tree.place_of left) (is_atomic (tree.type_of left)) right w))
    (run_place_makes n h f left (struct_left_way h (tree.place_of left) (tree.type_of left) right w) (struct_left_makes n h (tree.place_of left) (tree.type_of left) right w f g))
    (run_place_makes n h f left (left_way h (tree.place_of left) (is_atomic (tree.type_of left)) right w) (left_makes n h (tree.place_of left) (is_atomic (tree.type_of left)) right w f g))

assigns_makes : (n : ℕ) (h : TurnContext) (node : tree.ExprNode) (left right : tree.Expr) (w : Way) → Few n h → MakesWay n w → Makes n (reached w.k) (assigns h node left right w)
assigns_makes n h (tree.local number) left right w f g =
    makes_if n (reached w.k) (is_block (local_at h number)) (assigns_object h left right w) (run h right (local_way number w))
    (assigns_object_makes n h left right w f g) (run_makes n h f right (local_way number w) (local_makes n number w g))
assigns_makes n h (tree.num t z) left right w f g = assigns_object_makes n h left right w f g
assigns_makes n h tree.null left right w f g = assigns_object_makes n h left right w f g
assigns_makes n h (tree.literal number) left right w f g = assigns_object_makes n h left right w f g
assigns_makes n h (tree.global number) left right w f g = assigns_object_makes n h left right w f g
assigns_makes n h (tree.deref e) left right w f g = assigns_object_makes n h left right w f g
assigns_makes n h (tree.member e number) left right w f g = assigns_object_makes n h left right w f g
assigns_makes n h (tree.address_of e) left right w f g = assigns_object_makes n h left right w f g
assigns_makes n h (tree.decay e) left right w f g = assigns_object_makes n h left right w f g
assigns_makes n h (tree.convert e) left right w f g = assigns_object_makes n h left right w f g
assigns_makes n h (tree.not_ e) left right w f g = assigns_object_makes n h left right w f g
assigns_makes n h (tree.binary op a b) left right w f g = assigns_object_makes n h left right w f g
assigns_makes n h (tree.and_also a b) left right w f g = assigns_object_makes n h left right w f g
assigns_makes n h (tree.or_else a b) left right w f g = assigns_object_makes n h left right w f g
assigns_makes n h (tree.choose c a b) left right w f g = assigns_object_makes n h left right w f g
assigns_makes n h (tree.pointer_add p q) left right w f g = assigns_object_makes n h left right w f g
assigns_makes n h (tree.pointer_sub p q) left right w f g = assigns_object_makes n h left right w f g
assigns_makes n h (tree.pointer_diff p q) left right w f g = assigns_object_makes n h left right w f g
assigns_makes n h (tree.pointer_compare op p q) left right w f g = assigns_object_makes n h left right w f g
assigns_makes n h (tree.pointer_test p) left right w f g = assigns_object_makes n h left right w f g
assigns_makes n h (tree.call number args) left right w f g = assigns_object_makes n h left right w f g
assigns_makes n h (tree.lib which args) left right w f g = assigns_object_makes n h left right w f g

update_read_makes : (n : ℕ) (h : TurnContext) (u : Update) (at by : Value) (w : Way) → Few n h → MakesWay n w → MakesUse n (update_read_way h u at by w)
update_read_makes n h u at by w f g = record {
  fits = g.fits;
  goes = λ v x. on_ok_within n (length x.world.blocks + reached w.k) u.operator (λ r. (place_way h u.place false at w).go r x) (updated h.typed.structs x.world.blocks u.ty u.op v by) (λ r. (place_makes n h u.place false at w f g).goes r x);
}

update_reads_makes : (n : ℕ) (h : TurnContext) (u : Update) (at by : Value) (w : Way) → Few n h → MakesWay n w → Makes n (reached w.k) (update_reads h u at by w)
update_reads_makes n h u at by w f g x =
    acts_within n (reached w.k) h u.place false (actions.load (pointer_in at) (access_of_type u.ty)) x.locals (λ r. after_call (wanted u.place (control.update_read u at by w.k)) r) f (λ r. after_fits n (wanted u.place (control.update_read u at by w.k)) r g.fits) x

update_changes_makes : (n : ℕ) (h : TurnContext) (u : Update) (w : Way) (action : Option SharedAction) → Few n h → MakesWay n w → Makes n (reached w.k) (update_changes h u w action)
update_changes_makes n h u w None f g x = tt
update_changes_makes n h u w (Some action) f g x = acts_within n (reached w.k) h u.place true action x.locals (λ old. control.begins w.k) f (λ old. g.fits) x

update_right_makes : (n : ℕ) (h : TurnContext) (u : Update) (at : Value) (w : Way) → Few n h → MakesWay n w → MakesUse n (update_right_way h u at w)
update_right_makes n h u at w f g = record {
  fits = g.fits;
  goes = λ v. does_if n (reached w.k) (is_atomic u.ty) (update_changes h u w (changed_by (is_minus u.op) (pointer_in at) v)) (update_reads h u at v w)
      (update_changes_makes n h u w (changed_by (is_minus u.op) (pointer_in at) v) f g) (update_reads_makes n h u at v w f g);
}

update_left_makes : (n : ℕ) (h : TurnContext) (u : Update) (right : tree.Expr) (w : Way) → Few n h → MakesWay n w → MakesUse n (update_left_way h u right w)
update_left_makes n h u right w f g = record { fits = g.fits; goes = λ v x. run_makes n h f right (update_right_way h u v w) (update_right_makes n h u v w f g) x }

updates_variable_makes : (n : ℕ) (h : TurnContext) (u : Update) (number : ℕ) (by : Value) (w : Way) (v : Variable) → MakesWay n w → Makes n (reached w.k) (updates_variable h u number by w v)
updates_variable_makes n h u number by w control.unset g x = tt
updates_variable_makes n h u number by w (control.holds v) g x =
    on_ok_within n (length x.world.blocks + reached w.k) u.operator (λ r. w.end (with_variable number (control.holds r) x)) (updated h.typed.structs x.world.blocks u.ty u.op v by) (λ r. g.ends (with_variable number (control.holds r) x))
updates_variable_makes n h u number by w (control.lies block) g x = tt

update_local_makes : (n : ℕ) (h : TurnContext) (u : Update) (number : ℕ) (w : Way) → MakesWay n w → MakesUse n (update_local_way h u number w)
update_local_makes n h u number w g = record { fits = g.fits; goes = λ v x. updates_variable_makes n h u number v w (variable_at x number) g x }

updates_object_makes : (n : ℕ) (h : TurnContext) (u : Update) (left right : tree.Expr) (w : Way) → Few n h → MakesWay n w → Makes n (reached w.k) (run_place h left (update_left_way h u right w))
updates_object_makes n h u left right w f g = run_place_makes n h f left (update_left_way h u right w) (update_left_makes n h u right w f g)

updates_makes : (n : ℕ) (h : TurnContext) (u : Update) (node : tree.ExprNode) (left right : tree.Expr) (w : Way) → Few n h → MakesWay n w → Makes n (reached w.k) (updates h u node left right w)
updates_makes n h u (tree.local number) left right w f g =
    makes_if n (reached w.k) (is_block (local_at h number)) (run_place h left (update_left_way h u right w)) (run h right (update_local_way h u number w))
    (updates_object_makes n h u left right w f g) (run_makes n h f right (update_local_way h u number w) (update_local_makes n h u number w g))
updates_makes n h u (tree.num t z) left right w f g = updates_object_makes n h u left right w f g
updates_makes n h u tree.null left right w f g = updates_object_makes n h u left right w f g
updates_makes n h u (tree.literal number) left right w f g = updates_object_makes n h u left right w f g
updates_makes n h u (tree.global number) left right w f g = updates_object_makes n h u left right w f g
updates_makes n h u (tree.deref e) left right w f g = updates_object_makes n h u left right w f g
updates_makes n h u (tree.member e number) left right w f g = updates_object_makes n h u left right w f g
updates_makes n h u (tree.address_of e) left right w f g = updates_object_makes n h u left right w f g
updates_makes n h u (tree.decay e) left right w f g = updates_object_makes n h u left right w f g
updates_makes n h u (tree.convert e) left right w f g = updates_object_makes n h u left right w f g
updates_makes n h u (tree.not_ e) left right w f g = updates_object_makes n h u left right w f g
updates_makes n h u (tree.binary op a b) left right w f g = updates_object_makes n h u left right w f g
updates_makes n h u (tree.and_also a b) left right w f g = updates_object_makes n h u left right w f g
updates_makes n h u (tree.or_else a b) left right w f g = updates_object_makes n h u left right w f g
updates_makes n h u (tree.choose c a b) left right w f g = updates_object_makes n h u left right w f g
updates_makes n h u (tree.pointer_add p q) left right w f g = updates_object_makes n h u left right w f g
updates_makes n h u (tree.pointer_sub p q) left right w f g = updates_object_makes n h u left right w f g
updates_makes n h u (tree.pointer_diff p q) left right w f g = updates_object_makes n h u left right w f g
updates_makes n h u (tree.pointer_compare op p q) left right w f g = updates_object_makes n h u left right w f g
updates_makes n h u (tree.pointer_test p) left right w f g = updates_object_makes n h u left right w f g
updates_makes n h u (tree.call number args) left right w f g = updates_object_makes n h u left right w f g
updates_makes n h u (tree.lib which args) left right w f g = updates_object_makes n h u left right w f g

initialises_makes : (n : ℕ) (h : TurnContext) (place number : ℕ) (init : tree.Expr) (w : Way) → Few n h → MakesWay n w → Makes n (1 + reached w.k) (initialises h place number init w)
initialises_makes n h place number init w f g x =
    let to = block_value (length (ended_local number x).world.blocks) in
    let atomic = is_atomic_local (local_at h number) in
    within_if n (length x.world.blocks + (1 + reached w.k)) (is_block (local_at h number)) (run h init (place_way h place atomic to w) (made_local h number x)) (run h init (local_way number w) (with_variable number control.unset x))
    (within_more n (length (made_local h number x).world.blocks + reached w.k) (length x.world.blocks + (1 + reached w.k)) (run h init (place_way h place atomic to w) (made_local h number x)) (omega (arith, made_local_length h number x))
    (run_makes n h f init (place_way h place atomic to w) (place_makes n h place atomic to w f g) (made_local h number x)))
    (within_more n (length x.world.blocks + reached w.k) (length x.world.blocks + (1 + reached w.k)) (run h init (local_way number w) (with_variable number control.unset x)) (omega arith)
    (run_makes n h f init (local_way number w) (local_makes n number w g) (with_variable number control.unset x)))

declared_if : (c : Bool) (x y : Now) (b : ℕ) → length x.world.blocks ≤ b → length y.world.blocks ≤ b → length (if c then x else y).world.blocks ≤ b
declared_if true x y b p q = p
declared_if false x y b p q = q

declares_makes : (n : ℕ) (h : TurnContext) (place number : ℕ) (init : Option tree.Expr) (w : Way) → Few n h → MakesWay n w → Makes n (1 + reached w.k) (declares h place number init w)
declares_makes n h place number None w f g x =
    let at_most = declared_if (is_block (local_at h number)) (made_local h number x) (with_variable number control.unset x) (length x.world.blocks + 1) (omega (arith, made_local_length h number x)) (omega arith) in
    within_more n (length (declared_local h number x).world.blocks + reached w.k) (length x.world.blocks + (1 + reached w.k)) (w.end (declared_local h number x)) (omega (arith, at_most)) (g.ends (declared_local h number x))
declares_makes n h place number (Some init) w f g x = initialises_makes n h place number init w f g x

caller_makes : (n : ℕ) (h : TurnContext) → Few n h → MakesUse n (caller_way h)
caller_makes n h f = record { fits = tt; goes = λ v x. leaves_makes n 0 h (Some v) f x }

returns_makes : (n m : ℕ) (h : TurnContext) (value : Option tree.Expr) → Few n h → Makes n m (returns h value)
returns_makes n m h None f x = leaves_makes n m h None f x
returns_makes n m h (Some e) f x =
    within_more n (length x.world.blocks + 0) (length x.world.blocks + m) (run h e (caller_way h) x) (omega arith) (run_makes n h f e (caller_way h) (caller_makes n h f) x)

drops_object_makes : (n : ℕ) (h : TurnContext) (place : ℕ) (ty : tree.Ty) (node : tree.ExprNode) (w : Way) → Few n h → MakesWay n w → Makes n (reached w.k) (drops_object h place ty node w)
drops_object_makes n h place ty node w f g =
    does_if n (reached w.k) (is_scalar ty) (run_node h place ty node (nowhere_way w)) (run_place_node h place node (nowhere_way w))
    (run_node_makes n h f place ty node (nowhere_way w) (nowhere_makes n w g)) (run_place_node_makes n h f place node (nowhere_way w) (nowhere_makes n w g))

plain_dropped : (n : ℕ) (h : TurnContext) (place : ℕ) (ty : tree.Ty) (node : tree.ExprNode) (w : Way) → Few n h → MakesWay n w → Makes n (reached w.k) (run_node h place ty node (nowhere_way w))
plain_dropped n h place ty node w f g = run_node_makes n h f place ty node (nowhere_way w) (nowhere_makes n w g)

call_dropped : (n : ℕ) (h : TurnContext) (place : ℕ) (callee : control.Callee) (args : tree.Exprs) (w : Way) → Few n h → MakesWay n w → Makes n (reached w.k) (run_arguments h place callee args [] (dropped w.k))
call_dropped n h place callee args w f g x =
    within_more n (length x.world.blocks + 0) (length x.world.blocks + reached w.k) (run_arguments h place callee args [] (dropped w.k) x) (omega arith) (run_arguments_makes n h f place callee args [] (dropped w.k) g.fits x)

mutual
  dropped_makes : (n : ℕ) (h : TurnContext) → Few n h → (e : tree.Expr) (w : Way) → MakesWay n w → Makes n (reached w.k) (run_dropped h e w)
  dropped_makes n h f (tree.at place ty node) w g x = dropped_node_makes n h f place ty node w g x

  dropped_node_makes : (n : ℕ) (h : TurnContext) → Few n h → (place : ℕ) (ty : tree.Ty) (node : tree.ExprNode) (w : Way) → MakesWay n w → Makes n (reached w.k) (run_dropped_node h place ty node w)
  dropped_node_makes n h f place ty (tree.call number args) w g x = call_dropped n h place (control.function number) args w f g x
  dropped_node_makes n h f place ty (tree.lib which args) w g x = call_dropped n h place (control.library which) args w f g x
  dropped_node_makes n h f place tree.void (tree.convert e) w g x = dropped_makes n h f e w g x
  dropped_node_makes n h f place (tree.integer t) (tree.convert e) w g x = plain_dropped n h place (tree.integer t) (tree.convert e) w f g x
  dropped_node_makes n h f place (tree.atomic t) (tree.convert e) w g x = plain_dropped n h place (tree.atomic t) (tree.convert e) w f g x
  dropped_node_makes n h f place tree.mutex (tree.convert e) w g x = plain_dropped n h place tree.mutex (tree.convert e) w f g x
  dropped_node_makes n h f place (tree.pointer to) (tree.convert e) w g x = plain_dropped n h place (tree.pointer to) (tree.convert e) w f g x
  dropped_node_makes n h f place (tree.array of size) (tree.convert e) w g x = plain_dropped n h place (tree.array of size) (tree.convert e) w f g x
  dropped_node_makes n h f place (tree.structure number) (tree.convert e) w g x = plain_dropped n h place (tree.structure number) (tree.convert e) w f g x
  dropped_node_makes n h f place ty (tree.num t z) w g x = plain_dropped n h place ty (tree.num t z) w f g x
  dropped_node_makes n h f place ty tree.null w g x = plain_dropped n h place ty tree.null w f g x
  dropped_node_makes n h f place ty (tree.literal number) w g x = drops_object_makes n h place ty (tree.literal number) w f g x
  dropped_node_makes n h f place ty (tree.global number) w g x = drops_object_makes n h place ty (tree.global number) w f g x
  dropped_node_makes n h f place ty (tree.local number) w g x = drops_object_makes n h place ty (tree.local number) w f g x
  dropped_node_makes n h f place ty (tree.deref e) w g x = drops_object_makes n h place ty (tree.deref e) w f g x
  dropped_node_makes n h f place ty (tree.member e number) w g x = drops_object_makes n h place ty (tree.member e number) w f g x
  dropped_node_makes n h f place ty (tree.address_of e) w g x = plain_dropped n h place ty (tree.address_of e) w f g x
  dropped_node_makes n h f place ty (tree.decay e) w g x = plain_dropped n h place ty (tree.decay e) w f g x
  dropped_node_makes n h f place ty (tree.not_ e) w g x = plain_dropped n h place ty (tree.not_ e) w f g x
  dropped_node_makes n h f place ty (tree.binary op a b) w g x = plain_dropped n h place ty (tree.binary op a b) w f g x
  dropped_node_makes n h f place ty (tree.and_also a b) w g x = plain_dropped n h place ty (tree.and_also a b) w f g x
  dropped_node_makes n h f place ty (tree.or_else a b) w g x = plain_dropped n h place ty (tree.or_else a b) w f g x
  dropped_node_makes n h f place ty (tree.choose c a b) w g x = plain_dropped n h place ty (tree.choose c a b) w f g x
  dropped_node_makes n h f place ty (tree.pointer_add p q) w g x = plain_dropped n h place ty (tree.pointer_add p q) w f g x
  dropped_node_makes n h f place ty (tree.pointer_sub p q) w g x = plain_dropped n h place ty (tree.pointer_sub p q) w f g x
  dropped_node_makes n h f place ty (tree.pointer_diff p q) w g x = plain_dropped n h place ty (tree.pointer_diff p q) w f g x
  dropped_node_makes n h f place ty (tree.pointer_compare op p q) w g x = plain_dropped n h place ty (tree.pointer_compare op p q) w f g x
  dropped_node_makes n h f place ty (tree.pointer_test p) w g x = plain_dropped n h place ty (tree.pointer_test p) w f g x

-- ---- ways behind statements

row_makes : (n : ℕ) (rest : tree.Stmts) (run_rest : Way → Does) (w : Way) → MakesWay n w → Makes n (in_row rest + reached w.k) (run_rest w) → in_row rest + reached w.k ≤ n → MakesWay n (row_way rest run_rest w)
row_makes n rest run_rest w g s fits = record {
  fits = (fits, g.fits);
  ends = s;
  breaks = makes_more n (reached w.k) (in_row rest + reached w.k) w.breaks (omega arith) g.breaks;
  continues = makes_more n (reached w.k) (in_row rest + reached w.k) w.continues (omega arith) g.continues;
}

behind_ends : (n m : ℕ) (numbers : List ℕ) (d : Does) → Makes n m d → Makes n m (λ x. d (ended_locals numbers x))
behind_ends n m numbers d s x =
    within_more n (length (ended_locals numbers x).world.blocks + m) (length x.world.blocks + m) (d (ended_locals numbers x)) (omega (arith, ended_locals_length numbers x)) (s (ended_locals numbers x))

end_makes : (n : ℕ) (numbers : List ℕ) (w : Way) → MakesWay n w → MakesWay n (end_way numbers w)
end_makes n numbers w g = record {
  fits = g.fits;
  ends = behind_ends n (reached w.k) numbers w.end g.ends;
  breaks = behind_ends n (reached w.k) numbers w.breaks g.breaks;
  continues = behind_ends n (reached w.k) numbers w.continues g.continues;
}

-- a statement, as it is executed before what follows it
abbrev Executes : (n m : ℕ) → (Way → Does) → Type 0
Executes n m run_it = (w : Way) → MakesWay n w → m + reached w.k ≤ n → Makes n (m + reached w.k) (run_it w)

if_makes : (n place : ℕ) (one other : tree.Stmt) (run_one run_other : Way → Does) (w : Way) → Executes n (in_stmt one) run_one → Executes n (in_stmt other) run_other → MakesWay n w → in_stmt one + in_stmt other + reached w.k ≤ n → MakesUse n (if_way place one other run_one run_other w)
if_makes n place one other run_one run_other w s t g fits = record {
  fits = (fits, g.fits);
  goes = λ v x. on_ok_within n (length x.world.blocks + (in_stmt one + in_stmt other + reached w.k)) place (λ (b : Bool). if b then run_one w x else run_other w x) (truth_of x.world.blocks v)
      (λ b. within_if n (length x.world.blocks + (in_stmt one + in_stmt other + reached w.k)) b (run_one w x) (run_other w x)
      (within_more n (length x.world.blocks + (in_stmt one + reached w.k)) (length x.world.blocks + (in_stmt one + in_stmt other + reached w.k)) (run_one w x) (omega arith) (s w g (omega (arith, fits)) x))
      (within_more n (length x.world.blocks + (in_stmt other + reached w.k)) (length x.world.blocks + (in_stmt one + in_stmt other + reached w.k)) (run_other w x) (omega arith) (t w g (omega (arith, fits)) x)));
}

-- ---- loops

over_makes : (n m : ℕ) (h : TurnContext) (l : Loop) (k : Todo) → Few n h → in_loop l + reached k ≤ n → Fits n k → Makes n m (round_over h l k)
over_makes n m h l k f round fits x =
    plainly_within n (length x.world.blocks + m) h.answer (stays h x.locals (control.round l k) x.world) (omega arith, ((round, fits), f.callers))

step_makes : (n : ℕ) (h : TurnContext) (l : Loop) (w : Way) → Few n h → MakesWay n w → in_loop l + reached w.k ≤ n → MakesWay n (step_way h l w)
step_makes n h l w f g round = record {
  fits = (round, g.fits);
  ends = over_makes n (reached w.k) h l w.k f round g.fits;
  breaks = g.ends;
  continues = over_makes n (reached w.k) h l w.k f round g.fits;
}

body_makes : (n : ℕ) (h : TurnContext) (l : Loop) (run_step : Way → Does) (w : Way) → Few n h → Executes n (in_stmt l.step) run_step → MakesWay n w → in_loop l + reached w.k ≤ n → MakesWay n (body_way h l run_step w)
body_makes n h l run_step w f s g round =
    let step : Makes n (in_stmt l.step + reached w.k) (run_step (step_way h l w)) = s (step_way h l w) (step_makes n h l w f g round) (omega (arith, round)) in
    record {
      fits = (round, g.fits);
      ends = step;
      breaks = makes_more n (reached w.k) (in_stmt l.step + reached w.k) w.end (omega arith) g.ends;
      continues = step;
    }

enter_makes : (n : ℕ) (h : TurnContext) (l : Loop) (run_body run_step : Way → Does) (w : Way) → Few n h → Executes n (in_stmt l.body) run_body → Executes n (in_stmt l.step) run_step → MakesWay n w → in_loop l + reached w.k ≤ n
    → Makes n (in_loop l + reached w.k) (run_body (body_way h l run_step w))
enter_makes n h l run_body run_step w f b s g round =
    makes_more n (in_stmt l.body + (in_stmt l.step + reached w.k)) (in_loop l + reached w.k) (run_body (body_way h l run_step w)) (omega arith)
    (b (body_way h l run_step w) (body_makes n h l run_step w f s g round) (omega (arith, round)))

test_makes : (n : ℕ) (h : TurnContext) (place : ℕ) (l : Loop) (run_body run_step : Way → Does) (w : Way) → Few n h → Executes n (in_stmt l.body) run_body → Executes n (in_stmt l.step) run_step → MakesWay n w → in_loop l + reached w.k ≤ n
    → MakesUse n (loop_test_way h place l run_body run_step w)
test_makes n h place l run_body run_step w f b s g round = record {
  fits = (round, g.fits);
  goes = λ v x. on_ok_within n (length x.world.blocks + (in_loop l + reached w.k)) place (λ (c : Bool). if c then run_body (body_way h l run_step w) x else w.end x) (truth_of x.world.blocks v)
      (λ c. within_if n (length x.world.blocks + (in_loop l + reached w.k)) c (run_body (body_way h l run_step w) x) (w.end x)
      (enter_makes n h l run_body run_step w f b s g round x)
      (within_more n (length x.world.blocks + reached w.k) (length x.world.blocks + (in_loop l + reached w.k)) (w.end x) (omega arith) (g.ends x)));
}

rounds_if_makes : (n : ℕ) (h : TurnContext) (l : Loop) (run_body run_step : Way → Does) (w : Way) (condition : Option tree.Expr) → Few n h → Executes n (in_stmt l.body) run_body → Executes n (in_stmt l.step) run_step → MakesWay n w → in_loop l + reached w.k ≤ n
    → Makes n (in_loop l + reached w.k) (rounds_if h l run_body run_step w condition)
rounds_if_makes n h l run_body run_step w None f b s g round x = enter_makes n h l run_body run_step w f b s g round x
rounds_if_makes n h l run_body run_step w (Some e) f b s g round x =
    run_makes n h f e (loop_test_way h (tree.place_of e) l run_body run_step w) (test_makes n h (tree.place_of e) l run_body run_step w f b s g round) x

rounds_makes : (n : ℕ) (h : TurnContext) (l : Loop) (run_body run_step : Way → Does) (w : Way) → Few n h → Executes n (in_stmt l.body) run_body → Executes n (in_stmt l.step) run_step → MakesWay n w → in_loop l + reached w.k ≤ n
    → Makes n (in_loop l + reached w.k) (rounds h l run_body run_step w)
rounds_makes n h l run_body run_step w f b s g round x = rounds_if_makes n h l run_body run_step w l.condition f b s g round x

loop_makes : (n : ℕ) (h : TurnContext) (l : Loop) (run_body run_step : Way → Does) (w : Way) → Few n h → Executes n (in_stmt l.body) run_body → Executes n (in_stmt l.step) run_step → MakesWay n w → in_loop l + reached w.k ≤ n → MakesWay n (loop_way h l run_body run_step w)
loop_makes n h l run_body run_step w f b s g round = record {
  fits = (round, g.fits);
  ends = rounds_makes n h l run_body run_step w f b s g round;
  breaks = makes_more n (reached w.k) (in_loop l + reached w.k) w.breaks (omega arith) g.breaks;
  continues = makes_more n (reached w.k) (in_loop l + reached w.k) w.continues (omega arith) g.continues;
}

-- nothing is executed
skips : (n : ℕ) → Executes n 0 (λ v. v.end)
skips n w g fits = makes_more n (reached w.k) (0 + reached w.k) w.end (omega arith) g.ends

-- a loop is left
leaves_loop : (n : ℕ) → Executes n 0 (λ v. v.breaks)
leaves_loop n w g fits = makes_more n (reached w.k) (0 + reached w.k) w.breaks (omega arith) g.breaks

-- the condition of a do
again_makes : (n : ℕ) (h : TurnContext) → Few n h → (e : tree.Expr) → Executes n (0 + 0) (λ v. run h e (if_way (tree.place_of e) (nothing (tree.place_of e)) (leaving (tree.place_of e)) (λ u. u.end) (λ u. u.breaks) v))
again_makes n h f e w g fits x =
    run_makes n h f e (if_way (tree.place_of e) (nothing (tree.place_of e)) (leaving (tree.place_of e)) (λ u. u.end) (λ u. u.breaks) w)
    (if_makes n (tree.place_of e) (nothing (tree.place_of e)) (leaving (tree.place_of e)) (λ u. u.end) (λ u. u.breaks) w (skips n) (leaves_loop n) g fits) x

-- ---- switch

switch_makes : (n : ℕ) (w : Way) → MakesWay n w → MakesWay n (switch_way w)
switch_makes n w g = record { fits = g.fits; ends = g.ends; breaks = g.ends; continues = g.continues }

starts_makes : (n : ℕ) (body : tree.Stmts) (run_at : (at : ℕ) → Way → Does) (w : Way) (start : Option ℕ) → ((at : ℕ) → Executes n (in_row body) (run_at at)) → MakesWay n w → in_row body + reached w.k ≤ n
    → Makes n (in_row body + reached w.k) (starts run_at w start)
starts_makes n body run_at w None s g fits x =
    within_more n (length x.world.blocks + reached w.k) (length x.world.blocks + (in_row body + reached w.k)) (w.end x) (omega arith) (g.ends x)
starts_makes n body run_at w (Some at) s g fits x = s at (switch_way w) (switch_makes n w g) fits x

switch_test_makes : (n : ℕ) (labels : List tree.Label) (body : tree.Stmts) (run_at : (at : ℕ) → Way → Does) (w : Way) → ((at : ℕ) → Executes n (in_row body) (run_at at)) → MakesWay n w → in_row body + reached w.k ≤ n
    → MakesUse n (switch_test_way labels body run_at w)
switch_test_makes n labels body run_at w s g fits = record {
  fits = (fits, g.fits);
  goes = λ v x. starts_makes n body run_at w (starts_at labels (chosen labels v)) s g fits x;
}

-- ---- statements

mutual
  stmt_makes : (n : ℕ) (h : TurnContext) → Few n h → (s : tree.Stmt) → Executes n (in_stmt s) (run_stmt h s)
  stmt_makes n h f (tree.at_stmt place node) w g fits x = node_makes n h f place node w g fits x

  node_makes : (n : ℕ) (h : TurnContext) → Few n h → (place : ℕ) (node : tree.StmtNode) → Executes n (in_node node) (run_stmt_node h place node)
  node_makes n h f place (tree.block body) w g fits x = stmts_makes n h f body (end_way (declared body) w) (end_makes n (declared body) w g) fits x
  node_makes n h f place (tree.declare number init) w g fits x = declares_makes n h place number init w f g x
  node_makes n h f place (tree.if_ e one) w g fits x =
      within_more n (length x.world.blocks + (in_stmt one + 0 + reached w.k)) (length x.world.blocks + (in_stmt one + reached w.k)) (run h e (if_way (tree.place_of e) one (nothing place) (run_stmt h one) (λ v. v.end) w) x) (omega arith)
      (run_makes n h f e (if_way (tree.place_of e) one (nothing place) (run_stmt h one) (λ v. v.end) w)
      (if_makes n (tree.place_of e) one (nothing place) (run_stmt h one) (λ v. v.end) w (stmt_makes n h f one) (skips n) g (omega (arith, fits))) x)
  node_makes n h f place (tree.if_else e one other) w g fits x =
      run_makes n h f e (if_way (tree.place_of e) one other (run_stmt h one) (run_stmt h other) w)
      (if_makes n (tree.place_of e) one other (run_stmt h one) (run_stmt h other) w (stmt_makes n h f one) (stmt_makes n h f other) g fits) x
  node_makes n h f place (tree.while_ e body) w g fits x =
      within_more n (length x.world.blocks + (in_stmt body + 0 + reached w.k)) (length x.world.blocks + (in_stmt body + reached w.k)) (rounds h (while_loop place e body) (run_stmt h body) (λ v. v.end) w x) (omega arith)
      (rounds_makes n h (while_loop place e body) (run_stmt h body) (λ v. v.end) w f (stmt_makes n h f body) (skips n) g (omega (arith, fits)) x)
  node_makes n h f place (tree.for_ first e step body) w g fits x =
      let l = for_loop e step body in
      let v = end_way (declared_by first []) w in
      within_more n (length x.world.blocks + (in_stmt first + (in_loop l + reached w.k))) (length x.world.blocks + (in_stmt first + (in_stmt body + in_stmt step) + reached w.k)) (run_stmt h first (loop_way h l (run_stmt h body) (run_stmt h step) v) x) (omega arith)
      (stmt_makes n h f first (loop_way h l (run_stmt h body) (run_stmt h step) v)
      (loop_makes n h l (run_stmt h body) (run_stmt h step) v f (stmt_makes n h f body) (stmt_makes n h f step) (end_makes n (declared_by first []) w g) (omega (arith, fits))) (omega (arith, fits)) x)
  node_makes n h f place (tree.do_while body e) w g fits x =
      let l = do_loop body e in
      within_more n (length x.world.blocks + (in_stmt body + (0 + 0) + reached w.k)) (length x.world.blocks + (in_stmt body + reached w.k)) (rounds h l (run_stmt h body) (λ v. run h e (if_way (tree.place_of e) (nothing (tree.place_of e)) (leaving (tree.place_of e)) (λ u. u.end) (λ u. u.breaks) v)) w x) (omega arith)
      (rounds_makes n h l (run_stmt h body) (λ v. run h e (if_way (tree.place_of e) (nothing (tree.place_of e)) (leaving (tree.place_of e)) (λ u. u.end) (λ u. u.breaks) v)) w f (stmt_makes n h f body) (again_makes n h f e) g (omega (arith, fits)) x)
  node_makes n h f place (tree.switch e labels body) w g fits x =
      run_makes n h f e (switch_test_way labels body (run_from h body) w)
      (switch_test_makes n labels body (run_from h body) w (from_makes n h f body) g fits) x
  node_makes n h f place tree.break_ w g fits x = within_more n (length x.world.blocks + reached w.k) (length x.world.blocks + (0 + reached w.k)) (w.breaks x) (omega arith) (g.breaks x)
  node_makes n h f place tree.continue_ w g fits x = within_more n (length x.world.blocks + reached w.k) (length x.world.blocks + (0 + reached w.k)) (w.continues x) (omega arith) (g.continues x)
  node_makes n h f place (tree.return_ value) w g fits x = returns_makes n (0 + reached w.k) h value f x
  node_makes n h f place (tree.assign left right) w g fits x =
      within_more n (length x.world.blocks + reached w.k) (length x.world.blocks + (0 + reached w.k)) (assigns h (tree.node_of left) left right w x) (omega arith) (assigns_makes n h (tree.node_of left) left right w f g x)
  node_makes n h f place (tree.update left op right) w g fits x =
      within_more n (length x.world.blocks + reached w.k) (length x.world.blocks + (0 + reached w.k)) (updates h (update_of place left op) (tree.node_of left) left right w x) (omega arith) (updates_makes n h (update_of place left op) (tree.node_of left) left right w f g x)
  node_makes n h f place (tree.evaluate e) w g fits x =
      within_more n (length x.world.blocks + reached w.k) (length x.world.blocks + (0 + reached w.k)) (run_dropped h e w x) (omega arith) (dropped_makes n h f e w g x)
  node_makes n h f place tree.empty w g fits x = skips n w g fits x

  stmts_makes : (n : ℕ) (h : TurnContext) → Few n h → (row : tree.Stmts) → Executes n (in_row row) (run_row h row)
  stmts_makes n h f tree.no_stmts w g fits x = skips n w g fits x
  stmts_makes n h f (tree.more_stmts s rest) w g fits x =
      within_more n (length x.world.blocks + (in_stmt s + (in_row rest + reached w.k))) (length x.world.blocks + (in_stmt s + in_row rest + reached w.k)) (run_stmt h s (row_way rest (run_row h rest) w) x) (omega arith)
      (stmt_makes n h f s (row_way rest (run_row h rest) w) (row_makes n rest (run_row h rest) w g (stmts_makes n h f rest w g (omega (arith, fits))) (omega (arith, fits))) (omega (arith, fits)) x)

  from_makes : (n : ℕ) (h : TurnContext) → Few n h → (row : tree.Stmts) (at : ℕ) → Executes n (in_row row) (run_from h row at)
  from_makes n h f tree.no_stmts at w g fits x = skips n w g fits x
  from_makes n h f (tree.more_stmts s rest) zero w g fits x =
      within_more n (length x.world.blocks + (in_stmt s + (in_row rest + reached w.k))) (length x.world.blocks + (in_stmt s + in_row rest + reached w.k)) (run_stmt h s (row_way rest (run_row h rest) w) x) (omega arith)
      (stmt_makes n h f s (row_way rest (run_row h rest) w) (row_makes n rest (run_row h rest) w g (stmts_makes n h f rest w g (omega (arith, fits))) (omega (arith, fits))) (omega (arith, fits)) x)
  from_makes n h f (tree.more_stmts s rest) (suc at) w g fits x =
      within_more n (length x.world.blocks + (in_row rest + reached w.k)) (length x.world.blocks + (in_stmt s + in_row rest + reached w.k)) (run_from h rest at w x) (omega arith)
      (from_makes n h f rest at w g (omega (arith, fits)) x)

-- ---- what is left to do

leave_makes : (n : ℕ) (h : TurnContext) → Few n h → MakesWay n (leave_way h)
leave_makes n h f = record { fits = tt; ends = leaves_makes n 0 h None f; breaks = leaves_makes n 0 h None f; continues = leaves_makes n 0 h None f }

-- the same under the name that it has
under_name : (n m : ℕ) (h : TurnContext) (k : Todo) → m + reached k ≤ n → m + reached (way_of h k).k ≤ n
under_name n m h k fits = rw (name_todo h k) fits

way_makes : (n : ℕ) (h : TurnContext) → Few n h → (k : Todo) → Fits n k → MakesWay n (way_of h k)
way_makes n h f control.leaves fits = leave_makes n h f
way_makes n h f (control.then_row rest k) fits =
    let g = way_makes n h f k fits.1 in
    let bound = under_name n (in_row rest) h k fits.0 in
    row_makes n rest (run_row h rest) (way_of h k) g (stmts_makes n h f rest (way_of h k) g bound) bound
way_makes n h f (control.then_end numbers k) fits = end_makes n numbers (way_of h k) (way_makes n h f k fits)
way_makes n h f (control.then_loop l k) fits =
    loop_makes n h l (run_stmt h l.body) (run_stmt h l.step) (way_of h k) f (stmt_makes n h f l.body) (stmt_makes n h f l.step) (way_makes n h f k fits.1) (under_name n (in_loop l) h k fits.0)
way_makes n h f (control.in_body l k) fits =
    body_makes n h l (run_stmt h l.step) (way_of h k) f (stmt_makes n h f l.step) (way_makes n h f k fits.1) (under_name n (in_loop l) h k fits.0)
way_makes n h f (control.in_step l k) fits = step_makes n h l (way_of h k) f (way_makes n h f k fits.1) (under_name n (in_loop l) h k fits.0)
way_makes n h f (control.in_switch k) fits = switch_makes n (way_of h k) (way_makes n h f k fits)

use_makes : (n : ℕ) (h : TurnContext) → Few n h → (k : Use) → FitsUse n k → MakesUse n (use_of h k)
use_makes n h f (control.first_of place op right k) fits = first_makes n place op right (run h right) (use_of h k) (run_makes n h f right) (use_makes n h f k fits)
use_makes n h f (control.second_of place op left k) fits = second_makes n place op left (use_of h k) (use_makes n h f k fits)
use_makes n h f (control.only_of place op k) fits = only_makes n place op (use_of h k) (use_makes n h f k fits)
use_makes n h f (control.place_read place how atomic k) fits = read_makes n h place how atomic (use_of h k) f (use_makes n h f k fits)
use_makes n h f (control.first_test place decides right k) fits = first_test_makes n place decides right (run h right) (use_of h k) (run_makes n h f right) (use_makes n h f k fits)
use_makes n h f (control.second_test place k) fits = second_test_makes n place (use_of h k) (use_makes n h f k fits)
use_makes n h f (control.choice place one other k) fits = choice_makes n place one other (run h one) (run h other) (use_of h k) (run_makes n h f one) (run_makes n h f other) (use_makes n h f k fits)
use_makes n h f (control.argument place callee before rest k) fits =
    argument_makes n place callee before rest (run_arguments h place callee rest) k fits (λ all. run_arguments_makes n h f place callee rest all k fits)
use_makes n h f (control.to_local number k) fits = local_makes n number (way_of h k) (way_makes n h f k fits)
use_makes n h f (control.left_place place atomic right k) fits = left_makes n h place atomic right (way_of h k) f (way_makes n h f k fits)
use_makes n h f (control.to_place place atomic to k) fits = place_makes n h place atomic to (way_of h k) f (way_makes n h f k fits)
use_makes n h f (control.struct_left place ty right k) fits = struct_left_makes n h place ty right (way_of h k) f (way_makes n h f k fits)
use_makes n h f (control.struct_right place ty to k) fits = struct_right_makes n h place ty to (way_of h k) f (way_makes n h f k fits)
use_makes n h f (control.update_left u right k) fits = update_left_makes n h u right (way_of h k) f (way_makes n h f k fits)
use_makes n h f (control.update_local u number k) fits = update_local_makes n h u number (way_of h k) (way_makes n h f k fits)
use_makes n h f (control.update_right u at k) fits = update_right_makes n h u at (way_of h k) f (way_makes n h f k fits)
use_makes n h f (control.update_read u at by k) fits = update_read_makes n h u at by (way_of h k) f (way_makes n h f k fits)
use_makes n h f (control.if_test place one other k) fits =
    if_makes n place one other (run_stmt h one) (run_stmt h other) (way_of h k) (stmt_makes n h f one) (stmt_makes n h f other) (way_makes n h f k fits.1) (under_name n (in_stmt one + in_stmt other) h k fits.0)
use_makes n h f (control.loop_test place l k) fits =
    test_makes n h place l (run_stmt h l.body) (run_stmt h l.step) (way_of h k) f (stmt_makes n h f l.body) (stmt_makes n h f l.step) (way_makes n h f k fits.1) (under_name n (in_loop l) h k fits.0)
use_makes n h f (control.switch_test labels body k) fits =
    switch_test_makes n labels body (run_from h body) (way_of h k) (from_makes n h f body) (way_makes n h f k fits.1) (under_name n (in_row body) h k fits.0)
use_makes n h f control.to_caller fits = caller_makes n h f
use_makes n h f (control.to_nowhere k) fits = nowhere_makes n (way_of h k) (way_makes n h f k fits)

-- what fits is reached within n
todo_reaches : (n : ℕ) (k : Todo) → Fits n k → reached k ≤ n
todo_reaches n control.leaves fits = omega arith
todo_reaches n (control.then_row rest k) fits = fits.0
todo_reaches n (control.then_end numbers k) fits = todo_reaches n k fits
todo_reaches n (control.then_loop l k) fits = fits.0
todo_reaches n (control.in_body l k) fits = omega (arith, fits.0)
todo_reaches n (control.in_step l k) fits = omega (arith, fits.0)
todo_reaches n (control.in_switch k) fits = todo_reaches n k fits

use_reaches : (n : ℕ) (k : Use) → FitsUse n k → reached_by k ≤ n
use_reaches n (control.first_of place op right k) fits = use_reaches n k fits
use_reaches n (control.second_of place op left k) fits = use_reaches n k fits
use_reaches n (control.only_of place op k) fits = use_reaches n k fits
use_reaches n (control.place_read place how atomic k) fits = use_reaches n k fits
use_reaches n (control.first_test place decides right k) fits = use_reaches n k fits
use_reaches n (control.second_test place k) fits = use_reaches n k fits
use_reaches n (control.choice place one other k) fits = use_reaches n k fits
use_reaches n (control.argument place callee before rest k) fits = omega arith
use_reaches n (control.to_local number k) fits = todo_reaches n k fits
use_reaches n (control.left_place place atomic right k) fits = todo_reaches n k fits
use_reaches n (control.to_place place atomic to k) fits = todo_reaches n k fits
use_reaches n (control.struct_left place ty right k) fits = todo_reaches n k fits
use_reaches n (control.struct_right place ty to k) fits = todo_reaches n k fits
use_reaches n (control.update_left u right k) fits = todo_reaches n k fits
use_reaches n (control.update_local u number k) fits = todo_reaches n k fits
use_reaches n (control.update_right u at k) fits = todo_reaches n k fits
use_reaches n (control.update_read u at by k) fits = todo_reaches n k fits
use_reaches n (control.if_test place one other k) fits = fits.0
use_reaches n (control.loop_test place l k) fits = fits.0
use_reaches n (control.switch_test labels body k) fits = fits.0
use_reaches n control.to_caller fits = omega arith
use_reaches n (control.to_nowhere k) fits = todo_reaches n k fits

-- ---- a turn

from_point_makes : (n : ℕ) (h : TurnContext) → Few n h → (p : TurnStart) → FitsPoint n p → Makes n n (from_point h p)
from_point_makes n h f (control.gives v k) fits x =
    within_more n (length x.world.blocks + reached_by (use_of h k).k) (length x.world.blocks + n) ((use_of h k).go v x) (omega (arith, ap reached_by (name_use h k), use_reaches n k fits)) ((use_makes n h f k fits).goes v x)
from_point_makes n h f (control.lacks place) fits x = tt
from_point_makes n h f (control.begins k) fits x =
    within_more n (length x.world.blocks + reached (way_of h k).k) (length x.world.blocks + n) ((way_of h k).end x) (omega (arith, ap reached (name_todo h k), todo_reaches n k fits)) ((way_makes n h f k fits).ends x)
from_point_makes n h f (control.round l k) fits x =
    let bound = under_name n (in_loop l) h k fits.0 in
    within_more n (length x.world.blocks + (in_loop l + reached (way_of h k).k)) (length x.world.blocks + n) (rounds h l (run_stmt h l.body) (run_stmt h l.step) (way_of h k) x) (omega (arith, bound))
    (rounds_makes n h l (run_stmt h l.body) (run_stmt h l.step) (way_of h k) f (stmt_makes n h f l.body) (stmt_makes n h f l.step) (way_makes n h f k fits.1) bound x)

-- a turn makes at most n blocks, and one
pub turn_makes : (n : ℕ) (typed : tree.Typed) (thread : ℕ) (answer : Answer) (c : Control) (w : World) → HasFewDeclarations n typed → FitsControl n c → Within n (length w.blocks + n) (turn typed thread answer c w)
turn_makes n typed thread answer c w few fits =
    from_point_makes n (here typed thread answer c) (record { callers = fits.1; few = few }) c.point fits.0 (record { locals = c.locals; world = w })
