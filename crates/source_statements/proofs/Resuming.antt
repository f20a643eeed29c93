-- How work lists go on behind a part of them.
use Rattle.std.proofs.Common.{◌≡◌, ◌∙◌, ◌++◌, ℕ, Bool, true, false, List, [], ◌∷◌, Option, Some, None, Result, Ok, Err, set, refl, ap, sym, subst}
use Rattle.std.specs.Prelude.{if◌then◌else◌}
use Rattle.std.specs.Global.{Global}
use Rattle.std.specs.declared.rc.Rc.{Rc}
use Rattle.ak_words.specs.declared.rule.Rule.{Rule}
use Rattle.block_store.specs.declared.values.Access.{Access}
use Rattle.block_store.specs.declared.values.Value.{Value}
use Rattle.block_store.specs.Blocks.{Blocks}
use Rattle.c_tree.specs.Typed as tree
use Rattle.c_meaning.specs.Control as control
use Rattle.c_meaning.specs.Values.{Unary, Binary, truth_of, int_of, int_result, of_one, of_two, updated}
use Rattle.c_meaning.specs.Turns.{TurnContext, Way, WayOfUse, Now, Does, on_ok, run, run_stmt, read_way, only_way, second_way, first_way, second_test_way, first_test_way, is_same, choice_way, place_way, leave_way, way_of, use_of}
use Rattle.source_tree.specs.declared.tree.SharedStmt.{SharedStmt}
use Rattle.source_tree.specs.declared.tree.SharedProgram.{SharedProgram}
use Rattle.source_tree.specs.SharedViews.{program_of, stmt_of}
use Rattle.source_state.specs.Views.{stmt_or_nothing}
use Rattle.source_state.specs.declared.control.Progress.{Progress}
use Rattle.source_state.specs.declared.control.Progress.TheVariants as flows
use Rattle.source_state.specs.declared.control.Pending.{Pending}
use Rattle.source_state.specs.declared.control.Pending.TheVariants as pendings
use Rattle.source_state.specs.declared.control.Site.{Site}
use Rattle.source_expressions.specs.Ends.{here_at, ends}
use Rattle.source_expressions.specs.Progress.{now_in, progress, done_with, Flows, FlowsSecond, FlowsTest, FlowsCall, Reads}
use Rattle.source_assignments.specs.declared.exit.Exit.{Exit}
use Rattle.source_assignments.specs.declared.exit.Exit.TheVariants as exits
use Rattle.source_statements.specs.inner.Behind.{Passes, FlowsOn, Continues, StoresUpdated}
use Rattle.source_statements.proofs.Names.{name_todo, name_use}
use Rattle.source_statements.specs.Finishing.{Finishes, GivesTo}
use Rattle.source_assignments.specs.Exits.{ExitsAs, exit}
use Rattle.source_assignments.specs.Stores.{Stores, Copies, Updates}

-- ---- what is left to do

-- nothing of it where the turn has ended
pub finish_ended : (p : SharedProgram) (function : ℕ) (k : control.Todo) (locals : List control.Variable) (blocks : Blocks) (e : Exit) (q : Pending)
    → e ≡ exits.Ends q → Finishes p function k e locals blocks locals blocks q
finish_ended p function k locals blocks e q is_over = record {
  goes = λ r x. ap (λ (g : Exit). exit (here_at p function r) (way_of (here_at p function r) k) (now_in locals blocks x) g) is_over;
}

-- the end of a function's body
pub finish_leaves : (p : SharedProgram) (function : ℕ) (k : control.Todo) (locals : List control.Variable) (blocks : Blocks) (e : Exit) (q : Pending)
    → k ≡ control.leaves → ((h : TurnContext) (x : Now) → exit h (leave_way h) x e ≡ ends h q x)
    → Finishes p function k e locals blocks locals blocks q
finish_leaves p function k locals blocks e q is_leaves comes = record {
  goes = λ r x. ap (λ (m : control.Todo). exit (here_at p function r) (way_of (here_at p function r) m) (now_in locals blocks x) e) is_leaves ∙ comes (here_at p function r) (now_in locals blocks x);
}

-- its first part, and the rest
pub finish_behind : (more : TurnContext → Way → Way) (p : SharedProgram) (function : ℕ) (k form found rest : control.Todo) (e g : Exit) (locals : List control.Variable) (blocks : Blocks) (mid_locals : List control.Variable) (mid_blocks : Blocks) (new_locals : List control.Variable) (new_blocks : Blocks) (q : Pending)
    → k ≡ form → found ≡ rest → ((h : TurnContext) → way_of h form ≡ more h (way_of h rest))
    → Passes more p function rest e locals blocks mid_locals mid_blocks g
    → Finishes p function found g mid_locals mid_blocks new_locals new_blocks q
    → Finishes p function k e locals blocks new_locals new_blocks q
finish_behind more p function k form found rest e g locals blocks mid_locals mid_blocks new_locals new_blocks q is_form same is_more s f =
    let finishes : Finishes p function rest g mid_locals mid_blocks new_locals new_blocks q = subst (λ (m : control.Todo). Finishes p function m g mid_locals mid_blocks new_locals new_blocks q) same f in
    record {
      goes = λ r x.
          ap (λ (m : control.Todo). exit (here_at p function r) (way_of (here_at p function r) m) (now_in locals blocks x) e) is_form
          ∙ ap (λ (w : Way). exit (here_at p function r) w (now_in locals blocks x) e) (is_more (here_at p function r))
          ∙ s.goes r (way_of (here_at p function r) rest) x (name_todo (here_at p function r) rest)
          ∙ finishes.goes r x;
    }

pub finishes_at : (p : SharedProgram) (function : ℕ) (found rest : control.Todo) (e : Exit) (locals : List control.Variable) (blocks : Blocks) (new_locals : List control.Variable) (new_blocks : Blocks) (q : Pending)
    → found ≡ rest → Finishes p function found e locals blocks new_locals new_blocks q
    → Finishes p function rest e locals blocks new_locals new_blocks q
finishes_at p function found rest e locals blocks new_locals new_blocks q same f = subst (λ (m : control.Todo). Finishes p function m e locals blocks new_locals new_blocks q) same f

-- ---- a flow goes on

pub flow_ended : (p : SharedProgram) (function : ℕ) (k : control.Use) (g : Progress) (q : Pending) (locals : List control.Variable) (blocks : Blocks) → g ≡ flows.Ends q → FlowsOn p function k g locals blocks locals blocks q
flow_ended p function k g q locals blocks is_q = record { goes = λ r x. ap (λ (d : Progress). progress (here_at p function r) (use_of (here_at p function r) k) (now_in locals blocks x) d) is_q }

pub flow_given : (p : SharedProgram) (function : ℕ) (found k : control.Use) (g : Progress) (v : Value) (locals : List control.Variable) (blocks : Blocks) (new_locals : List control.Variable) (new_blocks : Blocks) (q : Pending)
    → g ≡ flows.Gives v → found ≡ k → GivesTo p function found v locals blocks new_locals new_blocks q
    → FlowsOn p function k g locals blocks new_locals new_blocks q
flow_given p function found k g v locals blocks new_locals new_blocks q is_v same f =
    let given : GivesTo p function k v locals blocks new_locals new_blocks q = subst (λ (m : control.Use). GivesTo p function m v locals blocks new_locals new_blocks q) same f in
    record { goes = λ r x. ap (λ (d : Progress). progress (here_at p function r) (use_of (here_at p function r) k) (now_in locals blocks x) d) is_v ∙ given.goes r x }

-- ---- a value is used in an expression

pub first_continues : (p : SharedProgram) (locals : List control.Variable) (blocks : Blocks) (b : Blocks) (place : ℕ) (op : Binary) (v : Value) (e f : tree.Expr) (k : control.Use) (g : Progress)
    → FlowsSecond p locals b place op v f k g → b ≡ blocks → f ≡ e
    → Continues (λ h. first_way place op e (run h e)) p locals blocks v k g
first_continues p locals blocks b place op v e f k g flows same_blocks same_expr =
    let second : FlowsSecond p locals blocks place op v e k g = subst (λ (d : tree.Expr). FlowsSecond p locals blocks place op v d k g) same_expr (subst (λ (c : Blocks). FlowsSecond p locals c place op v f k g) same_blocks flows) in
    record { goes = λ function r w x n. second.goes function r w x n }

done_goes : (answer : Result Value Rule) (place : ℕ) (h : TurnContext) (w : WayOfUse) (x : Now) → on_ok place (λ v. w.go v x) answer ≡ progress h w x (done_with place answer)
done_goes (Ok v) place h w x = refl
done_goes (Err rule) place h w x = refl

pub second_continues : (p : SharedProgram) (locals : List control.Variable) (blocks : Blocks) (place : ℕ) (op : Binary) (left v : Value) (k : control.Use) (answer : Result Value Rule) (g : Progress)
    → answer ≡ of_two blocks op left v → g ≡ done_with place answer
    → Continues (λ h. second_way place op left) p locals blocks v k g
second_continues p locals blocks place op left v k answer g is_answer is_done = record {
  goes = λ function r w x n.
      ap (λ (a : Result Value Rule). on_ok place (λ u. w.go u (now_in locals blocks x)) a) (sym is_answer)
      ∙ done_goes answer place (here_at p function r) w (now_in locals blocks x)
      ∙ ap (λ (d : Progress). progress (here_at p function r) w (now_in locals blocks x) d) (sym is_done);
}

pub only_continues : (p : SharedProgram) (locals : List control.Variable) (blocks : Blocks) (place : ℕ) (op : Unary) (v : Value) (k : control.Use) (answer : Result Value Rule) (g : Progress)
    → answer ≡ of_one blocks op v → g ≡ done_with place answer
    → Continues (λ h. only_way place op) p locals blocks v k g
only_continues p locals blocks place op v k answer g is_answer is_done = record {
  goes = λ function r w x n.
      ap (λ (a : Result Value Rule). on_ok place (λ u. w.go u (now_in locals blocks x)) a) (sym is_answer)
      ∙ done_goes answer place (here_at p function r) w (now_in locals blocks x)
      ∙ ap (λ (d : Progress). progress (here_at p function r) w (now_in locals blocks x) d) (sym is_done);
}

test_goes : (t : Result Bool Rule) (place : ℕ) (h : TurnContext) (w : WayOfUse) (x : Now) → on_ok place (λ b. w.go (int_of b) x) t ≡ progress h w x (done_with place (int_result t))
test_goes (Ok b) place h w x = refl
test_goes (Err rule) place h w x = refl

pub second_test_continues : (p : SharedProgram) (locals : List control.Variable) (blocks : Blocks) (place : ℕ) (v : Value) (k : control.Use) (t : Result Bool Rule) (g : Progress)
    → t ≡ truth_of blocks v → g ≡ done_with place (int_result t)
    → Continues (λ h. second_test_way place) p locals blocks v k g
second_test_continues p locals blocks place v k t g is_truth is_done = record {
  goes = λ function r w x n.
      ap (λ (a : Result Bool Rule). on_ok place (λ b. w.go (int_of b) (now_in locals blocks x)) a) (sym is_truth)
      ∙ test_goes t place (here_at p function r) w (now_in locals blocks x)
      ∙ ap (λ (d : Progress). progress (here_at p function r) w (now_in locals blocks x) d) (sym is_done);
}

pub read_continues : (p : SharedProgram) (locals : List control.Variable) (blocks : Blocks) (place : ℕ) (how : Access) (atomic : Bool) (v : Value) (k : control.Use) (g : Progress)
    → Reads place how atomic v k g
    → Continues (λ h. read_way h place how atomic) p locals blocks v k g
read_continues p locals blocks place how atomic v k g reads = record { goes = λ function r w x n. reads.goes (here_at p function r) w (now_in locals blocks x) n }

-- the left operand of && or ||
pub test_continues_broke : (p : SharedProgram) (locals : List control.Variable) (blocks : Blocks) (place : ℕ) (decides : Bool) (e : tree.Expr) (v : Value) (k : control.Use) (rule : Rule)
    → truth_of blocks v ≡ Err rule
    → Continues (λ h. first_test_way place decides e (run h e)) p locals blocks v k (flows.Ends (pendings.Broke rule place))
test_continues_broke p locals blocks place decides e v k rule is_broken = record {
  goes = λ function r w x n. ap (λ (t : Result Bool Rule). on_ok place (λ b. if is_same b decides then w.go (int_of b) (now_in locals blocks x) else run (here_at p function r) e (second_test_way (tree.place_of e) w) (now_in locals blocks x)) t) is_broken;
}

pub test_continues : (p : SharedProgram) (locals : List control.Variable) (blocks : Blocks) (b : Blocks) (place : ℕ) (decides holds : Bool) (e f : tree.Expr) (v : Value) (k : control.Use) (g : Progress)
    → truth_of blocks v ≡ Ok holds → FlowsTest p locals b decides holds f k g → b ≡ blocks → f ≡ e
    → Continues (λ h. first_test_way place decides e (run h e)) p locals blocks v k g
test_continues p locals blocks b place decides holds e f v k g is_holds flows same_blocks same_expr =
    let rest : FlowsTest p locals blocks decides holds e k g = subst (λ (d : tree.Expr). FlowsTest p locals blocks decides holds d k g) same_expr (subst (λ (c : Blocks). FlowsTest p locals c decides holds f k g) same_blocks flows) in
    record {
      goes = λ function r w x n.
          ap (λ (t : Result Bool Rule). on_ok place (λ b. if is_same b decides then w.go (int_of b) (now_in locals blocks x) else run (here_at p function r) e (second_test_way (tree.place_of e) w) (now_in locals blocks x)) t) is_holds
          ∙ rest.goes function r w x n;
    }

-- the condition of ?:
pub choice_broke : (p : SharedProgram) (locals : List control.Variable) (blocks : Blocks) (place : ℕ) (one other : tree.Expr) (v : Value) (k : control.Use) (rule : Rule)
    → truth_of blocks v ≡ Err rule
    → Continues (λ h. choice_way place one other (run h one) (run h other)) p locals blocks v k (flows.Ends (pendings.Broke rule place))
choice_broke p locals blocks place one other v k rule is_broken = record {
  goes = λ function r w x n. ap (λ (t : Result Bool Rule). on_ok place (λ b. if b then run (here_at p function r) one w (now_in locals blocks x) else run (here_at p function r) other w (now_in locals blocks x)) t) is_broken;
}

pub choice_one : (p : SharedProgram) (locals : List control.Variable) (blocks : Blocks) (b : Blocks) (place : ℕ) (one other f : tree.Expr) (v : Value) (k : control.Use) (holds : Bool) (g : Progress)
    → truth_of blocks v ≡ Ok holds → holds ≡ true → Flows p locals b f k g → b ≡ blocks → f ≡ one
    → Continues (λ h. choice_way place one other (run h one) (run h other)) p locals blocks v k g
choice_one p locals blocks b place one other f v k holds g is_holds is_true flows same_blocks same_expr =
    let rest : Flows p locals blocks one k g = subst (λ (d : tree.Expr). Flows p locals blocks d k g) same_expr (subst (λ (c : Blocks). Flows p locals c f k g) same_blocks flows) in
    record {
      goes = λ function r w x n.
          ap (λ (t : Result Bool Rule). on_ok place (λ b. if b then run (here_at p function r) one w (now_in locals blocks x) else run (here_at p function r) other w (now_in locals blocks x)) t) (is_holds ∙ ap (λ (c : Bool). Ok c) is_true)
          ∙ rest.goes function r w x n;
    }

pub choice_other : (p : SharedProgram) (locals : List control.Variable) (blocks : Blocks) (b : Blocks) (place : ℕ) (one other f : tree.Expr) (v : Value) (k : control.Use) (holds : Bool) (g : Progress)
    → truth_of blocks v ≡ Ok holds → holds ≡ false → Flows p locals b f k g → b ≡ blocks → f ≡ other
    → Continues (λ h. choice_way place one other (run h one) (run h other)) p locals blocks v k g
choice_other p locals blocks b place one other f v k holds g is_holds is_false flows same_blocks same_expr =
    let rest : Flows p locals blocks other k g = subst (λ (d : tree.Expr). Flows p locals blocks d k g) same_expr (subst (λ (c : Blocks). Flows p locals c f k g) same_blocks flows) in
    record {
      goes = λ function r w x n.
          ap (λ (t : Result Bool Rule). on_ok place (λ b. if b then run (here_at p function r) one w (now_in locals blocks x) else run (here_at p function r) other w (now_in locals blocks x)) t) (is_holds ∙ ap (λ (c : Bool). Ok c) is_false)
          ∙ rest.goes function r w x n;
    }

-- ---- a condition of a statement

pub branch_broke : (p : SharedProgram) (function place : ℕ) (v : Value) (run_one run_other : TurnContext → Way → Does) (k : control.Todo) (locals : List control.Variable) (blocks : Blocks) (rule : Rule)
    → truth_of blocks v ≡ Err rule
    → ExitsAs (λ h w x. on_ok place (λ b. if b then run_one h w x else run_other h w x) (truth_of x.world.blocks v)) p function k locals blocks locals blocks (exits.Ends (pendings.Broke rule place))
branch_broke p function place v run_one run_other k locals blocks rule is_broken = record { goes = λ r w x n. ap (λ (t : Result Bool Rule). on_ok place (λ b. if b then run_one (here_at p function r) w (now_in locals blocks x) else run_other (here_at p function r) w (now_in locals blocks x)) t) is_broken }

pub branch_one : (p : SharedProgram) (function place : ℕ) (v : Value) (run_one run_other : TurnContext → Way → Does) (k : control.Todo) (locals : List control.Variable) (blocks : Blocks) (new_locals : List control.Variable) (new_blocks : Blocks) (holds : Bool) (g : Exit)
    → truth_of blocks v ≡ Ok holds → holds ≡ true → ExitsAs run_one p function k locals blocks new_locals new_blocks g
    → ExitsAs (λ h w x. on_ok place (λ b. if b then run_one h w x else run_other h w x) (truth_of x.world.blocks v)) p function k locals blocks new_locals new_blocks g
branch_one p function place v run_one run_other k locals blocks new_locals new_blocks holds g is_holds is_true a = record {
  goes = λ r w x n. ap (λ (t : Result Bool Rule). on_ok place (λ b. if b then run_one (here_at p function r) w (now_in locals blocks x) else run_other (here_at p function r) w (now_in locals blocks x)) t) (is_holds ∙ ap (λ (c : Bool). Ok c) is_true) ∙ a.goes r w x n;
}

pub branch_other : (p : SharedProgram) (function place : ℕ) (v : Value) (run_one run_other : TurnContext → Way → Does) (k : control.Todo) (locals : List control.Variable) (blocks : Blocks) (new_locals : List control.Variable) (new_blocks : Blocks) (holds : Bool) (g : Exit)
    → truth_of blocks v ≡ Ok holds → holds ≡ false → ExitsAs run_other p function k locals blocks new_locals new_blocks g
    → ExitsAs (λ h w x. on_ok place (λ b. if b then run_one h w x else run_other h w x) (truth_of x.world.blocks v)) p function k locals blocks new_locals new_blocks g
branch_other p function place v run_one run_other k locals blocks new_locals new_blocks holds g is_holds is_false a = record {
  goes = λ r w x n. ap (λ (t : Result Bool Rule). on_ok place (λ b. if b then run_one (here_at p function r) w (now_in locals blocks x) else run_other (here_at p function r) w (now_in locals blocks x)) t) (is_holds ∙ ap (λ (c : Bool). Ok c) is_false) ∙ a.goes r w x n;
}

-- a loop is left
pub loop_left : (p : SharedProgram) (function : ℕ) (k : control.Todo) (locals : List control.Variable) (blocks : Blocks) → ExitsAs (λ h w. w.end) p function k locals blocks locals blocks exits.End
loop_left p function k locals blocks = record { goes = λ r w x n. refl }

-- the second statement of an if
pub no_other : (p : SharedProgram) (function : ℕ) (at : ℕ) (o : Option (Rc SharedStmt Global)) (k : control.Todo) (locals : List control.Variable) (blocks : Blocks)
    → o ≡ None
    → ExitsAs (λ h w. run_stmt h (stmt_or_nothing at o) w) p function k locals blocks locals blocks exits.End
no_other p function at o k locals blocks is_none = record { goes = λ r w x n. ap (λ (m : Option (Rc SharedStmt Global)). run_stmt (here_at p function r) (stmt_or_nothing at m) w (now_in locals blocks x)) is_none }

pub one_other : (p : SharedProgram) (function : ℕ) (at : ℕ) (o : Option (Rc SharedStmt Global)) (s : Rc SharedStmt Global) (k : control.Todo) (locals : List control.Variable) (blocks : Blocks) (new_locals : List control.Variable) (new_blocks : Blocks) (g : Exit)
    → o ≡ Some s → ExitsAs (λ h w. run_stmt h (stmt_of s.value) w) p function k locals blocks new_locals new_blocks g
    → ExitsAs (λ h w. run_stmt h (stmt_or_nothing at o) w) p function k locals blocks new_locals new_blocks g
one_other p function at o s k locals blocks new_locals new_blocks g is_some a = record { goes = λ r w x n. ap (λ (m : Option (Rc SharedStmt Global)). run_stmt (here_at p function r) (stmt_or_nothing at m) w (now_in locals blocks x)) is_some ∙ a.goes r w x n }

-- ---- a op= b

pub update_stores : (p : SharedProgram) (blocks : Blocks) (u : control.Update) (at by v s : Value) (site : Site) (k : control.Todo) (q : Pending)
    → updated (program_of p).structs blocks u.ty u.op v by ≡ Ok s → Stores site.place site.atomic at s k q → site ≡ record { place = u.place; atomic = false }
    → StoresUpdated p blocks u at by v k q
update_stores p blocks u at by v s site k q is_s stores same_site =
    let at_place : Stores u.place false at s k q = subst (λ (named : Site). Stores named.place named.atomic at s k q) same_site stores in
    record { goes = λ function r w locals x n. ap (λ (t : Result Value Rule). on_ok u.operator (λ s. (place_way (here_at p function r) u.place false at w).go s (now_in locals blocks x)) t) is_s ∙ at_place.goes (here_at p function r) w (now_in locals blocks x) n }

pub update_broke : (p : SharedProgram) (blocks : Blocks) (u : control.Update) (at by v : Value) (rule : Rule) (operator : ℕ) (k : control.Todo)
    → updated (program_of p).structs blocks u.ty u.op v by ≡ Err rule → operator ≡ u.operator
    → StoresUpdated p blocks u at by v k (pendings.Broke rule operator)
update_broke p blocks u at by v rule operator k is_broken same_place =
    record { goes = λ function r w locals x n. ap (λ (t : Result Value Rule). on_ok u.operator (λ s. (place_way (here_at p function r) u.place false at w).go s (now_in locals blocks x)) t) is_broken ∙ ap (λ (n : ℕ). ends (here_at p function r) (pendings.Broke rule n) (now_in locals blocks x)) (sym same_place) }

-- ---- calls

-- the arguments that are left, behind one more
pub next_call : (p : SharedProgram) (locals : List control.Variable) (blocks : Blocks) (b : Blocks) (place : ℕ) (callee : control.Callee) (found all : tree.Exprs) (given before : List Value) (k : control.Wait) (q : Pending)
    → FlowsCall p locals b place callee found given k q → b ≡ blocks → found ≡ all → given ≡ before
    → FlowsCall p locals blocks place callee all before k q
next_call p locals blocks b place callee found all given before k q call same_blocks same_all same_values =
    subst (λ (vs : List Value). FlowsCall p locals blocks place callee all vs k q) same_values (subst (λ (d : tree.Exprs). FlowsCall p locals blocks place callee d given k q) same_all (subst (λ (c : Blocks). FlowsCall p locals c place callee found given k q) same_blocks call))

-- ---- a value is used

pub gives_at : (p : SharedProgram) (function : ℕ) (found k : control.Use) (v : Value) (locals : List control.Variable) (blocks : Blocks) (new_locals : List control.Variable) (new_blocks : Blocks) (q : Pending)
    → found ≡ k → GivesTo p function found v locals blocks new_locals new_blocks q
    → GivesTo p function k v locals blocks new_locals new_blocks q
gives_at p function found k v locals blocks new_locals new_blocks q same g = subst (λ (m : control.Use). GivesTo p function m v locals blocks new_locals new_blocks q) same g

pub give_flow : (used : TurnContext → WayOfUse → WayOfUse) (p : SharedProgram) (function : ℕ) (k form rest : control.Use) (v : Value) (g : Progress) (locals : List control.Variable) (blocks : Blocks) (new_locals : List control.Variable) (new_blocks : Blocks) (q : Pending)
    → k ≡ form → ((h : TurnContext) → use_of h form ≡ used h (use_of h rest))
    → Continues used p locals blocks v rest g
    → FlowsOn p function rest g locals blocks new_locals new_blocks q
    → GivesTo p function k v locals blocks new_locals new_blocks q
give_flow used p function k form rest v g locals blocks new_locals new_blocks q is_form is_used c f = record {
  goes = λ r x.
      ap (λ (m : control.Use). (use_of (here_at p function r) m).go v (now_in locals blocks x)) is_form
      ∙ ap (λ (w : WayOfUse). w.go v (now_in locals blocks x)) (is_used (here_at p function r))
      ∙ c.goes function r (use_of (here_at p function r) rest) x (name_use (here_at p function r) rest)
      ∙ f.goes r x;
}

pub give_exit : (used : TurnContext → Way → WayOfUse) (p : SharedProgram) (function : ℕ) (k form : control.Use) (rest : control.Todo) (v : Value) (e : Exit) (locals : List control.Variable) (blocks : Blocks) (mid_locals : List control.Variable) (mid_blocks : Blocks) (new_locals : List control.Variable) (new_blocks : Blocks) (q : Pending)
    → k ≡ form → ((h : TurnContext) → use_of h form ≡ used h (way_of h rest))
    → ExitsAs (λ h w. (used h w).go v) p function rest locals blocks mid_locals mid_blocks e
    → Finishes p function rest e mid_locals mid_blocks new_locals new_blocks q
    → GivesTo p function k v locals blocks new_locals new_blocks q
give_exit used p function k form rest v e locals blocks mid_locals mid_blocks new_locals new_blocks q is_form is_used a f = record {
  goes = λ r x.
      ap (λ (m : control.Use). (use_of (here_at p function r) m).go v (now_in locals blocks x)) is_form
      ∙ ap (λ (w : WayOfUse). w.go v (now_in locals blocks x)) (is_used (here_at p function r))
      ∙ a.goes r (way_of (here_at p function r) rest) x (name_todo (here_at p function r) rest)
      ∙ f.goes r x;
}

pub give_call : (p : SharedProgram) (function : ℕ) (place : ℕ) (callee : control.Callee) (before : List Value) (rest : tree.Exprs) (found wait : control.Wait) (k : control.Use) (v : Value) (locals : List control.Variable) (blocks : Blocks) (q : Pending)
    → k ≡ control.argument place callee before rest wait → found ≡ wait
    → FlowsCall p locals blocks place callee rest (before ++ v ∷ []) found q
    → GivesTo p function k v locals blocks locals blocks q
give_call p function place callee before rest found wait k v locals blocks q is_form same c =
    let call : FlowsCall p locals blocks place callee rest (before ++ v ∷ []) wait q = subst (λ (m : control.Wait). FlowsCall p locals blocks place callee rest (before ++ v ∷ []) m q) same c in
    record { goes = λ r x. ap (λ (m : control.Use). (use_of (here_at p function r) m).go v (now_in locals blocks x)) is_form ∙ call.goes function r x }

pub give_caller : (p : SharedProgram) (function : ℕ) (k : control.Use) (v : Value) (locals : List control.Variable) (blocks : Blocks)
    → k ≡ control.to_caller
    → GivesTo p function k v locals blocks locals blocks (pendings.Leave (Some v))
give_caller p function k v locals blocks is_form = record { goes = λ r x. ap (λ (m : control.Use). (use_of (here_at p function r) m).go v (now_in locals blocks x)) is_form }

pub give_stores : (p : SharedProgram) (function : ℕ) (place : ℕ) (atomic : Bool) (to : Value) (k : control.Use) (rest : control.Todo) (v : Value) (locals : List control.Variable) (blocks : Blocks) (q : Pending)
    → k ≡ control.to_place place atomic to rest → Stores place atomic to v rest q
    → GivesTo p function k v locals blocks locals blocks q
give_stores p function place atomic to k rest v locals blocks q is_form s = record { goes = λ r x. ap (λ (m : control.Use). (use_of (here_at p function r) m).go v (now_in locals blocks x)) is_form ∙ s.goes (here_at p function r) (way_of (here_at p function r) rest) (now_in locals blocks x) (name_todo (here_at p function r) rest) }

pub give_copies : (p : SharedProgram) (function : ℕ) (place : ℕ) (found ty : tree.Ty) (to : Value) (k : control.Use) (rest : control.Todo) (v : Value) (locals : List control.Variable) (blocks : Blocks) (q : Pending)
    → k ≡ control.struct_right place ty to rest → found ≡ ty → Copies p place found to v rest q
    → GivesTo p function k v locals blocks locals blocks q
give_copies p function place found ty to k rest v locals blocks q is_form same s =
    let copies : Copies p place ty to v rest q = subst (λ (t : tree.Ty). Copies p place t to v rest q) same s in
    record { goes = λ r x. ap (λ (m : control.Use). (use_of (here_at p function r) m).go v (now_in locals blocks x)) is_form ∙ copies.goes function r (way_of (here_at p function r) rest) (now_in locals blocks x) (name_todo (here_at p function r) rest) }

pub give_reads : (p : SharedProgram) (function : ℕ) (u : control.Update) (at : Value) (k : control.Use) (rest : control.Todo) (v : Value) (locals : List control.Variable) (blocks : Blocks) (q : Pending)
    → k ≡ control.update_right u at rest → Updates u at v rest q
    → GivesTo p function k v locals blocks locals blocks q
give_reads p function u at k rest v locals blocks q is_form s = record { goes = λ r x. ap (λ (m : control.Use). (use_of (here_at p function r) m).go v (now_in locals blocks x)) is_form ∙ s.goes (here_at p function r) (way_of (here_at p function r) rest) (now_in locals blocks x) (name_todo (here_at p function r) rest) }

pub give_updates : (p : SharedProgram) (function : ℕ) (found u : control.Update) (at by : Value) (k : control.Use) (rest : control.Todo) (v : Value) (locals : List control.Variable) (blocks : Blocks) (q : Pending)
    → k ≡ control.update_read u at by rest → found ≡ u → StoresUpdated p blocks found at by v rest q
    → GivesTo p function k v locals blocks locals blocks q
give_updates p function found u at by k rest v locals blocks q is_form same s =
    let stores : StoresUpdated p blocks u at by v rest q = subst (λ (m : control.Update). StoresUpdated p blocks m at by v rest q) same s in
    record { goes = λ r x. ap (λ (m : control.Use). (use_of (here_at p function r) m).go v (now_in locals blocks x)) is_form ∙ stores.goes function r (way_of (here_at p function r) rest) locals x (name_todo (here_at p function r) rest) }

pub give_nowhere : (p : SharedProgram) (function : ℕ) (k : control.Use) (rest : control.Todo) (v : Value) (locals : List control.Variable) (blocks : Blocks) (new_locals : List control.Variable) (new_blocks : Blocks) (q : Pending)
    → k ≡ control.to_nowhere rest → Finishes p function rest exits.End locals blocks new_locals new_blocks q
    → GivesTo p function k v locals blocks new_locals new_blocks q
give_nowhere p function k rest v locals blocks new_locals new_blocks q is_form f = record { goes = λ r x. ap (λ (m : control.Use). (use_of (here_at p function r) m).go v (now_in locals blocks x)) is_form ∙ f.goes r x }

pub give_local : (p : SharedProgram) (function : ℕ) (number : ℕ) (k : control.Use) (rest : control.Todo) (v : Value) (locals : List control.Variable) (blocks : Blocks) (mid_locals : List control.Variable) (new_locals : List control.Variable) (new_blocks : Blocks) (q : Pending)
    → k ≡ control.to_local number rest → mid_locals ≡ set locals number (control.holds v)
    → Finishes p function rest exits.End mid_locals blocks new_locals new_blocks q
    → GivesTo p function k v locals blocks new_locals new_blocks q
give_local p function number k rest v locals blocks mid_locals new_locals new_blocks q is_form is_set f = record {
  goes = λ r x. ap (λ (m : control.Use). (use_of (here_at p function r) m).go v (now_in locals blocks x)) is_form ∙ ap (λ (l : List control.Variable). (way_of (here_at p function r) rest).end (now_in l blocks x)) (sym is_set) ∙ f.goes r x;
}
