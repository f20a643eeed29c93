-- How statements go on behind a part of them.
use Rattle.std.proofs.Common.{◌≡◌, ◌∙◌, ◌+◌, ◌<◌, ◌≤◌, ℕ, zero, suc, Bool, true, false, List, [], ◌∷◌, drop, Option, Some, None, Result, Ok, Err, length, get_or, refl, ap, sym, subst}
use Rattle.std.proofs.lemmas.List.{at_drop_more, at_drop_all}
use Rattle.std.specs.Prelude.{if◌then◌else◌}
use Rattle.std.specs.Global.{Global}
use Rattle.std.specs.declared.rc.Rc.{Rc}
use Rattle.ak_words.specs.declared.rule.Rule.{Rule}
use Rattle.block_store.specs.declared.values.Value.{Value}
use Rattle.block_store.specs.Actions.{World}
use Rattle.block_store.specs.Blocks.{Blocks}
use Rattle.c_tree.specs.Typed as tree
use Rattle.c_meaning.specs.Control as control
use Rattle.c_meaning.specs.Switches.{chosen, starts_at}
use Rattle.c_meaning.specs.Values.{truth_of}
use Rattle.c_meaning.specs.Turns.{TurnContext, Way, WayOfUse, Now, Does, on_ok, run, run_stmt, run_row, run_from, row_way, if_way, loop_test_way, loop_way, body_way, step_way, round_over, rounds, rounds_if, while_loop, for_loop, do_loop, switch_way, switch_test_way, starts, end_way, ended_locals, declared_by, declared_local, declares, initialises, nothing, caller_way}
use Rattle.source_tree.specs.declared.tree.SharedExpr.{SharedExpr}
use Rattle.source_tree.specs.declared.tree.SharedStmt.{SharedStmt}
use Rattle.source_tree.specs.declared.tree.SharedRow.{SharedRow}
use Rattle.source_tree.specs.declared.tree.SharedProgram.{SharedProgram}
use Rattle.source_tree.specs.SharedViews.{expr_of, optional_expr_of, stmt_of, these, row_of, row_from}
use Rattle.source_state.specs.Views.{stmt_or_nothing}
use Rattle.source_state.specs.declared.control.Progress.{Progress}
use Rattle.source_state.specs.declared.control.Progress.TheVariants as flows
use Rattle.source_state.specs.declared.control.Pending.{Pending}
use Rattle.source_state.specs.declared.control.Pending.TheVariants as pendings
use Rattle.source_expressions.specs.Ends.{Rest, here_at, ends}
use Rattle.source_expressions.specs.Progress.{Flows, now_in}
use Rattle.source_assignments.specs.declared.exit.Exit.{Exit}
use Rattle.source_assignments.specs.declared.exit.Exit.TheVariants as exits
use Rattle.source_assignments.specs.Locals.{Comes}
use Rattle.source_statements.specs.declared.statements.Tested.{Tested}
use Rattle.source_statements.specs.declared.statements.Tested.TheVariants as tests
use Rattle.source_statements.specs.inner.Conditions.{Tests, test_way, tested}
use Rattle.source_statements.specs.inner.Behind.{Passes, EndsRound, RowGoes}
use Rattle.source_assignments.proofs.Tails.{gives_exit}
use Rattle.source_assignments.specs.Exits.{ExitsAs, exit}

-- the same piece in other words
pub as_like : (piece like : TurnContext → Way → Does) (p : SharedProgram) (function : ℕ) (k : control.Todo) (locals : List control.Variable) (blocks : Blocks) (new_locals : List control.Variable) (new_blocks : Blocks) (g : Exit)
    → ((h : TurnContext) (w : Way) (x : Now) → piece h w x ≡ like h w x)
    → ExitsAs like p function k locals blocks new_locals new_blocks g
    → ExitsAs piece p function k locals blocks new_locals new_blocks g
as_like piece like p function k locals blocks new_locals new_blocks g same a = record { goes = λ r w x n. same (here_at p function r) w (now_in locals blocks x) ∙ a.goes r w x n }

-- a statement, by its form
pub stmt_like : (like : TurnContext → Way → Does) (p : SharedProgram) (function : ℕ) (s t : tree.Stmt) (k : control.Todo) (locals : List control.Variable) (blocks : Blocks) (new_locals : List control.Variable) (new_blocks : Blocks) (g : Exit)
    → s ≡ t → ((h : TurnContext) (w : Way) (x : Now) → run_stmt h t w x ≡ like h w x)
    → ExitsAs like p function k locals blocks new_locals new_blocks g
    → ExitsAs (λ h w. run_stmt h s w) p function k locals blocks new_locals new_blocks g
stmt_like like p function s t k locals blocks new_locals new_blocks g same is_like a = record {
  goes = λ r w x n. ap (λ (u : tree.Stmt). run_stmt (here_at p function r) u w (now_in locals blocks x)) same ∙ is_like (here_at p function r) w (now_in locals blocks x) ∙ a.goes r w x n;
}

-- a declaration, without an initialiser and with one
pub declare_none : (p : SharedProgram) (function : ℕ) (place number : ℕ) (init : Option (Rc SharedExpr Global)) (k : control.Todo) (locals : List control.Variable) (blocks : Blocks) (new_locals : List control.Variable) (new_blocks : Blocks)
    → init ≡ None → ((r : Rest) → Comes (declared_local (here_at p function r) number) locals blocks new_locals new_blocks)
    → ExitsAs (λ h w. declares h place number (optional_expr_of init) w) p function k locals blocks new_locals new_blocks exits.End
declare_none p function place number init k locals blocks new_locals new_blocks is_none made = record {
  goes = λ r w x n. ap (λ (o : Option (Rc SharedExpr Global)). declares (here_at p function r) place number (optional_expr_of o) w (now_in locals blocks x)) is_none ∙ ap w.end ((made r).goes x);
}

pub declare_some : (p : SharedProgram) (function : ℕ) (place number : ℕ) (init : Option (Rc SharedExpr Global)) (e : Rc SharedExpr Global) (k : control.Todo) (locals : List control.Variable) (blocks : Blocks) (new_locals : List control.Variable) (new_blocks : Blocks) (g : Exit)
    → init ≡ Some e → ExitsAs (λ h w. initialises h place number (expr_of e.value) w) p function k locals blocks new_locals new_blocks g
    → ExitsAs (λ h w. declares h place number (optional_expr_of init) w) p function k locals blocks new_locals new_blocks g
declare_some p function place number init e k locals blocks new_locals new_blocks g is_some a = record {
  goes = λ r w x n. ap (λ (o : Option (Rc SharedExpr Global)). declares (here_at p function r) place number (optional_expr_of o) w (now_in locals blocks x)) is_some ∙ a.goes r w x n;
}

-- a return of a value
pub returned_exit : (p : SharedProgram) (function : ℕ) (locals : List control.Variable) (blocks : Blocks) (b : Blocks) (e f : tree.Expr) (after : control.Use) (g : Progress) (v : Value) (k : control.Todo)
    → Flows p locals b f after g → b ≡ blocks → f ≡ e → g ≡ flows.Gives v → after ≡ control.to_caller
    → ExitsAs (λ h w. run h e (caller_way h)) p function k locals blocks locals blocks (exits.Ends (pendings.Leave (Some v)))
returned_exit p function locals blocks b e f after g v k flow same_blocks same_expr is_v named =
    gives_exit p function locals blocks b e f after g v (λ h w. caller_way h) k locals blocks (exits.Ends (pendings.Leave (Some v))) flow same_blocks same_expr is_v (λ h w n. sym named) (λ r w x n. refl)

-- a piece was left like this, and what is left to do behind it comes to an exit
pub chain_passes : (piece : TurnContext → Way → Does) (more : TurnContext → Way → Way) (p : SharedProgram) (function : ℕ) (inside k : control.Todo) (locals : List control.Variable) (blocks : Blocks) (mid_locals : List control.Variable) (mid_blocks : Blocks) (new_locals : List control.Variable) (new_blocks : Blocks) (e g : Exit)
    → ((h : TurnContext) (w : Way) → w.k ≡ k → (more h w).k ≡ inside)
    → ExitsAs piece p function inside locals blocks mid_locals mid_blocks e
    → Passes more p function k e mid_locals mid_blocks new_locals new_blocks g
    → ExitsAs (λ h w. piece h (more h w)) p function k locals blocks new_locals new_blocks g
chain_passes piece more p function inside k locals blocks mid_locals mid_blocks new_locals new_blocks e g named a s =
    record { goes = λ r w x n. a.goes r (more (here_at p function r) w) x (named (here_at p function r) w n) ∙ s.goes r w x n }

-- what was left like this, and is left like that behind more
pub passes_at : (more : TurnContext → Way → Way) (p : SharedProgram) (function : ℕ) (k : control.Todo) (d e : Exit) (locals : List control.Variable) (blocks : Blocks) (new_locals : List control.Variable) (new_blocks : Blocks) (g : Exit)
    → d ≡ e
    → ((r : Rest) (w : Way) (x : World) → w.k ≡ k → exit (here_at p function r) (more (here_at p function r) w) (now_in locals blocks x) e ≡ exit (here_at p function r) w (now_in new_locals new_blocks x) g)
    → Passes more p function k d locals blocks new_locals new_blocks g
passes_at more p function k d e locals blocks new_locals new_blocks g same rest =
    let at_e : Passes more p function k e locals blocks new_locals new_blocks g = record { goes = rest } in
    subst (λ (f : Exit). Passes more p function k f locals blocks new_locals new_blocks g) (sym same) at_e

-- ---- ends of locals

-- these locals end, and the statement that declares them is left as its inside was
pub closed_end : (numbers found : List ℕ) (p : SharedProgram) (function : ℕ) (k : control.Todo) (locals : List control.Variable) (blocks : Blocks) (new_locals : List control.Variable) (new_blocks : Blocks)
    → Comes (ended_locals found) locals blocks new_locals new_blocks → found ≡ numbers
    → Passes (λ h. end_way numbers) p function k exits.End locals blocks new_locals new_blocks exits.End
closed_end numbers found p function k locals blocks new_locals new_blocks c same = record {
  goes = λ r w x n. ap w.end (ap (λ (d : List ℕ). ended_locals d (now_in locals blocks x)) (sym same) ∙ c.goes x);
}

pub closed_break : (numbers found : List ℕ) (p : SharedProgram) (function : ℕ) (k : control.Todo) (locals : List control.Variable) (blocks : Blocks) (new_locals : List control.Variable) (new_blocks : Blocks)
    → Comes (ended_locals found) locals blocks new_locals new_blocks → found ≡ numbers
    → Passes (λ h. end_way numbers) p function k exits.Break locals blocks new_locals new_blocks exits.Break
closed_break numbers found p function k locals blocks new_locals new_blocks c same = record {
  goes = λ r w x n. ap w.breaks (ap (λ (d : List ℕ). ended_locals d (now_in locals blocks x)) (sym same) ∙ c.goes x);
}

pub closed_next : (numbers found : List ℕ) (p : SharedProgram) (function : ℕ) (k : control.Todo) (locals : List control.Variable) (blocks : Blocks) (new_locals : List control.Variable) (new_blocks : Blocks)
    → Comes (ended_locals found) locals blocks new_locals new_blocks → found ≡ numbers
    → Passes (λ h. end_way numbers) p function k exits.Next locals blocks new_locals new_blocks exits.Next
closed_next numbers found p function k locals blocks new_locals new_blocks c same = record {
  goes = λ r w x n. ap w.continues (ap (λ (d : List ℕ). ended_locals d (now_in locals blocks x)) (sym same) ∙ c.goes x);
}

-- ---- conditions

-- a condition that ended the turn
pub test_ended : (p : SharedProgram) (locals : List control.Variable) (blocks : Blocks) (b : Blocks) (e f : tree.Expr) (after : control.Use) (g : Progress) (q : Pending)
    → Flows p locals b f after g → b ≡ blocks → f ≡ e → g ≡ flows.Ends q
    → Tests p locals blocks e after (tests.Ends q)
test_ended p locals blocks b e f after g q flow same_blocks same_expr is_q =
    let at_e : Flows p locals blocks e after (flows.Ends q) = subst (λ (d : tree.Expr). Flows p locals blocks d after (flows.Ends q)) same_expr (subst (λ (c : Blocks). Flows p locals c f after (flows.Ends q)) same_blocks (subst (λ (d : Progress). Flows p locals b f after d) is_q flow)) in
    record { goes = λ function r go x. at_e.goes function r (test_way (tree.place_of e) after go) x refl }

-- one that has its value
test_given : (p : SharedProgram) (locals : List control.Variable) (blocks : Blocks) (b : Blocks) (e f : tree.Expr) (after : control.Use) (g : Progress) (v : Value) (t : Tested)
    → Flows p locals b f after g → b ≡ blocks → f ≡ e → g ≡ flows.Gives v
    → ((h : TurnContext) (go : Bool → Does) (x : World) → on_ok (tree.place_of e) (λ y. go y (now_in locals blocks x)) (truth_of blocks v) ≡ tested h go (now_in locals blocks x) t)
    → Tests p locals blocks e after t
test_given p locals blocks b e f after g v t flow same_blocks same_expr is_v rest =
    let at_e : Flows p locals blocks e after (flows.Gives v) = subst (λ (d : tree.Expr). Flows p locals blocks d after (flows.Gives v)) same_expr (subst (λ (c : Blocks). Flows p locals c f after (flows.Gives v)) same_blocks (subst (λ (d : Progress). Flows p locals b f after d) is_v flow)) in
    record { goes = λ function r go x. at_e.goes function r (test_way (tree.place_of e) after go) x refl ∙ rest (here_at p function r) go x }

pub test_holds : (p : SharedProgram) (locals : List control.Variable) (blocks : Blocks) (b : Blocks) (e f : tree.Expr) (after : control.Use) (g : Progress) (v : Value) (holds : Bool)
    → Flows p locals b f after g → b ≡ blocks → f ≡ e → g ≡ flows.Gives v → truth_of blocks v ≡ Ok holds
    → Tests p locals blocks e after (tests.Holds holds)
test_holds p locals blocks b e f after g v holds flow same_blocks same_expr is_v is_holds =
    test_given p locals blocks b e f after g v (tests.Holds holds) flow same_blocks same_expr is_v
    (λ h go x. ap (λ (u : Result Bool Rule). on_ok (tree.place_of e) (λ y. go y (now_in locals blocks x)) u) is_holds)

pub test_broke : (p : SharedProgram) (locals : List control.Variable) (blocks : Blocks) (b : Blocks) (e f : tree.Expr) (after : control.Use) (g : Progress) (v : Value) (rule : Rule) (place : ℕ)
    → Flows p locals b f after g → b ≡ blocks → f ≡ e → g ≡ flows.Gives v → truth_of blocks v ≡ Err rule → place ≡ tree.place_of e
    → Tests p locals blocks e after (tests.Ends (pendings.Broke rule place))
test_broke p locals blocks b e f after g v rule place flow same_blocks same_expr is_v is_broken same_place =
    test_given p locals blocks b e f after g v (tests.Ends (pendings.Broke rule place)) flow same_blocks same_expr is_v
    (λ h go x. ap (λ (u : Result Bool Rule). on_ok (tree.place_of e) (λ y. go y (now_in locals blocks x)) u) is_broken ∙ ap (λ (n : ℕ). ends h (pendings.Broke rule n) (now_in locals blocks x)) (sym same_place))

-- an if whose condition was evaluated
pub tested_if : (p : SharedProgram) (function : ℕ) (e : tree.Expr) (one other : tree.Stmt) (run_one run_other : TurnContext → Way → Does) (after : control.Use) (k : control.Todo) (locals : List control.Variable) (blocks : Blocks) (new_locals : List control.Variable) (new_blocks : Blocks) (s t : Tested) (g : Exit)
    → Tests p locals blocks e after s → s ≡ t → after ≡ control.if_test (tree.place_of e) one other k
    → ((r : Rest) (w : Way) (x : World) → w.k ≡ k → tested (here_at p function r) (λ b y. if b then run_one (here_at p function r) w y else run_other (here_at p function r) w y) (now_in locals blocks x) t ≡ exit (here_at p function r) w (now_in new_locals new_blocks x) g)
    → ExitsAs (λ h w. run h e (if_way (tree.place_of e) one other (run_one h) (run_other h) w)) p function k locals blocks new_locals new_blocks g
tested_if p function e one other run_one run_other after k locals blocks new_locals new_blocks s t g test is_t named rest =
    let at_t : Tests p locals blocks e after t = subst (λ (u : Tested). Tests p locals blocks e after u) is_t test in
    record {
      goes = λ r w x n.
          ap (λ (u : control.Use). run (here_at p function r) e (test_way (tree.place_of e) u (λ b y. if b then run_one (here_at p function r) w y else run_other (here_at p function r) w y)) (now_in locals blocks x)) (ap (control.if_test (tree.place_of e) one other) n ∙ sym named)
          ∙ at_t.goes function r (λ b y. if b then run_one (here_at p function r) w y else run_other (here_at p function r) w y) x
          ∙ rest r w x n;
    }

-- a loop whose condition was evaluated
pub tested_loop : (p : SharedProgram) (function : ℕ) (e : tree.Expr) (l : control.Loop) (run_body run_step : TurnContext → Way → Does) (after : control.Use) (k : control.Todo) (locals : List control.Variable) (blocks : Blocks) (new_locals : List control.Variable) (new_blocks : Blocks) (s t : Tested) (g : Exit)
    → Tests p locals blocks e after s → s ≡ t → after ≡ control.loop_test (tree.place_of e) l k
    → ((r : Rest) (w : Way) (x : World) → w.k ≡ k → tested (here_at p function r) (λ b y. if b then run_body (here_at p function r) (body_way (here_at p function r) l (run_step (here_at p function r)) w) y else w.end y) (now_in locals blocks x) t ≡ exit (here_at p function r) w (now_in new_locals new_blocks x) g)
    → ExitsAs (λ h w. run h e (loop_test_way h (tree.place_of e) l (run_body h) (run_step h) w)) p function k locals blocks new_locals new_blocks g
tested_loop p function e l run_body run_step after k locals blocks new_locals new_blocks s t g test is_t named rest =
    let at_t : Tests p locals blocks e after t = subst (λ (u : Tested). Tests p locals blocks e after u) is_t test in
    record {
      goes = λ r w x n.
          ap (λ (u : control.Use). run (here_at p function r) e (test_way (tree.place_of e) u (λ b y. if b then run_body (here_at p function r) (body_way (here_at p function r) l (run_step (here_at p function r)) w) y else w.end y)) (now_in locals blocks x)) (ap (control.loop_test (tree.place_of e) l) n ∙ sym named)
          ∙ at_t.goes function r (λ b y. if b then run_body (here_at p function r) (body_way (here_at p function r) l (run_step (here_at p function r)) w) y else w.end y) x
          ∙ rest r w x n;
    }

-- by whether it holds, or ended the turn
pub if_held : (p : SharedProgram) (function : ℕ) (e : tree.Expr) (one other : tree.Stmt) (run_one run_other : TurnContext → Way → Does) (after : control.Use) (k : control.Todo) (locals : List control.Variable) (blocks : Blocks) (new_locals : List control.Variable) (new_blocks : Blocks) (s : Tested) (b : Bool) (g : Exit)
    → Tests p locals blocks e after s → s ≡ tests.Holds b → b ≡ true → after ≡ control.if_test (tree.place_of e) one other k
    → ExitsAs run_one p function k locals blocks new_locals new_blocks g
    → ExitsAs (λ h w. run h e (if_way (tree.place_of e) one other (run_one h) (run_other h) w)) p function k locals blocks new_locals new_blocks g
if_held p function e one other run_one run_other after k locals blocks new_locals new_blocks s b g test is_b is_true named a =
    tested_if p function e one other run_one run_other after k locals blocks new_locals new_blocks s (tests.Holds true) g test (is_b ∙ ap tests.Holds is_true) named (λ r w x n. a.goes r w x n)

pub if_not : (p : SharedProgram) (function : ℕ) (e : tree.Expr) (one other : tree.Stmt) (run_one run_other : TurnContext → Way → Does) (after : control.Use) (k : control.Todo) (locals : List control.Variable) (blocks : Blocks) (new_locals : List control.Variable) (new_blocks : Blocks) (s : Tested) (b : Bool) (g : Exit)
    → Tests p locals blocks e after s → s ≡ tests.Holds b → b ≡ false → after ≡ control.if_test (tree.place_of e) one other k
    → ExitsAs run_other p function k locals blocks new_locals new_blocks g
    → ExitsAs (λ h w. run h e (if_way (tree.place_of e) one other (run_one h) (run_other h) w)) p function k locals blocks new_locals new_blocks g
if_not p function e one other run_one run_other after k locals blocks new_locals new_blocks s b g test is_b is_false named a =
    tested_if p function e one other run_one run_other after k locals blocks new_locals new_blocks s (tests.Holds false) g test (is_b ∙ ap tests.Holds is_false) named (λ r w x n. a.goes r w x n)

pub if_ended : (p : SharedProgram) (function : ℕ) (e : tree.Expr) (one other : tree.Stmt) (run_one run_other : TurnContext → Way → Does) (after : control.Use) (k : control.Todo) (locals : List control.Variable) (blocks : Blocks) (s : Tested) (q : Pending)
    → Tests p locals blocks e after s → s ≡ tests.Ends q → after ≡ control.if_test (tree.place_of e) one other k
    → ExitsAs (λ h w. run h e (if_way (tree.place_of e) one other (run_one h) (run_other h) w)) p function k locals blocks locals blocks (exits.Ends q)
if_ended p function e one other run_one run_other after k locals blocks s q test is_q named =
    tested_if p function e one other run_one run_other after k locals blocks locals blocks s (tests.Ends q) (exits.Ends q) test is_q named (λ r w x n. refl)

-- nothing is executed
pub nothing_exit : (p : SharedProgram) (function : ℕ) (place : ℕ) (k : control.Todo) (locals : List control.Variable) (blocks : Blocks) → ExitsAs (λ h w. run_stmt h (nothing place) w) p function k locals blocks locals blocks exits.End
nothing_exit p function place k locals blocks = record { goes = λ r w x n. refl }

-- ---- loops

pub loop_held : (p : SharedProgram) (function : ℕ) (e : tree.Expr) (l : control.Loop) (run_body run_step : TurnContext → Way → Does) (after : control.Use) (k : control.Todo) (locals : List control.Variable) (blocks : Blocks) (new_locals : List control.Variable) (new_blocks : Blocks) (s : Tested) (b : Bool) (g : Exit)
    → Tests p locals blocks e after s → s ≡ tests.Holds b → b ≡ true → after ≡ control.loop_test (tree.place_of e) l k
    → ExitsAs (λ h w. run_body h (body_way h l (run_step h) w)) p function k locals blocks new_locals new_blocks g
    → ExitsAs (λ h w. run h e (loop_test_way h (tree.place_of e) l (run_body h) (run_step h) w)) p function k locals blocks new_locals new_blocks g
loop_held p function e l run_body run_step after k locals blocks new_locals new_blocks s b g test is_b is_true named a =
    tested_loop p function e l run_body run_step after k locals blocks new_locals new_blocks s (tests.Holds true) g test (is_b ∙ ap tests.Holds is_true) named (λ r w x n. a.goes r w x n)

pub loop_not : (p : SharedProgram) (function : ℕ) (e : tree.Expr) (l : control.Loop) (run_body run_step : TurnContext → Way → Does) (after : control.Use) (k : control.Todo) (locals : List control.Variable) (blocks : Blocks) (s : Tested) (b : Bool)
    → Tests p locals blocks e after s → s ≡ tests.Holds b → b ≡ false → after ≡ control.loop_test (tree.place_of e) l k
    → ExitsAs (λ h w. run h e (loop_test_way h (tree.place_of e) l (run_body h) (run_step h) w)) p function k locals blocks locals blocks exits.End
loop_not p function e l run_body run_step after k locals blocks s b test is_b is_false named =
    tested_loop p function e l run_body run_step after k locals blocks locals blocks s (tests.Holds false) exits.End test (is_b ∙ ap tests.Holds is_false) named (λ r w x n. refl)

pub loop_ended : (p : SharedProgram) (function : ℕ) (e : tree.Expr) (l : control.Loop) (run_body run_step : TurnContext → Way → Does) (after : control.Use) (k : control.Todo) (locals : List control.Variable) (blocks : Blocks) (s : Tested) (q : Pending)
    → Tests p locals blocks e after s → s ≡ tests.Ends q → after ≡ control.loop_test (tree.place_of e) l k
    → ExitsAs (λ h w. run h e (loop_test_way h (tree.place_of e) l (run_body h) (run_step h) w)) p function k locals blocks locals blocks (exits.Ends q)
loop_ended p function e l run_body run_step after k locals blocks s q test is_q named =
    tested_loop p function e l run_body run_step after k locals blocks locals blocks s (tests.Ends q) (exits.Ends q) test is_q named (λ r w x n. refl)

-- a round of a loop without a condition, and of one with it
pub rounds_none : (p : SharedProgram) (function : ℕ) (l : control.Loop) (run_body run_step : TurnContext → Way → Does) (k : control.Todo) (locals : List control.Variable) (blocks : Blocks) (new_locals : List control.Variable) (new_blocks : Blocks) (g : Exit)
    → l.condition ≡ None
    → ExitsAs (λ h w. run_body h (body_way h l (run_step h) w)) p function k locals blocks new_locals new_blocks g
    → ExitsAs (λ h w. rounds h l (run_body h) (run_step h) w) p function k locals blocks new_locals new_blocks g
rounds_none p function l run_body run_step k locals blocks new_locals new_blocks g is_none a = record {
  goes = λ r w x n. ap (λ (c : Option tree.Expr). rounds_if (here_at p function r) l (run_body (here_at p function r)) (run_step (here_at p function r)) w c (now_in locals blocks x)) is_none ∙ a.goes r w x n;
}

pub rounds_some : (p : SharedProgram) (function : ℕ) (l : control.Loop) (e : tree.Expr) (run_body run_step : TurnContext → Way → Does) (k : control.Todo) (locals : List control.Variable) (blocks : Blocks) (new_locals : List control.Variable) (new_blocks : Blocks) (g : Exit)
    → l.condition ≡ Some e
    → ExitsAs (λ h w. run h e (loop_test_way h (tree.place_of e) l (run_body h) (run_step h) w)) p function k locals blocks new_locals new_blocks g
    → ExitsAs (λ h w. rounds h l (run_body h) (run_step h) w) p function k locals blocks new_locals new_blocks g
rounds_some p function l e run_body run_step k locals blocks new_locals new_blocks g is_some a = record {
  goes = λ r w x n. ap (λ (c : Option tree.Expr). rounds_if (here_at p function r) l (run_body (here_at p function r)) (run_step (here_at p function r)) w c (now_in locals blocks x)) is_some ∙ a.goes r w x n;
}

-- a while, by its loop
pub while_exit : (p : SharedProgram) (function : ℕ) (place at : ℕ) (e : tree.Expr) (body : tree.Stmt) (l : control.Loop) (k : control.Todo) (locals : List control.Variable) (blocks : Blocks) (new_locals : List control.Variable) (new_blocks : Blocks) (g : Exit)
    → l ≡ while_loop place e body
    → ExitsAs (λ h w. rounds h l (run_stmt h body) (run_stmt h (nothing at)) w) p function k locals blocks new_locals new_blocks g
    → ExitsAs (λ h w. rounds h (while_loop place e body) (run_stmt h body) (run_stmt h (nothing place)) w) p function k locals blocks new_locals new_blocks g
while_exit p function place at e body l k locals blocks new_locals new_blocks g same a = record {
  goes = λ r w x n. ap (λ (m : control.Loop). rounds (here_at p function r) m (run_stmt (here_at p function r) body) (run_stmt (here_at p function r) (nothing place)) w (now_in locals blocks x)) (sym same) ∙ a.goes r w x n;
}

-- a do, by its loop
pub do_exit : (p : SharedProgram) (function : ℕ) (e : tree.Expr) (body found : tree.Stmt) (l : control.Loop) (k : control.Todo) (locals : List control.Variable) (blocks : Blocks) (new_locals : List control.Variable) (new_blocks : Blocks) (g : Exit)
    → l ≡ do_loop body e → found ≡ l.step
    → ExitsAs (λ h w. rounds h l (run_stmt h body) (run_stmt h found) w) p function k locals blocks new_locals new_blocks g
    → ExitsAs (λ h w. rounds h (do_loop body e) (run_stmt h body) (run_stmt h (do_loop body e).step) w) p function k locals blocks new_locals new_blocks g
do_exit p function e body found l k locals blocks new_locals new_blocks g same same_step a =
    let at_step : ExitsAs (λ h w. rounds h l (run_stmt h body) (run_stmt h l.step) w) p function k locals blocks new_locals new_blocks g = subst (λ (s : tree.Stmt). ExitsAs (λ h w. rounds h l (run_stmt h body) (run_stmt h s) w) p function k locals blocks new_locals new_blocks g) same_step a in
    subst (λ (m : control.Loop). ExitsAs (λ h w. rounds h m (run_stmt h body) (run_stmt h m.step) w) p function k locals blocks new_locals new_blocks g) same at_step

-- a for, by its loop
pub for_exit : (p : SharedProgram) (function : ℕ) (e : Option tree.Expr) (first step found body : tree.Stmt) (l : control.Loop) (inside k : control.Todo) (locals : List control.Variable) (blocks : Blocks) (mid_locals : List control.Variable) (mid_blocks : Blocks) (new_locals : List control.Variable) (new_blocks : Blocks) (d g : Exit)
    → ExitsAs (λ h w. run_stmt h first (loop_way h l (run_stmt h body) (run_stmt h found) w)) p function inside locals blocks mid_locals mid_blocks d
    → Passes (λ h. end_way (declared_by first [])) p function k d mid_locals mid_blocks new_locals new_blocks g
    → l ≡ for_loop e step body → found ≡ step → inside ≡ control.then_end (declared_by first []) k
    → ExitsAs (λ h w. run_stmt h first (loop_way h (for_loop e step body) (run_stmt h body) (run_stmt h step) (end_way (declared_by first []) w))) p function k locals blocks new_locals new_blocks g
for_exit p function e first step found body l inside k locals blocks mid_locals mid_blocks new_locals new_blocks d g a s same_loop same_step named =
    let at_step : ExitsAs (λ h w. run_stmt h first (loop_way h l (run_stmt h body) (run_stmt h step) w)) p function inside locals blocks mid_locals mid_blocks d = subst (λ (t : tree.Stmt). ExitsAs (λ h w. run_stmt h first (loop_way h l (run_stmt h body) (run_stmt h t) w)) p function inside locals blocks mid_locals mid_blocks d) same_step a in
    let at_loop : ExitsAs (λ h w. run_stmt h first (loop_way h (for_loop e step body) (run_stmt h body) (run_stmt h step) w)) p function inside locals blocks mid_locals mid_blocks d = subst (λ (m : control.Loop). ExitsAs (λ h w. run_stmt h first (loop_way h m (run_stmt h body) (run_stmt h step) w)) p function inside locals blocks mid_locals mid_blocks d) same_loop at_step in
    chain_passes (λ h w. run_stmt h first (loop_way h (for_loop e step body) (run_stmt h body) (run_stmt h step) w)) (λ h w. end_way (declared_by first []) w) p function inside k locals blocks mid_locals mid_blocks new_locals new_blocks d g (λ h w n. ap (control.then_end (declared_by first [])) n ∙ sym named) at_loop s

-- the end of a round
pub round_ends : (p : SharedProgram) (function : ℕ) (l : control.Loop) (k : control.Todo) (locals : List control.Variable) (blocks : Blocks) (q : Pending)
    → EndsRound l k q → (r : Rest) (w : Way) (x : World) → w.k ≡ k → round_over (here_at p function r) l w.k (now_in locals blocks x) ≡ ends (here_at p function r) q (now_in locals blocks x)
round_ends p function l k locals blocks q over r w x n = ap (λ (m : control.Todo). round_over (here_at p function r) l m (now_in locals blocks x)) n ∙ over.goes (here_at p function r) (now_in locals blocks x)

-- the step of a round: there is none, or there is one
pub no_step : (p : SharedProgram) (function : ℕ) (place : ℕ) (step : Option (Rc SharedStmt Global)) (l : control.Loop) (k : control.Todo) (locals : List control.Variable) (blocks : Blocks) (q : Pending)
    → step ≡ None → EndsRound l k q
    → ExitsAs (λ h w. run_stmt h (stmt_or_nothing place step) (step_way h l w)) p function k locals blocks locals blocks (exits.Ends q)
no_step p function place step l k locals blocks q is_none over = record {
  goes = λ r w x n. ap (λ (o : Option (Rc SharedStmt Global)). run_stmt (here_at p function r) (stmt_or_nothing place o) (step_way (here_at p function r) l w) (now_in locals blocks x)) is_none ∙ round_ends p function l k locals blocks q over r w x n;
}

pub one_step : (p : SharedProgram) (function : ℕ) (place : ℕ) (step : Option (Rc SharedStmt Global)) (s : Rc SharedStmt Global) (l : control.Loop) (k : control.Todo) (locals : List control.Variable) (blocks : Blocks) (new_locals : List control.Variable) (new_blocks : Blocks) (g : Exit)
    → step ≡ Some s
    → ExitsAs (λ h w. run_stmt h (stmt_of s.value) (step_way h l w)) p function k locals blocks new_locals new_blocks g
    → ExitsAs (λ h w. run_stmt h (stmt_or_nothing place step) (step_way h l w)) p function k locals blocks new_locals new_blocks g
one_step p function place step s l k locals blocks new_locals new_blocks g is_some a = record {
  goes = λ r w x n. ap (λ (o : Option (Rc SharedStmt Global)). run_stmt (here_at p function r) (stmt_or_nothing place o) (step_way (here_at p function r) l w) (now_in locals blocks x)) is_some ∙ a.goes r w x n;
}

-- ---- rows

-- the next statement of a row
pub next_exit : (p : SharedProgram) (function : ℕ) (all now rest : tree.Stmts) (s : tree.Stmt) (k inside : control.Todo) (first_locals : List control.Variable) (first_blocks : Blocks) (locals : List control.Variable) (blocks : Blocks) (new_locals : List control.Variable) (new_blocks : Blocks) (d e : Exit)
    → RowGoes p function all now k first_locals first_blocks locals blocks → now ≡ tree.more_stmts s rest → inside ≡ control.then_row rest k
    → ExitsAs (λ h w. run_stmt h s w) p function inside locals blocks new_locals new_blocks d → d ≡ e
    → (r : Rest) (w : Way) (x : World) → w.k ≡ k → run_row (here_at p function r) all w (now_in first_locals first_blocks x) ≡ exit (here_at p function r) (row_way rest (run_row (here_at p function r) rest) w) (now_in new_locals new_blocks x) e
next_exit p function all now rest s k inside first_locals first_blocks locals blocks new_locals new_blocks d e goes is_now named a is_e r w x n =
    let at_e : ExitsAs (λ h w. run_stmt h s w) p function inside locals blocks new_locals new_blocks e = subst (λ (f : Exit). ExitsAs (λ h w. run_stmt h s w) p function inside locals blocks new_locals new_blocks f) is_e a in
    goes.goes r w x n
    ∙ ap (λ (m : tree.Stmts). run_row (here_at p function r) m w (now_in locals blocks x)) is_now
    ∙ at_e.goes r (row_way rest (run_row (here_at p function r) rest) w) x (ap (control.then_row rest) n ∙ sym named)

-- the rest of the row from the next one on
pub row_stays : (p : SharedProgram) (function : ℕ) (all now rest : tree.Stmts) (s : tree.Stmt) (k inside : control.Todo) (first_locals : List control.Variable) (first_blocks : Blocks) (locals : List control.Variable) (blocks : Blocks) (new_locals : List control.Variable) (new_blocks : Blocks) (d : Exit)
    → RowGoes p function all now k first_locals first_blocks locals blocks → now ≡ tree.more_stmts s rest → inside ≡ control.then_row rest k
    → ExitsAs (λ h w. run_stmt h s w) p function inside locals blocks new_locals new_blocks d → d ≡ exits.End
    → RowGoes p function all rest k first_locals first_blocks new_locals new_blocks
row_stays p function all now rest s k inside first_locals first_blocks locals blocks new_locals new_blocks d goes is_now named a is_end =
    record { goes = λ r w x n. next_exit p function all now rest s k inside first_locals first_blocks locals blocks new_locals new_blocks d exits.End goes is_now named a is_end r w x n }

-- no statement is left
pub row_over : (p : SharedProgram) (function : ℕ) (all now : tree.Stmts) (k : control.Todo) (first_locals : List control.Variable) (first_blocks : Blocks) (locals : List control.Variable) (blocks : Blocks)
    → RowGoes p function all now k first_locals first_blocks locals blocks → now ≡ tree.no_stmts
    → ExitsAs (λ h w. run_row h all w) p function k first_locals first_blocks locals blocks exits.End
row_over p function all now k first_locals first_blocks locals blocks goes is_none =
    record { goes = λ r w x n. goes.goes r w x n ∙ ap (λ (m : tree.Stmts). run_row (here_at p function r) m w (now_in locals blocks x)) is_none }

-- the statements from a place on: the one there, and the rest; or none
pub row_next : (all : SharedRow) (i : ℕ) (s : Rc SharedStmt Global) → i < length all.stmts.items → s ≡ get_or all.stmts.items i s → row_from all i ≡ tree.more_stmts (stmt_of s.value) (row_from all (i + 1))
row_next all i s within is = at_drop_more these all.stmts.items i s within ∙ ap (λ (t : Rc SharedStmt Global). tree.more_stmts (stmt_of t.value) (row_from all (i + 1))) (sym is)

pub row_none : (all : SharedRow) (i : ℕ) → length all.stmts.items ≤ i → row_from all i ≡ tree.no_stmts
row_none all i beyond = at_drop_all these all.stmts.items i beyond

-- ---- switches

-- an expression ended the turn
pub value_ended : (p : SharedProgram) (function : ℕ) (locals : List control.Variable) (blocks b : Blocks) (e f : tree.Expr) (after : control.Use) (g : Progress) (q : Pending) (way : TurnContext → Way → WayOfUse) (k : control.Todo)
    → Flows p locals b f after g → b ≡ blocks → f ≡ e → g ≡ flows.Ends q
    → ((h : TurnContext) (w : Way) → w.k ≡ k → (way h w).k ≡ after)
    → ExitsAs (λ h w. run h e (way h w)) p function k locals blocks locals blocks (exits.Ends q)
value_ended p function locals blocks b e f after g q way k flow same_blocks same_expr is_q named =
    let at_e : Flows p locals blocks e after (flows.Ends q) = subst (λ (d : tree.Expr). Flows p locals blocks d after (flows.Ends q)) same_expr (subst (λ (c : Blocks). Flows p locals c f after (flows.Ends q)) same_blocks (subst (λ (d : Progress). Flows p locals b f after d) is_q flow)) in
    record { goes = λ r w x n. at_e.goes function r (way (here_at p function r) w) x (named (here_at p function r) w n) }

-- the statements from the one of this index on
from_drop : (h : TurnContext) (all : List (Rc SharedStmt Global)) (at : ℕ) (w : Way) (x : Now) → run_from h (these all) at w x ≡ run_row h (these (drop at all)) w x
from_drop h [] zero w x = refl
from_drop h [] (suc at) w x = refl
from_drop h (s ∷ all) zero w x = refl
from_drop h (s ∷ all) (suc at) w x = from_drop h all at w x

-- a value chooses no label
pub none_chosen : (p : SharedProgram) (function : ℕ) (labels : List tree.Label) (body : tree.Stmts) (v : Value) (k : control.Todo) (locals : List control.Variable) (blocks : Blocks)
    → starts_at labels (chosen labels v) ≡ None
    → ExitsAs (λ h w. (switch_test_way labels body (run_from h body) w).go v) p function k locals blocks locals blocks exits.End
none_chosen p function labels body v k locals blocks is_none = record {
  goes = λ r w x n. ap (λ (o : Option ℕ). starts (run_from (here_at p function r) body) w o (now_in locals blocks x)) is_none;
}

-- it chooses one, at this statement
pub one_chosen : (p : SharedProgram) (function : ℕ) (labels : List tree.Label) (all : SharedRow) (v : Value) (at : ℕ) (inside k : control.Todo) (locals : List control.Variable) (blocks : Blocks) (new_locals : List control.Variable) (new_blocks : Blocks) (d g : Exit)
    → starts_at labels (chosen labels v) ≡ Some at → inside ≡ control.in_switch k
    → ExitsAs (λ h w. run_row h (row_from all at) w) p function inside locals blocks new_locals new_blocks d
    → Passes (λ h. switch_way) p function k d new_locals new_blocks new_locals new_blocks g
    → ExitsAs (λ h w. (switch_test_way labels (row_of all) (run_from h (row_of all)) w).go v) p function k locals blocks new_locals new_blocks g
one_chosen p function labels all v at inside k locals blocks new_locals new_blocks d g is_some named a s = record {
  goes = λ r w x n.
      ap (λ (o : Option ℕ). starts (run_from (here_at p function r) (row_of all)) w o (now_in locals blocks x)) is_some
      ∙ from_drop (here_at p function r) all.stmts.items at (switch_way w) (now_in locals blocks x)
      ∙ a.goes r (switch_way w) x (ap control.in_switch n ∙ sym named)
      ∙ s.goes r w x n;
}
