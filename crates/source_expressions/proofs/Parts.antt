-- Expressions of several parts.
use Rattle.std.proofs.Common.{◌≡◌, ◌∙◌, ℕ, Bool, true, false, List, Result, Ok, refl, ap, sym, subst}
use Rattle.std.specs.Prelude.{if◌then◌else◌}
use Rattle.ak_words.specs.declared.rule.Rule.{Rule}
use Rattle.block_store.specs.declared.values.Value.{Value}
use Rattle.block_store.specs.Blocks.{Blocks}
use Rattle.c_tree.specs.Typed as tree
use Rattle.c_meaning.specs.Control as control
use Rattle.c_meaning.specs.Turns.{TurnContext, Now, WayOfUse, on_ok, run, first_way, first_test_way, second_test_way, choice_way, is_same}
use Rattle.c_meaning.specs.Values.{Binary, int_of, truth_of}
use Rattle.source_tree.specs.declared.tree.SharedProgram.{SharedProgram}
use Rattle.source_tree.specs.declared.tree.TwoForm.{TwoForm}
use Rattle.source_tree.specs.SharedViews.{program_of, two_of_form, either_of}
use Rattle.source_state.specs.declared.control.Progress.{Progress}
use Rattle.source_state.specs.declared.control.Progress.TheVariants as flows
use Rattle.source_expressions.specs.Ends.{here_at}
use Rattle.source_expressions.specs.Progress.{Flows, FlowsSecond, FlowsTest, now_in, progress}
use Rattle.source_expressions.specs.inner.Operations.{FlowsLeft, FlowsTested, binary_for}
use Rattle.source_expressions.proofs.Forms.{run_two, run_either}

-- an expression by another name, or under another
pub flows_at : (p : SharedProgram) (locals : List control.Variable) (blocks : Blocks) (d e : tree.Expr) (j k : control.Use) (g : Progress)
    → d ≡ e → j ≡ k → Flows p locals blocks d j g → Flows p locals blocks e k g
flows_at p locals blocks d e j k g same under f = subst (λ u. Flows p locals blocks e u g) under (subst (λ c. Flows p locals blocks c j g) same f)

-- an operation: its left operand, and what follows that
pub flows_two : (p : SharedProgram) (locals : List control.Variable) (blocks : Blocks) (e a b : tree.Expr) (place : ℕ) (ty : tree.Ty) (form : TwoForm) (op : Binary) (k : control.Use) (left g : Progress)
    → e ≡ tree.at place ty (two_of_form form a b) → op ≡ binary_for (program_of p).structs form ty (tree.type_of a)
    → Flows p locals blocks a (control.first_of place op b k) left → FlowsLeft p locals blocks place op b left k g
    → Flows p locals blocks e k g
flows_two p locals blocks e a b place ty form op k left g is is_op f l = record {
  goes = λ function r w x n.
      ap (λ d. run (here_at p function r) d w (now_in locals blocks x)) is
      ∙ run_two (here_at p function r) place ty form a b w (now_in locals blocks x)
      ∙ ap (λ o. run (here_at p function r) a (first_way place o b (run (here_at p function r) b) w) (now_in locals blocks x)) (sym is_op)
      ∙ f.goes function r (first_way place op b (run (here_at p function r) b) w) x (ap (control.first_of place op b) n)
      ∙ l.goes function r w x n;
}

pub left_given : (p : SharedProgram) (locals : List control.Variable) (blocks : Blocks) (place : ℕ) (op : Binary) (e : tree.Expr) (v : Value) (k : control.Use) (left g : Progress)
    → left ≡ flows.Gives v → FlowsSecond p locals blocks place op v e k g
    → FlowsLeft p locals blocks place op e left k g
left_given p locals blocks place op e v k left g is f = record {
  goes = λ function r w x n.
      ap (λ d. progress (here_at p function r) (first_way place op e (run (here_at p function r) e) w) (now_in locals blocks x) d) is
      ∙ f.goes function r w x n;
}

-- && and ||: the left operand, and what follows its test
pub flows_either : (p : SharedProgram) (locals : List control.Variable) (blocks : Blocks) (e a b : tree.Expr) (place : ℕ) (ty : tree.Ty) (decides : Bool) (k : control.Use) (left g : Progress)
    → e ≡ tree.at place ty (either_of decides a b)
    → Flows p locals blocks a (control.first_test (tree.place_of a) decides b k) left → FlowsTested p locals blocks (tree.place_of a) decides b left k g
    → Flows p locals blocks e k g
flows_either p locals blocks e a b place ty decides k left g is f l = record {
  goes = λ function r w x n.
      ap (λ d. run (here_at p function r) d w (now_in locals blocks x)) is
      ∙ run_either (here_at p function r) place ty decides a b w (now_in locals blocks x)
      ∙ f.goes function r (first_test_way (tree.place_of a) decides b (run (here_at p function r) b) w) x (ap (control.first_test (tree.place_of a) decides b) n)
      ∙ l.goes function r w x n;
}

pub tested_given : (p : SharedProgram) (locals : List control.Variable) (blocks : Blocks) (place : ℕ) (decides holds : Bool) (e : tree.Expr) (v : Value) (k : control.Use) (left g : Progress)
    → left ≡ flows.Gives v → truth_of blocks v ≡ Ok holds → FlowsTest p locals blocks decides holds e k g
    → FlowsTested p locals blocks place decides e left k g
tested_given p locals blocks place decides holds e v k left g is truth f = record {
  goes = λ function r w x n.
      ap (λ d. progress (here_at p function r) (first_test_way place decides e (run (here_at p function r) e) w) (now_in locals blocks x) d) is
      ∙ ap (λ (a : Result Bool Rule). on_ok place (λ b. if is_same b decides then w.go (int_of b) (now_in locals blocks x) else run (here_at p function r) e (second_test_way (tree.place_of e) w) (now_in locals blocks x)) a) truth
      ∙ f.goes function r w x n;
}

-- ?: with a condition that holds, or doesn't
taken : (h : TurnContext) (one other : tree.Expr) (holds : Bool) (w : WayOfUse) (x : Now) → (if holds then run h one w x else run h other w x) ≡ run h (if holds then one else other) w x
taken h one other true w x = refl
taken h one other false w x = refl

pub flows_choice : (p : SharedProgram) (locals : List control.Variable) (blocks : Blocks) (e c one other : tree.Expr) (place : ℕ) (ty : tree.Ty) (holds : Bool) (v : Value) (k : control.Use) (test g : Progress)
    → e ≡ tree.at place ty (tree.choose c one other) → test ≡ flows.Gives v → truth_of blocks v ≡ Ok holds
    → Flows p locals blocks c (control.choice (tree.place_of c) one other k) test
    → Flows p locals blocks (if holds then one else other) k g
    → Flows p locals blocks e k g
flows_choice p locals blocks e c one other place ty holds v k test g is given truth f l = record {
  goes = λ function r w x n.
      ap (λ d. run (here_at p function r) d w (now_in locals blocks x)) is
      ∙ f.goes function r (choice_way (tree.place_of c) one other (run (here_at p function r) one) (run (here_at p function r) other) w) x (ap (control.choice (tree.place_of c) one other) n)
      ∙ ap (λ d. progress (here_at p function r) (choice_way (tree.place_of c) one other (run (here_at p function r) one) (run (here_at p function r) other) w) (now_in locals blocks x) d) given
      ∙ ap (λ (a : Result Bool Rule). on_ok (tree.place_of c) (λ b. if b then run (here_at p function r) one w (now_in locals blocks x) else run (here_at p function r) other w (now_in locals blocks x)) a) truth
      ∙ taken (here_at p function r) one other holds w (now_in locals blocks x)
      ∙ l.goes function r w x n;
}
