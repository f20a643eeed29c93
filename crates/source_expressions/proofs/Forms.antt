-- What the meaning says of the code's forms of expressions.
use Rattle.std.proofs.Common.{◌≡◌, ℕ, Bool, true, false, [], length, map, refl}
use Rattle.std.proofs.lemmas.List.{length-map}
use Rattle.block_store.specs.Runs.{unfit}
use Rattle.c_tree.specs.Typed as tree
use Rattle.c_tree.specs.TypedViews.{global_view}
use Rattle.source_tree.specs.declared.tree.SharedProgram.{SharedProgram}
use Rattle.c_meaning.specs.Control.{wanted}
use Rattle.c_meaning.specs.Turns.{TurnContext, Now, WayOfUse, run, run_node, run_place, run_place_node, run_arguments, only_way, first_way, first_test_way}
use Rattle.source_tree.specs.declared.tree.AddressForm.{AddressForm}
use Rattle.source_tree.specs.declared.tree.AddressForm.TheVariants as addresses
use Rattle.source_tree.specs.declared.tree.OneForm.{OneForm}
use Rattle.source_tree.specs.declared.tree.OneForm.TheVariants as ones
use Rattle.source_tree.specs.declared.tree.TwoForm.{TwoForm}
use Rattle.source_tree.specs.declared.tree.TwoForm.TheVariants as twos
use Rattle.source_tree.specs.declared.tree.Callee.{Callee}
use Rattle.source_tree.specs.declared.tree.Callee.TheVariants as callees
use Rattle.source_tree.specs.SharedViews.{address_of_form, one_of_form, two_of_form, either_of, call_of}
use Rattle.source_state.specs.Views.{callee_of}
use Rattle.source_expressions.specs.inner.Operations.{binary_for, unary_for}

pub run_address : (h : TurnContext) (place : ℕ) (ty : tree.Ty) (form : AddressForm) (e : tree.Expr) (w : WayOfUse) (x : Now) → run_node h place ty (address_of_form form e) w x ≡ run_place h e w x
run_address h place ty addresses.Of e w x = refl
run_address h place ty addresses.Decay e w x = refl

pub run_one : (h : TurnContext) (place : ℕ) (ty : tree.Ty) (form : OneForm) (e : tree.Expr) (w : WayOfUse) (x : Now) → run_node h place ty (one_of_form form e) w x ≡ run h e (only_way place (unary_for form ty) w) x
run_one h place ty ones.Convert e w x = refl
run_one h place ty ones.Not e w x = refl
run_one h place ty ones.Test e w x = refl

pub run_two : (h : TurnContext) (place : ℕ) (ty : tree.Ty) (form : TwoForm) (a b : tree.Expr) (w : WayOfUse) (x : Now) → run_node h place ty (two_of_form form a b) w x ≡ run h a (first_way place (binary_for h.typed.structs form ty (tree.type_of a)) b (run h b) w) x
run_two h place ty (twos.Numbers op) a b w x = refl
run_two h place ty twos.Forward a b w x = refl
run_two h place ty twos.Backward a b w x = refl
run_two h place ty twos.Distance a b w x = refl
run_two h place ty (twos.Pointers op) a b w x = refl

pub run_either : (h : TurnContext) (place : ℕ) (ty : tree.Ty) (decides : Bool) (a b : tree.Expr) (w : WayOfUse) (x : Now) → run_node h place ty (either_of decides a b) w x ≡ run h a (first_test_way (tree.place_of a) decides b (run h b) w) x
run_either h place ty true a b w x = refl
run_either h place ty false a b w x = refl

pub run_call : (h : TurnContext) (place : ℕ) (ty : tree.Ty) (callee : Callee) (all : tree.Exprs) (w : WayOfUse) (x : Now) → run_node h place ty (call_of callee all) w x ≡ run_arguments h place (callee_of callee) all [] (wanted place w.k) x
run_call h place ty (callees.Function number) all w x = refl
run_call h place ty (callees.Library lib) all w x = refl

pub ruleset run_forms = (run_address, run_one, run_two, run_either, run_call)

-- what is no place

pub place_address : (h : TurnContext) (place : ℕ) (form : AddressForm) (e : tree.Expr) (w : WayOfUse) (x : Now) → run_place_node h place (address_of_form form e) w x ≡ unfit
place_address h place addresses.Of e w x = refl
place_address h place addresses.Decay e w x = refl

pub place_one : (h : TurnContext) (place : ℕ) (form : OneForm) (e : tree.Expr) (w : WayOfUse) (x : Now) → run_place_node h place (one_of_form form e) w x ≡ unfit
place_one h place ones.Convert e w x = refl
place_one h place ones.Not e w x = refl
place_one h place ones.Test e w x = refl

pub place_two : (h : TurnContext) (place : ℕ) (form : TwoForm) (a b : tree.Expr) (w : WayOfUse) (x : Now) → run_place_node h place (two_of_form form a b) w x ≡ unfit
place_two h place (twos.Numbers op) a b w x = refl
place_two h place twos.Forward a b w x = refl
place_two h place twos.Backward a b w x = refl
place_two h place twos.Distance a b w x = refl
place_two h place (twos.Pointers op) a b w x = refl

pub place_either : (h : TurnContext) (place : ℕ) (decides : Bool) (a b : tree.Expr) (w : WayOfUse) (x : Now) → run_place_node h place (either_of decides a b) w x ≡ unfit
place_either h place true a b w x = refl
place_either h place false a b w x = refl

pub place_call : (h : TurnContext) (place : ℕ) (callee : Callee) (all : tree.Exprs) (w : WayOfUse) (x : Now) → run_place_node h place (call_of callee all) w x ≡ unfit
place_call h place (callees.Function number) all w x = refl
place_call h place (callees.Library lib) all w x = refl

-- so many globals
pub globals_count : (p : SharedProgram) → length (map global_view p.globals.items) ≡ length p.globals.items
globals_count p = length-map p.globals.items global_view

pub ruleset place_forms = (place_address, place_one, place_two, place_either, place_call, globals_count)
