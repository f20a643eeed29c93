-- What becomes of the code's forms where their value is dropped.
use Rattle.std.proofs.Common.{◌≡◌, ◌∙◌, ℕ, Bool, true, false, [], refl}
use Rattle.std.specs.Prelude.{if◌then◌else◌}
use Rattle.c_tree.specs.Typed as tree
use Rattle.c_meaning.specs.Control.{dropped}
use Rattle.c_meaning.specs.Turns.{TurnContext, Way, Now, run_node, run_dropped, run_dropped_node, run_arguments, nowhere_way, drops_object}
use Rattle.source_tree.specs.declared.tree.AddressForm.{AddressForm}
use Rattle.source_tree.specs.declared.tree.AddressForm.TheVariants as addresses
use Rattle.source_tree.specs.declared.tree.OneForm.{OneForm}
use Rattle.source_tree.specs.declared.tree.OneForm.TheVariants as ones
use Rattle.source_tree.specs.declared.tree.TwoForm.{TwoForm}
use Rattle.source_tree.specs.declared.tree.TwoForm.TheVariants as twos
use Rattle.source_tree.specs.declared.tree.Callee.{Callee}
use Rattle.source_tree.specs.declared.tree.Callee.TheVariants as callees
use Rattle.source_tree.specs.SharedViews.{address_of_form, one_of_form, two_of_form, either_of, call_of}
use Rattle.source_state.specs.Views.{callee_of}
use Rattle.source_assignments.specs.inner.Conversions.{voids}

pub dropped_address : (h : TurnContext) (place : ℕ) (ty : tree.Ty) (form : AddressForm) (e : tree.Expr) (w : Way) (x : Now) → run_dropped_node h place ty (address_of_form form e) w x ≡ run_node h place ty (address_of_form form e) (nowhere_way w) x
dropped_address h place ty addresses.Of e w x = refl
dropped_address h place ty addresses.Decay e w x = refl

pub dropped_one : (h : TurnContext) (place : ℕ) (ty : tree.Ty) (form : OneForm) (e : tree.Expr) (w : Way) (x : Now) → run_dropped_node h place ty (one_of_form form e) w x ≡ (if voids form ty then run_dropped h e w x else run_node h place ty (one_of_form form e) (nowhere_way w) x)
dropped_one h place tree.void ones.Convert e w x = refl
dropped_one h place (tree.integer t) ones.Convert e w x = refl
dropped_one h place (tree.atomic t) ones.Convert e w x = refl
dropped_one h place tree.mutex ones.Convert e w x = refl
dropped_one h place (tree.pointer t) ones.Convert e w x = refl
dropped_one h place (tree.array t n) ones.Convert e w x = refl
dropped_one h place (tree.structure n) ones.Convert e w x = refl
dropped_one h place tree.void ones.Not e w x = refl
dropped_one h place (tree.integer t) ones.Not e w x = refl
dropped_one h place (tree.atomic t) ones.Not e w x = refl
dropped_one h place tree.mutex ones.Not e w x = refl
dropped_one h place (tree.pointer t) ones.Not e w x = refl
dropped_one h place (tree.array t n) ones.Not e w x = refl
dropped_one h place (tree.structure n) ones.Not e w x = refl
dropped_one h place tree.void ones.Test e w x = refl
dropped_one h place (tree.integer t) ones.Test e w x = refl
dropped_one h place (tree.atomic t) ones.Test e w x = refl
dropped_one h place tree.mutex ones.Test e w x = refl
dropped_one h place (tree.pointer t) ones.Test e w x = refl
dropped_one h place (tree.array t n) ones.Test e w x = refl
dropped_one h place (tree.structure n) ones.Test e w x = refl

pub dropped_two : (h : TurnContext) (place : ℕ) (ty : tree.Ty) (form : TwoForm) (a b : tree.Expr) (w : Way) (x : Now) → run_dropped_node h place ty (two_of_form form a b) w x ≡ run_node h place ty (two_of_form form a b) (nowhere_way w) x
dropped_two h place ty (twos.Numbers op) a b w x = refl
dropped_two h place ty twos.Forward a b w x = refl
dropped_two h place ty twos.Backward a b w x = refl
dropped_two h place ty twos.Distance a b w x = refl
dropped_two h place ty (twos.Pointers op) a b w x = refl

pub dropped_either : (h : TurnContext) (place : ℕ) (ty : tree.Ty) (decides : Bool) (a b : tree.Expr) (w : Way) (x : Now) → run_dropped_node h place ty (either_of decides a b) w x ≡ run_node h place ty (either_of decides a b) (nowhere_way w) x
dropped_either h place ty true a b w x = refl
dropped_either h place ty false a b w x = refl

pub dropped_call : (h : TurnContext) (place : ℕ) (ty : tree.Ty) (callee : Callee) (all : tree.Exprs) (w : Way) (x : Now) → run_dropped_node h place ty (call_of callee all) w x ≡ run_arguments h place (callee_of callee) all [] (dropped w.k) x
dropped_call h place ty (callees.Function number) all w x = refl
dropped_call h place ty (callees.Library lib) all w x = refl

pub ruleset dropped_forms = (dropped_address, dropped_one, dropped_two, dropped_either, dropped_call)

-- ---- what becomes of a form

pub data Dropping : Type 0 where
  as_call : Dropping
  as_void : Dropping
  as_object : Dropping
  as_value : Dropping

-- an expression, by its form and its type, is a call, a conversion to void, an object, or anything else
abbrev pub drops_as : tree.ExprNode → tree.Ty → Dropping
drops_as (tree.call number args) ty = as_call
drops_as (tree.lib which args) ty = as_call
drops_as (tree.convert e) tree.void = as_void
drops_as (tree.literal number) ty = as_object
drops_as (tree.global number) ty = as_object
drops_as (tree.local number) ty = as_object
drops_as (tree.deref e) ty = as_object
drops_as (tree.member e number) ty = as_object
drops_as node ty = as_value

pub as_address : (form : AddressForm) (e : tree.Expr) (ty : tree.Ty) → drops_as (address_of_form form e) ty ≡ as_value
as_address addresses.Of e ty = refl
as_address addresses.Decay e ty = refl

pub as_one : (form : OneForm) (e : tree.Expr) (ty : tree.Ty) → voids form ty ≡ false → drops_as (one_of_form form e) ty ≡ as_value
as_one ones.Convert e tree.void h = cc
as_one ones.Convert e (tree.integer t) h = refl
as_one ones.Convert e (tree.atomic t) h = refl
as_one ones.Convert e tree.mutex h = refl
as_one ones.Convert e (tree.pointer t) h = refl
as_one ones.Convert e (tree.array t n) h = refl
as_one ones.Convert e (tree.structure n) h = refl
as_one ones.Not e ty h = refl
as_one ones.Test e ty h = refl

pub as_two : (form : TwoForm) (a b : tree.Expr) (ty : tree.Ty) → drops_as (two_of_form form a b) ty ≡ as_value
as_two (twos.Numbers op) a b ty = refl
as_two twos.Forward a b ty = refl
as_two twos.Backward a b ty = refl
as_two twos.Distance a b ty = refl
as_two (twos.Pointers op) a b ty = refl

pub as_either : (decides : Bool) (a b : tree.Expr) (ty : tree.Ty) → drops_as (either_of decides a b) ty ≡ as_value
as_either true a b ty = refl
as_either false a b ty = refl

pub ruleset kind_forms = (as_address, as_one, as_two, as_either)

pub dropped_value : (h : TurnContext) (place : ℕ) (ty : tree.Ty) (node : tree.ExprNode) (w : Way) (x : Now) → drops_as node ty ≡ as_value → run_dropped_node h place ty node w x ≡ run_node h place ty node (nowhere_way w) x
dropped_value h place ty (tree.num t z) w x e = refl
dropped_value h place ty tree.null w x e = refl
dropped_value h place ty (tree.literal number) w x e = cc
dropped_value h place ty (tree.global number) w x e = cc
dropped_value h place ty (tree.local number) w x e = cc
dropped_value h place ty (tree.deref a) w x e = cc
dropped_value h place ty (tree.member a number) w x e = cc
dropped_value h place ty (tree.address_of a) w x e = refl
dropped_value h place ty (tree.decay a) w x e = refl
dropped_value h place tree.void (tree.convert a) w x e = cc
dropped_value h place (tree.integer t) (tree.convert a) w x e = refl
dropped_value h place (tree.atomic t) (tree.convert a) w x e = refl
dropped_value h place tree.mutex (tree.convert a) w x e = refl
dropped_value h place (tree.pointer t) (tree.convert a) w x e = refl
dropped_value h place (tree.array t n) (tree.convert a) w x e = refl
dropped_value h place (tree.structure n) (tree.convert a) w x e = refl
dropped_value h place ty (tree.not_ a) w x e = refl
dropped_value h place ty (tree.binary op a b) w x e = refl
dropped_value h place ty (tree.and_also a b) w x e = refl
dropped_value h place ty (tree.or_else a b) w x e = refl
dropped_value h place ty (tree.choose c a b) w x e = refl
dropped_value h place ty (tree.pointer_add a b) w x e = refl
dropped_value h place ty (tree.pointer_sub a b) w x e = refl
dropped_value h place ty (tree.pointer_diff a b) w x e = refl
dropped_value h place ty (tree.pointer_compare op a b) w x e = refl
dropped_value h place ty (tree.pointer_test a) w x e = refl
dropped_value h place ty (tree.call number args) w x e = cc
dropped_value h place ty (tree.lib which args) w x e = cc

pub dropped_object : (h : TurnContext) (place : ℕ) (ty : tree.Ty) (node : tree.ExprNode) (w : Way) (x : Now) → drops_as node ty ≡ as_object → run_dropped_node h place ty node w x ≡ drops_object h place ty node w x
dropped_object h place ty (tree.num t z) w x e = cc
dropped_object h place ty tree.null w x e = cc
dropped_object h place ty (tree.literal number) w x e = refl
dropped_object h place ty (tree.global number) w x e = refl
dropped_object h place ty (tree.local number) w x e = refl
dropped_object h place ty (tree.deref a) w x e = refl
dropped_object h place ty (tree.member a number) w x e = refl
dropped_object h place ty (tree.address_of a) w x e = cc
dropped_object h place ty (tree.decay a) w x e = cc
dropped_object h place tree.void (tree.convert a) w x e = cc
dropped_object h place (tree.integer t) (tree.convert a) w x e = cc
dropped_object h place (tree.atomic t) (tree.convert a) w x e = cc
dropped_object h place tree.mutex (tree.convert a) w x e = cc
dropped_object h place (tree.pointer t) (tree.convert a) w x e = cc
dropped_object h place (tree.array t n) (tree.convert a) w x e = cc
dropped_object h place (tree.structure n) (tree.convert a) w x e = cc
dropped_object h place ty (tree.not_ a) w x e = cc
dropped_object h place ty (tree.binary op a b) w x e = cc
dropped_object h place ty (tree.and_also a b) w x e = cc
dropped_object h place ty (tree.or_else a b) w x e = cc
dropped_object h place ty (tree.choose c a b) w x e = cc
dropped_object h place ty (tree.pointer_add a b) w x e = cc
dropped_object h place ty (tree.pointer_sub a b) w x e = cc
dropped_object h place ty (tree.pointer_diff a b) w x e = cc
dropped_object h place ty (tree.pointer_compare op a b) w x e = cc
dropped_object h place ty (tree.pointer_test a) w x e = cc
dropped_object h place ty (tree.call number args) w x e = cc
dropped_object h place ty (tree.lib which args) w x e = cc

pub dropped_void : (h : TurnContext) (place : ℕ) (ty : tree.Ty) (form : OneForm) (e : tree.Expr) (w : Way) (x : Now) → voids form ty ≡ true → run_dropped_node h place ty (one_of_form form e) w x ≡ run_dropped h e w x
dropped_void h place ty form e w x v = dropped_one h place ty form e w x ∙ (rw v refl)
