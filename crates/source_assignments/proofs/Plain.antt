-- Which left sides are locals without a block, and what an assignment to each does.
use Rattle.std.proofs.Common.{◌≡◌, ℕ, Bool, true, false, None, refl}
use Rattle.c_tree.specs.Typed as tree
use Rattle.c_meaning.specs.Control.{Update}
use Rattle.c_meaning.specs.Turns.{TurnContext, Way, Now, assigns, updates, is_block, local_at}
use Rattle.source_tree.specs.declared.tree.SharedProgram.{SharedProgram}
use Rattle.source_tree.specs.declared.tree.AddressForm.{AddressForm}
use Rattle.source_tree.specs.declared.tree.AddressForm.TheVariants as addresses
use Rattle.source_tree.specs.declared.tree.OneForm.{OneForm}
use Rattle.source_tree.specs.declared.tree.OneForm.TheVariants as ones
use Rattle.source_tree.specs.declared.tree.TwoForm.{TwoForm}
use Rattle.source_tree.specs.declared.tree.TwoForm.TheVariants as twos
use Rattle.source_tree.specs.declared.tree.Callee.{Callee}
use Rattle.source_tree.specs.declared.tree.Callee.TheVariants as callees
use Rattle.source_tree.specs.SharedViews.{address_of_form, one_of_form, two_of_form, either_of, call_of}
use Rattle.source_expressions.specs.Ends.{Rest, here_at}
use Rattle.source_assignments.specs.inner.Numbers.{plain_if, plain_number, assigns_by, updates_by}

-- ---- the code's forms

pub plain_address : (p : SharedProgram) (function : ℕ) (form : AddressForm) (e : tree.Expr) → plain_number p function (address_of_form form e) ≡ None
plain_address p function addresses.Of e = refl
plain_address p function addresses.Decay e = refl

pub plain_one : (p : SharedProgram) (function : ℕ) (form : OneForm) (e : tree.Expr) → plain_number p function (one_of_form form e) ≡ None
plain_one p function ones.Convert e = refl
plain_one p function ones.Not e = refl
plain_one p function ones.Test e = refl

pub plain_two : (p : SharedProgram) (function : ℕ) (form : TwoForm) (a b : tree.Expr) → plain_number p function (two_of_form form a b) ≡ None
plain_two p function (twos.Numbers op) a b = refl
plain_two p function twos.Forward a b = refl
plain_two p function twos.Backward a b = refl
plain_two p function twos.Distance a b = refl
plain_two p function (twos.Pointers op) a b = refl

pub plain_either : (p : SharedProgram) (function : ℕ) (decides : Bool) (a b : tree.Expr) → plain_number p function (either_of decides a b) ≡ None
plain_either p function true a b = refl
plain_either p function false a b = refl

pub plain_call : (p : SharedProgram) (function : ℕ) (callee : Callee) (all : tree.Exprs) → plain_number p function (call_of callee all) ≡ None
plain_call p function (callees.Function number) all = refl
plain_call p function (callees.Library lib) all = refl

pub ruleset no_plain_forms = (plain_address, plain_one, plain_two, plain_either, plain_call)

-- ---- what is assigned

local_assigned : (b : Bool) (number : ℕ) (h : TurnContext) (left right : tree.Expr) (w : Way) (x : Now) → is_block (local_at h number) ≡ b → assigns h (tree.local number) left right w x ≡ assigns_by h (plain_if b number) left right w x
local_assigned true number h left right w x e = rw e
local_assigned false number h left right w x e = rw e

pub assigned : (p : SharedProgram) (function : ℕ) (r : Rest) (node : tree.ExprNode) (left right : tree.Expr) (w : Way) (x : Now) → assigns (here_at p function r) node left right w x ≡ assigns_by (here_at p function r) (plain_number p function node) left right w x
assigned p function r (tree.local number) left right w x = local_assigned (is_block (local_at (here_at p function r) number)) number (here_at p function r) left right w x refl
assigned p function r (tree.num t z) left right w x = refl
assigned p function r tree.null left right w x = refl
assigned p function r (tree.literal n) left right w x = refl
assigned p function r (tree.global n) left right w x = refl
assigned p function r (tree.deref e) left right w x = refl
assigned p function r (tree.member e n) left right w x = refl
assigned p function r (tree.address_of e) left right w x = refl
assigned p function r (tree.decay e) left right w x = refl
assigned p function r (tree.convert e) left right w x = refl
assigned p function r (tree.not_ e) left right w x = refl
assigned p function r (tree.binary op a b) left right w x = refl
assigned p function r (tree.and_also a b) left right w x = refl
assigned p function r (tree.or_else a b) left right w x = refl
assigned p function r (tree.choose c a b) left right w x = refl
assigned p function r (tree.pointer_add a b) left right w x = refl
assigned p function r (tree.pointer_sub a b) left right w x = refl
assigned p function r (tree.pointer_diff a b) left right w x = refl
assigned p function r (tree.pointer_compare op a b) left right w x = refl
assigned p function r (tree.pointer_test e) left right w x = refl
assigned p function r (tree.call f args) left right w x = refl
assigned p function r (tree.lib which args) left right w x = refl

local_updated : (b : Bool) (number : ℕ) (h : TurnContext) (u : Update) (left right : tree.Expr) (w : Way) (x : Now) → is_block (local_at h number) ≡ b → updates h u (tree.local number) left right w x ≡ updates_by h u (plain_if b number) left right w x
local_updated true number h u left right w x e = rw e
local_updated false number h u left right w x e = rw e

pub changed : (p : SharedProgram) (function : ℕ) (r : Rest) (u : Update) (node : tree.ExprNode) (left right : tree.Expr) (w : Way) (x : Now) → updates (here_at p function r) u node left right w x ≡ updates_by (here_at p function r) u (plain_number p function node) left right w x
changed p function r u (tree.local number) left right w x = local_updated (is_block (local_at (here_at p function r) number)) number (here_at p function r) u left right w x refl
changed p function r u (tree.num t z) left right w x = refl
changed p function r u tree.null left right w x = refl
changed p function r u (tree.literal n) left right w x = refl
changed p function r u (tree.global n) left right w x = refl
changed p function r u (tree.deref e) left right w x = refl
changed p function r u (tree.member e n) left right w x = refl
changed p function r u (tree.address_of e) left right w x = refl
changed p function r u (tree.decay e) left right w x = refl
changed p function r u (tree.convert e) left right w x = refl
changed p function r u (tree.not_ e) left right w x = refl
changed p function r u (tree.binary op a b) left right w x = refl
changed p function r u (tree.and_also a b) left right w x = refl
changed p function r u (tree.or_else a b) left right w x = refl
changed p function r u (tree.choose c a b) left right w x = refl
changed p function r u (tree.pointer_add a b) left right w x = refl
changed p function r u (tree.pointer_sub a b) left right w x = refl
changed p function r u (tree.pointer_diff a b) left right w x = refl
changed p function r u (tree.pointer_compare op a b) left right w x = refl
changed p function r u (tree.pointer_test e) left right w x = refl
changed p function r u (tree.call f args) left right w x = refl
changed p function r u (tree.lib which args) left right w x = refl
