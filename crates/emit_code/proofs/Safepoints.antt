-- Safepoints of rows stand where the rows have them.
use Rattle.std.proofs.Common.{◌≡◌, ℕ, ◌+◌, List, [], ◌∷◌, ◌++◌, Option, Some, None, Bool, true, false, ◌&&◌, refl, sym, ap, subst}
use Rattle.std.specs.Prelude.{is_some}
use Rattle.struct_ir.specs.Nodes.{set, call, step, look, safepoint, begin_object, end_object, Node, plain, if_, loop, break_, next_, ret, Nodes, no_nodes, more_nodes}
use Rattle.struct_ir.specs.Valid.{list_at, last_list}
use Rattle.struct_ir.specs.Instrs.{Instr}
use Rattle.struct_ir.specs.Lawful.{safe_list}
use Rattle.emit_code.specs.inner.Layout.{node_long, emit_node, emit}

pub false_true : {A : Type 0} → false ≡ true → A
false_true e = absurd cc

pub left_of : (a b : Bool) → (a && b) ≡ true → a ≡ true
left_of true b e = refl
left_of false b e = false_true e

pub right_of : (a b : Bool) → (a && b) ≡ true → b ≡ true
right_of true b e = e
right_of false b e = false_true e

-- the list of a safepoint that stands last; before: that of one directly before
abbrev pub last_in : Option (List ℕ) → List Instr → Option (List ℕ)
last_in before [] = before
last_in before (i ∷ is) = last_in (safe_list (Some i)) is

last_append : (before : Option (List ℕ)) (a b : List Instr) → last_in before (a ++ b) ≡ last_in (last_in before a) b
last_append before [] b = refl
last_append before (i ∷ a) b = last_append (safe_list (Some i)) a b

-- a list that the nodes tell stands in the code too
abbrev pub Tells : Option (List ℕ) → Option (List ℕ) → Type 0
Tells list before = (slots : List ℕ) → list ≡ Some slots → before ≡ Some slots

pub no_list : {A : Type 0} (slots : List ℕ) → None ≡ Some slots → A
no_list slots e = absurd cc

pub node_tells : (n : Node) (before : Option (List ℕ)) (at out next : ℕ) → Tells (list_at n) (last_in before (emit_node at out next n))
node_tells (plain place (set to calc)) before at out next slots e = no_list slots e
node_tells (plain place (call c)) before at out next slots e = no_list slots e
node_tells (plain place (step s)) before at out next slots e = no_list slots e
node_tells (plain place (look slot base)) before at out next slots e = no_list slots e
node_tells (plain place (safepoint list)) before at out next slots e = e
node_tells (plain place (begin_object i)) before at out next slots e = no_list slots e
node_tells (plain place (end_object i)) before at out next slots e = no_list slots e
node_tells (if_ place temp one other) before at out next slots e = no_list slots e
node_tells (loop place body latch) before at out next slots e = no_list slots e
node_tells (break_ place) before at out next slots e = no_list slots e
node_tells (next_ place) before at out next slots e = no_list slots e
node_tells (ret place temp) before at out next slots e = no_list slots e

pub tells_none : (before : Option (List ℕ)) → Tells None before
tells_none before slots e = no_list slots e

pub row_tells : (nodes : Nodes) (list before : Option (List ℕ)) → Tells list before → (at out next : ℕ) → Tells (last_list list nodes) (last_in before (emit at out next nodes))
row_tells no_nodes list before t at out next = t
row_tells (more_nodes n rest) list before t at out next =
    subst (Tells (last_list (list_at n) rest)) (sym (last_append before (emit_node at out next n) (emit (at + node_long n) out next rest)))
    (row_tells rest (list_at n) (last_in before (emit_node at out next n)) (node_tells n before at out next) (at + node_long n) out next)

-- a list that is told is there
pub some_told : (list before : Option (List ℕ)) → Tells list before → is_some list ≡ true → is_some before ≡ true
some_told None before t e = false_true e
some_told (Some l) before t e = ap is_some (t l refl)
