-- Code without Looks, safepoints, slots and lists.
use Rattle.std.specs.Prelude.{◌≡◌, ℕ, Bool, true, false, map, Ok}
use Rattle.struct_ir.specs.Nodes.{Act, set, call, step, look, safepoint, begin_object, end_object, Node, plain, if_, loop, break_, next_, ret, Nodes, no_nodes, more_nodes, Func, Ir}
use Rattle.struct_ir.specs.Structured.{Position, done, then_, in_body, in_latch, structured}
use Rattle.struct_ir.specs.Machine.{Machine}
use Rattle.struct_ir.specs.MapsTurns.{thread_mapped, AllCarry, IsMapped}
use Rattle.struct_ir.specs.Lists.{bare_act, listless, IgnoresLists}
use Rattle.struct_ir.specs.Threads.{Environment, Thread, turn}

-- neither a Look nor a safepoint
abbrev pub is_kept : Act → Bool
is_kept (set to calc) = true
is_kept (call c) = true
is_kept (step s) = true
is_kept (look slot base) = false
is_kept (safepoint slots) = false
is_kept (begin_object i) = true
is_kept (end_object i) = true

-- a node that is neither a Look nor a safepoint
abbrev pub stays : Node → Bool
stays (plain place a) = is_kept a
stays (if_ place temp one other) = true
stays (loop place body latch) = true
stays (break_ place) = true
stays (next_ place) = true
stays (ret place temp) = true

-- the node and then the others, or the others alone
abbrev pub put : Bool → Node → Nodes → Nodes
put true n rest = more_nodes n rest
put false n rest = rest

-- the nodes that stay, without their slots and lists
abbrev mutual
  pub node_erased : Node → Node
  node_erased (plain place a) = plain place (bare_act a)
  node_erased (if_ place temp one other) = if_ place temp (erased one) (erased other)
  node_erased (loop place body latch) = loop place (erased body) (erased latch)
  node_erased (break_ place) = break_ place
  node_erased (next_ place) = next_ place
  node_erased (ret place temp) = ret place temp

  pub erased : Nodes → Nodes
  erased no_nodes = no_nodes
  erased (more_nodes n rest) = put (stays n) (node_erased n) (erased rest)

-- a function without slots
abbrev pub func_erased : Func → Func
func_erased f = record { params = f.params; temps = f.temps; slots = 0; objects = f.objects; nodes = erased f.nodes }

-- a program without Looks, safepoints, slots and lists
abbrev pub ir_erased : Ir → Ir
ir_erased x = record { globals = x.globals; literals = x.literals; funcs = map func_erased x.funcs; main = x.main }

-- ---- what it does

-- the position in the erased code
abbrev pub at_erased : Position → Position
at_erased done = done
at_erased (then_ nodes k) = then_ (erased nodes) (at_erased k)
at_erased (in_body body latch k) = in_body (erased body) (erased latch) (at_erased k)
at_erased (in_latch body latch k) = in_latch (erased body) (erased latch) (at_erased k)

-- a Look and a safepoint change nothing
abbrev pub LooksAreIdle : {L F : Type 0} → Machine L F → Type 0
LooksAreIdle {L} M = (a : Act) → is_kept a ≡ false → (M.stops a ≡ false) × ((place : ℕ) (l : L) → M.does place a l ≡ Ok l)

-- where Looks, safepoints, slots and lists are nothing, erased code does the same in each turn, with calls
abbrev pub ErasureKeepsTurns : (L F S A : Type 0) → Type 0
ErasureKeepsTurns L F S A =
    (M : Machine L F) (W : Environment L F S A) → IgnoresLists M W → LooksAreIdle M → (code : ℕ → Position) (answer : A) (t : Thread Position L) (s : S) → AllCarry (listless structured) structured at_erased t.callers
    → IsMapped (listless structured) structured at_erased (turn structured M W code answer t s) (turn structured M W (λ g. at_erased (code g)) answer (thread_mapped at_erased t) s)
