-- Rows of nodes in which each copy is aligned to 1, 2, 4 or 8 bytes, also with their Looks, safepoints, slots and lists.
use Rattle.std.proofs.Common.{◌≡◌, ℕ, true, refl}
use Rattle.std.proofs.lemmas.Bool.{and_from}
use Rattle.struct_ir.specs.Nodes.{Action, copy_bytes, Act, set, call, step, look, safepoint, begin_object, end_object, Node, plain, if_, loop, break_, next_, ret, Nodes, no_nodes, more_nodes}
use Rattle.struct_ir.specs.Lists.{bare_act}
use Rattle.struct_ir.specs.Erased.{is_kept, put, erased}
use Rattle.code_file.specs.Conditions.{action_is_aligned, act_is_aligned, node_is_aligned, are_aligned}
use Rattle.alaska_run.proofs.AlignedTypes.{IsAligned}

-- a copy is
abbrev pub ActionIsAligned : Action → Type 0
ActionIsAligned (copy_bytes align same) = IsAligned align
ActionIsAligned action = Unit {0}

-- so in an act
abbrev pub ActIsAligned : Act → Type 0
ActIsAligned (step s) = ActionIsAligned s.action
ActIsAligned a = Unit {0}

abbrev mutual
  -- in a node
  pub NodeIsAligned : Node → Type 0
  NodeIsAligned (plain place a) = ActIsAligned a
  NodeIsAligned (if_ place temp one other) = AreAligned one × AreAligned other
  NodeIsAligned (loop place body latch) = AreAligned body × AreAligned latch
  NodeIsAligned (break_ place) = Unit {0}
  NodeIsAligned (next_ place) = Unit {0}
  NodeIsAligned (ret place temp) = Unit {0}

  -- and in a row of nodes
  pub AreAligned : Nodes → Type 0
  AreAligned no_nodes = Unit {0}
  AreAligned (more_nodes n rest) = NodeIsAligned n × AreAligned rest

-- ---- what the tests say of them

action_told : (a : Action) → ActionIsAligned a → action_is_aligned a ≡ true
action_told (copy_bytes align same) h = h
action_told action h = refl

act_told : (a : Act) → ActIsAligned a → act_is_aligned a ≡ true
act_told (step s) h = action_told s.action h
act_told a h = refl

mutual
  node_told : (n : Node) → NodeIsAligned n → node_is_aligned n ≡ true
  node_told (plain place a) h = act_told a h
  node_told (if_ place temp one other) h = and_from _ _ (nodes_told one h.0) (nodes_told other h.1)
  node_told (loop place body latch) h = and_from _ _ (nodes_told body h.0) (nodes_told latch h.1)
  node_told (break_ place) h = refl
  node_told (next_ place) h = refl
  node_told (ret place temp) h = refl

  pub nodes_told : (n : Nodes) → AreAligned n → are_aligned n ≡ true
  nodes_told no_nodes h = refl
  nodes_told (more_nodes n rest) h = and_from _ _ (node_told n h.0) (nodes_told rest h.1)

-- ---- erasing leaves each copy as it is

act_kept : (place : ℕ) (a : Act) (rest : Nodes) → AreAligned (put (is_kept a) (plain place (bare_act a)) rest) → ActIsAligned a × AreAligned rest
act_kept place (set to calc) rest h = h
act_kept place (call c) rest h = h
act_kept place (step s) rest h = h
act_kept place (look slot base) rest h = (tt, h)
act_kept place (safepoint slots) rest h = (tt, h)
act_kept place (begin_object i) rest h = h
act_kept place (end_object i) rest h = h

pub nodes_kept : (n : Nodes) → AreAligned (erased n) → AreAligned n
nodes_kept no_nodes h = tt
nodes_kept (more_nodes (plain place a) rest) h = let both = act_kept place a (erased rest) h in (both.0, nodes_kept rest both.1)
nodes_kept (more_nodes (if_ place temp one other) rest) h = ((nodes_kept one h.0.0, nodes_kept other h.0.1), nodes_kept rest h.1)
nodes_kept (more_nodes (loop place body latch) rest) h = ((nodes_kept body h.0.0, nodes_kept latch h.0.1), nodes_kept rest h.1)
nodes_kept (more_nodes (break_ place) rest) h = (tt, nodes_kept rest h.1)
nodes_kept (more_nodes (next_ place) rest) h = (tt, nodes_kept rest h.1)
nodes_kept (more_nodes (ret place temp) rest) h = (tt, nodes_kept rest h.1)
