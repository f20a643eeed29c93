-- Code that can be saved fits.
use Rattle.std.proofs.Common.{◌≡◌, ℕ, zero, suc, ◌<◌, ◌≤◌, max, Bool, true, false, ◌&&◌, ◌||◌, not, ltb, List, [], ◌∷◌, map, Option, Some, None, refl, arith}
use Rattle.std.proofs.lemmas.Bool.{and_parts, and_from, lt-ltb, ltb-true}
use Rattle.std.specs.Prelude.{is_some, length, nat_lt, slice_get}
use Rattle.std.specs.List.{list_all}
use Rattle.struct_ir.specs.Nodes.{Action, load, store, copy_bytes, malloc, calloc, realloc, free, change, compare, print, lock, unlock, destroy, start, join, Place, Step, Call, Act, set, call, step, look, safepoint, begin_object, end_object}
use Rattle.struct_ir.specs.Nodes.{Node, plain, if_, loop, break_, next_, ret, Nodes, no_nodes, more_nodes, Func, Ir}
use Rattle.struct_ir.specs.Valid.{Scope, is_below_if, are_below, is_place, has_counts, counts_of, is_action, is_own_list, is_step, is_list, has_params, is_call, is_act, Around, body_of, latch_of, outside, is_node, are_nodes, scope_of, is_valid}
use Rattle.code_save.specs.inner.Fits.{option_fits, place_fits, action_fits, step_fits, act_fits, node_fits, fits, func_fits}
use Rattle.code_save.specs.Saves.{act_is_seated, node_is_seated, are_seated, is_seated, node_depth, depth, most_of, deepest}

option_in : (n : ℕ) → n < 4294967296 → (o : Option ℕ) → is_below_if n o ≡ true → option_fits o ≡ true
option_in n small None h = refl
option_in n small (Some k) h = let lt : k < n = ltb-true k n h in lt-ltb k 4294967295 (omega arith)

action_in : (x : Scope) (a : Action) → is_action x a ≡ true → action_fits a ≡ true
action_in x (load how) h = refl
action_in x (store how) h = refl
action_in x (copy_bytes align same) h = refl
action_in x malloc h = refl
action_in x calloc h = refl
action_in x realloc h = refl
action_in x free h = refl
action_in x (change how t) h = refl
action_in x (compare t) h = refl
action_in x (print pieces) h = h
action_in x lock h = refl
action_in x unlock h = refl
action_in x destroy h = refl
action_in x (start function) h = refl
action_in x join h = refl

module _ (x : Scope) (small : x.temps < 4294967296) where
  place_in : (a : Place) → is_place x a ≡ true → is_some a.slot ≡ true → place_fits a ≡ true
  place_in a h s =
      let b = (and_parts (nat_lt a.base x.temps) (is_below_if x.temps a.index && is_below_if x.slots a.slot) h).1 in
      and_from (option_fits a.index) (is_some a.slot) (option_in x.temps small a.index (and_parts (is_below_if x.temps a.index) (is_below_if x.slots a.slot) b).0) s

  places_in : (ps : List Place) → list_all (is_place x) ps ≡ true → list_all (λ (a : Place). is_some a.slot) ps ≡ true → list_all place_fits ps ≡ true
  places_in [] h s = refl
  places_in (a ∷ ps) h s =
      let p = and_parts (is_place x a) (list_all (is_place x) ps) h in
      let q = and_parts (is_some a.slot) (list_all (λ (a : Place). is_some a.slot) ps) s in
      and_from (place_fits a) (list_all place_fits ps) (place_in a p.0 q.0) (places_in ps p.1 q.1)

  step_in : (s : Step) → is_step x s ≡ true → list_all (λ (a : Place). is_some a.slot) s.places ≡ true → step_fits s ≡ true
  step_in s h seated =
      let b = and_parts (list_all (is_place x) s.places && (are_below x.temps s.temps && is_below_if x.temps s.to)) (has_counts (counts_of s.action) s && (is_action x s.action && is_own_list x s.action s.slots)) h in
      let places = and_parts (list_all (is_place x) s.places) (are_below x.temps s.temps && is_below_if x.temps s.to) b.0 in
      let to = (and_parts (are_below x.temps s.temps) (is_below_if x.temps s.to) places.1).1 in
      let action = (and_parts (is_action x s.action) (is_own_list x s.action s.slots) (and_parts (has_counts (counts_of s.action) s) (is_action x s.action && is_own_list x s.action s.slots) b.1).1).0 in
      and_from (action_fits s.action) (list_all place_fits s.places && option_fits s.to) (action_in x s.action action)
      (and_from (list_all place_fits s.places) (option_fits s.to) (places_in s.places places.0 seated) (option_in x.temps small s.to to))

  call_in : (c : Call) → is_call x c ≡ true → option_fits c.to ≡ true
  call_in c h =
      let a = (and_parts (is_below_if x.temps c.to && are_below x.temps c.temps) (has_params (slice_get x.params c.function) (length c.temps) && is_list x c.slots) h).0 in
      option_in x.temps small c.to (and_parts (is_below_if x.temps c.to) (are_below x.temps c.temps) a).0

  act_in : (a : Act) → is_act x a ≡ true → act_is_seated a ≡ true → act_fits a ≡ true
  act_in (set to calc) h s = refl
  act_in (call c) h s = call_in c h
  act_in (step s) h seated = step_in s h seated
  act_in (look slot base) h s = refl
  act_in (safepoint slots) h s = refl
  act_in (begin_object i) h s = refl
  act_in (end_object i) h s = refl

  mutual
    node_in : (levels : ℕ) (a : Around) (n : Node) → is_node x a n ≡ true → node_is_seated n ≡ true → node_depth n ≤ levels → node_fits levels n ≡ true
    node_in levels a (plain place act) h s d = act_in act h s
    node_in levels a (if_ place temp one other) h s d =
        let d : max (depth one) (depth other) ≤ levels = d in
        let v = and_parts (are_nodes x a one) (are_nodes x a other) (and_parts (nat_lt temp x.temps) (are_nodes x a one && are_nodes x a other) h).1 in
        let t = and_parts (are_seated one) (are_seated other) s in
        and_from (fits levels one) (fits levels other) (row_in levels a one v.0 t.0 (omega (arith, d))) (row_in levels a other v.1 t.1 (omega (arith, d)))
    node_in levels a (loop place body latch) h s d =
        let d : max (depth body) (depth latch) ≤ levels = d in
        let v = and_parts (are_nodes x body_of body) (are_nodes x latch_of latch) h in
        let t = and_parts (are_seated body) (are_seated latch) s in
        and_from (fits levels body) (fits levels latch) (row_in levels body_of body v.0 t.0 (omega (arith, d))) (row_in levels latch_of latch v.1 t.1 (omega (arith, d)))
    node_in levels a (break_ place) h s d = refl
    node_in levels a (next_ place) h s d = refl
    node_in levels a (ret place temp) h s d = option_in x.temps small temp h

    pub row_in : (levels : ℕ) (a : Around) (ns : Nodes) → are_nodes x a ns ≡ true → are_seated ns ≡ true → depth ns ≤ levels → fits levels ns ≡ true
    row_in levels a no_nodes h s d = refl
    row_in zero a (more_nodes n rest) h s d = absurd (let d : max (suc (node_depth n)) (depth rest) ≤ 0 = d in omega (arith, d))
    row_in (suc levels) a (more_nodes n rest) h s d =
        let d : max (suc (node_depth n)) (depth rest) ≤ suc levels = d in
        let v = and_parts (is_node x a n) (are_nodes x a rest) h in
        let t = and_parts (node_is_seated n) (are_seated rest) s in
        and_from (node_fits levels n) (fits (suc levels) rest) (node_in levels a n v.0 t.0 (omega (arith, d))) (row_in (suc levels) a rest v.1 t.1 (omega (arith, d)))

-- ---- functions

func_in : (p : Ir) (levels : ℕ) (f : Func) → are_nodes (scope_of p f) outside f.nodes ≡ true → are_seated f.nodes ≡ true → depth f.nodes ≤ levels → func_fits levels f ≡ true
func_in p levels f h s d = by (ltb f.temps 4294967296) refl
  where
    by : (b : Bool) → ltb f.temps 4294967296 ≡ b → (not b || fits levels f.nodes) ≡ true
    by true e = row_in (scope_of p f) (ltb-true f.temps 4294967296 e) levels outside f.nodes h s d
    by false e = refl

funcs_in : (p : Ir) (levels : ℕ) (fs : List Func) → list_all (λ f. are_nodes (scope_of p f) outside f.nodes) fs ≡ true → list_all (λ (f : Func). are_seated f.nodes) fs ≡ true
    → most_of (map (λ (f : Func). depth f.nodes) fs) ≤ levels → list_all (func_fits levels) fs ≡ true
funcs_in p levels [] h s d = refl
funcs_in p levels (f ∷ fs) h s d =
    let d : max (depth f.nodes) (most_of (map (λ (f : Func). depth f.nodes) fs)) ≤ levels = d in
    let v = and_parts (are_nodes (scope_of p f) outside f.nodes) (list_all (λ f. are_nodes (scope_of p f) outside f.nodes) fs) h in
    let t = and_parts (are_seated f.nodes) (list_all (λ (f : Func). are_seated f.nodes) fs) s in
    and_from (func_fits levels f) (list_all (func_fits levels) fs) (func_in p levels f v.0 t.0 (omega (arith, d))) (funcs_in p levels fs v.1 t.1 (omega (arith, d)))

pub all_fit : (p : Ir) (levels : ℕ) → is_valid p ≡ true → is_seated p ≡ true → deepest p ≤ levels → list_all (func_fits levels) p.funcs ≡ true
all_fit p levels h s d = funcs_in p levels p.funcs h s d
