-- Code that was placed is what filling gives of it without its lists.
use Rattle.std.proofs.Common.{◌≡◌, ℕ, List, [], ◌∷◌, Option, None, Some, true, ◌&&◌, eqb, map, refl, ap, ◌∙◌, arith}
use Rattle.std.specs.Prelude.{is_some}
use Rattle.std.specs.List.{list_all}
use Rattle.std.proofs.lemmas.Bool.{and_parts}
use Rattle.std.proofs.lemmas.Bool.Decides.{nat_tests}
use Rattle.struct_ir.specs.Nodes.{Act, set, call, step, look, safepoint, begin_object, end_object, Node, plain, if_, loop, break_, next_, ret, Nodes, no_nodes, more_nodes, Func, Ir}
use Rattle.struct_ir.specs.Valid.{list_at, first_list, last_list, same_slots, is_the_list, act_is_placed, node_is_placed, are_placed}
use Rattle.struct_ir.specs.Placed.{all_placed}
use Rattle.code_file.specs.Calls.{slots_in, act_with, node_filled, filled, func_filled, ir_filled, node_bare, bare, func_bare, ir_bare}

-- of two equal parts
joined : {A B C : Type 0} (f : A → B → C) {a a' : A} {b b' : B} → a ≡ a' → b ≡ b' → f a b ≡ f a' b'
joined f {a' = a'} {b = b} e d = ap (λ x. f x b) e ∙ ap (f a') d

same_number : (x y : ℕ) → eqb x y ≡ true → x ≡ y
same_number x y e = grind (arith, nat_tests)

-- lists of the same slots are one list
pub one_list : (xs ys : List ℕ) → same_slots xs ys ≡ true → xs ≡ ys
one_list [] [] e = refl
one_list [] (y ∷ ys) e = absurd cc
one_list (x ∷ xs) [] e = absurd cc
one_list (x ∷ xs) (y ∷ ys) e =
    let p = and_parts (eqb x y) (same_slots xs ys) e in
    joined (λ a l. a ∷ l) (same_number x y p.0) (one_list xs ys p.1)

-- a call's list is that of the safepoint before it
its_list : (before : Option (List ℕ)) (slots : List ℕ) → is_the_list before slots ≡ true → slots_in before ≡ slots
its_list None slots e = absurd cc
its_list (Some list) slots e = one_list list slots e

act_back : (before : Option (List ℕ)) (a : Act) (rest : Nodes) → act_is_placed before a rest ≡ true → act_with (slots_in before) (act_with [] a) ≡ a
act_back before (set to calc) rest e = refl
act_back before (call c) rest e =
    let p = and_parts (is_the_list before c.slots) (is_some (first_list rest)) e in
    ap (λ l. call (record { to = c.to; function = c.function; temps = c.temps; slots = l })) (its_list before c.slots p.0)
act_back before (step s) rest e = refl
act_back before (look slot base) rest e = refl
act_back before (safepoint slots) rest e = refl
act_back before (begin_object i) rest e = refl
act_back before (end_object i) rest e = refl

list_stays : (n : Node) → list_at (node_bare n) ≡ list_at n
list_stays (plain place (set to calc)) = refl
list_stays (plain place (call c)) = refl
list_stays (plain place (step s)) = refl
list_stays (plain place (look slot base)) = refl
list_stays (plain place (safepoint slots)) = refl
list_stays (plain place (begin_object i)) = refl
list_stays (plain place (end_object i)) = refl
list_stays (if_ place temp one other) = refl
list_stays (loop place body latch) = refl
list_stays (break_ place) = refl
list_stays (next_ place) = refl
list_stays (ret place temp) = refl

mutual
  node_back : (before : Option (List ℕ)) (n : Node) (rest : Nodes) → node_is_placed before n rest ≡ true → node_filled before (node_bare n) ≡ n
  node_back before (plain place a) rest e = ap (plain place) (act_back before a rest e)
  node_back before (if_ place temp one other) rest e =
      let p = and_parts (are_placed None one) (are_placed None other) e in
      joined (if_ place temp) (row_back None one p.0) (row_back None other p.1)
  node_back before (loop place body latch) rest e =
      let p = and_parts (are_placed None body) (are_placed None latch && is_some (last_list None latch)) e in
      let q = and_parts (are_placed None latch) (is_some (last_list None latch)) p.1 in
      joined (loop place) (row_back None body p.0) (row_back None latch q.0)
  node_back before (break_ place) rest e = refl
  node_back before (next_ place) rest e = refl
  node_back before (ret place temp) rest e = refl

  -- a row
  pub row_back : (before : Option (List ℕ)) (ns : Nodes) → are_placed before ns ≡ true → filled before (bare ns) ≡ ns
  row_back before no_nodes e = refl
  row_back before (more_nodes n rest) e =
      let p = and_parts (node_is_placed before n rest) (are_placed (list_at n) rest) e in
      joined more_nodes (node_back before n rest p.0) (ap (λ b. filled b (bare rest)) (list_stays n) ∙ row_back (list_at n) rest p.1)

funcs_back : (fs : List Func) → list_all (λ f. are_placed None f.nodes) fs ≡ true → map func_filled (map func_bare fs) ≡ fs
funcs_back [] e = refl
funcs_back (f ∷ fs) e =
    let p = and_parts (are_placed None f.nodes) (list_all (λ g. are_placed None g.nodes) fs) e in
    joined (λ (ns : Nodes) (l : List Func). record { params = f.params; temps = f.temps; slots = f.slots; objects = f.objects; nodes = ns } ∷ l) (row_back None f.nodes p.0) (funcs_back fs p.1)

-- a program
pub program_back : (p : Ir) → all_placed p ≡ true → ir_filled (ir_bare p) ≡ p
program_back p e = ap (λ (fs : List Func). record { globals = p.globals; literals = p.literals; funcs = fs; main = p.main }) (funcs_back p.funcs e)
