-- What a node is, by its kind; and rows, taken from their ends.
use Rattle.std.proofs.lemmas.Grind.{common_steps}
use Rattle.std.proofs.lemmas.List.{take_more}
use Rattle.std.proofs.Common.{◌≡◌, ℕ, ◌+◌, ◌-◌, ◌<◌, ◌≤◌, List, [], ◌∷◌, ◌++◌, length, take, get_or, take_all, sym, ap, ◌∙◌, append_assoc, arith}
use Rattle.std.specs.Global.{Vec}
use Rattle.struct_ir.specs.declared.code.Node.{Node as CodeNode}
use Rattle.struct_ir.specs.declared.code.NodeKind.TheViews as views
use Rattle.struct_ir.specs.Structured.{node_size, row_size}
use Rattle.struct_ir.specs.Views.{node_view, nodes_view}
use Rattle.struct_ir.proofs.Views.{if_is, loop_is}
use Rattle.emit_code.specs.inner.Layout.{node_long, long}

-- ---- how much there is to go through

pub if_size : (n : CodeNode) (temp : ℕ) (v w : Vec CodeNode) → n.kind ≡ views.If temp v w → node_size (node_view n) ≡ row_size (nodes_view v.items) + row_size (nodes_view w.items) + 1
if_size n temp v w e = ap node_size (if_is n temp v w e)

pub loop_size : (n : CodeNode) (v w : Vec CodeNode) → n.kind ≡ views.Loop v w → node_size (node_view n) ≡ row_size (nodes_view v.items) + row_size (nodes_view w.items) + 4
loop_size n v w e = ap node_size (loop_is n v w e)

pub if_long : (n : CodeNode) (temp : ℕ) (v w : Vec CodeNode) → n.kind ≡ views.If temp v w → node_long (node_view n) ≡ 1 + long (nodes_view v.items) + 1 + long (nodes_view w.items)
if_long n temp v w e = ap node_long (if_is n temp v w e)

pub loop_long : (n : CodeNode) (v w : Vec CodeNode) → n.kind ≡ views.Loop v w → node_long (node_view n) ≡ long (nodes_view v.items) + long (nodes_view w.items) + 1
loop_long n v w e = ap node_long (loop_is n v w e)

-- ---- a row by its last item and those before it

last_of : (left : List CodeNode) (x : CodeNode) → 1 ≤ length left → x ≡ get_or left (length left - 1) x → left ≡ take (length left - 1) left ++ (x ∷ [])
last_of left x le e =
    let m = take_more left (length left - 1) x (omega arith) in
    let k : (length left - 1) + 1 ≡ length left = omega arith in
    let a : take (length left) left ≡ left = grind (arith, common_steps, take_all) in
    sym a ∙ ap (λ n. take n left) (sym k) ∙ m ∙ ap (λ y. take (length left - 1) left ++ (y ∷ [])) (sym e)

step_back : (all left rest : List CodeNode) (x : CodeNode) → 1 ≤ length left → x ≡ get_or left (length left - 1) x → all ≡ left ++ rest → all ≡ take (length left - 1) left ++ (x ∷ rest)
step_back all left rest x le e f = let l = last_of left x le e in f ∙ ap (λ y. y ++ rest) l ∙ append_assoc (take (length left - 1) left) (x ∷ []) rest

size_item : (front rest : List CodeNode) (x : CodeNode) → node_size (node_view x) < row_size (nodes_view (front ++ (x ∷ rest)))
size_item [] rest x = omega arith
size_item (y ∷ front) rest x = let h = size_item front rest x in omega arith

pub size_back : (all left rest : List CodeNode) (x : CodeNode) → 1 ≤ length left → x ≡ get_or left (length left - 1) x → all ≡ left ++ rest → node_size (node_view x) < row_size (nodes_view all)
size_back all left rest x le e f = rw (step_back all left rest x le e f) (size_item (take (length left - 1) left) rest x)

long_item : (front rest : List CodeNode) (x : CodeNode) → node_long (node_view x) + long (nodes_view rest) ≤ long (nodes_view (front ++ (x ∷ rest)))
long_item [] rest x = omega arith
long_item (y ∷ front) rest x = let h = long_item front rest x in omega (arith, h)

pub long_back : (all left rest : List CodeNode) (x : CodeNode) → 1 ≤ length left → x ≡ get_or left (length left - 1) x → all ≡ left ++ rest → node_long (node_view x) + long (nodes_view rest) ≤ long (nodes_view all)
long_back all left rest x le e f = rw (step_back all left rest x le e f) (long_item (take (length left - 1) left) rest x)
