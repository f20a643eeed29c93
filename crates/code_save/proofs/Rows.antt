-- Nodes as they are written.
use Rattle.std.proofs.Common.{◌≡◌, ℕ, suc, ◌-◌, ◌<◌, true, ◌&&◌, List, [], ◌∷◌, map, Result, refl, sym, ap, subst, arith}
use Rattle.std.proofs.lemmas.Bool.{and_from}
use Rattle.std.specs.Prelude.{OnOk}
use Rattle.std.specs.List.{list_all}
use Rattle.ak_words.specs.declared.memory.NoMemory.{NoMemory}
use Rattle.struct_ir.specs.declared.code.Node.{Node as CodeNode}
use Rattle.struct_ir.specs.declared.code.CallNode.{CallNode}
use Rattle.struct_ir.specs.declared.code.NodeKind.{NodeKind}
use Rattle.struct_ir.specs.declared.code.NodeKind.TheVariants as kinds
use Rattle.struct_ir.specs.Nodes.{Node, Nodes, no_nodes, more_nodes}
use Rattle.struct_ir.specs.Views.{call_view, kind_view, node_view, nodes_view}
use Rattle.formats.specs.Formats.{behind, ◌▸◌, u32, list}
use Rattle.code_file.specs.Numbers.{u32_or_none, zeros}
use Rattle.code_file.specs.Files.{make_call, call_parts, call, NodeTag, NodeFields, node_number, node_tag, node_fields, make_node, node_parts, node, list_of, nodes_of, nodes}
use Rattle.code_file.specs.Calls.{node_bare, bare}
use Rattle.code_save.specs.declared.output.Output.{Output}
use Rattle.code_save.specs.inner.Fits.{option_fits, node_fits, fits}
use Rattle.code_save.specs.inner.Written.{Gains, Wrote}
use Rattle.code_save.proofs.Writing.{exactly_is, weaker, behind_wrote, pair_wrote, seen_wrote, tag_wrote}
use Rattle.code_save.proofs.Tags.{one_node_tag, node_again}

pub call_wrote : (c : CallNode) (temps : List ℕ) {a b d e : Output} → temps ≡ c.temps.items → Wrote u32_or_none c.to (option_fits c.to) a b → Wrote u32 c.function true b d → Wrote (list u32) temps true d e
    → Wrote call (make_call (call_parts (call_view c))) (option_fits c.to) a e
unfolding call
call_wrote c temps {d = d} {e = e} t w1 w2 w3 =
    let v3 : Wrote (list u32) c.temps.items true d e = subst (λ xs. Wrote (list u32) xs true d e) t w3 in
    seen_wrote make_call call_parts (u32_or_none ▸ u32 ▸ list u32) (make_call (call_parts (call_view c))) (λ h. refl) (weaker (λ h. and_from (option_fits c.to) true h refl) (pair_wrote w1 (pair_wrote w2 v3)))

-- what stands behind the tag was written
abbrev pub FieldsWrote : (levels : ℕ) → Node → Output → Output → Type 0
FieldsWrote levels n a b = Wrote (node_fields (nodes levels) (node_parts (node_bare n)).1.0) (node_parts (node_bare n)).1.1 (node_fits levels n) a b

pub fields_of : (levels : ℕ) (x m : Node) (r : Result (Unit {0}) NoMemory) (a b : Output) → x ≡ m → OnOk r (FieldsWrote levels m a b) → OnOk r (FieldsWrote levels x a b)
fields_of levels x m r a b e h = subst (λ y. OnOk r (FieldsWrote levels y a b)) (sym e) h

pub node_wrote : (levels : ℕ) (m : Node) (n : ℕ) {a b c d : Output} → n ≡ node_number (node_parts (node_bare m)).1.0 → Wrote u32 (node_parts (node_bare m)).0 true a b → Gains b (n ∷ []) c → FieldsWrote levels m c d
    → Wrote (node (nodes levels)) (node_bare m) (node_fits levels m) a d
unfolding node
node_wrote levels m n e w g f =
    let x = node_bare m in
    let t = (node_parts x).1.0 in
    seen_wrote (λ (y : ℕ × ((t : NodeTag) × NodeFields t)). make_node y.0 y.1.0 y.1.1) node_parts (u32 ▸ behind node_tag (node_fields (nodes levels))) x (λ h. node_again x)
    (pair_wrote w (behind_wrote {B = NodeFields} node_tag (node_fields (nodes levels)) t (node_parts x).1.1 (tag_wrote node_tag t n (one_node_tag t) (ap (λ (k : ℕ). k ∷ []) (sym e)) g) f))

-- the place of a node of the code
pub place_is : (n : CodeNode) → (node_parts (node_bare (node_view n))).0 ≡ n.place
place_is n = by n.place n.kind
  where
    by : (place : ℕ) (k : NodeKind) → (node_parts (node_bare (kind_view place k))).0 ≡ place
    by place (kinds.Set to calc) = refl
    by place (kinds.If' temp shape one shape' other) = refl
    by place (kinds.Loop' shape body shape' latch) = refl
    by place kinds.Break = refl
    by place kinds.Next = refl
    by place (kinds.Call c) = refl
    by place (kinds.Ret temp) = refl
    by place (kinds.Step s) = refl
    by place (kinds.Look slot base) = refl
    by place (kinds.Safepoint slots) = refl
    by place (kinds.Begin i) = refl
    by place (kinds.End i) = refl

-- ---- rows

abbrev pub RowWrote : (levels : ℕ) → Nodes → Output → Output → Type 0
RowWrote levels ns a b = Wrote (nodes levels) (bare ns) (fits levels ns) a b

pub if_wrote : (levels temp : ℕ) (one other ones others : List CodeNode) {a b : Output} → one ≡ ones → other ≡ others → Wrote (u32 ▸ nodes levels ▸ nodes levels) (temp, (bare (nodes_view one), bare (nodes_view other))) (fits levels (nodes_view one) && fits levels (nodes_view other)) a b
    → Wrote (u32 ▸ nodes levels ▸ nodes levels) (temp, (bare (nodes_view ones), bare (nodes_view others))) (fits levels (nodes_view ones) && fits levels (nodes_view others)) a b
if_wrote levels temp one other ones others {a = a} {b = b} e f w =
    subst (λ ys. Wrote (u32 ▸ nodes levels ▸ nodes levels) (temp, (bare (nodes_view ones), bare (nodes_view ys))) (fits levels (nodes_view ones) && fits levels (nodes_view ys)) a b) f
    (subst (λ xs. Wrote (u32 ▸ nodes levels ▸ nodes levels) (temp, (bare (nodes_view xs), bare (nodes_view other))) (fits levels (nodes_view xs) && fits levels (nodes_view other)) a b) e w)

pub loop_wrote : (levels : ℕ) (one other ones others : List CodeNode) {a b : Output} → one ≡ ones → other ≡ others → Wrote (nodes levels ▸ nodes levels) (bare (nodes_view one), bare (nodes_view other)) (fits levels (nodes_view one) && fits levels (nodes_view other)) a b
    → Wrote (nodes levels ▸ nodes levels) (bare (nodes_view ones), bare (nodes_view others)) (fits levels (nodes_view ones) && fits levels (nodes_view others)) a b
loop_wrote levels one other ones others {a = a} {b = b} e f w =
    subst (λ ys. Wrote (nodes levels ▸ nodes levels) (bare (nodes_view ones), bare (nodes_view ys)) (fits levels (nodes_view ones) && fits levels (nodes_view ys)) a b) f
    (subst (λ xs. Wrote (nodes levels ▸ nodes levels) (bare (nodes_view xs), bare (nodes_view other)) (fits levels (nodes_view xs) && fits levels (nodes_view other)) a b) e w)

none_fits : (ns : Nodes) → fits 0 ns ≡ true → no_nodes ≡ bare ns
none_fits no_nodes h = refl
none_fits (more_nodes n rest) h = absurd cc

level_none : (ns : Nodes) {a b : Output} → Gains a (0 ∷ 0 ∷ 0 ∷ 0 ∷ []) b → RowWrote 0 ns a b
unfolding nodes
level_none ns g = record { is = λ h. (exactly_is (zeros 4), none_fits ns h); gains = g }

pub none_wrote : (levels : ℕ) (ns : Nodes) {a b : Output} → levels ≡ 0 → Gains a (0 ∷ 0 ∷ 0 ∷ 0 ∷ []) b → RowWrote levels ns a b
none_wrote levels ns {a = a} {b = b} e g = subst (λ k. RowWrote k ns a b) (sym e) (level_none ns g)

bare_list : (all : List CodeNode) → list_of (bare (nodes_view all)) ≡ map (λ n. node_bare (node_view n)) all
bare_list [] = refl
bare_list (n ∷ all) = ap (λ (r : List Node). node_bare (node_view n) ∷ r) (bare_list all)

list_again : (ns : Nodes) → nodes_of (list_of ns) ≡ ns
list_again no_nodes = refl
list_again (more_nodes n rest) = ap (more_nodes n) (list_again rest)

all_fit : (levels : ℕ) (all : List CodeNode) → fits (suc levels) (nodes_view all) ≡ list_all (λ n. node_fits levels (node_view n)) all
all_fit levels [] = refl
all_fit levels (n ∷ all) = ap (λ b. node_fits levels (node_view n) && b) (all_fit levels all)

row_wrote : (levels : ℕ) (all : List CodeNode) {a b : Output} → Wrote (list (node (nodes levels))) (map (λ n. node_bare (node_view n)) all) (list_all (λ n. node_fits levels (node_view n)) all) a b
    → RowWrote (suc levels) (nodes_view all) a b
unfolding nodes
row_wrote levels all {a = a} {b = b} w =
    let v : Wrote (list (node (nodes levels))) (list_of (bare (nodes_view all))) (fits (suc levels) (nodes_view all)) a b =
    subst (λ xs. Wrote (list (node (nodes levels))) xs (fits (suc levels) (nodes_view all)) a b) (sym (bare_list all))
    (subst (λ p. Wrote (list (node (nodes levels))) (map (λ n. node_bare (node_view n)) all) p a b) (sym (all_fit levels all)) w) in
    seen_wrote nodes_of list_of (list (node (nodes levels))) (bare (nodes_view all)) (λ h. list_again (bare (nodes_view all))) v

pub nodes_wrote : (levels : ℕ) → 0 < levels → (all : List CodeNode) {a b : Output} → Wrote (list (node (nodes (levels - 1)))) (map (λ n. node_bare (node_view n)) all) (list_all (λ n. node_fits (levels - 1) (node_view n)) all) a b
    → RowWrote levels (nodes_view all) a b
nodes_wrote levels h all {a = a} {b = b} w = let e : suc (levels - 1) ≡ levels = omega (arith, h) in subst (λ k. RowWrote k (nodes_view all) a b) e (row_wrote (levels - 1) all w)
