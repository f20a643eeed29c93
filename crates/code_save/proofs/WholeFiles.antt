-- Functions, globals and files as they are written.
use Rattle.std.proofs.Common.{◌≡◌, ℕ, ◌<◌, ◌^◌, Bool, true, false, not, ◌||◌, ltb, List, map, refl, subst, arith}
use Rattle.std.proofs.lemmas.Bool.{lt-ltb}
use Rattle.std.specs.List.{list_all}
use Rattle.c_tree.specs.Typed.{Init}
use Rattle.c_tree.specs.TypedViews.{init_view, literal_view}
use Rattle.c_tree.specs.declared.typed.Literal.{Literal}
use Rattle.struct_ir.specs.declared.code.Node.{Node as CodeNode}
use Rattle.struct_ir.specs.declared.code.StackObject.{StackObject as CodeObject}
use Rattle.struct_ir.specs.declared.code.IrGlobal.{IrGlobal}
use Rattle.struct_ir.specs.declared.code.IrFunc.{IrFunc}
use Rattle.struct_ir.specs.declared.ir.Ir.{Ir as CodeIr}
use Rattle.struct_ir.specs.Nodes.{StackObject, Global, Func}
use Rattle.struct_ir.specs.Views.{nodes_view, object_view, global_view, func_view}
use Rattle.struct_ir.specs.WholeViews.{ir_view}
use Rattle.formats.specs.Formats.{◌▸◌, byte, u32, exactly, list}
use Rattle.formats.proofs.Made.{number_below}
use Rattle.code_file.specs.Files.{nodes, object, make_func, func_parts, func, init, global, make_file, file_parts, begins_file, file}
use Rattle.code_file.specs.Calls.{bare, func_bare, ir_bare}
use Rattle.code_save.specs.declared.output.Output.{Output}
use Rattle.code_save.specs.inner.Fits.{fits, func_fits}
use Rattle.code_save.specs.inner.Written.{Gains, Wrote}
use Rattle.code_save.proofs.Writing.{weaker, pair_wrote, seen_wrote, exactly_wrote}

pub object_wrote : (o : CodeObject) {a b c : Output} → Wrote u32 o.size true a b → Wrote byte o.align true b c → Wrote object (object_view o) true a c
unfolding object
object_wrote o w1 w2 = seen_wrote (λ (x : ℕ × ℕ). record { size = x.0; align = x.1 }) (λ (o : StackObject). (o.size, o.align)) (u32 ▸ byte) (object_view o) (λ h. refl) (pair_wrote w1 w2)

pub global_wrote : (g : IrGlobal) {a b c d : Output} → Wrote u32 g.size true a b → Wrote byte g.align true b c → Wrote init (init_view g.init) true c d → Wrote global (global_view g) true a d
unfolding global
global_wrote g w1 w2 w3 =
    seen_wrote (λ (x : ℕ × (ℕ × Init)). record { size = x.0; align = x.1.0; init = x.1.1 }) (λ (g : Global). (g.size, (g.align, g.init))) (u32 ▸ byte ▸ init) (global_view g) (λ h. refl) (pair_wrote w1 (pair_wrote w2 w3))

small_temps : (n : ℕ) → u32.Is n → n < 4294967296
unfolding u32
small_temps n is = let below : n < 256 ^ 4 = number_below 4 n is in omega (arith, below)

nodes_fit : (levels : ℕ) (f : Func) → u32.Is f.temps → func_fits levels f ≡ true → fits levels f.nodes ≡ true
nodes_fit levels f is h = by (ltb f.temps 4294967296) (lt-ltb f.temps 4294967296 (small_temps f.temps is)) h
  where
    by : (b : Bool) → b ≡ true → (not b || fits levels f.nodes) ≡ true → fits levels f.nodes ≡ true
    by true e h = h
    by false e h = absurd cc

pub func_wrote : (levels : ℕ) (f : IrFunc) (os : List CodeObject) (ns : List CodeNode) {a b c d e g : Output} → os ≡ f.objects.items → ns ≡ f.nodes.items
    → Wrote u32 f.params true a b → Wrote u32 f.temps true b c → Wrote u32 f.slots true c d → Wrote (list object) (map object_view os) true d e → Wrote (nodes levels) (bare (nodes_view ns)) (fits levels (nodes_view ns)) e g
    → Wrote (func levels) (func_bare (func_view f)) (func_fits levels (func_view f)) a g
unfolding func
func_wrote levels f os ns {d = d} {e = e} {g = g} o n w1 w2 w3 w4 w5 =
    let v4 : Wrote (list object) (map object_view f.objects.items) true d e = subst (λ xs. Wrote (list object) (map object_view xs) true d e) o w4 in
    let v5 : Wrote (nodes levels) (bare (nodes_view f.nodes.items)) (fits levels (nodes_view f.nodes.items)) e g = subst (λ xs. Wrote (nodes levels) (bare (nodes_view xs)) (fits levels (nodes_view xs)) e g) n w5 in
    seen_wrote make_func func_parts (u32 ▸ u32 ▸ u32 ▸ list object ▸ nodes levels) (func_bare (func_view f)) (λ h. refl)
    (weaker (nodes_fit levels (func_view f) (w2.is refl)) (pair_wrote w1 (pair_wrote w2 (pair_wrote w3 (pair_wrote v4 v5)))))

pub file_wrote : (levels : ℕ) (x : CodeIr) (gs : List IrGlobal) (ls : List Literal) (fs : List IrFunc) {a b c d e g : Output} → gs ≡ x.globals.items → ls ≡ x.literals.items → fs ≡ x.funcs.items
    → Gains a begins_file b → Wrote u32 x.main true b c → Wrote (list global) (map global_view gs) true c d → Wrote (list (list byte)) (map literal_view ls) true d e
    → Wrote (list (func levels)) (map func_bare (map func_view fs)) (list_all (func_fits levels) (map func_view fs)) e g
    → Wrote (file levels) (ir_bare (ir_view x)) (list_all (func_fits levels) (ir_view x).funcs) a g
unfolding file
file_wrote levels x gs ls fs {c = c} {d = d} {e = e} {g = g} p q r w1 w2 w3 w4 w5 =
    let v3 : Wrote (list global) (map global_view x.globals.items) true c d = subst (λ xs. Wrote (list global) (map global_view xs) true c d) p w3 in
    let v4 : Wrote (list (list byte)) (map literal_view x.literals.items) true d e = subst (λ xs. Wrote (list (list byte)) (map literal_view xs) true d e) q w4 in
    let v5 : Wrote (list (func levels)) (map func_bare (map func_view x.funcs.items)) (list_all (func_fits levels) (map func_view x.funcs.items)) e g =
    subst (λ xs. Wrote (list (func levels)) (map func_bare (map func_view xs)) (list_all (func_fits levels) (map func_view xs)) e g) r w5 in
    seen_wrote make_file file_parts (exactly begins_file ▸ u32 ▸ list global ▸ list (list byte) ▸ list (func levels)) (ir_bare (ir_view x)) (λ h. refl)
    (pair_wrote (exactly_wrote begins_file w1) (pair_wrote w2 (pair_wrote v3 (pair_wrote v4 v5))))
