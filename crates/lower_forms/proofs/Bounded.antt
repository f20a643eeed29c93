-- The code of programs is bounded.
use Rattle.std.proofs.Common.{◌≡◌, ℕ, zero, suc, ◌+◌, ◌*◌, ◌≤◌, Bool, true, false, List, [], ◌∷◌, Some, refl, ap, ◌==◌, arith}
use Rattle.std.proofs.lemmas.Option.{same_Some}
use Rattle.std.specs.Prelude.{slice_get}
use Rattle.c_tree.specs.Typed as tree
use Rattle.struct_ir.specs.Nodes.{Func}
use Rattle.lower_forms.specs.Programs.{frame_of, body_frame, registers_of, last_nodes, func_lowered, funcs_lowered}
use Rattle.lower_forms.specs.Sizes.{nodes_in, nested_in, row_size, begun_in}
use Rattle.lower_forms.specs.Laws.{IsBounded, LoweredCodeIsBounded}
use Rattle.lower_forms.proofs.CostStmts.{inside_begun_in, cost_row}
use Rattle.lower_forms.proofs.DeepStmts.{deep_row}

last_few : (b : Bool) (n : ℕ) → nodes_in (last_nodes b n) ≤ 2
last_few true zero = omega arith
last_few true (suc n) = omega arith
last_few false n = omega arith

last_flat : (b : Bool) (n : ℕ) → nested_in (last_nodes b n) ≤ 1
last_flat true zero = omega arith
last_flat true (suc n) = omega arith
last_flat false n = omega arith

enough : (m s n : ℕ) → n ≤ (8 + 2 * m) * s + 2 → n ≤ 16 * (s + 1) * (m + 1)
enough m s n h = grind (arith, h)

bounded : (structs : List tree.Layout) (b : Bool) (f : tree.Func) → IsBounded structs f (func_lowered structs b f)
bounded structs b f =
    let m = begun_in (frame_of structs f) f.body in
    let c = cost_row m (body_frame structs f) f.body [] (last_nodes b (registers_of f)) (omega (arith, inside_begun_in (frame_of structs f) f.body)) in
    let d = deep_row (body_frame structs f) f.body [] (last_nodes b (registers_of f)) in
    record {
      registers = omega arith;
      objects = refl;
      nodes = enough m (row_size f.body) _ (omega (arith, c.most, last_few b (registers_of f)));
      nested = omega (arith, d.most, last_flat b (registers_of f));
    }

all_bounded : (structs : List tree.Layout) (main i : ℕ) (fs : List tree.Func) (n : ℕ) (f : tree.Func) → slice_get fs n ≡ Some f
    → (g : Func) × (slice_get (funcs_lowered structs main i fs) n ≡ Some g) × IsBounded structs f g
all_bounded structs main i [] n f e = absurd cc
all_bounded structs main i (h ∷ fs) zero f e =
    (func_lowered structs (i == main) f, ap (λ k. Some (func_lowered structs (i == main) k)) (same_Some _ _ e), bounded structs (i == main) f)
all_bounded structs main i (h ∷ fs) (suc n) f e = all_bounded structs main (suc i) fs n f e

pub lowered_code_is_bounded : LoweredCodeIsBounded
lowered_code_is_bounded t n f e = all_bounded t.structs t.main 0 t.funcs n f e
