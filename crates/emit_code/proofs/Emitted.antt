-- The linear code of a program means what the program means.
use Rattle.std.proofs.Common.{◌≡◌, ℕ, zero, suc, ◌+◌, ◌*◌, ◌≤◌, List, [], ◌∷◌, length, map, Option, None, refl, ap, subst, arith, append-nil, inl}
use Rattle.std.specs.Prelude.{slice_get}
use Rattle.std.proofs.lemmas.List.Sums.{sum_by-cons}
use Rattle.struct_ir.specs.Nodes.{Nodes, no_nodes, Func, Ir}
use Rattle.struct_ir.specs.Structured.{done, then_, structured, nodes_of, start_of}
use Rattle.struct_ir.specs.Instrs.{Instr, leave, LinearFunc, instrs_if, instr_count}
use Rattle.struct_ir.specs.Linear.{instr_here, linear, entry_of}
use Rattle.struct_ir.proofs.Sizes.{structured_shrinks}
use Rattle.struct_ir.proofs.Follows.{follows_mirrors, follows_safe}
use Rattle.struct_ir.proofs.Lawful.{lawful_code_shrinks}
use Rattle.struct_ir.proofs.Level.{same_events}
use Rattle.struct_ir.proofs.Mirrors.{mirrors_runs}
use Rattle.pin_flow.proofs.Starts.{each_start}
use Rattle.emit_code.specs.inner.Layout.{long, emit, instrs_for, func_linear, linear_of}
use Rattle.emit_code.specs.inner.Holds.{Holds}
use Rattle.struct_ir.specs.Stands.{StandsAt, StandsIn}
use Rattle.struct_ir.specs.Emitted.{row_count, nodes_count, SameFrames, IsEmitted, LinearCodeKeepsRuns, LinearCodeKeepsEvents}
use Rattle.emit_code.proofs.Holding.{has_all, has_front}
use Rattle.emit_code.proofs.Lying.{row_lies}
use Rattle.emit_code.proofs.Short.{code_short}
use Rattle.emit_code.proofs.Looks.{looks_same}
use Rattle.emit_code.proofs.Lawful.{last_leaves}
use Rattle.emit_code.proofs.Keeps.{follows}

-- ---- where functions begin

row_starts : (nodes : Nodes) → StandsAt (instrs_for nodes) 0 (then_ nodes done)
row_starts nodes =
    let e = emit 0 (long nodes) (long nodes) nodes in
    let whole = subst (λ x. Holds x 0 (instrs_for nodes)) (append-nil (instrs_for nodes)) (has_all (instrs_for nodes) [] []) in
    let front = has_front (instrs_for nodes) 0 e (leave 0 None ∷ []) whole in
    let z : 0 + long nodes ≡ long nodes = omega arith in
    record { out = long nodes; next = long nodes; stands = (0 + long nodes, long nodes, row_lies (instrs_for nodes) nodes 0 (long nodes) (long nodes) front, inl z, (ap (λ (o : Option Instr). instr_here o) (last_leaves nodes), refl, refl)) }

none_starts : StandsAt [] 0 (then_ no_nodes done)
none_starts = record { out = 0; next = 0; stands = (0, 0, refl, inl refl, (refl, refl, refl)) }

func_starts : (funcs : List Func) (f : ℕ) → StandsAt (instrs_if (slice_get (map func_linear funcs) f)) 0 (then_ (nodes_of (slice_get funcs f)) done)
func_starts [] f = none_starts
func_starts (x ∷ funcs) zero = row_starts x.nodes
func_starts (x ∷ funcs) (suc f) = func_starts funcs f

-- ---- frames and counts

same_frames : (funcs : List Func) → SameFrames funcs (map func_linear funcs)
same_frames [] = tt
same_frames (f ∷ funcs) = ((refl, refl, refl, refl), same_frames funcs)

counts_short : (funcs : List Func) → instr_count (map func_linear funcs) ≤ 2 * nodes_count funcs + length funcs
counts_short [] = omega arith
counts_short (f ∷ funcs) =
    let a = sum_by-cons (λ (g : LinearFunc). length g.instrs) (func_linear f) (map func_linear funcs) in
    let b = sum_by-cons (λ (g : Func). row_count g.nodes) f funcs in
    let c = code_short f.nodes in
    let d = counts_short funcs in
    omega (arith, a, b, c, d)

-- ---- the whole

pub emitted : (p : Ir) → IsEmitted p (linear_of p)
emitted p =
    let funcs = map func_linear p.funcs in
    record {
      globals = refl;
      literals = refl;
      main = refl;
      frames = same_frames p.funcs;
      follows = follows funcs;
      starts = func_starts p.funcs;
      safe = λ all f. follows_safe structured structured_shrinks (linear funcs) (StandsIn funcs) (follows funcs) (start_of p.funcs f) (entry_of f) (func_starts p.funcs f) (each_start p.funcs all f);
      short = counts_short p.funcs;
      looks = looks_same p.funcs;
    }

pub linear_code_keeps_runs : (L F : Type 0) → LinearCodeKeepsRuns L F
linear_code_keeps_runs L F p code emitted lawful M idle =
    mirrors_runs structured (linear code.funcs) structured_shrinks (lawful_code_shrinks code.funcs lawful) M (StandsIn code.funcs)
    (follows_mirrors structured (linear code.funcs) M (StandsIn code.funcs) idle emitted.follows)

pub linear_code_keeps_events : (L F S A : Type 0) → LinearCodeKeepsEvents L F S A
linear_code_keeps_events L F S A p code emitted lawful M W idle =
    same_events structured (linear code.funcs) structured_shrinks (lawful_code_shrinks code.funcs lawful) M W (StandsIn code.funcs)
    (follows_mirrors structured (linear code.funcs) M (StandsIn code.funcs) idle emitted.follows) (start_of p.funcs) entry_of emitted.starts
