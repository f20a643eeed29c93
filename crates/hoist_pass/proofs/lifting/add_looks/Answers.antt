use Rattle.std.proofs.Common.{◌&&◌, ℕ, Bool, get_or, refl, ap, ◌∙◌, arith}
use Rattle.std.specs.Prelude.{not}
use Rattle.struct_ir.specs.Nodes.{plain, look}
use Rattle.struct_ir.specs.Erased.{put}
use Rattle.struct_ir.specs.Views.{followed}
use Rattle.mark_sets.specs.Words.{has}
use Rattle.hoist_pass.proofs.LiftedRows.{looks_step, looks_over}
use Rattle.hoist_pass.proofs.lifting.add_looks.Goals as goal

pub bases-preserved : goal.bases-preserved
bases-preserved c = λ rest.
    let wanted : ℕ → Bool = λ i. has c.args.seen.now.looks.items i && not (has c.args.seen.now.assigns.items i) in
    let b = get_or c.args.bases.now c.bases.i 0 in
    looks_step wanted c.args.place c.bases.i c.args.bases.now b c.bases.out.items c.add_look.new.out.items rest _ (omega arith) refl
    (λ r. c.in_ok-add_look.ensures r ∙ ap (λ w. followed c.bases.out.items (put w (plain c.args.place (look c.bases.i b)) r)) c.is_wanted.ensures) (c.bases.invariant rest)

pub returns : goal.returns
returns c = λ rest.
    let wanted : ℕ → Bool = λ i. has c.args.seen.now.looks.items i && not (has c.args.seen.now.assigns.items i) in
    looks_over wanted c.args.place c.bases.i c.args.bases.now c.bases.out.items rest _ (omega arith) (c.bases.invariant rest)
