use Rattle.std.proofs.Common.{subst, sym}
use Rattle.std.specs.Option.{option_map}
use Rattle.c_tree.specs.SyntaxViews.{body_view}
use Rattle.c_typing.specs.Faults.{Judged}
use Rattle.c_typing.specs.Programs.{not_library, once, before_name, first_time, is_new, one_body}
use Rattle.type_context.specs.ContextViews.{context_view}
use Rattle.type_context.specs.Telling.{Says, both_fine}
use Rattle.type_declared.proofs.Defining.{fine_pairs}
use Rattle.type_declared.proofs.functions.name_fine.Goals as goal

pub returns : goal.returns
returns c = λ names h.
    let d = context_view c.args.context.now in
    let n = c.args.name in
    let free = not_library d n in
    let before = once n.from (before_name d n) in
    let first = first_time d names n (is_new (before_name d n)) in
    let body = one_body d n (option_map body_view c.args.body.now) in
    subst (λ (j : Judged (Unit {0})). Says (λ (u : Unit {0}). u) c.both_fine-2.result j) (sym (fine_pairs free before first body))
    (c.both_fine-2.ensures (both_fine free before) (both_fine first body)
    (c.both_fine-free.ensures free before c.not_library.ensures (rw c.before_name-before.ensures at c.once.ensures))
    (c.both_fine.ensures first body (rw (c.is_new.ensures, c.before_name-before.ensures) at (c.first_time-first.ensures names h)) c.one_body.ensures))
