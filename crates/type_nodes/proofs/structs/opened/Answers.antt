use Rattle.std.proofs.Common.{subst}
use Rattle.std.specs.Prelude.{not}
use Rattle.c_lex.specs.declared.refusal.Kind.TheVariants.{DoubleName}
use Rattle.c_typing.specs.Faults.{Judged, unless}
use Rattle.c_typing.specs.Scope.{tag_number, is_begun}
use Rattle.c_typing.specs.Judgement.{is_no_enum, braces_fit}
use Rattle.type_context.specs.ContextViews.{context_view}
use Rattle.type_context.specs.Telling.{Says, both_fine}
use Rattle.type_nodes.proofs.Braces.{three_fine}
use Rattle.type_nodes.proofs.structs.opened.Goals as goal

pub returns : goal.returns
returns c = λ is.
    let d = context_view c.args.context.now in
    let t = c.args.tag in
    let none = is_no_enum d t in
    let fit = braces_fit d t.from in
    let once : Says (λ _. tt) c.unless-once.result (unless t.from DoubleName (not (is_begun d (tag_number d t)))) = rw (c.is_begun.ensures, is) at c.unless-once.ensures in
    let two = c.both_fine-others.ensures none fit c.is_no_enum.ensures c.braces_fit.ensures in
    subst (λ (j : Judged (Unit {0})). Says (λ _. tt) c.both_fine.result j) (three_fine (unless t.from DoubleName (not (is_begun d (tag_number d t)))) none fit)
    (c.both_fine.ensures (unless t.from DoubleName (not (is_begun d (tag_number d t)))) (both_fine none fit) once two)
