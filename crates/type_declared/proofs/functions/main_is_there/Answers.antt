use Rattle.std.proofs.Common.{◌≡◌, ◌&&◌, true, false, ap, sym, ◌∙◌}
use Rattle.std.specs.List.{list_any}
use Rattle.std.specs.Map.{lookup}
use Rattle.std.specs.Str.{bytes_eq}
use Rattle.c_typing.specs.Programs.{is_main}
use Rattle.type_context.specs.ContextViews.{frame_view}
use Rattle.type_context.proofs.Lookups.{seen_lookup}
use Rattle.type_declared.proofs.functions.main_is_there.Goals as goal

pub returns-then-is_main : goal.returns-then-is_main
returns-then-is_main c = λ names h.
    let q = c.args.name.now in
    let es = c.args.context.now.inner.entries in
    let is : is_main (lookup (bytes_eq q) (frame_view es)) ≡ true = ap is_main (sym (seen_lookup q es c.get.result c.get.ensures.value)) ∙ sym c.is_main.ensures ∙ c.if-is_main.true in
    c.has.ensures names h ∙ ap (λ b. b && list_any (bytes_eq q) names) (sym is)

pub returns-else-is_main : goal.returns-else-is_main
returns-else-is_main c = λ names h.
    let q = c.args.name.now in
    let es = c.args.context.now.inner.entries in
    let is : is_main (lookup (bytes_eq q) (frame_view es)) ≡ false = ap is_main (sym (seen_lookup q es c.get.result c.get.ensures.value)) ∙ sym c.is_main.ensures ∙ c.if-is_main.false in
    c.if-is_main.false ∙ ap (λ b. b && list_any (bytes_eq q) names) (sym is)
