use Rattle.std.proofs.Common.{ap, ◌∙◌}
use Rattle.std.specs.Map.{lookup}
use Rattle.std.specs.Str.{bytes_eq}
use Rattle.type_context.specs.ContextViews.{frame_view}
use Rattle.type_context.proofs.Lookups.{seen_lookup}
use Rattle.type_declared.proofs.functions.before_name.Goals as goal

pub returns : goal.returns
returns c =
    let entries = c.args.context.now.inner.entries in
    seen_lookup c.bytes.result.now entries _ c.get.ensures.value ∙ ap (λ q. lookup (bytes_eq q) (frame_view entries)) c.bytes.ensures
