use Rattle.std.proofs.Common.{ℤ, List, ap, ◌∙◌, to_z, of_z}
use Rattle.std.specs.Int.{w128}
use Rattle.std.proofs.lemmas.Int.{to_z-of_z}
use Rattle.std.specs.List.{list_any}
use Rattle.c_tree.specs.declared.typed.Label.{Label}
use Rattle.c_tree.specs.TypedViews.{label_view}
use Rattle.c_types.specs.inner.Switches.{is_case}
use Rattle.c_types.proofs.LabelRows.{any_value}
use Rattle.c_types.proofs.switches.Entries.has_value.Goals as goal

pub returns : goal.returns
returns c =
    c.any_case.ensures ∙ ap (λ (ls : List Label). list_any (λ l. is_case (to_z w128 (of_z w128 c.args.z)) (label_view l)) ls) c.deref.ensures.value
    ∙ ap (λ (z : ℤ). list_any (λ l. is_case z (label_view l)) c.args.self.now.labels.items) (to_z-of_z w128 c.args.z c.ranges.z)
    ∙ any_value c.args.z c.args.self.now.labels.items
