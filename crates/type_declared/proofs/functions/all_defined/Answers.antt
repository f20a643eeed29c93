use Rattle.std.proofs.Common.{◌≡◌, ◌+◌, ◌++◌, [], ◌∷◌, ap, sym, subst, ◌∙◌, map, take, append-nil}
use Rattle.c_tree.specs.SyntaxViews.{external_view}
use Rattle.c_typing.specs.Programs.{defined_by, defined_names}
use Rattle.type_declared.specs.FunctionNames.{IsDefined}
use Rattle.type_declared.proofs.Defining.{names_more}
use Rattle.type_declared.proofs.functions.all_defined.Goals.{in-Some+in_ok-define, in_default}
use Rattle.type_declared.proofs.functions.all_defined.Goals as goal

pub externals-preserved : goal.externals-preserved
externals-preserved c =
    let text = c.args.context.now.text.now in
    let xs = c.args.externals.now in
    let i = c.externals.x-index in
    let x = c.x-item.result in
    let names = defined_names text (map external_view (take i xs)) in
    let more : defined_names text (map external_view (take (i + 1) xs)) ≡ names ++ defined_by text (external_view x) =
    names_more text xs i x c.externals-test.true ∙ ap (λ y. names ++ defined_by text (external_view y)) (sym c.x-item.is) in
    elim c.match-defined_by.branch [
      | in-Some+in_ok-define w ↦
          subst (λ d. IsDefined (defined_names text (map external_view (take (i + 1) xs))) d) (sym w.defined-is)
          (subst (λ ns. IsDefined ns w.define.new.self) (ap (λ b. names ++ b ∷ []) w.bytes.ensures ∙ ap (λ l. names ++ l) (w.in-Some.ensures text) ∙ sym more) (w.in_ok-define.ensures.after names c.externals.invariant))
      | in_default w ↦
          subst (λ d. IsDefined (defined_names text (map external_view (take (i + 1) xs))) d) (sym w.defined-is)
          (subst (λ ns. IsDefined ns c.externals.defined) (sym (append-nil names) ∙ ap (λ l. names ++ l) (w.in_default.ensures text) ∙ sym more) c.externals.invariant)
    ]
