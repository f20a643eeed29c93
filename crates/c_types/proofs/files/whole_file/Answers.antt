use Rattle.std.proofs.Common.{map, Vec, Global, Ok, ap, sym, ◌∙◌}
use Rattle.c_tree.specs.SyntaxViews as source
use Rattle.c_tree.specs.TypedViews.{typed_view}
use Rattle.c_tree.specs.declared.typed.Layout.{Layout}
use Rattle.c_tree.specs.declared.typed.Literal.{Literal}
use Rattle.c_tree.specs.declared.typed.Typed.{Typed as CodeTyped}
use Rattle.c_typing.specs.Faults.{typed}
use Rattle.c_typing.specs.Programs.{defined_names, whole_file}
use Rattle.type_context.specs.ContextViews.{context_view}
use Rattle.type_declared.specs.FunctionNames.{IsDefined}
use Rattle.c_types.proofs.Externals.{memory_gives, file_ok, file_err}
use Rattle.c_types.proofs.files.whole_file.Goals as goal

pub returns-in_err-defined : goal.returns-in_err-defined
returns-in_err-defined c =
    memory_gives typed_view c.from_residual.result c.in_err-defined.field-0.0 (whole_file (source.view c.args.file.now) (context_view c.args.context.now)) c.in_err-defined.ensures.memory c.from_residual.ensures.1

pub returns-in_err-made : goal.returns-in_err-made
returns-in_err-made c =
    let begun = context_view c.args.context.now in
    let xs = map source.external_view c.args.file.now.externals.items in
    let names = defined_names begun.text xs in
    let is : IsDefined names c.in_ok-defined.defined = rw c.deref.ensures.value at c.in_ok-defined.ensures.names in
    file_err names xs begun c.externals-made.new.context c.externals-made.result c.main_of-main.result c.in_err-made.field-0.0 c.from_residual-in_err-made.result
    (rw c.deref-2.ensures.value at (c.externals-made.ensures names is)) (c.main_of-main.ensures names is)
    (sym c.both.ensures ∙ c.in_err-made.was) c.from_residual-in_err-made.ensures.1

pub returns : goal.returns
returns c =
    let begun = context_view c.args.context.now in
    let xs = map source.external_view c.args.file.now.externals.items in
    let names = defined_names begun.text xs in
    let is : IsDefined names c.in_ok-defined.defined = rw c.deref.ensures.value at c.in_ok-defined.ensures.names in
    let m = c.externals-made.new.context in
    let made = c.in_ok-made.made in
    let whole : Vec Layout Global → Vec Literal Global → CodeTyped = λ ss ls. record { structs = ss; globals = made.globals; literals = ls; funcs = made.funcs; main = c.in_ok-made.main } in
    file_ok names xs begun m c.externals-made.result c.main_of-main.result (made, c.in_ok-made.main) (Ok (whole c.replace.result c.replace-2.result))
    (rw c.deref-2.ensures.value at (c.externals-made.ensures names is)) (c.main_of-main.ensures names is)
    (sym c.both.ensures ∙ c.in_ok-made.was)
    (sym (ap (λ ss. typed (typed_view (whole ss c.replace-2.result))) c.replace.ensures.value ∙ ap (λ ls. typed (typed_view (whole m.structs ls))) c.replace-2.ensures.value))
