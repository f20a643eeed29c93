use Rattle.std.proofs.Common.{◌≡◌, ◌||◌, Bool, if◌then◌else◌, Some, ap, sym, ◌∙◌}
use Rattle.c_tree.specs.SyntaxViews as source
use Rattle.c_tree.specs.Typed.{zero_bytes, node_of}
use Rattle.c_tree.specs.TypedViews.{type_view, expr_view}
use Rattle.c_typing.specs.Rules.{is_zero}
use Rattle.c_typing.specs.Programs.{is_null_word, literal_of, string_at}
use Rattle.type_declared.proofs.initials.pointer_at.Goals.{then-is_null_word, else-is_null_word}
use Rattle.type_declared.proofs.initials.pointer_at.Goals as goal

pub returns-then-is_zero : goal.returns-then-is_zero
returns-then-is_zero c = λ d.
    let z = is_zero (node_of (expr_view c.args.x.now)) in
    let s = string_at (type_view c.args.t.now) (literal_of (node_of (expr_view c.args.x.now))) in
    let is : c.if-is_null_word.value ≡ (is_null_word (source.expr_view c.args.e.now) || z) = elim c.if-is_null_word.branch [
      | then-is_null_word w ↦ w.value-is ∙ w.if-is_null_word.true ∙ ap (λ (b : Bool). b || z) (sym w.if-is_null_word.true ∙ c.is_null_word.ensures)
      | else-is_null_word w ↦ w.value-is ∙ w.is_zero.ensures ∙ ap (λ (b : Bool). b || z) (sym w.if-is_null_word.false ∙ c.is_null_word.ensures)
    ] in
    ap (λ (b : Bool). if b then Some zero_bytes else s) (sym c.if-is_zero.true ∙ is)

pub returns-else-is_zero : goal.returns-else-is_zero
returns-else-is_zero c = λ d.
    let z = is_zero (node_of (expr_view c.args.x.now)) in
    let s = string_at (type_view c.args.t.now) (literal_of (node_of (expr_view c.args.x.now))) in
    let is : c.if-is_null_word.value ≡ (is_null_word (source.expr_view c.args.e.now) || z) = elim c.if-is_null_word.branch [
      | then-is_null_word w ↦ w.value-is ∙ w.if-is_null_word.true ∙ ap (λ (b : Bool). b || z) (sym w.if-is_null_word.true ∙ c.is_null_word.ensures)
      | else-is_null_word w ↦ w.value-is ∙ w.is_zero.ensures ∙ ap (λ (b : Bool). b || z) (sym w.if-is_null_word.false ∙ c.is_null_word.ensures)
    ] in
    c.string_at.ensures ∙ ap (string_at (type_view c.args.t.now)) c.literal_of.ensures ∙ ap (λ (b : Bool). if b then Some zero_bytes else s) (sym c.if-is_zero.false ∙ is)
