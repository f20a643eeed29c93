-- What the name of a type tells, by what its declarator came to.
use Rattle.std.proofs.Common.{◌≡◌, false, Result, Ok, Err, ap, subst, ◌∙◌}
use Rattle.c_lex.specs.declared.refusal.CompileFault.{CompileFault}
use Rattle.c_lex.specs.declared.refusal.CompileFault.TheVariants.{Refused, NoMemory}
use Rattle.c_tree.specs.declared.syntax.Name.{Name}
use Rattle.c_tree.specs.declared.typed.CType.{CType}
use Rattle.c_tree.specs.Typed.{Ty}
use Rattle.c_tree.specs.TypedViews.{type_view}
use Rattle.c_typing.specs.Faults.{Judged, Gives, both}
use Rattle.c_typing.specs.Scope.{Context, with_alias}
use Rattle.c_typing.specs.Statements.{or_int}
use Rattle.c_typing.specs.Programs.{alias_fine}
use Rattle.type_context.specs.declared.context.Context.{Context as CodeContext}
use Rattle.type_context.specs.ContextViews.{context_view}
use Rattle.type_context.specs.Telling.{Tells, lacks_memory}
use Rattle.type_context.proofs.Walks.{known_tells}
use Rattle.type_declared.specs.AliasFits.{fine_of, alias_agrees, named_type}

-- behind a declarator that lacks no memory, what is left is what was judged
left : (t : Result CType CompileFault) (o : CodeContext) (p : Judged Ty × Context) → lacks_memory t ≡ false → Tells type_view t o p → context_view o ≡ p.1
left (Ok x) o p k h = h.leaves
left (Err (Refused r)) o p k h = h.leaves
left (Err NoMemory) o p k h = cc

-- the name of a type
pub name_type_tells : (n : Name) (p : Judged Ty × Context) (o m : CodeContext) (t : Result CType CompileFault) (r : Result (Unit {0}) CompileFault) (s : Ty)
    → lacks_memory t ≡ false → Tells type_view t o p → s ≡ or_int p.0 → context_view m ≡ with_alias (context_view o) n s
    → Gives (λ (u : Unit {0}). tt) r (fine_of (both (alias_fine (context_view o) n) (alias_agrees (context_view o) n p.0))) → Tells (λ (u : Unit {0}). tt) r m (named_type n p)
name_type_tells n p o m t r s k h is_s is_m g =
    let same = left t o p k h in
    known_tells (λ (u : Unit {0}). tt) r m (named_type n p).0 (named_type n p).1
    (subst (λ d. Gives (λ (u : Unit {0}). tt) r (fine_of (both (alias_fine d n) (alias_agrees d n p.0)))) same g)
    (is_m ∙ ap (λ d. with_alias d n s) same ∙ ap (with_alias p.1 n) is_s)
