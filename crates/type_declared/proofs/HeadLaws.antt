-- The types of a function's parameters, of which one may be at fault.
use Rattle.std.proofs.Common.{◌≡◌, ℕ, not, List, [], Result, Ok, Err, IfOk, refl, ap, sym, subst}
use Rattle.std.specs.Prelude.{Vec, IfErr}
use Rattle.std.specs.declared.alloc.Global.{Global}
use Rattle.c_lex.specs.declared.refusal.Refusal.{Refusal}
use Rattle.c_lex.specs.declared.refusal.CompileFault.{CompileFault}
use Rattle.c_lex.specs.declared.refusal.CompileFault.TheVariants.{Refused, NoMemory}
use Rattle.c_lex.specs.declared.refusal.Kind.TheVariants.{TypeMismatch, OutsideSubset}
use Rattle.c_tree.specs.declared.typed.CType.{CType}
use Rattle.c_tree.specs.Typed.{Ty}
use Rattle.c_tree.specs.TypedViews.{type_view}
use Rattle.c_typing.specs.Faults.{Judged, typed, faulty, Gives, Fails, unless, both, mapped, ◌>>=◌}
use Rattle.c_typing.specs.Types.{is_array, is_struct_or_mutex}
use Rattle.c_typing.specs.Judgement.{plain_type}
use Rattle.c_typing.specs.Numbering.{Param}
use Rattle.c_typing.specs.Programs.{types_or, result_type}
use Rattle.type_context.specs.ContextViews.{types_view}
use Rattle.type_context.proofs.Judging.{fine_then}
use Rattle.type_declared.specs.Gathering.{each}
use Rattle.type_declared.specs.ResultTypes.{result_fine}

-- types of which want of memory alone keeps some
pub gives_list : (r : Result (Vec CType Global) CompileFault) (ts : List Ty) → IfOk r (λ v. types_view v.items ≡ ts) → IfErr r (λ e. e ≡ NoMemory) → Gives (each type_view) r (typed ts)
gives_list (Ok v) ts h k = ap typed (sym h)
gives_list (Err e) ts h k = subst (λ d. Fails d (typed ts)) (sym k) tt

-- what is refused is refused, whatever is seen of it
pub fails_mapped : {A B : Type 0} (f : A → B) (e : CompileFault) (j : Judged A) → Fails e j → Fails e (mapped f j)
fails_mapped f NoMemory j h = tt
fails_mapped f (Refused r) (typed x) h = cc
fails_mapped f (Refused r) (faulty s ss) h = h

-- parameters that are refused have no types
pub refused_types : {A : Type 0} (view : A → List Param) (x : Result A CompileFault) (r : Refusal) (j : Judged (List Param)) → x ≡ Err (Refused r) → Gives view x j → types_or j ≡ []
refused_types view (Ok y) r j is h = cc
refused_types view (Err NoMemory) r j is h = cc
refused_types view (Err (Refused s)) r (typed ps) is h = cc
refused_types view (Err (Refused s)) r (faulty q qs) is h = refl

-- a part that is seen otherwise before it is joined to another
pub mapped_both : {A B C D : Type 0} (f : A → B) (j : Judged A) (k : Judged C) (g : B × C → Judged D) → (both (mapped f j) k >>= g) ≡ (both j k >>= λ p. g (f p.0, p.1))
mapped_both f (typed x) (typed y) g = refl
mapped_both f (typed x) (faulty s ss) g = refl
mapped_both f (faulty r rs) (typed y) g = refl
mapped_both f (faulty r rs) (faulty s ss) g = refl

-- the type of a result, by what is judged of it
pub result_from : (place : ℕ) (t : Ty) → result_type place t ≡ (result_fine place t >>= λ u. plain_type place t)
result_from place t = fine_then (unless place TypeMismatch (not (is_array t))) (unless place (OutsideSubset 13) (not (is_struct_or_mutex t))) (plain_type place t)
