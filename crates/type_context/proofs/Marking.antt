-- The local that a name is, marked.
use Rattle.std.proofs.Common.{◌≡◌, ℕ, ◌++◌, [], ◌∷◌, Option, Some, None, refl, ap}
use Rattle.c_typing.specs.Scope.{Binding, global_name, local_name, function_name, enumerator_name, type_name, library_name, Context}
use Rattle.c_typing.specs.Judgement.{with_addressed}
use Rattle.type_context.specs.inner.Contexts.{local_in}

pub addressed_some : (c : Context) (m : Option Binding) (n : ℕ) → local_in m ≡ Some n → record c { addressed = c.addressed ++ n ∷ [] } ≡ with_addressed c m
addressed_some c None n h = cc
addressed_some c (Some (global_name i t)) n h = cc
addressed_some c (Some (local_name i t)) n h = let same : i ≡ n = cc in ap (λ k. record c { addressed = c.addressed ++ k ∷ [] }) (cc)
addressed_some c (Some (function_name i ps r)) n h = cc
addressed_some c (Some (enumerator_name value)) n h = cc
addressed_some c (Some (type_name t)) n h = cc
addressed_some c (Some (library_name which)) n h = cc

pub addressed_none : (c : Context) (m : Option Binding) → local_in m ≡ None → c ≡ with_addressed c m
addressed_none c None h = refl
addressed_none c (Some (global_name i t)) h = refl
addressed_none c (Some (local_name i t)) h = cc
addressed_none c (Some (function_name i ps r)) h = refl
addressed_none c (Some (enumerator_name value)) h = refl
addressed_none c (Some (type_name t)) h = refl
addressed_none c (Some (library_name which)) h = refl
