-- The name of a type, declared again.
use Rattle.c_tree.specs.declared.syntax.Name.{Name}
use Rattle.c_tree.specs.Typed.{Ty}
use Rattle.c_typing.specs.Faults.{Judged, typed, both, ◌>>=◌}
use Rattle.c_typing.specs.Scope.{Context, with_alias}
use Rattle.c_typing.specs.Statements.{or_int}
use Rattle.c_typing.specs.Programs.{before_name, same_alias, alias_fine}

-- that a part is fine, without what it is
abbrev pub fine_of : {A : Type 0} → Judged A → Judged (Unit {0})
fine_of j = j >>= λ x. typed tt

-- a type agrees with what the name meant before
abbrev pub alias_agrees : Context → Name → Judged Ty → Judged (Unit {0})
alias_agrees c n j = j >>= same_alias n.from (before_name c n)

-- the name of a type, behind its declarator, by what that was judged to be and what it left
abbrev pub named_type : Name → Judged Ty × Context → Judged (Unit {0}) × Context
named_type n t = (both (alias_fine t.1 n) (alias_agrees t.1 n t.0) >>= λ p. typed tt, with_alias t.1 n (or_int t.0))
