-- The log leads back to where the locals were kept.
use Rattle.std.proofs.Common.{◌≡◌, ℕ, List, [], ◌∷◌, ◌++◌, map, set, get_or, refl, sym, ap, ◌∙◌}
use Rattle.std.proofs.lemmas.List.{set-set, set-get_or}
use Rattle.c_meaning.specs.Control as control
use Rattle.source_state.specs.declared.locals.Old.{Old}
use Rattle.source_state.specs.declared.locals.Variable.{Variable}
use Rattle.source_state.specs.Variables.{variable_of}
use Rattle.source_state.specs.inner.LocalsBack.{back_by_all}

pub back_last : (log : List Old) (old : Old) (vs : List Variable) → back_by_all (log ++ old ∷ []) vs ≡ back_by_all log (set vs old.number old.variable)
back_last [] old vs = refl
back_last (o ∷ log) old vs = ap (λ l. set l o.number o.variable) (back_last log old vs)

set_back : (vs : List Variable) (i : ℕ) (v old d : Variable) → old ≡ get_or vs i d → set (set vs i v) i old ≡ vs
set_back vs i v old d e = ap (set (set vs i v) i) e ∙ set-set vs i v (get_or vs i d) ∙ set-get_or vs i d

pub changed_back : (log log' : List Old) (vs vs' : List Variable) (kept : List control.Variable) (i : ℕ) (v old d : Variable) → log' ≡ log ++ record { number = i; variable = old } ∷ [] → old ≡ get_or vs i d → vs' ≡ set vs i v → kept ≡ map variable_of (back_by_all log vs) → map variable_of (back_by_all log' vs') ≡ kept
changed_back log log' vs vs' kept i v old d e f g h = rw (e, g, h) (ap (map variable_of) (back_last log (record { number = i; variable = old }) (set vs i v) ∙ ap (back_by_all log) (set_back vs i v old d f)))

pub popped_back : (log log' : List Old) (old : Old) (vs vs' : List Variable) → log ≡ log' ++ old ∷ [] → vs' ≡ set vs old.number old.variable → back_by_all log' vs' ≡ back_by_all log vs
popped_back log log' old vs vs' e f = rw (e, f) (sym (back_last log' old vs))
