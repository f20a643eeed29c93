-- Rows of globals, parameters and sizes.
use Rattle.std.proofs.Common.{◌≡◌, ℕ, Bool, true, false, List, [], ◌∷◌, ◌++◌, Option, refl, ap, sym, ◌∙◌}
use Rattle.c_tree.specs.Syntax as source
use Rattle.c_tree.specs.Typed.{Ty}
use Rattle.c_typing.specs.Faults.{Judged, typed, both, ◌>>=◌}
use Rattle.c_typing.specs.Scope.{Context}
use Rattle.c_typing.specs.Judgement.{Judging, in_turn, ruled}
use Rattle.c_typing.specs.Programs.{judged_size, judged_sizes, judged_param, judged_params, judged_global, judged_globals}
use Rattle.type_context.specs.Rows.{row, state_behind}
use Rattle.type_context.proofs.Rows.{row_last, state_last}
use Rattle.c_types.proofs.StatementRows.{IsRow, is_row}

pub globals_row : (base : Judged Ty) → IsRow (judged_global base) (judged_globals base)
globals_row base = is_row (judged_global base) (judged_globals base) (λ c. refl) (λ x xs c. refl)

pub params_row : IsRow judged_param judged_params
params_row = is_row judged_param judged_params (λ c. refl) (λ x xs c. refl)

-- ---- sizes, of which the outermost may lack

-- whether it's the outermost behind these
abbrev pub is_outermost : List source.ParamDim → Bool
is_outermost ds = state_behind (λ (b : Bool) (d : source.ParamDim). false) true ds

abbrev sized : Bool → List source.ParamDim → Judging (List (Option ℕ))
sized b ds = row (λ (o : Bool) (d : source.ParamDim). judged_size o d d.size) (λ o d. false) (λ x ys. x ∷ ys) b ds

sizes_alike : (b : Bool) (ds : List source.ParamDim) (c : Context) → judged_sizes b ds c ≡ sized b ds c
sizes_alike b [] c = refl
sizes_alike b (d ∷ ds) c = ap (λ q. (both (judged_size b d d.size c).0 q.0 >>= (λ p. typed (p.0 ∷ p.1)), q.1)) (sizes_alike false ds (judged_size b d d.size c).1)

pub sizes_row : (ds : List source.ParamDim) (d : source.ParamDim) (c : Context)
    → judged_sizes true (ds ++ d ∷ []) c ≡ ruled (in_turn (judged_sizes true ds) (judged_size (is_outermost ds) d d.size)) (λ e p. typed (p.0 ++ p.1 ∷ [])) c
sizes_row ds d c =
    sizes_alike true (ds ++ d ∷ []) c
    ∙ row_last (λ (o : Bool) (d : source.ParamDim). judged_size o d d.size) (λ o d. false) (λ x ys. x ∷ ys) (λ ys x. ys ++ x ∷ []) (λ x. refl) (λ x ys z. refl) true ds d c
    ∙ ap (λ q. (both q.0 (judged_size (is_outermost ds) d d.size q.1).0 >>= (λ p. typed (p.0 ++ p.1 ∷ [])), (judged_size (is_outermost ds) d d.size q.1).1)) (sym (sizes_alike true ds c))

pub outermost_behind : (ds : List source.ParamDim) (d : source.ParamDim) → is_outermost (ds ++ d ∷ []) ≡ false
outermost_behind ds d = state_last (λ (b : Bool) (d : source.ParamDim). false) true ds d
