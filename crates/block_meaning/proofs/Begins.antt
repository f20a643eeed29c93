-- Locals and arguments at the begin of a call, and how threads begin.
use Rattle.std.proofs.Common.{◌≡◌, ◌<◌, ◌≤◌, ◌+◌, ◌-◌, ℕ, zero, suc, List, [], ◌∷◌, ◌++◌, length, drop, get_or, map, replicate, Option, Some, refl, sym, ap, ◌∙◌, append_assoc, append-nil}
use Rattle.std.proofs.lemmas.List.{map-append, length-map, drop_all}
use Rattle.std.proofs.lemmas.Option.{slice_get-map}
use Rattle.std.specs.List.{slice_get}
use Rattle.std.specs.Option.{option_map}
use Rattle.block_store.specs.declared.values.Ptr.{Ptr}
use Rattle.block_store.specs.declared.values.Value.{Value}
use Rattle.block_store.specs.declared.values.Value.TheVariants as values
use Rattle.c_tree.specs.TypedViews.{local_view}
use Rattle.c_meaning.specs.Control as control
use Rattle.c_meaning.specs.Meaning.{arguments_if, begins_if}
use Rattle.c_meaning.specs.Turns.{first_locals}
use Rattle.source_tree.specs.declared.tree.SharedFunc.{SharedFunc}
use Rattle.source_tree.specs.declared.tree.SharedProgram.{SharedProgram}
use Rattle.source_tree.specs.SharedViews.{func_of, program_of, row_of}
use Rattle.source_state.specs.declared.locals.Variable.{Variable}
use Rattle.source_state.specs.declared.locals.Variable.TheVariants as variables
use Rattle.source_state.specs.Variables.{variable_of}
use Rattle.block_meaning.proofs.Lists.{drop_read}

pub all_unset : (n : ℕ) → map variable_of (replicate n variables.Unset) ≡ replicate n control.unset
all_unset zero = refl
all_unset (suc n) = ap (λ l. control.unset ∷ l) (all_unset n)

pub one_argument : (params : ℕ) (argument : Ptr) → (params ≡ 0 → ⊥) → arguments_if params argument ≡ values.Pointer argument ∷ []
one_argument zero argument h = absurd (h refl)
one_argument (suc n) argument h = refl

-- one argument's value more, and all of them
pub held_more : (args : List Value) (i : ℕ) (arg : Value) (held new : List Variable) → i < length args → arg ≡ get_or args i arg → new ≡ held ++ variables.Holds arg ∷ []
    → map variable_of new ++ map control.holds (drop (i + 1) args) ≡ map variable_of held ++ map control.holds (drop i args)
held_more args i arg held new h e n =
    ap (λ (l : List Variable). map variable_of l ++ map control.holds (drop (i + 1) args)) n
    ∙ ap (λ l. l ++ map control.holds (drop (i + 1) args)) (map-append variable_of held (variables.Holds arg ∷ []))
    ∙ append_assoc (map variable_of held) (control.holds arg ∷ []) (map control.holds (drop (i + 1) args))
    ∙ ap (λ (l : List Value). map variable_of held ++ map control.holds l) (sym (drop_read args i arg h e))

pub held_all : (args : List Value) (i : ℕ) (held : List Variable) → length args ≤ i → map variable_of held ++ map control.holds (drop i args) ≡ map control.holds args → map variable_of held ≡ map control.holds args
held_all args i held h e =
    sym (append-nil (map variable_of held)) ∙ ap (λ (l : List Value). map variable_of held ++ map control.holds l) (sym (drop_all i args h)) ∙ e

-- the locals of a call: those of its parameters, and the others
pub all_locals : (f : SharedFunc) (args : List Value) (held others all : List Variable) (n : ℕ) → map variable_of held ≡ map control.holds args → map variable_of others ≡ replicate n control.unset → n ≡ length f.locals.items - length args → all ≡ held ++ others
    → map variable_of all ≡ first_locals (func_of f) args
all_locals f args held others all n e g h a =
    ap (map variable_of) a
    ∙ map-append variable_of held others
    ∙ ap (λ l. l ++ map variable_of others) e
    ∙ ap (λ l. map control.holds args ++ l) (g ∙ ap (λ k. replicate k control.unset) (h ∙ ap (λ k. k - length args) (sym (length-map f.locals.items local_view))))

-- a thread that begins with a function, by whether the program has it
pub begun_at : (p : SharedProgram) (function : ℕ) (argument : Ptr) (found : Option SharedFunc) (own : control.Control) → found ≡ slice_get p.funcs.items function → own ≡ begins_if function argument (option_map func_of found)
    → own ≡ begins_if function argument (slice_get (program_of p).funcs function)
begun_at p function argument found own e b =
    b ∙ ap (begins_if function argument) (ap (option_map func_of) e ∙ sym (slice_get-map func_of p.funcs.items function))

-- the same of a function, part by part
pub begun_as : (f : SharedFunc) (function : ℕ) (argument : Ptr) (args : List Value) (locals : List control.Variable) (k : control.Todo) → args ≡ arguments_if f.params argument → locals ≡ first_locals (func_of f) args → k ≡ control.then_row (row_of f.body.value) control.leaves
    → ◌≡◌ {A = control.Control} (record { function = function; locals = locals; point = control.begins k; callers = []; touched = [] }) (begins_if function argument (Some (func_of f)))
begun_as f function argument args locals k e g h = rw (g, h, e) refl
