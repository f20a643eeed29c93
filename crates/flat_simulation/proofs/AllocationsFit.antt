-- In valid linear code no allocation takes a place.
use Rattle.std.proofs.Common.{◌≡◌, ℕ, ◌==◌, true, ◌&&◌, List, [], ◌∷◌, length, Option, Some, None, refl, subst, ◌∙◌, arith}
use Rattle.std.specs.Prelude.{slice_get}
use Rattle.std.specs.List.{list_all}
use Rattle.std.proofs.lemmas.Bool.{and_parts, eqb-true}
use Rattle.struct_ir.specs.Nodes.{Place, Action, load, store, copy_bytes, malloc, calloc, realloc, free, change, compare, print, lock, unlock, destroy, start, join, Act, set, call, step, look, safepoint, begin_object, end_object, Step}
use Rattle.struct_ir.specs.Flow.{does}
use Rattle.struct_ir.specs.Instrs.{Instr, acts, unless, jump, round_to, leave, LinearFunc, LinearCode, instrs_if}
use Rattle.struct_ir.specs.Linear.{instr_here, here_in, linear}
use Rattle.struct_ir.specs.Valid.{Scope, is_place, are_below, is_below_if, counts_of, has_counts, is_act, is_step}
use Rattle.struct_ir.specs.ValidCode.{code_scope_of, is_instr, is_valid_code}
use Rattle.struct_ir.proofs.ValidCode.{of_all}
use Rattle.flat_meaning.specs.Ready.{takes_room}
use Rattle.flat_simulation.specs.LinearSteps.{AllocationsFit}

none : (ps : List Place) → length ps ≡ 0 → ps ≡ []
none [] e = refl
none (p ∷ ps) e = absurd (omega (arith, e))

no_places : (a : Action) → takes_room a ≡ true → (counts_of a).places ≡ 0
no_places malloc is = refl
no_places calloc is = refl
no_places realloc is = refl
no_places (load how) is = absurd cc
no_places (store how) is = absurd cc
no_places (copy_bytes align same) is = absurd cc
no_places free is = absurd cc
no_places (change how t) is = absurd cc
no_places (compare t) is = absurd cc
no_places (print pieces) is = absurd cc
no_places lock is = absurd cc
no_places unlock is = absurd cc
no_places destroy is = absurd cc
no_places (start function) is = absurd cc
no_places join is = absurd cc

no_place : (x : Scope) (s : Step) → is_step x s ≡ true → takes_room s.action ≡ true → s.places ≡ []
no_place x s ok is =
    let back = and_parts (has_counts (counts_of s.action) s) _ (and_parts (list_all (is_place x) s.places && (are_below x.temps s.temps && is_below_if x.temps s.to)) _ ok).1 in
    let count = and_parts (length s.places == (counts_of s.action).places) _ back.0 in
    none s.places (eqb-true (length s.places) (counts_of s.action).places count.0 ∙ no_places s.action is)

act_fits : (x : Scope) (a : Act) → is_act x a ≡ true → (at place : ℕ) (s : Step) → does at a ≡ does place (step s) → takes_room s.action ≡ true → s.places ≡ []
act_fits x (step r) ok at place s e is = let same : r ≡ s = cc in no_place x s (subst (λ z. is_step x z ≡ true) same ok) is
act_fits x (set to calc) ok at place s e is = absurd cc
act_fits x (call c) ok at place s e is = absurd cc
act_fits x (look slot base) ok at place s e is = absurd cc
act_fits x (safepoint slots) ok at place s e is = absurd cc
act_fits x (begin_object i) ok at place s e is = absurd cc
act_fits x (end_object i) ok at place s e is = absurd cc

instr_fits : (x : Scope) (o : Option Instr) → ((i : Instr) → o ≡ Some i → is_instr x i ≡ true) → (place : ℕ) (s : Step) → instr_here o ≡ does place (step s) → takes_room s.action ≡ true → s.places ≡ []
instr_fits x None all place s e is = absurd cc
instr_fits x (Some (acts at a)) all place s e is = act_fits x a (all (acts at a) refl) at place s e is
instr_fits x (Some (unless at temp to)) all place s e is = absurd cc
instr_fits x (Some (jump at to)) all place s e is = absurd cc
instr_fits x (Some (round_to at to)) all place s e is = absurd cc
instr_fits x (Some (leave at temp)) all place s e is = absurd cc

func_fits : (code : LinearCode) → is_valid_code code ≡ true → (n : ℕ) (o : Option LinearFunc) → slice_get code.funcs n ≡ o → (index place : ℕ) (s : Step) → here_in (instrs_if o) index ≡ does place (step s) → takes_room s.action ≡ true → s.places ≡ []
func_fits code ok n None at index place s e is = absurd cc
func_fits code ok n (Some f) at index place s e is =
    instr_fits (code_scope_of code f) (slice_get f.instrs index)
    (λ i there. of_all (is_instr (code_scope_of code f)) f.instrs index i (of_all (λ g. list_all (is_instr (code_scope_of code g)) g.instrs) code.funcs n f ok at) there) place s e is

pub allocations_fit : (code : LinearCode) → is_valid_code code ≡ true → AllocationsFit (linear code.funcs)
allocations_fit code ok k place s e is = func_fits code ok k.function (slice_get code.funcs k.function) refl k.index place s e is
