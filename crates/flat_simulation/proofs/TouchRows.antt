-- Other names are refused.
use Rattle.std.proofs.Common.{◌≡◌, ℕ, ◌-◌, List, [], ◌∷◌, Bool, true, Ok, Err, Some, refl, sym, ap, subst, ◌∙◌, arith}
use Rattle.ak_words.specs.Op.{exact_result, replacement, rule_of}
use Rattle.ak_words.specs.Wrapped.{residue, wrapped_value}
use Rattle.block_store.specs.declared.values.Answer.TheVariants.{Plain}
use Rattle.block_store.specs.declared.values.Ptr.TheVariants.{To}
use Rattle.block_store.specs.declared.values.Value.TheVariants as values
use Rattle.block_store.specs.Actions.{Reached}
use Rattle.block_store.specs.Blocks.{Blocks}
use Rattle.block_store.specs.Runs.{picked}
use Rattle.struct_ir.specs.Flow.{Flow}
use Rattle.struct_ir.specs.Machine.{Machine, Point, Steps, still, more, ahead, stops, goes, run, run_within}
use Rattle.struct_ir.specs.Structured.{Position, structured}
use Rattle.struct_ir.specs.meaning.Blocks.{Fault, Own, blocks_machine, value}
use Rattle.struct_ir.specs.meaning.Threads.{program_of}
use Rattle.flat_meaning.specs.Events.{first_state}
use Rattle.flat_meaning.specs.Names.{Agrees, Lives, Name, PointerAgrees, name_of, plain, word_for}
use Rattle.flat_meaning.specs.Order.{pick}
use Rattle.flat_meaning.specs.Reaching.{IsReached, reached_by_turn}
use Rattle.flat_meaning.specs.Stands.{in_blocks}
use Rattle.flat_meaning.specs.Touched.{Touches, writing}
use Rattle.flat_simulation.specs.LinearSteps.{StepTouches, TopLies, breaks, comes, source_image}
use Rattle.flat_simulation.specs.TouchRows.{OthersAreRefused, StaysBySomeNames, begins, its_thread, machine, source, with_array}
use Rattle.flat_simulation.proofs.Reached.{any_one, one_any}

-- where a thread stops at once, its steps lead nowhere else
only_still : {P L F : Type 0} (C : Flow P) (M : Machine L F) (p q : Point P L) → ahead C M p ≡ stops → Steps C M p q → p ≡ q
only_still C M p q is still = refl
only_still C M p q is (more r s before e) =
    let same : p ≡ r = only_still C M p r is before in
    let bad : stops ≡ goes q = sym is ∙ ap (ahead C M) same ∙ e in
    absurd cc

-- ---- before the store

-- the four bytes that the turn stores
abbrev stored : List Reached
stored = record { writes = true; block = 0; offset = 0; bytes = 4 } ∷ []

-- where the turn stops
record There : Type 0 where
  pub stop : Point Position Own
  pub is : run structured (blocks_machine source) (in_blocks begins.world.blocks its_thread.top) ≡ Ok stop
  pub object : stop.own.objects 0 ≡ Some 0
  pub pointer : stop.own.temps 0 ≡ value (values.Pointer (To 0 0))
  pub lives : Lives stop.own.blocks 0
  pub reached : reached_by_turn begins.world stop.own (structured.here stop.at) (picked (program_of source) begins (pick 0 Plain)) ≡ stored

there : There
unfolding run run_within residue wrapped_value exact_result rule_of replacement
there = record { stop = _; is = refl; object = refl; pointer = refl; lives = refl; reached = refl }

-- by a name of one's own
by_other : (writes : Bool) (address : ℕ) → Touches (writing 4 4104) writes address → IsReached (plain 4104 ∷ []) (first_state machine).memory.storage stored writes address
by_other writes address t =
    let h = any_one _ _ t in
    record { block = 0; offset = address - 4104; reached = one_any _ _ (h.0, refl, omega arith, omega (arith, h.1, h.2)); lies = omega (arith, h.1) }

somehow : StaysBySomeNames machine source [] begins (first_state machine) (pick 0 Plain) its_thread (with_array 4 4104)
somehow = record {
  made = plain 4104 ∷ [];
  stop = there.stop;
  stops = there.is;
  reaches = λ writes address t. subst (λ (all : List Reached). IsReached (plain 4104 ∷ []) (first_state machine).memory.storage all writes address) (sym there.reached) (by_other writes address t);
}

-- but the turn's stop has the array at its place, and its pointer in the register
refused : StepTouches machine source [] begins (first_state machine) (pick 0 Plain) its_thread (with_array 4 4104) → ⊥
refused z =
    let both : Ok z.stop ≡ Ok there.stop = sym z.stops ∙ there.is in
    let same : z.stop ≡ there.stop = cc in
    let named : name_of z.made 0 ≡ plain 4096 = z.stands.own.objects 0 0 (ap (λ (p : Point Position Own). p.own.objects 0) same ∙ there.object) in
    let agrees : Agrees z.made z.stop.own.blocks (z.stop.own.temps 0) 4104 = z.stands.own.temps 0 (omega arith) in
    let points : PointerAgrees z.made there.stop.own.blocks (To 0 0) 4104 =
    subst (λ h. Agrees z.made there.stop.own.blocks h 4104) there.pointer (subst (λ (p : Point Position Own). Agrees z.made p.own.blocks (p.own.temps 0) 4104) same agrees) in
    let word : ◌≡◌ {A = ℕ} 4104 (word_for (name_of z.made 0) 0) = points there.lives in
    let bad : ◌≡◌ {A = ℕ} 4104 4096 = word ∙ ap (λ (n : Name). word_for n 0) named in
    omega (arith, bad)

-- ---- behind it

off : (blocks : Blocks) (k : Point Position Own) → ahead structured (blocks_machine source) (in_blocks blocks k) ≡ stops → k.own.objects 0 ≡ Some 0 → ((f : Fault) → run structured (blocks_machine source) (in_blocks blocks k) ≡ Err f → ⊥)
    → TopLies (source_image source machine.layout) source 0 (plain 4104 ∷ []) blocks k (with_array 5 4096).top.own → ⊥
off blocks k is object whole (comes stop made steps lies) =
    let same : in_blocks blocks k ≡ stop = only_still structured (blocks_machine source) (in_blocks blocks k) stop is steps in
    let bad : plain 4104 ≡ plain 4096 = lies.objects 0 0 (sym (ap (λ (p : Point Position Own). p.own.objects 0) same) ∙ object) in
    let numbers : ◌≡◌ {A = ℕ} 4104 4096 = cc in
    omega (arith, numbers)
off blocks k is object whole (breaks f e) = whole f e

pub others_are_refused : OthersAreRefused
unfolding run run_within residue wrapped_value exact_result rule_of replacement
others_are_refused = record { somehow = somehow; refused = refused; elsewhere = λ lies. off _ _ refl refl (λ f e. cc) lies.top }
