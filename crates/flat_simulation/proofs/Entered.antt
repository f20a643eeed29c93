-- Calls that are entered, and first functions that begin.
use Rattle.std.proofs.Common.{◌≡◌, ℕ, zero, suc, ◌+◌, ◌-◌, ◌<◌, ◌≤◌, ◌&&◌, List, [], ◌∷◌, ◌++◌, length, replicate, slice_index, true, Option, Some, None, refl, sym, ap, subst, ◌∙◌, arith, length-append}
use Rattle.std.specs.Prelude.{map, slice_get, nat_le, nat_lt, option_map}
use Rattle.std.proofs.lemmas.Bool.{ltb-true, leb-true, eqb-true, and_parts}
use Rattle.std.proofs.lemmas.List.{length-replicate, length-map}
use Rattle.std.proofs.lemmas.Option.{slice_get-map}
use Rattle.block_store.specs.declared.values.Ptr.{Ptr}
use Rattle.block_store.specs.Blocks.{Blocks}
use Rattle.handle_table.specs.Frame.{blank_slot}
use Rattle.struct_ir.specs.Nodes.{Func, Ir}
use Rattle.struct_ir.specs.Valid.{are_below, has_params}
use Rattle.struct_ir.specs.meaning.Blocks.{Held, Own, with_blocks}
use Rattle.struct_ir.specs.meaning.Threads as source
use Rattle.struct_ir.specs.meaning.Threads.{passed, first_temps, first_own, params_of}
use Rattle.flat_meaning.specs.Image.{Image, Frame, Limits, func_frame, frame_of, frame_if, objects_bytes}
use Rattle.flat_meaning.specs.Words.{Used, none_used, Words, word_at, with_frame, is_within, used_with, has_room, call_of, first_arguments, first_call}
use Rattle.flat_meaning.specs.Machine as machine
use Rattle.flat_meaning.specs.Names.{Name}
use Rattle.flat_simulation.specs.inner.Values.{PointerStands, Stands}
use Rattle.flat_simulation.specs.inner.Calls.{CallStands}
use Rattle.flat_simulation.specs.inner.Programs.{IsImage, HasFrame}
use Rattle.flat_simulation.proofs.Each.{one_of}

-- ---- registers

-- arguments that are passed
passed_stands : (names : List Name) (K : ℕ → Type 0) (blocks : Blocks) (temps : ℕ → Held) (ws : List ℕ) → ((r : ℕ) → r < length ws → Stands names K blocks (temps r) (slice_index ws r)) → (args : List ℕ) → are_below (length ws) args ≡ true → (rest : List ℕ) (r : ℕ)
    → Stands names K blocks (passed temps args r) (slice_index (map (λ a. slice_index ws a) args ++ rest) r)
passed_stands names K blocks temps ws stand [] ok rest r = tt
passed_stands names K blocks temps ws stand (a ∷ args) ok rest zero = stand a (ltb-true a (length ws) (and_parts (nat_lt a (length ws)) (are_below (length ws) args) ok).0)
passed_stands names K blocks temps ws stand (a ∷ args) ok rest (suc r) = passed_stands names K blocks temps ws stand args (and_parts (nat_lt a (length ws)) (are_below (length ws) args) ok).1 rest r

-- the argument of a first function
first_stands : (names : List Name) (K : ℕ → Type 0) (blocks : Blocks) (params : ℕ) (p : Ptr) (argument : ℕ) → PointerStands names K blocks p argument → (rest : List ℕ) (r : ℕ) → Stands names K blocks (first_temps params p r) (slice_index (first_arguments params argument ++ rest) r)
first_stands names K blocks zero p argument stand rest r = tt
first_stands names K blocks (suc n) p argument stand rest zero = stand
first_stands names K blocks (suc n) p argument stand rest (suc r) = tt

first_count : (params argument : ℕ) → length (first_arguments params argument) ≤ params
first_count zero argument = omega arith
first_count (suc n) argument = omega arith

-- ---- room

within_stack : (limits : Limits) (u : Used) → is_within limits u ≡ true → u.stack ≤ limits.stack
within_stack limits u e = leb-true u.stack limits.stack (and_parts (nat_le u.frames limits.frames) (nat_le u.stack limits.stack) (and_parts (nat_le u.registers limits.registers && nat_le u.slots limits.slots) _ e).1).1

module _ {P : Type 0} (x : Image P) (p : Ir) (image : IsImage x p) (function : ℕ) (func : Func) (there : slice_get p.funcs function ≡ Some func) where
  pub frame_is : frame_of x.layout function ≡ func_frame func
  frame_is = ap (λ fs. frame_if (slice_get fs function)) image.frames ∙ (ap frame_if (slice_get-map func_frame p.funcs function) ∙ ap (λ o. frame_if (option_map func_frame o)) there)

  pub params_fit : func.params ≤ func.temps
  params_fit = one_of (λ (f : Func). f.params ≤ f.temps) p.funcs function func image.params there

  -- a call has its frame when it is entered
  pub frame_of_call : (below : Used) (arguments : List ℕ) → length arguments ≤ func.params → has_room x.layout below function ≡ true → HasFrame x.layout p (call_of x.layout below function arguments)
  frame_of_call below arguments few room =
      let fits = params_fit in
      let temps : (frame_of x.layout function).temps ≡ func.temps = ap (λ (f : Frame). f.temps) frame_is in
      let slots : (frame_of x.layout function).slots ≡ func.slots = ap (λ (f : Frame). f.slots) frame_is in
      let objects : (frame_of x.layout function).objects ≡ func.objects = ap (λ (f : Frame). f.objects) frame_is in
      let many = length-append arguments (replicate ((frame_of x.layout function).temps - length arguments) 0) in
      let rest = length-replicate {A = ℕ} ((frame_of x.layout function).temps - length arguments) 0 in
      record {
        func = func;
        there = there;
        temps = many ∙ omega (arith, rest, few, fits, temps);
        slots = length-replicate (frame_of x.layout function).slots blank_slot ∙ slots;
        room = subst (λ os. below.stack + objects_bytes os ≤ x.layout.limits.stack) objects (within_stack x.layout.limits (with_frame below (frame_of x.layout function)) room);
      }

  -- a first function
  pub first_call_stands : (thread : ℕ) (names : List Name) (K : ℕ → Type 0) (blocks : Blocks) (pointer : Ptr) (argument : ℕ) → PointerStands names K blocks pointer argument
      → CallStands x.layout p thread names K (with_blocks (first_own p function pointer) blocks) (first_call x.layout function argument)
  first_call_stands thread names K blocks pointer argument stand = record {
    function = refl;
    temps = λ r below.
        let params : (frame_of x.layout function).params ≡ func.params = ap (λ (f : Frame). f.params) frame_is in
        let same : params_of (slice_get p.funcs function) ≡ (frame_of x.layout function).params = ap params_of there ∙ sym params in
        subst (λ n. Stands names K blocks (first_temps n pointer r) (word_at (first_call x.layout function argument) r)) (sym same)
        (first_stands names K blocks (frame_of x.layout function).params pointer argument stand (replicate ((frame_of x.layout function).temps - length (first_arguments (frame_of x.layout function).params argument)) 0) r);
    objects = λ i block e. absurd cc;
  }

  pub first_frame : (argument : ℕ) → has_room x.layout none_used function ≡ true → HasFrame x.layout p (first_call x.layout function argument)
  first_frame argument room =
      let params : (frame_of x.layout function).params ≡ func.params = ap (λ (f : Frame). f.params) frame_is in
      let few = first_count (frame_of x.layout function).params argument in
      frame_of_call none_used (first_arguments (frame_of x.layout function).params argument) (omega (arith, few, params)) room

-- the function of a number is there, and has so many parameters
pub has_function : (p : Ir) (n many : ℕ) → has_params (slice_get (map (λ (g : Func). g.params) p.funcs) n) many ≡ true → (f : Func) × (slice_get p.funcs n ≡ Some f) × (f.params ≡ many)
has_function p n many e = by_func (slice_get p.funcs n) refl (ap (λ o. has_params o many) (sym (slice_get-map (λ (g : Func). g.params) p.funcs n)) ∙ e)
  where
    by_func : (o : Option Func) → slice_get p.funcs n ≡ o → has_params (option_map (λ (g : Func). g.params) o) many ≡ true → (f : Func) × (slice_get p.funcs n ≡ Some f) × (f.params ≡ many)
    by_func None at h = absurd cc
    by_func (Some f) at h = (f, at, eqb-true f.params many h)

-- a call that is entered
module _ {P : Type 0} (x : Image P) (p : Ir) (image : IsImage x p) (thread : ℕ) (names : List Name) (K : ℕ → Type 0) (l : Own) (q : Words) (stands : CallStands x.layout p thread names K l q) (function : ℕ) (args : List ℕ) (ok : are_below (length q.temps) args ≡ true) where
  pub entered_stands : CallStands x.layout p thread names K (source.entered function l args) (machine.entered x.layout function q args)
  entered_stands = record {
    function = refl;
    temps = λ r below. passed_stands names K l.blocks l.temps q.temps stands.temps args ok (replicate ((frame_of x.layout function).temps - length (map (word_at q) args)) 0) r;
    objects = λ i block e. absurd cc;
  }

  pub entered_frame : (func : Func) → slice_get p.funcs function ≡ Some func → func.params ≡ length args → has_room x.layout (used_with x.layout q) function ≡ true → HasFrame x.layout p (machine.entered x.layout function q args)
  entered_frame func there many room = frame_of_call x p image function func there (used_with x.layout q) (map (word_at q) args) (let as_many = length-map args (word_at q) in omega (arith, many, as_many)) room
