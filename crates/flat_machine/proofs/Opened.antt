-- What threads share when a run is opened.
use Rattle.std.proofs.Common.{◌≡◌, ℕ, zero, suc, ◌+◌, ◌<◌, true, List, [], ◌∷◌, ◌-◌, ◌*◌, length, get_or, map, replicate, Option, None, refl, ap, ◌∙◌, arith}
use Rattle.std.specs.Prelude.{slice_get}
use Rattle.std.proofs.lemmas.List.{length-map}
use Rattle.ak_trace.specs.declared.entry.Entry.{Entry}
use Rattle.c_tree.specs.Typed.{Init}
use Rattle.c_tree.specs.Typed as inits
use Rattle.c_tree.specs.TypedForm.{taken}
use Rattle.flat_store.specs.Flat.{first_address, with_bytes}
use Rattle.arena_meaning.specs.Arena.{Storage, start_behind}
use Rattle.struct_ir.specs.Nodes.{Global}
use Rattle.struct_ir.specs.Instrs.{LinearCode}
use Rattle.struct_ir.specs.Valid.{has_params}
use Rattle.flat_meaning.specs.Image.{Limits, Layout, first_bytes, first_storage, global_address, globals_written, linear_image, literal_address, literals_written, plain_size}
use Rattle.flat_meaning.specs.Memory.{Made, beginning}
use Rattle.flat_threads.specs.Contexts.{IsProgram, layout_of}
use Rattle.flat_machine.specs.Shares.{IsSharedOf, no_barriers}
use Rattle.flat_machine.specs.Start.{first_shared}

-- plain data doesn't depend on limits
module _ (code : LinearCode) (limits : Limits) where
  abbrev x : Layout
  x = (linear_image code limits).layout

  first_same : (init : Init) → first_bytes (layout_of code) init ≡ first_bytes x init
  first_same inits.zero_bytes = refl
  first_same (inits.number t z) = refl
  first_same (inits.literal_at n) = refl

  globals_same : (at : ℕ) (gs : List Global) (bytes : List ℕ) → globals_written (layout_of code) at gs bytes ≡ globals_written x at gs bytes
  globals_same at [] bytes = refl
  globals_same at (g ∷ gs) bytes =
      globals_same (at + taken g.size) gs (with_bytes bytes at (first_bytes (layout_of code) g.init)) ∙ ap (λ (new : List ℕ). globals_written x (at + taken g.size) gs (with_bytes bytes at new)) (first_same g.init)

  -- what is written into an arena that was made for so many plain bytes
  pub storage_is : (plain : ℕ) (made new : Storage) → plain ≡ plain_size x
      → made ≡ record { start = start_behind plain; table = replicate limits.ids None; heaps = record { count = limits.heaps; size = limits.heap; most = limits.ids; objects = [] }; bytes = replicate (start_behind plain - first_address + limits.heaps * limits.heap) 0 }
      → new ≡ record made { bytes = literals_written (literal_address (layout_of code) 0) code.literals (globals_written (layout_of code) (global_address (layout_of code) 0) code.globals made.bytes) } → new ≡ first_storage x
  storage_is plain made new plain_is made_is new_is =
      new_is
      ∙ ap (λ (s : Storage). record s { bytes = literals_written (literal_address x 0) code.literals (globals_written (layout_of code) (global_address x 0) code.globals s.bytes) }) (made_is ∙ ap (λ p. record { start = start_behind p; table = replicate limits.ids None; heaps = record { count = limits.heaps; size = limits.heap; most = limits.ids; objects = [] }; bytes = replicate (start_behind p - first_address + limits.heaps * limits.heap) 0 }) plain_is)
      ∙ ap (λ (bs : List ℕ). record (first_storage x) { bytes = literals_written (literal_address x 0) code.literals bs }) (globals_same (global_address x 0) code.globals (replicate (start_behind (plain_size x) - first_address + limits.heaps * limits.heap) 0))

  pub opened_is : (storage : Storage) (output : List ℕ) (threads : List Made) (made : List Entry) (leaving : Option (List ℕ)) → storage ≡ first_storage x → output ≡ [] → threads ≡ beginning code.main 0 ∷ [] → made ≡ [] → leaving ≡ None
      → record { memory = record { storage = storage; output = output; threads = threads; leaving = leaving }; output_limit = limits.output; made = made; barriers = no_barriers } ≡ first_shared code limits
  opened_is storage output threads made leaving p0 p1 p2 p3 p4 = λ i. record { memory = record { storage = p0 i; output = p1 i; threads = p2 i; leaving = p4 i }; output_limit = limits.output; made = p3 i; barriers = no_barriers }

  has_some : (xs : List ℕ) (n : ℕ) → has_params (slice_get xs n) 0 ≡ true → n < length xs
  has_some [] n is = absurd cc
  has_some (y ∷ xs) zero is = omega arith
  has_some (y ∷ xs) (suc n) is = omega (arith, has_some xs n is)

  pub opened_of : IsProgram code → IsSharedOf code (first_shared code limits)
  opened_of program =
      let main : code.main < length code.funcs = omega (arith, has_some (map (λ f. f.params) code.funcs) code.main program.main, length-map code.funcs (λ f. f.params)) in
      record { program = program; some = omega arith; few = omega arith; functions = only main; idle = refl }
    where
      only : code.main < length code.funcs → (k : ℕ) (d : Made) → k < 1 → (get_or (beginning code.main 0 ∷ []) k d).function < length code.funcs
      only main zero d below = main
      only main (suc k) d below = absurd (omega arith)
