-- Of a program that fits in memory the first storage is consistent.
use Rattle.std.proofs.Common.{◌≡◌, ℕ, ◌+◌, ◌-◌, ◌*◌, ◌/◌, ◌≤◌, List, [], ◌∷◌, length, replicate, Option, None, is_some, ap, sym, ◌∙◌, refl, arith, inl, inr}
use Rattle.std.specs.Prelude.{sum_by}
use Rattle.std.proofs.lemmas.List.{length-replicate, get_or-replicate, get_or_past}
use Rattle.std.proofs.lemmas.List.Sums.{sum_by-cons}
use Rattle.std.proofs.lemmas.Bool.{cases_lt, true≢false}
use Rattle.std.proofs.lemmas.List.Elements.{All-from_recursion}
use Rattle.ak_words.specs.Num.{num}
use Rattle.ak_words.specs.Wrapped.{bit_pattern}
use Rattle.ak_words.proofs.Bytes.{length-low_bytes}
use Rattle.ak_words.proofs.Types.{width_bounds}
use Rattle.c_tree.specs.Typed.{Init}
use Rattle.c_tree.specs.Typed as inits
use Rattle.c_tree.specs.TypedForm.{taken}
use Rattle.handle_table.specs.Table.{IsInUse, address_of}
use Rattle.flat_store.specs.Flat.{first_address, with_bytes}
use Rattle.arena_meaning.specs.Arena.{IsConsistent, start_behind}
use Rattle.defrag_move.proofs.Bytes.{length-with_bytes}
use Rattle.struct_ir.specs.Nodes.{Global}
use Rattle.struct_ir.specs.Whole.{plain_bytes}
use Rattle.flat_meaning.specs.Image.{Layout, global_address, literal_address, plain_size, first_bytes, globals_written, literals_written, loaded_bytes, first_storage}
use Rattle.flat_meaning.specs.Simulation.{IsLoadable}

-- ---- plain data

-- a global begins with 8 bytes at most
pub few_first : (y : Layout) (i : Init) → length (first_bytes y i) ≤ 8
few_first y inits.zero_bytes = omega arith
few_first y (inits.number t z) =
    let width = width_bounds t.bits t.known_width in
    omega (arith, length-low_bytes (t.bits / 8) (bit_pattern t (num t z).value), width.1)
few_first y (inits.literal_at n) = omega (arith, length-low_bytes 8 (literal_address y n))

pub length-globals : (y : Layout) (gs : List Global) (at : ℕ) (bytes : List ℕ) → first_address ≤ at → at + sum_by (λ g. taken g.size) gs ≤ first_address + length bytes → length (globals_written y at gs bytes) ≡ length bytes
length-globals y [] at bytes low fits = refl
length-globals y (g ∷ gs) at bytes low fits =
    let sum = sum_by-cons (λ (g : Global). taken g.size) g gs in
    let few = few_first y g.init in
    let one = length-with_bytes bytes (first_bytes y g.init) at low (omega (arith, sum, few)) in
    length-globals y gs (at + taken g.size) (with_bytes bytes at (first_bytes y g.init)) (omega arith) (omega (arith, sum, one)) ∙ one

pub length-literals : (ls : List (List ℕ)) (at : ℕ) (bytes : List ℕ) → first_address ≤ at → at + sum_by (λ l. taken (length l)) ls ≤ first_address + length bytes → length (literals_written at ls bytes) ≡ length bytes
length-literals [] at bytes low fits = refl
length-literals (l ∷ ls) at bytes low fits =
    let sum = sum_by-cons (λ (l : List ℕ). taken (length l)) l ls in
    let one = length-with_bytes bytes l at low (omega (arith, sum)) in
    length-literals ls (at + taken (length l)) (with_bytes bytes at l) (omega arith) (omega (arith, sum, one)) ∙ one

-- loading leaves as many bytes as there are
pub length-loaded : (y : Layout) (size : ℕ) → plain_bytes y.globals y.literals ≤ size → length (loaded_bytes y size) ≡ size
length-loaded y size fits =
    let zeros : length (replicate {A = ℕ} size 0) ≡ size = length-replicate size 0 in
    let globals : length (globals_written y (global_address y 0) y.globals (replicate size 0)) ≡ length (replicate {A = ℕ} size 0) = length-globals y y.globals (global_address y 0) (replicate size 0) (omega arith) (omega (arith, zeros)) in
    length-literals y.literals (literal_address y 0) (globals_written y (global_address y 0) y.globals (replicate size 0)) (omega arith) (omega (arith, globals, zeros)) ∙ globals ∙ zeros

-- ---- the first storage

pub none_of : (n id : ℕ) → IsInUse (replicate n None) id → ⊥
none_of n id used =
    let none : Option ℕ = None in
    elim (cases_lt id n) [
      | inl below ↦ let e : address_of (replicate n None) id ≡ None = get_or-replicate n id None None below in absurd (true≢false (sym used ∙ ap is_some e))
      | inr past ↦ let e : address_of (replicate n None) id ≡ None = get_or_past (replicate n None) id None (omega (arith, length-replicate n none)) in absurd (true≢false (sym used ∙ ap is_some e))
    ]

pub first_consistent : (y : Layout) → IsLoadable y → IsConsistent (first_storage y)
first_consistent y loadable = record {
  heaps = record { shape = loadable.shape; few = omega arith; stand = tt };
  ids = length-replicate y.limits.ids None;
  above = omega arith;
  whole = omega (arith, length-loaded y (start_behind (plain_size y) - first_address + y.limits.heaps * y.limits.heap) (omega arith));
  small = omega (arith, loadable.small, loadable.shape.whole_bounded);
  owned = λ id used. absurd (none_of y.limits.ids id used);
  addressed = All-from_recursion _ [] tt;
}
