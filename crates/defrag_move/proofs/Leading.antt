-- Moves on addresses and bytes alone: turn by turn, and where they lead if the owners are those of the objects that the moves are of.
use Rattle.std.proofs.Common.{◌≡◌, ℕ, ◌+◌, Bool, List, [], ◌∷◌, drop, slice_get, Option, Some, set, ap, subst}
use Rattle.flat_store.specs.Flat.{bytes_from, with_bytes}
use Rattle.sub_heaps.specs.declared.moves.Move.{Move}
use Rattle.sub_heaps.specs.SubHeaps.{SubHeaps}
use Rattle.sub_heaps.specs.Moving.{AreOwners}
use Rattle.move_plan.specs.Sliding.{IsSlide}
use Rattle.arena_meaning.specs.Arena.{IsConsistent, Storage}
use Rattle.arena_meaning.specs.Moves.{after_plan}
use Rattle.defrag_move.specs.inner.Carrying.{CanCarry, addresses_after, bytes_after}
use Rattle.defrag_move.proofs.TakenAlong.{Carries, Carries-all, Carries-next, carry_both, carry_in_use, storage}
use Rattle.defrag_move.proofs.Turns.{drop_got}

-- ---- the next turn

module _ (start : ℕ) (ms : List Move) (owners : List ℕ) (i : ℕ) (m : Move) (owner : ℕ) (got : slice_get ms i ≡ Some m) (owned : slice_get owners i ≡ Some owner) (table : List (Option ℕ)) (bytes : List ℕ) where
  pub can_turn : CanCarry start (drop i ms) (drop i owners) table bytes → CanCarry start (m ∷ drop (i + 1) ms) (owner ∷ drop (i + 1) owners) table bytes
  can_turn can =
      subst (λ (rest : List Move). CanCarry start rest (owner ∷ drop (i + 1) owners) table bytes) (drop_got ms i m got)
      (subst (λ (rest : List ℕ). CanCarry start (drop i ms) rest table bytes) (drop_got owners i owner owned) can)

-- ---- all turns

pub record Leads (start : ℕ) (table : List (Option ℕ)) (bytes : List ℕ) (ms : List Move) (owners : List ℕ) (whole : Storage) : Type 0 where
  pub can : CanCarry start ms owners table bytes
  pub table_is : addresses_after start ms owners table ≡ whole.table
  pub bytes_are : bytes_after start ms bytes ≡ whole.bytes

pub leads : (pinned : ℕ → Bool) (start : ℕ) (table : List (Option ℕ)) (before : SubHeaps) (bytes : List ℕ) (ms : List Move) (owners : List ℕ) (whole : Storage) → AreOwners ms before.objects owners → Carries pinned start table before bytes ms whole → Leads start table bytes ms owners whole
leads pinned start table before bytes [] owners whole are c = record {
  can = tt;
  table_is = ap (λ (s : Storage). s.table) c.same;
  bytes_are = ap (λ (s : Storage). s.bytes) c.same;
}
leads pinned start table before bytes (m ∷ ms) [] whole are c = absurd are
leads pinned start table before bytes (m ∷ ms) (owner ∷ owners) whole are c =
    let next = Carries-next pinned start table before bytes m ms whole c owner are.0 in
    let rest = leads pinned start (set table owner (Some (start + m.to))) before (with_bytes bytes (start + m.to) (bytes_from bytes (start + m.from) m.size)) ms owners whole are.1 next in
    record {
      can = (carry_in_use pinned start table before bytes m ms whole c owner are.0, carry_both pinned start table before bytes m ms whole c owner are.0, rest.can);
      table_is = rest.table_is;
      bytes_are = rest.bytes_are;
    }

-- the moves of a slide lead to the storage after them
pub slide_leads : (pinned : ℕ → Bool) (start : ℕ) (table : List (Option ℕ)) (h : SubHeaps) (bytes : List ℕ) (ms : List Move) (owners : List ℕ) → IsConsistent (storage start table h bytes) → IsSlide pinned h ms → AreOwners ms h.objects owners → Leads start table bytes ms owners (after_plan ms (storage start table h bytes))
slide_leads pinned start table h bytes ms owners consistent slide are =
    leads pinned start table h bytes ms owners (after_plan ms (storage start table h bytes)) are (Carries-all pinned start table h bytes ms consistent slide.legal slide.rising)
