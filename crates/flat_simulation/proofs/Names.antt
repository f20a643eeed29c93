-- Names stand as they did where the same blocks live, of the same kinds and sizes, and objects, table and start are the same.
use Rattle.std.proofs.Common.{◌≡◌, ℕ, Bool, true, false, List, length, Option, Some, None, is_some, refl, sym, ap, subst, ◌∙◌}
use Rattle.std.specs.Prelude.{IsSome}
use Rattle.block_store.specs.Blocks.{Block, Blocks, live, is_heap}
use Rattle.c_tree.specs.TypedForm.{taken}
use Rattle.arena_meaning.specs.Arena.{Storage}
use Rattle.flat_meaning.specs.Names.{Name, name_of, Lives, LiesAt, NamesStand, Apart}

pub lives_there : (o : Option Block) → IsSome o → (b : Block) × (o ≡ Some b)
lives_there (Some b) e = (b, refl)
lives_there None e = absurd cc

module _ (names : List Name) (blocks later : Blocks) (s : Storage) (bytes : List ℕ) (stand : NamesStand names blocks s) (as_many : length later ≡ length blocks)
    (before : (block : ℕ) (b : Block) → live later block ≡ Some b → (c : Block) × (live blocks block ≡ Some c) × (c.kind ≡ b.kind) × (length c.cells ≡ length b.cells)) (still : (block : ℕ) → Lives blocks block → Lives later block) where
  abbrev with_others : Storage
  with_others = record s { bytes = bytes }

  lies_alike : (h : Bool) (n : Name) (size : ℕ) → LiesAt s n h size → LiesAt with_others n h size
  lies_alike true n size at = record { id = at.id; named = at.named; object = at.object; owned = at.owned; rounded_size = at.rounded_size }
  lies_alike false n size at = record { address = at.address; named = at.named; above = at.above; below = at.below }

  lived : (block : ℕ) → Lives later block → Lives blocks block
  lived block e = let b = lives_there (live later block) e in let c = before block b.0 b.1 in ap is_some c.1

  pub names_alike : NamesStand names later with_others
  names_alike = record {
    each = stand.each ∙ sym as_many;
    lies = λ block b e. (let c = before block b e in lies_alike (is_heap b.kind) (name_of names block) (length b.cells) (subst (λ k. LiesAt s (name_of names block) (is_heap k) (length b.cells)) c.2 (subst (λ n. LiesAt s (name_of names block) (is_heap c.0.kind) n) c.3 (stand.lies block c.0 c.1))));
    one = λ block other id e f n m. stand.one block other id (lived block e) (lived other f) n m;
    only = λ id used. (let o = stand.only id used in record { block = o.block; lives = still o.block o.lives; named = o.named });
    apart = λ block other a c b d ne e f n m. (let x = before block b e in let y = before other d f in
        subst (λ z. Apart a (taken z) c (taken (length d.cells))) x.3 (subst (λ z. Apart a (taken (length x.0.cells)) c (taken z)) y.3 (stand.apart block other a c x.0 y.0 ne x.1 y.1 n m)));
  }
