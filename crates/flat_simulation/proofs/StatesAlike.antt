-- States of two codes, in which one thread goes on in both alike, or in one of them alone.
use Rattle.std.proofs.Common.{◌≡◌, ℕ, zero, suc, ◌<◌, ◌≤◌, List, [], ◌∷◌, ◌++◌, length, map, Option, Some, None, refl, sym, ap, subst, ◌∙◌, arith, inl, inr, append-nil}
use Rattle.std.specs.Prelude.{set, drop}
use Rattle.std.proofs.lemmas.Bool.{cases_eq}
use Rattle.std.proofs.lemmas.List.{length-append, length-drop, length-map, drop_all}
use Rattle.block_store.specs.Runs.{own_at}
use Rattle.struct_ir.specs.Flow.{Flow}
use Rattle.flat_meaning.specs.Memory.{Made, Memory}
use Rattle.flat_meaning.specs.Stages.{Stage}
use Rattle.flat_meaning.specs.Effects.{Effect}
use Rattle.flat_meaning.specs.Events.{stage_made, new_stages, end_or, put}
use Rattle.flat_simulation.specs.inner.Level.{StagesMatch, OthersMatch, OwnsMatch, StatesMatch, EffectsMatch}
use Rattle.flat_simulation.proofs.Numbering.{own_within, own_at-set_same, own_at-set_other, length-set_own, each_append}

-- none was made that has no stage
pub no_new_stages : {P : Type 0} (own : List (Option (Stage P))) (m : Memory) → length m.threads ≤ length own → new_stages own m ≡ []
no_new_stages own m le = ap (map stage_made) (drop_all (length own) m.threads le)

-- as many are put behind as were made
new_length : {P : Type 0} (own : List (Option (Stage P))) (thread : ℕ) (o : Option (Stage P)) (m : Memory) → length m.threads ≤ length (set own thread o ++ new_stages own m)
new_length {P} own thread o m =
    let a = length-append (set own thread o) (new_stages own m) in
    let b = length-set_own own thread o in
    let c = length-map {A = Made} {B = Option (Stage P)} (drop (length own) m.threads) stage_made in
    let d = length-drop (length own) m.threads in
    omega (arith, a, b, c, d)

module _ {P Q : Type 0} (C : Flow P) (D : Flow Q) (R : P → Q → Type 0) where
  abbrev Match : Option (Stage P) → Option (Stage Q) → Type 0
  Match o p = StagesMatch C D R o p

  new_each : (made : List Made) (n : ℕ) → Match (own_at (map stage_made made) n) (own_at (map stage_made made) n)
  new_each [] n = tt
  new_each (t ∷ made) zero = (refl, refl)
  new_each (t ∷ made) (suc n) = new_each made n

  module _ (thread : ℕ) (m : Memory) (own : List (Option (Stage P))) (other : List (Option (Stage Q))) (match : OthersMatch C D R thread m own other) (within : thread < length own) where
    set_each : (g : Option (Stage P)) (h : Option (Stage Q)) → Match g h → (n : ℕ) → Match (own_at (set own thread g) n) (own_at (set other thread h) n)
    set_each g h k n = elim (cases_eq n thread) [
      | inl e ↦
          let a : own_at (set own thread g) n ≡ g = ap (own_at (set own thread g)) e ∙ own_at-set_same own thread g within in
          let b : own_at (set other thread h) n ≡ h = ap (own_at (set other thread h)) e ∙ own_at-set_same other thread h (omega (arith, within, match.count)) in
          subst (λ o. Match o (own_at (set other thread h) n)) (sym a) (subst (λ p. Match g p) (sym b) k)
      | inr ne ↦
          subst (λ o. Match o (own_at (set other thread h) n)) (sym (own_at-set_other own thread n g ne)) (subst (λ p. Match (own_at own n) p) (sym (own_at-set_other other thread n h ne)) (match.each n ne))
    ]

    new_same : (m2 m3 : Memory) → m3 ≡ m2 → (n : ℕ) → Match (own_at (new_stages own m2) n) (own_at (new_stages other m3) n)
    new_same m2 m3 e n =
        let made : drop (length other) m3.threads ≡ drop (length own) m2.threads = λ i. drop (match.count i) ((e i).threads) in
        subst (λ (ts : List Made). Match (own_at (new_stages own m2) n) (own_at (map stage_made ts) n)) (sym made) (new_each (drop (length own) m2.threads) n)

    set_count : (g : Option (Stage P)) (h : Option (Stage Q)) → length (set other thread h) ≡ length (set own thread g)
    set_count g h = length-set_own other thread h ∙ match.count ∙ sym (length-set_own own thread g)

    put_count : (g : Option (Stage P)) (h : Option (Stage Q)) (m2 m3 : Memory) → m3 ≡ m2 → length (set other thread h ++ new_stages other m3) ≡ length (set own thread g ++ new_stages own m2)
    put_count g h m2 m3 e =
        let a = length-append (set own thread g) (new_stages own m2) in
        let b = length-append (set other thread h) (new_stages other m3) in
        let c = set_count g h in
        let d = length-map {A = Made} {B = Option (Stage P)} (drop (length own) m2.threads) stage_made in
        let d' = length-map {A = Made} {B = Option (Stage Q)} (drop (length other) m3.threads) stage_made in
        let f : length (drop (length other) m3.threads) ≡ length (drop (length own) m2.threads) = λ i. length (drop (match.count i) ((e i).threads)) in
        omega (arith, a, b, c, d, d', f)

    -- what came of the thread is put in both
    pub put_owns : (e : Effect P) (f : Effect Q) → EffectsMatch C D R e f → OwnsMatch C D R e.memory (set own thread e.stage ++ new_stages own e.memory) (set other thread f.stage ++ new_stages other f.memory)
    put_owns e f k = record {
      count = put_count e.stage f.stage e.memory f.memory k.memory;
      made = new_length own thread e.stage e.memory;
      each = each_append (λ o p. Match o p) (set own thread e.stage) (set other thread f.stage) (set_count e.stage f.stage) (set_each e.stage f.stage k.stage) (new_stages own e.memory) (new_stages other f.memory) (new_same e.memory f.memory k.memory);
    }

    pub put_match : (e : Effect P) (f : Effect Q) → EffectsMatch C D R e f → StatesMatch C D R (put (record { memory = m; own = own; end = None }) thread e) (put (record { memory = m; own = other; end = None }) thread f)
    put_match e f k = record { memory = k.memory; end = ap (λ o. end_or o None) k.end; stages = λ on. put_owns e f k }

    -- in the first alone, where no other was made
    pub put_first : (g : Option (Stage P)) → OthersMatch C D R thread m (set own thread g) other
    put_first g = record {
      count = match.count ∙ sym (length-set_own own thread g);
      made = omega (arith, match.made, length-set_own own thread g);
      each = λ n ne. subst (λ o. Match o (own_at other n)) (sym (own_at-set_other own thread n g ne)) (match.each n ne);
    }

  -- the thread's stages match, and all others
  pub owns_match : (thread : ℕ) (m : Memory) (own : List (Option (Stage P))) (other : List (Option (Stage Q))) → OthersMatch C D R thread m own other → Match (own_at own thread) (own_at other thread) → OwnsMatch C D R m own other
  owns_match thread m own other k z = record {
    count = k.count;
    made = k.made;
    each = λ n. elim (cases_eq n thread) [ inl e ↦ subst (λ j. Match (own_at own j) (own_at other j)) (sym e) z | inr ne ↦ k.each n ne ];
  }

  -- all others match
  pub others_match : (thread : ℕ) (m : Memory) (own : List (Option (Stage P))) (other : List (Option (Stage Q))) → OwnsMatch C D R m own other → OthersMatch C D R thread m own other
  others_match thread m own other k = record { count = k.count; made = k.made; each = λ n ne. k.each n }

  -- in the second alone, where the thread stays at its stage
  pub put_still : (thread : ℕ) (m : Memory) (own : List (Option (Stage P))) (other : List (Option (Stage Q))) → OwnsMatch C D R m own other → (h : Stage Q) → own_at other thread ≡ Some h
      → StatesMatch C D R (record { memory = m; own = own; end = None }) (put (record { memory = m; own = other; end = None }) thread (record { memory = m; stage = Some h; end = None }))
  put_still thread m own other k h at = record {
    memory = refl;
    end = refl;
    stages = λ on.
        let none : set other thread (Some h) ++ new_stages other m ≡ set other thread (Some h) = ap (λ l. set other thread (Some h) ++ l) (no_new_stages other m (omega (arith, k.made, k.count))) ∙ append-nil (set other thread (Some h)) in
        subst (λ l. OwnsMatch C D R m own l) (sym none) (record {
          count = length-set_own other thread (Some h) ∙ k.count;
          made = k.made;
          each = λ n. elim (cases_eq n thread) [
            | inl e ↦
                let is : own_at (set other thread (Some h)) n ≡ own_at other n
                = ap (own_at (set other thread (Some h))) e ∙ own_at-set_same other thread (Some h) (own_within other thread h at) ∙ sym at ∙ ap (own_at other) (sym e) in
                subst (λ p. Match (own_at own n) p) (sym is) (k.each n)
            | inr ne ↦ subst (λ p. Match (own_at own n) p) (sym (own_at-set_other other thread n (Some h) ne)) (k.each n)
          ];
        });
  }
