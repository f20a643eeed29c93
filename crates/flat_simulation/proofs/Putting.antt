-- A turn of one thread leaves the state standing: the thread where it now is, the others where they were, and those that it made.
use Rattle.std.proofs.Common.{◌≡◌, ◌≢◌, ℕ, zero, suc, ◌+◌, ◌<◌, ◌≤◌, List, [], ◌∷◌, ◌++◌, length, map, Option, Some, None, refl, sym, ap, subst, ◌∙◌, arith, inl, inr, append-nil}
use Rattle.std.specs.Prelude.{set, drop, IsSome}
use Rattle.std.proofs.lemmas.Bool.{cases_eq}
use Rattle.std.proofs.lemmas.List.{length-append, length-drop, length-map, drop_all, drop_at}
use Rattle.block_store.specs.Blocks.{Blocks}
use Rattle.block_store.specs.Actions as source
use Rattle.block_store.specs.Actions.{World}
use Rattle.block_store.specs.Runs as runs
use Rattle.block_store.specs.Runs.{own_at, begun, next_state}
use Rattle.struct_ir.specs.Nodes.{Ir}
use Rattle.struct_ir.specs.Structured.{Position}
use Rattle.struct_ir.specs.Threads.{Thread}
use Rattle.struct_ir.specs.meaning.Blocks.{Own}
use Rattle.struct_ir.specs.meaning.Threads.{program_of}
use Rattle.ak_trace.specs.declared.endings.End.{End}
use Rattle.flat_meaning.specs.Image.{Limits, Image, structured_image}
use Rattle.flat_meaning.specs.Memory.{Made, Memory}
use Rattle.flat_meaning.specs.Stages.{Stage}
use Rattle.flat_meaning.specs.Events.{MachineState, stage_made, new_stages, end_or, put}
use Rattle.flat_meaning.specs.Names.{Name}
use Rattle.flat_simulation.specs.inner.Programs.{IsImage}
use Rattle.flat_simulation.specs.inner.Worlds.{MadeStands, AllMadeStand, IsBorn, TurnEnded}
use Rattle.flat_simulation.specs.inner.Threads.{StartStands, StageStands, StateStands}
use Rattle.flat_simulation.proofs.Numbering.{own_at-set_same, own_at-set_other, own_at-front, length-set_own, each_behind}
use Rattle.flat_simulation.proofs.StatesAlike.{no_new_stages}
use Rattle.flat_simulation.proofs.Later.{others_stay, stacks_stay}

-- as many threads were made
pub length-made : (names : List Name) (blocks : Blocks) (ts : List source.ThreadRecord) (us : List Made) → AllMadeStand names blocks ts us → length us ≡ length ts
length-made names blocks [] [] h = refl
length-made names blocks [] (u ∷ us) h = absurd h
length-made names blocks (t ∷ ts) [] h = absurd h
length-made names blocks (t ∷ ts) (u ∷ us) h = let e = length-made names blocks ts us h.1 in omega (arith, e)

-- the last of them
last_made : (names : List Name) (blocks : Blocks) (ts : List source.ThreadRecord) (t : source.ThreadRecord) (us : List Made) → AllMadeStand names blocks (ts ++ t ∷ []) us → (front : List Made) × (u : Made) × (us ≡ front ++ u ∷ []) × (length front ≡ length ts) × MadeStands names blocks t u
last_made names blocks [] t [] h = absurd h
last_made names blocks [] t (u ∷ []) h = ([], u, refl, refl, h.0)
last_made names blocks [] t (u ∷ v ∷ us) h = absurd h.1
last_made names blocks (s ∷ ts) t [] h = absurd h
last_made names blocks (s ∷ ts) t (u ∷ us) h =
    let r = last_made names blocks ts t us h.1 in
    (u ∷ r.0, r.1, ap (λ l. u ∷ l) r.2, (let e = r.3 in omega (arith, e)), r.4)

-- the run goes on only where it hadn't ended
not_ended : (now before : Option End) → end_or now before ≡ None → (now ≡ None) × (before ≡ None)
not_ended None before e = (refl, e)
not_ended (Some end) before e = absurd cc

module _ (p : Ir) (limits : Limits) (image : IsImage (structured_image p limits) p) where
  abbrev x : Image Position
  x = structured_image p limits

  abbrev P : runs.Program (Thread Position Own)
  P = program_of p

  module _ (names : List Name) (u : runs.State (Thread Position Own)) (s : MachineState Position) (stand : StateStands x p names u s) (thread : ℕ) (within : thread < length s.own) where
    -- ---- no turn

    none_new : new_stages s.own s.memory ≡ []
    none_new = let e = length-made names u.world.blocks u.world.threads s.memory.threads stand.world.threads in no_new_stages s.own s.memory (omega (arith, e, stand.count, stand.made))

    pub still_stands : (g : Stage Position) (end : Option End) → StageStands x p thread names u.world.blocks s.memory.storage (own_at u.own thread) (Some g) → StateStands x p names u (put s thread (record { memory = s.memory; stage = Some g; end = end }))
    still_stands g end z =
        let own' = set s.own thread (Some g) in
        let is : own' ++ new_stages s.own s.memory ≡ own' = ap (λ l. own' ++ l) none_new ∙ append-nil own' in
        subst (λ l. StateStands x p names u (record { memory = s.memory; own = l; end = end_or end s.end })) (sym is) (record {
          world = stand.world;
          count = length-set_own s.own thread (Some g) ∙ stand.count;
          made = stand.made;
          threads = each;
          stacks = stand.stacks;
          main = λ e. main_stays (stand.main (not_ended end s.end e).1);
        })
      where
        each : (n : ℕ) → StageStands x p n names u.world.blocks s.memory.storage (own_at u.own n) (own_at (set s.own thread (Some g)) n)
        each n = elim (cases_eq n thread) [
          | inl e ↦
              let here : own_at (set s.own thread (Some g)) n ≡ Some g = ap (own_at (set s.own thread (Some g))) e ∙ own_at-set_same s.own thread (Some g) within in
              subst (λ o. StageStands x p n names u.world.blocks s.memory.storage (own_at u.own n) o) (sym here)
              (subst (λ j. StageStands x p j names u.world.blocks s.memory.storage (own_at u.own j) (Some g)) (sym e) z)
          | inr ne ↦ subst (λ o. StageStands x p n names u.world.blocks s.memory.storage (own_at u.own n) o) (sym (own_at-set_other s.own thread n (Some g) ne)) (stand.threads n)
        ]

        main_stays : IsSome (own_at s.own 0) → IsSome (own_at (set s.own thread (Some g)) 0)
        main_stays some = elim (cases_eq 0 thread) [
          | inl e ↦ subst (λ o. IsSome o) (sym (ap (own_at (set s.own thread (Some g))) e ∙ own_at-set_same s.own thread (Some g) within)) refl
          | inr ne ↦ subst (λ o. IsSome o) (sym (own_at-set_other s.own thread 0 (Some g) ne)) some
        ]

    -- ---- a turn

    module _ (all : List Name) (given : List ℕ) (later : World) (m : Memory) (ended : TurnEnded x.layout p thread names all given u.world later s.memory m) where
      abbrev Stands : ℕ → Option (Thread Position Own) → Option (Stage Position) → Type 0
      Stands n o q = StageStands x p n all later.blocks m.storage o q

      more : length u.own ≤ length later.threads
      more = elim ended.born [
        | inl e ↦ let made = stand.made in omega (arith, e, made)
        | inr b ↦ let made = stand.made in let e = ap (λ (l : List source.ThreadRecord). length l) b.last in let l = length-append u.world.threads (b.born ∷ []) in omega (arith, e, l, made)
      ]

      many : length m.threads ≡ length later.threads
      many = length-made all later.blocks later.threads m.threads ended.world.threads

      -- the new one, if there is one
      new_stands : (n : ℕ) → Stands (length u.own + n) (own_at (begun P (length u.own) later) n) (own_at (new_stages s.own m) n)
      new_stands n = elim ended.born [
        | inl e ↦
            let none : drop (length u.own) later.threads ≡ [] = drop_all (length u.own) later.threads (let made = stand.made in omega (arith, e, made)) in
            let none' : drop (length s.own) m.threads ≡ [] = drop_all (length s.own) m.threads (let made = stand.made in let count = stand.count in omega (arith, e, made, count, many)) in
            subst (λ ts. Stands (length u.own + n) (own_at (map (λ (t : source.ThreadRecord). Some (P.begins t.function t.argument)) ts) n) (own_at (new_stages s.own m) n)) (sym none)
            (subst (λ (ts : List Made). Stands (length u.own + n) None (own_at (map stage_made ts) n)) (sym none') tt)
        | inr b ↦ born_stands b n
      ]
        where
          born_at : (b : IsBorn x.layout p u.world later) (t : Made) → MadeStands all later.blocks b.born t → StartStands x p (length u.own) all later.blocks (P.begins b.born.function b.born.argument) t.function t.argument
          born_at b t z =
              let stack : length u.own < x.layout.limits.threads = (let made = stand.made in let room = b.stack in omega (arith, made, room)) in
              let ne : thread ≢ length u.own = (let count = stand.count in λ e. absurd (omega (arith, e, within, count))) in
              record {
                stack = stack;
                func = b.func;
                there = ap (λ f. Rattle.std.specs.Prelude.slice_get p.funcs f) z.function ∙ b.there;
                pointer = b.born.argument;
                begins = ap (λ f. P.begins f b.born.argument) (sym z.function);
                argument_stands = z.argument;
                clear = stacks_stay x p image thread (length u.own) ne names all given u.world later s.memory m stand.world ended (stand.stacks (length u.own) (omega arith) stack);
              }

          one_stands : (b : IsBorn x.layout p u.world later) (t : Made) → MadeStands all later.blocks b.born t → (n : ℕ) → Stands (length u.own + n) (own_at (map (λ (t : source.ThreadRecord). Some (P.begins t.function t.argument)) (b.born ∷ [])) n) (own_at (map stage_made (t ∷ [])) n)
          one_stands b t z zero = let e : length u.own + 0 ≡ length u.own = omega arith in subst (λ j. Stands j (Some (P.begins b.born.function b.born.argument)) (stage_made t)) (sym e) (born_at b t z)
          one_stands b t z (suc n) = tt

          born_stands : (b : IsBorn x.layout p u.world later) (n : ℕ) → Stands (length u.own + n) (own_at (begun P (length u.own) later) n) (own_at (new_stages s.own m) n)
          born_stands b n =
              let r = last_made all later.blocks u.world.threads b.born m.threads (subst (λ ts. AllMadeStand all later.blocks ts m.threads) b.last ended.world.threads) in
              let one : drop (length u.own) later.threads ≡ b.born ∷ [] = ap (drop (length u.own)) b.last ∙ drop_at u.world.threads (b.born ∷ []) (length u.own) (sym stand.made) in
              let one' : drop (length s.own) m.threads ≡ r.1 ∷ [] = ap (drop (length s.own)) r.2 ∙ drop_at r.0 (r.1 ∷ []) (length s.own) (r.3 ∙ sym stand.made ∙ sym stand.count) in
              subst (λ ts. Stands (length u.own + n) (own_at (map (λ (t : source.ThreadRecord). Some (P.begins t.function t.argument)) ts) n) (own_at (new_stages s.own m) n)) (sym one)
              (subst (λ (ts : List Made). Stands (length u.own + n) (own_at (map (λ (t : source.ThreadRecord). Some (P.begins t.function t.argument)) (b.born ∷ [])) n) (own_at (map stage_made ts) n)) (sym one') (one_stands b r.1 r.4 n))

      module _ (k : Option (Thread Position Own)) (g : Option (Stage Position)) (end : Option End) (z : Stands thread k g) (main : end ≡ None → thread ≡ 0 → IsSome g) where
        set_each : (n : ℕ) → Stands n (own_at (set u.own thread k) n) (own_at (set s.own thread g) n)
        set_each n = elim (cases_eq n thread) [
          | inl e ↦
              let a : own_at (set u.own thread k) n ≡ k = ap (own_at (set u.own thread k)) e ∙ own_at-set_same u.own thread k (let count = stand.count in omega (arith, within, count)) in
              let b : own_at (set s.own thread g) n ≡ g = ap (own_at (set s.own thread g)) e ∙ own_at-set_same s.own thread g within in
              subst (λ o. Stands n o (own_at (set s.own thread g) n)) (sym a) (subst (λ q. Stands n k q) (sym b) (subst (λ j. Stands j k g) (sym e) z))
          | inr ne ↦
              subst (λ o. Stands n o (own_at (set s.own thread g) n)) (sym (own_at-set_other u.own thread n k ne))
              (subst (λ q. Stands n (own_at u.own n) q) (sym (own_at-set_other s.own thread n g ne))
              (others_stay x p image thread n (λ e. ne (sym e)) names all given u.world later s.memory m stand.world ended (own_at u.own n) (own_at s.own n) (stand.threads n)))
        ]

        put_each : (n : ℕ) → Stands n (own_at (set u.own thread k ++ begun P (length u.own) later) n) (own_at (set s.own thread g ++ new_stages s.own m) n)
        put_each =
            let same : length (set s.own thread g) ≡ length (set u.own thread k) = length-set_own s.own thread g ∙ stand.count ∙ sym (length-set_own u.own thread k) in
            each_behind Stands (set u.own thread k) (set s.own thread g) same set_each (begun P (length u.own) later) (new_stages s.own m)
            (λ n. subst (λ j. Stands (j + n) (own_at (begun P (length u.own) later) n) (own_at (new_stages s.own m) n)) (sym (length-set_own u.own thread k)) (new_stands n))

        length-source : length (set u.own thread k ++ begun P (length u.own) later) ≡ length later.threads
        length-source =
            let a = length-append (set u.own thread k) (begun P (length u.own) later) in
            let b = length-set_own u.own thread k in
            let c = length-map {A = source.ThreadRecord} {B = Option (Thread Position Own)} (drop (length u.own) later.threads) (λ t. Some (P.begins t.function t.argument)) in
            let d = length-drop (length u.own) later.threads in
            omega (arith, a, b, c, d, more)

        length-words : length (set s.own thread g ++ new_stages s.own m) ≡ length m.threads
        length-words =
            let a = length-append (set s.own thread g) (new_stages s.own m) in
            let b = length-set_own s.own thread g in
            let c = length-map {A = Made} {B = Option (Stage Position)} (drop (length s.own) m.threads) stage_made in
            let d = length-drop (length s.own) m.threads in
            let count = stand.count in
            omega (arith, a, b, c, d, more, many, count)

        main_runs : end_or end s.end ≡ None → IsSome (own_at (set s.own thread g ++ new_stages s.own m) 0)
        main_runs e =
            let no = not_ended end s.end e in
            let front : own_at (set s.own thread g ++ new_stages s.own m) 0 ≡ own_at (set s.own thread g) 0 = own_at-front (set s.own thread g) (new_stages s.own m) 0 (let l = length-set_own s.own thread g in omega (arith, within, l)) in
            subst (λ o. IsSome o) (sym front) (elim (cases_eq 0 thread) [
              | inl zero_is ↦ subst (λ o. IsSome o) (sym (ap (own_at (set s.own thread g)) zero_is ∙ own_at-set_same s.own thread g within)) (main no.0 (sym zero_is))
              | inr ne ↦ subst (λ o. IsSome o) (sym (own_at-set_other s.own thread 0 g ne)) (stand.main no.1)
            ])

        pub turn_stands : StateStands x p all (next_state P u thread k later) (put s thread (record { memory = m; stage = g; end = end }))
        turn_stands = record {
          world = ended.world;
          count = length-words ∙ many ∙ sym length-source;
          made = length-source;
          threads = put_each;
          stacks = λ n past room.
              stacks_stay x p image thread n (λ e. absurd (let count = stand.count in omega (arith, e, past, within, count, length-source, more))) names all given u.world later s.memory m stand.world ended
              (stand.stacks n (omega (arith, past, length-source, more)) room);
          main = main_runs;
        }
