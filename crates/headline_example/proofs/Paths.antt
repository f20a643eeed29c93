-- In a flat row each position has one path to it; so a Look that no slot makes needless is one before which register 0 was assigned.
use Rattle.std.proofs.Common.{◌≡◌, refl, sym, ap, subst, ◌∙◌, ℕ, zero, suc, ◌+◌, ◌≤◌, ◌==◌, Bool, true, false, not, ◌&&◌, ◌||◌, List, [], ◌∷◌, Option, Some, None, inl, inr, arith}
use Rattle.std.specs.Prelude.{◌⊎◌}
use Rattle.std.proofs.lemmas.Bool.Decides.{nat_tests}
use Rattle.struct_ir.specs.Nodes.{Act, set, call, step, look, safepoint, begin_object, end_object, own_list, Node, plain, if_, loop, break_, next_, ret, Nodes, no_nodes, more_nodes}
use Rattle.struct_ir.specs.Flow.{Stays, Path, entry, on}
use Rattle.struct_ir.specs.Structured.{Position, done, then_, in_body, in_latch, here, next, structured}
use Rattle.struct_ir.specs.Pins.{looked, assigning, listing, lacks_if, passing, doing, facts, is_fresh, Available}
use Rattle.pin_flow.specs.Marks.{EveryAct}
use Rattle.pin_flow.specs.Looks.{act_looks, is_to, some_act}
use Rattle.pin_flow.specs.Slots.{IsIn, own, slot_in}
use Rattle.headline_example.proofs.Rows.{Flat, Needed}

-- ---- the rows that a row ends in

-- without its first nodes, so many of them
abbrev pub behind : ℕ → Nodes → Nodes
behind zero ns = ns
behind (suc n) no_nodes = no_nodes
behind (suc n) (more_nodes node rest) = behind n rest

-- how many nodes stand in a row
abbrev pub len : Nodes → ℕ
len no_nodes = 0
len (more_nodes node rest) = suc (len rest)

behind_one : (n : ℕ) (all : Nodes) (node : Node) (rest : Nodes) → behind n all ≡ more_nodes node rest → behind (suc n) all ≡ rest
behind_one zero no_nodes node rest e = absurd (cc e)
behind_one zero (more_nodes first others) node rest e = ap (λ (ns : Nodes). behind 1 ns) e
behind_one (suc n) no_nodes node rest e = absurd (cc e)
behind_one (suc n) (more_nodes first others) node rest e = behind_one n others node rest e

len_behind : (n : ℕ) (all : Nodes) → n ≤ len all → len (behind n all) + n ≡ len all
len_behind zero all h = omega arith
len_behind (suc n) no_nodes h = absurd (omega (arith, h))
len_behind (suc n) (more_nodes node rest) h = let e = len_behind n rest (omega (arith, h)) in omega (arith, e)

flat_rest : (node : Node) (rest : Nodes) → Flat (more_nodes node rest) → Flat rest
flat_rest (plain place (set to calc)) rest f = f
flat_rest (plain place (step s)) rest f = f
flat_rest (plain place (look slot base)) rest f = f
flat_rest (ret place temp) rest f = f
flat_rest (plain place (call c)) rest f = absurd f
flat_rest (plain place (safepoint slots)) rest f = absurd f
flat_rest (plain place (begin_object i)) rest f = absurd f
flat_rest (plain place (end_object i)) rest f = absurd f
flat_rest (if_ place temp one other) rest f = absurd f
flat_rest (loop place body latch) rest f = absurd f
flat_rest (break_ place) rest f = absurd f
flat_rest (next_ place) rest f = absurd f

flat_behind : (n : ℕ) (all : Nodes) → Flat all → Flat (behind n all)
flat_behind zero all f = f
flat_behind (suc n) no_nodes f = tt
flat_behind (suc n) (more_nodes node rest) f = flat_behind n rest (flat_rest node rest f)

-- ---- paths

-- the positions before that, the last one first
abbrev pub before : ℕ → Nodes → List Position
before zero all = []
before (suc n) all = then_ (behind n all) done ∷ before n all

-- a path has come there
record At (all : Nodes) (w : List Position) (k : Position) : Type 0 where
  n : ℕ
  within : n ≤ len all
  at : k ≡ then_ (behind n all) done
  way : w ≡ before n all

goes : (all : Nodes) (n : ℕ) (w : List Position) (k : Position) (c : Bool) (ns : Nodes) → behind n all ≡ ns → Flat ns → n ≤ len all → k ≡ then_ (behind n all) done → w ≡ before n all → Stays (here k)
    → At all (k ∷ w) (next k c) ⊎ (next k c ≡ done)
goes all n w k c no_nodes e f within at way stays = inr (ap (λ p. next p c) (at ∙ ap (λ ns. then_ ns done) e))
goes all n w k c (more_nodes (ret place temp) rest) e f within at way stays = absurd (subst (λ p. Stays (here p)) (at ∙ ap (λ ns. then_ ns done) e) stays)
goes all n w k c (more_nodes (plain place a) rest) e f within at way stays =
    let there : k ≡ then_ (more_nodes (plain place a) rest) done = at ∙ ap (λ ns. then_ ns done) e in
    let long = len_behind n all within in
    let some : len (behind n all) ≡ suc (len rest) = ap len e in
    inl (record {
      n = suc n;
      within = omega (arith, long, some);
      at = ap (λ p. next p c) there ∙ ap (λ ns. then_ ns done) (sym (behind_one n all (plain place a) rest e));
      way = ap (λ p. p ∷ w) at ∙ ap (λ v. then_ (behind n all) done ∷ v) way;
    })
goes all n w k c (more_nodes (if_ place temp one other) rest) e f within at way stays = absurd f
goes all n w k c (more_nodes (loop place body latch) rest) e f within at way stays = absurd f
goes all n w k c (more_nodes (break_ place) rest) e f within at way stays = absurd f
goes all n w k c (more_nodes (next_ place) rest) e f within at way stays = absurd f

came : (all : Nodes) → Flat all → (w : List Position) (k : Position) → Path structured (then_ all done) w k → At all w k ⊎ (k ≡ done)
came all f _ _ entry = inl (record { n = 0; within = omega arith; at = refl; way = refl })
came all f _ _ (on w k c stays path) = elim (came all f w k path) [
  | inl a ↦ goes all a.n w k c (behind a.n all) refl (flat_behind a.n all f) a.within a.at a.way stays
  | inr e ↦ absurd (subst (λ p. Stays (here p)) e stays)
]

-- what is still to do at a position of a row
abbrev row_at : Position → Nodes
row_at done = no_nodes
row_at (then_ nodes k) = nodes
row_at (in_body body latch k) = no_nodes
row_at (in_latch body latch k) = no_nodes

-- a position that is still to come
abbrev is_then : Position → Bool
is_then done = false
is_then (then_ nodes k) = true
is_then (in_body body latch k) = false
is_then (in_latch body latch k) = false

-- a slot is available where the one path that comes there says so
available : (all : Nodes) → Flat all → (n slot b : ℕ) → n ≤ len all → is_fresh b (facts structured slot (before n all)) ≡ true → Available structured (then_ all done) slot b (then_ (behind n all) done)
available all f n slot b within fresh w path = elim (came all f w (then_ (behind n all) done) path) [
  | inl a ↦
      let same : len (behind n all) ≡ len (behind a.n all) = ap (λ p. len (row_at p)) a.at in
      let one = len_behind n all within in
      let other = len_behind a.n all a.within in
      let number : n ≡ a.n = omega (arith, same, one, other) in
      ap (λ v. is_fresh b (facts structured slot v)) (a.way ∙ ap (λ m. before m all) (sym number)) ∙ fresh
  | inr e ↦ let no : true ≡ false = ap is_then e in absurd (cc no)
]

-- ---- Looks are of register 0, into slot 0

abbrev pub LooksAt0 : Nodes → Type 0
LooksAt0 (more_nodes (plain place (look slot base)) rest) = (slot ≡ 0) × (base ≡ 0) × LooksAt0 rest
LooksAt0 (more_nodes (plain place (set to calc)) rest) = LooksAt0 rest
LooksAt0 (more_nodes (plain place (step s)) rest) = LooksAt0 rest
LooksAt0 ns = Unit {0}

or_right : (a b : Bool) → b ≡ true → (a || b) ≡ true
or_right true b h = refl
or_right false b h = h

or_rest : (a b : Bool) → (a || b) ≡ false → b ≡ false
or_rest true b h = absurd (cc h)
or_rest false b h = h

or_first : (a b : Bool) → (a || b) ≡ false → a ≡ false
or_first true b h = absurd (cc h)
or_first false b h = refl

not_not : (a b : Bool) → not (a && b) ≡ false → a ≡ true
not_not true b h = refl
not_not false b h = absurd (cc h)

-- the act has another slot than that of its register
abbrev strays : Act → Bool
strays a = not (own (slot_in (0 ∷ [])) a)

first_of_one : (b : ℕ) → IsIn (0 ∷ []) b → b ≡ 0
first_of_one b (inl e) = e
first_of_one b (inr h) = absurd h

pub looks_at_0 : (ns : Nodes) → Flat ns → some_act strays ns ≡ false → ((b : ℕ) → some_act (act_looks b) ns ≡ true → IsIn (0 ∷ []) b) → LooksAt0 ns
looks_at_0 no_nodes f o l = tt
looks_at_0 (more_nodes (plain place (set to calc)) rest) f o l = looks_at_0 rest f (or_rest (strays (set to calc)) (some_act strays rest) o) l
looks_at_0 (more_nodes (plain place (step s)) rest) f o l = looks_at_0 rest f (or_rest (strays (step s)) (some_act strays rest) o) l
looks_at_0 (more_nodes (plain place (look slot base)) rest) f o l =
    let of_base : (base == base) ≡ true = grind (arith, nat_tests) in
    let base_is : base ≡ 0 = first_of_one base (l base (ap (λ b. b || some_act (act_looks base) rest) of_base)) in
    let mine : (slot == slot_in (0 ∷ []) base) ≡ true = not_not (slot == slot_in (0 ∷ []) base) true (or_first (strays (look slot base)) (some_act strays rest) o) in
    let slot_is : (slot == 0) ≡ true = subst (λ b. (slot == slot_in (0 ∷ []) b) ≡ true) base_is mine in
    (grind (arith, nat_tests, slot_is), base_is, looks_at_0 rest f (or_rest (strays (look slot base)) (some_act strays rest) o) (λ b h. l b (or_right (base == b) (some_act (act_looks b) rest) h)))
looks_at_0 (more_nodes (ret place temp) rest) f o l = tt
looks_at_0 (more_nodes (plain place (call c)) rest) f o l = absurd f
looks_at_0 (more_nodes (plain place (safepoint slots)) rest) f o l = absurd f
looks_at_0 (more_nodes (plain place (begin_object i)) rest) f o l = absurd f
looks_at_0 (more_nodes (plain place (end_object i)) rest) f o l = absurd f
looks_at_0 (more_nodes (if_ place temp one other) rest) f o l = absurd f
looks_at_0 (more_nodes (loop place body latch) rest) f o l = absurd f
looks_at_0 (more_nodes (break_ place) rest) f o l = absurd f
looks_at_0 (more_nodes (next_ place) rest) f o l = absurd f

-- ---- Looks that are needed

-- register 0 was looked up into slot 0, and not assigned since, as the path to there says
abbrev Holds : Nodes → ℕ → Bool → Type 0
Holds all n v = v ≡ true → (lacked : Bool) × (facts structured 0 (before n all) ≡ looked 0 false lacked)

-- behind a node that does something
facts_behind : (all : Nodes) (n place : ℕ) (a : Act) (rest : Nodes) → behind n all ≡ more_nodes (plain place a) rest → facts structured 0 (before (suc n) all) ≡ doing 0 a (facts structured 0 (before n all))
facts_behind all n place a rest e = ap (λ ns. passing 0 (here (then_ ns done)) (facts structured 0 (before n all))) e

both : (a b : Bool) → (not a && b) ≡ true → (a ≡ false) × (b ≡ true)
both false b h = (refl, h)
both true b h = absurd (cc h)

assigned_to : (to : ℕ) (lacked : Bool) → (0 == to) ≡ false → assigning (Some to) (looked 0 false lacked) ≡ looked 0 false lacked
assigned_to to lacked h = ap (λ b. looked 0 b lacked) h

assigned_if : (to : Option ℕ) (out lacked : Bool) → is_to 0 to ≡ false → assigning to (listing out (looked 0 false lacked)) ≡ looked 0 false (lacked || out)
assigned_if None out lacked h = refl
assigned_if (Some to) out lacked h = assigned_to to (lacked || out) h

-- what is asked of a Look
abbrev IsWanted : Nodes → Act → Position → Type 0
IsWanted all a k = act_looks 0 a ≡ true → (slot : ℕ) → Available structured (then_ all done) slot 0 k → ⊥

unheld : (all : Nodes) → Flat all → (n place slot base : ℕ) (rest : Nodes) (v : Bool) → behind n all ≡ more_nodes (plain place (look slot base)) rest → n ≤ len all → base ≡ 0
    → IsWanted all (look slot base) (then_ (more_nodes (plain place (look slot base)) rest) done) → Holds all n v → v ≡ false
unheld all f n place slot base rest false e within zero_ wanted holds = refl
unheld all f n place slot base rest true e within zero_ wanted holds =
    let there = holds refl in
    let is : (base == 0) ≡ true = grind (arith, nat_tests, zero_) in
    absurd (wanted is 0 (subst (λ ns. Available structured (then_ all done) 0 0 (then_ ns done)) e (available all f n 0 0 within (ap (is_fresh 0) there.1))))

pub needed_from : (all : Nodes) → Flat all → (n : ℕ) (ns : Nodes) (v : Bool) → behind n all ≡ ns → n ≤ len all → Flat ns → LooksAt0 ns → EveryAct (IsWanted all) ns done → Holds all n v → Needed v ns
needed_from all f n no_nodes v e within flat at0 every holds = tt
needed_from all f n (more_nodes (plain place (look slot base)) rest) v e within flat at0 every holds =
    let long = len_behind n all within in
    let some : len (behind n all) ≡ suc (len rest) = ap len e in (
      unheld all f n place slot base rest v e within at0.1 every.0 holds,
      needed_from all f (suc n) rest true (behind_one n all (plain place (look slot base)) rest e) (omega (arith, long, some)) flat at0.2 every.1
          (λ t. (
            false,
            facts_behind all n place (look slot base) rest e
                ∙ (ap (λ s. doing 0 (look s base) (facts structured 0 (before n all))) at0.0 ∙ ap (λ b. looked b false false) at0.1),
          )),
    )
needed_from all f n (more_nodes (plain place (set to calc)) rest) v e within flat at0 every holds =
    let long = len_behind n all within in
    let some : len (behind n all) ≡ suc (len rest) = ap len e in
    needed_from all f (suc n) rest (not (0 == to) && v) (behind_one n all (plain place (set to calc)) rest e) (omega (arith, long, some)) flat at0 every.1
    (λ t. let b = both (0 == to) v t in let h = holds b.1 in
    (h.0, facts_behind all n place (set to calc) rest e ∙ (ap (λ x. doing 0 (set to calc) x) h.1 ∙ assigned_to to h.0 b.0)))
needed_from all f n (more_nodes (plain place (step s)) rest) v e within flat at0 every holds =
    let long = len_behind n all within in
    let some : len (behind n all) ≡ suc (len rest) = ap len e in
    needed_from all f (suc n) rest (not (is_to 0 s.to) && v) (behind_one n all (plain place (step s)) rest e) (omega (arith, long, some)) flat at0 every.1
    (λ t. let b = both (is_to 0 s.to) v t in let h = holds b.1 in
    (h.0 || lacks_if 0 (own_list s), facts_behind all n place (step s) rest e ∙ (ap (λ x. doing 0 (step s) x) h.1 ∙ assigned_if s.to (lacks_if 0 (own_list s)) h.0 b.0)))
needed_from all f n (more_nodes (ret place temp) rest) v e within flat at0 every holds = tt
needed_from all f n (more_nodes (plain place (call c)) rest) v e within flat at0 every holds = absurd flat
needed_from all f n (more_nodes (plain place (safepoint slots)) rest) v e within flat at0 every holds = absurd flat
needed_from all f n (more_nodes (plain place (begin_object i)) rest) v e within flat at0 every holds = absurd flat
needed_from all f n (more_nodes (plain place (end_object i)) rest) v e within flat at0 every holds = absurd flat
needed_from all f n (more_nodes (if_ place temp one other) rest) v e within flat at0 every holds = absurd flat
needed_from all f n (more_nodes (loop place body latch) rest) v e within flat at0 every holds = absurd flat
needed_from all f n (more_nodes (break_ place) rest) v e within flat at0 every holds = absurd flat
needed_from all f n (more_nodes (next_ place) rest) v e within flat at0 every holds = absurd flat

pub needed : (all : Nodes) → Flat all → LooksAt0 all → EveryAct (IsWanted all) all done → Needed false all
needed all f at0 every = needed_from all f 0 all false refl (omega arith) f at0 every (λ (t : false ≡ true). absurd (cc t))
