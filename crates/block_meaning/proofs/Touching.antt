-- What an action touches, before it is known how a compare comes out, and behind that.
use Rattle.std.proofs.Common.{◌≡◌, ◌+◌, ◌-◌, ◌==◌, ℕ, ◌/◌, Bool, true, false, if◌then◌else◌, List, [], ◌∷◌, ◌++◌, length, map, drop, get_or, ◌<◌, ◌≤◌, Option, Some, None, Result, Ok, Err, IsOk, refl, sym, ap, subst, ◌∙◌, append_assoc, append-nil, arith}
use Rattle.std.proofs.lemmas.List.{at_drop_more, drop_all, map-append}
use Rattle.std.specs.Option.{option_map, unwrap_or}
use Rattle.ak_words.specs.declared.int_type.IntType.{IntType}
use Rattle.ak_words.specs.declared.rule.Rule.{Rule}
use Rattle.ak_words.specs.Op.{truth}
use Rattle.ak_words.specs.Wrapped.{residue, wrapped_value}
use Rattle.block_store.specs.declared.values.Answer.{Answer}
use Rattle.block_store.specs.declared.values.Answer.TheVariants as answers
use Rattle.block_store.specs.declared.values.Ptr.{Ptr}
use Rattle.block_store.specs.declared.values.Ptr.TheVariants.{Null, To}
use Rattle.block_store.specs.declared.values.Value.{Value}
use Rattle.block_store.specs.Actions as actions
use Rattle.block_store.specs.Actions.{World, Reached, acted, bytes_at, compares, int_value, printed_bytes, reading, joined_bytes, reading_on, reading_part, reading_parts, reading_text, telling, went, writing}
use Rattle.block_store.specs.Atomics.{Compared, compared}
use Rattle.block_store.specs.Blocks.{Block, Blocks, cells_in, live, live_size}
use Rattle.block_store.specs.Texts.{length_of, text_at, text_len}
use Rattle.c_meaning.specs.Touches.{compare_ends, each, touches_of, touching}
use Rattle.race_rules.specs.declared.touch.Touch.{Touch}
use Rattle.race_rules.specs.declared.touch.TouchKind.{TouchKind}
use Rattle.race_rules.specs.declared.touch.TouchKind.TheVariants.{Read, Write, AtomicRead, AtomicWrite}
use Rattle.source_state.specs.declared.world.SharedAction.{SharedAction}
use Rattle.source_state.specs.declared.world.SharedAction.TheVariants as acts
use Rattle.source_state.specs.declared.world.Printed.{Printed}
use Rattle.source_state.specs.declared.world.Printed.TheVariants as parts
use Rattle.source_state.specs.Worlds.{action_of, printed_of}
use Rattle.source_state.proofs.Texts.{text_read}
use Rattle.block_meaning.specs.declared.touches.Gathered.{Gathered}
use Rattle.block_meaning.specs.Threads.{touches_in}
use Rattle.block_meaning.specs.inner.Touches.{GainsOnly, ReadsPart, before_its_end, comparing_of, end_of, says_equal}

-- ---- a compare's end

-- the value says whether the numbers were equal
ends_so : (equal : Bool) (v : Option Value) (one other : List Touch) → v ≡ int_value (truth equal) → (if equal then one else other) ≡ (if says_equal v then one else other)
unfolding wrapped_value residue
ends_so true v one other e = rw e refl
ends_so false v one other e = rw e refl

compare_end : (place : ℕ) (at want : Ptr) (ty : IntType) (reached : List Reached) (w next : World) (r : Result Compared Rule) (v : Option Value) → telling reached (compares w r) ≡ went v next
    → compare_ends place at want ty r ≡ (if says_equal v then each place AtomicWrite (writing (ty.bits / 8) at) else each place Write (writing (ty.bits / 8) want))
compare_end place at want ty reached w next (Err rule) v e = cc
compare_end place at want ty reached w next (Ok c) v e =
    let is_v : v ≡ int_value (truth c.equal) = cc in
    ends_so c.equal v (each place AtomicWrite (writing (ty.bits / 8) at)) (each place Write (writing (ty.bits / 8) want)) is_v

-- what an action touches that is done: what it touches before its end, and what a compare does then
pub touched_whole : (place : ℕ) (w next : World) (thread : ℕ) (answer : Answer) (atomic : Bool) (action : SharedAction) (v : Option Value) → acted w thread answer (action_of action) ≡ went v next
    → before_its_end place w answer atomic (action_of action) ++ end_of place (comparing_of action) v ≡ touches_of place w answer atomic (action_of action)
touched_whole place w next thread answer atomic (acts.Load at how) v e = append-nil _
touched_whole place w next thread answer atomic (acts.Store at value) v e = append-nil _
touched_whole place w next thread answer atomic (acts.Copy to from n align same) v e = append-nil _
touched_whole place w next thread answer atomic (acts.Allocate size first) v e = refl
touched_whole place w next thread answer atomic (acts.Reallocate at size) v e = append-nil _
touched_whole place w next thread answer atomic (acts.Free at) v e = append-nil _
touched_whole place w next thread answer atomic (acts.Change at how by) v e = append-nil _
touched_whole place w next thread answers.Plain atomic (acts.Compare at want new) v e =
    ap (λ (l : List Touch). (each place AtomicRead (reading (new.ty.bits / 8) at) ++ each place Read (reading (new.ty.bits / 8) want)) ++ l)
    (sym (compare_end place at want new.ty _ w next (compared w.blocks at want new.ty new.value) v e))
touched_whole place w next thread answers.Got atomic (acts.Compare at want new) v e = cc
touched_whole place w next thread answers.None atomic (acts.Compare at want new) v e = cc
touched_whole place w next thread answer atomic (acts.Print all) v e = append-nil _
touched_whole place w next thread answer atomic (acts.Lock at) v e = append-nil _
touched_whole place w next thread answer atomic (acts.Unlock at) v e = append-nil _
touched_whole place w next thread answer atomic (acts.Destroy at) v e = append-nil _
touched_whole place w next thread answer atomic (acts.Start to function argument) v e = append-nil _
touched_whole place w next thread answer atomic (acts.Join number to) v e = append-nil _
touched_whole place w next thread answer atomic (acts.Finish value) v e = refl

-- ---- what is gathered

pub gains_none : (g : Gathered) → GainsOnly g g []
gains_none g = record { place = refl; fits = λ h. h; gained = λ h. sym (append-nil (touches_in g.touches)) }

-- one that can't be told
pub gains_lost : (old new : Gathered) (more : List Touch) → new.place ≡ old.place → new.fits ≡ false → GainsOnly old new more
gains_lost old new more p f = record { place = p; fits = λ h. absurd cc; gained = λ h. absurd cc }

-- one
pub gains_one : (old new : Gathered) (t : Touch) (more : List Touch) → new.place ≡ old.place → new.fits ≡ old.fits → (touches_in new.touches) ≡ (touches_in old.touches) ++ t ∷ [] → more ≡ t ∷ [] → GainsOnly old new more
gains_one old new t more p f e g = record { place = p; fits = λ h. sym f ∙ h; gained = λ h. e ∙ ap (λ l. (touches_in old.touches) ++ l) (sym g) }

-- the same by another name
pub gains_as : (old new : Gathered) (x y : List Touch) → GainsOnly old new x → x ≡ y → GainsOnly old new y
gains_as old new x y g e = subst (λ l. GainsOnly old new l) e g

-- some, and then others
pub gains_then : (a b c : Gathered) (x y z : List Touch) → GainsOnly a b x → GainsOnly b c y → x ++ y ≡ z → GainsOnly a c z
gains_then a b c x y z g h e = record {
  place = h.place ∙ g.place;
  fits = λ t. g.fits (h.fits t);
  gained = λ t. h.gained t ∙ ap (λ l. l ++ y) (g.gained (h.fits t)) ∙ append_assoc (touches_in a.touches) x y ∙ ap (λ l. (touches_in a.touches) ++ l) e;
}

-- so many bytes, at least one, and none
pub bytes_told : (place : ℕ) (kind : TouchKind) (writes : Bool) (block offset bytes to : ℕ) → 0 < bytes → to ≡ offset + bytes
    → each place kind (bytes_at writes bytes (To block offset)) ≡ record { kind = kind; block = block; from = offset; to = to; place = place } ∷ []
bytes_told place kind writes block offset bytes to h e =
    let some : (bytes == 0) ≡ false = grind (arith, h) in
    rw (some, e) refl

pub bytes_none : (place : ℕ) (kind : TouchKind) (writes : Bool) (block offset bytes : ℕ) → bytes ≡ 0 → [] ≡ each place kind (bytes_at writes bytes (To block offset))
bytes_none place kind writes block offset bytes e = rw e refl

-- the cells of a block
cells_told : (b : Option Block) → unwrap_or (option_map (λ (x : Block). length x.cells) b) 0 ≡ length (cells_in b)
cells_told None = refl
cells_told (Some b) = refl

pub block_told : (place : ℕ) (kind : TouchKind) (blocks : Blocks) (name size : ℕ) → size ≡ unwrap_or (live_size blocks name) 0
    → each place kind (writing size (To name 0)) ≡ each place kind (writing (length (cells_in (live blocks name))) (To name 0))
block_told place kind blocks name size e = ap (λ (n : ℕ). each place kind (writing n (To name 0))) (e ∙ cells_told (live blocks name))

-- a text, with the zero byte that ends it
text_so : (blocks : Blocks) (at : Ptr) (n : ℕ) (r : Result (List ℕ) Rule) → text_at blocks at ≡ r → length_of r ≡ Ok n → (reading (n + 1) at ≡ reading_text blocks at) × IsOk (text_at blocks at)
text_so blocks at n (Ok bytes) t e =
    let f : n ≡ length bytes = cc in
    (ap (λ (k : ℕ). reading k at) (omega arith) ∙ text_read blocks at [] bytes 0 n refl f (sym (ap (joined_bytes (Ok [])) t)), rw t refl)
text_so blocks at n (Err rule) t e = absurd cc

pub text_told : (blocks : Blocks) (at : Ptr) (n : ℕ) → text_len blocks at ≡ Ok n → (reading (n + 1) at ≡ reading_text blocks at) × IsOk (text_at blocks at)
text_told blocks at n e = text_so blocks at n (text_at blocks at) refl e

-- behind a part that breaks no rule the next is read
reads_on : (r : Result (List ℕ) Rule) (more : List Reached) → IsOk r → reading_on r more ≡ more
reads_on (Ok all) more h = refl
reads_on (Err rule) more h = absurd cc

pub parts_told : (blocks : Blocks) (place : ℕ) (part : actions.Printed) (parts : List actions.Printed) → IsOk (printed_bytes blocks part)
    → each place Read (reading_part blocks part) ++ each place Read (reading_parts blocks parts) ≡ each place Read (reading_parts blocks (part ∷ parts))
parts_told blocks place part parts h =
    sym (map-append (touching place Read) (reading_part blocks part) (reading_parts blocks parts))
    ∙ ap (λ (l : List Reached). each place Read (reading_part blocks part ++ l)) (sym (reads_on (printed_bytes blocks part) (reading_parts blocks parts) h))

-- what is read of a text that is printed is gathered
pub text_part : (old new : Gathered) (blocks : Blocks) (part : Printed) (at : Ptr) (n : ℕ) → part ≡ parts.Text at → text_len blocks at ≡ Ok n → GainsOnly old new (each old.place Read (reading (n + 1) at))
    → ReadsPart old new blocks (printed_of part)
text_part old new blocks part at n e f g =
    let told = text_told blocks at n f in
    rw e (record { gains = gains_as old new _ _ g (ap (each old.place Read) told.0); printed = λ h. told.1 })

-- ---- parts in a row

-- from one on these touches were gathered, and of all those that remain
pub record GainsRest (first now : Gathered) (all rest : List Touch) : Type 0 where
  pub place : now.place ≡ first.place
  pub fits : now.fits ≡ true → first.fits ≡ true
  pub gained : now.fits ≡ true → touches_in now.touches ++ rest ≡ touches_in first.touches ++ all

pub rest_begins : (g : Gathered) (all : List Touch) → GainsRest g g all all
rest_begins g all = record { place = refl; fits = λ h. h; gained = λ h. refl }

pub rest_goes : (first old new : Gathered) (all rest less more : List Touch) → GainsRest first old all rest → GainsOnly old new more → (new.fits ≡ true → more ++ less ≡ rest) → GainsRest first new all less
rest_goes first old new all rest less more r g e = record {
  place = g.place ∙ r.place;
  fits = λ h. r.fits (g.fits h);
  gained = λ h. ap (λ l. l ++ less) (g.gained h) ∙ append_assoc (touches_in old.touches) more less ∙ ap (λ l. touches_in old.touches ++ l) (e h) ∙ r.gained (g.fits h);
}

pub rest_ends : (first now : Gathered) (all rest : List Touch) → GainsRest first now all rest → rest ≡ [] → GainsOnly first now all
rest_ends first now all rest r e = record {
  place = r.place;
  fits = r.fits;
  gained = λ h. sym (append-nil (touches_in now.touches)) ∙ ap (λ l. touches_in now.touches ++ l) (sym e) ∙ r.gained h;
}

-- what is read of parts
abbrev pub of_parts : Blocks → (place : ℕ) → List Printed → List Touch
of_parts blocks place all = each place Read (reading_parts blocks (map printed_of all))

next_part : (all : List Printed) (i : ℕ) (part : Printed) → i < length all → part ≡ get_or all i part → part ∷ drop (i + 1) all ≡ drop i all
next_part all i part h e = ap (λ (p : Printed). p ∷ drop (i + 1) all) e ∙ sym (at_drop_more (λ (l : List Printed). l) all i part h)

pub part_behind : (blocks : Blocks) (place old : ℕ) (all : List Printed) (i : ℕ) (part : Printed) → old ≡ place → i < length all → part ≡ get_or all i part → IsOk (printed_bytes blocks (printed_of part))
    → each old Read (reading_part blocks (printed_of part)) ++ of_parts blocks place (drop (i + 1) all) ≡ of_parts blocks place (drop i all)
part_behind blocks place old all i part e below is ok =
    ap (λ (n : ℕ). each n Read (reading_part blocks (printed_of part)) ++ of_parts blocks place (drop (i + 1) all)) e
    ∙ parts_told blocks place (printed_of part) (map printed_of (drop (i + 1) all)) ok
    ∙ ap (of_parts blocks place) (next_part all i part below is)

pub no_part : (blocks : Blocks) (place : ℕ) (all : List Printed) (i : ℕ) → length all ≤ i → of_parts blocks place (drop i all) ≡ []
no_part blocks place all i h = ap (of_parts blocks place) (drop_all i all h)
