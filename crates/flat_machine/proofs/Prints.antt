-- What printing leaves, part by part.
use Rattle.std.proofs.Common.{◌≡◌, ℕ, ◌-◌, ◌<◌, ◌≤◌, ◌⊎◌, inl, inr, true, false, cond, leb, List, [], ◌∷◌, ◌++◌, length, Result, Ok, Err, refl, ap, sym, ◌∙◌, subst, append_assoc, append-nil, length-append, arith}
use Rattle.std.proofs.lemmas.Bool.{cases_lt}
use Rattle.std.proofs.lemmas.Bool.Decides.{nat_tests}
use Rattle.flat_meaning.specs.Accesses.{output_room}
use Rattle.flat_meaning.specs.Printing.{Printed, Read, reads, outside, too_long, behind, and_then, read_part, read_parts, text_at}
use Rattle.flat_machine.specs.declared.printing.Fault.{Fault}
use Rattle.flat_machine.specs.declared.printing.Fault.TheVariants as faults
use Rattle.flat_machine.specs.Shares.{Shared}
use Rattle.flat_machine.specs.inner.Dones.{with_memory}
use Rattle.flat_machine.specs.inner.Prints.{with_more, PrintsPart}

-- what threads share, with this output
abbrev pub with_output : Shared → List ℕ → Shared
with_output s output = with_memory s (record s.memory { output = output })

pub with_nothing : (s : Shared) → s ≡ with_more s []
with_nothing s = ap (with_output s) (sym (append-nil s.memory.output))

pub with_more_twice : (s : Shared) (a b : List ℕ) → with_more (with_more s a) b ≡ with_more s (a ++ b)
with_more_twice s a b = ap (with_output s) (append_assoc s.memory.output a b)

-- ---- one part

module _ (old new : Shared) (r : Result (Unit {0}) Fault) (all : List ℕ) (room : ℕ) where
  -- these bytes are printed
  pub puts : length all ≤ room → r ≡ Ok tt → new ≡ with_more old all → PrintsPart (cond (leb (length all) room) (reads all) too_long) old new r
  puts fits r_is new_is =
      let e : leb (length all) room ≡ true = grind (arith, nat_tests) in
      rw e (r_is, new_is)

  -- they are too many
  pub puts_none : room < length all → r ≡ Err faults.Full → new ≡ old → PrintsPart (cond (leb (length all) room) (reads all) too_long) old new r
  puts_none more r_is new_is =
      let e : leb (length all) room ≡ false = grind (arith, nat_tests) in
      rw e (r_is, [], new_is ∙ with_nothing old)

  -- and some of them are
  pub puts_some : room < length all → r ≡ Err faults.Full → (more : List ℕ) → new ≡ with_more old more → PrintsPart (cond (leb (length all) room) (reads all) too_long) old new r
  puts_some less r_is more new_is =
      let e : leb (length all) room ≡ false = grind (arith, nat_tests) in
      rw e (r_is, more, new_is)

-- ---- one part behind another

pub puts_then : (old mid new : Shared) (r : Result (Unit {0}) Fault) (a : List ℕ) (q : Read) → mid ≡ with_more old a → PrintsPart q mid new r → PrintsPart (behind a q) old new r
puts_then old mid new r a (reads b) mid_is put = (put.0, put.1 ∙ ap (λ s. with_more s b) mid_is ∙ with_more_twice old a b)
puts_then old mid new r a (outside address) mid_is put = (put.0, a ++ put.1, put.2 ∙ ap (λ s. with_more s put.1) mid_is ∙ with_more_twice old a put.1)
puts_then old mid new r a too_long mid_is put = (put.0, a ++ put.1, put.2 ∙ ap (λ s. with_more s put.1) mid_is ∙ with_more_twice old a put.1)

pub behind_behind : (a b : List ℕ) (q : Read) → behind a (behind b q) ≡ behind (a ++ b) q
behind_behind a b (reads all) = ap reads (sym (append_assoc a b all))
behind_behind a b (outside address) = refl
behind_behind a b too_long = refl

-- ---- all parts

-- so much of a print is done: what is left is read behind it
pub record PrintsOn (old now : Shared) (whole : Read) (left : List Printed) : Type 0 where
  pub done : List ℕ
  pub is : now ≡ with_more old done
  pub rest : whole ≡ behind done (read_parts now.memory.storage.bytes left (output_room now.output_limit now.memory))

behind_nothing : (q : Read) → behind [] q ≡ q
behind_nothing (reads all) = refl
behind_nothing (outside address) = refl
behind_nothing too_long = refl

-- at first
pub prints_first : (old : Shared) (left : List Printed) → PrintsOn old old (read_parts old.memory.storage.bytes left (output_room old.output_limit old.memory)) left
prints_first old left = record { done = []; is = with_nothing old; rest = sym (behind_nothing _) }

-- at last
pub prints_all : (old new : Shared) (whole : Read) → PrintsOn old new whole [] → PrintsPart whole old new (Ok tt)
prints_all old new whole h = rw h.rest (refl, h.is ∙ ap (with_more old) (sym (append-nil h.done)))

-- what comes of one part
pub record Next (old new : Shared) (whole : Read) (left : List Printed) (r : Result (Unit {0}) Fault) : Type 0 where
  pub goes : r ≡ Ok tt → PrintsOn old new whole left
  pub stops : (f : Fault) → r ≡ Err f → PrintsPart whole old new (Err f)

room_left : (s : Shared) (a : List ℕ) → output_room s.output_limit s.memory - length a ≡ output_room s.output_limit (with_more s a).memory
room_left s a = omega (arith, length-append s.memory.output a)

next_by : (old now new : Shared) (whole : Read) (left : List Printed) (r : Result (Unit {0}) Fault) (done : List ℕ) → now ≡ with_more old done → (q : Read)
    → whole ≡ behind done (and_then q (output_room now.output_limit now.memory) (read_parts now.memory.storage.bytes left)) → PrintsPart q now new r → Next old new whole left r
next_by old now new whole left r done now_is (reads first) whole_is put = record {
  goes = λ _. record {
    done = done ++ first;
    is = put.1 ∙ ap (λ s. with_more s first) now_is ∙ with_more_twice old done first;
    rest = rw put.1 (whole_is ∙ behind_behind done first _ ∙ ap (λ room. behind (done ++ first) (read_parts now.memory.storage.bytes left room)) (room_left now first));
  };
  stops = λ f e. absurd (let k = put.0 in cc);
}
next_by old now new whole left r done now_is (outside address) whole_is put = record {
  goes = λ e. absurd (let k = put.0 in cc);
  stops = λ f e. rw whole_is (sym e ∙ put.0, done ++ put.1, put.2 ∙ ap (λ s. with_more s put.1) now_is ∙ with_more_twice old done put.1);
}
next_by old now new whole left r done now_is too_long whole_is put = record {
  goes = λ e. absurd (let k = put.0 in cc);
  stops = λ f e. rw whole_is (sym e ∙ put.0, done ++ put.1, put.2 ∙ ap (λ s. with_more s put.1) now_is ∙ with_more_twice old done put.1);
}

pub prints_next : (old now new : Shared) (whole : Read) (part : Printed) (left : List Printed) (r : Result (Unit {0}) Fault) → PrintsOn old now whole (part ∷ left)
    → PrintsPart (read_part now.memory.storage.bytes part (output_room now.output_limit now.memory)) now new r → Next old new whole left r
prints_next old now new whole part left r h put =
    next_by old now new whole left r h.done h.is (read_part now.memory.storage.bytes part (output_room now.output_limit now.memory)) h.rest put

-- ---- texts

-- a text is what is read of it
pub puts_text : (v old new : Shared) (r : Result (Unit {0}) Fault) (at room : ℕ) (q : Read) → v ≡ old → room ≡ output_room v.output_limit v.memory → text_at v.memory.storage.bytes at room ≡ q → PrintsPart q v new r
    → PrintsPart (text_at old.memory.storage.bytes at (output_room old.output_limit old.memory)) old new r
puts_text v old new r at room q is room_is text_is put =
    subst (λ (s : Shared). PrintsPart (text_at s.memory.storage.bytes at (output_room s.output_limit s.memory)) s new r) is
    (subst (λ (n : ℕ). PrintsPart (text_at v.memory.storage.bytes at n) v new r) room_is (subst (λ (p : Read). PrintsPart p v new r) (sym text_is) put))

-- ---- bytes behind bytes

-- what bytes leave
abbrev pub PutsBytes : (all : List ℕ) → (old new : Shared) → Result (Unit {0}) Fault → Type 0
PutsBytes all old new r = PrintsPart (cond (leb (length all) (output_room old.output_limit old.memory)) (reads all) too_long) old new r

-- there is room for them
record Fits (all : List ℕ) (old new : Shared) (r : Result (Unit {0}) Fault) : Type 0 where
  room : length all ≤ output_room old.output_limit old.memory
  went : r ≡ Ok tt
  now : new ≡ with_more old all

-- or not
record Lacks (all : List ℕ) (old new : Shared) (r : Result (Unit {0}) Fault) : Type 0 where
  room : output_room old.output_limit old.memory < length all
  went : r ≡ Err faults.Full
  more : List ℕ
  now : new ≡ with_more old more

room_for : (all : List ℕ) (old new : Shared) (r : Result (Unit {0}) Fault) → PutsBytes all old new r → Fits all old new r ⊎ Lacks all old new r
room_for all old new r put = by (cases_lt (output_room old.output_limit old.memory) (length all))
  where
    by : (output_room old.output_limit old.memory < length all) ⊎ (length all ≤ output_room old.output_limit old.memory) → Fits all old new r ⊎ Lacks all old new r
    by (inl less) =
        let e : leb (length all) (output_room old.output_limit old.memory) ≡ false = grind (arith, nat_tests) in
        let h = rw e at put in
        inr (record { room = less; went = h.0; more = h.1; now = h.2 })
    by (inr more) =
        let e : leb (length all) (output_room old.output_limit old.memory) ≡ true = grind (arith, nat_tests) in
        let h = rw e at put in
        inl (record { room = more; went = h.0; now = h.1 })

-- both are printed, or a part of them
both_by : (a b : List ℕ) (old mid new : Shared) (r : Result (Unit {0}) Fault) → Fits a old mid (Ok tt) ⊎ Lacks a old mid (Ok tt) → Fits b mid new r ⊎ Lacks b mid new r → PutsBytes (a ++ b) old new r
both_by a b old mid new r (inl f) (inl s) =
    let left = room_left old a in
    let room : output_room mid.output_limit mid.memory ≡ output_room old.output_limit (with_more old a).memory = ap (λ (m : Shared). output_room m.output_limit m.memory) f.now in
    puts old new r (a ++ b) (output_room old.output_limit old.memory) (omega (arith, length-append a b, left, room, s.room, f.room)) s.went (s.now ∙ ap (λ (m : Shared). with_more m b) f.now ∙ with_more_twice old a b)
both_by a b old mid new r (inl f) (inr s) =
    let left = room_left old a in
    let room : output_room mid.output_limit mid.memory ≡ output_room old.output_limit (with_more old a).memory = ap (λ (m : Shared). output_room m.output_limit m.memory) f.now in
    puts_some old new r (a ++ b) (output_room old.output_limit old.memory) (omega (arith, length-append a b, left, room, s.room, f.room)) s.went (a ++ s.more) (s.now ∙ ap (λ (m : Shared). with_more m s.more) f.now ∙ with_more_twice old a s.more)
both_by a b old mid new r (inr f) s = absurd (let e = f.went in cc)

pub puts_both : (a b : List ℕ) (old mid new : Shared) (r : Result (Unit {0}) Fault) → PutsBytes a old mid (Ok tt) → PutsBytes b mid new r → PutsBytes (a ++ b) old new r
puts_both a b old mid new r first second = both_by a b old mid new r (room_for a old mid (Ok tt) first) (room_for b mid new r second)

-- the first have no room
neither_by : (a b : List ℕ) (old new : Shared) (f : Fault) → Fits a old new (Err f) ⊎ Lacks a old new (Err f) → PutsBytes (a ++ b) old new (Err f)
neither_by a b old new f (inl h) = absurd (let e = h.went in cc)
neither_by a b old new f (inr h) = puts_some old new (Err f) (a ++ b) (output_room old.output_limit old.memory) (omega (arith, length-append a b, h.room)) h.went h.more h.now

pub puts_neither : (a b : List ℕ) (old new : Shared) (f : Fault) → PutsBytes a old new (Err f) → PutsBytes (a ++ b) old new (Err f)
puts_neither a b old new f first = neither_by a b old new f (room_for a old new (Err f) first)
