-- The runs of the text, computed.
use Rattle.std.proofs.Common.{◌≡◌, ◌≢◌, refl, sym, ◌∙◌, ap, ℕ, zero, suc, ◌≤◌, ◌-◌, ◌⊎◌, inl, inr, List, [], ◌∷◌, length, take, drop, Option, Some, None, lit≤, arith}
use Rattle.std.specs.Fmt.{digits}
use Rattle.ak_words.specs.Op.{exact_result, rule_of}
use Rattle.ak_words.specs.Wrapped.{residue, wrapped_value}
use Rattle.block_store.specs.declared.values.Answer.{Answer}
use Rattle.block_store.specs.declared.values.Answer.TheVariants as answers
use Rattle.block_store.specs.Runs.{Pick, Program, State, first_state, own_at, picked, Run, reaches, breaks, no_run, run_from}
use Rattle.c_meaning.specs.Control.{Control}
use Rattle.c_meaning.specs.Meaning.{program, start, run}
use Rattle.headline_example.specs.Text.{tree}
use Rattle.headline_example.specs.Runs.{whole_order, BeginsWithNull, IsFront, IsQuiet, GoesWell, RunsAreKnown}

-- the program
abbrev P : Program Control
P = program tree

-- where a run comes to that comes anywhere
abbrev state_in : Run Control → State Control
state_in (reaches u) = u
state_in (breaks rule k) = first_state P (start tree)
state_in (no_run k) = first_state P (start tree)

-- the state after the first turns of the whole order
abbrev at : (turns : ℕ) → State Control
at turns = state_in (run tree (take turns whole_order))

-- a pick of these two
abbrev told : ℕ → Answer → Pick
told thread answer = record { thread = thread; answer = answer }

-- how many calls of a thread wait, if it runs
abbrev waiting : Option Control → ℕ
waiting None = 0
waiting (Some own) = length own.callers

-- ---- the states

quiet0 : (thread : ℕ) (answer : Answer) → IsQuiet 0 (picked P (at 0) (told thread answer))
unfolding digits residue wrapped_value exact_result rule_of
quiet0 zero answers.Plain = tt
quiet0 zero answers.Got = (refl {a = 0}, lit≤ {m = 0} {n = 3} tt)
quiet0 zero answers.None = (refl {a = 0}, lit≤ {m = 0} {n = 3} tt)
quiet0 (suc k) answer = tt

callers0 : (thread : ℕ) → waiting (own_at (at 0).own thread) ≡ 0
unfolding digits residue wrapped_value exact_result rule_of
callers0 zero = refl
callers0 (suc k) = refl

well0 : GoesWell 0 (take 0 whole_order)
unfolding digits residue wrapped_value exact_result rule_of
well0 = record {
  state = at 0;
  comes = refl;
  after = record {
    output = refl;
    stages_are = refl;
    callers = λ thread own h. ap waiting (sym h) ∙ callers0 thread;
    quiet = λ p. quiet0 p.thread p.answer;
  };
}

quiet1 : (thread : ℕ) (answer : Answer) → IsQuiet 0 (picked P (at 1) (told thread answer))
unfolding digits residue wrapped_value exact_result rule_of
quiet1 zero answers.Plain = (refl {a = 0}, lit≤ {m = 0} {n = 3} tt)
quiet1 zero answers.Got = tt
quiet1 zero answers.None = tt
quiet1 (suc k) answer = tt

callers1 : (thread : ℕ) → waiting (own_at (at 1).own thread) ≡ 0
unfolding digits residue wrapped_value exact_result rule_of
callers1 zero = refl
callers1 (suc k) = refl

well1 : GoesWell 1 (take 1 whole_order)
unfolding digits residue wrapped_value exact_result rule_of
well1 = record {
  state = at 1;
  comes = refl;
  after = record {
    output = refl;
    stages_are = refl;
    callers = λ thread own h. ap waiting (sym h) ∙ callers1 thread;
    quiet = λ p. quiet1 p.thread p.answer;
  };
}

quiet2 : (thread : ℕ) (answer : Answer) → IsQuiet 0 (picked P (at 2) (told thread answer))
unfolding digits residue wrapped_value exact_result rule_of
quiet2 zero answers.Plain = (refl {a = 0}, lit≤ {m = 0} {n = 3} tt)
quiet2 zero answers.Got = tt
quiet2 zero answers.None = tt
quiet2 (suc k) answer = tt

callers2 : (thread : ℕ) → waiting (own_at (at 2).own thread) ≡ 0
unfolding digits residue wrapped_value exact_result rule_of
callers2 zero = refl
callers2 (suc k) = refl

well2 : GoesWell 2 (take 2 whole_order)
unfolding digits residue wrapped_value exact_result rule_of
well2 = record {
  state = at 2;
  comes = refl;
  after = record {
    output = refl;
    stages_are = refl;
    callers = λ thread own h. ap waiting (sym h) ∙ callers2 thread;
    quiet = λ p. quiet2 p.thread p.answer;
  };
}

quiet3 : (thread : ℕ) (answer : Answer) → IsQuiet 0 (picked P (at 3) (told thread answer))
unfolding digits residue wrapped_value exact_result rule_of
quiet3 zero answers.Plain = (refl {a = 0}, lit≤ {m = 0} {n = 3} tt)
quiet3 zero answers.Got = tt
quiet3 zero answers.None = tt
quiet3 (suc k) answer = tt

callers3 : (thread : ℕ) → waiting (own_at (at 3).own thread) ≡ 0
unfolding digits residue wrapped_value exact_result rule_of
callers3 zero = refl
callers3 (suc k) = refl

well3 : GoesWell 3 (take 3 whole_order)
unfolding digits residue wrapped_value exact_result rule_of
well3 = record {
  state = at 3;
  comes = refl;
  after = record {
    output = refl;
    stages_are = refl;
    callers = λ thread own h. ap waiting (sym h) ∙ callers3 thread;
    quiet = λ p. quiet3 p.thread p.answer;
  };
}

quiet4 : (thread : ℕ) (answer : Answer) → IsQuiet 0 (picked P (at 4) (told thread answer))
unfolding digits residue wrapped_value exact_result rule_of
quiet4 zero answers.Plain = (refl {a = 0}, lit≤ {m = 0} {n = 3} tt)
quiet4 zero answers.Got = tt
quiet4 zero answers.None = tt
quiet4 (suc k) answer = tt

callers4 : (thread : ℕ) → waiting (own_at (at 4).own thread) ≡ 0
unfolding digits residue wrapped_value exact_result rule_of
callers4 zero = refl
callers4 (suc k) = refl

well4 : GoesWell 4 (take 4 whole_order)
unfolding digits residue wrapped_value exact_result rule_of
well4 = record {
  state = at 4;
  comes = refl;
  after = record {
    output = refl;
    stages_are = refl;
    callers = λ thread own h. ap waiting (sym h) ∙ callers4 thread;
    quiet = λ p. quiet4 p.thread p.answer;
  };
}

quiet5 : (thread : ℕ) (answer : Answer) → IsQuiet 0 (picked P (at 5) (told thread answer))
unfolding digits residue wrapped_value exact_result rule_of
quiet5 zero answers.Plain = (refl {a = 0}, lit≤ {m = 3} {n = 3} tt)
quiet5 zero answers.Got = tt
quiet5 zero answers.None = tt
quiet5 (suc k) answer = tt

callers5 : (thread : ℕ) → waiting (own_at (at 5).own thread) ≡ 0
unfolding digits residue wrapped_value exact_result rule_of
callers5 zero = refl
callers5 (suc k) = refl

well5 : GoesWell 5 (take 5 whole_order)
unfolding digits residue wrapped_value exact_result rule_of
well5 = record {
  state = at 5;
  comes = refl;
  after = record {
    output = refl;
    stages_are = refl;
    callers = λ thread own h. ap waiting (sym h) ∙ callers5 thread;
    quiet = λ p. quiet5 p.thread p.answer;
  };
}

quiet6 : (thread : ℕ) (answer : Answer) → IsQuiet 0 (picked P (at 6) (told thread answer))
unfolding digits residue wrapped_value exact_result rule_of
quiet6 zero answers.Plain = (refl {a = 0}, lit≤ {m = 3} {n = 3} tt)
quiet6 zero answers.Got = tt
quiet6 zero answers.None = tt
quiet6 (suc k) answer = tt

callers6 : (thread : ℕ) → waiting (own_at (at 6).own thread) ≡ 0
unfolding digits residue wrapped_value exact_result rule_of
callers6 zero = refl
callers6 (suc k) = refl

well6 : GoesWell 6 (take 6 whole_order)
unfolding digits residue wrapped_value exact_result rule_of
well6 = record {
  state = at 6;
  comes = refl;
  after = record {
    output = refl;
    stages_are = refl;
    callers = λ thread own h. ap waiting (sym h) ∙ callers6 thread;
    quiet = λ p. quiet6 p.thread p.answer;
  };
}

quiet7 : (thread : ℕ) (answer : Answer) → IsQuiet 0 (picked P (at 7) (told thread answer))
unfolding digits residue wrapped_value exact_result rule_of
quiet7 zero answers.Plain = tt
quiet7 zero answers.Got = tt
quiet7 zero answers.None = tt
quiet7 (suc k) answer = tt

callers7 : (thread : ℕ) → waiting (own_at (at 7).own thread) ≡ 0
unfolding digits residue wrapped_value exact_result rule_of
callers7 zero = refl
callers7 (suc k) = refl

well7 : GoesWell 7 (take 7 whole_order)
unfolding digits residue wrapped_value exact_result rule_of
well7 = record {
  state = at 7;
  comes = refl;
  after = record {
    output = refl;
    stages_are = refl;
    callers = λ thread own h. ap waiting (sym h) ∙ callers7 thread;
    quiet = λ p. quiet7 p.thread p.answer;
  };
}

quiet8 : (thread : ℕ) (answer : Answer) → IsQuiet 0 (picked P (at 8) (told thread answer))
unfolding digits residue wrapped_value exact_result rule_of
quiet8 thread answer = tt

callers8 : (thread : ℕ) → waiting (own_at (at 8).own thread) ≡ 0
unfolding digits residue wrapped_value exact_result rule_of
callers8 zero = refl
callers8 (suc k) = refl

well8 : GoesWell 8 (take 8 whole_order)
unfolding digits residue wrapped_value exact_result rule_of
well8 = record {
  state = at 8;
  comes = refl;
  after = record {
    output = refl;
    stages_are = refl;
    callers = λ thread own h. ap waiting (sym h) ∙ callers8 thread;
    quiet = λ p. quiet8 p.thread p.answer;
  };
}

fronts : (turns : ℕ) → turns ≤ 8 → GoesWell turns (take turns whole_order)
fronts zero h = well0
fronts (suc zero) h = well1
fronts (suc (suc zero)) h = well2
fronts (suc (suc (suc zero))) h = well3
fronts (suc (suc (suc (suc zero)))) h = well4
fronts (suc (suc (suc (suc (suc zero))))) h = well5
fronts (suc (suc (suc (suc (suc (suc zero)))))) h = well6
fronts (suc (suc (suc (suc (suc (suc (suc zero))))))) h = well7
fronts (suc (suc (suc (suc (suc (suc (suc (suc zero)))))))) h = well8
fronts (suc (suc (suc (suc (suc (suc (suc (suc (suc n))))))))) h = absurd (omega (arith, h))

-- ---- the orders

-- there is a run
abbrev RunsOn : Run Control → Type 0
RunsOn r = (turns : ℕ) → r ≢ no_run turns

-- an order is the turns of the whole order behind the first, so many of them
record IsFrontBehind (first : ℕ) (order : List Pick) : Type 0 where
  turns : ℕ
  few : turns ≤ 8 - first
  is : order ≡ take turns (drop first whole_order)

orders8 : (order : List Pick) → RunsOn (run_from P order 8 (at 8)) → IsFrontBehind 8 order
unfolding digits residue wrapped_value exact_result rule_of
orders8 [] h = record { turns = 0; few = lit≤ tt; is = refl }
orders8 (p ∷ order) h = absurd (h 8 refl)

next7 : (thread : ℕ) (answer : Answer) (order : List Pick) → RunsOn (run_from P (told thread answer ∷ order) 7 (at 7)) → IsFrontBehind 7 (told thread answer ∷ order)
unfolding digits residue wrapped_value exact_result rule_of
next7 zero answers.Plain order h =
    let f = orders8 order h in record { turns = suc f.turns; few = omega (arith, f.few); is = ap (λ rest. told 0 answers.Plain ∷ rest) f.is }
next7 zero answers.Got order h = absurd (h 7 refl)
next7 zero answers.None order h = absurd (h 7 refl)
next7 (suc k) answer order h = absurd (h 7 refl)

orders7 : (order : List Pick) → RunsOn (run_from P order 7 (at 7)) → IsFrontBehind 7 order
unfolding digits residue wrapped_value exact_result rule_of
orders7 [] h = record { turns = 0; few = lit≤ tt; is = refl }
orders7 (p ∷ order) h = next7 p.thread p.answer order h

next6 : (thread : ℕ) (answer : Answer) (order : List Pick) → RunsOn (run_from P (told thread answer ∷ order) 6 (at 6)) → IsFrontBehind 6 (told thread answer ∷ order)
unfolding digits residue wrapped_value exact_result rule_of
next6 zero answers.Plain order h =
    let f = orders7 order h in record { turns = suc f.turns; few = omega (arith, f.few); is = ap (λ rest. told 0 answers.Plain ∷ rest) f.is }
next6 zero answers.Got order h = absurd (h 6 refl)
next6 zero answers.None order h = absurd (h 6 refl)
next6 (suc k) answer order h = absurd (h 6 refl)

orders6 : (order : List Pick) → RunsOn (run_from P order 6 (at 6)) → IsFrontBehind 6 order
unfolding digits residue wrapped_value exact_result rule_of
orders6 [] h = record { turns = 0; few = lit≤ tt; is = refl }
orders6 (p ∷ order) h = next6 p.thread p.answer order h

next5 : (thread : ℕ) (answer : Answer) (order : List Pick) → RunsOn (run_from P (told thread answer ∷ order) 5 (at 5)) → IsFrontBehind 5 (told thread answer ∷ order)
unfolding digits residue wrapped_value exact_result rule_of
next5 zero answers.Plain order h =
    let f = orders6 order h in record { turns = suc f.turns; few = omega (arith, f.few); is = ap (λ rest. told 0 answers.Plain ∷ rest) f.is }
next5 zero answers.Got order h = absurd (h 5 refl)
next5 zero answers.None order h = absurd (h 5 refl)
next5 (suc k) answer order h = absurd (h 5 refl)

orders5 : (order : List Pick) → RunsOn (run_from P order 5 (at 5)) → IsFrontBehind 5 order
unfolding digits residue wrapped_value exact_result rule_of
orders5 [] h = record { turns = 0; few = lit≤ tt; is = refl }
orders5 (p ∷ order) h = next5 p.thread p.answer order h

next4 : (thread : ℕ) (answer : Answer) (order : List Pick) → RunsOn (run_from P (told thread answer ∷ order) 4 (at 4)) → IsFrontBehind 4 (told thread answer ∷ order)
unfolding digits residue wrapped_value exact_result rule_of
next4 zero answers.Plain order h =
    let f = orders5 order h in record { turns = suc f.turns; few = omega (arith, f.few); is = ap (λ rest. told 0 answers.Plain ∷ rest) f.is }
next4 zero answers.Got order h = absurd (h 4 refl)
next4 zero answers.None order h = absurd (h 4 refl)
next4 (suc k) answer order h = absurd (h 4 refl)

orders4 : (order : List Pick) → RunsOn (run_from P order 4 (at 4)) → IsFrontBehind 4 order
unfolding digits residue wrapped_value exact_result rule_of
orders4 [] h = record { turns = 0; few = lit≤ tt; is = refl }
orders4 (p ∷ order) h = next4 p.thread p.answer order h

next3 : (thread : ℕ) (answer : Answer) (order : List Pick) → RunsOn (run_from P (told thread answer ∷ order) 3 (at 3)) → IsFrontBehind 3 (told thread answer ∷ order)
unfolding digits residue wrapped_value exact_result rule_of
next3 zero answers.Plain order h =
    let f = orders4 order h in record { turns = suc f.turns; few = omega (arith, f.few); is = ap (λ rest. told 0 answers.Plain ∷ rest) f.is }
next3 zero answers.Got order h = absurd (h 3 refl)
next3 zero answers.None order h = absurd (h 3 refl)
next3 (suc k) answer order h = absurd (h 3 refl)

orders3 : (order : List Pick) → RunsOn (run_from P order 3 (at 3)) → IsFrontBehind 3 order
unfolding digits residue wrapped_value exact_result rule_of
orders3 [] h = record { turns = 0; few = lit≤ tt; is = refl }
orders3 (p ∷ order) h = next3 p.thread p.answer order h

next2 : (thread : ℕ) (answer : Answer) (order : List Pick) → RunsOn (run_from P (told thread answer ∷ order) 2 (at 2)) → IsFrontBehind 2 (told thread answer ∷ order)
unfolding digits residue wrapped_value exact_result rule_of
next2 zero answers.Plain order h =
    let f = orders3 order h in record { turns = suc f.turns; few = omega (arith, f.few); is = ap (λ rest. told 0 answers.Plain ∷ rest) f.is }
next2 zero answers.Got order h = absurd (h 2 refl)
next2 zero answers.None order h = absurd (h 2 refl)
next2 (suc k) answer order h = absurd (h 2 refl)

orders2 : (order : List Pick) → RunsOn (run_from P order 2 (at 2)) → IsFrontBehind 2 order
unfolding digits residue wrapped_value exact_result rule_of
orders2 [] h = record { turns = 0; few = lit≤ tt; is = refl }
orders2 (p ∷ order) h = next2 p.thread p.answer order h

next1 : (thread : ℕ) (answer : Answer) (order : List Pick) → RunsOn (run_from P (told thread answer ∷ order) 1 (at 1)) → IsFrontBehind 1 (told thread answer ∷ order)
unfolding digits residue wrapped_value exact_result rule_of
next1 zero answers.Plain order h =
    let f = orders2 order h in record { turns = suc f.turns; few = omega (arith, f.few); is = ap (λ rest. told 0 answers.Plain ∷ rest) f.is }
next1 zero answers.Got order h = absurd (h 1 refl)
next1 zero answers.None order h = absurd (h 1 refl)
next1 (suc k) answer order h = absurd (h 1 refl)

orders1 : (order : List Pick) → RunsOn (run_from P order 1 (at 1)) → IsFrontBehind 1 order
unfolding digits residue wrapped_value exact_result rule_of
orders1 [] h = record { turns = 0; few = lit≤ tt; is = refl }
orders1 (p ∷ order) h = next1 p.thread p.answer order h

next0 : (thread : ℕ) (answer : Answer) (order : List Pick) → RunsOn (run_from P (told thread answer ∷ order) 0 (at 0)) → IsFront (told thread answer ∷ order) ⊎ BeginsWithNull (told thread answer ∷ order)
unfolding digits residue wrapped_value exact_result rule_of
next0 zero answers.Plain order h = absurd (h 0 refl)
next0 zero answers.Got order h =
    let f = orders1 order h in inl (record { turns = suc f.turns; few = omega (arith, f.few); is = ap (λ rest. told 0 answers.Got ∷ rest) f.is })
next0 zero answers.None order h = inr refl
next0 (suc k) answer order h = absurd (h 0 refl)

orders : (order : List Pick) → RunsOn (run tree order) → IsFront order ⊎ BeginsWithNull order
orders [] h = inl (record { turns = 0; few = lit≤ tt; is = refl })
orders (p ∷ order) h = next0 p.thread p.answer order h

pub known : RunsAreKnown
known = record { orders = orders; fronts = fronts }
