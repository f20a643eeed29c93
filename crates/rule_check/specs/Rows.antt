-- Checks worked out by hand, of toy programs: the definitions, put to the test.
use Rattle.std.specs.Prelude.{◌≡◌, ℕ, ◌^◌, List, [], ◌∷◌, codes, map, replicate, slice_get, Option, Some, None, pos}
use Rattle.ak_words.specs.declared.rule.Rule.TheVariants.{C5}
use Rattle.ak_words.specs.IntType.{int}
use Rattle.ak_trace.specs.declared.endings.Verdict.{Verdict}
use Rattle.ak_trace.specs.declared.endings.Verdict.TheVariants as verdicts
use Rattle.block_store.specs.declared.values.Access.TheVariants as accesses
use Rattle.block_store.specs.declared.values.Answer.{Answer}
use Rattle.block_store.specs.declared.values.Answer.TheVariants as answers
use Rattle.block_store.specs.declared.values.BlockKind.TheVariants as kinds
use Rattle.block_store.specs.declared.values.Cell.TheVariants.{Unknown, Byte}
use Rattle.block_store.specs.declared.values.Change.TheVariants.{Add}
use Rattle.block_store.specs.declared.values.Ptr.TheVariants.{Null, To}
use Rattle.block_store.specs.Actions as actions
use Rattle.block_store.specs.Actions.{World, SharedAction, load, allocate, reallocate, change, compare, print, bytes, start, join, finish, acted, first_world}
use Rattle.block_store.specs.Runs.{Program, Pick, Turn, went, ended, blocked, unfit, broke, first_state}
use Rattle.block_meaning.specs.Asking.{Wish, nothing, some_bytes, too_many_bytes, a_thread, wish}
use Rattle.flat_rules.specs.Draws.{draws}
use Rattle.rule_check.specs.Reports.{Report}
use Rattle.rule_check.specs.Seeded.{draw_before, looked_at, answer_to}
use Rattle.rule_check.specs.Checks.{IsCheck}

-- what comes of a turn of a thread, by what comes of its action; each stands at place 35
abbrev pub turn_by : (rest : List SharedAction) → actions.Done → Turn (List SharedAction)
turn_by rest (actions.went v w) = went rest w
turn_by rest actions.blocked = blocked
turn_by rest actions.unfit = unfit
turn_by rest (actions.broke rule) = broke rule 35

-- a thread's end
abbrev pub end_by : actions.Done → Turn (List SharedAction)
end_by (actions.went v w) = ended w
end_by actions.blocked = blocked
end_by actions.unfit = unfit
end_by (actions.broke rule) = broke rule 35

-- a thread of a toy program has a list of actions, of which each turn does the next; where none is left its first function returns 6
abbrev pub toy_turn : (thread : ℕ) → Answer → List SharedAction → World → Turn (List SharedAction)
toy_turn thread answer [] w = end_by (acted w thread answer (finish (Some (pos 6))))
toy_turn thread answer (action ∷ rest) w = turn_by rest (acted w thread answer action)

-- the actions of a function
abbrev pub actions_if : Option (List SharedAction) → List SharedAction
actions_if None = []
actions_if (Some all) = all

-- a toy program, by its functions
abbrev pub toy : List (List SharedAction) → Program (List SharedAction)
toy functions = record {
  main = 0;
  begins = λ function argument. actions_if (slice_get functions function);
  turn = toy_turn;
  calls = λ own. 0;
}

-- the world in which it begins, with a global of eight zero bytes
abbrev pub toy_world : World
toy_world = first_world (Some (record { kind = kinds.Global; cells = replicate 8 (Byte 0) }) ∷ []) 0

-- a text is printed
abbrev pub prints : List ℕ → SharedAction
prints text = print (bytes text ∷ [])

-- a thread is made that begins with function 1
abbrev pub starts : SharedAction
starts = start (To 0 0) 1 Null

-- a thread is awaited
abbrev pub awaits : (thread : ℕ) → SharedAction
awaits thread = join thread Null

-- a turn of a thread that was told this answer
abbrev pub plain : (thread : ℕ) → Pick
plain thread = record { thread = thread; answer = answers.Plain }

-- a turn of a thread whose allocation got its memory
abbrev pub got : (thread : ℕ) → Pick
got thread = record { thread = thread; answer = answers.Got }

-- a report
abbrev pub report : Verdict → List Pick → List ℕ → Report
report verdict order output = record { verdict = verdict; order = order; output = output }

-- a load through null behind a text; a program that ends; two threads that await one another; one that would go on
abbrev pub falls : Program (List SharedAction)
falls = toy ((prints (codes "a") ∷ load Null accesses.Pointer ∷ []) ∷ [])

-- prints, and ends
abbrev pub ends : Program (List SharedAction)
ends = toy ((prints (codes "hi") ∷ []) ∷ [])

-- main awaits a thread that awaits main
abbrev pub hangs : Program (List SharedAction)
hangs = toy ((starts ∷ awaits 1 ∷ []) ∷ (awaits 0 ∷ []) ∷ [])

-- main and a thread print two texts each
abbrev pub shares : Program (List SharedAction)
shares = toy ((starts ∷ prints (codes "a") ∷ prints (codes "a") ∷ []) ∷ (prints (codes "b") ∷ prints (codes "b") ∷ []) ∷ [])

-- each verdict once: after a turn the next one breaks C5; main returns in the second turn; both threads wait after one turn; and of a
-- program that would go on four turns were done. The draws of seed 1 are 16838, 5758, 10113 and 17515: where two threads run, the even
-- ones choose the first and the odd ones the second
pub record ChecksStand : Type 0 where
  pub falls_stands : IsCheck falls toy_world 0 9 (report (verdicts.Broke C5 35 1) (plain 0 ∷ []) (codes "a"))
  pub ends_stands : IsCheck ends toy_world 0 2 (report (verdicts.Ended (pos 6) 2) (plain 0 ∷ plain 0 ∷ []) (codes "hi"))
  pub hangs_stands : IsCheck hangs toy_world 0 9 (report (verdicts.AllBlocked 1) (got 0 ∷ []) [])
  pub shares_stands : IsCheck shares toy_world 1 4 (report (verdicts.TurnsSpent 4) (got 0 ∷ plain 0 ∷ plain 1 ∷ plain 1 ∷ []) (codes "abb"))

-- what a program's first turn asks for, where it does this action
abbrev pub wish_of : SharedAction → Wish
wish_of action = wish (toy ((action ∷ []) ∷ [])) (first_state (toy ((action ∷ []) ∷ [])) toy_world) 0

-- what turns ask for, and what they are told
pub record AnswersStand : Type 0 where
  pub a_load : wish_of (load Null accesses.Pointer) ≡ nothing
  pub four_bytes : wish_of (allocate 4 Unknown) ≡ some_bytes 4
  pub too_many : wish_of (allocate (2 ^ 32) Unknown) ≡ too_many_bytes
  -- a realloc asks for the new block's bytes, and for nothing where free would break a rule
  pub eight_anew : wish_of (reallocate Null 8) ≡ some_bytes 8
  pub too_many_anew : wish_of (reallocate Null (2 ^ 32)) ≡ too_many_bytes
  pub none_of_the_dead : wish_of (reallocate (To 9 0) 8) ≡ nothing
  -- an atomic number is changed and compared for the asking
  pub a_change : wish_of (change (To 0 0) int Add (pos 1)) ≡ nothing
  pub a_compare : wish_of (compare (To 0 0) (To 0 4) int (pos 1)) ≡ nothing
  pub a_new_thread : wish_of starts ≡ a_thread
  pub one_without_place : wish_of (start Null 1 Null) ≡ a_thread
  pub most_bytes : answer_to 1 (some_bytes 16777216) ≡ answers.Got
  pub one_byte_more : answer_to 1 (some_bytes 16777217) ≡ answers.None
  pub last_thread : answer_to 63 a_thread ≡ answers.Got
  pub one_thread_more : answer_to 64 a_thread ≡ answers.None

-- the draws before the first turns, and in which order they look at three threads
pub record DrawsStand : Type 0 where
  pub first_draws : map (draw_before 1) (0 ∷ 1 ∷ 2 ∷ 3 ∷ []) ≡ draws 4 1
  pub are_these : map (draw_before 1) (0 ∷ 1 ∷ 2 ∷ 3 ∷ []) ≡ 16838 ∷ 5758 ∷ 10113 ∷ 17515 ∷ []
  pub round : looked_at 16838 (0 ∷ 2 ∷ 5 ∷ []) ≡ 5 ∷ 0 ∷ 2 ∷ []
