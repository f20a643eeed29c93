-- How a step went, or why a barrier came, by their numbers. Of a turn it is one of `look` to `no_stack`, of a served allocation
-- `malloc_got` or `malloc_null`, of a barrier `for_room` or `for_every`, of an evacuation `evacuation`, and of any other entry 0.
use Rattle.std.specs.Prelude.{ℕ}

-- a pointer was translated
abbrev pub look : ℕ
look = 0

-- a step was done that neither allocates nor makes a thread
abbrev pub plain_step : ℕ
plain_step = 1

-- an allocation gave an object
abbrev pub malloc_got : ℕ
malloc_got = 2

-- an allocation gave null
abbrev pub malloc_null : ℕ
malloc_null = 3

-- a thread was made
abbrev pub thread_made : ℕ
thread_made = 4

-- no thread was made
abbrev pub thread_refused : ℕ
thread_refused = 5

-- the mutex is held, or the joined thread has not ended
abbrev pub busy : ℕ
busy = 6

-- the allocation found no room, and waits for a barrier
abbrev pub waits_for_room : ℕ
waits_for_room = 7

-- the thread rests at a safepoint
abbrev pub rest : ℕ
rest = 8

-- the thread ended
abbrev pub end : ℕ
end = 9

-- the step would have reached a byte outside the machine's, or freed what is not live
abbrev pub trap : ℕ
trap = 10

-- the print would have passed the output's limit
abbrev pub output_limit : ℕ
output_limit = 11

-- the next call had no room on the thread's stack
abbrev pub no_stack : ℕ
no_stack = 12

-- a barrier that a waiting allocation wanted
abbrev pub for_room : ℕ
for_room = 0

-- a barrier that came after a set number of turns
abbrev pub for_every : ℕ
for_every = 1

-- an evacuation, which stands directly before a barrier
abbrev pub evacuation : ℕ
evacuation = 2
