-- The kinds of entries, by their numbers.
use Rattle.std.specs.Prelude.{ℕ}

-- a thread goes out with a worker
abbrev pub out : ℕ
out = 0

-- a thread comes home
abbrev pub home : ℕ
home = 1

-- a thread's local turns, and then its step
abbrev pub turn : ℕ
turn = 2

-- all threads are home, and objects are moved
abbrev pub barrier : ℕ
barrier = 3

-- a malloc that waited is served after a barrier
abbrev pub served : ℕ
served = 4
