-- What a turn asks for that doesn't take Plain: what it's given where it's told Got.
use Rattle.std.specs.Prelude.{ℕ, ◌≡◌, ◌≤◌, ◌^◌, ◌==◌, if◌then◌else◌, [], ◌∷◌, length, MatchOption, Option, Some, None}
use Rattle.block_store.specs.declared.values.Answer.{Answer}
use Rattle.block_store.specs.declared.values.Answer.TheVariants as answers
use Rattle.block_store.specs.Actions.{World}
use Rattle.block_store.specs.Blocks.{Block, Blocks}
use Rattle.block_store.specs.Runs.{Program, State, Turn, went, unfit, picked}

-- what a turn asks for: nothing; so many bytes; more bytes than a block can have, 2^32 or more; or that a thread is made
pub data Wish : Type 0 where
  nothing : Wish
  some_bytes : (n : ℕ) → Wish
  too_many_bytes : Wish
  a_thread : Wish

-- the size of a block
abbrev pub size_of_block : Option Block → ℕ
size_of_block None = 0
size_of_block (Some b) = length b.cells

-- the size of the block that was made last
abbrev pub size_of_last : Blocks → ℕ
size_of_last [] = 0
size_of_last (b ∷ []) = size_of_block b
size_of_last (b ∷ next ∷ more) = size_of_last (next ∷ more)

-- by what a turn comes to that is told None: what no block of any size can hold takes None all the same; what takes no answer at all
-- asks for nothing
abbrev pub wish_by_none : {A : Type 0} → Option (Turn A) → Wish
wish_by_none (Some unfit) = nothing
wish_by_none t = too_many_bytes

-- by what it comes to in this world where it's told Got: there is a thread more, or else a block, the last one that was made in the
-- turn; no block has 2^32 bytes; and else it's a thread, since the place for its number may break a rule
abbrev pub wish_by_got : {A : Type 0} → World → (granted refused : Option (Turn A)) → Wish
wish_by_got w (Some (went own after)) refused = if length after.threads == length w.threads then some_bytes (size_of_last after.blocks) else a_thread
wish_by_got w (Some unfit) refused = wish_by_none refused
wish_by_got w granted refused = a_thread

-- by what it comes to under each answer: what takes Plain asks for nothing
abbrev pub wish_by : {A : Type 0} → World → (plain granted refused : Option (Turn A)) → Wish
wish_by w (Some unfit) granted refused = wish_by_got w granted refused
wish_by w plain granted refused = nothing

-- what the next turn of a thread comes to under an answer
abbrev pub told : {A : Type 0} → Program A → State A → (thread : ℕ) → Answer → Option (Turn A)
told P s thread answer = picked P s (record { thread = thread; answer = answer })

-- what the next turn of a thread asks for
abbrev pub wish : {A : Type 0} → Program A → State A → (thread : ℕ) → Wish
wish P s thread = wish_by s.world (told P s thread answers.Plain) (told P s thread answers.Got) (told P s thread answers.None)

-- the number of bytes that a turn asks for, if it asks for any; of more than a block can have it's just said that they are
abbrev pub AreAsked : Wish → Option ℕ → Type 0
AreAsked nothing asked = asked ≡ None
AreAsked (some_bytes n) asked = asked ≡ Some n
AreAsked too_many_bytes asked = MatchOption asked ⊥ (λ n. 2 ^ 32 ≤ n)
AreAsked a_thread asked = asked ≡ None

-- the same of a turn that was told this answer: those of one that was told Plain
abbrev pub AreAskedOf : Answer → Wish → Option ℕ → Type 0
AreAskedOf answers.Plain w asked = AreAsked w asked
AreAskedOf answers.Got w asked = asked ≡ None
AreAskedOf answers.None w asked = asked ≡ None
