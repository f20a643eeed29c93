-- The kinds of touches, and which two of them are in each other's way.
use Rattle.std.specs.Prelude.{Bool, true, false, ◌&&◌, ◌||◌, not}
use Rattle.race_rules.specs.declared.touch.TouchKind.{TouchKind}
use Rattle.race_rules.specs.declared.touch.TouchKind.TheVariants.{Read, Write, AtomicRead, AtomicWrite, Lock, Unlock, Start, Join}

-- a read or a write of memory, atomic or not; the others are calls on mutexes and threads
abbrev pub is_access : TouchKind → Bool
is_access Read = true
is_access Write = true
is_access AtomicRead = true
is_access AtomicWrite = true
is_access Lock = false
is_access Unlock = false
is_access (Start t) = false
is_access (Join t) = false

-- one that changes what it touches
abbrev pub is_write : TouchKind → Bool
is_write Read = false
is_write Write = true
is_write AtomicRead = false
is_write AtomicWrite = true
is_write Lock = false
is_write Unlock = false
is_write (Start t) = false
is_write (Join t) = false

-- one that is atomic: a load or store of an _Atomic type
abbrev pub is_atomic : TouchKind → Bool
is_atomic Read = false
is_atomic Write = false
is_atomic AtomicRead = true
is_atomic AtomicWrite = true
is_atomic Lock = false
is_atomic Unlock = false
is_atomic (Start t) = false
is_atomic (Join t) = false

-- both are reads or writes, one writes, and not both are atomic (5.1.2.4 p4, p25)
abbrev pub clash : TouchKind → TouchKind → Bool
clash a b = (is_access a && is_access b) && ((is_write a || is_write b) && not (is_atomic a && is_atomic b))

-- whatever clashes with the old kind clashes with the new one, so that the new one may stand for the old
abbrev pub outdoes : (new old : TouchKind) → Bool
outdoes new old = is_access new && ((not (is_write old) || is_write new) && (not (is_atomic new) || is_atomic old))
