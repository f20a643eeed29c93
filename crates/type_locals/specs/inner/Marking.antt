-- Which numbers are marked.
use Rattle.std.specs.Prelude.{ℕ, ◌+◌, Bool, if◌then◌else◌, List, [], ◌∷◌}
use Rattle.type_locals.specs.declared.marks.Marks.{Marks}

-- the numbers from k on whose marks are set
abbrev pub marked_from : (k : ℕ) → List Bool → List ℕ
marked_from k [] = []
marked_from k (mark ∷ marks) = if mark then k ∷ marked_from (1 + k) marks else marked_from (1 + k) marks

-- the numbers that are marked
abbrev pub marked : Marks → List ℕ
marked marks = marked_from 0 marks.table.items
