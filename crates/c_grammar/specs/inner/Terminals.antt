-- When terminals are the leaves of a tree. A terminal is a token of which is told whether it is a type's name.
use Rattle.std.specs.Prelude.{◌≡◌, List, [], ◌∷◌, None}
use Rattle.c_grammar.specs.declared.terminal.TerminalKind.{TerminalKind}
use Rattle.c_grammar.specs.declared.terminal.TerminalKind.TheVariants as kinds
use Rattle.c_grammar.specs.declared.terminal.Terminal.{Terminal}
use Rattle.c_grammar.specs.Leaves.{Sign, name_at, type_at, tag_at, int_at, char_at, text_at, word_at, some_word, mark_at, some_mark, declares, the_end, Leaf, over}

-- a name, a type's or another
abbrev pub IsAnyName : TerminalKind → Type 0
IsAnyName kinds.Name = Unit {0}
IsAnyName kinds.TypeName = Unit {0}
IsAnyName _ = ⊥

-- the terminal is what the sign asks for
abbrev pub IsSpelt : Sign → Terminal → Type 0
IsSpelt (name_at n) t = (t.kind ≡ kinds.Name) × (t.from ≡ n.from) × (t.to ≡ n.to)
IsSpelt (type_at n) t = (t.kind ≡ kinds.TypeName) × (t.from ≡ n.from) × (t.to ≡ n.to)
IsSpelt (tag_at n) t = IsAnyName t.kind × (t.from ≡ n.from) × (t.to ≡ n.to)
IsSpelt (int_at place value) t = (t.kind ≡ kinds.Int value) × (t.from ≡ place)
IsSpelt (char_at place value) t = (t.kind ≡ kinds.Char value) × (t.from ≡ place)
IsSpelt (text_at s) t = (t.kind ≡ kinds.Text) × (t.from ≡ s.from) × (t.to ≡ s.to)
IsSpelt (word_at place w) t = (t.kind ≡ kinds.Word w) × (t.from ≡ place)
IsSpelt (some_word w) t = t.kind ≡ kinds.Word w
IsSpelt (mark_at place m) t = (t.kind ≡ kinds.Mark m) × (t.from ≡ place)
IsSpelt (some_mark m) t = t.kind ≡ kinds.Mark m
IsSpelt (declares m n) t = t.kind ≡ kinds.Mark m
IsSpelt the_end t = t.kind ≡ kinds.End

-- ---- terminals that are the leaves of a tree, in order

-- the terminals are the leaves, one by one
abbrev pub Spelt : List Leaf → List Terminal → Type 0
Spelt [] [] = Unit {0}
Spelt [] (t ∷ ts) = ⊥
Spelt (l ∷ ls) [] = ⊥
Spelt (l ∷ ls) (t ∷ ts) = IsSpelt l.sign t × Spelt ls ts

-- the terminals are the first of the leaves
abbrev pub Begins : List Leaf → List Terminal → Type 0
Begins ls [] = Unit {0}
Begins [] (t ∷ ts) = ⊥
Begins (l ∷ ls) (t ∷ ts) = IsSpelt l.sign t × Begins ls ts

-- the terminals are the first of the leaves, and none of these is over a limit
abbrev pub BeginsWithin : List Leaf → List Terminal → Type 0
BeginsWithin ls [] = Unit {0}
BeginsWithin [] (t ∷ ts) = ⊥
BeginsWithin (l ∷ ls) (t ∷ ts) = IsSpelt l.sign t × (over l ≡ None) × BeginsWithin ls ts
