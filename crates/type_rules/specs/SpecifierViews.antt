-- What the code's specifiers, declarators and sizes are.
use Rattle.std.specs.Prelude.{ℕ, List, map, Option, Some, None, Vec}
use Rattle.std.specs.Borrow.{Bor}
use Rattle.std.specs.declared.alloc.Global.{Global}
use Rattle.c_tree.specs.declared.syntax.Span.{Span}
use Rattle.c_tree.specs.TypedViews.{type_view}
use Rattle.c_typing.specs.Judgement.{Part, word, whole, Declarator}
use Rattle.type_rules.specs.declared.declarators.Declared.{Declared}
use Rattle.type_rules.specs.declared.specifiers.Part.{Part as CodePart}
use Rattle.type_rules.specs.declared.specifiers.Part.TheVariants as parts

-- the sizes of an array of arrays, the outermost first (C11 6.7.6.2)
abbrev pub numbers_view : Vec ℕ Global → List ℕ
numbers_view v = v.items

-- the parts of the string literal that was found, if one was
abbrev pub parts_seen : Option (Bor (List Span)) → Option (List Span)
parts_seen None = None
parts_seen (Some b) = Some b.now

-- the specifier that one of the code stands for: a word, or a type of its own (C11 6.7.2)
abbrev pub part_view : CodePart → Part
part_view (parts.Word w) = word w
part_view (parts.Whole t) = whole (type_view t)

-- the specifiers that those of a list of the code stand for
abbrev pub parts_view : Vec CodePart Global → List Part
parts_view v = map part_view v.items

-- the declarator that one of the code stands for, once its sizes are known (C11 6.7.6)
abbrev pub declared_view : Declared → Declarator
declared_view d = record { name = d.name; pointers = d.pointers.now; sizes = d.sizes.items }

-- the declarators that those of a list of the code stand for
abbrev pub all_declared_view : Vec Declared Global → List Declarator
all_declared_view v = map declared_view v.items
