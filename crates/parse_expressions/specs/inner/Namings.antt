-- How the name in a declarator is told, as the grammar has it.
use Rattle.parse_expressions.specs.declared.types.Naming.{Naming}
use Rattle.parse_expressions.specs.declared.types.Naming.TheVariants as namings
use Rattle.c_grammar.specs.Grammar as grammar

-- how the code tells it, as the grammar has it
abbrev pub naming_view : Naming → grammar.Naming
naming_view namings.Name = grammar.as_name
naming_view namings.Any = grammar.as_any
naming_view namings.Bare = grammar.as_bare
