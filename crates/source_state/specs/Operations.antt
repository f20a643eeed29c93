-- What the code's operations are: those of the meaning of the source.
use Rattle.c_tree.specs.TypedViews.{type_view}
use Rattle.c_meaning.specs.Values as values
use Rattle.source_state.specs.declared.operations.Unary.{Unary}
use Rattle.source_state.specs.declared.operations.Unary.TheVariants as unaries
use Rattle.source_state.specs.declared.operations.Binary.{Binary}
use Rattle.source_state.specs.declared.operations.Binary.TheVariants as binaries

-- an operation on one value (C11 6.5.3, 6.5.4)
abbrev pub unary_of : Unary → values.Unary
unary_of (unaries.Converts t) = values.converts (type_view t.value)
unary_of unaries.Negates = values.negates
unary_of unaries.Tests = values.tests
unary_of (unaries.Selects offset) = values.selects offset

-- an operation on two values (C11 6.5.5 to 6.5.12)
abbrev pub binary_of : Binary → values.Binary
binary_of (binaries.Numbers op) = values.on_numbers op
binary_of (binaries.Forward size) = values.forward size
binary_of (binaries.Backward size) = values.backward size
binary_of (binaries.Distance size) = values.distance size
binary_of (binaries.Pointers op) = values.on_pointers op
