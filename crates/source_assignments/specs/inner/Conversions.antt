-- Which conversions drop a value.
use Rattle.std.specs.Prelude.{Bool, true, false}
use Rattle.c_tree.specs.Typed as tree
use Rattle.source_tree.specs.declared.tree.OneForm.{OneForm}
use Rattle.source_tree.specs.declared.tree.OneForm.TheVariants as ones

-- a conversion to void (C11 6.3.2.2)
abbrev pub voids : OneForm → tree.Ty → Bool
voids ones.Convert tree.void = true
voids form ty = false
