-- What the code's frames and reaches are.
use Rattle.std.specs.Prelude.{map}
use Rattle.c_tree.specs.TypedViews.{layout_view}
use Rattle.lower_forms.specs.Forms as forms
use Rattle.lower_expressions.specs.declared.homes.Frame.{Frame}
use Rattle.lower_expressions.specs.declared.homes.Reach.{Reach}
use Rattle.lower_expressions.specs.declared.homes.Reach.TheVariants as reaches

-- what stays the same in a function, and where a statement stands
abbrev pub frame_view : Frame → forms.Frame
frame_view f = record { structs = map layout_view f.structs.now; homes = f.homes.now; first = f.first_temp; flag = f.flag; around = f.around.now; outer = f.outer.now }

-- how an object is reached
abbrev pub reach_view : Reach → forms.Reach
reach_view reaches.Found = forms.found
reach_view (reaches.Direct base offset) = forms.direct base offset
reach_view (reaches.Indexed base scale offset) = forms.indexed base scale offset
