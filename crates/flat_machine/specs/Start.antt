-- What threads share when nothing has run.
use Rattle.std.specs.Prelude.{[]}
use Rattle.struct_ir.specs.Instrs.{LinearCode}
use Rattle.flat_meaning.specs.Image.{Limits, limits_for, linear_image}
use Rattle.flat_meaning.specs.Events.{first_memory}
use Rattle.flat_rules.specs.declared.settings.Settings.{Settings}
use Rattle.flat_machine.specs.Shares.{Shared, no_barriers}

-- the limits of a run with these settings
abbrev pub settings_limits : Settings → Limits
settings_limits s = limits_for s.output s.subheaps s.subheap s.ids

-- nothing has run
abbrev pub first_shared : LinearCode → Limits → Shared
first_shared code limits = record { memory = first_memory (linear_image code limits); output_limit = limits.output; made = []; barriers = no_barriers }
