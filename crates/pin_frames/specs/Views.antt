-- What the code's lives are.
use Rattle.pin_frames.specs.declared.lives.Lives.{Lives}
use Rattle.pin_flow.specs.Live.{Live}

-- lives
abbrev pub lives_view : Lives → Live
lives_view l = record { on = l.on; out = l.out; end = l.end }
