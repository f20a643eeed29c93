use Rattle.pin_frames.proofs.ListRows.{last_read}
use Rattle.pin_frames.proofs.listing.last_of.Goals as goal

pub returns-in-len1-up : goal.returns-in-len1-up
returns-in-len1-up c = last_read c.args.lives.now c.in-len1-up.len_at_least
