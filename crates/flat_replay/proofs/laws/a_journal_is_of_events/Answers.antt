use Rattle.flat_replay.proofs.Journal.{a_journal_is_of_events}
use Rattle.flat_replay.proofs.laws.a_journal_is_of_events.Goals as goal

pub returns : goal.returns
returns c = a_journal_is_of_events
