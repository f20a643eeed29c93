use Rattle.defrag_move.proofs.Choices.{chosen_free, chosen_new}
use Rattle.defrag_move.proofs.Filled.{IsConsistent-filled}
use Rattle.defrag_move.proofs.Kept.{IsConsistent-after_plan, keeps_all}
use Rattle.defrag_move.proofs.laws.storage_stays_consistent.Goals as goal

pub returns-clause-new : goal.returns-clause-new
returns-clause-new c = chosen_new

pub returns-clause-free : goal.returns-clause-free
returns-clause-free c = chosen_free

pub returns-clause-moves : goal.returns-clause-moves
returns-clause-moves c = λ pinned s consistent moves legal. IsConsistent-after_plan pinned moves s consistent legal

pub returns-clause-kept : goal.returns-clause-kept
returns-clause-kept c = λ pinned s consistent moves legal. keeps_all pinned moves s consistent legal

pub returns-clause-filled : goal.returns-clause-filled
returns-clause-filled c = λ s consistent at bytes within. IsConsistent-filled s consistent at bytes within
