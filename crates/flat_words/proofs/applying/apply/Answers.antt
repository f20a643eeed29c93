use Rattle.flat_words.proofs.applying.apply.Goals as goal

pub returns-in-Eq : goal.returns-in-Eq
returns-in-Eq c = rw c.in-Eq.is c.equal.ensures

pub returns-in-Ne : goal.returns-in-Ne
returns-in-Ne c = rw c.in-Ne.is c.unequal.ensures

pub returns-in-Lt : goal.returns-in-Lt
returns-in-Lt c = rw c.in-Lt.is c.below.ensures.less

pub returns-in-Le : goal.returns-in-Le
returns-in-Le c = rw c.in-Le.is c.at_most.ensures.less

pub returns-in-Gt : goal.returns-in-Gt
returns-in-Gt c = rw c.in-Gt.is c.below-in-Gt.ensures.greater

pub returns-in-Ge : goal.returns-in-Ge
returns-in-Ge c = rw c.in-Ge.is c.at_most-in-Ge.ensures.greater
