use Rattle.c_types.proofs.files.external.Goals as goal

pub returns-in-Typedef : goal.returns-in-Typedef
returns-in-Typedef c = λ names is. rw c.in-Typedef.is (rw (c.deref.ensures.value, c.deref-in-Typedef.ensures.value) at c.typedef_alone.ensures)

pub returns-in-Other : goal.returns-in-Other
returns-in-Other c = λ names is. rw c.in-Other.is (rw c.deref-in-Other.ensures.value at (c.other.ensures names is))
