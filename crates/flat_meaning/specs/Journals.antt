-- The order that a journal tells, as the picks of a run.
use Rattle.std.specs.Prelude.{ℕ, List, [], ◌∷◌, map, replicate, ◌++◌}
use Rattle.ak_trace.specs.declared.entry.Entry.{Entry}
use Rattle.ak_trace.specs.declared.order.Answer as journal
use Rattle.ak_trace.specs.declared.order.Answer.TheVariants as journal_answers
use Rattle.ak_trace.specs.Order.{order}
use Rattle.block_store.specs.declared.values.Answer.{Answer}
use Rattle.block_store.specs.declared.values.Answer.TheVariants as answers
use Rattle.block_store.specs.Runs.{Pick}
use Rattle.flat_meaning.specs.Order.{pick}

-- what a turn was told
abbrev pub told : journal.Answer → Answer
told journal_answers.Plain = answers.Plain
told journal_answers.Got = answers.Got
told journal_answers.None = answers.None

-- the picks of the turns that a journal tells
abbrev pub journal_picks : List Entry → List Pick
journal_picks log = map (λ (turn : ℕ × journal.Answer). pick turn.0 (told turn.1)) (order log)

-- the picks of ak_trace's journal that has every kind and every how, worked by hand
abbrev pub full_picks : List Pick
full_picks =
    replicate 4 (pick 0 answers.Plain)
    ++ (pick 0 answers.Got ∷ pick 0 answers.Plain ∷ pick 0 answers.None ∷ pick 0 answers.Got ∷ pick 0 answers.None ∷ [])
    ++ (pick 1 answers.Plain ∷ pick 2 answers.Plain ∷ pick 1 answers.Got ∷ pick 2 answers.None ∷ [])
    ++ replicate 3 (pick 1 answers.Plain)
    ++ (pick 2 answers.Plain ∷ pick 0 answers.Plain ∷ [])
