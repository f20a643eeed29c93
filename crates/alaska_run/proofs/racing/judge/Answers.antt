use Rattle.std.proofs.Common.{◌≡◌, ◌++◌, List, ℕ, refl, ap, ap₂, subst, ◌∙◌}
use Rattle.std.specs.Prelude.{IfSome}
use Rattle.ak_trace.specs.Log.{Log}
use Rattle.c_tree.specs.TypedViews.{typed_view}
use Rattle.flat_meaning.specs.Journals.{journal_picks}
use Rattle.race_check.specs.Ends.{IsRaceEnd}
use Rattle.run_notes.specs.declared.races.RaceNote.{RaceNote}
use Rattle.run_notes.specs.Races.{race_line, status_with}
use Rattle.alaska_run.proofs.racing.judge.Goals as goal

pub returns : goal.returns
returns c = record {
  settings = refl;
  text = refl;
  checked = refl;
  code = refl;
  journal = refl;
  output = refl;
  found = c.find.result;
  is_found = subst (λ (j : Log). IfSome c.find.result (IsRaceEnd (typed_view c.args.typed) (journal_picks j.entries))) c.journal.ensures c.find.ensures;
  status = c.status_with.ensures ∙ ap (λ (n : RaceNote). status_with n c.args.ran.status) c.note_of-note.ensures;
  line = c.push_race_line.ensures
      ∙ ap (λ (text : List ℕ). c.args.ran.line.items ++ race_line c.text_name.result.now text c.note_of-note.result) c.deref.ensures.value
      ∙ ap₂ (λ (name : List ℕ) (n : RaceNote). c.args.ran.line.items ++ race_line name c.args.ran.text.items n) c.text_name.ensures c.note_of-note.ensures;
}
