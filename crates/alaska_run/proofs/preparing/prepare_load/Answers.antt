use Rattle.std.proofs.Common.{◌≡◌, ap, sym, ◌∙◌, Some, refl, subst, inl, inr}
use Rattle.run_notes.specs.declared.status.Status.TheVariants as statuses
use Rattle.run_words.specs.Wanted.{wanted_of}
use Rattle.run_edges.specs.Files.{shelved, IsWhole, IsFront, ReadFailed, most_file_bytes}
use Rattle.run_edges.specs.Reading.{IsReadFrom}
use Rattle.alaska_run.specs.Sources.{Saved, source_of}
use Rattle.alaska_run.proofs.Prepared.{where_ok, is_loading, code_faults, not_run}
use Rattle.alaska_run.proofs.Words.{source_saved}
use Rattle.alaska_run.proofs.preparing.prepare_load.Goals as goal

pub returns-in-Whole : goal.returns-in-Whole
returns-in-Whole g c = λ words said.
    let file = shelved g.F.Shelf.contents g.F.Shelf.faults c.args.shelf.now c.read_text.new.shelf in
    let name = c.file_name.result.now in
    let from : source_of file (wanted_of c.args.settings) ≡ Some (Saved (file name)) = source_saved file words (wanted_of c.args.settings) said c.requires ∙ ap (λ n. Some (Saved (file n))) (sym c.file_name.ensures) in
    let whole : IsWhole most_file_bytes (file name) c.in-Whole.text.items = subst (IsReadFrom most_file_bytes (file name)) c.in-Whole.is c.in_ok-text.ensures in
    where_ok _ _ c.load_text.result
    (is_loading words file c.args.settings (Saved (file name)) c.in-Whole.text.items said from c.requires whole (code_faults words file (Some c.args.settings) c.in-Whole.text.items (file name) from whole)) c.load_text.ensures

pub returns-in-Front : goal.returns-in-Front
returns-in-Front g c = λ words said.
    let file = shelved g.F.Shelf.contents g.F.Shelf.faults c.args.shelf.now c.read_text.new.shelf in
    let name = c.file_name.result.now in
    let from : source_of file (wanted_of c.args.settings) ≡ Some (Saved (file name)) = source_saved file words (wanted_of c.args.settings) said c.requires ∙ ap (λ n. Some (Saved (file n))) (sym c.file_name.ensures) in
    let front : IsFront most_file_bytes (file name) c.in-Front.text.items = subst (IsReadFrom most_file_bytes (file name)) c.in-Front.is c.in_ok-text.ensures in
    where_ok _ _ c.stop_with.result
    (not_run words file c.args.settings (Saved (file name)) c.in-Front.text.items said from statuses.FileTooLong (inr (inl front)) (Saved (file name), from, front)) c.stop_with.ensures

pub returns-in-Fault : goal.returns-in-Fault
returns-in-Fault g c = λ words said.
    let file = shelved g.F.Shelf.contents g.F.Shelf.faults c.args.shelf.now c.read_text.new.shelf in
    let name = c.file_name.result.now in
    let from : source_of file (wanted_of c.args.settings) ≡ Some (Saved (file name)) = source_saved file words (wanted_of c.args.settings) said c.requires ∙ ap (λ n. Some (Saved (file n))) (sym c.file_name.ensures) in
    let failed : ReadFailed (file name) = subst (IsReadFrom most_file_bytes (file name)) c.in-Fault.is c.in_ok-text.ensures in
    where_ok _ _ c.stop_with-in-Fault.result
    (not_run words file c.args.settings (Saved (file name)) c.new.result.items said from statuses.ReadFault (inr (inr (record { failed = failed; none = c.new.ensures.items; told = inl refl }))) (Saved (file name), from, failed)) c.stop_with-in-Fault.ensures
