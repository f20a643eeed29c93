use Rattle.std.proofs.Common.{◌≡◌, ap, sym, ◌∙◌, Some, refl, subst, inl, inr}
use Rattle.c_lex.specs.declared.refusal.Kind.TheVariants.{TooLong}
use Rattle.run_notes.specs.declared.status.Status.TheVariants as statuses
use Rattle.run_words.specs.Wanted.{wanted_of}
use Rattle.run_edges.specs.Files.{shelved, IsWhole, IsFront, ReadFailed, most_bytes}
use Rattle.run_edges.specs.Reading.{IsReadFrom}
use Rattle.alaska_run.specs.Sources.{Read, source_of}
use Rattle.alaska_run.proofs.Prepared.{where_ok, is_all, not_run}
use Rattle.alaska_run.proofs.Words.{source_read}
use Rattle.alaska_run.proofs.preparing.prepare_file.Goals as goal

pub returns-in-Whole : goal.returns-in-Whole
returns-in-Whole g c = λ words said.
    let file = shelved g.F.Shelf.contents g.F.Shelf.faults c.args.shelf.now c.read_text.new.shelf in
    let name = c.file_name.result.now in
    let from : source_of file (wanted_of c.args.settings) ≡ Some (Read (file name)) = source_read file words (wanted_of c.args.settings) said c.requires.not_churned c.requires.not_loaded ∙ ap (λ n. Some (Read (file n))) (sym c.file_name.ensures) in
    let whole : IsWhole most_bytes (file name) c.in-Whole.text.items = subst (IsReadFrom most_bytes (file name)) c.in-Whole.is c.in_ok-text.ensures in
    where_ok _ _ c.compile_text.result (is_all words file c.args.settings (Read (file name)) c.in-Whole.text.items said from tt c.requires.not_loaded whole) c.compile_text.ensures

pub returns-in-Front : goal.returns-in-Front
returns-in-Front g c = λ words said.
    let file = shelved g.F.Shelf.contents g.F.Shelf.faults c.args.shelf.now c.read_text.new.shelf in
    let name = c.file_name.result.now in
    let from : source_of file (wanted_of c.args.settings) ≡ Some (Read (file name)) = source_read file words (wanted_of c.args.settings) said c.requires.not_churned c.requires.not_loaded ∙ ap (λ n. Some (Read (file n))) (sym c.file_name.ensures) in
    let front : IsFront most_bytes (file name) c.in-Front.text.items = subst (IsReadFrom most_bytes (file name)) c.in-Front.is c.in_ok-text.ensures in
    where_ok _ _ c.stop_with.result
    (not_run words file c.args.settings (Read (file name)) c.in-Front.text.items said from (statuses.Refused most_bytes TooLong) (inr (inl front)) (Read (file name), from, inr (front, refl, refl))) c.stop_with.ensures

pub returns-in-Fault : goal.returns-in-Fault
returns-in-Fault g c = λ words said.
    let file = shelved g.F.Shelf.contents g.F.Shelf.faults c.args.shelf.now c.read_text.new.shelf in
    let name = c.file_name.result.now in
    let from : source_of file (wanted_of c.args.settings) ≡ Some (Read (file name)) = source_read file words (wanted_of c.args.settings) said c.requires.not_churned c.requires.not_loaded ∙ ap (λ n. Some (Read (file n))) (sym c.file_name.ensures) in
    let failed : ReadFailed (file name) = subst (IsReadFrom most_bytes (file name)) c.in-Fault.is c.in_ok-text.ensures in
    where_ok _ _ c.stop_with-in-Fault.result
    (not_run words file c.args.settings (Read (file name)) c.new.result.items said from statuses.ReadFault (inr (inr (record { failed = failed; none = c.new.ensures.items; told = inl refl }))) (Read (file name), from, failed)) c.stop_with-in-Fault.ensures
