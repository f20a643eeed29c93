use Rattle.std.proofs.Common.{List, ℕ, map, ap, subst}
use Rattle.std.proofs.lemmas.Result.{err_from_is_err_and}
use Rattle.c_tree.specs.TypedViews.{piece_view}
use Rattle.struct_ir.specs.Views.{place_view}
use Rattle.flat_meaning.specs.Words.{Target, target_of, word_at}
use Rattle.flat_threads.specs.Deeds.{top_of}
use Rattle.flat_threads.specs.Targets.{target_view}
use Rattle.flat_machine.proofs.Pieces.{next_bytes, texts_within, place_there, next_text, next_number, others_take, target_there, word_there}
use Rattle.flat_machine.proofs.Prints.{PutsBytes}
use Rattle.flat_machine.proofs.shared.Shared.put_pieces.Goals as goal
use Rattle.flat_machine.proofs.shared.Shared.put_pieces.Goals.{in-Bytes+in_ok-put_bytes-in-Bytes, in-Text+in_ok-put_text-in-Text, in_default+in_ok-put_number-in_default}

pub target-requires-clause-place : goal.target-requires-clause-place
target-requires-clause-place c =
    let own = (top_of c.args.ctx.now).own in
    let l = c.loop-piece in
    let within = texts_within c.args.self.now l.self _ c.args.pieces.now (map (target_of own) (map place_view c.args.places.now)) (map (word_at own) c.args.temps.now) l.piece-index l.texts l.numbers l.invariant c.piece-item.result c.loop-piece-test.true c.piece-item.is (ap piece_view c.in-Text.is) in
    place_there own c.args.places.now l.texts _ within c.requires.places

pub returns-in_err-put_text-in-Text : goal.returns-in_err-put_text-in-Text
returns-in_err-put_text-in-Text c =
    let own = (top_of c.args.ctx.now).own in
    let l = c.loop-piece in
    let p = err_from_is_err_and c.from_residual-in_err-put_text-in-Text.result c.from_residual-in_err-put_text-in-Text.ensures.1 in
    rw (p.1, p.2)
    ((next_text c.args.self.now l.self _ c.args.pieces.now (map (target_of own) (map place_view c.args.places.now)) (map (word_at own) c.args.temps.now) l.piece-index l.texts l.numbers l.invariant c.piece-item.result c.loop-piece-test.true c.piece-item.is (ap piece_view c.in-Text.is) (target_view c.target.result) (λ within. target_there own c.args.places.now l.texts _ _ within c.target.ensures) c.put_text.new.self c.put_text.result c.put_text.ensures).stops _ c.in_err-put_text-in-Text.was)

pub returns-in_err-put_number-in_default : goal.returns-in_err-put_number-in_default
returns-in_err-put_number-in_default c =
    let own = (top_of c.args.ctx.now).own in
    let l = c.loop-piece in
    let p = err_from_is_err_and c.from_residual-in_err-put_number-in_default.result c.from_residual-in_err-put_number-in_default.ensures.1 in
    rw (p.1, p.2)
    ((next_number c.args.self.now l.self _ c.args.pieces.now (map (target_of own) (map place_view c.args.places.now)) (map (word_at own) c.args.temps.now) l.piece-index l.texts l.numbers l.invariant c.piece-item.result c.loop-piece-test.true c.piece-item.is (others_take c.piece-item.result c.in_default.not-Bytes c.in_default.not-Text) c.word.result (λ within. word_there own c.args.temps.now l.numbers _ within c.word.ensures) c.put_number.new.self c.put_number.result c.put_number.ensures).stops _ c.in_err-put_number-in_default.was)

pub loop-piece-preserved : goal.loop-piece-preserved
loop-piece-preserved c =
    let own = (top_of c.args.ctx.now).own in
    let l = c.loop-piece in
    let targets : List Target = map (target_of own) (map place_view c.args.places.now) in
    let words : List ℕ = map (word_at own) c.args.temps.now in
    elim c.match-piece.branch [
      | in-Bytes+in_ok-put_bytes-in-Bytes w ↦
          rw (w.self-is, w.texts-is, w.numbers-is)
          ((next_bytes c.args.self.now l.self _ c.args.pieces.now targets words l.piece-index l.texts l.numbers l.invariant c.piece-item.result c.loop-piece-test.true c.piece-item.is _ (ap piece_view w.in-Bytes.is) w.put_bytes.new.self w.put_bytes.result (subst (λ (all : List ℕ). PutsBytes all l.self w.put_bytes.new.self w.put_bytes.result) w.deref.ensures.value w.put_bytes.ensures)).goes w.in_ok-put_bytes-in-Bytes.was)
      | in-Text+in_ok-put_text-in-Text w ↦
          rw (w.self-is, w.texts-is, w.numbers-is)
          ((next_text c.args.self.now l.self _ c.args.pieces.now targets words l.piece-index l.texts l.numbers l.invariant c.piece-item.result c.loop-piece-test.true c.piece-item.is (ap piece_view w.in-Text.is) (target_view w.target.result) (λ within. target_there own c.args.places.now l.texts _ _ within w.target.ensures) w.put_text.new.self w.put_text.result w.put_text.ensures).goes w.in_ok-put_text-in-Text.was)
      | in_default+in_ok-put_number-in_default w ↦
          rw (w.self-is, w.texts-is, w.numbers-is)
          ((next_number c.args.self.now l.self _ c.args.pieces.now targets words l.piece-index l.texts l.numbers l.invariant c.piece-item.result c.loop-piece-test.true c.piece-item.is (others_take c.piece-item.result w.in_default.not-Bytes w.in_default.not-Text) w.word.result (λ within. word_there own c.args.temps.now l.numbers _ within w.word.ensures) w.put_number.new.self w.put_number.result w.put_number.ensures).goes w.in_ok-put_number-in_default.was)
    ]
