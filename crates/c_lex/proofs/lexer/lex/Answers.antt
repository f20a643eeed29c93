use Rattle.std.proofs.Common.{◌≤◌, ◌+◌, length, drop, arith, ap, sym, ◌∙◌, get_or, refl}
use Rattle.std.proofs.lemmas.List.{length-drop}
use Rattle.std.proofs.lemmas.Result.{err_from_is_err_and}
use Rattle.c_lex.specs.Items.{item_at}
use Rattle.c_lex.specs.Tokens.{pieces, stays_line_start}
use Rattle.c_lex.specs.inner.Lexing.{outcome}
use Rattle.c_lex.proofs.Characters.{rest_of}
use Rattle.c_lex.proofs.Pieces.{pieces_at, refused_there}
use Rattle.c_lex.proofs.lexer.lex.Goals as goal

pub loop-place-preserved : goal.loop-place-preserved
loop-place-preserved c =
    let text = c.args.text.now in
    let place = c.loop-place.place in
    let found = c.item_at-found.ensures in
    let spans = found.spans in
    let len = ap length (rest_of place text) in
    let within : place + c.item_at-found.result.len ≤ length text = omega (arith, spans.within, len, length-drop place text) in
    let at = pieces_at text c.loop-place.is_line_start c.stays_line_start-is_line_start.result place c.item_at-found.result c.loop-place-test.true c.stays_line_start-is_line_start.ensures (found.found ∙ ap (item_at c.loop-place.is_line_start) (rest_of place text)) spans.some in
    record {
      within = within;
      text_is = ap (λ t. t.now) c.in_ok-take.ensures.text ∙ c.loop-place.invariant.text_is;
      same = sym (c.in_ok-take.ensures.taken (pieces c.stays_line_start-is_line_start.result (place + c.item_at-found.result.len) 0 (drop (place + c.item_at-found.result.len) text)))
          ∙ sym (ap (outcome c.loop-place.lexer) at) ∙ c.loop-place.invariant.same;
    }

pub returns-in_err-take-clause-refused : goal.returns-in_err-take-clause-refused
returns-in_err-take-clause-refused c =
    let text = c.args.text.now in
    let place = c.loop-place.place in
    let found = c.item_at-found.ensures in
    let p = err_from_is_err_and c.from_residual.result c.from_residual.ensures.1 in
    let start = stays_line_start c.loop-place.is_line_start (get_or text place 0) in
    let at = pieces_at text c.loop-place.is_line_start start place c.item_at-found.result c.loop-place-test.true refl (found.found ∙ ap (item_at c.loop-place.is_line_start) (rest_of place text)) found.spans.some in
    rw (p.1, p.2) (refused_there text c.loop-place.lexer _ _ _ (sym (ap (outcome c.loop-place.lexer) at) ∙ c.loop-place.invariant.same) c.in_err-take.ensures.refused)
