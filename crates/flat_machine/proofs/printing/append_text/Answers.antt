use Rattle.std.proofs.Common.{◌∙◌, ◌++◌, ◌∷◌, [], ap, sym, append_assoc, arith}
use Rattle.flat_store.specs.Flat.{bytes_from}
use Rattle.flat_machine.proofs.Texts.{bytes_from_more}
use Rattle.flat_machine.proofs.printing.append_text.Goals as goal

pub loop-i-preserved : goal.loop-i-preserved
loop-i-preserved c =
    let there = c.requires.there c.loop-i.i c.loop-i-test.true in
    let start = c.requires.there 0 (omega arith) in
    let more = bytes_from_more c.args.flat.now c.args.at c.loop-i.i there (omega (arith, start.0)) in
    record {
      items =
          c.push_reserved.ensures.items
          ∙ ap (λ xs. xs ++ c.byte_at.result ∷ []) c.loop-i.invariant.items
          ∙ append_assoc c.args.output.now.items (bytes_from c.args.flat.now c.args.at c.loop-i.i) (c.byte_at.result ∷ [])
          ∙ ap (λ b. c.args.output.now.items ++ (bytes_from c.args.flat.now c.args.at c.loop-i.i ++ b ∷ [])) c.byte_at.ensures
          ∙ ap (λ xs. c.args.output.now.items ++ xs) (sym more);
      capacity = c.push_reserved.ensures.capacity ∙ c.loop-i.invariant.capacity;
    }
