use Rattle.std.proofs.Common.{◌≡◌, ◌<◌, ℕ, ◌+◌, List, ◌∷◌, ◌++◌, length, map, drop, get_or, Ok, ap, sym, ◌∙◌, arith, rules, append_assoc}
use Rattle.std.specs.Prelude.{Result}
use Rattle.std.proofs.lemmas.List.{at_drop_more}
use Rattle.ak_words.specs.declared.rule.Rule.{Rule}
use Rattle.block_store.specs.Blocks.{Blocks}
use Rattle.block_store.specs.Actions.{Reached, joined_bytes, printed_bytes, all_bytes, reading_part, reading_parts}
use Rattle.block_store.specs.Undo.{appended}
use Rattle.source_state.specs.declared.world.Printed.{Printed}
use Rattle.source_state.specs.Worlds.{printed_of, reached_of}
use Rattle.source_state.proofs.Broken.{gathered_err, gathered_ok}
use Rattle.source_state.proofs.Texts.{read_on}
use Rattle.source_state.proofs.world.World.gather.Goals as goal

abbrev behind : Blocks → List ℕ → List Printed → Result (List ℕ) Rule
behind blocks text parts = joined_bytes (Ok text) (all_bytes blocks (map printed_of parts))

abbrev read_behind : Blocks → List Reached → List Printed → List Reached
read_behind blocks reached parts = reached ++ reading_parts blocks (map printed_of parts)

next : (parts : List Printed) (i : ℕ) (part : Printed) → i < length parts → part ≡ get_or parts i part → part ∷ drop (i + 1) parts ≡ drop i parts
next parts i part h e = ap (λ (p : Printed). p ∷ drop (i + 1) parts) e ∙ sym (at_drop_more (λ (l : List Printed). l) parts i part h)

one_more : (blocks : Blocks) (before after : List ℕ) (old new : List Reached) (part : Printed) (rest : List Printed)
    → Ok after ≡ joined_bytes (Ok before) (printed_bytes blocks (printed_of part)) → new ≡ old ++ reading_part blocks (printed_of part)
    → read_behind blocks new rest ≡ read_behind blocks old (part ∷ rest)
one_more blocks before after old new part rest e f =
    let more = reading_parts blocks (map printed_of rest) in
    ap (λ l. l ++ more) f ∙ append_assoc old (reading_part blocks (printed_of part)) more
    ∙ ap (λ l. old ++ (reading_part blocks (printed_of part) ++ l)) (sym (read_on before after (printed_bytes blocks (printed_of part)) more e))

pub returns-in-Err-clause-bytes : goal.returns-in-Err-clause-bytes
returns-in-Err-clause-bytes c =
    gathered_err c.parts.text.items _ (all_bytes c.args.self.now.store.now (map printed_of (drop (c.parts.part-index + 1) c.args.parts.now))) c.in-Err.rule
    (sym (ap (λ (a : Result (Unit {0}) Rule). appended a c.append.new.text.items) c.in-Err.is) ∙ c.in_ok-append.ensures.bytes)
    ∙ ap (behind c.args.self.now.store.now c.parts.text.items) (next c.args.parts.now c.parts.part-index c.part-item.result (omega (arith, c.parts-test.true)) c.part-item.is)
    ∙ c.parts.invariant.0

pub parts-preserved : goal.parts-preserved
parts-preserved c =
    let gathered : Ok c.append.new.text.items ≡ joined_bytes (Ok c.parts.text.items) (printed_bytes c.args.self.now.store.now (printed_of c.part-item.result)) =
    sym (ap (λ (a : Result (Unit {0}) Rule). appended a c.append.new.text.items) c.in-Ok.is) ∙ c.in_ok-append.ensures.bytes in
    let rest = drop (c.parts.part-index + 1) c.args.parts.now in
    let row = next c.args.parts.now c.parts.part-index c.part-item.result (omega (arith, c.parts-test.true)) c.part-item.is in (
      gathered_ok c.parts.text.items c.append.new.text.items _ (all_bytes c.args.self.now.store.now (map printed_of rest)) gathered
          ∙ ap (behind c.args.self.now.store.now c.parts.text.items) row
          ∙ c.parts.invariant.0,
      one_more c.args.self.now.store.now c.parts.text.items c.append.new.text.items (map reached_of c.parts.reached.items) (map reached_of c.append.new.reached.items) c.part-item.result rest gathered
          (search (rules, c.in_ok-append.ensures.reached, c.in-Ok.is))
          ∙ ap (read_behind c.args.self.now.store.now (map reached_of c.parts.reached.items)) row
          ∙ c.parts.invariant.1,
    )
