use Rattle.std.proofs.Common.{arith, ap, ◌∙◌}
use Rattle.std.specs.List.{list_any}
use Rattle.c_lex.specs.Quoted.{character_at, is_too_wide, is_unknown}
use Rattle.std.proofs.lemmas.List.{length-drop}
use Rattle.c_lex.proofs.Characters.{rest_of, characters_at}
use Rattle.c_lex.proofs.quoted.fault_of.Goals as goal

pub loop-place-preserved : goal.loop-place-preserved
loop-place-preserved c =
    let next = c.character_at-next.ensures in
    let at = characters_at c.args.body.now c.loop-place.place c.character_at-next.result (next.value ∙ ap character_at (rest_of c.loop-place.place c.args.body.now)) c.loop-place-test.true next.some in
    record {
      within = omega (arith, next.within (omega (arith, length-drop c.loop-place.place c.args.body.now)), length-drop c.loop-place.place c.args.body.now);
      wide = let e = ap (list_any is_too_wide) at in grind arith;
      unknown = let e = ap (list_any is_unknown) at in grind arith;
    }
