use Rattle.std.proofs.Common.{◌≡◌, ◌+◌, ◌++◌, drop, arith, ap, ◌∙◌, sym}
use Rattle.std.proofs.lemmas.List.{length-drop}
use Rattle.c_lex.specs.Quoted.{character_at, characters_of, bytes_of}
use Rattle.c_lex.proofs.Characters.{rest_of, characters_at, bytes_of-push, bytes_of-pass}
use Rattle.c_lex.proofs.quoted.bytes_of.Goals as goal
use Rattle.c_lex.proofs.quoted.bytes_of.Goals.{in-Byte+in_ok-push, in_default}

pub loop-place-preserved : goal.loop-place-preserved
loop-place-preserved c =
    let body = c.args.body.now in
    let next = c.character_at-next.ensures in
    let at = characters_at body c.loop-place.place c.character_at-next.result (next.value ∙ ap character_at (rest_of c.loop-place.place body)) c.loop-place-test.true next.some in
    record {
      within = omega (arith, next.within (omega (arith, length-drop c.loop-place.place body)), length-drop c.loop-place.place body);
      so_far = c.loop-place.invariant.so_far ∙ elim c.match-next.branch as (λ _. c.loop-place.bytes.items ++ bytes_of (characters_of 0 (drop c.loop-place.place body)) ≡ c.match-next.bytes.items ++ bytes_of (characters_of 0 (drop (c.loop-place.place + c.character_at-next.result.len) body))) [
        | in-Byte+in_ok-push w ↦ bytes_of-push _ _ _ _ _ w.in-Byte.byte at w.in-Byte.is (ap (λ v. v.items) w.bytes-is ∙ w.in_ok-push.ensures.items)
        | in_default w ↦ bytes_of-pass _ _ _ _ at w.in_default.not-Byte ∙ ap (λ v. v.items ++ bytes_of (characters_of 0 (drop (c.loop-place.place + c.character_at-next.result.len) body))) (sym w.bytes-is)
      ];
    }
