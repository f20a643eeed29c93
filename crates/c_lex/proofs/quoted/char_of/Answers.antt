use Rattle.std.proofs.Common.{◌≡◌, ◌∙◌, ◌∷◌, ap, sym, arith, drop, None}
use Rattle.std.specs.Result.{result_err}
use Rattle.c_lex.specs.declared.quoted.Character.TheVariants as characters
use Rattle.c_lex.specs.Quoted.{string_of, char_of, characters_of, bytes_or_kind}
use Rattle.c_lex.proofs.Characters.{characters_first, characters-none, characters-single, one_char-whole, one_char-other}
use Rattle.c_lex.proofs.quoted.char_of.Goals as goal

pub returns-then-first-body : goal.returns-then-first-body
unfolding char_of string_of
returns-then-first-body c =
    let body = c.args.body.now in
    let first = c.character_at-first.result in
    let all = characters_first body first c.character_at-first.ensures.value (omega arith) c.character_at-first.ensures.some in
    let head = all ∙ ap (λ character. character ∷ characters_of 0 (drop first.len body)) c.in-Byte.is in
    rw c.char_value.ensures (sym (one_char-whole (characters_of 0 body) (characters_of 0 (drop first.len body)) c.in-Byte.byte head (characters-none body first.len (omega arith))))

pub returns-else-first-body : goal.returns-else-first-body
unfolding char_of string_of
returns-else-first-body c =
    let body = c.args.body.now in
    let first = c.character_at-first.ensures in
    let none : result_err (bytes_or_kind (characters_of 0 body)) ≡ None = sym c.fault_of.ensures ∙ c.in_default.is in
    sym (one_char-other (characters_of 0 body) none (λ byte is. c.if-first-body.false (characters-single body c.character_at-first.result (characters.Byte byte) first.value first.some first.within is).0))

pub returns-in-TooWide : goal.returns-in-TooWide
unfolding char_of string_of
returns-in-TooWide c =
    let body = c.args.body.now in
    let first = c.character_at-first.ensures in
    let none : result_err (bytes_or_kind (characters_of 0 body)) ≡ None = sym c.fault_of.ensures ∙ c.in_default.is in
    sym (one_char-other (characters_of 0 body) none (λ byte is. (let same = (characters-single body c.character_at-first.result (characters.Byte byte) first.value first.some first.within is).1 in let wide = c.in-TooWide.is in absurd cc)))

pub returns-in-Unknown : goal.returns-in-Unknown
unfolding char_of string_of
returns-in-Unknown c =
    let body = c.args.body.now in
    let first = c.character_at-first.ensures in
    let none : result_err (bytes_or_kind (characters_of 0 body)) ≡ None = sym c.fault_of.ensures ∙ c.in_default.is in
    sym (one_char-other (characters_of 0 body) none (λ byte is. (let same = (characters-single body c.character_at-first.result (characters.Byte byte) first.value first.some first.within is).1 in let wide = c.in-Unknown.is in absurd cc)))
