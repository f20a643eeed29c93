use Rattle.std.proofs.Common.{◌≡◌, ◌∙◌, sym, ap, arith}
use Rattle.ak_words.specs.IntType.{char}
use Rattle.formats.specs.Formats.{at_number}
use Rattle.code_file.specs.Numbers.{other_types}
use Rattle.code_file.proofs.numbers.type_of.Goals as goal

pub returns-in-0 : goal.returns-in-0
returns-in-0 c = c.char.ensures ∙ ap (at_number char other_types) (sym c.in-0.is)

pub returns-in-1 : goal.returns-in-1
returns-in-1 c = c.short.ensures ∙ ap (at_number char other_types) (sym c.in-1.is)

pub returns-in-2 : goal.returns-in-2
returns-in-2 c = c.int.ensures ∙ ap (at_number char other_types) (sym c.in-2.is)

pub returns-in-3 : goal.returns-in-3
returns-in-3 c = c.long.ensures ∙ ap (at_number char other_types) (sym c.in-3.is)

pub returns-in-4 : goal.returns-in-4
returns-in-4 c = c.unsigned_char.ensures ∙ ap (at_number char other_types) (sym c.in-4.is)

pub returns-in-5 : goal.returns-in-5
returns-in-5 c = c.unsigned_short.ensures ∙ ap (at_number char other_types) (sym c.in-5.is)

pub returns-in-6 : goal.returns-in-6
returns-in-6 c = c.unsigned_int.ensures ∙ ap (at_number char other_types) (sym c.in-6.is)

pub returns-in_default : goal.returns-in_default
returns-in_default c = let e : 7 ≡ c.args.number = omega arith in c.unsigned_long.ensures ∙ ap (at_number char other_types) e
