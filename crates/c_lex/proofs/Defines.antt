-- A #define that stands for a number.
use Rattle.std.proofs.Common.{◌≡◌, ℕ, ◌+◌, Bool, true, false, List, Option, Some, None, Result, Ok, Err, if◌then◌else◌, refl, length}
use Rattle.std.specs.Prelude.{nat_le}
use Rattle.std.specs.List.{slice_range}
use Rattle.std.specs.Map.{lookup}
use Rattle.std.specs.Option.{is_some}
use Rattle.std.specs.Str.{bytes_eq}
use Rattle.ak_words.specs.declared.number.Num.{Num}
use Rattle.c_lex.specs.declared.refusal.Refusal.{Refusal}
use Rattle.c_lex.specs.declared.refusal.Kind.TheVariants as kinds
use Rattle.c_lex.specs.declared.directive.Define.{Define}
use Rattle.c_lex.specs.Spellings.{is_taken}
use Rattle.c_lex.specs.Tokens.{Names, most_names, refusal, in_a_type, defined}

-- by the tests one by one
fresh : (taken : Bool) (known : Option Num) (full : Bool) (a b d : Refusal) (r : Result Num Refusal) (n : Num)
    → (if taken then Err a else (if is_some known then Err b else (if full then Err d else r))) ≡ Ok n → known ≡ None
fresh true known full a b d r n is = cc
fresh false (Some m) full a b d r n is = cc
fresh false None full a b d r n is = refl

-- its name wasn't defined before
pub defined-fresh : (text : List ℕ) (names : Names) (place : ℕ) (d : Define) (n : Num) → defined text names place d ≡ Ok n
    → lookup (bytes_eq (slice_range text (place + d.name_from) (place + d.name_to))) names ≡ None
unfolding defined
defined-fresh text names place d n is =
    let name = slice_range text (place + d.name_from) (place + d.name_to) in
    fresh (is_taken name) (lookup (bytes_eq name) names) (nat_le most_names (length names)) (refusal place kinds.UnexpectedToken) (refusal place kinds.DoubleName) (refusal (place + d.name_from) (kinds.TooMany 10)) (in_a_type (place + d.number_from) d.value) n is
