-- Which words free takes.
use Rattle.std.proofs.Common.{◌≡◌, ◌^◌, ◌==◌, ◌&&◌, Bool, true, false, refl}
use Rattle.std.specs.Prelude.{nat_le}
use Rattle.std.proofs.lemmas.Bool.{le-leb, leb-true, eqb-true, eq-eqb}
use Rattle.handle_words.specs.Handle.{offset_of}
use Rattle.arena_meaning.specs.Arena.{IsLiveStart}
use Rattle.flat_meaning.specs.Accesses.{is_live_start}
use Rattle.flat_meaning.specs.Laws.{LiveStartsAreTold}

both : (a b : Bool) → (a && b) ≡ true → (a ≡ true) × (b ≡ true)
both true b e = (refl, e)
both false b e = absurd cc

is_both : (a b : Bool) → a ≡ true → b ≡ true → (a && b) ≡ true
is_both true b e f = f
is_both false b e f = absurd cc

pub live_starts_are_told : LiveStartsAreTold
live_starts_are_told s word = (told, tells) where
  told : is_live_start s word ≡ true → IsLiveStart s word
  told e =
      let h = both (nat_le (2 ^ 63) word) _ e in
      let k = both (offset_of word == 0) _ h.1 in
      record { handle = leb-true (2 ^ 63) word h.0; start = eqb-true (offset_of word) 0 k.0; in_use = k.1 }

  tells : IsLiveStart s word → is_live_start s word ≡ true
  tells h = is_both (nat_le (2 ^ 63) word) _ (le-leb (2 ^ 63) word h.handle) (is_both (offset_of word == 0) _ (eq-eqb (offset_of word) 0 h.start) h.in_use)
