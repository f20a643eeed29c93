-- The calls that wait, and the end of the one under way.
use Rattle.std.proofs.Common.{◌≡◌, List, [], ◌∷◌, ◌++◌, map, reverse, Option, refl, ap}
use Rattle.std.proofs.lemmas.List.{reverse-append}
use Rattle.std.specs.List.{slice_get}
use Rattle.block_store.specs.declared.values.Answer.TheVariants as answers
use Rattle.block_store.specs.declared.values.Value.{Value}
use Rattle.block_store.specs.Actions.{World}
use Rattle.block_store.specs.Runs.{unfit}
use Rattle.c_meaning.specs.Control as control
use Rattle.c_meaning.specs.Library.{first_of_all}
use Rattle.c_meaning.specs.Turns.{TurnContext, Now, leaves_call, returns_to, result_of_call, without_blocks}

-- the first of the arguments
pub first_is : (vs : List Value) → slice_get vs 0 ≡ first_of_all vs
first_is [] = refl
first_is (v ∷ vs) = refl

-- of calls of which one came last, that one is the nearest
pub nearest : {X Y : Type 0} (f : X → Y) (xs : List X) (x : X) → map f (reverse (xs ++ x ∷ [])) ≡ f x ∷ map f (reverse xs)
nearest f xs x = ap (map f) (reverse-append xs (x ∷ []))

-- a call isn't left under another answer than Plain
got_returns : (h : TurnContext) (v : Option Value) (w : World) (callers : List control.Caller) → h.answer ≡ answers.Got → returns_to h v w callers ≡ unfit
got_returns h v w [] e = rw e refl
got_returns h v w (c ∷ callers) e = rw e refl

none_returns : (h : TurnContext) (v : Option Value) (w : World) (callers : List control.Caller) → h.answer ≡ answers.None → returns_to h v w callers ≡ unfit
none_returns h v w [] e = rw e refl
none_returns h v w (c ∷ callers) e = rw e refl

pub got_leaves : (h : TurnContext) (v : Option Value) (x : Now) → h.answer ≡ answers.Got → leaves_call h v x ≡ unfit
got_leaves h v x e = got_returns h (result_of_call h v) (without_blocks x.locals x.world) h.callers e

pub none_leaves : (h : TurnContext) (v : Option Value) (x : Now) → h.answer ≡ answers.None → leaves_call h v x ≡ unfit
none_leaves h v x e = none_returns h (result_of_call h v) (without_blocks x.locals x.world) h.callers e
