-- What the threads of two programs have of their own: related, number by number.
use Rattle.std.proofs.Common.{◌≡◌, refl, ap, subst, ℕ, zero, suc, List, [], ◌∷◌, ◌++◌, length, map, drop, set, Option, Some, None}
use Rattle.std.specs.List.{AllByRecursion}
use Rattle.block_store.specs.declared.values.Ptr.{Ptr}
use Rattle.block_store.specs.Actions.{World, ThreadRecord}
use Rattle.block_store.specs.Runs.{Program, begun, own_at}

module _ {A B : Type 0} (R : A → B → Type 0) where
  -- a thread runs in neither program, or in both, and what it has there is related
  pub data OneAlike : Option A → Option B → Type 0 where
    neither : OneAlike None None
    both : (a : A) (b : B) → R a b → OneAlike (Some a) (Some b)

  -- as many threads were made, each alike
  pub data AllAlike : List (Option A) → List (Option B) → Type 0 where
    nobody : AllAlike [] []
    one_more : (a : Option A) (b : Option B) (xs : List (Option A)) (ys : List (Option B)) → OneAlike a b → AllAlike xs ys → AllAlike (a ∷ xs) (b ∷ ys)

  pub own_alike : (xs : List (Option A)) (ys : List (Option B)) (n : ℕ) → AllAlike xs ys → OneAlike (own_at xs n) (own_at ys n)
  own_alike _ _ n nobody = neither
  own_alike _ _ zero (one_more _ _ xs ys neither rest) = neither
  own_alike _ _ zero (one_more _ _ xs ys (both a b r) rest) = both a b r
  own_alike _ _ (suc n) (one_more a b xs ys o rest) = own_alike xs ys n rest

  set_alike : (xs : List (Option A)) (ys : List (Option B)) (n : ℕ) (a : Option A) (b : Option B) → AllAlike xs ys → OneAlike a b → AllAlike (set xs n a) (set ys n b)
  set_alike _ _ n a b nobody o = nobody
  set_alike _ _ zero a b (one_more x y xs ys p rest) o = one_more a b xs ys o rest
  set_alike _ _ (suc n) a b (one_more x y xs ys p rest) o = one_more x y (set xs n a) (set ys n b) p (set_alike xs ys n a b rest o)

  append_alike : (xs xs' : List (Option A)) (ys ys' : List (Option B)) → AllAlike xs ys → AllAlike xs' ys' → AllAlike (xs ++ xs') (ys ++ ys')
  append_alike _ xs' _ ys' nobody more = more
  append_alike _ xs' _ ys' (one_more a b xs ys o rest) more = one_more a b (xs ++ xs') (ys ++ ys') o (append_alike xs xs' ys ys' rest more)

  length_alike : (xs : List (Option A)) (ys : List (Option B)) → AllAlike xs ys → length xs ≡ length ys
  length_alike _ _ nobody = refl
  length_alike _ _ (one_more a b xs ys o rest) = ap suc (length_alike xs ys rest)

  -- where threads begin alike with each function that they may begin with
  module _ (P : Program A) (Q : Program B) (May : ℕ → Type 0) (begins : (f : ℕ) (argument : Ptr) → May f → R (P.begins f argument) (Q.begins f argument)) where
    threads_alike : (ts : List ThreadRecord) → AllByRecursion (λ (h : ThreadRecord). May h.function) ts
        → AllAlike (map (λ (h : ThreadRecord). Some (P.begins h.function h.argument)) ts) (map (λ (h : ThreadRecord). Some (Q.begins h.function h.argument)) ts)
    threads_alike [] all = nobody
    threads_alike (h ∷ ts) all = one_more _ _ _ _ (both _ _ (begins h.function h.argument all.0)) (threads_alike ts all.1)

    all_drop : (n : ℕ) (ts : List ThreadRecord) → AllByRecursion (λ (h : ThreadRecord). May h.function) ts → AllByRecursion (λ (h : ThreadRecord). May h.function) (drop n ts)
    all_drop zero ts all = all
    all_drop (suc n) [] all = all
    all_drop (suc n) (h ∷ ts) all = all_drop n ts all.1

    pub begun_alike : (n : ℕ) (w : World) → AllByRecursion (λ (h : ThreadRecord). May h.function) w.threads → AllAlike (begun P n w) (begun Q n w)
    begun_alike n w all = threads_alike (drop n w.threads) (all_drop n w.threads all)

    -- after a turn, also one that has made threads
    pub next_alike : (xs : List (Option A)) (ys : List (Option B)) (n : ℕ) (a : Option A) (b : Option B) (next : World) → AllByRecursion (λ (h : ThreadRecord). May h.function) next.threads
        → AllAlike xs ys → OneAlike a b → AllAlike (set xs n a ++ begun P (length xs) next) (set ys n b ++ begun Q (length ys) next)
    next_alike xs ys n a b next may all o =
        append_alike (set xs n a) (begun P (length xs) next) (set ys n b) (begun Q (length ys) next) (set_alike xs ys n a b all o)
        (subst (λ k. AllAlike (begun P (length xs) next) (begun Q k next)) (length_alike xs ys all) (begun_alike (length xs) next may))
