-- The worked rows, computed.
use Rattle.std.proofs.Common.{◌≡◌, ℕ, ◌<◌, ◌⊎◌, pos, Some, None, refl, ap, subst, lit≤, lit<, arith, inl, inr, slice_get, [], ◌∷◌}
use Rattle.std.proofs.lemmas.Int.{ints}
use Rattle.ak_words.specs.declared.int_type.IntType.{IntType}
use Rattle.ak_words.specs.declared.operation.Op.TheVariants.{Add, Sub, Mul}
use Rattle.ak_words.specs.IntType.{char, int, long, IsInRange}
use Rattle.std.specs.Fmt.{digits}
use Rattle.ak_words.specs.Wrapped.{residue}
use Rattle.c_tree.specs.Typed.{Expr, at, integer, atomic, pointer, array, structure, local, Layout}
use Rattle.c_tree.specs.TypedForm.{IsTyped, context_of, IsTarget, LiesIn, as_part, deeper, IsWellFormed}
use Rattle.c_tree.specs.TypedRows.{TypedRowsHold, func, program, named, in_a_circle}

in_range : (n : ℕ) → n < 100 → IsInRange int (pos n)
in_range n h = (omega (arith, ints), omega (arith, ints))

-- what w says of the expression e of the return
abbrev of_e : (e : Expr) → IsWellFormed (program e) → IsTyped (context_of (program e) (func e)) e
of_e e w = w.funcs.0.body.1.0.0.0

nothing_apart : (n : ℕ) → LiesIn [] n n → ⊥
nothing_apart n h = by n n h
  where
    none : (n : ℕ) (l : Layout) → slice_get [] n ≡ Some l → ⊥
    none n l e = cc

    by : (m n : ℕ) → LiesIn [] m n → ⊥
    by m n (as_part p) = none n p.0 p.1
    by m n (deeper {k} p r) = none k p.0 p.1

in_circle : LiesIn in_a_circle 0 0
in_circle = deeper {k = 1} (_, refl, (0, (structure 0, refl, refl))) (as_part (_, refl, (0, (array (structure 1) 1, refl, refl))))

accepted : IsWellFormed (program (at 31 (integer int) (local 0)))
accepted = record {
  structs = tt;
  apart = nothing_apart;
  globals = tt;
  literals = tt;
  funcs = (
    record {
      few_params = lit≤ tt;
      params = lit≤ tt;
      in_registers = tt;
      locals = (record { sized = tt; scalar = λ e. tt }, tt);
      few_locals = lit≤ tt;
      result = tt;
      body = (
        (lit≤ tt, (_, refl, ((refl, in_range 41 (lit< tt)), (refl, tt)))),
        ((((_, refl, refl), (refl, in_range 1 (lit< tt)), (refl, refl), refl), refl), tt),
      );
    },
    tt,
  );
  main = (_, refl, (refl, refl));
  few_structs = lit≤ tt;
  few_globals = lit≤ tt;
  few_funcs = lit≤ tt;
  small = lit≤ tt;
}

pub typed_rows_hold : TypedRowsHold
unfolding digits residue
typed_rows_hold = record {
  node_offsets = refl;
  node_size = refl;
  pair_offsets = refl;
  pair_size = refl;
  pair_align = refl;
  atomic_offsets = refl;
  format_is = refl;
  accepted = accepted;
  no_such_local = λ w. let h = of_e _ w in let e : None ≡ Some h.0 = h.1 in absurd cc;
  no_such_global = λ w. let e : None ≡ Some (integer int) = of_e _ w in absurd cc;
  not_promoted = λ w. let e : int ≡ char = w.funcs.0.body.1.0.0.2.0 in let h : 32 ≡ 8 = ap (λ (t : IntType). t.bits) e in absurd (omega arith);
  of_void = ((tt, refl, inr tt), tt, refl);
  of_named = ((tt, refl, inr refl), tt, refl);
  of_array = (tt, refl, inl ((lit< tt, lit< tt, lit≤ tt), lit< tt, lit≤ tt));
  of_no_array = λ h. no_array h.2;
  copy = ((tt, refl, inl (lit< tt, lit< tt, lit≤ tt)), (tt, refl, inl (lit< tt, lit< tt, lit≤ tt)), tt, refl, (lit< tt, lit< tt, lit≤ tt));
  no_copy = λ h. absurd (omega (arith, h.4.1));
  read = ((tt, refl, inl tt), refl);
  no_wider_read = λ h. let e : int ≡ long = h.1 in let b : 32 ≡ 64 = ap (λ (t : IntType). t.bits) e in absurd (omega arith);
  set = ((tt, refl, inl tt), (refl, in_range 1 (lit< tt)), tt, refl, tt);
  added = ((tt, refl, inl tt), (refl, in_range 1 (lit< tt)), tt, (inl refl, refl, refl));
  no_multiplied = λ h. neither h.3.0;
  no_char = λ h. let e : int ≡ char = h.3.2 in let b : 32 ≡ 8 = ap (λ (t : IntType). t.bits) e in absurd (omega arith);
  exchange = ((tt, (tt, ((refl, in_range 1 (lit< tt)), tt))), (int, refl, refl, (tt, (refl, tt)), refl));
  no_exchange = λ h. not_atomic h.1.0 h.1.1;
  laid_in_itself = record { sized = ((lit< tt, lit< tt, lit≤ tt), tt); laid = refl; few = lit≤ tt; small = lit≤ tt };
  not_in_itself = λ t e w. subst (λ s. (n : ℕ) → LiesIn s n n → ⊥) e w.apart 0 (as_part (_, refl, (0, (structure 0, refl, refl))));
  not_in_a_circle = λ t e w. subst (λ s. (n : ℕ) → LiesIn s n n → ⊥) e w.apart 0 in_circle;
}
  where
    no_array : IsTarget (named ∷ []) (array (structure 0) 2) → ⊥
    no_array (inl h) = absurd (omega (arith, h.0.1))
    no_array (inr h) = h

    not_atomic : (t : IntType) → pointer (integer int) ≡ pointer (atomic t) → ⊥
    not_atomic t h = cc

    neither : (Mul ≡ Add) ⊎ (Mul ≡ Sub) → ⊥
    neither (inl h) = cc
    neither (inr h) = cc
