-- The Looks and steps that a function has from an index on.
use Rattle.std.proofs.Common.{◌≡◌, ℕ, zero, suc, ◌+◌, ◌≤◌, List, [], ◌∷◌, cond, Bool, true, Option, Some, None, refl, ap, subst, ◌∙◌, arith}
use Rattle.std.specs.Prelude.{slice_get}
use Rattle.std.proofs.lemmas.List.Sums.{sum_by-cons, get_or-le-sum_by}
use Rattle.std.proofs.lemmas.Option.{same_Some, slice_get_within, get_or_from_slice_get}
use Rattle.struct_ir.specs.Instrs.{Instr, LinearFunc, instrs_if, instrs_of}
use Rattle.struct_ir.specs.Linear.{Spot}
use Rattle.struct_ir.specs.Looks.{looks_or_steps, looks_in, look_count}

abbrev one_if : Instr → ℕ
one_if i = cond {A = ℕ} (looks_or_steps i) 1 0

-- from an index on
abbrev pub left_from : List Instr → ℕ → ℕ
left_from [] k = 0
left_from (i ∷ is) zero = one_if i + left_from is zero
left_from (i ∷ is) (suc k) = left_from is k

-- from a place on
abbrev pub left_at : List LinearFunc → Spot → ℕ
left_at funcs p = left_from (instrs_of funcs p.function) p.index

-- further on there are no more
pub later_is_less : (is : List Instr) (j k : ℕ) → j ≤ k → left_from is k ≤ left_from is j
later_is_less [] j k le = omega arith
later_is_less (i ∷ is) zero zero le = omega arith
later_is_less (i ∷ is) zero (suc k) le = let h = later_is_less is zero k (omega arith) in omega (arith, h)
later_is_less (i ∷ is) (suc j) zero le = absurd (omega (arith, le))
later_is_less (i ∷ is) (suc j) (suc k) le = later_is_less is j k (omega (arith, le))

-- and behind one there is one less
behind_one : (is : List Instr) (k : ℕ) (i : Instr) → slice_get is k ≡ Some i → looks_or_steps i ≡ true → left_from is (suc k) + 1 ≤ left_from is k
behind_one [] k i e g = absurd cc
behind_one (j ∷ is) zero i e g =
    let same : j ≡ i = same_Some j i e in
    let one : one_if j ≡ 1 = ap one_if same ∙ ap (λ (b : Bool). cond {A = ℕ} b 1 0) g in
    omega (arith, one)
behind_one (j ∷ is) (suc k) i e g = behind_one is k i e g

pub one_is_less : (is : List Instr) (k : ℕ) (i : Instr) → slice_get is k ≡ Some i → looks_or_steps i ≡ true → left_from is (k + 1) + 1 ≤ left_from is k
one_is_less is k i e g = let next : suc k ≡ k + 1 = omega arith in subst (λ n. left_from is n + 1 ≤ left_from is k) next (behind_one is k i e g)

-- from the start on there are all
all_left : (is : List Instr) → left_from is 0 ≡ looks_in is
all_left [] = refl
all_left (i ∷ is) = let h = sum_by-cons one_if i is in let g = all_left is in omega (arith, h, g)

some_func : (funcs : List LinearFunc) (n : ℕ) (o : Option LinearFunc) → slice_get funcs n ≡ o → looks_in (instrs_if o) ≤ look_count funcs
some_func funcs n None e = omega arith
some_func funcs n (Some f) e =
    let le = get_or-le-sum_by (λ (g : LinearFunc). looks_in g.instrs) funcs n f (slice_get_within funcs n f e) in
    subst (λ (g : LinearFunc). looks_in g.instrs ≤ look_count funcs) (get_or_from_slice_get funcs n f f e) le

-- no more than the code has
pub left_is_few : (funcs : List LinearFunc) (p : Spot) → left_at funcs p ≤ look_count funcs
left_is_few funcs p =
    let less = later_is_less (instrs_of funcs p.function) 0 p.index (omega arith) in
    let all = all_left (instrs_of funcs p.function) in
    let some = some_func funcs p.function (slice_get funcs p.function) refl in
    omega (arith, less, all, some)
