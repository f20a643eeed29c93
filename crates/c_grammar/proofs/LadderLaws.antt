-- The law of binary operators: each height is a chain of the heights below it.
use Rattle.std.proofs.Common.{◌≡◌, ℕ, zero, suc, ◌+◌, ◌≤◌, ◌<◌, Option, Some, None, Bool, true, false, refl, ap, subst, inl, inr, ◌⊎◌, arith}
use Rattle.std.specs.Prelude.{◌||◌, nat_lt}
use Rattle.c_tree.specs.declared.syntax.BinaryOp.{BinaryOp}
use Rattle.c_tree.specs.Syntax.{Expr, name, call, int, char, text, null, group, prefix, sizeof_type, sizeof_expr, cast, index, member, arrow, binary, conditional}
use Rattle.c_grammar.specs.Grammar.{height, rank, IsExpr}
use Rattle.c_grammar.specs.inner.Readers.{Reads, Sort, a_mark, ◌&◌}
use Rattle.c_grammar.specs.inner.Tokens.{counted_tok, op_of_mark, binary_of, is_binary, begins_expr}
use Rattle.c_grammar.specs.inner.Reading.{ladder}
use Rattle.c_grammar.proofs.Sorts.{apart, inside}
use Rattle.c_grammar.proofs.Lawful.{Class, Info, Lawful, both, both_info, starts}
use Rattle.c_grammar.proofs.Joints.{Less, known}
use Rattle.c_grammar.proofs.Loops.{Link, Built, base, step, Linked, chain_info, chained}
use Rattle.c_grammar.proofs.TokenLaws.{Room}
use Rattle.c_grammar.proofs.BinaryLaws.{binary_class, binary_lawful, some_binary}
use Rattle.c_grammar.proofs.TreeClasses.{none_less, goes_postfix, postfix_info, expr_class}
use Rattle.c_grammar.proofs.MoreJoints.{joined}

-- ---- what may not follow

abbrev lower : ℕ → Option BinaryOp → Bool
lower h None = false
lower h (Some op) = nat_lt (height op) h

-- an operator below the height
abbrev is_lower : ℕ → Sort → Bool
is_lower h (a_mark m) = lower h (op_of_mark m)
is_lower h _ = false

abbrev goes_ladder : ℕ → Sort → Bool
goes_ladder h s = goes_postfix s || is_lower h s

abbrev pub ladder_info : ℕ → Info
ladder_info h = record { first = begins_expr; goes = goes_ladder h; empty = false }

-- an operator of the height, and an expression of the heights below
abbrev operation_info : ℕ → Info
operation_info h = both_info (starts (is_binary h)) (ladder_info h)

-- what is known of the tokens of a height, as a test of all sorts shows
record Height (h : ℕ) : Type 0 where
  pub told : inside (operation_info h).first (is_binary h) ≡ true
  pub some : apart (operation_info h).first (goes_ladder h) ≡ true
  pub link : apart (operation_info h).first (operation_info h).goes ≡ true
  pub less : Less (chain_info (is_binary h) (ladder_info h) (operation_info h)) (ladder_info (suc h))

known_height : (h : ℕ) → h < 10 → Height h
known_height zero l = record { told = refl; some = refl; link = refl; less = record { first = refl; goes = refl; empty = refl } }
known_height (suc zero) l = record { told = refl; some = refl; link = refl; less = record { first = refl; goes = refl; empty = refl } }
known_height (suc (suc zero)) l = record { told = refl; some = refl; link = refl; less = record { first = refl; goes = refl; empty = refl } }
known_height (suc (suc (suc zero))) l = record { told = refl; some = refl; link = refl; less = record { first = refl; goes = refl; empty = refl } }
known_height (suc (suc (suc (suc zero)))) l = record { told = refl; some = refl; link = refl; less = record { first = refl; goes = refl; empty = refl } }
known_height (suc (suc (suc (suc (suc zero))))) l = record { told = refl; some = refl; link = refl; less = record { first = refl; goes = refl; empty = refl } }
known_height (suc (suc (suc (suc (suc (suc zero)))))) l = record { told = refl; some = refl; link = refl; less = record { first = refl; goes = refl; empty = refl } }
known_height (suc (suc (suc (suc (suc (suc (suc zero))))))) l = record { told = refl; some = refl; link = refl; less = record { first = refl; goes = refl; empty = refl } }
known_height (suc (suc (suc (suc (suc (suc (suc (suc zero)))))))) l = record { told = refl; some = refl; link = refl; less = record { first = refl; goes = refl; empty = refl } }
known_height (suc (suc (suc (suc (suc (suc (suc (suc (suc zero))))))))) l = record { told = refl; some = refl; link = refl; less = record { first = refl; goes = refl; empty = refl } }
known_height (suc (suc (suc (suc (suc (suc (suc (suc (suc (suc h)))))))))) l = absurd (omega (arith, l))

-- ---- an operator, and what stands behind it

abbrev operation_class : (b : Bool) (d h : ℕ) (some : BinaryOp) → height some ≡ h → Class
operation_class b d h some e = both (binary_class d h some e) (λ _. expr_class b d (h + 2))

abbrev operation_link : (b : Bool) (d h : ℕ) (some : BinaryOp) → height some ≡ h → Link Expr
operation_link b d h some e = let C = operation_class b d h some e in
    record { Tree = C.Tree; leaves = λ _. C.leaves; after = λ _. C.after; Is = λ _. C.Is; some = λ _. C.some; some_is = λ _. C.some_is }

abbrev operated : Expr → (ℕ × BinaryOp) × Expr → Expr
operated a ((place, op), e) = binary place op a e

abbrev IsBelow : Bool → ℕ → Expr → Type 0
IsBelow b h e = (rank e ≤ h + 2) × IsExpr b e

abbrev IsLadder : Bool → ℕ → Expr → Type 0
IsLadder b h e = (rank e ≤ h + 3) × IsExpr b e

operated_fits : (b : Bool) (d h : ℕ) (some : BinaryOp) (q : height some ≡ h) (a : Expr) (x : (ℕ × BinaryOp) × Expr) → IsLadder b h a → (operation_class b d h some q).Is x → IsLadder b h (operated a x)
operated_fits b d h some q a x f g =
    let op = x.0.1 in
    let here : height op ≡ h = g.0 in
    let top : height op + 3 ≤ h + 3 = omega (arith, here) in
    let left : rank a ≤ height op + 3 = omega (arith, here, f.0) in
    let right : rank x.1 ≤ height op + 2 = omega (arith, here, g.1.0) in
    (top, (left, f.1, right, g.1.1))

same_or_less : (m n : ℕ) → m ≤ n → (m ≡ n) ⊎ (suc m ≤ n)
same_or_less zero zero le = inl refl
same_or_less zero (suc n) le = inr (omega arith)
same_or_less (suc m) zero le = absurd (omega (arith, le))
same_or_less (suc m) (suc n) le = elim (same_or_less m n (omega (arith, le))) [
  | inl e ↦ inl (ap (λ (k : ℕ). suc k) e)
  | inr l ↦ inr (omega (arith, l))
]

low_enough : (h r : ℕ) → r ≤ 2 → r ≤ h + 2
low_enough h r le = omega (arith, le)

-- each expression of the height is one of the heights below, or an operator of the height is its last
operated_built : (b : Bool) (d h : ℕ) (some : BinaryOp) (q : height some ≡ h) → h < 10 → (e : Expr) → IsLadder b h e → Built (IsBelow b h) (λ a x. IsLadder b h a × (operation_class b d h some q).Is x) operated e
operated_built b d h some q l (binary place op a e) f = elim (same_or_less (height op) h (omega (arith, f.0))) [
  | inl here ↦
      let left : rank a ≤ h + 3 = omega (arith, here, f.1.0) in
      let right : rank e ≤ h + 2 = omega (arith, here, f.1.2) in
      step (binary place op a e) a ((place, op), e) (operated_built b d h some q l a (left, f.1.1)) ((left, f.1.1), (here, (right, f.1.3))) refl
  | inr less ↦
      let below : height op + 3 ≤ h + 2 = omega (arith, less) in
      base (binary place op a e) (below, f.1)
]
operated_built b d h some q l (conditional place a t e) f = absurd (omega (arith, l, f.0))
operated_built b d h some q l (name n) f = base (name n) (low_enough h 0 (none_less 2), f.1)
operated_built b d h some q l (call n args) f = base (call n args) (low_enough h 0 (none_less 2), f.1)
operated_built b d h some q l (int place value) f = base (int place value) (low_enough h 0 (none_less 2), f.1)
operated_built b d h some q l (char place value) f = base (char place value) (low_enough h 0 (none_less 2), f.1)
operated_built b d h some q l (text parts) f = base (text parts) (low_enough h 0 (none_less 2), f.1)
operated_built b d h some q l (null place) f = base (null place) (low_enough h 0 (none_less 2), f.1)
operated_built b d h some q l (group e) f = base (group e) (low_enough h 0 (none_less 2), f.1)
operated_built b d h some q l (prefix place op e) f = base (prefix place op e) (low_enough h 1 (omega arith), f.1)
operated_built b d h some q l (sizeof_type place t) f = base (sizeof_type place t) (low_enough h 1 (omega arith), f.1)
operated_built b d h some q l (sizeof_expr place e) f = base (sizeof_expr place e) (low_enough h 1 (omega arith), f.1)
operated_built b d h some q l (cast place t e) f = base (cast place t e) (low_enough h 2 (omega arith), f.1)
operated_built b d h some q l (index place a i) f = base (index place a i) (low_enough h 0 (none_less 2), f.1)
operated_built b d h some q l (member place a m) f = base (member place a m) (low_enough h 0 (none_less 2), f.1)
operated_built b d h some q l (arrow place a m) f = base (arrow place a m) (low_enough h 0 (none_less 2), f.1)

operated_linked : (b : Bool) (d h : ℕ) (some : BinaryOp) (q : height some ≡ h) → h < 10 → Linked (expr_class b d (h + 3)) (operation_link b d h some q) (IsBelow b h) operated (is_binary h) (ladder_info h) (operation_info h)
operated_linked b d h some q l = let k = known_height h l in record {
  fits_base = λ a f. below a f;
  fits = operated_fits b d h some q;
  spelt = λ c a x f. refl;
  after = λ c a x. refl;
  built = operated_built b d h some q l;
  told = k.told;
  some = refl;
  apart_base = k.some;
  apart_link = k.link;
}
  where
    below : (a : Expr) → IsBelow b h a → IsLadder b h a
    below a f = let le : rank a ≤ h + 3 = omega (arith, f.0) in (le, f.1)

-- ---- the reader

ladder_step : (b : Bool) (d n h : ℕ) → Room d n → h < 10 → (operand : Reads Expr) → Lawful (expr_class b d (h + 2)) (ladder_info h) (ladder n operand h) → Lawful (expr_class b d (h + 3)) (ladder_info (suc h)) (ladder n operand (suc h))
unfolding ladder
ladder_step b d n h r l operand below =
    let some = some_binary h l in
    let op = some.0 in
    let q : height op ≡ h = some.1 in
    let k = known_height h l in
    let operation = joined (binary_lawful d n h r op q) below refl in
    let all = chained (expr_class b d (h + 3)) (operation_link b d h op q) (IsBelow b h) (null 0) (none_less (h + 2), tt) operated (is_binary h) (ladder_info h) (operation_info h) (operated_linked b d h op q l)
    (ladder n operand h) below (λ _. counted_tok n (binary_of h) & ladder n operand h) (λ _. operation) in
    known all k.less

-- expressions of h heights of binary operators
pub ladder_lawful : (b : Bool) (d n : ℕ) → Room d n → (operand : Reads Expr) → Lawful (expr_class b d 2) postfix_info operand → (h : ℕ) → h ≤ 10 → Lawful (expr_class b d (h + 2)) (ladder_info h) (ladder n operand h)
unfolding ladder
ladder_lawful b d n r operand l zero le = known l (record { first = refl; goes = refl; empty = refl })
ladder_lawful b d n r operand l (suc h) le =
    let less : h < 10 = omega (arith, le) in
    let same : h + 3 ≡ suc h + 2 = omega arith in
    let below = ladder_lawful b d n r operand l h (omega (arith, le)) in
    subst (λ (k : ℕ). Lawful (expr_class b d k) (ladder_info (suc h)) (ladder n operand (suc h))) same (ladder_step b d n h r less operand below)
