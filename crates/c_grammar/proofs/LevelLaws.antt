-- The laws of the levels, each from those of the level deeper.
use Rattle.std.proofs.Common.{◌≡◌, ℕ, zero, suc, ◌+◌, Bool, false, refl, subst, arith}
use Rattle.c_grammar.specs.inner.Tokens.{begins_type, begins_expr}
use Rattle.c_grammar.specs.inner.Reading.{Level, no_level, level_by, level_at}
use Rattle.c_grammar.proofs.Joints.{too_deep_lawful}
use Rattle.c_grammar.proofs.TokenLaws.{Room}
use Rattle.c_grammar.proofs.TreeClasses.{goes_postfix, goes_expr, goes_type, expr_class, sized_class, type_class, member_class, LevelLawful}
use Rattle.c_grammar.proofs.UnaryLaws.{unary_lawful}
use Rattle.c_grammar.proofs.CastLaws.{casted_lawful}
use Rattle.c_grammar.proofs.SizedLaws.{sized_lawful}
use Rattle.c_grammar.proofs.ExprLaws.{expr_lawful}
use Rattle.c_grammar.proofs.DeepExprs.{deep_expr, deep_sized}
use Rattle.c_grammar.proofs.PointerLaws.{type_lawful}
use Rattle.c_grammar.proofs.MemberLaws.{member_lawful, type_too_deep, member_too_deep}

-- where no room is left
no_level_lawful : (b : Bool) → LevelLawful b 129 no_level
no_level_lawful b = record {
  expr = too_deep_lawful (expr_class b 129 13) begins_expr goes_expr (deep_expr b 129 13 (omega arith) refl);
  cast = too_deep_lawful (expr_class b 129 2) begins_expr goes_postfix (deep_expr b 129 2 (omega arith) refl);
  unary = too_deep_lawful (expr_class b 129 1) begins_expr goes_postfix (deep_expr b 129 1 (omega arith) refl);
  sized = too_deep_lawful (sized_class b 129) begins_expr goes_postfix (deep_sized b 129 refl);
  type_name = too_deep_lawful (type_class b 129) begins_type goes_type (type_too_deep b);
  member = λ braces. too_deep_lawful (member_class 129) begins_type (λ s. false) member_too_deep;
}

-- a level that has room, in which members are read where braces may stand
level_by_lawful : (b : Bool) (d n : ℕ) (inner : Level) → Room d (suc n) → LevelLawful b (d + 1) inner → LevelLawful b d (level_by b n inner)
level_by_lawful b d n inner e l = record {
  expr = expr_lawful b d n inner e l;
  cast = casted_lawful b d n inner e l;
  unary = unary_lawful b d n inner e l;
  sized = sized_lawful b d n inner e l;
  type_name = type_lawful b d n inner e l;
  member = λ braces. member_lawful d n inner e (subst (λ (x : Bool). LevelLawful x (d + 1) inner) braces l);
}

-- the level d with the room n
pub level_laws : (b : Bool) (n d : ℕ) → Room d n → LevelLawful b d (level_at b n)
unfolding level_at
level_laws b zero d e = let same : 129 ≡ d = omega (arith, e) in subst (λ (x : ℕ). LevelLawful b x no_level) same (no_level_lawful b)
level_laws b (suc n) d e = level_by_lawful b d n (level_at b n) e (level_laws b n (d + 1) (omega (arith, e)))
