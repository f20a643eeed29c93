-- The levels, by the room that the code counts.
use Rattle.std.proofs.Common.{◌≡◌, ℕ, zero, suc, ◌-◌, ◌<◌, List, [], ◌∷◌, length, Err, Bool, true, false, refl, sym, ap, subst, ◌∙◌, arith}
use Rattle.c_grammar.specs.declared.terminal.Terminal.{Terminal}
use Rattle.c_lex.specs.declared.refusal.Kind.TheVariants.{TooDeep}
use Rattle.c_tree.specs.Syntax.{Expr, TypeName, Member}
use Rattle.parse_tokens.specs.declared.parser.Stop.{Stop}
use Rattle.parse_tokens.specs.declared.parser.Stop.TheVariants as stops
use Rattle.c_grammar.specs.inner.Readers.{sunk, past, Fault, stop, Reads, Sort, sort, refused, too_deep}
use Rattle.c_grammar.specs.inner.Tokens.{begins_type, begins_expr}
use Rattle.c_grammar.specs.inner.Reading.{Level, Sized, level_by, no_level, level_at, expr, casted, unary, sized, type_named, membered}
use Rattle.parse_tokens.specs.inner.Moves.{Fails}

level_suc : (b : Bool) (n : ℕ) → level_at b (suc n) ≡ level_by b n (level_at b n)
unfolding level_at
level_suc b n = refl

pub before : (n : ℕ) → suc n - 1 ≡ n
before n = omega arith

pub level_is : (b : Bool) (room : ℕ) → 0 < room → level_at b room ≡ level_by b (room - 1) (level_at b (room - 1))
level_is b zero h = absurd (omega arith)
level_is b (suc n) h = rw (before n) (level_suc b n)

-- what a level with room offers
suc_is : (room : ℕ) → 0 < room → suc (room - 1) ≡ room
suc_is room h = omega arith

pub expr_at : (b : Bool) (room : ℕ) → 0 < room → (level_at b room).expr ≡ expr room (room - 1) (level_at b (room - 1))
expr_at b room h = ap (λ (l : Level). l.expr) (level_is b room h) ∙ ap (λ n. expr n (room - 1) (level_at b (room - 1))) (suc_is room h)

pub cast_at : (b : Bool) (room : ℕ) → 0 < room → (level_at b room).cast ≡ casted room (room - 1) (level_at b (room - 1))
cast_at b room h = ap (λ (l : Level). l.cast) (level_is b room h) ∙ ap (λ n. casted n (room - 1) (level_at b (room - 1))) (suc_is room h)

pub unary_at : (b : Bool) (room : ℕ) → 0 < room → (level_at b room).unary ≡ unary room (room - 1) (level_at b (room - 1))
unary_at b room h = ap (λ (l : Level). l.unary) (level_is b room h) ∙ ap (λ n. unary n (room - 1) (level_at b (room - 1))) (suc_is room h)

pub sized_at : (b : Bool) (room : ℕ) → 0 < room → (level_at b room).sized ≡ sized room (room - 1) (level_at b (room - 1))
sized_at b room h = ap (λ (l : Level). l.sized) (level_is b room h) ∙ ap (λ n. sized n (room - 1) (level_at b (room - 1))) (suc_is room h)

pub type_name_at : (b : Bool) (room : ℕ) → 0 < room → (level_at b room).type_name ≡ type_named b room (room - 1) (level_at b (room - 1))
type_name_at b room h = ap (λ (l : Level). l.type_name) (level_is b room h) ∙ ap (λ n. type_named b n (room - 1) (level_at b (room - 1))) (suc_is room h)

pub member_at : (b : Bool) (room : ℕ) → 0 < room → (level_at b room).member ≡ membered room (room - 1) (level_at b (room - 1))
member_at b room h = ap (λ (l : Level). l.member) (level_is b room h) ∙ ap (λ n. membered n (room - 1) (level_at b (room - 1))) (suc_is room h)

-- ---- no room

err_any : (A B : Type 0) (e : Stop) (f : Fault) → Fails {A = A} e (Err f) → Fails {A = B} e (Err f)
err_any A B stops.NoMemory f h = tt
err_any A B (stops.Unexpected left) f h = cc
err_any A B (stops.Sunk left) f h = cc
err_any A B (stops.Over kind left) f h = cc

refused_any : (A B : Type 0) (t : Terminal) (ts : List Terminal) (b : Bool) (e : Stop) → Fails {A = A} e (refused t ts b) → Fails {A = B} e (refused t ts b)
refused_any A B t ts true e h = err_any A B e (stop (past TooDeep) (length (t ∷ ts))) h
refused_any A B t ts false e h = err_any A B e (stop sunk (length (t ∷ ts))) h

-- where whatever would begin lies too deep, the fault is the same, whatever would be read
pub deep_any : (A B : Type 0) (start : Sort → Bool) (c : ℕ) (ts : List Terminal) (e : Stop) → Fails {A = A} e (too_deep start c ts) → Fails {A = B} e (too_deep start c ts)
deep_any A B start c [] e h = err_any A B e (stop sunk 0) h
deep_any A B start c (t ∷ ts) e h = refused_any A B t ts (start (sort t)) e h

level_zero : (b : Bool) (room : ℕ) → room ≡ 0 → level_at b room ≡ no_level
unfolding level_at
level_zero b room h = ap (λ n. level_at b n) h

pub no_expr : (b : Bool) (room : ℕ) (c : ℕ) (ts : List Terminal) (e : Stop) → room ≡ 0 → Fails {A = Unit {0}} e (too_deep begins_expr c ts) → Fails e ((level_at b room).expr c ts)
no_expr b room c ts e h f =
    let P : Reads Expr → Type 0 = λ r. Fails e (r c ts) in
    subst P (sym (ap (λ (l : Level). l.expr) (level_zero b room h))) (deep_any _ _ begins_expr c ts e f)

pub no_cast : (b : Bool) (room : ℕ) (c : ℕ) (ts : List Terminal) (e : Stop) → room ≡ 0 → Fails {A = Unit {0}} e (too_deep begins_expr c ts) → Fails e ((level_at b room).cast c ts)
no_cast b room c ts e h f =
    let P : Reads Expr → Type 0 = λ r. Fails e (r c ts) in
    subst P (sym (ap (λ (l : Level). l.cast) (level_zero b room h))) (deep_any _ _ begins_expr c ts e f)

pub no_unary : (b : Bool) (room : ℕ) (c : ℕ) (ts : List Terminal) (e : Stop) → room ≡ 0 → Fails {A = Unit {0}} e (too_deep begins_expr c ts) → Fails e ((level_at b room).unary c ts)
no_unary b room c ts e h f =
    let P : Reads Expr → Type 0 = λ r. Fails e (r c ts) in
    subst P (sym (ap (λ (l : Level). l.unary) (level_zero b room h))) (deep_any _ _ begins_expr c ts e f)

pub no_sized : (b : Bool) (room : ℕ) (c : ℕ) (ts : List Terminal) (e : Stop) → room ≡ 0 → Fails {A = Unit {0}} e (too_deep begins_expr c ts) → Fails e ((level_at b room).sized c ts)
no_sized b room c ts e h f =
    let P : Reads Sized → Type 0 = λ r. Fails e (r c ts) in
    subst P (sym (ap (λ (l : Level). l.sized) (level_zero b room h))) (deep_any _ _ begins_expr c ts e f)

pub no_type_name : (b : Bool) (room : ℕ) (c : ℕ) (ts : List Terminal) (e : Stop) → room ≡ 0 → Fails {A = Unit {0}} e (too_deep begins_type c ts) → Fails e ((level_at b room).type_name c ts)
no_type_name b room c ts e h f =
    let P : Reads TypeName → Type 0 = λ r. Fails e (r c ts) in
    subst P (sym (ap (λ (l : Level). l.type_name) (level_zero b room h))) (deep_any _ _ begins_type c ts e f)

pub no_member : (b : Bool) (room : ℕ) (c : ℕ) (ts : List Terminal) (e : Stop) → room ≡ 0 → Fails {A = Unit {0}} e (too_deep begins_type c ts) → Fails e ((level_at b room).member c ts)
no_member b room c ts e h f =
    let P : Reads Member → Type 0 = λ r. Fails e (r c ts) in
    subst P (sym (ap (λ (l : Level). l.member) (level_zero b room h))) (deep_any _ _ begins_type c ts e f)
