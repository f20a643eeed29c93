-- Declarations and statements, by the room that the code counts.
use Rattle.std.proofs.Common.{◌≡◌, ℕ, zero, suc, ◌-◌, ◌<◌, List, Result, Ok, Err, refl, sym, ap, subst, ◌∙◌, arith}
use Rattle.c_grammar.specs.declared.terminal.Terminal.{Terminal}
use Rattle.c_tree.specs.Syntax.{Declaration, Simple, Stmt}
use Rattle.parse_tokens.specs.declared.parser.Parser.{Parser}
use Rattle.parse_tokens.specs.declared.parser.Stop.{Stop}
use Rattle.c_grammar.specs.inner.Readers.{got, Reads, choice, too_deep}
use Rattle.c_grammar.specs.inner.Tokens.{begins_type, begins_simple}
use Rattle.c_grammar.specs.inner.Reading.{declaration, simply, begins_stmt, StmtStart, stmt_start, stmt_by, stmt_at, param, param_behind}
use Rattle.c_parse.specs.inner.Parts.{declaration_by, simple_by, param_dims, param_by}
use Rattle.parse_tokens.specs.inner.Moves.{Fails, Moves, peek}
use Rattle.parse_expressions.proofs.CodeLoops.{chooses}
use Rattle.parse_expressions.proofs.CodeLevels.{before, deep_any}

-- ---- where there is room

declaration_suc : (n : ℕ) → declaration (suc n) ≡ declaration_by (suc n) n
unfolding declaration
declaration_suc n = refl

pub declaration_at : (room : ℕ) → 0 < room → declaration room ≡ declaration_by room (room - 1)
declaration_at zero h = absurd (omega arith)
declaration_at (suc n) h = rw (before n) (declaration_suc n)

simple_suc : (n : ℕ) → simply (suc n) ≡ simple_by (suc n) n
unfolding simply
simple_suc n = refl

pub simple_at : (room : ℕ) → 0 < room → simply room ≡ simple_by room (room - 1)
simple_at zero h = absurd (omega arith)
simple_at (suc n) h = rw (before n) (simple_suc n)

stmt_suc : (n : ℕ) → stmt_at (suc n) ≡ choice stmt_start (stmt_by (suc n) n (stmt_at n))
unfolding stmt_at
stmt_suc n = refl

pub stmt_is : (room : ℕ) → 0 < room → stmt_at room ≡ choice stmt_start (stmt_by room (room - 1) (stmt_at (room - 1)))
stmt_is zero h = absurd (omega arith)
stmt_is (suc n) h = rw (before n) (stmt_suc n)

-- ---- parameters

pub param_is : (room deeper : ℕ) → param room deeper ≡ param_by room deeper
unfolding param param_behind param_dims
param_is room deeper = refl

-- ---- where there is none

declaration_zero : (room : ℕ) → room ≡ 0 → declaration room ≡ too_deep begins_type
unfolding declaration
declaration_zero room h = ap declaration h

pub no_declaration : (room : ℕ) (c : ℕ) (ts : List Terminal) (e : Stop) → room ≡ 0 → Fails {A = Unit {0}} e (too_deep begins_type c ts) → Fails e (declaration room c ts)
no_declaration room c ts e h f =
    let P : Reads Declaration → Type 0 = λ r. Fails e (r c ts) in
    subst P (sym (declaration_zero room h)) (deep_any _ _ begins_type c ts e f)

simple_zero : (room : ℕ) → room ≡ 0 → simply room ≡ too_deep begins_simple
unfolding simply
simple_zero room h = ap simply h

pub no_simple : (room : ℕ) (c : ℕ) (ts : List Terminal) (e : Stop) → room ≡ 0 → Fails {A = Unit {0}} e (too_deep begins_simple c ts) → Fails e (simply room c ts)
no_simple room c ts e h f =
    let P : Reads Simple → Type 0 = λ r. Fails e (r c ts) in
    subst P (sym (simple_zero room h)) (deep_any _ _ begins_simple c ts e f)

stmt_zero : (room : ℕ) → room ≡ 0 → stmt_at room ≡ too_deep begins_stmt
unfolding stmt_at
stmt_zero room h = ap stmt_at h

pub no_stmt : (room : ℕ) (c : ℕ) (ts : List Terminal) (e : Stop) → room ≡ 0 → Fails {A = Unit {0}} e (too_deep begins_stmt c ts) → Fails e (stmt_at room c ts)
no_stmt room c ts e h f =
    let P : Reads Stmt → Type 0 = λ r. Fails e (r c ts) in
    subst P (sym (stmt_zero room h)) (deep_any _ _ begins_stmt c ts e f)

-- ---- what is read

-- as another reader reads it here
pub moves_as : {A B : Type 0} (view : A → B) (reads other : Reads B) (old new : Parser) (r : Result A Stop) → reads old.count old.rest.now ≡ other old.count old.rest.now → Moves view other old new r → Moves view reads old new r
moves_as view reads other old new (Ok a) e h = e ∙ h
moves_as view reads other old new (Err s) e h = subst (Fails s) (sym e) h

-- a statement that begins so
pub stmt_begins : (room : ℕ) → 0 < room → (s : StmtStart) (c : ℕ) (ts : List Terminal) → peek stmt_start c ts ≡ got s c ts → stmt_at room c ts ≡ stmt_by room (room - 1) (stmt_at (room - 1)) s c ts
stmt_begins room h s c ts e = ap (λ (r : Reads Stmt). r c ts) (stmt_is room h) ∙ chooses stmt_start (stmt_by room (room - 1) (stmt_at (room - 1))) c ts s e
