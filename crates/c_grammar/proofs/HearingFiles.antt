-- What a look at the tokens of a file tells of its names: declarations, statements, typedefs and the file.
use Rattle.std.proofs.Common.{◌≡◌, ℕ, zero, ◌+◌, List, [], ◌∷◌, ◌++◌, Option, Some, None, true, false, refl, sym, ap, subst, ◌∙◌}
use Rattle.std.specs.List.{AllByRecursion}
use Rattle.c_lex.specs.declared.token.Mark.TheVariants as marks
use Rattle.c_lex.specs.declared.token.Word.TheVariants as words
use Rattle.c_tree.specs.declared.syntax.Name.{Name}
use Rattle.c_tree.specs.declared.syntax.Storage.{Storage}
use Rattle.c_tree.specs.Syntax.{Expr, Spec, word, struct, struct_body, unnamed_struct, enum, enum_body, unnamed_enum, alias, Declarator, declarator, InitDeclarator, Declaration, ParamDim, Param, Simple, before, after, assign, eval, ForFirst, first_declare, first_simple, first_nothing, Stmt, block, declare, empty, if_then, if_else, while, for, break, continue, return, simple, Stmts, no_stmts, more_stmts, Body, Rest, nothing, function, variables, External, types_by, external_of, File, specs_of, do_while, switch, case_label, default_label}
use Rattle.c_grammar.specs.Leaves.{Leaf, at, derivation_at, name_at, mark_at, word_at, some_word, some_mark, declares, the_end}
use Rattle.c_grammar.specs.Grammar.{mark_of_step, mark_of_assign, word_of_storage, counted, on, on_pointers, stars, on_dims, on_spec, on_members, on_enumerators, on_declarator, on_more, on_commas, on_each, on_full, on_value, on_init_declarator, on_declaration, on_size, on_param_dims, on_name, on_param, on_simple, on_maybe, on_first, on_bracketed, on_stmt, on_stmts, on_storage, on_body, on_rest, on_types, on_external, name_of_declarator, leaves, IsExternal, IsFile, Naming, as_name, as_any, declared_at, naming_of, typed_row, on_declared}
use Rattle.c_grammar.specs.Names.{Names, spelling, with_name, first_types}
use Rattle.c_grammar.specs.inner.Marking.{Scan, start}
use Rattle.c_grammar.proofs.Hearing.{run, Heard, run_append, heard_append, Still, still_none, still, still_append, still_shift, firm_pointers, firm_dims, still_pointers, still_wrap, still_expr, still_spec, still_members, still_enumerators, storage_stays, step_stays, assign_stays, firm_none, firm_wrap, firm_type_word, still_declared, behind_declared, types_declared, heard_first, run_first}

-- ---- lists

still_each : {A : Type 0} (part : A → List Leaf) → ((a : A) → Still (part a)) → (all : List A) → Still (on_each part all)
still_each part h [] = still_none
still_each part h (a ∷ all) = still_append (part a) (on_each part all) (h a) (still_each part h all)

still_more : {A : Type 0} (d : ℕ) (part : A → List Leaf) → ((a : A) → Still (part a)) → (all : List A) → Still (on_more d part all)
still_more d part h [] = still_none
still_more d part h (a ∷ all) = still (at d (some_mark marks.Comma)) (part a ++ on_more d part all) refl (still_append (part a) (on_more d part all) (h a) (still_more d part h all))

still_commas : {A : Type 0} (d : ℕ) (part : A → List Leaf) → ((a : A) → Still (part a)) → (all : List A) → Still (on_commas d part all)
still_commas d part h [] = still_none
still_commas d part h (a ∷ all) = still_append (part a) (on_more d part all) (h a) (still_more d part h all)

still_maybe : {A : Type 0} (part : A → List Leaf) → ((a : A) → Still (part a)) → (o : Option A) → Still (on_maybe part o)
still_maybe part h None = still_none
still_maybe part h (Some a) = h a

-- a semicolon at the end
ended : (d : ℕ) (ls : List Leaf) → Still ls → Still (ls ++ at d (some_mark marks.Semicolon) ∷ [])
ended d ls f = still_append ls (at d (some_mark marks.Semicolon) ∷ []) f (still (at d (some_mark marks.Semicolon)) [] refl still_none)

-- ---- declarations

still_value : (d : ℕ) (o : Option Expr) → Still (on_value d o)
still_value d None = still_none
still_value d (Some e) = still (at d (some_mark marks.Assign)) (on d 0 e) refl (still_expr d 0 e)

still_init : (d : ℕ) (i : InitDeclarator) → Still (on_init_declarator d i)
still_init d i = still_append (on_declarator d i.declarator) (on_value d i.value) (still_declared d as_name i.declarator) (still_value d i.value)

still_declaration : (d : ℕ) (x : Declaration) → Still (on_declaration d x)
still_declaration d x = ended d (on_each (on_spec d) x.specs ++ on_commas d (on_init_declarator d) x.declarators) (still_append (on_each (on_spec d) x.specs) (on_commas d (on_init_declarator d) x.declarators) (still_each (on_spec d) (still_spec d) x.specs) (still_commas d (on_init_declarator d) (still_init d) x.declarators))

still_size : (d : ℕ) (o : Option Expr) → Still (on_size d o)
still_size d None = still_none
still_size d (Some e) = still_expr d 0 e

still_param_dims : (d n : ℕ) (xs : List ParamDim) → Still (on_param_dims d n xs)
still_param_dims d n [] = still_none
still_param_dims d n (x ∷ xs) = still_wrap (derivation_at (d + 1) (n + 1) (mark_at x.place marks.OpenBracket)) (on_size (d + 1) x.size) (at (d + 1) (some_mark marks.CloseBracket)) (on_param_dims d (n + 1) xs) refl refl (still_size (d + 1) x.size) (still_param_dims d (n + 1) xs)

still_name : (d : ℕ) (o : Option Name) → Still (on_name d o)
still_name d None = still_none
still_name d (Some n) = still (at d (name_at n)) [] refl still_none

still_param : (d : ℕ) (p : Param) → Still (on_param d p)
still_param d p =
    let S : List Leaf = on_each (on_spec d) p.specs in
    let P : List Leaf = on_pointers d 0 p.pointers in
    let N : List Leaf = on_name d p.name in
    let D : List Leaf = on_param_dims d (stars 0 p.pointers) p.dims in
    still_append (S ++ P ++ N) D (still_append (S ++ P) N (still_append S P (still_each (on_spec d) (still_spec d) p.specs) (still_pointers d 0 p.pointers)) (still_name d p.name)) (still_param_dims d (stars 0 p.pointers) p.dims)

-- ---- statements

still_simple : (d : ℕ) (s : Simple) → Still (on_simple d s)
still_simple d (before place op e) = still (at d (mark_at place (mark_of_step op))) (on (d + 1) 0 e) (step_stays op) (still_expr (d + 1) 0 e)
still_simple d (after place op e) = still_append (on d 0 e) _ (still_expr d 0 e) (still (at d (mark_at place (mark_of_step op))) [] (step_stays op) still_none)
still_simple d (assign place op l r) = still_append (on d 0 l) _ (still_expr d 0 l) (still (at d (mark_at place (mark_of_assign op))) (on d (counted 0 l) r) (assign_stays op) (still_expr d (counted 0 l) r))
still_simple d (eval e) = still_expr d 0 e

still_first : (d : ℕ) (f : ForFirst) → Still (on_first d f)
still_first d (first_declare x) = still_declaration d x
still_first d (first_simple s) = ended d (on_simple d s) (still_simple d s)
still_first d first_nothing = still (at d (some_mark marks.Semicolon)) [] refl still_none

-- a condition, and what is behind it
still_bracketed : (d : ℕ) (e : Expr) → Still (on_bracketed d e)
still_bracketed d e = still_wrap (at (d + 1) (some_mark marks.OpenParen)) (on (d + 1) 0 e) (at (d + 1) (some_mark marks.CloseParen)) [] refl refl (still_expr (d + 1) 0 e) still_none

-- the leaves between the brackets of a for, as they are written
abbrev for_front : ℕ → ForFirst → Option Expr → List Leaf
for_front d f e = on_first (d + 1) f ++ on_maybe (on_full (d + 1)) e

abbrev for_steps : ℕ → Option Simple → List Leaf
for_steps d step = at (d + 1) (some_mark marks.Semicolon) ∷ on_maybe (on_simple (d + 1)) step

mutual
  still_stmt : (d : ℕ) (s : Stmt) → Still (on_stmt d s)
  still_stmt d (block place all) = still_wrap (at (d + 1) (mark_at place marks.OpenBrace)) (on_stmts (d + 1) all) (at (d + 1) (some_mark marks.CloseBrace)) [] refl refl (still_stmts (d + 1) all) still_none
  still_stmt d (declare x) = still_declaration d x
  still_stmt d (empty place) = still (at d (mark_at place marks.Semicolon)) [] refl still_none
  still_stmt d (if_then place e s) = still (at d (word_at place words.If)) (on_bracketed d e ++ on_stmt (d + 1) s) refl (still_append (on_bracketed d e) (on_stmt (d + 1) s) (still_bracketed d e) (still_stmt (d + 1) s))
  still_stmt d (if_else place e s t) = still (at d (word_at place words.If)) (on_bracketed d e ++ on_stmt (d + 1) s ++ at d (some_word words.Else) ∷ on_stmt (d + 1) t) refl
      (still_append (on_bracketed d e ++ on_stmt (d + 1) s) (at d (some_word words.Else) ∷ on_stmt (d + 1) t) (still_append (on_bracketed d e) (on_stmt (d + 1) s) (still_bracketed d e) (still_stmt (d + 1) s))
      (still (at d (some_word words.Else)) (on_stmt (d + 1) t) refl (still_stmt (d + 1) t)))
  still_stmt d (while place e s) = still (at d (word_at place words.While)) (on_bracketed d e ++ on_stmt (d + 1) s) refl (still_append (on_bracketed d e) (on_stmt (d + 1) s) (still_bracketed d e) (still_stmt (d + 1) s))
  still_stmt d (for place f e step s) =
      let all = still_append (for_front d f e) (for_steps d step) (still_append (on_first (d + 1) f) (on_maybe (on_full (d + 1)) e) (still_first (d + 1) f) (still_maybe (on_full (d + 1)) (still_expr (d + 1) 0) e))
      (still (at (d + 1) (some_mark marks.Semicolon)) (on_maybe (on_simple (d + 1)) step) refl (still_maybe (on_simple (d + 1)) (still_simple (d + 1)) step)) in
      still (at d (word_at place words.For)) _ refl (still_wrap (at (d + 1) (some_mark marks.OpenParen)) (for_front d f e ++ for_steps d step) (at (d + 1) (some_mark marks.CloseParen)) (on_stmt (d + 1) s) refl refl all (still_stmt (d + 1) s))
  still_stmt d (do_while place s e) = still (at d (word_at place words.Do)) _ refl (ended d (on_stmt (d + 1) s ++ at d (some_word words.While) ∷ on_bracketed d e) (still_append (on_stmt (d + 1) s) (at d (some_word words.While) ∷ on_bracketed d e) (still_stmt (d + 1) s) (still (at d (some_word words.While)) (on_bracketed d e) refl (still_bracketed d e))))
  still_stmt d (switch place e entries) = still (at d (word_at place words.Switch)) _ refl (still_shift (on_bracketed d e) (at (d + 1) (some_mark marks.OpenBrace) ∷ on_stmts (d + 1) entries) (at (d + 1) (some_mark marks.CloseBrace) ∷ [])
      (still_append (on_bracketed d e) (at (d + 1) (some_mark marks.OpenBrace) ∷ on_stmts (d + 1) entries ++ at (d + 1) (some_mark marks.CloseBrace) ∷ []) (still_bracketed d e) (still_wrap (at (d + 1) (some_mark marks.OpenBrace)) (on_stmts (d + 1) entries) (at (d + 1) (some_mark marks.CloseBrace)) [] refl refl (still_stmts (d + 1) entries) still_none)))
  still_stmt d (case_label place e) = still (at d (word_at place words.Case)) _ refl (still_append (on d 0 e) (at d (some_mark marks.Colon) ∷ []) (still_expr d 0 e) (still (at d (some_mark marks.Colon)) [] refl still_none))
  still_stmt d (default_label place) = still (at d (word_at place words.Default)) _ refl (still (at d (some_mark marks.Colon)) [] refl still_none)
  still_stmt d (break place) = still (at d (word_at place words.Break)) _ refl (still (at d (some_mark marks.Semicolon)) [] refl still_none)
  still_stmt d (continue place) = still (at d (word_at place words.Continue)) _ refl (still (at d (some_mark marks.Semicolon)) [] refl still_none)
  still_stmt d (return place e) = still (at d (word_at place words.Return)) (on_maybe (on_full d) e ++ at d (some_mark marks.Semicolon) ∷ []) refl (ended d (on_maybe (on_full d) e) (still_maybe (on_full d) (still_expr d 0) e))
  still_stmt d (simple s) = ended d (on_simple d s) (still_simple d s)

  still_stmts : (d : ℕ) (all : Stmts) → Still (on_stmts d all)
  still_stmts d no_stmts = still_none
  still_stmts d (more_stmts s all) = still_append (on_stmt d s) (on_stmts d all) (still_stmt d s) (still_stmts d all)

-- ---- external declarations

still_body : (d : ℕ) (o : Option Body) → Still (on_body d o)
still_body d None = still (at d (some_mark marks.Semicolon)) [] refl still_none
still_body d (Some b) = still_wrap (at (d + 1) (mark_at b.place marks.OpenBrace)) (on_each (on_stmt (d + 1)) b.items) (at (d + 1) (some_mark marks.CloseBrace)) [] refl refl (still_each (on_stmt (d + 1)) (still_stmt (d + 1)) b.items) still_none

still_rest : (d : ℕ) (r : Rest) → Still (on_rest d r)
still_rest d nothing = still (at d (some_mark marks.Semicolon)) [] refl still_none
still_rest d (function ps n all b) =
    let P : List Leaf = on_pointers d 0 ps in
    let head : List Leaf = at d (name_at n) ∷ at (d + 1) (some_mark marks.OpenParen) ∷ on_commas (d + 1) (on_param (d + 1)) all in
    let tail : List Leaf = at (d + 1) (some_mark marks.CloseParen) ∷ on_body d b in
    still_shift P head tail (still_append P (head ++ tail) (still_pointers d 0 ps)
    (still (at d (name_at n)) (at (d + 1) (some_mark marks.OpenParen) ∷ on_commas (d + 1) (on_param (d + 1)) all ++ tail) refl
    (still_wrap (at (d + 1) (some_mark marks.OpenParen)) (on_commas (d + 1) (on_param (d + 1)) all) (at (d + 1) (some_mark marks.CloseParen)) (on_body d b) refl refl (still_commas (d + 1) (on_param (d + 1)) (still_param (d + 1)) all) (still_body d b))))
still_rest d (variables is) = ended d (on_commas d (on_init_declarator d) is) (still_commas d (on_init_declarator d) (still_init d) is)

still_storage : (d : ℕ) (s : Storage) → Still (on_storage d s)
still_storage d s = still (at d (some_word (word_of_storage s))) [] (storage_stays s) still_none

still_external : (d : ℕ) (storage : List Storage) (ss : List Spec) (r : Rest) → Still (on_external d (external_of storage ss r))
still_external d storage ss r = still_append (on_each (on_storage d) storage ++ on_each (on_spec d) ss) (on_rest d r) (still_append (on_each (on_storage d) storage) (on_each (on_spec d) ss) (still_each (on_storage d) (still_storage d) storage) (still_each (on_spec d) (still_spec d) ss)) (still_rest d r)

-- ---- typedefs

-- outside brackets in a typedef
abbrev outside : Names → List ℕ → Scan
outside types last = record { types = types; depth = zero; typedef = true; last = last }

-- outside typedefs
abbrev idle : Names → List ℕ → Scan
idle types last = record { types = types; depth = zero; typedef = false; last = last }

-- outside brackets in a typedef the leaves change the last name alone
abbrev Mild : List Leaf → Type 0
Mild ls = (t : List ℕ) (types : Names) (last : List ℕ) → Heard t (outside types last) ls × ((n : List ℕ) × (run t (outside types last) ls ≡ outside types n))

mild_append : (la lb : List Leaf) → Mild la → Mild lb → Mild (la ++ lb)
mild_append la lb f g t types last =
    let a = f t types last in
    let b = g t types a.1.0 in
    (heard_append t (outside types last) la lb a.0 (subst (λ (x : Scan). Heard t x lb) (sym a.1.1) b.0), (b.1.0, run_append t (outside types last) la lb ∙ ap (λ (x : Scan). run t x lb) a.1.1 ∙ b.1.1))

mild_spec : (x : Spec) → Mild (on_spec 0 x)
mild_spec (word place w) t types last = let q = (firm_type_word 0 place w).go t (outside types last) in (q.0, (last, q.1))
mild_spec (struct place tag) t types last = ((refl, (refl, tt)), (spelling t tag, refl))
mild_spec (alias n) t types last = ((refl, tt), (spelling t n, refl))
mild_spec (enum place tag) t types last = ((refl, (refl, tt)), (spelling t tag, refl))
mild_spec (unnamed_struct place ms) t types last =
    let m = firm_wrap (at 1 (some_mark marks.OpenBrace)) (on_members 1 ms) (at 1 (some_mark marks.CloseBrace)) [] refl refl (still_members 1 ms) firm_none in
    let n = m.go t (outside types last) in
    ((refl, n.0), (last, n.1))
mild_spec (enum_body place tag es) t types last =
    let m = firm_wrap (at 1 (some_mark marks.OpenBrace)) (on_enumerators 1 es) (at 1 (some_mark marks.CloseBrace)) [] refl refl (still_enumerators 1 es) firm_none in
    let n = m.go t (outside types (spelling t tag)) in
    ((refl, (refl, n.0)), (spelling t tag, n.1))
mild_spec (unnamed_enum place es) t types last =
    let m = firm_wrap (at 1 (some_mark marks.OpenBrace)) (on_enumerators 1 es) (at 1 (some_mark marks.CloseBrace)) [] refl refl (still_enumerators 1 es) firm_none in
    let n = m.go t (outside types last) in
    ((refl, n.0), (last, n.1))
mild_spec (struct_body place tag ms) t types last =
    let m = firm_wrap (at 1 (some_mark marks.OpenBrace)) (on_members 1 ms) (at 1 (some_mark marks.CloseBrace)) [] refl refl (still_members 1 ms) firm_none in
    let n = m.go t (outside types (spelling t tag)) in
    ((refl, (refl, n.0)), (spelling t tag, n.1))

mild_specs : (ss : List Spec) → Mild (on_each (on_spec 0) ss)
mild_specs [] t types last = (tt, (last, refl))
mild_specs (x ∷ ss) t types last = mild_append (on_spec 0 x) (on_each (on_spec 0) ss) (mild_spec x) (mild_specs ss) t types last

-- behind a declarator its name is the last
heard_declarator : (t : List ℕ) (types : Names) (last : List ℕ) (k : Naming) (x : Declarator) → Heard t (outside types last) (on_declared 0 k x) × (run t (outside types last) (on_declared 0 k x) ≡ outside types (spelling t (name_of_declarator x)))
heard_declarator t types last k (declarator ps n es) =
    let head : List Leaf = on_pointers 0 0 ps in
    let dims : List Leaf = on_dims 0 (stars 0 ps) es in
    let l : Leaf = at 0 (declared_at k ps n) in
    let a = (firm_pointers 0 0 ps).go t (outside types last) in
    let b = (firm_dims 0 (stars 0 ps) es).go t (outside types (spelling t n)) in
    let step = behind_declared t (outside types last) k ps n in
    let heard = heard_first t (outside types last) (outside types (spelling t n)) l dims step (types_declared t types k ps n) b.0 in
    let ran = run_first t (outside types last) (outside types (spelling t n)) (outside types (spelling t n)) l dims step b.1 in
    (heard_append t (outside types last) head (l ∷ dims) a.0 (subst (λ (x : Scan). Heard t x (l ∷ dims)) (sym a.1) heard), run_append t (outside types last) head (l ∷ dims) ∙ ap (λ (x : Scan). run t x (l ∷ dims)) a.1 ∙ ran)

-- the declarators of a typedef: behind each its name is a type's, and behind all the typedef is ended
heard_types : (t : List ℕ) (types : Names) (last : List ℕ) (k : Naming) (x : Declarator) (ds : List Declarator) → Heard t (outside types last) (on_types 0 k x ds) × ((ns : Names) × (n : List ℕ) × (run t (outside types last) (on_types 0 k x ds) ≡ idle ns n))
heard_types t types last k x [] =
    let n = name_of_declarator x in
    let end : List Leaf = at 0 (declares marks.Semicolon n) ∷ [] in
    let d = heard_declarator t types last k x in
    let heard : Heard t (outside types (spelling t n)) end = (refl, tt) in (
      heard_append t (outside types last) (on_declared 0 k x) end d.0 (subst (λ (y : Scan). Heard t y end) (sym d.1) heard),
      (with_name types (spelling t n), spelling t n, run_append t (outside types last) (on_declared 0 k x) end ∙ ap (λ (y : Scan). run t y end) d.1),
    )
heard_types t types last k x (y ∷ ds) =
    let n = name_of_declarator x in
    let more : List Leaf = at 0 (declares marks.Comma n) ∷ on_types 0 as_any y ds in
    let d = heard_declarator t types last k x in
    let m = heard_types t (with_name types (spelling t n)) (spelling t n) as_any y ds in
    let heard : Heard t (outside types (spelling t n)) more = (refl, m.0) in (
      heard_append t (outside types last) (on_declared 0 k x) more d.0 (subst (λ (z : Scan). Heard t z more) (sym d.1) heard),
      (m.1.0, m.1.1, run_append t (outside types last) (on_declared 0 k x) more ∙ ap (λ (z : Scan). run t z more) d.1 ∙ m.1.2),
    )

-- ---- files

-- behind an external declaration no typedef is open
abbrev Goes : List ℕ → Names → List ℕ → List Leaf → Type 0
Goes t types last ls = Heard t (idle types last) ls × ((ns : Names) × (n : List ℕ) × (run t (idle types last) ls ≡ idle ns n))

heard_typedef : (t : List ℕ) (types : Names) (last : List ℕ) (ss : List Spec) (ds : List Declarator) → IsExternal (types_by ss ds) → Goes t types last (on_external 0 (types_by ss ds))
heard_typedef t types last ss [] f = absurd f.1
heard_typedef t types last ss (x ∷ ds) f =
    let a = mild_specs ss t types last in
    let k = naming_of (typed_row false (specs_of ss)) in
    let b = heard_types t types a.1.0 k x ds in
    let specs : List Leaf = on_each (on_spec 0) ss in
    let more : List Leaf = on_types 0 k x ds in (
      (refl, heard_append t (outside types last) specs more a.0 (subst (λ (z : Scan). Heard t z more) (sym a.1.1) b.0)),
      (b.1.0, b.1.1, run_append t (outside types last) specs more ∙ ap (λ (z : Scan). run t z more) a.1.1 ∙ b.1.2),
    )

heard_external : (t : List ℕ) (types : Names) (last : List ℕ) (e : External) → IsExternal e → Goes t types last (on_external 0 e)
heard_external t types last (types_by ss ds) f = heard_typedef t types last ss ds f
heard_external t types last (external_of storage ss r) f = let s = (still_external 0 storage ss r).go t (idle types last) refl in (s.0, (types, last, s.1))

heard_all : (t : List ℕ) (types : Names) (last : List ℕ) (all : List External) → AllByRecursion IsExternal all → Goes t types last (on_each (on_external 0) all)
heard_all t types last [] f = (tt, (types, last, refl))
heard_all t types last (e ∷ all) f =
    let a = heard_external t types last e f.0 in
    let b = heard_all t a.1.0 a.1.1 all f.1 in
    let more : List Leaf = on_each (on_external 0) all in (
      heard_append t (idle types last) (on_external 0 e) more a.0 (subst (λ (z : Scan). Heard t z more) (sym a.1.2) b.0),
      (b.1.0, b.1.1, run_append t (idle types last) (on_external 0 e) more ∙ ap (λ (z : Scan). run t z more) a.1.2 ∙ b.1.2),
    )

-- behind each leaf of a file the look tells the names of types that the tree does
pub heard_file : (t : List ℕ) (f : File) → IsFile f → Heard t start (leaves f)
heard_file t f is =
    let a = heard_all t first_types [] f.externals is in
    let end : List Leaf = at 0 the_end ∷ [] in
    let heard : Heard t (idle a.1.0 a.1.1) end = (refl, tt) in
    heard_append t start (on_each (on_external 0) f.externals) end a.0 (subst (λ (z : Scan). Heard t z end) (sym a.1.2) heard)
