-- What the parts of a production read, joined.
use Rattle.std.proofs.Common.{◌≡◌, ℕ, zero, suc, ◌-◌, ◌<◌, List, [], ◌∷◌, Some, Result, Ok, Err, Bool, true, false, refl, sym, ap, subst, ◌∙◌, arith}
use Rattle.c_grammar.specs.declared.terminal.Terminal.{Terminal}
use Rattle.c_lex.specs.declared.token.Mark.TheVariants.{OpenParen, CloseParen, Semicolon, Comma}
use Rattle.c_lex.specs.declared.token.Word.TheVariants.{Struct, Enum}
use Rattle.c_tree.specs.declared.syntax.Spec.{Spec as CodeSpec}
use Rattle.c_tree.specs.SyntaxViews.{spec_view}
use Rattle.c_tree.specs.declared.syntax.Pointer.{Pointer}
use Rattle.c_tree.specs.Syntax.{Expr, group, binary, TypeName, type_name, Spec, Member, members_of, Declarator, specs_of, declarators_of}
use Rattle.parse_tokens.specs.declared.parser.Parser.{Parser}
use Rattle.parse_tokens.specs.declared.parser.Stop.{Stop}
use Rattle.parse_tokens.specs.declared.parser.Stop.TheVariants as stops
use Rattle.c_grammar.specs.Grammar.{Naming}
use Rattle.c_grammar.specs.inner.Readers.{Reading, got, Reads, ◌>>=◌, ◌&◌, made, nothing, pushed, chain, links}
use Rattle.c_grammar.specs.inner.Tokens.{tok, counted_tok, mark_is, word_place, is_mark, binary_of, is_binary, begins_type, begins_expr}
use Rattle.c_grammar.specs.inner.Reading.{Sized, a_type, an_expr, sized, unary, Level, level_at, commas, either_by, either, StructWord, EnumWord, spec_start, spec_by, spec, tagged, struct_by, enum_by, members, enumerators, spec_behind, typed, begins_spec, post, posted, begins_post, group_rest, ladder, specs, bare_pointers, type_named, pointers, bare_declared, declarator_behind, declared, any_declared, membered}
use Rattle.parse_tokens.specs.inner.Moves.{Fails, Moves, peek, ahead}
use Rattle.parse_expressions.proofs.CodeLoops.{Going, begins_behind, behind_reads, chooses, behind_stops, second_stops}
use Rattle.parse_expressions.proofs.CodeChoices.{chosen_stops, made_stops}
use Rattle.parse_expressions.proofs.CodeLevels.{sized_at, type_name_at, member_at}

-- the rest of a reader is read elsewhere
pub then_moves : {A B : Type 0} (view : A → B) (r q : Reads B) (old mid new : Parser) (result : Result A Stop) → r old.count old.rest.now ≡ q mid.count mid.rest.now → Moves view q mid new result → Moves view r old new result
then_moves view r q old mid new (Ok a) e m = e ∙ m
then_moves view r q old mid new (Err stops.NoMemory) e m = tt
then_moves view r q old mid new (Err (stops.Unexpected left)) e m = e ∙ m
then_moves view r q old mid new (Err (stops.Sunk left)) e m = e ∙ m
then_moves view r q old mid new (Err (stops.Over kind left)) e m = e ∙ m

-- what is made of two parts, of which the first is read
made_bind : {A X B : Type 0} (f : A → X → B) (a : A) (o : Reading X) → ((o >>= λ b. got {A = A × X} (a, b.tree) b.count b.rest) >>= λ g. got (f g.tree.0 g.tree.1) g.count g.rest) ≡ (o >>= λ b. got (f a b.tree) b.count b.rest)
made_bind f a (Ok x) = refl
made_bind f a (Err e) = refl

made_behind : {A X B : Type 0} (f : A → X → B) (r : Reads A) (q : Reads X) (c : ℕ) (ts : List Terminal) (a : A) (d : ℕ) (us : List Terminal) → r c ts ≡ got a d us → made (λ (a, x). f a x) (r & q) c ts ≡ made (f a) q d us
made_behind f r q c ts a d us p = rw p (made_bind f a (q d us))

pub struct_moves : (b : Bool) (room deeper : ℕ) (inner : Level) (old mid new : Parser) (place : ℕ) (result : Result CodeSpec Stop) → peek spec_start old.count old.rest.now ≡ got StructWord old.count old.rest.now → tok room (word_place Struct) old.count old.rest.now ≡ got place mid.count mid.rest.now
    → Moves spec_view (made (struct_by place) (tagged b room (members deeper inner))) mid new result → Moves spec_view (spec b room deeper inner) old new result
unfolding spec
struct_moves b room deeper inner old mid new place result p q m =
    then_moves spec_view (spec b room deeper inner) (made (struct_by place) (tagged b room (members deeper inner))) old mid new result
    (chooses spec_start (spec_by b room deeper inner) old.count old.rest.now StructWord p ∙ made_behind struct_by (tok room (word_place Struct)) (tagged b room (members deeper inner)) old.count old.rest.now place mid.count mid.rest.now q) m

pub enum_moves : (b : Bool) (room deeper : ℕ) (inner : Level) (old mid new : Parser) (place : ℕ) (result : Result CodeSpec Stop) → peek spec_start old.count old.rest.now ≡ got EnumWord old.count old.rest.now → tok room (word_place Enum) old.count old.rest.now ≡ got place mid.count mid.rest.now
    → Moves spec_view (made (enum_by place) (tagged b room (enumerators deeper inner))) mid new result → Moves spec_view (spec b room deeper inner) old new result
unfolding spec
enum_moves b room deeper inner old mid new place result p q m =
    then_moves spec_view (spec b room deeper inner) (made (enum_by place) (tagged b room (enumerators deeper inner))) old mid new result
    (chooses spec_start (spec_by b room deeper inner) old.count old.rest.now EnumWord p ∙ made_behind enum_by (tok room (word_place Enum)) (tagged b room (enumerators deeper inner)) old.count old.rest.now place mid.count mid.rest.now q) m

pub group_reads : (room deeper : ℕ) (inner : Level) (c : ℕ) (ts : List Terminal) (e : Expr) (d : ℕ) (us : List Terminal) (f : ℕ) (vs : List Terminal) (first : Expr) → inner.expr c ts ≡ got e d us → tok deeper (mark_is CloseParen) d us ≡ got tt f vs → first ≡ group e
    → group_rest room deeper inner c ts ≡ links (λ _. begins_post) (λ _. post room deeper inner) posted first f vs
unfolding group_rest
group_reads room deeper inner c ts e d us f vs first p q h = rw (p, q, h) refl

pub ladder_at : (room : ℕ) (operand : Reads Expr) (h : ℕ) → 0 < h
    → ladder room operand h ≡ chain (ladder room operand (h - 1)) (is_binary (h - 1)) (λ _. counted_tok room (binary_of (h - 1)) & ladder room operand (h - 1)) (λ a ((place, op), b). binary place op a b)
unfolding ladder
ladder_at room operand zero h = absurd (omega arith)
ladder_at room operand (suc h) k = let e : suc h - 1 ≡ h = omega arith in rw e refl

pub ladder_begins : (room : ℕ) (operand : Reads Expr) (h : ℕ) → 0 < h → (c : ℕ) (ts : List Terminal) (a : Expr) (d : ℕ) (us : List Terminal) → ladder room operand (h - 1) c ts ≡ got a d us
    → Going (λ _. is_binary (h - 1)) (λ _. counted_tok room (binary_of (h - 1)) & ladder room operand (h - 1)) (λ a ((place, op), b). binary place op a b) (ladder room operand h c ts) a d us
ladder_begins room operand h k c ts a d us p =
    let P : Reads Expr → Type 0 = λ r. Going (λ _. is_binary (h - 1)) (λ _. counted_tok room (binary_of (h - 1)) & ladder room operand (h - 1)) (λ a ((place, op), b). binary place op a b) (r c ts) a d us in
    subst P (sym (ladder_at room operand h k)) (begins_behind (ladder room operand (h - 1)) (λ _. is_binary (h - 1)) (λ _. counted_tok room (binary_of (h - 1)) & ladder room operand (h - 1)) (λ a ((place, op), b). binary place op a b) c ts a d us p)

pub declared_reads : (k : Naming) (room deeper : ℕ) (inner : Level) (c : ℕ) (ts : List Terminal) (ps : List Pointer) (d : ℕ) (us : List Terminal) (x : Declarator) (e : ℕ) (vs : List Terminal) → pointers room c ts ≡ got ps d us → declarator_behind k room deeper inner ps d us ≡ got x e vs
    → declared k room deeper inner c ts ≡ got x e vs
unfolding declared
declared_reads k room deeper inner c ts ps d us x e vs p q = behind_reads (pointers room) (declarator_behind k room deeper inner) c ts ps d us x e vs p q

pub bare_declared_reads : (k : Naming) (room deeper : ℕ) (inner : Level) (c : ℕ) (ts : List Terminal) (ps : List Pointer) (d : ℕ) (us : List Terminal) (x : Declarator) (e : ℕ) (vs : List Terminal) → bare_pointers room c ts ≡ got ps d us → declarator_behind k room deeper inner ps d us ≡ got x e vs
    → bare_declared k room deeper inner c ts ≡ got x e vs
unfolding bare_declared
bare_declared_reads k room deeper inner c ts ps d us x e vs p q = behind_reads (bare_pointers room) (declarator_behind k room deeper inner) c ts ps d us x e vs p q

pub type_name_reads : (b : Bool) (room : ℕ) → 0 < room → (c : ℕ) (ts : List Terminal) (ss : List Spec) (d : ℕ) (us : List Terminal) (ps : List Pointer) (e : ℕ) (vs : List Terminal) → specs b room (room - 1) (level_at b (room - 1)) c ts ≡ got ss d us → bare_pointers room d us ≡ got ps e vs
    → (level_at b room).type_name c ts ≡ got (type_name (specs_of ss) ps) e vs
unfolding type_named
type_name_reads b room h c ts ss d us ps e vs p q = ap (λ (r : Reads TypeName). r c ts) (type_name_at b room h) ∙ rw (p, q) refl

pub member_reads : (b : Bool) (room : ℕ) → 0 < room → (c : ℕ) (ts : List Terminal) (ss : List Spec) (d : ℕ) (us : List Terminal) (ds : List Declarator) (e : ℕ) (vs : List Terminal)
    → specs true room (room - 1) (level_at b (room - 1)) c ts ≡ got ss d us → any_declared room (room - 1) (level_at b (room - 1)) (typed false ss) d us ≡ got (ds, tt) e vs
    → (level_at b room).member c ts ≡ got (members_of (specs_of ss) (declarators_of ds)) e vs
unfolding membered
member_reads b room h c ts ss d us ds e vs p q = ap (λ (r : Reads Member). r c ts) (member_at b room h) ∙ rw (p, q) refl

pub specs_begins : (b : Bool) (room deeper : ℕ) (inner : Level) (c : ℕ) (ts : List Terminal) (s : Spec) (d : ℕ) (us : List Terminal) → spec_behind b room deeper inner false c ts ≡ got s d us
    → Going (λ front. begins_spec (typed false front)) (λ front. spec_behind b room deeper inner (typed false front)) pushed (specs b room deeper inner c ts) (s ∷ []) d us
unfolding specs
specs_begins b room deeper inner c ts s d us p = begins_behind (made (λ a. a ∷ []) (spec_behind b room deeper inner false)) (λ front. begins_spec (typed false front)) (λ front. spec_behind b room deeper inner (typed false front)) pushed c ts (s ∷ []) d us (rw p refl)

pub exprs_begin : (deeper : ℕ) (inner : Level) (c : ℕ) (ts : List Terminal) (e : Expr) (d : ℕ) (us : List Terminal) → ahead begins_expr c ts ≡ got true c ts → inner.expr c ts ≡ got e d us
    → Going (λ _. is_mark Comma) (λ _. made (λ (_, a). a) (tok deeper (mark_is Comma) & inner.expr)) pushed (either begins_expr (commas deeper inner.expr inner.expr) (nothing []) c ts) (e ∷ []) d us
exprs_begin deeper inner c ts e d us o p =
    let P : Reading (List Expr) → Type 0 = λ whole. Going (λ _. is_mark Comma) (λ _. made (λ (_, a). a) (tok deeper (mark_is Comma) & inner.expr)) pushed whole (e ∷ []) d us in
    subst P (sym (chooses (λ s. Some (begins_expr s)) (either_by (commas deeper inner.expr inner.expr) (nothing [])) c ts true o))
    (begins_behind (made (λ a. a ∷ []) inner.expr) (λ _. is_mark Comma) (λ _. made (λ (_, a). a) (tok deeper (mark_is Comma) & inner.expr)) pushed c ts (e ∷ []) d us (rw p refl))

-- a type behind sizeof, without its closing bracket
pub sized_stops : (b : Bool) (room : ℕ) → 0 < room → (c : ℕ) (ts : List Terminal) (d : ℕ) (us : List Terminal) (t : TypeName) (f : ℕ) (vs : List Terminal) (e : Stop) → ahead (is_mark OpenParen) c ts ≡ got true c ts → tok (room - 1) (mark_is OpenParen) c ts ≡ got tt d us
    → ahead begins_type d us ≡ got true d us → (level_at b (room - 1)).type_name d us ≡ got t f vs → Fails e (tok (room - 1) (mark_is CloseParen) f vs) → Fails e ((level_at b room).sized c ts)
unfolding sized
sized_stops b room h c ts d us t f vs e open_ p type_ q stopped =
    let inner = level_at b (room - 1) in
    let bracket = tok (room - 1) (mark_is OpenParen) in
    let close = tok (room - 1) (mark_is CloseParen) in
    let types = made (λ (x, _). a_type x) (inner.type_name & close) in
    let groups = made an_expr (group_rest room (room - 1) inner) in
    let rest = either begins_type types groups in
    let here = chosen_stops (λ s. Some (begins_type s)) (either_by types groups) d us true e type_ (made_stops (λ (x, _). a_type x) (inner.type_name & close) d us e (second_stops inner.type_name close d us t f vs e q stopped)) in
    subst (λ (r : Reads Sized). Fails e (r c ts)) (sym (sized_at b room h))
    (chosen_stops (λ s. Some (is_mark OpenParen s)) (either_by (made (λ (_, s). s) (bracket & rest)) (made an_expr (unary room (room - 1) inner))) c ts true e open_ (behind_stops bracket (λ _. rest) c ts tt d us e p here))
