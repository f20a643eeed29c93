-- What the braces of enums, and of structs without a tag, tell; and enumerators, one more behind the others.
use Rattle.std.proofs.Common.{◌≡◌, ℕ, ◌+◌, ◌<◌, ◌≤◌, false, List, [], ◌∷◌, ◌++◌, map, take, length, get_or, Result, Ok, Err, refl, ap, sym, subst, ◌∙◌}
use Rattle.std.proofs.lemmas.List.{map_more, take_all}
use Rattle.std.specs.Prelude.{ℤ, pos, ◌+ℤ◌}
use Rattle.c_lex.specs.declared.refusal.CompileFault.{CompileFault}
use Rattle.c_lex.specs.declared.refusal.CompileFault.TheVariants.{Refused, NoMemory}
use Rattle.c_tree.specs.declared.syntax.Name.{Name}
use Rattle.c_tree.specs.declared.syntax.Enumerator.{Enumerator as CodeEnumerator}
use Rattle.c_tree.specs.Syntax as source
use Rattle.c_tree.specs.SyntaxViews.{enumerator_view}
use Rattle.c_tree.specs.Typed.{Ty}
use Rattle.c_typing.specs.Faults.{Judged, typed, Gives, both, ◌>>=◌}
use Rattle.c_typing.specs.Scope.{Context, with_enum, with_listed, with_new_struct, with_begun}
use Rattle.c_typing.specs.Judgement.{Judging, Part, or_zero, enum_opened, enum_braced, braces_fit, closing, braced_alone, judged_enumerator, judged_enumerators}
use Rattle.type_context.specs.declared.context.Context.{Context as CodeContext}
use Rattle.type_context.specs.ContextViews.{context_view}
use Rattle.type_context.specs.inner.Outcomes.{joined}
use Rattle.type_context.specs.Telling.{Tells, lacks_memory}
use Rattle.type_context.proofs.Walks.{joined_keeps}
use Rattle.type_rules.specs.declared.specifiers.Part.{Part as CodePart}
use Rattle.type_rules.specs.SpecifierViews.{part_view}
use Rattle.type_nodes.specs.Nodes.{Finishes}
use Rattle.type_nodes.specs.inner.Members.{enum_part}
use Rattle.type_nodes.proofs.Telling.{finishes}
use Rattle.type_nodes.proofs.EnumRows.{Behind, one_behind, all_behind, none_behind, enumerators_are, behind_last, one_tells}
use Rattle.c_types.proofs.StatementNodes.{left_known}

-- ---- braces

pub enum_tells : (t : Name) (list : Judging (Unit {0})) (c : Context) (m o p : CodeContext) (f l : Result (Unit {0}) CompileFault) (r : Result CodePart CompileFault)
    → context_view m ≡ with_enum c t → Gives (λ _. tt) f (enum_opened c t) → Tells (λ _. tt) l o (list (context_view m))
    → ((j : Judged (Unit {0})) (q : Judged (Unit {0}) × Context) → Gives (λ _. tt) f j → Tells (λ _. tt) l o q → Tells part_view r p (enum_part (both j q.0), with_listed q.1 t))
    → Tells part_view r p (enum_braced t list c)
enum_tells t list c m o p f l r is g h closed =
    closed (enum_opened c t) (list (with_enum c t)) g (subst (λ (d : Context). Tells (λ (u : Unit {0}). tt) l o (list d)) is h)

pub alone_tells : {A : Type 0} (place : ℕ) (M : Judging (List (List ℕ × Ty))) (c : Context) (n o p : CodeContext) (number : ℕ) (fine : Result (Unit {0}) CompileFault) (v : A → Part) (r : Result A CompileFault)
    → context_view n ≡ with_new_struct c [] → number ≡ length c.structs → context_view o ≡ with_begun (context_view n) number → Gives (λ _. tt) fine (braces_fit (context_view n) place)
    → ((j : Judged (Unit {0})) → Gives (λ _. tt) fine j → Tells v r p (closing place number j false M (context_view o)))
    → Tells v r p (braced_alone place M c)
alone_tells place M c n o p number fine v r is_n is_number is_o fits told =
    let at_o = told (braces_fit (context_view n) place) fits in
    let at_n = subst (λ (d : Context). Tells v r p (closing place number (braces_fit (context_view n) place) false M d)) is_o at_o in
    let at_c = subst (λ (d : Context). Tells v r p (closing place number (braces_fit d place) false M (with_begun d number))) is_n at_n in
    let d = with_new_struct c [] in
    subst (λ (i : ℕ). Tells v r p (closing place i (braces_fit d place) false M (with_begun d i))) is_number at_c

-- ---- enumerators

-- what is known of the enumerators before the index
pub record Counted (es : List source.Enumerator) (c : Context) (all : Result (Unit {0}) CompileFault) (value : ℤ) (n : CodeContext) : Type 0 where
  pub told : Tells (λ (u : Unit {0}). u) all n ((all_behind (none_behind (pos 0) c) es).fine, (all_behind (none_behind (pos 0) c) es).left)
  pub next : lacks_memory all ≡ false → value ≡ (all_behind (none_behind (pos 0) c) es).next

pub counted_none : (n : CodeContext) → Counted [] (context_view n) (Ok tt) (pos 0) n
counted_none n = record { told = record { gives = refl; leaves = refl }; next = λ known. refl }

keeps : {A B : Type 0} (q : Result A CompileFault) (r : Result B CompileFault) (view : B → Unit {0}) (rule : A → Judged (Unit {0})) → Finishes view q rule r → lacks_memory r ≡ false → lacks_memory q ≡ false
keeps (Ok x) r view rule f h = refl
keeps (Err (Refused s)) r view rule f h = refl
keeps {B = B} (Err NoMemory) r view rule f h = subst (λ (q : Result B CompileFault). lacks_memory q ≡ false) f h

pub counted_more : (xs : List CodeEnumerator) (i : ℕ) (e : CodeEnumerator) (c : Context) (all : Result (Unit {0}) CompileFault) (next after : ℤ) (n m : CodeContext) (v : Result ℤ CompileFault) (r : Result (Unit {0}) CompileFault)
    → i < length xs → e ≡ get_or xs i e → Counted (map enumerator_view (take i xs)) c all next n
    → Tells (λ (z : ℤ). z) v m (judged_enumerator next (enumerator_view e) (context_view n))
    → ((j : Judged ℤ) → Gives (λ (z : ℤ). z) v j → after ≡ or_zero j +ℤ pos 1)
    → Finishes (λ (u : Unit {0}). u) (joined all v) (λ p. typed tt) r
    → Counted (map enumerator_view (take (i + 1) xs)) c r after m
counted_more xs i e c all next after n m v r h is before told value fin =
    let es = map enumerator_view (take i xs) in
    let b = all_behind (none_behind (pos 0) c) es in
    let y = enumerator_view e in
    let x = judged_enumerator b.next y b.left in
    let taken : map enumerator_view (take (i + 1) xs) ≡ es ++ y ∷ [] = map_more enumerator_view xs i e h ∙ ap (λ z. es ++ enumerator_view z ∷ []) (sym is) in
    let two = one_tells b y c n m all v next before.told before.next (λ fine. told) in
    let one : Tells (λ (u : Unit {0}). u) r m ((one_behind b y).fine, (one_behind b y).left) =
    finishes (λ (p : Unit {0} × ℤ). (p.0, p.1)) (λ (u : Unit {0}). u) (λ d. (both b.fine x.0, x.1)) (λ d p. typed tt) c m (joined all v) r two fin in
    let last = behind_last (none_behind (pos 0) c) es y in
    subst (λ l. Counted l c r after m) (sym taken) (record {
      told = subst (λ (q : Behind). Tells (λ (u : Unit {0}). u) r m (q.fine, q.left)) (sym last) one;
      next = λ known.
          let fine = (joined_keeps all v (keeps (joined all v) r (λ (u : Unit {0}). u) (λ p. typed tt) fin known)).0 in
          value (judged_enumerator next y (context_view n)).0 told.gives
          ∙ ap (λ (z : ℤ). or_zero (judged_enumerator z y (context_view n)).0 +ℤ pos 1) (before.next fine)
          ∙ ap (λ (d : Context). or_zero (judged_enumerator b.next y d).0 +ℤ pos 1) (left_known all n b.left before.told.leaves fine)
          ∙ sym (ap (λ (q : Behind). q.next) last);
    })

-- the same by another name
pub counted_as : (es : List source.Enumerator) (c : Context) (all : Result (Unit {0}) CompileFault) (value next : ℤ) (n : CodeContext) → next ≡ value → Counted es c all value n → Counted es c all next n
counted_as es c all value next n is w = subst (λ (z : ℤ). Counted es c all z n) (sym is) w

pub counted_all : (xs : List CodeEnumerator) (i : ℕ) (c : Context) (all : Result (Unit {0}) CompileFault) (next : ℤ) (n : CodeContext)
    → length xs ≤ i → Counted (map enumerator_view (take i xs)) c all next n → Tells (λ (u : Unit {0}). u) all n (judged_enumerators (pos 0) (source.enumerators_of (map enumerator_view xs)) c)
counted_all xs i c all next n h w =
    subst (λ (l : List CodeEnumerator). Tells (λ (u : Unit {0}). u) all n (judged_enumerators (pos 0) (source.enumerators_of (map enumerator_view l)) c)) (take_all i xs h)
    (subst (λ p. Tells (λ (u : Unit {0}). u) all n p) (enumerators_are (pos 0) (map enumerator_view (take i xs)) c) w.told)
