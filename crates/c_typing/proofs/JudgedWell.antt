-- Expressions, types and declarators, judged where they stand, are well formed.
use Rattle.std.proofs.Common.{◌≡◌, ℕ, suc, ◌+◌, ◌<◌, ◌≤◌, ◌⊎◌, inl, inr, Bool, true, false, ◌&&◌, refl, sym, ap, subst, arith, List, [], ◌∷◌, ◌++◌, length, Option, Some, None, ℤ, pos, ◌+ℤ◌, slice_get, if◌then◌else◌}
use Rattle.std.proofs.lemmas.List.{length-append}
use Rattle.ak_words.specs.IntType.{int, is_held, IsInRange}
use Rattle.ak_words.proofs.Types.{is_held-IsInRange}
use Rattle.c_lex.specs.declared.refusal.Kind.{Kind}
use Rattle.c_lex.specs.declared.refusal.Kind.TheVariants.{UnknownName, DoubleName, TypeMismatch, NotAnLvalue, OutsideSubset}
use Rattle.c_tree.specs.declared.syntax.Name.{Name}
use Rattle.c_tree.specs.declared.syntax.Span.{Span}
use Rattle.c_tree.specs.declared.syntax.Pointer.{Pointer}
use Rattle.c_tree.specs.declared.syntax.PrefixOp.{PrefixOp}
use Rattle.c_tree.specs.declared.syntax.PrefixOp.TheVariants as prefixes
use Rattle.c_tree.specs.declared.syntax.BinaryOp.{BinaryOp}
use Rattle.c_tree.specs.declared.syntax.BinaryOp.TheVariants as binaries
use Rattle.c_tree.specs.Syntax as source
use Rattle.c_tree.specs.Typed.{Ty, void, integer, atomic, mutex, pointer, array, structure, Layout, Piece, Expr, at, num, null, literal, global, local, deref, member, address_of, and_also, or_else, type_of, node_of}
use Rattle.c_tree.specs.TypedForm.{IsMember, IsLvalue, IsInMemory, Signature}
use Rattle.c_tree.specs.TypedForm as form
use Rattle.c_typing.specs.Faults.{Judged, typed, faulty, refuse, both, ◌>>=◌}
use Rattle.c_typing.specs.Types.{same_type, same_types, behind_pointers}
use Rattle.c_typing.specs.Scope.{Library, printf, malloc, calloc, realloc, free, memcpy, thrd_create, thrd_join, mtx_init, mtx_lock, mtx_unlock, mtx_destroy, atomic_store, atomic_load, atomic_add, atomic_sub, atomic_swap, atomic_compare, constant, atomic_type}
use Rattle.c_typing.specs.Scope.{Binding, global_name, local_name, function_name, enumerator_name, type_name, library_name, Context, bytes_of, meaning_of, is_struct_tag, tag_number, with_tag, is_listed, with_enum, with_listed, with_enumerator, member_typed, member_numbered, member_in, member_of}
use Rattle.c_typing.specs.Rules.{value_of, tested, is_lvalue, target, address, member_found, selected_by, selected, pointed, minus_by, plus_by, not_by, complement_by, element, chosen, cast, size_number}
use Rattle.c_typing.specs.Constants.{constant_value}
use Rattle.c_typing.specs.Formats.{pieces_of}
use Rattle.c_typing.specs.Literals.{joined_bytes, place_of_parts}
use Rattle.c_typing.specs.Judgement.{Judging, lone, in_turn, ruled, named, name_in, text_in, node_place, with_addressed, meaning_in, valued, combined, addressing, prefixed, called, format_by, format_or, place_past, none_past, printed, starting_by, starting_or, started, called_library, no_call, called_by, Part, word, whole, specified, plain_type, is_no_enum, tagged, enum_tagged, enum_opened, enumerator_value, whole_value, enumerator_fine, or_zero, enumerated, and_behind, enum_braced, aliased, place_of_specs, specs_by, dimension, most_members, object_declared, fresh_member, object_by, member_by, names_in, names_of_member}
use Rattle.c_typing.specs.Judgement.{judged, judged_all, judged_print, judged_start, judged_started, judged_type, judged_parts, judged_spec, judged_enumerator, judged_enumerators, judged_members, judged_member, judged_declarators, judged_dims, judged_specs}
use Rattle.c_typing.proofs.Extending.{undeclared, extends_itself, extends_further, Ready, ready_kept}
use Rattle.c_typing.proofs.Elements.{nothing_at}
use Rattle.c_typing.proofs.Carried.{OnTyped, given, not_given, OnSome, on_bind, on_both, on_weaker, World, since, good_since, after_from, ruled_after, IsNamed, IsObject, Good, within_itself, Within, within_further, Over, After, Keeps, keeps_here, keeps_lone, keeps_in_turn, keeps_ruled}
use Rattle.c_typing.proofs.RuledWell.{Fine, NoLocal, Made, value_fine, an_object, IsAggregate, both_hold, Tested, tested_well, target_made, minus_made, plus_made, not_made, complement_made, operated_made, element_made, chosen_made, cast_made}
use Rattle.c_typing.proofs.CalledWell.{meaning_named, named_made, AreFine, called_made, library_made, printed_made, Starting, started_made}
use Rattle.c_typing.proofs.TypesWell.{same_type_is, same_types_are, ArePartsReady, specified_ready, behind_ready, plain_type_is, ArePositive, dimension_well, object_well, fresh_few, size_made}
use Rattle.c_typing.proofs.Own.{own, over_own}
use Rattle.c_typing.proofs.Shown.{named_kept, spelled_after, addressed_after, is_addressed, tag_after, enumerator_after, object_kept}
use Rattle.c_typing.proofs.Braced.{AreObjects, AreMembers, PartReady, braced_keeps, alone_keeps}
use Rattle.c_typing.proofs.Lengthened.{lengthens_itself}

-- of an expression that is a name, in brackets or not, or none
abbrev pub FineFor : Option Name → form.InScope → Expr → Type 0
FineFor None e x = Made e x
FineFor (Some n) e x = Fine e x

pub fine_of : (o : Option Name) (e : form.InScope) (x : Expr) → FineFor o e x → Fine e x
fine_of None e x h = h.0
fine_of (Some n) e x h = h

pub valued_keeps : (w : World) (o : Option Name) (j : Judging Expr) → Keeps w true j (FineFor o) → Keeps w true (valued j) Fine
valued_keeps w o j kj = keeps_ruled w true j (λ c x. typed (value_of x)) (FineFor o) Fine kj (λ d e x g v h. value_fine e v.sound x (fine_of o e x h))

-- ---- &

in_memory : (e : form.InScope) (x : Expr) → is_lvalue (node_of x) ≡ true → NoLocal x → IsInMemory e (node_of x)
in_memory e (at place ty (literal n)) h k = tt
in_memory e (at place ty (global n)) h k = tt
in_memory e (at place ty (local n)) h k = absurd k
in_memory e (at place ty (deref x)) h k = tt
in_memory e (at place ty (member x m)) h k = tt
in_memory e (at place ty _) h k = absurd cc

address_made : (e : form.InScope) (place : ℕ) (x : Expr) → Made e x → OnTyped (Made e) (address place x)
address_made e place x h = by (is_lvalue (node_of x)) refl
  where
    by : (b : Bool) → is_lvalue (node_of x) ≡ b → OnTyped (Made e) (if b then typed (at place (pointer (type_of x)) (address_of x)) else refuse place NotAnLvalue)
    by true k = (((h.0.0, in_memory e x k h.1, refl), h.0.1), tt)
    by false k = tt

addressed_name : (w : World) (c : Context) → Good w c → (place from : ℕ) (o : Option Binding) → OnSome (IsNamed w c) o
    → OnTyped (λ x. After w true c (with_addressed c o) (λ e. Made e x)) (named from o >>= address place)
addressed_name w c g place from None h = tt
addressed_name w c g place from (Some (global_name n t)) h =
    record { good = g; within = within_itself true c; fine = λ e v. (((v.globals n t h, tt, refl), v.sound.globals n t (v.globals n t h)), tt) }
addressed_name w c g place from (Some (local_name n t)) h =
    let a = addressed_after w c g (Some (local_name n t)) in
    record {
      good = a.0;
      within = a.1;
      fine = λ e v.
          let k = v.locals n t h in
          (((k, (k.0, k.1, v.addressed n k.0 (is_addressed c n t) k.1), refl), subst (Ready e.structs) k.2 (v.sound.locals n k.0 k.1)), tt);
    }
addressed_name w c g place from (Some (function_name n ps r)) h = tt
addressed_name w c g place from (Some (enumerator_name value)) h = tt
addressed_name w c g place from (Some (type_name t)) h = tt
addressed_name w c g place from (Some (library_name (constant value))) h = tt
addressed_name w c g place from (Some (library_name printf)) h = tt
addressed_name w c g place from (Some (library_name malloc)) h = tt
addressed_name w c g place from (Some (library_name calloc)) h = tt
addressed_name w c g place from (Some (library_name realloc)) h = tt
addressed_name w c g place from (Some (library_name free)) h = tt
addressed_name w c g place from (Some (library_name memcpy)) h = tt
addressed_name w c g place from (Some (library_name thrd_create)) h = tt
addressed_name w c g place from (Some (library_name thrd_join)) h = tt
addressed_name w c g place from (Some (library_name mtx_init)) h = tt
addressed_name w c g place from (Some (library_name mtx_lock)) h = tt
addressed_name w c g place from (Some (library_name mtx_unlock)) h = tt
addressed_name w c g place from (Some (library_name mtx_destroy)) h = tt
addressed_name w c g place from (Some (library_name atomic_store)) h = tt
addressed_name w c g place from (Some (library_name atomic_load)) h = tt
addressed_name w c g place from (Some (library_name atomic_add)) h = tt
addressed_name w c g place from (Some (library_name atomic_sub)) h = tt
addressed_name w c g place from (Some (library_name atomic_swap)) h = tt
addressed_name w c g place from (Some (library_name atomic_compare)) h = tt
addressed_name w c g place from (Some (library_name (atomic_type t))) h = tt

-- where an expression is a name, it is judged as one
abbrev IsName : Option Name → Judging Expr → Type 0
IsName o j = (m : Name) → o ≡ Some m → (c : Context) → j c ≡ (named m.from (meaning_of c m), c)

addressing_keeps : (w : World) (place : ℕ) (o : Option Name) (j : Judging Expr) → Keeps w true j (FineFor o) → IsName o j → Keeps w true (addressing place o j) Made
addressing_keeps w place None j kj f = keeps_ruled w true j (λ c x. address place x) Made Made kj (λ d e x g v h. address_made e place x h)
addressing_keeps w place (Some m) j kj f = record {
  keeps = λ c g.
      subst (λ (r : Judged Expr × Context). OnTyped (λ x. After w true c (with_addressed r.1 (meaning_of r.1 m)) (λ e. Made e x)) (r.0 >>= address place)) (sym (f m refl c))
      (addressed_name w c g place m.from (meaning_of c m) (meaning_named w c g m));
}

prefixed_keeps : (w : World) (place : ℕ) (op : PrefixOp) (o : Option Name) (j : Judging Expr) → Keeps w true j (FineFor o) → IsName o j → Keeps w true (prefixed place op o j) Made
prefixed_keeps w place prefixes.Minus o j kj f = keeps_ruled w true (valued j) (λ c x. minus_by place (type_of x) x) Fine Made (valued_keeps w o j kj) (λ d e x g v h. minus_made e place x h.0)
prefixed_keeps w place prefixes.Plus o j kj f = keeps_ruled w true (valued j) (λ c x. plus_by place (type_of x) x) Fine Made (valued_keeps w o j kj) (λ d e x g v h. plus_made e place x h.0)
prefixed_keeps w place prefixes.Not o j kj f = keeps_ruled w true (valued j) (λ c x. not_by place (type_of x) x) Fine Made (valued_keeps w o j kj) (λ d e x g v h. not_made e place x h.0)
prefixed_keeps w place prefixes.Complement o j kj f = keeps_ruled w true (valued j) (λ c x. complement_by place (type_of x) x) Fine Made (valued_keeps w o j kj) (λ d e x g v h. complement_made e place x h.0)
prefixed_keeps w place prefixes.Deref o j kj f = keeps_ruled w true (valued j) (λ c x. target place x) Fine Made (valued_keeps w o j kj) (λ d e x g v h. target_made e v.sound place x h)
prefixed_keeps w place prefixes.AddressOf o j kj f = addressing_keeps w place o j kj f

-- ---- members

abbrev Found : List Layout → ℕ → (ℕ × Ty) → Type 0
Found s n p = (l : Layout) × (slice_get s n ≡ Some l) × (slice_get l.types p.0 ≡ Some p.1)

found_at : (s : List Layout) (n : ℕ) (o : Option ℕ) → OnSome (Found s n) (member_numbered (slice_get s n) o)
found_at s n o = by (slice_get s n) refl o
  where
    there : (l : Layout) (m : ℕ) → slice_get s n ≡ Some l → (t : Option Ty) → slice_get l.types m ≡ t → OnSome (Found s n) (member_typed m t)
    there l m h None k = tt
    there l m h (Some t) k = (l, h, k)

    by : (r : Option Layout) → slice_get s n ≡ r → (o : Option ℕ) → OnSome (Found s n) (member_numbered r o)
    by None h o = tt
    by (Some l) h None = tt
    by (Some l) h (Some m) = there l m h (slice_get l.types m) refl

member_kept : (w : World) (d : Context) (e : form.InScope) → Over w d e → (n : ℕ) (p : ℕ × Ty) → Found d.structs n p → Found e.structs n p
member_kept w d e v n p f = (f.0, by (v.structs n f.0 f.1), f.2)
  where
    by : (slice_get e.structs n ≡ Some f.0) ⊎ (f.0 ≡ undeclared) → slice_get e.structs n ≡ Some f.0
    by (inl h) = h
    by (inr u) = absurd (nothing_at p.0 p.1 (subst (λ (l : Layout). slice_get l.types p.0 ≡ Some p.1) u f.2))

selected_well : (w : World) (d : Context) (e : form.InScope) → Over w d e → (place : ℕ) (s : Ty) (x : Expr) → Fine e x → type_of x ≡ s → (m : Name) → OnTyped (Made e) (selected_by d place s x m)
selected_well w d e v place (structure n) x h k m = by (member_of d n m) (found_at d.structs n (member_in (slice_get d.members n) (bytes_of d.text m)))
  where
    by : (o : Option (ℕ × Ty)) → OnSome (Found d.structs n) o → OnTyped (Made e) (member_found place x o)
    by None f = tt
    by (Some (i, t)) f =
        let r = member_kept w d e v n (i, t) f in
        let o : IsLvalue (node_of x) = (an_object e v.sound x h.0 (subst IsAggregate (sym k) tt)).0 in
        (((h.0, o, subst (λ u. IsMember e.structs u i t) (sym k) (r.0, r.1, r.2)), v.sound.members n r.0 r.1 i t r.2), tt)
selected_well w d e v place void x h k m = tt
selected_well w d e v place (integer t) x h k m = tt
selected_well w d e v place (atomic t) x h k m = tt
selected_well w d e v place mutex x h k m = tt
selected_well w d e v place (pointer t) x h k m = tt
selected_well w d e v place (array t i) x h k m = tt

selected_made : (w : World) (d : Context) (e : form.InScope) → Over w d e → (place : ℕ) (x : Expr) → Fine e x → (m : Name) → OnTyped (Made e) (selected d place x m)
selected_made w d e v place x h m = selected_well w d e v place (type_of x) x h refl m

pointed_made : (w : World) (d : Context) (e : form.InScope) → Over w d e → (place : ℕ) (x : Expr) → Fine e x → (m : Name) → OnTyped (Made e) (pointed d place x m)
pointed_made w d e v place x h m = on_bind (Made e) (Made e) (target place x) (λ y. selected d place y m) (target_made e v.sound place x h) (λ y k. selected_made w d e v place y k.0 m)

-- ---- two values

pair_keeps : (w : World) (n m : Option Name) (a b : Judging Expr) → Keeps w true a (FineFor n) → Keeps w true b (FineFor m) → Keeps w true (in_turn (valued a) (valued b)) (λ e p. Fine e p.0 × Fine e p.1)
pair_keeps w n m a b ka kb = keeps_in_turn w true (valued a) (valued b) Fine Fine (valued_keeps w n a ka) (valued_keeps w m b kb)

conditions : (e : form.InScope) (place : ℕ) (a b : Expr) → Fine e a → Fine e b → OnTyped (λ (p : Expr × Expr). Tested e p.0 × Tested e p.1) (both (tested place a) (tested place b))
conditions e place a b h k = on_both (Tested e) (Tested e) (tested place a) (tested place b) (tested_well e place a h.0) (tested_well e place b k.0)

combined_made : (w : World) (d : Context) (e : form.InScope) → Over w d e → (place : ℕ) (op : BinaryOp) (a b : Expr) → Fine e a → Fine e b → OnTyped (Made e) (combined d place op a b)
combined_made w d e v place (binaries.Value op) a b h k = operated_made w d e v place op a b h k
combined_made w d e v place binaries.AndAnd a b h k =
    on_bind (λ (p : Expr × Expr). Tested e p.0 × Tested e p.1) (Made e) (both (tested place a) (tested place b)) (λ p. typed (at place (integer int) (and_also p.0 p.1))) (conditions e place a b h k)
    (λ p t. (((t.0.0, t.1.0, t.0.1, t.1.1, refl), tt), tt))
combined_made w d e v place binaries.OrOr a b h k =
    on_bind (λ (p : Expr × Expr). Tested e p.0 × Tested e p.1) (Made e) (both (tested place a) (tested place b)) (λ p. typed (at place (integer int) (or_else p.0 p.1))) (conditions e place a b h k)
    (λ p t. (((t.0.0, t.1.0, t.0.1, t.1.1, refl), tt), tt))

chosen_by_test : (e : form.InScope) (place : ℕ) (x a b : Expr) → Fine e x → Fine e a → Fine e b → OnTyped (Made e) (tested place x >>= λ t. chosen place t a b)
chosen_by_test e place x a b h k l = on_bind (Tested e) (Made e) (tested place x) (λ t. chosen place t a b) (tested_well e place x h.0) (λ t r. chosen_made e place t a b r k l)

-- ---- calls

any : {A : Type 0} (j : Judged A) → OnTyped (λ x. Unit {0}) j
any (typed x) = tt
any (faulty r rs) = tt

no_call_keeps : (w : World) (place : ℕ) (kind : Kind) (args : Judging (List Expr)) → Keeps w true args AreFine → Keeps w true (no_call place kind args) Made
no_call_keeps w place kind args ka =
    keeps_ruled w true (in_turn (lone (refuse {A = Unit {0}} place kind)) args) (λ c p. refuse place kind) (λ e p. Unit {0} × AreFine e p.1) Made
    (keeps_in_turn w true (lone (refuse {A = Unit {0}} place kind)) args (λ e u. Unit {0}) AreFine (keeps_lone w true (refuse {A = Unit {0}} place kind) (λ e u. Unit {0}) (λ e. tt)) ka)
    (λ d e p g v h. tt)

function_after : (w : World) (c : Context) → Good w c → (place n : ℕ) (params : List Ty) (result : Ty) (args : Judging (List Expr)) → IsNamed w c (function_name n params result) → Keeps w true args AreFine
    → OnTyped (λ x. After w true c (ruled args (λ d es. called place n params result es) c).1 (λ e. Made e x)) (ruled args (λ d es. called place n params result es) c).0
function_after w c g place n params result args f ka = ruled_after w true c args (λ d es. called place n params result es) AreFine Made g ka
    (λ d e es v k o h. called_made e place n params result es (ready_kept c.structs e.structs (extends_further c.structs d.structs e.structs v.0.structs o.structs) result f.1)
    (subst (λ (fs : List Signature). slice_get fs n ≡ Some (record { params = params; result = result })) (sym o.funcs) f.0) h)

library_keeps : (w : World) (place : ℕ) (which : Library) (args : Judging (List Expr)) → Keeps w true args AreFine → Keeps w true (ruled args (λ c es. called_library place which es)) Made
library_keeps w place which args ka = keeps_ruled w true args (λ c es. called_library place which es) AreFine Made ka (λ d e es g v h. library_made e place which es h)

called_after : (w : World) (c : Context) → Good w c → (o : Option Binding) → OnSome (IsNamed w c) o → (place : ℕ) (args : Judging (List Expr)) (print start : Judging Expr)
    → Keeps w true args AreFine → Keeps w true print Made → Keeps w true start Made
    → OnTyped (λ x. After w true c (called_by o place args print start c).1 (λ e. Made e x)) (called_by o place args print start c).0
called_after w c g (Some (function_name n params result)) h place args print start ka kp ks = function_after w c g place n params result args h ka
called_after w c g (Some (library_name printf)) h place args print start ka kp ks = kp.keeps c g
called_after w c g (Some (library_name thrd_create)) h place args print start ka kp ks = ks.keeps c g
called_after w c g (Some (library_name malloc)) h place args print start ka kp ks = (library_keeps w place malloc args ka).keeps c g
called_after w c g (Some (library_name calloc)) h place args print start ka kp ks = (library_keeps w place calloc args ka).keeps c g
called_after w c g (Some (library_name realloc)) h place args print start ka kp ks = (library_keeps w place realloc args ka).keeps c g
called_after w c g (Some (library_name free)) h place args print start ka kp ks = (library_keeps w place free args ka).keeps c g
called_after w c g (Some (library_name memcpy)) h place args print start ka kp ks = (library_keeps w place memcpy args ka).keeps c g
called_after w c g (Some (library_name thrd_join)) h place args print start ka kp ks = (library_keeps w place thrd_join args ka).keeps c g
called_after w c g (Some (library_name mtx_init)) h place args print start ka kp ks = (library_keeps w place mtx_init args ka).keeps c g
called_after w c g (Some (library_name mtx_lock)) h place args print start ka kp ks = (library_keeps w place mtx_lock args ka).keeps c g
called_after w c g (Some (library_name mtx_unlock)) h place args print start ka kp ks = (library_keeps w place mtx_unlock args ka).keeps c g
called_after w c g (Some (library_name mtx_destroy)) h place args print start ka kp ks = (library_keeps w place mtx_destroy args ka).keeps c g
called_after w c g (Some (library_name atomic_store)) h place args print start ka kp ks = (library_keeps w place atomic_store args ka).keeps c g
called_after w c g (Some (library_name atomic_load)) h place args print start ka kp ks = (library_keeps w place atomic_load args ka).keeps c g
called_after w c g (Some (library_name atomic_add)) h place args print start ka kp ks = (library_keeps w place atomic_add args ka).keeps c g
called_after w c g (Some (library_name atomic_sub)) h place args print start ka kp ks = (library_keeps w place atomic_sub args ka).keeps c g
called_after w c g (Some (library_name atomic_swap)) h place args print start ka kp ks = (library_keeps w place atomic_swap args ka).keeps c g
called_after w c g (Some (library_name atomic_compare)) h place args print start ka kp ks = (library_keeps w place atomic_compare args ka).keeps c g
called_after w c g (Some (library_name (atomic_type t))) h place args print start ka kp ks = (library_keeps w place (atomic_type t) args ka).keeps c g
called_after w c g (Some (library_name (constant value))) h place args print start ka kp ks = (library_keeps w place (constant value) args ka).keeps c g
called_after w c g (Some (global_name n t)) h place args print start ka kp ks = (no_call_keeps w place TypeMismatch args ka).keeps c g
called_after w c g (Some (local_name n t)) h place args print start ka kp ks = (no_call_keeps w place TypeMismatch args ka).keeps c g
called_after w c g (Some (enumerator_name value)) h place args print start ka kp ks = (no_call_keeps w place TypeMismatch args ka).keeps c g
called_after w c g (Some (type_name t)) h place args print start ka kp ks = (no_call_keeps w place TypeMismatch args ka).keeps c g
called_after w c g None h place args print start ka kp ks = (no_call_keeps w place UnknownName args ka).keeps c g

format_keeps : (w : World) (o : Option (List Span)) (place : ℕ) (n : Option Name) (j : Judging Expr) → Keeps w true j (FineFor n) → Keeps w true (format_or o place j) (λ e pieces. Unit {0})
format_keeps w (Some parts) place n j kj = record { keeps = λ c g. keeps_here w true c (λ e pieces. Unit {0}) (format_by place (pieces_of (joined_bytes c.text parts))) g (λ e v. any (format_by place (pieces_of (joined_bytes c.text parts)))) }
format_keeps w None place n j kj = keeps_ruled w true j (λ d x. refuse place (OutsideSubset 15)) (FineFor n) (λ e pieces. Unit {0}) kj (λ d e x g v h. tt)

print_well : (w : World) (place : ℕ) (most : Judged (Unit {0})) (format : Judging (List Piece)) (rest : Judging (List Expr)) → Keeps w true format (λ e pieces. Unit {0}) → Keeps w true rest AreFine
    → Keeps w true (ruled (in_turn (lone most) (in_turn format rest)) (λ d p. printed place p.1)) Made
print_well w place most format rest kf kr =
    keeps_ruled w true (in_turn (lone most) (in_turn format rest)) (λ d p. printed place p.1) (λ e p. Unit {0} × (Unit {0} × AreFine e p.1.1)) Made
    (keeps_in_turn w true (lone most) (in_turn format rest) (λ e u. Unit {0}) (λ e p. Unit {0} × AreFine e p.1) (keeps_lone w true most (λ e u. Unit {0}) (λ e. any most)) (keeps_in_turn w true format rest (λ e p. Unit {0}) AreFine kf kr))
    (λ d e p g v h. printed_made e place p.1 h.1.1)

starting_well : (e : form.InScope) (n : ℕ) (params : List Ty) (result : Ty) (b : Bool) → (same_type result (integer int) && same_types params (pointer void ∷ [])) ≡ b → slice_get e.funcs n ≡ Some (record { params = params; result = result }) → Starting e (starting_by n b)
starting_well e n params result true h f =
    let p = both_hold (same_type result (integer int)) (same_types params (pointer void ∷ [])) h in
    (record { params = params; result = result }, f, (same_type_is result (integer int) p.0, same_types_are params (pointer void ∷ []) p.1))
starting_well e n params result false h f = tt

starting_keeps : (w : World) (c : Context) (o : Option Binding) → OnSome (IsNamed w c) o → (n : Option Name) (j : Judging Expr) → Keeps w true j (FineFor n) → Keeps w true (starting_or o j) Starting
starting_keeps w c (Some (function_name n params result)) h m j kj = record {
  keeps = λ d g. keeps_here w true d Starting (typed (starting_by n (same_type result (integer int) && same_types params (pointer void ∷ [])))) g
      (λ e v. starting_well e n params result (same_type result (integer int) && same_types params (pointer void ∷ [])) refl (subst (λ (fs : List Signature). slice_get fs n ≡ Some (record { params = params; result = result })) (sym v.funcs) h.0));
}
starting_keeps w c (Some (library_name (constant value))) h m j kj = keeps_ruled w true j (λ d x. typed None) (FineFor m) Starting kj (λ d e x g v k. tt)
starting_keeps w c (Some (library_name printf)) h m j kj = keeps_lone w true (typed None) Starting (λ e. tt)
starting_keeps w c (Some (library_name malloc)) h m j kj = keeps_lone w true (typed None) Starting (λ e. tt)
starting_keeps w c (Some (library_name calloc)) h m j kj = keeps_lone w true (typed None) Starting (λ e. tt)
starting_keeps w c (Some (library_name realloc)) h m j kj = keeps_lone w true (typed None) Starting (λ e. tt)
starting_keeps w c (Some (library_name free)) h m j kj = keeps_lone w true (typed None) Starting (λ e. tt)
starting_keeps w c (Some (library_name memcpy)) h m j kj = keeps_lone w true (typed None) Starting (λ e. tt)
starting_keeps w c (Some (library_name thrd_create)) h m j kj = keeps_lone w true (typed None) Starting (λ e. tt)
starting_keeps w c (Some (library_name thrd_join)) h m j kj = keeps_lone w true (typed None) Starting (λ e. tt)
starting_keeps w c (Some (library_name mtx_init)) h m j kj = keeps_lone w true (typed None) Starting (λ e. tt)
starting_keeps w c (Some (library_name mtx_lock)) h m j kj = keeps_lone w true (typed None) Starting (λ e. tt)
starting_keeps w c (Some (library_name mtx_unlock)) h m j kj = keeps_lone w true (typed None) Starting (λ e. tt)
starting_keeps w c (Some (library_name mtx_destroy)) h m j kj = keeps_lone w true (typed None) Starting (λ e. tt)
starting_keeps w c (Some (library_name atomic_store)) h m j kj = keeps_lone w true (typed None) Starting (λ e. tt)
starting_keeps w c (Some (library_name atomic_load)) h m j kj = keeps_lone w true (typed None) Starting (λ e. tt)
starting_keeps w c (Some (library_name atomic_add)) h m j kj = keeps_lone w true (typed None) Starting (λ e. tt)
starting_keeps w c (Some (library_name atomic_sub)) h m j kj = keeps_lone w true (typed None) Starting (λ e. tt)
starting_keeps w c (Some (library_name atomic_swap)) h m j kj = keeps_lone w true (typed None) Starting (λ e. tt)
starting_keeps w c (Some (library_name atomic_compare)) h m j kj = keeps_lone w true (typed None) Starting (λ e. tt)
starting_keeps w c (Some (library_name (atomic_type t))) h m j kj = keeps_lone w true (typed None) Starting (λ e. tt)
starting_keeps w c (Some (global_name n t)) h m j kj = keeps_ruled w true j (λ d x. typed None) (FineFor m) Starting kj (λ d e x g v k. tt)
starting_keeps w c (Some (local_name n t)) h m j kj = keeps_ruled w true j (λ d x. typed None) (FineFor m) Starting kj (λ d e x g v k. tt)
starting_keeps w c (Some (enumerator_name value)) h m j kj = keeps_ruled w true j (λ d x. typed None) (FineFor m) Starting kj (λ d e x g v k. tt)
starting_keeps w c (Some (type_name t)) h m j kj = keeps_ruled w true j (λ d x. typed None) (FineFor m) Starting kj (λ d e x g v k. tt)
starting_keeps w c None h m j kj = keeps_ruled w true j (λ d x. typed None) (FineFor m) Starting kj (λ d e x g v k. tt)

abbrev AreStarted : form.InScope → (Option ℕ × List Expr) → Type 0
AreStarted e p = Starting e p.0 × AreFine e p.1

meaning_in_named : (w : World) (c : Context) → Good w c → (o : Option Name) → OnSome (IsNamed w c) (meaning_in c o)
meaning_in_named w c g None = tt
meaning_in_named w c g (Some n) = meaning_named w c g n

started_well : (w : World) (o : Option Name) (j : Judging Expr) (rest : Judging (List Expr)) → Keeps w true j (FineFor o) → Keeps w true rest AreFine
    → (c : Context) → Good w c → OnTyped (λ p. After w true c (in_turn (starting_or (meaning_in c o) j) rest c).1 (λ e. AreStarted e p)) (in_turn (starting_or (meaning_in c o) j) rest c).0
started_well w o j rest kj kr c g = (keeps_in_turn w true (starting_or (meaning_in c o) j) rest Starting AreFine (starting_keeps w c (meaning_in c o) (meaning_in_named w c g o) o j kj) kr).keeps c g

-- ---- types

specs_keeps : (w : World) (s : source.Specs) (parts : Judging (List Part)) → Keeps w true parts ArePartsReady → Keeps w true (specs_by s parts) (λ e t. Ready e.structs t)
specs_keeps w s parts kp = keeps_ruled w true parts (λ c all. specified (place_of_specs s) all) ArePartsReady (λ e t. Ready e.structs t) kp (λ d e all g v h. specified_ready e (place_of_specs s) all h)

-- members behind so many names, as many as there are names
abbrev AreMembersOf : (before count : ℕ) → form.InScope → List (List ℕ × Ty) → Type 0
AreMembersOf before count e all = AreObjects e.structs all × (length all ≡ count) × (before ≤ most_members → before + count ≤ most_members)

-- a member behind so many names
abbrev IsMemberBehind : ℕ → form.InScope → List ℕ × Ty → Type 0
IsMemberBehind before e m = (before < most_members) × IsObject e.structs m.1

-- an object's type, by the type of its specifiers and sizes
object_keeps : (w : World) (base : Judged Ty) → OnTyped (Ready w.structs) base → (pointers : List Pointer) (n : Name) (sizes : Judging (List ℕ)) → Keeps w true sizes (λ e ns. ArePositive ns)
    → Keeps w true (object_by base pointers n sizes) (λ e t. IsObject e.structs t)
object_keeps w base hb pointers n sizes kd = record {
  keeps = λ c g. object_after w c g base (on_weaker (Ready w.structs) (Ready c.structs) base hb (λ t r. ready_kept w.structs c.structs g.since t r)) pointers n sizes kd;
}
  where
    object_after : (w : World) (c : Context) → Good w c → (base : Judged Ty) → OnTyped (Ready c.structs) base → (pointers : List Pointer) (n : Name) (sizes : Judging (List ℕ)) → Keeps w true sizes (λ e ns. ArePositive ns)
        → OnTyped (λ t. After w true c (object_by base pointers n sizes c).1 (λ e. IsObject e.structs t)) (object_by base pointers n sizes c).0
    object_after w c g (typed t) hb pointers n sizes kd =
        ruled_after w true c (in_turn (lone (typed t)) sizes) (λ d p. object_declared d p.0 (record { name = n; pointers = pointers; sizes = p.1 })) (λ e p. (t ≡ p.0) × ArePositive p.1) (λ e t. IsObject e.structs t) g
        (keeps_in_turn w true (lone (typed t)) sizes (λ e u. t ≡ u) (λ e ns. ArePositive ns) (keeps_lone w true (typed t) (λ e u. t ≡ u) (λ e. refl)) kd)
        (λ d e p v k o h. on_weaker (IsObject d.structs) (IsObject e.structs) (object_declared d p.0 (record { name = n; pointers = pointers; sizes = p.1 }))
        (object_well w d k p.0 (record { name = n; pointers = pointers; sizes = p.1 }) (subst (Ready d.structs) h.0 (ready_kept c.structs d.structs v.0.structs t hb)) h.1) (λ u i. object_kept d.structs e.structs o.structs u i))
    object_after w c g (faulty r rs) hb pointers n sizes kd = not_given _ r rs (sizes c).0 (λ p. object_declared (sizes c).1 p.0 (record { name = n; pointers = pointers; sizes = p.1 }))

member_after : (w : World) (before : List Name) (base : Judged Ty) → OnTyped (Ready w.structs) base → (pointers : List Pointer) (n : Name) (sizes : Judging (List ℕ)) → Keeps w true sizes (λ e ns. ArePositive ns)
    → (c : Context) → Good w c → OnTyped (λ m. After w true c (member_by before base pointers n sizes c).1 (λ e. IsMemberBehind (length before) e m)) (member_by before base pointers n sizes c).0
member_after w before base hb pointers n sizes kd c g =
    (keeps_ruled w true (in_turn (lone (fresh_member c before n)) (object_by base pointers n sizes)) (λ d p. typed (bytes_of d.text n, p.1)) (λ e p. (length before < most_members) × IsObject e.structs p.1) (IsMemberBehind (length before))
    (keeps_in_turn w true (lone (fresh_member c before n)) (object_by base pointers n sizes) (λ e u. length before < most_members) (λ e t. IsObject e.structs t)
    (keeps_lone w true (fresh_member c before n) (λ e u. length before < most_members) (λ e. fresh_few c before n)) (object_keeps w base hb pointers n sizes kd))
    (λ d e p v o h. h)).keeps c g

declared_keeps : (w : World) (before : List Name) (n : Name) (count : ℕ) (one : Judging (List ℕ × Ty)) (rest : Judging (List (List ℕ × Ty)))
    → Keeps w true one (IsMemberBehind (length before)) → Keeps w true rest (AreMembersOf (length (before ++ n ∷ [])) count)
    → Keeps w true (ruled (in_turn one rest) (λ d p. typed (p.0 ∷ p.1))) (AreMembersOf (length before) (suc count))
declared_keeps w before n count one rest ko kr =
    keeps_ruled w true (in_turn one rest) (λ d p. typed (p.0 ∷ p.1)) (λ e p. IsMemberBehind (length before) e p.0 × AreMembersOf (length (before ++ n ∷ [])) count e p.1) (AreMembersOf (length before) (suc count))
    (keeps_in_turn w true one rest (IsMemberBehind (length before)) (AreMembersOf (length (before ++ n ∷ [])) count) ko kr)
    (λ d e p g v h. ((h.0.1, h.1.0), ap suc h.1.1, λ k. fits (length before) (length (before ++ n ∷ [])) count h.0.0 (length-append before (n ∷ [])) h.1.2))
  where
    fits : (b m k : ℕ) → b < 256 → m ≡ b + 1 → (m ≤ 256 → m + k ≤ 256) → b + suc k ≤ 256
    fits b m k few one more = let h = more (omega (arith, few, one)) in omega (arith, h, one)

together_keeps : (w : World) (before count : ℕ) (specs : Judging Ty) (ds : Judged Ty → Judging (List (List ℕ × Ty))) → Keeps w true specs (λ e t. Ready e.structs t)
    → ((s : List Layout) (base : Judged Ty) → OnTyped (Ready s) base → Keeps (since w s) true (ds base) (AreMembersOf before count))
    → (c : Context) → Good w c → OnTyped (λ all. After w true c (ds (specs c).0 (specs c).1).1 (λ e. AreMembersOf before count e all)) (both (specs c).0 (ds (specs c).0 (specs c).1).0 >>= λ p. typed p.1)
together_keeps w before count specs ds ks kd c g = by (specs c).1 (specs c).0 (ks.keeps c g)
  where
    by : (b : Context) (j : Judged Ty) → OnTyped (λ t. After w true c b (λ e. Ready e.structs t)) j → OnTyped (λ all. After w true c (ds j b).1 (λ e. AreMembersOf before count e all)) (both j (ds j b).0 >>= λ p. typed p.1)
    by b (typed t) a =
        given (λ all. After (since w b.structs) true b (ds (typed t) b).1 (λ e. AreMembersOf before count e all)) (λ all. After w true c (ds (typed t) b).1 (λ e. AreMembersOf before count e all)) t (ds (typed t) b).0
        ((kd b.structs (typed t) (a.fine (own w b) (over_own w b a.good))).keeps b (good_since w w.structs b.structs b (extends_itself b.structs) a.good))
        (λ all k. after_from w true c b (ds (typed t) b).1 (λ e. AreMembersOf before count e all) a.good a.within k)
    by b (faulty q qs) a = not_given _ q qs (ds (faulty q qs) b).0 (λ p. typed p.1)

append_objects : (s : List Layout) (a b : List (List ℕ × Ty)) → AreObjects s a → AreObjects s b → AreObjects s (a ++ b)
append_objects s [] b h k = k
append_objects s (x ∷ a) b h k = (h.0, append_objects s a b h.1 k)

members_well : (w : World) (before names : List Name) (m rest : Judging (List (List ℕ × Ty))) → Keeps w true m (AreMembersOf (length before) (length names)) → Keeps w true rest (AreMembers (length (before ++ names)))
    → Keeps w true (ruled (in_turn m rest) (λ d p. typed (p.0 ++ p.1))) (AreMembers (length before))
members_well w before names m rest km kr =
    keeps_ruled w true (in_turn m rest) (λ d p. typed (p.0 ++ p.1)) (λ e p. AreMembersOf (length before) (length names) e p.0 × AreMembers (length (before ++ names)) e p.1) (AreMembers (length before))
    (keeps_in_turn w true m rest (AreMembersOf (length before) (length names)) (AreMembers (length (before ++ names))) km kr)
    (λ d e p g v h. (
      append_objects e.structs p.0 p.1 h.0.0 h.1.0,
      λ k. fits (length before) (length names) (length (before ++ names)) (length p.0) (length p.1) (length (p.0 ++ p.1)) k h.0.1 h.0.2 (length-append before names) h.1.1 (length-append p.0 p.1),
    ))
  where
    fits : (b n bn x y xy : ℕ) → b ≤ 256 → x ≡ n → (b ≤ 256 → b + n ≤ 256) → bn ≡ b + n → (bn ≤ 256 → bn + y ≤ 256) → xy ≡ x + y → b + xy ≤ 256
    fits b n bn x y xy k e f g h i = let p = f k in let q = h (omega (arith, p, g)) in omega (arith, q, g, i, e)

-- ---- enums and names of types

tagged_after : (w : World) (c : Context) → Good w c → (t : Name) → OnTyped (λ x. After w true c (tagged t c).1 (λ e. PartReady e x)) (tagged t c).0
tagged_after w c g t = by (is_no_enum c t)
  where
    by : (j : Judged (Unit {0})) → OnTyped (λ x. After w true c (with_tag c t) (λ e. PartReady e x)) (j >>= λ u. typed (whole (structure (tag_number (with_tag c t) t))))
    by (typed u) = record { good = (tag_after w c g t).0; within = (tag_after w c g t).1; fine = λ e v. tt }
    by (faulty r rs) = tt

enum_ready : (e : form.InScope) (c : Context) (t : Name) → OnTyped (PartReady e) (enum_tagged c t)
enum_ready e c t = by (is_struct_tag c t) (is_listed c t)
  where
    by : (b f : Bool) → OnTyped (PartReady e) (if b then refuse t.from DoubleName else (if f then typed (tt {0}) else refuse t.from UnknownName) >>= λ u. typed (whole (integer int)))
    by true f = tt
    by false true = tt
    by false false = tt

aliased_ready : (w : World) (c : Context) (e : form.InScope) → Over w c e → (place : ℕ) (o : Option Binding) → OnSome (IsNamed w c) o → OnTyped (PartReady e) (aliased place o)
aliased_ready w c e v place (Some (type_name t)) h = ready_kept c.structs e.structs v.structs t h
aliased_ready w c e v place (Some (global_name n t)) h = tt
aliased_ready w c e v place (Some (local_name n t)) h = tt
aliased_ready w c e v place (Some (function_name n ps r)) h = tt
aliased_ready w c e v place (Some (enumerator_name value)) h = tt
aliased_ready w c e v place (Some (library_name (atomic_type t))) h = h
aliased_ready w c e v place (Some (library_name which)) h = tt
aliased_ready w c e v place None h = tt

value_in_range : (place : ℕ) (o : Option ℤ) → OnTyped (IsInRange int) (enumerator_value place o)
value_in_range place None = tt
value_in_range place (Some z) = by (is_held int z) refl
  where
    by : (b : Bool) → is_held int z ≡ b → OnTyped (IsInRange int) ((if b then typed (tt {0}) else refuse place TypeMismatch) >>= λ u. typed z)
    by true h = (is_held-IsInRange int z).0 h
    by false h = tt

-- an enumerator, behind its value
enumerated_after : (w : World) (n : Name) (value : Judging ℤ) → Keeps w true value (λ e z. IsInRange int z) → (c : Context) → Good w c
    → OnTyped (λ z. After w true c (enumerated n value c).1 (λ e. IsInRange int z)) (enumerated n value c).0
enumerated_after w n value kv c g = by (value c).1 (value c).0 (enumerator_fine (value c).1 n) (kv.keeps c g)
  where
    by : (d : Context) (v : Judged ℤ) (f : Judged (Unit {0} × Unit {0})) → OnTyped (λ z. After w true c d (λ e. IsInRange int z)) v
        → OnTyped (λ z. After w true c (with_enumerator d n (or_zero v)) (λ e. IsInRange int z)) (both f v >>= λ p. typed p.1)
    by d (typed z) (typed u) a =
        let i = a.fine (own w d) (over_own w d a.good) in
        let k = enumerator_after w d a.good n z i in
        record { good = k.0; within = within_further true c d (with_enumerator d n z) a.within k.1; fine = λ e o. i }
    by d (typed z) (faulty r rs) a = tt
    by d (faulty r rs) (typed u) a = tt
    by d (faulty r rs) (faulty s ss) a = tt

behind_after : (w : World) (first : Judging ℤ) (rest : ℤ → Judging (Unit {0})) → Keeps w true first (λ e z. IsInRange int z) → ((z : ℤ) → Keeps w true (rest z) (λ e u. Unit {0})) → (c : Context) → Good w c
    → OnTyped (λ u. After w true c (and_behind first rest c).1 (λ e. Unit {0})) (and_behind first rest c).0
behind_after w first rest kf kr c g = by (first c).1 (first c).0 (kf.keeps c g)
  where
    both_after : (d f : Context) (z : ℤ) (k : Judged (Unit {0})) → Within true c d → OnTyped (λ u. After w true d f (λ e. Unit {0})) k → OnTyped (λ (u : Unit {0}). After w true c f (λ e. Unit {0})) (both (typed z) k >>= λ p. typed tt)
    both_after d f z (typed u) v a = record { good = a.good; within = within_further true c d f v a.within; fine = a.fine }
    both_after d f z (faulty r rs) v a = tt

    by : (d : Context) (j : Judged ℤ) → OnTyped (λ z. After w true c d (λ e. IsInRange int z)) j
        → OnTyped (λ (u : Unit {0}). After w true c (rest (or_zero j +ℤ pos 1) d).1 (λ e. Unit {0})) (both j (rest (or_zero j +ℤ pos 1) d).0 >>= λ p. typed tt)
    by d (typed z) a = both_after d (rest (z +ℤ pos 1) d).1 z (rest (z +ℤ pos 1) d).0 a.within ((kr (z +ℤ pos 1)).keeps d a.good)
    by d (faulty r rs) a = not_given _ r rs (rest (pos 0 +ℤ pos 1) d).0 (λ p. typed tt)

-- the names of enums say nothing of types
enums_good : (w : World) (c : Context) (es ls : List (List ℕ)) → Good w c → Good w (record c { enums = es; listed = ls })
enums_good w c es ls g = record {
  results = g.results;
  since = g.since;
  numbered = g.numbered;
  names = λ q m h. named_kept w c (record c { enums = es; listed = ls }) (extends_itself c.structs) (λ n t p. p) (λ n t p. p) m (g.names q m h);
  layouts = g.layouts;
  apart = g.apart;
  members = g.members;
  unbegun = g.unbegun;
  tags = g.tags;
  begun = g.begun;
  literals = g.literals;
  globals = g.globals;
  locals = g.locals;
  plain = g.plain;
  small = g.small;
  params = g.params;
  few = g.few;
}

enums_within : (c : Context) (es ls : List (List ℕ)) → Within true c (record c { enums = es; listed = ls })
enums_within c es ls = (
  record { text = refl; structs = extends_itself c.structs; begun = λ n h. h; begun_kept = λ n l b h. h; count = omega arith; literals = λ n bs h. h; globals = λ n t h. h },
  record { globals = refl; functions = refl; bodies = refl; locals = λ n t h. h; addressed = λ n h. h },
  record { inner = lengthens_itself c.inner; outer = refl; locals = refl },
)

enum_after : (w : World) (t : Name) (list : Judging (Unit {0})) → Keeps w true list (λ e u. Unit {0}) → (c : Context) → Good w c
    → OnTyped (λ x. After w true c (enum_braced t list c).1 (λ e. PartReady e x)) (enum_braced t list c).0
enum_after w t list kl c g = by (enum_opened c t) (list (with_enum c t)).1 (list (with_enum c t)).0 (kl.keeps (with_enum c t) (enums_good w c (with_enum c t).enums c.listed g))
  where
    by : (f : Judged (Unit {0})) (d : Context) (j : Judged (Unit {0})) → OnTyped (λ u. After w true (with_enum c t) d (λ e. Unit {0})) j
        → OnTyped (λ x. After w true c (with_listed d t) (λ e. PartReady e x)) (both f j >>= λ p. typed (whole (integer int)))
    by (typed v) d (typed u) a = record {
      good = enums_good w d d.enums (with_listed d t).listed a.good;
      within = within_further true c d (with_listed d t) (within_further true c (with_enum c t) d (enums_within c (with_enum c t).enums c.listed) a.within) (enums_within d d.enums (with_listed d t).listed);
      fine = λ e o. tt;
    }
    by (typed v) d (faulty r rs) a = tt
    by (faulty s ss) d (typed u) a = tt
    by (faulty s ss) d (faulty r rs) a = tt

-- ---- the judgement

is_name : (s : source.Expr) → IsName (name_in s) (judged s)
is_name (source.name n) m e c = let f : n ≡ m = cc in ap (λ (x : Name). (named x.from (meaning_of c x), c)) f
is_name (source.group s) m e c = is_name s m e c
is_name (source.call callee args) m e c = absurd cc
is_name (source.int place value) m e c = absurd cc
is_name (source.char place value) m e c = absurd cc
is_name (source.text parts) m e c = absurd cc
is_name (source.null place) m e c = absurd cc
is_name (source.prefix place op s) m e c = absurd cc
is_name (source.sizeof_type place t) m e c = absurd cc
is_name (source.sizeof_expr place s) m e c = absurd cc
is_name (source.cast place t s) m e c = absurd cc
is_name (source.index place a b) m e c = absurd cc
is_name (source.member place s n) m e c = absurd cc
is_name (source.arrow place s n) m e c = absurd cc
is_name (source.binary place op a b) m e c = absurd cc
is_name (source.conditional place s a b) m e c = absurd cc

mutual
  pub judged_keeps : (w : World) (s : source.Expr) → Keeps w true (judged s) (FineFor (name_in s))
  judged_keeps w (source.name n) = record { keeps = λ c g. keeps_here w true c Fine (named n.from (meaning_of c n)) g (λ e v. named_made w c e v n.from (meaning_of c n) (meaning_named w c g n)) }
  judged_keeps w (source.call callee args) = record { keeps = λ c g. called_after w c g (meaning_of c callee) (meaning_named w c g callee) callee.from (judged_all args) (judged_print callee.from args) (judged_start callee.from args) (all_keeps w args) (print_keeps w callee.from args) (start_keeps w callee.from args) }
  judged_keeps w (source.int place n) = keeps_lone w true (typed (at place (integer n.ty) (num n.ty n.value))) Made (λ e. (((refl, n.in_range), tt), tt))
  judged_keeps w (source.char place n) = keeps_lone w true (typed (at place (integer n.ty) (num n.ty n.value))) Made (λ e. (((refl, n.in_range), tt), tt))
  judged_keeps w (source.text parts) = record { keeps = λ c g. spelled_after w c g (place_of_parts parts) parts }
  judged_keeps w (source.null place) = keeps_lone w true (typed (at place (pointer void) null)) Made (λ e. ((tt, tt), tt))
  judged_keeps w (source.group s) = judged_keeps w s
  judged_keeps w (source.prefix place op s) = prefixed_keeps w place op (name_in s) (judged s) (judged_keeps w s) (is_name s)
  judged_keeps w (source.sizeof_type place t) = keeps_ruled w true (judged_type t) (λ d u. size_number d place u) (λ e u. Ready e.structs u) Made (type_keeps w t) (λ d e u g v h. size_made w d e v place u h)
  judged_keeps w (source.sizeof_expr place s) = keeps_ruled w true (judged s) (λ d x. size_number d place (type_of x)) (FineFor (name_in s)) Made (judged_keeps w s) (λ d e x g v h. size_made w d e v place (type_of x) (fine_of (name_in s) e x h).1)
  judged_keeps w (source.cast place t s) =
      keeps_ruled w true (in_turn (judged_type t) (valued (judged s))) (λ d p. cast place p.0 p.1) (λ e p. Ready e.structs p.0 × Fine e p.1) Made
      (keeps_in_turn w true (judged_type t) (valued (judged s)) (λ e u. Ready e.structs u) Fine (type_keeps w t) (valued_keeps w (name_in s) (judged s) (judged_keeps w s))) (λ d e p g v h. cast_made e place p.0 p.1 h.1 h.0)
  judged_keeps w (source.index place a b) =
      keeps_ruled w true (in_turn (valued (judged a)) (valued (judged b))) (λ d p. element d place p.0 p.1) (λ e p. Fine e p.0 × Fine e p.1) Made
      (pair_keeps w (name_in a) (name_in b) (judged a) (judged b) (judged_keeps w a) (judged_keeps w b)) (λ d e p g v h. element_made w d e v place p.0 p.1 h.0 h.1)
  judged_keeps w (source.member place s m) = keeps_ruled w true (judged s) (λ d x. selected d place x m) (FineFor (name_in s)) Made (judged_keeps w s) (λ d e x g v h. selected_made w d e v place x (fine_of (name_in s) e x h) m)
  judged_keeps w (source.arrow place s m) = keeps_ruled w true (valued (judged s)) (λ d x. pointed d place x m) Fine Made (valued_keeps w (name_in s) (judged s) (judged_keeps w s)) (λ d e x g v h. pointed_made w d e v place x h m)
  judged_keeps w (source.binary place op a b) =
      keeps_ruled w true (in_turn (valued (judged a)) (valued (judged b))) (λ d p. combined d place op p.0 p.1) (λ e p. Fine e p.0 × Fine e p.1) Made
      (pair_keeps w (name_in a) (name_in b) (judged a) (judged b) (judged_keeps w a) (judged_keeps w b)) (λ d e p g v h. combined_made w d e v place op p.0 p.1 h.0 h.1)
  judged_keeps w (source.conditional place s a b) =
      keeps_ruled w true (in_turn (valued (judged s)) (in_turn (valued (judged a)) (valued (judged b)))) (λ d p. tested place p.0 >>= λ t. chosen place t p.1.0 p.1.1) (λ e p. Fine e p.0 × (Fine e p.1.0 × Fine e p.1.1)) Made
      (keeps_in_turn w true (valued (judged s)) (in_turn (valued (judged a)) (valued (judged b))) Fine (λ e p. Fine e p.0 × Fine e p.1) (valued_keeps w (name_in s) (judged s) (judged_keeps w s)) (pair_keeps w (name_in a) (name_in b) (judged a) (judged b) (judged_keeps w a) (judged_keeps w b)))
      (λ d e p g v h. chosen_by_test e place p.0 p.1.0 p.1.1 h.0 h.1.0 h.1.1)

  pub all_keeps : (w : World) (es : source.Exprs) → Keeps w true (judged_all es) AreFine
  all_keeps w source.no_exprs = keeps_lone w true (typed []) AreFine (λ e. tt)
  all_keeps w (source.more_exprs s rest) =
      keeps_ruled w true (in_turn (valued (judged s)) (judged_all rest)) (λ d p. typed (p.0 ∷ p.1)) (λ e p. Fine e p.0 × AreFine e p.1) AreFine
      (keeps_in_turn w true (valued (judged s)) (judged_all rest) Fine AreFine (valued_keeps w (name_in s) (judged s) (judged_keeps w s)) (all_keeps w rest)) (λ d e p g v h. (h.0, h.1))

  pub print_keeps : (w : World) (place : ℕ) (es : source.Exprs) → Keeps w true (judged_print place es) Made
  print_keeps w place source.no_exprs = keeps_lone w true (refuse place TypeMismatch) Made (λ e. tt)
  print_keeps w place (source.more_exprs s rest) = print_well w place (none_past 7 (place_past 16 rest)) (format_or (text_in s) (node_place s) (judged s)) (judged_all rest) (format_keeps w (text_in s) (node_place s) (name_in s) (judged s) (judged_keeps w s)) (all_keeps w rest)

  pub start_keeps : (w : World) (place : ℕ) (es : source.Exprs) → Keeps w true (judged_start place es) Made
  start_keeps w place source.no_exprs = keeps_lone w true (refuse place TypeMismatch) Made (λ e. tt)
  start_keeps w place (source.more_exprs s rest) =
      keeps_ruled w true (in_turn (valued (judged s)) (judged_started rest)) (λ d p. started place (p.0 ∷ []) p.1.0 p.1.1) (λ e p. Fine e p.0 × AreStarted e p.1) Made
      (keeps_in_turn w true (valued (judged s)) (judged_started rest) Fine AreStarted (valued_keeps w (name_in s) (judged s) (judged_keeps w s)) (started_keeps w rest)) (λ d e p g v h. started_made e place (p.0 ∷ []) p.1.0 p.1.1 (h.0, tt) h.1.0 h.1.1)

  pub started_keeps : (w : World) (es : source.Exprs) → Keeps w true (judged_started es) AreStarted
  started_keeps w source.no_exprs = keeps_lone w true (typed (None, [])) AreStarted (λ e. (tt, tt))
  started_keeps w (source.more_exprs s rest) = record { keeps = started_well w (name_in s) (judged s) (judged_all rest) (judged_keeps w s) (all_keeps w rest) }

  pub type_keeps : (w : World) (t : source.TypeName) → Keeps w true (judged_type t) (λ e u. Ready e.structs u)
  type_keeps w (source.type_name specs pointers) =
      keeps_ruled w true (specs_by specs (judged_parts specs)) (λ d u. plain_type (place_of_specs specs) (behind_pointers u pointers)) (λ e u. Ready e.structs u) (λ e u. Ready e.structs u) (specs_keeps w specs (judged_parts specs) (parts_keeps w specs))
      (λ d e u g v h. plain_type_is (Ready e.structs) (place_of_specs specs) (behind_pointers u pointers) (behind_ready e.structs u pointers h))

  pub parts_keeps : (w : World) (s : source.Specs) → Keeps w true (judged_parts s) ArePartsReady
  parts_keeps w source.no_specs = keeps_lone w true (typed []) ArePartsReady (λ e. tt)
  parts_keeps w (source.more_specs s rest) =
      keeps_ruled w true (in_turn (judged_spec s) (judged_parts rest)) (λ d p. typed (p.0 ∷ p.1)) (λ e p. PartReady e p.0 × ArePartsReady e p.1) ArePartsReady
      (keeps_in_turn w true (judged_spec s) (judged_parts rest) PartReady ArePartsReady (spec_keeps w s) (parts_keeps w rest)) (λ d e p g v h. h)

  pub spec_keeps : (w : World) (s : source.Spec) → Keeps w true (judged_spec s) PartReady
  spec_keeps w (source.word place x) = keeps_lone w true (typed (word x)) PartReady (λ e. tt)
  spec_keeps w (source.struct place t) = record { keeps = λ c g. tagged_after w c g t }
  spec_keeps w (source.struct_body place t members) = braced_keeps w t (judged_members [] members) (members_keeps w [] members)
  spec_keeps w (source.unnamed_struct place members) = alone_keeps w place (judged_members [] members) (members_keeps w [] members)
  spec_keeps w (source.enum place t) = record { keeps = λ c g. keeps_here w true c PartReady (enum_tagged c t) g (λ e v. enum_ready e c t) }
  spec_keeps w (source.enum_body place t list) = record { keeps = λ c g. enum_after w t (judged_enumerators (pos 0) list) (enumerators_keeps w (pos 0) list) c g }
  spec_keeps w (source.unnamed_enum place list) =
      keeps_ruled w true (judged_enumerators (pos 0) list) (λ d u. typed (whole (integer int))) (λ e u. Unit {0}) PartReady (enumerators_keeps w (pos 0) list) (λ d e u g v h. tt)
  spec_keeps w (source.alias n) = record { keeps = λ c g. keeps_here w true c PartReady (aliased n.from (meaning_of c n)) g (λ e v. aliased_ready w c e v n.from (meaning_of c n) (meaning_named w c g n)) }

  pub enumerator_keeps : (w : World) (next : ℤ) (x : source.Enumerator) → Keeps w true (judged_enumerator next x) (λ e z. IsInRange int z)
  enumerator_keeps w next (source.enumerator n comma) = record {
    keeps = λ c g. enumerated_after w n (lone (enumerator_value n.from (Some next))) (keeps_lone w true (enumerator_value n.from (Some next)) (λ e z. IsInRange int z) (λ e. value_in_range n.from (Some next))) c g;
  }
  enumerator_keeps w next (source.valued n s comma) = record {
    keeps = λ c g. enumerated_after w n (ruled (valued (judged s)) (λ d x. enumerator_value n.from (whole_value (constant_value d s x))))
        (keeps_ruled w true (valued (judged s)) (λ d x. enumerator_value n.from (whole_value (constant_value d s x))) Fine (λ e z. IsInRange int z) (valued_keeps w (name_in s) (judged s) (judged_keeps w s))
        (λ d e x k v h. value_in_range n.from (whole_value (constant_value d s x)))) c g;
  }

  pub enumerators_keeps : (w : World) (next : ℤ) (xs : source.Enumerators) → Keeps w true (judged_enumerators next xs) (λ e u. Unit {0})
  enumerators_keeps w next source.no_enumerators = keeps_lone w true (typed tt) (λ e u. Unit {0}) (λ e. tt)
  enumerators_keeps w next (source.more_enumerators x rest) = record {
    keeps = λ c g. behind_after w (judged_enumerator next x) (λ z. judged_enumerators z rest) (enumerator_keeps w next x) (λ z. enumerators_keeps w z rest) c g;
  }

  pub members_keeps : (w : World) (before : List Name) (ms : source.Members) → Keeps w true (judged_members before ms) (AreMembers (length before))
  members_keeps w before source.no_members = keeps_lone w true (typed []) (AreMembers (length before)) (λ e. (tt, λ k. omega (arith, k)))
  members_keeps w before (source.more_members m rest) = members_well w before (names_of_member m) (judged_member before m) (judged_members (before ++ names_of_member m) rest) (member_keeps w before m) (members_keeps w (before ++ names_of_member m) rest)

  pub member_keeps : (w : World) (before : List Name) (m : source.Member) → Keeps w true (judged_member before m) (AreMembersOf (length before) (length (names_of_member m)))
  member_keeps w before (source.members_of specs declarators) =
      record { keeps = together_keeps w (length before) (length (names_in declarators)) (specs_by specs (judged_parts specs)) (λ base. judged_declarators before base declarators) (specs_keeps w specs (judged_parts specs) (parts_keeps w specs)) (λ s base h. declarators_keeps (since w s) before base h declarators) }

  pub declarators_keeps : (w : World) (before : List Name) (base : Judged Ty) → OnTyped (Ready w.structs) base → (ds : source.Declarators) → Keeps w true (judged_declarators before base ds) (AreMembersOf (length before) (length (names_in ds)))
  declarators_keeps w before base h source.no_declarators = keeps_lone w true (typed []) (AreMembersOf (length before) 0) (λ e. (tt, refl, λ k. omega (arith, k)))
  declarators_keeps w before base h (source.more_declarators (source.declarator pointers n dims) rest) =
      declared_keeps w before n (length (names_in rest)) (member_by before base pointers n (judged_dims dims)) (judged_declarators (before ++ n ∷ []) base rest)
      (record { keeps = member_after w before base h pointers n (judged_dims dims) (dims_keeps w dims) }) (declarators_keeps w (before ++ n ∷ []) base h rest)

  pub dims_keeps : (w : World) (es : source.Exprs) → Keeps w true (judged_dims es) (λ e ns. ArePositive ns)
  dims_keeps w source.no_exprs = keeps_lone w true (typed []) (λ e ns. ArePositive ns) (λ e. tt)
  dims_keeps w (source.more_exprs s rest) =
      keeps_ruled w true (in_turn (ruled (valued (judged s)) (dimension s)) (judged_dims rest)) (λ d p. typed (p.0 ∷ p.1)) (λ e p. (0 < p.0) × ArePositive p.1) (λ e ns. ArePositive ns)
      (keeps_in_turn w true (ruled (valued (judged s)) (dimension s)) (judged_dims rest) (λ e n. 0 < n) (λ e ns. ArePositive ns)
      (keeps_ruled w true (valued (judged s)) (dimension s) Fine (λ e n. 0 < n) (valued_keeps w (name_in s) (judged s) (judged_keeps w s)) (λ d e x g v h. dimension_well s d x)) (dims_keeps w rest))
      (λ d e p g v h. h)

pub judged_specs_keeps : (w : World) (s : source.Specs) → Keeps w true (judged_specs s) (λ e t. Ready e.structs t)
judged_specs_keeps w s = specs_keeps w s (judged_parts s) (parts_keeps w s)
