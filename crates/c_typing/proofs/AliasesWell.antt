-- Names of types, judged where they stand.
use Rattle.std.proofs.Common.{◌≡◌, ℕ, ◌+◌, ◌⊎◌, inl, inr, Bool, true, false, refl, sym, arith, List, [], ◌∷◌, ◌++◌, append-nil, Some, if◌then◌else◌}
use Rattle.std.specs.Map.{lookup}
use Rattle.std.specs.Str.{bytes_eq}
use Rattle.ak_words.specs.IntType.{int}
use Rattle.c_lex.specs.declared.refusal.Refusal.{Refusal}
use Rattle.c_tree.specs.declared.syntax.Name.{Name}
use Rattle.c_tree.specs.Syntax as source
use Rattle.c_tree.specs.Typed.{Ty, integer}
use Rattle.c_typing.specs.Faults.{Judged, typed, faulty, both, ◌>>=◌}
use Rattle.c_typing.specs.Types.{behind_pointers}
use Rattle.c_typing.specs.Scope.{Binding, function_name, type_name, Context, bytes_of, is_double, with_alias}
use Rattle.c_typing.specs.Judgement.{Declarator}
use Rattle.c_typing.specs.Statements.{or_int, judged_declarator, name_of}
use Rattle.c_typing.specs.Programs.{alias_by, alias_declared, same_alias, before_name, alias_fine, judged_alias, judged_aliases}
use Rattle.c_typing.proofs.Extending.{extends_itself, Ready, ready_kept}
use Rattle.c_typing.proofs.Carried.{OnTyped, on_weaker, World, IsObject, Good, Within, within_itself, After}
use Rattle.c_typing.proofs.TypesWell.{ArePositive, behind_ready, plain_type_is, object_type_well}
use Rattle.c_typing.proofs.Shown.{named_kept, named_too, name_good}
use Rattle.c_typing.proofs.Own.{own, over_own}
use Rattle.c_typing.proofs.StatedWell.{declarator_keeps}
use Rattle.c_typing.proofs.GlobalsWell.{NotLocal, Globals, globals_still, globals_further}
use Rattle.c_typing.proofs.HeadsWell.{new_name}

-- what a name of a type stands for is ready
alias_ready : (w : World) (c : Context) → Good w c → (place : ℕ) (t : Ty) (ns : List ℕ) → Ready c.structs t → ArePositive ns → OnTyped (Ready c.structs) (alias_by c place t ns)
alias_ready w c g place t [] h p = plain_type_is (Ready c.structs) place t h
alias_ready w c g place t (n ∷ ns) h p = on_weaker (IsObject c.structs) (Ready c.structs) (alias_by c place t (n ∷ ns)) (object_type_well w c g place t (n ∷ ns) h p) (λ u k. k.1)

declared_ready : (w : World) (c : Context) → Good w c → (t : Ty) (d : Declarator) → Ready c.structs t → ArePositive d.sizes → OnTyped (Ready c.structs) (alias_declared c t d)
declared_ready w c g t d h p = alias_ready w c g d.name.from (behind_pointers t d.pointers) d.sizes (behind_ready c.structs t d.pointers h) p

-- how many names of types there are says nothing of what they mean
counted_good : (w : World) (c : Context) (k : ℕ) → Good w c → Good w (record c { aliases = k })
counted_good w c k g = record {
  results = g.results;
  since = g.since;
  numbered = g.numbered;
  names = λ q m h. named_kept w c (record c { aliases = k }) (extends_itself c.structs) (λ n t p. p) (λ n t p. p) m (g.names q m h);
  layouts = g.layouts;
  apart = g.apart;
  members = g.members;
  unbegun = g.unbegun;
  tags = g.tags;
  begun = g.begun;
  literals = g.literals;
  globals = g.globals;
  locals = g.locals;
  plain = g.plain;
  small = g.small;
  params = g.params;
  few = g.few;
}

alias_step : (w : World) (c : Context) → Good w c → (n : Name) (t : Ty) → Ready c.structs t → Globals w c (with_alias c n t) []
alias_step w c g n t r = by (is_double c n) (if is_double c n then c.aliases else c.aliases + 1)
  where
    free : (q : List ℕ) (m : Binding) → ((m : Binding) → lookup (bytes_eq q) c.inner ≡ Some m → NotLocal m) → (lookup (bytes_eq q) c.inner ≡ Some m) ⊎ ((bytes_eq q (bytes_of c.text n) ≡ true) × (type_name t ≡ m)) → NotLocal m
    free q m f (inl h) = f m h
    free q (type_name u) f (inr h) = tt
    free q _ f (inr h) = let e = h.1 in absurd cc

    function : (q : List ℕ) (k : ℕ) (ps : List Ty) (s : Ty) → (lookup (bytes_eq q) c.inner ≡ Some (function_name k ps s)) ⊎ ((bytes_eq q (bytes_of c.text n) ≡ true) × (type_name t ≡ function_name k ps s)) → lookup (bytes_eq q) c.inner ≡ Some (function_name k ps s)
    function q k ps s (inl h) = h
    function q k ps s (inr h) = let e = h.1 in absurd cc

    by : (b : Bool) (k : ℕ) → Globals w c (record (if b then c else named_too c n (type_name t)) { aliases = k }) []
    by true k = record {
      good = counted_good w c k g;
      grows = record { text = refl; structs = extends_itself c.structs; begun = λ n h. h; begun_kept = λ n l b h. h; count = omega arith; literals = λ n bs h. h; globals = λ n t h. h };
      outer = refl;
      free = λ f. f;
      no_functions = λ q n ps r h. h;
      functions = refl;
      bodies = refl;
      globals = sym (append-nil c.globals);
      few = λ h. h;
      held = tt;
    }
    by false k = record {
      good = counted_good w (named_too c n (type_name t)) k (name_good w c g n (type_name t) r);
      grows = record { text = refl; structs = extends_itself c.structs; begun = λ n h. h; begun_kept = λ n l b h. h; count = omega arith; literals = λ n bs h. h; globals = λ n t h. h };
      outer = refl;
      free = λ f q m h. free q m (λ m h. f q m h) (new_name c.inner q (bytes_of c.text n) (type_name t) m h);
      no_functions = λ q i ps s h. function q i ps s (new_name c.inner q (bytes_of c.text n) (type_name t) (function_name i ps s) h);
      functions = refl;
      bodies = refl;
      globals = sym (append-nil c.globals);
      few = λ h. h;
      held = tt;
    }

-- the name of a type, by what it stands for
alias_made : (w : World) (c d : Context) → Good w d → Within true c d → (n : Name) (f : Judged (Unit {0} × Unit {0})) (t : Judged Ty) (rule : Ty → Judged (Unit {0})) → OnTyped (Ready d.structs) t
    → OnTyped (λ (u : Unit {0}). Globals w c (with_alias d n (or_int t)) []) (both f (t >>= rule) >>= λ p. typed tt)
alias_made w c d g v n f (typed t) rule h = by f (rule t)
  where
    by : (f : Judged (Unit {0} × Unit {0})) (k : Judged (Unit {0})) → OnTyped (λ (u : Unit {0}). Globals w c (with_alias d n t) []) (both f k >>= λ p. typed tt)
    by (typed u) (typed x) = globals_further w c d (with_alias d n t) [] [] (globals_still w c d g v) (alias_step w d g n t h)
    by (typed u) (faulty r rs) = tt
    by (faulty s ss) (typed x) = tt
    by (faulty s ss) (faulty r rs) = tt
alias_made w c d g v n (typed u) (faulty r rs) rule h = tt
alias_made w c d g v n (faulty s ss) (faulty r rs) rule h = tt

alias_after : (w : World) (base : Judged Ty) → OnTyped (Ready w.structs) base → (x : source.Declarator) (c : Context) → Good w c → OnTyped (λ u. Globals w c (judged_alias base x c).1 []) (judged_alias base x c).0
alias_after w base hb x c g = by base (on_weaker (Ready w.structs) (Ready c.structs) base hb (λ t r. ready_kept w.structs c.structs g.since t r)) (judged_declarator x c).1 (judged_declarator x c).0 ((declarator_keeps w x).keeps c g)
  where
    none : (d : Context) (f : Judged (Unit {0} × Unit {0})) (r : Refusal) (rs : List Refusal) → OnTyped (λ (u : Unit {0}). Globals w c (with_alias d (name_of x) (integer int)) []) (both {B = Unit {0}} f (faulty r rs) >>= λ p. typed tt)
    none d (typed u) r rs = tt
    none d (faulty s ss) r rs = tt

    by : (b : Judged Ty) → OnTyped (Ready c.structs) b → (d : Context) (j : Judged Declarator) → OnTyped (λ y. After w true c d (λ e. ArePositive y.sizes)) j
        → OnTyped (λ (u : Unit {0}). Globals w c (with_alias d (name_of x) (or_int (both b j >>= λ p. alias_declared d p.0 p.1))) [])
        (both (alias_fine d (name_of x)) ((both b j >>= λ p. alias_declared d p.0 p.1) >>= same_alias (name_of x).from (before_name d (name_of x))) >>= λ p. typed tt)
    by (typed b) h d (typed y) a =
        alias_made w c d a.good a.within (name_of x) (alias_fine d (name_of x)) (alias_declared d b y) (same_alias (name_of x).from (before_name d (name_of x)))
        (declared_ready w d a.good b y (ready_kept c.structs d.structs a.within.0.structs b h) (a.fine (own w d) (over_own w d a.good)))
    by (typed b) h d (faulty q qs) a = none d (alias_fine d (name_of x)) q qs
    by (faulty q qs) h d (typed y) a = none d (alias_fine d (name_of x)) q qs
    by (faulty q qs) h d (faulty s ss) a = none d (alias_fine d (name_of x)) q (qs ++ s ∷ ss)

pub aliases_after : (w : World) (base : Judged Ty) → OnTyped (Ready w.structs) base → (xs : List source.Declarator) (c : Context) → Good w c → OnTyped (λ u. Globals w c (judged_aliases base xs c).1 []) (judged_aliases base xs c).0
aliases_after w base h [] c g = globals_still w c c g (within_itself true c)
aliases_after w base h (x ∷ xs) c g = by (judged_alias base x c).1 (judged_alias base x c).0 (alias_after w base h x c g) (λ d k. aliases_after w base h xs d k)
  where
    more : (d f : Context) (j : Judged (Unit {0})) → Globals w c d [] → OnTyped (λ u. Globals w d f []) j → OnTyped (λ (u : Unit {0}). Globals w c f []) (both {A = Unit {0}} (typed tt) j >>= λ q. typed tt)
    more d f (typed u) a b = globals_further w c d f [] [] a b
    more d f (faulty r rs) a b = tt

    none : (f : Context) (r : Refusal) (rs : List Refusal) (j : Judged (Unit {0})) → OnTyped (λ (u : Unit {0}). Globals w c f []) (both {A = Unit {0}} (faulty r rs) j >>= λ q. typed tt)
    none f r rs (typed u) = tt
    none f r rs (faulty s ss) = tt

    by : (d : Context) (j : Judged (Unit {0})) → OnTyped (λ u. Globals w c d []) j → ((d : Context) → Good w d → OnTyped (λ u. Globals w d (judged_aliases base xs d).1 []) (judged_aliases base xs d).0)
        → OnTyped (λ (u : Unit {0}). Globals w c (judged_aliases base xs d).1 []) (both j (judged_aliases base xs d).0 >>= λ q. typed tt)
    by d (typed u) a f = more d (judged_aliases base xs d).1 (judged_aliases base xs d).0 a (f d a.good)
    by d (faulty r rs) a f = none (judged_aliases base xs d).1 r rs (judged_aliases base xs d).0
