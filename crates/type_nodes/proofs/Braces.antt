-- The braces of a struct: its members, whether they fit, and what is left behind them.
use Rattle.std.proofs.Common.{◌≡◌, ℕ, nat_le, map, Bool, true, false, List, Result, Ok, Err, refl, ap, sym, subst, ◌∙◌, if◌then◌else◌}
use Rattle.std.specs.Prelude.{Vec, OnOk, IfErr}
use Rattle.std.specs.declared.alloc.Global.{Global}
use Rattle.c_lex.specs.declared.refusal.CompileFault.{CompileFault}
use Rattle.c_lex.specs.declared.refusal.CompileFault.TheVariants.{Refused, NoMemory}
use Rattle.c_lex.specs.declared.refusal.Refusal.{Refusal}
use Rattle.c_lex.specs.declared.refusal.Kind.TheVariants.{BadSize}
use Rattle.c_tree.specs.TypedLayout.{laid_out, greatest_object}
use Rattle.c_tree.specs.Typed.{Ty, structure}
use Rattle.c_typing.specs.Faults.{Judged, typed, faulty, Fails, Gives, unless, both, ◌>>=◌}
use Rattle.c_typing.specs.Scope.{Context, with_struct}
use Rattle.c_typing.specs.Judgement.{Judging, lone, whole, struct_fits, fitting, closed, closing}
use Rattle.type_context.specs.declared.context.Context.{Context as CodeContext}
use Rattle.type_context.specs.declared.context.MemberType.{MemberType}
use Rattle.type_context.specs.ContextViews.{context_view, members_view}
use Rattle.type_context.specs.inner.Outcomes.{joined}
use Rattle.type_rules.specs.declared.specifiers.Part.{Part as CodePart}
use Rattle.type_rules.specs.SpecifierViews.{part_view}
use Rattle.type_context.specs.Telling.{Leaves, Tells, both_fine}
use Rattle.type_context.proofs.Walks.{memory_tells, lone_tells, both_tell}
use Rattle.type_nodes.specs.Nodes.{Finishes, types_of_members}
use Rattle.type_nodes.specs.inner.Members.{is_fine, stands_fine}
use Rattle.type_nodes.proofs.Telling.{finishes}

-- ---- whether they fit

-- that members fit, without what they are
abbrev pub fits_of : Context → (place : ℕ) → List (List ℕ × Ty) → Judged (Unit {0})
fits_of c place all = is_fine (struct_fits c place all)

-- the same, and what is left behind them
abbrev pub fitting_of : (place number : ℕ) → (again : Bool) → Judging (List (List ℕ × Ty)) → Judging (Unit {0})
fitting_of place number again members = stands_fine (fitting place number again members)

fits_if : (b : Bool) (place : ℕ) (all : List (List ℕ × Ty)) → ((unless place BadSize b >>= λ u. typed all) >>= λ ms. typed (tt {0})) ≡ typed (tt {0}) → (unless place BadSize b >>= λ u. typed all) ≡ typed all
fits_if true place all h = refl
fits_if false place all h = cc

pub fits_all : (c : Context) (place : ℕ) (all : List (List ℕ × Ty)) → fits_of c place all ≡ typed (tt {0}) → struct_fits c place all ≡ typed all
fits_all c place all h = fits_if (nat_le (laid_out c.structs (map (λ (m : List ℕ × Ty). m.1) all)).size greatest_object) place all h

-- what is at fault declares nothing
no_struct : (again : Bool) (c : Context) (number : ℕ) (r : Refusal) (rs : List Refusal) → (if again then c else closed c number (faulty r rs)) ≡ c
no_struct true c number r rs = refl
no_struct false c number r rs = refl

pub unfit_tells : (again : Bool) (number : ℕ) (n : CodeContext) (j : Judged (List (List ℕ × Ty))) (e : CompileFault) → Fails e (j >>= λ ms. typed (tt {0}))
    → Tells {A = Unit {0}} (λ (u : Unit {0}). tt) (Err e) n (j >>= (λ ms. typed (tt {0})), if again then context_view n else closed (context_view n) number j)
unfit_tells again number n j NoMemory h = memory_tells (λ (u : Unit {0}). tt) n (j >>= (λ ms. typed (tt {0})), if again then context_view n else closed (context_view n) number j)
unfit_tells again number n (typed ms) (Refused r) h = cc
unfit_tells again number n (faulty s ss) (Refused r) h = record { gives = h; leaves = sym (no_struct again (context_view n) number s ss) }

pub fit_again : (number place : ℕ) (again : Bool) (n : CodeContext) (all : List (List ℕ × Ty)) → again ≡ true → fits_of (context_view n) place all ≡ typed (tt {0})
    → Tells (λ (u : Unit {0}). tt) (Ok tt) n (fits_of (context_view n) place all, if again then context_view n else closed (context_view n) number (struct_fits (context_view n) place all))
fit_again number place again n all is h = record {
  gives = h;
  leaves = ap (λ (b : Bool). if b then context_view n else closed (context_view n) number (struct_fits (context_view n) place all)) (sym is);
}

pub fit_first : (number place : ℕ) (again : Bool) (n m : CodeContext) (all : List (List ℕ × Ty)) (r : Result (Unit {0}) CompileFault) → again ≡ false → fits_of (context_view n) place all ≡ typed (tt {0})
    → r ≡ Ok tt → context_view m ≡ with_struct (context_view n) number all
    → Tells (λ (u : Unit {0}). tt) r m (fits_of (context_view n) place all, if again then context_view n else closed (context_view n) number (struct_fits (context_view n) place all))
fit_first number place again n m all r is h was is_m =
    let told : Tells (λ (u : Unit {0}). tt) (Ok tt) m (fits_of (context_view n) place all, closed (context_view n) number (struct_fits (context_view n) place all)) =
    record { gives = h; leaves = is_m ∙ ap (closed (context_view n) number) (sym (fits_all (context_view n) place all h)) } in
    subst (λ q. Tells (λ (u : Unit {0}). tt) q m (fits_of (context_view n) place all, if again then context_view n else closed (context_view n) number (struct_fits (context_view n) place all))) (sym was)
    (subst (λ (b : Bool). Tells (λ (u : Unit {0}). tt) (Ok tt) m (fits_of (context_view n) place all, if b then context_view n else closed (context_view n) number (struct_fits (context_view n) place all))) (sym is) told)

-- what declaring a struct tells, whether or not memory runs out
pub declared_tells : (number place : ℕ) (again : Bool) (n m : CodeContext) (all : List (List ℕ × Ty)) (r : Result (Unit {0}) CompileFault) → again ≡ false → fits_of (context_view n) place all ≡ typed (tt {0})
    → OnOk r (context_view m ≡ with_struct (context_view n) number all) → IfErr r (λ e. e ≡ NoMemory)
    → Tells (λ (u : Unit {0}). tt) r m (fits_of (context_view n) place all, if again then context_view n else closed (context_view n) number (struct_fits (context_view n) place all))
declared_tells number place again n m all (Ok u) is h after memory = fit_first number place again n m all (Ok u) is h refl after
declared_tells number place again n m all (Err e) is h after memory =
    subst (λ (q : CompileFault). Tells {A = Unit {0}} (λ (u : Unit {0}). tt) (Err q) m (fits_of (context_view n) place all, if again then context_view n else closed (context_view n) number (struct_fits (context_view n) place all)))
    (sym memory) (memory_tells (λ (u : Unit {0}). tt) m (fits_of (context_view n) place all, if again then context_view n else closed (context_view n) number (struct_fits (context_view n) place all)))

-- ---- members that are judged

pub fitting_err : (place number : ℕ) (again : Bool) (J : Judging (List (List ℕ × Ty))) (c : Context) (n : CodeContext) (a : Result (Vec MemberType Global) CompileFault) (e : CompileFault)
    → Tells types_of_members a n (J c) → a ≡ Err e → Tells {A = Unit {0}} (λ (u : Unit {0}). tt) (Err e) n (fitting_of place number again J c)
fitting_err place number again J c n a e h is =
    let here : Tells types_of_members (Err e) n (J c) = subst (λ b. Tells types_of_members b n (J c)) is h in
    at_fault (J c).0 (J c).1 e here.gives here.leaves
  where
    at_fault : (j : Judged (List (List ℕ × Ty))) (d : Context) (e : CompileFault) → Fails e j → Leaves {A = Vec MemberType Global} (Err e) n d
        → Tells {A = Unit {0}} (λ (u : Unit {0}). tt) (Err e) n (j >>= struct_fits d place >>= (λ all. typed (tt {0})), if again then d else closed d number (j >>= struct_fits d place))
    at_fault j d NoMemory g l = memory_tells (λ (u : Unit {0}). tt) n (j >>= struct_fits d place >>= (λ all. typed (tt {0})), if again then d else closed d number (j >>= struct_fits d place))
    at_fault (typed ms) d (Refused r) g l = cc
    at_fault (faulty s ss) d (Refused r) g l = record { gives = g; leaves = l ∙ sym (no_struct again d number s ss) }

pub fitting_ok : (place number : ℕ) (again : Bool) (J : Judging (List (List ℕ × Ty))) (c : Context) (m n : CodeContext) (a : Result (Vec MemberType Global) CompileFault) (all : Vec MemberType Global) (r : Result (Unit {0}) CompileFault)
    → Tells types_of_members a m (J c) → a ≡ Ok all
    → Tells (λ (u : Unit {0}). tt) r n (fits_of (context_view m) place (members_view all.items), if again then context_view m else closed (context_view m) number (struct_fits (context_view m) place (members_view all.items)))
    → Tells (λ (u : Unit {0}). tt) r n (fitting_of place number again J c)
fitting_ok place number again J c m n a all r h is told =
    let here : Tells types_of_members (Ok all) m (J c) = subst (λ b. Tells types_of_members b m (J c)) is h in
    let at_d = subst (λ d. Tells (λ (u : Unit {0}). tt) r n (fits_of d place (members_view all.items), if again then d else closed d number (struct_fits d place (members_view all.items)))) here.leaves told in
    subst (λ j. Tells (λ (u : Unit {0}). tt) r n (j >>= struct_fits (J c).1 place >>= (λ all. typed (tt {0})), if again then (J c).1 else closed (J c).1 number (j >>= struct_fits (J c).1 place))) (sym here.gives) at_d

-- ---- behind the closing brace

without_members : {A : Type 0} (x : A) (j : Judged (Unit {0})) (k : Judged (List (List ℕ × Ty)))
    → (both j (k >>= λ all. typed (tt {0})) >>= λ p. typed x) ≡ (both j k >>= λ p. typed x)
without_members x (typed u) (typed ms) = refl
without_members x (typed u) (faulty s ss) = refl
without_members x (faulty r rs) (typed ms) = refl
without_members x (faulty r rs) (faulty s ss) = refl

pub closing_tells : (place number : ℕ) (again : Bool) (j : Judged (Unit {0})) (J : Judging (List (List ℕ × Ty))) (c : Context) (m n : CodeContext) (o f : Result (Unit {0}) CompileFault) (r : Result CodePart CompileFault)
    → Gives (λ (u : Unit {0}). tt) o j → Tells (λ (u : Unit {0}). tt) f n (fitting_of place number again J c) → Finishes part_view (joined o f) (λ _. typed (whole (structure number))) r
    → Tells part_view r n (closing place number j again J c)
closing_tells place number again j J c m n o f r h k g =
    let two = both_tell (λ (u : Unit {0}). u) (λ (u : Unit {0}). u) (lone j) (λ d. fitting_of place number again J c) (context_view m) m n o f (lone_tells (λ (u : Unit {0}). u) o m j h) k in
    let told = finishes (λ (p : Unit {0} × Unit {0}). (p.0, p.1)) part_view (λ d. (both j (fitting_of place number again J c).0, (fitting_of place number again J c).1)) (λ d p. typed (whole (structure number))) c n (joined o f) r two g in
    subst (λ x. Tells part_view r n (x, (fitting place number again J c).1)) (without_members (whole (structure number)) j (fitting place number again J c).0) told

-- ---- the opening brace

-- three things that are fine, the last two as one
pub three_fine : (j k l : Judged (Unit {0})) → both_fine j (both_fine k l) ≡ (both j (both k l) >>= λ u. typed tt)
three_fine (typed u) (typed v) (typed w) = refl
three_fine (typed u) (typed v) (faulty t ts) = refl
three_fine (typed u) (faulty s ss) (typed w) = refl
three_fine (typed u) (faulty s ss) (faulty t ts) = refl
three_fine (faulty r rs) (typed v) (typed w) = refl
three_fine (faulty r rs) (typed v) (faulty t ts) = refl
three_fine (faulty r rs) (faulty s ss) (typed w) = refl
three_fine (faulty r rs) (faulty s ss) (faulty t ts) = refl
