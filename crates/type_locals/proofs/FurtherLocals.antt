-- The locals of a function: those that are in memory, and the numbers that all get.
use Rattle.std.proofs.Common.{◌≡◌, ℕ, zero, suc, ◌+◌, ◌≤◌, ◌<◌, Bool, true, false, ◌||◌, List, [], ◌∷◌, ◌++◌, Option, Some, None, map, length, get_or, drop, slice_get, refl, sym, ap, ◌∙◌, append_assoc, if◌then◌else◌, arith}
use Rattle.std.specs.Prelude.{nat_eq, nat_lt}
use Rattle.std.specs.Option.{option_map}
use Rattle.std.proofs.lemmas.Bool.Decides.{nat_tests}
use Rattle.std.proofs.lemmas.List.{map-append, length-map, at_drop_more, drop-map}
use Rattle.c_tree.specs.declared.typed.CType.{CType}
use Rattle.c_tree.specs.declared.typed.Local.{Local as CodeLocal}
use Rattle.c_tree.specs.declared.typed.Stmt.{Stmt as CodeStmt}
use Rattle.c_tree.specs.Typed.{Ty, Local, Func, Stmts, more_stmts, stmts_of}
use Rattle.c_tree.specs.TypedViews.{type_view, local_view, stmt_view}
use Rattle.type_locals.specs.declared.numbering.Numbers.{Numbers}
use Rattle.type_locals.specs.declared.locals.Param.{Param as CodeParam}
use Rattle.type_locals.specs.declared.locals.Further.{Further as CodeFurther}
use Rattle.c_typing.specs.Numbering.{Param, is_in, addressed_params, place_among, or_number, number_of, is_block, locals_from, copies, func_of, renumbered_stmt, renumbered_stmts}
use Rattle.type_locals.specs.LocalViews.{param_view, params_view}
use Rattle.type_locals.specs.inner.Numbers.{or_more, new_number, further_view, furthers_view, table_from, locals_view, param_local, further_local, copy_of, followed, func}
use Rattle.type_locals.proofs.TypedTrees.{stmts_renumbered}

-- a parameter of this number is in memory
abbrev pub moved : Param → ℕ → List ℕ → Bool
moved p n ns = is_block p.ty || is_in n ns

-- what is said of numbers goes by which are among them
pub same_params : (ns ms : List ℕ) → ((k : ℕ) → is_in k ns ≡ is_in k ms) → (k : ℕ) (ps : List Param) → addressed_params k ps ns ≡ addressed_params k ps ms
same_params ns ms h k [] = refl
same_params ns ms h k (p ∷ ps) =
    ap (λ l. if moved p k ns then (k, p) ∷ l else l) (same_params ns ms h (1 + k) ps)
    ∙ ap (λ b. if is_block p.ty || b then (k, p) ∷ addressed_params (1 + k) ps ms else addressed_params (1 + k) ps ms) (h k)

pub same_locals : (ns ms : List ℕ) → ((k : ℕ) → is_in k ns ≡ is_in k ms) → (k : ℕ) (ts : List Ty) → locals_from k ns ts ≡ locals_from k ms ts
same_locals ns ms h k [] = refl
same_locals ns ms h k (t ∷ ts) =
    ap (λ b. record { ty = t; in_memory = is_block t || b } ∷ locals_from (1 + k) ns ts) (h k)
    ∙ ap (λ l. record { ty = t; in_memory = is_block t || is_in k ms } ∷ l) (same_locals ns ms h (1 + k) ts)

-- ---- lists that are made one by one

one_on : {B : Type 0} (F : ℕ → B) (k : ℕ) → F (1 + k) ≡ F (k + 1)
one_on F k = let e : 1 + k ≡ k + 1 = omega arith in ap F e

pushed : {A : Type 0} (done rest new next : List A) (x : A) → new ≡ done ++ x ∷ [] → rest ≡ x ∷ next → new ++ next ≡ done ++ rest
pushed done rest new next x is at = ap (λ l. l ++ next) is ∙ append_assoc done (x ∷ []) next ∙ ap (λ l. done ++ l) (sym at)

-- a parameter that is in memory, and one that isn't
further_here : (k : ℕ) (ps : List CodeParam) (ns : List ℕ) (d : CodeParam) (b : Bool) → k < length ps → moved (param_view (get_or ps k d)) k ns ≡ b
    → addressed_params k (params_view (drop k ps)) ns
    ≡ (if b then (k, param_view (get_or ps k d)) ∷ addressed_params (k + 1) (params_view (drop (k + 1) ps)) ns else addressed_params (k + 1) (params_view (drop (k + 1) ps)) ns)
further_here k ps ns d b h is =
    at_drop_more (λ l. addressed_params k (params_view l) ns) ps k d h
    ∙ ap (λ t. if t then (k, param_view (get_or ps k d)) ∷ addressed_params (1 + k) (params_view (drop (k + 1) ps)) ns else addressed_params (1 + k) (params_view (drop (k + 1) ps)) ns) is
    ∙ one_on (λ j. if b then (k, param_view (get_or ps k d)) ∷ addressed_params j (params_view (drop (k + 1) ps)) ns else addressed_params j (params_view (drop (k + 1) ps)) ns) k

pub further_taken : (k n : ℕ) (ps : List CodeParam) (ns : List ℕ) (all new : List CodeFurther) (x : CodeFurther) (d : CodeParam) (whole : List (ℕ × Param))
    → k < length ps → n ≡ k → moved (param_view (get_or ps k d)) n ns ≡ true → x.number ≡ n → x.param.now ≡ get_or ps k d → new ≡ all ++ x ∷ []
    → furthers_view all ++ addressed_params k (params_view (drop k ps)) ns ≡ whole
    → furthers_view new ++ addressed_params (k + 1) (params_view (drop (k + 1) ps)) ns ≡ whole
further_taken k n ps ns all new x d whole h same there num at is so_far =
    let seen : further_view x ≡ (k, param_view (get_or ps k d)) = ap (λ m. (m, param_view x.param.now)) (num ∙ same) ∙ ap (λ p. (k, param_view p)) at in
    let made : furthers_view new ≡ furthers_view all ++ (k, param_view (get_or ps k d)) ∷ [] = ap furthers_view is ∙ map-append further_view all (x ∷ []) ∙ ap (λ y. furthers_view all ++ y ∷ []) seen in
    pushed (furthers_view all) (addressed_params k (params_view (drop k ps)) ns) (furthers_view new) (addressed_params (k + 1) (params_view (drop (k + 1) ps)) ns) (k, param_view (get_or ps k d)) made
    (further_here k ps ns d true h (ap (λ j. moved (param_view (get_or ps k d)) j ns) (sym same) ∙ there)) ∙ so_far

pub further_left : (k n : ℕ) (ps : List CodeParam) (ns : List ℕ) (done : List (ℕ × Param)) (d : CodeParam) (whole : List (ℕ × Param))
    → k < length ps → n ≡ k → moved (param_view (get_or ps k d)) n ns ≡ false
    → done ++ addressed_params k (params_view (drop k ps)) ns ≡ whole → done ++ addressed_params (k + 1) (params_view (drop (k + 1) ps)) ns ≡ whole
further_left k n ps ns done d whole h same not_ so_far = ap (λ l. done ++ l) (sym (further_here k ps ns d false h (ap (λ j. moved (param_view (get_or ps k d)) j ns) (sym same) ∙ not_))) ∙ so_far

-- the number of a parameter
table_here : (k next : ℕ) (ps : List CodeParam) (ns : List ℕ) (d : CodeParam) (b : Bool) → k < length ps → moved (param_view (get_or ps k d)) k ns ≡ b
    → table_from k next (params_view (drop k ps)) ns
    ≡ (if b then next ∷ table_from (k + 1) (next + 1) (params_view (drop (k + 1) ps)) ns else k ∷ table_from (k + 1) next (params_view (drop (k + 1) ps)) ns)
table_here k next ps ns d b h is =
    at_drop_more (λ l. table_from k next (params_view l) ns) ps k d h
    ∙ ap (λ t. if t then next ∷ table_from (1 + k) (1 + next) (params_view (drop (k + 1) ps)) ns else k ∷ table_from (1 + k) next (params_view (drop (k + 1) ps)) ns) is
    ∙ one_on (λ j. if b then next ∷ table_from j (1 + next) (params_view (drop (k + 1) ps)) ns else k ∷ table_from j next (params_view (drop (k + 1) ps)) ns) k
    ∙ one_on (λ j. if b then next ∷ table_from (k + 1) j (params_view (drop (k + 1) ps)) ns else k ∷ table_from (k + 1) next (params_view (drop (k + 1) ps)) ns) next

pub table_taken : (k n next after : ℕ) (ps : List CodeParam) (ns all new : List ℕ) (d : CodeParam) (whole : List ℕ)
    → k < length ps → n ≡ k → moved (param_view (get_or ps k d)) n ns ≡ true → after ≡ next + 1 → new ≡ all ++ next ∷ []
    → all ++ table_from k next (params_view (drop k ps)) ns ≡ whole → new ++ table_from (k + 1) after (params_view (drop (k + 1) ps)) ns ≡ whole
table_taken k n next after ps ns all new d whole h same there more is so_far =
    ap (λ j. new ++ table_from (k + 1) j (params_view (drop (k + 1) ps)) ns) more
    ∙ pushed all (table_from k next (params_view (drop k ps)) ns) new (table_from (k + 1) (next + 1) (params_view (drop (k + 1) ps)) ns) next is
    (table_here k next ps ns d true h (ap (λ j. moved (param_view (get_or ps k d)) j ns) (sym same) ∙ there)) ∙ so_far

pub table_left : (k n next : ℕ) (ps : List CodeParam) (ns all new : List ℕ) (d : CodeParam) (whole : List ℕ)
    → k < length ps → n ≡ k → moved (param_view (get_or ps k d)) n ns ≡ false → new ≡ all ++ n ∷ []
    → all ++ table_from k next (params_view (drop k ps)) ns ≡ whole → new ++ table_from (k + 1) next (params_view (drop (k + 1) ps)) ns ≡ whole
table_left k n next ps ns all new d whole h same not_ is so_far =
    pushed all (table_from k next (params_view (drop k ps)) ns) new (table_from (k + 1) next (params_view (drop (k + 1) ps)) ns) k (is ∙ ap (λ j. all ++ j ∷ []) same)
    (table_here k next ps ns d false h (ap (λ j. moved (param_view (get_or ps k d)) j ns) (sym same) ∙ not_)) ∙ so_far

-- a local of a type
pub other_more : (n after i : ℕ) (ts : List CType) (ns : List ℕ) (all new : List CodeLocal) (x : CodeLocal) (d : CType) (whole : List Local)
    → i < length ts → after ≡ n + 1 → new ≡ all ++ x ∷ [] → type_view x.ty ≡ type_view (get_or ts i d) → x.in_memory ≡ (is_block (type_view (get_or ts i d)) || is_in n ns)
    → locals_view all ++ locals_from n ns (map type_view (drop i ts)) ≡ whole → locals_view new ++ locals_from after ns (map type_view (drop (i + 1) ts)) ≡ whole
other_more n after i ts ns all new x d whole h more is ty mem so_far =
    let t = type_view (get_or ts i d) in
    let y : Local = record { ty = t; in_memory = is_block t || is_in n ns } in
    let seen : local_view x ≡ y = ap (λ s. record { ty = s; in_memory = x.in_memory }) ty ∙ ap (λ b. record { ty = t; in_memory = b }) mem in
    let made : locals_view new ≡ locals_view all ++ y ∷ [] = ap locals_view is ∙ map-append local_view all (x ∷ []) ∙ ap (λ z. locals_view all ++ z ∷ []) seen in
    let here : locals_from n ns (map type_view (drop i ts)) ≡ y ∷ locals_from (n + 1) ns (map type_view (drop (i + 1) ts)) =
    at_drop_more (λ l. locals_from n ns (map type_view l)) ts i d h ∙ one_on (λ j. y ∷ locals_from j ns (map type_view (drop (i + 1) ts))) n in
    ap (λ j. locals_view new ++ locals_from j ns (map type_view (drop (i + 1) ts))) more
    ∙ pushed (locals_view all) (locals_from n ns (map type_view (drop i ts))) (locals_view new) (locals_from (n + 1) ns (map type_view (drop (i + 1) ts))) y made here ∙ so_far

-- all locals: the parameters, the further ones and the others
pub locals_are : (n : ℕ) (types behind : List CType) (ns : List ℕ) (a b d ab abd : List CodeLocal) (x y : List Local) → locals_view a ≡ x → locals_view b ≡ y
    → locals_view d ≡ locals_from n ns (map type_view behind) → behind ≡ drop n types → ab ≡ a ++ b → abd ≡ ab ++ d
    → locals_view abd ≡ x ++ y ++ locals_from n ns (drop n (map type_view types))
locals_are n types behind ns a b d ab abd x y p q r s e f =
    ap locals_view f ∙ map-append local_view ab d
    ∙ ap (λ l. l ++ locals_view d) (ap locals_view e ∙ map-append local_view a b)
    ∙ ap (λ l. (l ++ locals_view b) ++ locals_view d) p
    ∙ ap (λ l. (x ++ l) ++ locals_view d) q
    ∙ ap (λ l. (x ++ y) ++ l) (r ∙ ap (λ ts. locals_from n ns (map type_view ts)) s ∙ ap (locals_from n ns) (sym (drop-map type_view n types)))

-- the declaration of a further local
pub followed_push : (all : List CodeStmt) (s : CodeStmt) (rest : Stmts) → followed (all ++ s ∷ []) rest ≡ followed all (more_stmts (stmt_view s) rest)
followed_push [] s rest = refl
followed_push (x ∷ all) s rest = ap (more_stmts (stmt_view x)) (followed_push all s rest)

pub copy_more : (params i number : ℕ) (xs : List CodeFurther) (all new : List CodeStmt) (d : CodeFurther) (whole : Stmts) (body : Stmts)
    → i < length xs → number ≡ params + i → ((b : Stmts) → followed new b ≡ followed all (more_stmts (copy_of number (further_view (get_or xs i d))) b))
    → followed all (copies params i (furthers_view (drop i xs)) body) ≡ whole → followed new (copies params (i + 1) (furthers_view (drop (i + 1) xs)) body) ≡ whole
copy_more params i number xs all new d whole body h num is so_far =
    let here : copies params i (furthers_view (drop i xs)) body ≡ more_stmts (copy_of (params + i) (further_view (get_or xs i d))) (copies params (i + 1) (furthers_view (drop (i + 1) xs)) body) =
    at_drop_more (λ l. copies params i (furthers_view l) body) xs i d h
    ∙ one_on (λ j. more_stmts (copy_of (params + i) (further_view (get_or xs i d))) (copies params j (furthers_view (drop (i + 1) xs)) body)) i in
    is (copies params (i + 1) (furthers_view (drop (i + 1) xs)) body)
    ∙ ap (λ j. followed all (more_stmts (copy_of j (further_view (get_or xs i d))) (copies params (i + 1) (furthers_view (drop (i + 1) xs)) body))) num
    ∙ ap (followed all) (sym here) ∙ so_far

followed_is : (cs bs : List CodeStmt) → stmts_of (map stmt_view (cs ++ bs)) ≡ followed cs (stmts_of (map stmt_view bs))
followed_is [] bs = refl
followed_is (c ∷ cs) bs = ap (more_stmts (stmt_view c)) (followed_is cs bs)

-- ---- what the table says

other_number : (m k : ℕ) → m < k → nat_eq m k ≡ false
other_number m k h = grind (arith, nat_tests)

-- a number before those of the parameters is among none of them
none_before : (m k : ℕ) (ps : List Param) (ns : List ℕ) → m < k → place_among m (addressed_params k ps ns) ≡ None
none_before m k [] ns h = refl
none_before m k (p ∷ ps) ns h = by (moved p k ns) (none_before m (1 + k) ps ns (omega arith))
  where
    by : (b : Bool) → place_among m (addressed_params (1 + k) ps ns) ≡ None
        → place_among m (if b then (k, p) ∷ addressed_params (1 + k) ps ns else addressed_params (1 + k) ps ns) ≡ None
    by true later = ap (λ t. if t then Some 0 else option_map (λ i. 1 + i) (place_among m (addressed_params (1 + k) ps ns))) (other_number m k h) ∙ ap (option_map (λ i. 1 + i)) later
    by false later = later

-- nor is one behind them
none_behind : (m k : ℕ) (ps : List Param) (ns : List ℕ) → k + length ps ≤ m → place_among m (addressed_params k ps ns) ≡ None
none_behind m k [] ns h = refl
none_behind m k (p ∷ ps) ns h = by (moved p k ns) (none_behind m (1 + k) ps ns (omega arith))
  where
    greater : nat_eq m k ≡ false
    greater = (let low : k < m = omega arith in grind (arith, nat_tests))

    by : (b : Bool) → place_among m (addressed_params (1 + k) ps ns) ≡ None
        → place_among m (if b then (k, p) ∷ addressed_params (1 + k) ps ns else addressed_params (1 + k) ps ns) ≡ None
    by true later = ap (λ t. if t then Some 0 else option_map (λ i. 1 + i) (place_among m (addressed_params (1 + k) ps ns))) greater ∙ ap (option_map (λ i. 1 + i)) later
    by false later = later

-- the number of one of the parameters
abbrev entry : (next m : ℕ) → Option ℕ → ℕ
entry next m (Some i) = next + i
entry next m None = m

entry_first : (next m : ℕ) (o : Option ℕ) → o ≡ None → entry next m o ≡ m
entry_first next m (Some i) h = cc
entry_first next m None h = refl

entry_later : (next m : ℕ) (o : Option ℕ) → entry (1 + next) m o ≡ entry next m (option_map (λ i. 1 + i) o)
entry_later next m (Some i) = omega arith
entry_later next m None = refl

listed : (k next j m : ℕ) (ps : List Param) (ns : List ℕ) → m ≡ k + j → j < length ps → slice_get (table_from k next ps ns) j ≡ Some (entry next m (place_among m (addressed_params k ps ns)))
listed k next j m [] ns e h = absurd (omega arith)
listed k next zero m (p ∷ ps) ns e h = by (moved p k ns)
  where
    same : m ≡ k
    same = omega arith

    equal : nat_eq m k ≡ true
    equal = grind (arith, nat_tests)

    by : (b : Bool) → slice_get (if b then next ∷ table_from (1 + k) (1 + next) ps ns else k ∷ table_from (1 + k) next ps ns) zero
        ≡ Some (entry next m (place_among m (if b then (k, p) ∷ addressed_params (1 + k) ps ns else addressed_params (1 + k) ps ns)))
    by true = ap Some ((let z : next ≡ next + 0 = omega arith in z) ∙ ap (λ t. entry next m (if t then Some 0 else option_map (λ i. 1 + i) (place_among m (addressed_params (1 + k) ps ns)))) (sym equal))
    by false = ap Some (sym same ∙ sym (entry_first next m _ (none_before m (1 + k) ps ns (omega arith))))
listed k next (suc j) m (p ∷ ps) ns e h = by (moved p k ns) (listed (1 + k) (1 + next) j m ps ns further_on less) (listed (1 + k) next j m ps ns further_on less)
  where
    less : j < length ps
    less = omega arith

    further_on : m ≡ (1 + k) + j
    further_on = omega arith

    differs : nat_eq m k ≡ false
    differs = grind (arith, nat_tests)

    by : (b : Bool)
        → slice_get (table_from (1 + k) (1 + next) ps ns) j ≡ Some (entry (1 + next) m (place_among m (addressed_params (1 + k) ps ns)))
        → slice_get (table_from (1 + k) next ps ns) j ≡ Some (entry next m (place_among m (addressed_params (1 + k) ps ns)))
        → slice_get (if b then next ∷ table_from (1 + k) (1 + next) ps ns else k ∷ table_from (1 + k) next ps ns) (suc j)
        ≡ Some (entry next m (place_among m (if b then (k, p) ∷ addressed_params (1 + k) ps ns else addressed_params (1 + k) ps ns)))
    by true first second = first ∙ ap Some (entry_later next m (place_among m (addressed_params (1 + k) ps ns))
        ∙ ap (λ t. entry next m (if t then Some 0 else option_map (λ i. 1 + i) (place_among m (addressed_params (1 + k) ps ns)))) (sym differs))
    by false first second = second

-- a table has a number for each parameter
unlisted : (k next j : ℕ) (ps : List Param) (ns : List ℕ) → length ps ≤ j → slice_get (table_from k next ps ns) j ≡ None
unlisted k next j [] ns h = refl
unlisted k next zero (p ∷ ps) ns h = absurd (omega arith)
unlisted k next (suc j) (p ∷ ps) ns h = by (moved p k ns) (unlisted (1 + k) (1 + next) j ps ns (omega arith)) (unlisted (1 + k) next j ps ns (omega arith))
  where
    by : (b : Bool) → slice_get (table_from (1 + k) (1 + next) ps ns) j ≡ None → slice_get (table_from (1 + k) next ps ns) j ≡ None
        → slice_get (if b then next ∷ table_from (1 + k) (1 + next) ps ns else k ∷ table_from (1 + k) next ps ns) (suc j) ≡ None
    by true first second = first
    by false first second = second

entry_is : (params further m : ℕ) (o : Option ℕ) → nat_lt m params ≡ true → entry params m o ≡ or_number params further m o
entry_is params further m (Some i) h = refl
entry_is params further m None h = ap (λ t. if t then m else m + further) (sym h)

number_by : (ps : List Param) (ns : List ℕ) (m : ℕ) (b : Bool) → nat_lt m (length ps) ≡ b
    → or_more (length (addressed_params 0 ps ns)) m (slice_get (table_from 0 (length ps) ps ns) m) ≡ or_number (length ps) (length (addressed_params 0 ps ns)) m (place_among m (addressed_params 0 ps ns))
number_by ps ns m true h =
    let less : m < length ps = grind (arith, nat_tests) in
    ap (or_more (length (addressed_params 0 ps ns)) m) (listed 0 (length ps) m m ps ns (omega arith) less) ∙ entry_is (length ps) (length (addressed_params 0 ps ns)) m (place_among m (addressed_params 0 ps ns)) h
number_by ps ns m false h =
    let past : length ps ≤ m = grind (arith, nat_tests) in
    ap (or_more (length (addressed_params 0 ps ns)) m) (unlisted 0 (length ps) m ps ns past) ∙ ap (λ t. if t then m else m + length (addressed_params 0 ps ns)) (sym h)
    ∙ ap (or_number (length ps) (length (addressed_params 0 ps ns)) m) (sym (none_behind m 0 ps ns (omega arith)))

pub numbers_are : (ps : List Param) (ns : List ℕ) (m : ℕ) → or_more (length (addressed_params 0 ps ns)) m (slice_get (table_from 0 (length ps) ps ns) m) ≡ number_of (length ps) (addressed_params 0 ps ns) m
numbers_are ps ns m = number_by ps ns m (nat_lt m (length ps)) refl

-- ---- the function

-- the body, behind the declarations of the further locals
pub body_is : (f : ℕ → ℕ) (count : ℕ) (fs : List CodeFurther) (body bs cs all : List CodeStmt)
    → map stmt_view bs ≡ map (λ s. renumbered_stmt f (stmt_view s)) body
    → ((b : Stmts) → followed cs b ≡ copies count 0 (furthers_view fs) b)
    → all ≡ cs ++ bs
    → stmts_of (map stmt_view all) ≡ copies count 0 (furthers_view fs) (renumbered_stmts f (stmts_of (map stmt_view body)))
body_is f count fs body bs cs all renumbered_ made is =
    ap (λ l. stmts_of (map stmt_view l)) is ∙ followed_is cs bs ∙ ap (λ l. followed cs (stmts_of l)) renumbered_ ∙ ap (followed cs) (stmts_renumbered f body)
    ∙ made (renumbered_stmts f (stmts_of (map stmt_view body)))

-- the same where there are no further locals: the body alone
pub body_alone : (f : ℕ → ℕ) (count : ℕ) (fs : List CodeFurther) (body bs : List CodeStmt)
    → length fs ≡ 0
    → map stmt_view bs ≡ map (λ s. renumbered_stmt f (stmt_view s)) body
    → stmts_of (map stmt_view bs) ≡ copies count 0 (furthers_view fs) (renumbered_stmts f (stmts_of (map stmt_view body)))
body_alone f count [] body bs none renumbered_ = ap stmts_of renumbered_ ∙ stmts_renumbered f body
body_alone f count (x ∷ fs) body bs none renumbered_ = absurd (omega (arith, none))

-- the function, as what is made of the parameters that are in memory, and of the other locals
abbrev made_of : List Param → List (ℕ × Param) → List Local → Ty → Stmts → Func
made_of ps fs others r b = func (length ps) (map param_local ps ++ map further_local fs ++ others) r (copies (length ps) 0 fs (renumbered_stmts (number_of (length ps) fs) b))

-- it goes by which numbers are said to have their address taken
pub same_func : (ns ms : List ℕ) → ((k : ℕ) → is_in k ns ≡ is_in k ms) → (ps : List Param) (ts : List Ty) (r : Ty) (b : Stmts) → func_of ps ts ns r b ≡ func_of ps ts ms r b
same_func ns ms h ps ts r b =
    ap (λ fs. made_of ps fs (locals_from (length ps) ns (drop (length ps) ts)) r b) (same_params ns ms h 0 ps)
    ∙ ap (λ l. made_of ps (addressed_params 0 ps ms) l r b) (same_locals ns ms h (length ps) (drop (length ps) ts))

pub func_is : (params : List CodeParam) (types : List CType) (ns : List ℕ) (r : Ty) (body : List CodeStmt) (ls : List CodeLocal) (b : Stmts) (numbers : Numbers) (fs : List CodeFurther) (count : ℕ)
    → count ≡ length params
    → furthers_view fs ≡ addressed_params 0 (params_view params) ns
    → numbers.params.items ≡ table_from 0 (length params) (params_view params) ns → numbers.further ≡ length fs
    → locals_view ls ≡ map param_local (params_view params) ++ map further_local (furthers_view fs) ++ locals_from (length params) ns (drop (length params) (map type_view types))
    → b ≡ copies count 0 (furthers_view fs) (renumbered_stmts (new_number numbers) (stmts_of (map stmt_view body)))
    → func (length params) (locals_view ls) r b ≡ func_of (params_view params) (map type_view types) ns r (stmts_of (map stmt_view body))
func_is params types ns r body ls b numbers fs count counted taken listed_ many locals bodied =
    let ps = params_view params in
    let n : length params ≡ length ps = sym (length-map params param_view) in
    let len : length fs ≡ length (addressed_params 0 ps ns) = sym (length-map fs further_view) ∙ ap length taken in
    let number_is : (m : ℕ) → new_number numbers m ≡ number_of (length ps) (addressed_params 0 ps ns) m = (λ m.
    ap (λ t. or_more numbers.further m (slice_get t m)) listed_
    ∙ ap (λ j. or_more j m (slice_get (table_from 0 (length params) ps ns) m)) (many ∙ len)
    ∙ ap (λ j. or_more (length (addressed_params 0 ps ns)) m (slice_get (table_from 0 j ps ns) m)) n
    ∙ numbers_are ps ns m) in
    let numbering : new_number numbers ≡ number_of (length ps) (addressed_params 0 ps ns) = (λ i. λ m. number_is m i) in
    let all_locals : locals_view ls ≡ map param_local ps ++ map further_local (addressed_params 0 ps ns) ++ locals_from (length ps) ns (drop (length ps) (map type_view types)) =
    locals
    ∙ ap (λ l. map param_local ps ++ map further_local l ++ locals_from (length params) ns (drop (length params) (map type_view types))) taken
    ∙ ap (λ j. map param_local ps ++ map further_local (addressed_params 0 ps ns) ++ locals_from j ns (drop j (map type_view types))) n in
    let whole_body : b ≡ copies (length ps) 0 (addressed_params 0 ps ns) (renumbered_stmts (number_of (length ps) (addressed_params 0 ps ns)) (stmts_of (map stmt_view body))) =
    bodied
    ∙ ap (λ j. copies j 0 (furthers_view fs) (renumbered_stmts (new_number numbers) (stmts_of (map stmt_view body)))) (counted ∙ n)
    ∙ ap (λ l. copies (length ps) 0 l (renumbered_stmts (new_number numbers) (stmts_of (map stmt_view body)))) taken
    ∙ ap (λ g. copies (length ps) 0 (addressed_params 0 ps ns) (renumbered_stmts g (stmts_of (map stmt_view body)))) numbering in
    ap (λ a. func a (locals_view ls) r b) n
    ∙ ap (λ l. func (length ps) l r b) all_locals
    ∙ ap (func (length ps) (map param_local ps ++ map further_local (addressed_params 0 ps ns) ++ locals_from (length ps) ns (drop (length ps) (map type_view types))) r) whole_body
