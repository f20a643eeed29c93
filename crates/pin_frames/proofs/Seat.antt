-- Safepoints that are put in change nothing else.
use Rattle.std.proofs.Common.{◌≡◌, ℕ, List, Bool, true, false, refl, sym, ap, subst, ◌∙◌}
use Rattle.struct_ir.specs.Nodes.{Act, set, call, step, look, safepoint, begin_object, end_object, plain, if_, loop, break_, next_, ret, Nodes, no_nodes, more_nodes}
use Rattle.struct_ir.specs.Erased.{is_kept, erased}
use Rattle.pin_flow.specs.Marks.{Mark, AllPaths, bad, Each}
use Rattle.pin_flow.specs.Looks.{act_looks, act_assigns, some_act, loops_assign}
use Rattle.pin_flow.proofs.Strip.{sifted, some_sifted, loops_sifted, each_sifted, each_back, erased_sifted}
use Rattle.pin_frames.specs.inner.Place.{stop, act_seats, seated}

abbrev pub not_safe : Act → Bool
not_safe (set to calc) = true
not_safe (call c) = true
not_safe (step x) = true
not_safe (look slot base) = true
not_safe (safepoint slots) = false
not_safe (begin_object i) = true
not_safe (end_object i) = true

act_same : (p : ℕ) (a : Act) (rest rest' : Nodes) → sifted not_safe rest' ≡ sifted not_safe rest → sifted not_safe (act_seats p a rest') ≡ sifted not_safe (more_nodes (plain p a) rest)
act_same p (set to calc) rest rest' e = ap (more_nodes (plain p (set to calc))) e
act_same p (call c) rest rest' e = ap (more_nodes (plain p (call c))) e
act_same p (step x) rest rest' e = ap (more_nodes (plain p (step x))) e
act_same p (look slot base) rest rest' e = ap (more_nodes (plain p (look slot base))) e
act_same p (safepoint slots) rest rest' e = e
act_same p (begin_object j) rest rest' e = ap (more_nodes (plain p (begin_object j))) e
act_same p (end_object j) rest rest' e = ap (more_nodes (plain p (end_object j))) e

seated_same : (ns tail : Nodes) → sifted not_safe tail ≡ no_nodes → sifted not_safe (seated ns tail) ≡ sifted not_safe ns
seated_same no_nodes tail h = h
seated_same (more_nodes (plain p a) rest) tail h = act_same p a rest (seated rest tail) (seated_same rest tail h)
seated_same (more_nodes (if_ p x one other) rest) tail h = λ i. more_nodes (if_ p x (seated_same one no_nodes refl i) (seated_same other no_nodes refl i)) (seated_same rest tail h i)
seated_same (more_nodes (loop p body latch) rest) tail h = λ i. more_nodes (loop p (seated_same body no_nodes refl i) (seated_same latch (more_nodes (stop p) no_nodes) refl i)) (seated_same rest tail h i)
seated_same (more_nodes (break_ p) rest) tail h = ap (more_nodes (break_ p)) (seated_same rest tail h)
seated_same (more_nodes (next_ p) rest) tail h = ap (more_nodes (next_ p)) (seated_same rest tail h)
seated_same (more_nodes (ret p x) rest) tail h = ap (more_nodes (ret p x)) (seated_same rest tail h)

-- the whole code with its safepoints
abbrev pub sat : Nodes → Nodes
sat ns = seated ns no_nodes

sat_same : (ns : Nodes) → sifted not_safe (sat ns) ≡ sifted not_safe ns
sat_same ns = seated_same ns no_nodes refl

fewer : (a : Act) → not_safe a ≡ false → is_kept a ≡ false
fewer (set to calc) e = absurd cc
fewer (call c) e = absurd cc
fewer (step x) e = absurd cc
fewer (look s base) e = absurd cc
fewer (safepoint slots) e = refl
fewer (begin_object i) e = absurd cc
fewer (end_object i) e = absurd cc

pub erase_seated : (ns : Nodes) → erased (sat ns) ≡ erased ns
erase_seated ns = sym (erased_sifted not_safe fewer (sat ns)) ∙ (ap erased (sat_same ns) ∙ erased_sifted not_safe fewer ns)

-- what is so of each safepoint
pub of_safe : (P : Act → Type 0) → ((slots : List ℕ) → P (safepoint slots)) → (a : Act) → not_safe a ≡ false → P a
of_safe P f (set to calc) e = absurd cc
of_safe P f (call c) e = absurd cc
of_safe P f (step x) e = absurd cc
of_safe P f (look s base) e = absurd cc
of_safe P f (safepoint slots) e = f slots
of_safe P f (begin_object i) e = absurd cc
of_safe P f (end_object i) e = absurd cc

pub some_seated : (f : Act → Bool) → ((slots : List ℕ) → f (safepoint slots) ≡ false) → (ns : Nodes) → some_act f (sat ns) ≡ some_act f ns
some_seated f blind ns =
    let b = of_safe (λ a. f a ≡ false) blind in
    sym (some_sifted not_safe f b (sat ns)) ∙ (ap (some_act f) (sat_same ns) ∙ some_sifted not_safe f b ns)

pub each_seated : (m : Mark) → ((slots : List ℕ) (v : Bool) → m (safepoint slots) v ≡ v) → (Q : Act → AllPaths → Type 0) → ((slots : List ℕ) (t : AllPaths) → Q (safepoint slots) t)
    → (ns : Nodes) → Each Q m ns bad → Each Q m (sat ns) bad
each_seated m idle Q known ns e =
    let i = of_safe (λ a. (v : Bool) → m a v ≡ v) idle in
    each_back not_safe m i Q (of_safe (λ a. (t : AllPaths) → Q a t) known) (sat ns) bad
    (subst (λ (x : Nodes). Each Q m x bad) (sym (sat_same ns)) (each_sifted not_safe m i Q ns bad e))

pub loops_seated : (b : ℕ) (ns : Nodes) → loops_assign b (sat ns) ≡ loops_assign b ns
loops_seated b ns =
    let looks = of_safe (λ a. act_looks b a ≡ false) (λ slots. refl) in
    let assigns = of_safe (λ a. act_assigns b a ≡ false) (λ slots. refl) in
    sym (loops_sifted not_safe b looks assigns (sat ns)) ∙ (ap (loops_assign b) (sat_same ns) ∙ loops_sifted not_safe b looks assigns ns)
