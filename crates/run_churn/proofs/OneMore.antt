-- One line after the other.
use Rattle.std.proofs.Common.{◌≡◌, ℕ, suc, ◌+◌, ◌*◌, ◌-◌, ◌%◌, ◌<◌, ◌≤◌, List, ◌++◌, append_assoc, append-nil, sym, ap, ◌∙◌, arith}
use Rattle.flat_rules.specs.Draws.{draws, drawn, next_draw}
use Rattle.run_churn.specs.Text.{function, functions, call, calls}

-- one more function is there
pub functions_next : (k n x a b c y : ℕ) (so_far new all : List ℕ) → k < n
    → a ≡ drawn (next_draw x) % 64 → b ≡ 1 + drawn (next_draw (next_draw x)) % 1000 → c ≡ drawn y % 100 → y ≡ next_draw (next_draw (next_draw x))
    → new ≡ so_far ++ function k a b c → so_far ++ functions k (draws (3 * (n - k)) x) ≡ all → new ++ functions (k + 1) (draws (3 * (n - (k + 1))) y) ≡ all
functions_next k n x a b c y so_far new all within a_is b_is c_is y_is new_is is =
    let more : suc (suc (suc (3 * (n - (k + 1))))) ≡ 3 * (n - k) = omega (arith, within) in
    rw (new_is, c_is, y_is, a_is, b_is)
    (append_assoc so_far (function k (drawn (next_draw x) % 64) (1 + drawn (next_draw (next_draw x)) % 1000) (drawn (next_draw (next_draw (next_draw x))) % 100)) _
    ∙ (ap (λ j. so_far ++ functions k (draws j x)) more ∙ is))

-- none is left
pub functions_end : (k n x : ℕ) (so_far all : List ℕ) → n ≤ k → so_far ++ functions k (draws (3 * (n - k)) x) ≡ all → so_far ≡ all
functions_end k n x so_far all past is = let none : 0 ≡ 3 * (n - k) = omega (arith, past) in sym (append-nil so_far) ∙ (ap (λ j. so_far ++ functions k (draws j x)) none ∙ is)

-- one more call is there
pub calls_next : (k n : ℕ) (so_far new all : List ℕ) → k < n → new ≡ so_far ++ call k → so_far ++ calls k (n - k) ≡ all → new ++ calls (k + 1) (n - (k + 1)) ≡ all
calls_next k n so_far new all within new_is is =
    let more : suc (n - (k + 1)) ≡ n - k = omega (arith, within) in
    ap (λ z. z ++ calls (k + 1) (n - (k + 1))) new_is ∙ (append_assoc so_far (call k) _ ∙ (ap (λ j. so_far ++ calls k j) more ∙ is))
