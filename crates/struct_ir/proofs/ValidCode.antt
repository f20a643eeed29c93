-- What calls of valid code come to is in range.
use Rattle.std.proofs.Common.{◌≡◌, ℕ, zero, suc, List, [], ◌∷◌, Option, Some, None, Bool, true, false, ◌&&◌, refl, sym, ap, subst, ◌∙◌}
use Rattle.std.proofs.lemmas.Bool.{and_parts}
use Rattle.std.specs.Prelude.{slice_get, nat_lt}
use Rattle.std.specs.List.{list_all}
use Rattle.struct_ir.specs.Nodes.{Node, plain, if_, loop, break_, next_, ret, no_nodes, more_nodes}
use Rattle.struct_ir.specs.Flow.{Path, entry, on}
use Rattle.struct_ir.specs.Structured.{Position, done, then_, in_body, in_latch, out_of, end_of, kind, leads, here, next, structured}
use Rattle.struct_ir.specs.Instrs.{Instr, acts, unless, jump, round_to, leave, LinearFunc, instrs_if, instrs_of}
use Rattle.struct_ir.specs.Linear.{Spot, instr_here, linear, entry_of}
use Rattle.struct_ir.specs.Valid.{Scope, Around, body_of, latch_of, outside, is_node, are_nodes, scope_of}
use Rattle.struct_ir.specs.ValidCode.{is_instr, code_scope_of, is_here, ValidIsReached, ValidCodeIsReached}

-- ---- structured code

module _ (x : Scope) where
  -- what is still to do is valid
  abbrev Fits : Position → Type 0
  Fits done = Unit {0}
  Fits (then_ ns k) = ((w : Around) × (are_nodes x w ns ≡ true)) × Fits k
  Fits (in_body body latch k) = (are_nodes x body_of body ≡ true) × (are_nodes x latch_of latch ≡ true) × Fits k
  Fits (in_latch body latch k) = (are_nodes x body_of body ≡ true) × (are_nodes x latch_of latch ≡ true) × Fits k

  fits_out : (k : Position) → Fits k → Fits (out_of k)
  fits_out done f = tt
  fits_out (then_ ns k) f = fits_out k f.1
  fits_out (in_body body latch k) f = f.2
  fits_out (in_latch body latch k) f = f.2

  fits_end : (k : Position) → Fits k → Fits (end_of k)
  fits_end done f = tt
  fits_end (then_ ns k) f = fits_end k f.1
  fits_end (in_body body latch k) f = f
  fits_end (in_latch body latch k) f = f

  fits_leads : (n : Node) (w : Around) (k : Position) (c : Bool) → is_node x w n ≡ true → Fits k → Fits (leads n k c)
  fits_leads (plain place a) w k c e f = f
  fits_leads (if_ place temp one other) w k true e f =
      let p = and_parts (nat_lt temp x.temps) (are_nodes x w one && are_nodes x w other) e in ((w, (and_parts (are_nodes x w one) (are_nodes x w other) p.1).0), f)
  fits_leads (if_ place temp one other) w k false e f =
      let p = and_parts (nat_lt temp x.temps) (are_nodes x w one && are_nodes x w other) e in ((w, (and_parts (are_nodes x w one) (are_nodes x w other) p.1).1), f)
  fits_leads (loop place body latch) w k c e f = let p = and_parts (are_nodes x body_of body) (are_nodes x latch_of latch) e in ((body_of, p.0), (p.0, p.1, f))
  fits_leads (break_ place) w k c e f = fits_out k f
  fits_leads (next_ place) w k c e f = fits_end k f
  fits_leads (ret place temp) w k c e f = tt

  fits_next : (k : Position) (c : Bool) → Fits k → Fits (next k c)
  fits_next done c f = tt
  fits_next (then_ no_nodes k) c f = f.1
  fits_next (then_ (more_nodes n rest) k) c f =
      let w = f.0.0 in
      let p = and_parts (is_node x w n) (are_nodes x w rest) f.0.1 in
      fits_leads n w (then_ rest k) c p.0 ((w, p.1), f.1)
  fits_next (in_body body latch k) c f = ((latch_of, f.1), f)
  fits_next (in_latch body latch k) c f = ((body_of, f.0), f)

  fits_path : (start : Position) → Fits start → (w : List Position) (k : Position) → Path structured start w k → Fits k
  fits_path start f _ _ entry = f
  fits_path start f _ _ (on w k c stays before) = fits_next k c (fits_path start f w k before)

  kind_fits : (n : Node) (w : Around) → is_node x w n ≡ true → is_here x (kind n) ≡ true
  kind_fits (plain place a) w e = e
  kind_fits (if_ place temp one other) w e = (and_parts (nat_lt temp x.temps) (are_nodes x w one && are_nodes x w other) e).0
  kind_fits (loop place body latch) w e = refl
  kind_fits (break_ place) w e = refl
  kind_fits (next_ place) w e = refl
  kind_fits (ret place temp) w e = e

  here_fits : (k : Position) → Fits k → is_here x (here k) ≡ true
  here_fits done f = refl
  here_fits (then_ no_nodes k) f = refl
  here_fits (then_ (more_nodes n rest) k) f = kind_fits n f.0.0 ((and_parts (is_node x f.0.0 n) (are_nodes x f.0.0 rest) f.0.1).0)
  here_fits (in_body body latch k) f = refl
  here_fits (in_latch body latch k) f = refl

-- one of a list all of which are so
pub of_all : {A : Type 0} (q : A → Bool) (xs : List A) (n : ℕ) (x : A) → list_all q xs ≡ true → slice_get xs n ≡ Some x → q x ≡ true
of_all q [] n x e at = absurd cc
of_all q (y ∷ xs) zero x e at = let same : y ≡ x = cc in subst (λ z. q z ≡ true) same (and_parts (q y) (list_all q xs) e).0
of_all q (y ∷ xs) (suc n) x e at = of_all q xs n x (and_parts (q y) (list_all q xs) e).1 at

pub valid_is_reached : ValidIsReached
valid_is_reached p valid n f at w k path =
    let all = of_all (λ g. are_nodes (scope_of p g) outside g.nodes) p.funcs n f valid at in
    here_fits (scope_of p f) k (fits_path (scope_of p f) (then_ f.nodes done) ((outside, all), tt) w k path)

-- ---- linear code

instr_fits : (x : Scope) (o : Option Instr) (is : List Instr) (n : ℕ) → list_all (is_instr x) is ≡ true → slice_get is n ≡ o → is_here x (instr_here o) ≡ true
instr_fits x None is n e at = refl
instr_fits x (Some (acts place a)) is n e at = of_all (is_instr x) is n (acts place a) e at
instr_fits x (Some (unless place temp to)) is n e at = of_all (is_instr x) is n (unless place temp to) e at
instr_fits x (Some (jump place to)) is n e at = refl
instr_fits x (Some (round_to place to)) is n e at = refl
instr_fits x (Some (leave place temp)) is n e at = of_all (is_instr x) is n (leave place temp) e at

-- a path stays in its function
stays_in : (funcs : List LinearFunc) (n : ℕ) (w : List Spot) (k : Spot) → Path (linear funcs) (entry_of n) w k → k.function ≡ n
stays_in funcs n _ _ entry = refl
stays_in funcs n _ _ (on w k c stays before) = stays_in funcs n w k before

pub valid_code_is_reached : ValidCodeIsReached
valid_code_is_reached p valid n f at w k path =
    let x = code_scope_of p f in
    let all = of_all (λ g. list_all (is_instr (code_scope_of p g)) g.instrs) p.funcs n f valid at in
    let same : instrs_of p.funcs k.function ≡ f.instrs = ap (instrs_of p.funcs) (stays_in p.funcs n w k path) ∙ ap instrs_if at in
    subst (λ (is : List Instr). is_here x (instr_here (slice_get is k.index)) ≡ true) (sym same) (instr_fits x (slice_get f.instrs k.index) f.instrs k.index all refl)
