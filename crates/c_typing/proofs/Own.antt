-- A context, as a tree's context that holds no more than it.
use Rattle.std.proofs.Common.{◌≡◌, ℕ, zero, suc, ◌+◌, Bool, true, false, ◌||◌, refl, sym, ap, ◌∙◌, subst, arith, List, [], ◌∷◌, Some, slice_get}
use Rattle.c_tree.specs.Typed.{Ty, Local}
use Rattle.c_tree.specs.TypedForm as form
use Rattle.c_typing.specs.Scope.{Context}
use Rattle.c_typing.specs.Numbering.{is_block, is_in, locals_from}
use Rattle.c_typing.proofs.Extending.{Ready, extends_itself}
use Rattle.c_typing.proofs.Elements.{nothing_at}
use Rattle.c_typing.proofs.Carried.{World, Good, Sound, Over}

abbrev pub own : World → Context → form.InScope
own w d = record { structs = d.structs; globals = d.globals; literals = d.literals; funcs = w.funcs; locals = locals_from 0 d.addressed d.locals }

-- a local of a type, by number
abbrev pub as_local : List ℕ → ℕ → Ty → Local
as_local addressed n t = record { ty = t; in_memory = is_block t || is_in n addressed }

pub local_at : (k : ℕ) (addressed : List ℕ) (ts : List Ty) (n : ℕ) (t : Ty) → slice_get ts n ≡ Some t → slice_get (locals_from k addressed ts) n ≡ Some (as_local addressed (k + n) t)
local_at k addressed [] n t h = absurd (nothing_at n t h)
local_at k addressed (u ∷ ts) zero t h =
    let e : u ≡ t = cc in
    let f : k ≡ k + 0 = omega arith in
    ap (λ x. Some (as_local addressed k x)) e ∙ ap (λ m. Some (as_local addressed m t)) f
local_at k addressed (u ∷ ts) (suc n) t h =
    let f : (1 + k) + n ≡ k + suc n = omega arith in
    local_at (1 + k) addressed ts n t h ∙ ap (λ m. Some (as_local addressed m t)) f

pub local_is : (k : ℕ) (addressed : List ℕ) (ts : List Ty) (n : ℕ) (l : Local) → slice_get (locals_from k addressed ts) n ≡ Some l → (t : Ty) × (slice_get ts n ≡ Some t) × (l ≡ as_local addressed (k + n) t)
local_is k addressed [] n l h = absurd (nothing_at n l h)
local_is k addressed (u ∷ ts) zero l h =
    let f : k ≡ k + 0 = omega arith in
    let e : as_local addressed k u ≡ l = cc in
    (u, refl, sym e ∙ ap (λ m. as_local addressed m u) f)
local_is k addressed (u ∷ ts) (suc n) l h =
    let f : (1 + k) + n ≡ k + suc n = omega arith in
    let r = local_is (1 + k) addressed ts n l h in
    (r.0, r.1, r.2 ∙ ap (λ m. as_local addressed m r.0) f)

pub block_in : (l : Local) (addressed : List ℕ) (n : ℕ) (t : Ty) → l ≡ as_local addressed n t → is_block l.ty ≡ true → l.in_memory ≡ true
block_in l addressed n t e b =
    let ty : l.ty ≡ t = ap (λ (x : Local). x.ty) e in
    let m : l.in_memory ≡ (is_block t || is_in n addressed) = ap (λ (x : Local). x.in_memory) e in
    m ∙ ap (λ x. x || is_in n addressed) (sym (ap is_block ty) ∙ b)

or_true : (a b : Bool) → b ≡ true → (a || b) ≡ true
or_true true b h = refl
or_true false b h = h

pub own_sound : (w : World) (d : Context) → Good w d → Sound (own w d)
own_sound w d g = record {
  small = λ n l h. (g.layouts n l h).small;
  members = g.members;
  globals = λ n t h. (g.globals n t h).1;
  locals = λ n l h. let r = local_is 0 d.addressed d.locals n l h in subst (Ready d.structs) (sym (ap (λ (x : Local). x.ty) r.2)) (g.locals n r.0 r.1).1;
  blocks = λ n l h b. let r = local_is 0 d.addressed d.locals n l h in block_in l d.addressed (0 + n) r.0 r.2 b;
  literals = g.literals;
  results = g.results;
}

pub over_own : (w : World) (d : Context) → Good w d → Over w d (own w d)
over_own w d g = record {
  sound = own_sound w d g;
  funcs = refl;
  structs = extends_itself d.structs;
  globals = λ n t h. h;
  literals = λ n bs h. h;
  locals = λ n t h. (as_local d.addressed (0 + n) t, local_at 0 d.addressed d.locals n t h, refl);
  addressed = λ n l a h.
      let r = local_is 0 d.addressed d.locals n l h in
      let f : 0 + n ≡ n = omega arith in
      ap (λ (x : Local). x.in_memory) r.2 ∙ or_true (is_block r.0) (is_in (0 + n) d.addressed) (ap (λ m. is_in m d.addressed) f ∙ a);
}
