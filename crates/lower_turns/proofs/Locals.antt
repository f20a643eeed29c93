-- Where locals live: in registers, or in stack objects of their own.
use Rattle.std.proofs.Common.{◌≡◌, ℕ, zero, suc, Bool, true, false, List, [], ◌∷◌, take, map, Option, Some, None, refl, ap, subst, ◌∙◌}
use Rattle.std.specs.Prelude.{slice_get}
use Rattle.std.specs.List.{AllByRecursion}
use Rattle.std.proofs.lemmas.Option.{same_Some}
use Rattle.c_tree.specs.Typed as tree
use Rattle.c_tree.specs.TypedForm.{IsScalar, IsLocal, IsFunc, IsTyped, IsTypedNode, IsLvalue, IsInMemory, IsMember, signature_of}
use Rattle.c_meaning.specs.Turns.{is_block}
use Rattle.lower_forms.specs.Forms.{home, home_or_none}
use Rattle.lower_forms.specs.Programs.{home_if, next_home, homes_from}
use Rattle.lower_turns.proofs.Relation.{Around, fr, ctx, IsPlace}
use Rattle.lower_turns.proofs.Operands.{AllScalar}
use Rattle.lower_turns.proofs.Calls.{all_at}

-- ---- homes

home_at : (next : ℕ) (ls : List tree.Local) (i : ℕ) (l : tree.Local) → slice_get ls i ≡ Some l → (k : ℕ) × (home_or_none (slice_get (homes_from next ls) i) ≡ home_if l.in_memory k)
home_at next [] i l e = absurd cc
home_at next (x ∷ ls) zero l e = (next, ap (λ (z : tree.Local). home_if z.in_memory next) (same_Some x l e))
home_at next (x ∷ ls) (suc i) l e = home_at (next_home x.in_memory next) ls i l e

no_home_past : (next : ℕ) (ls : List tree.Local) (i : ℕ) → slice_get ls i ≡ None → home_or_none (slice_get (homes_from next ls) i) ≡ None
no_home_past next [] i e = refl
no_home_past next (x ∷ ls) zero e = absurd cc
no_home_past next (x ∷ ls) (suc i) e = no_home_past (next_home x.in_memory next) ls i e

module _ (t : tree.Typed) (n : ℕ) (f : tree.Func) (a : Around) where
  pub in_memory_home : (i : ℕ) (l : tree.Local) → slice_get f.locals i ≡ Some l → l.in_memory ≡ true → (k : ℕ) × (home (fr t n f a) i ≡ Some k)
  in_memory_home i l e m = let h = home_at 0 f.locals i l e in (h.0, h.1 ∙ ap (λ b. home_if b h.0) m)

  pub in_register_home : (i : ℕ) (l : tree.Local) → slice_get f.locals i ≡ Some l → l.in_memory ≡ false → home (fr t n f a) i ≡ None
  in_register_home i l e m = let h = home_at 0 f.locals i l e in h.1 ∙ ap (λ b. home_if b h.0) m

  by_memory : (o : Option tree.Local) (i : ℕ) (b : Bool) → slice_get f.locals i ≡ o → is_block o ≡ b → (b ≡ false → home (fr t n f a) i ≡ None) × (b ≡ true → (k : ℕ) × (home (fr t n f a) i ≡ Some k))
  by_memory None i b e h = (λ z. no_home_past 0 f.locals i e, λ z. absurd (let c : false ≡ true = h ∙ z in cc))
  by_memory (Some l) i b e h = (λ z. in_register_home i l e (h ∙ z), λ z. in_memory_home i l e (h ∙ z))

  -- a local that is no block of the source has no stack object, and one that is has one
  pub register_is : (i : ℕ) → is_block (slice_get f.locals i) ≡ false → home (fr t n f a) i ≡ None
  register_is i h = (by_memory (slice_get f.locals i) i false refl h).0 refl

  pub block_is : (i : ℕ) → is_block (slice_get f.locals i) ≡ true → (k : ℕ) × (home (fr t n f a) i ≡ Some k)
  block_is i h = (by_memory (slice_get f.locals i) i true refl h).1 refl

  -- ---- which lvalues are in memory

  struct_in_memory : (structs : List tree.Layout) (l : tree.Local) (s : ℕ) → IsLocal structs l → l.ty ≡ tree.structure s → (b : Bool) → l.in_memory ≡ b → l.in_memory ≡ true
  struct_in_memory structs l s is e true m = m
  struct_in_memory structs l s is e false m = elim (subst IsScalar e (is.scalar m)) [ ]

  struct_place : (structs : List tree.Layout) (node : tree.ExprNode) (s : ℕ) → AllByRecursion (IsLocal t.structs) f.locals → IsTypedNode (ctx t n f) (tree.structure s) node → IsLvalue node → IsPlace (fr t n f a) node
  struct_place structs (tree.literal i) s all h v = tt
  struct_place structs (tree.global i) s all h v = tt
  struct_place structs (tree.local i) s all h v =
      let is = all_at (IsLocal t.structs) f.locals i h.0 all h.1 in
      in_memory_home i h.0 h.1 (struct_in_memory t.structs h.0 s is h.2 h.0.in_memory refl)
  struct_place structs (tree.deref e) s all h v = tt
  struct_place structs (tree.member e i) s all h v = tt
  struct_place structs node s all h v = elim v [ ]

  member_place_in : (ty member_ty : tree.Ty) (m : ℕ) (node : tree.ExprNode) → AllByRecursion (IsLocal t.structs) f.locals → IsTypedNode (ctx t n f) ty node → IsLvalue node → IsMember t.structs ty m member_ty → IsPlace (fr t n f a) node
  member_place_in (tree.structure s) member_ty m node all h v is = struct_place t.structs node s all h v
  member_place_in ty member_ty m node all h v is = elim is [ ]

  -- a struct is in memory
  pub member_place : (e : tree.Expr) (m : ℕ) (ty : tree.Ty) → AllByRecursion (IsLocal t.structs) f.locals → IsTyped (ctx t n f) e → IsLvalue (tree.node_of e) → IsMember t.structs (tree.type_of e) m ty → IsPlace (fr t n f a) (tree.node_of e)
  member_place (tree.at place ty' node) m ty all h v is = member_place_in ty' ty m node all h v is

  pub struct_is_place : (e : tree.Expr) (s : ℕ) → AllByRecursion (IsLocal t.structs) f.locals → IsTyped (ctx t n f) e → tree.type_of e ≡ tree.structure s → IsLvalue (tree.node_of e) → IsPlace (fr t n f a) (tree.node_of e)
  struct_is_place (tree.at place ty node) s all h e v = struct_place t.structs node s all (subst (λ z. IsTypedNode (ctx t n f) z node) e h) v

  pub memory_place : (node : tree.ExprNode) → IsInMemory (ctx t n f) node → IsPlace (fr t n f a) node
  memory_place (tree.literal i) h = tt
  memory_place (tree.global i) h = tt
  memory_place (tree.local i) h = in_memory_home i h.0 h.1 h.2
  memory_place (tree.deref e) h = tt
  memory_place (tree.member e i) h = tt
  memory_place node h = elim h [ ]

-- ---- parameters are numbers and pointers

params_scalar : (structs : List tree.Layout) (k : ℕ) (ls : List tree.Local) → AllByRecursion (IsLocal structs) ls → AllByRecursion (λ (l : tree.Local). l.in_memory ≡ false) (take k ls) → AllScalar (map (λ l. l.ty) (take k ls))
params_scalar structs zero ls all h = tt
params_scalar structs (suc k) [] all h = tt
params_scalar structs (suc k) (l ∷ ls) all h = (all.0.scalar h.0, params_scalar structs k ls all.1 h.1)

pub signature_scalars : (t : tree.Typed) (f : tree.Func) → IsFunc t f → AllScalar (signature_of f).params
signature_scalars t f is = params_scalar t.structs f.params f.locals is.locals is.in_registers
