-- Which conditions code meets by its type, and which decide of the others.
use Rattle.std.proofs.Common.{◌≡◌, ℕ, ◌<◌, ◌≤◌, List, [], ◌∷◌, length, Bool, true, false, ◌&&◌, map, refl, sym, ap, ◌∙◌}
use Rattle.std.specs.Prelude.{nat_le, slice_get}
use Rattle.std.specs.List.{list_all}
use Rattle.std.proofs.lemmas.Bool.{le-leb, lt-leb}
use Rattle.struct_ir.specs.declared.code.IrFunc.{IrFunc}
use Rattle.struct_ir.specs.declared.ir.Ir.{Ir as CodeIr}
use Rattle.struct_ir.specs.Nodes.{Func, Ir}
use Rattle.struct_ir.specs.Valid.{is_valid}
use Rattle.struct_ir.specs.Views.{func_view}
use Rattle.struct_ir.specs.Whole.{takes_nothing, is_init_in, plain_bytes}
use Rattle.struct_ir.specs.WholeViews.{ir_view}
use Rattle.code_file.specs.Calls.{func_filled, ir_filled}
use Rattle.code_file.specs.Conditions.{has_parameters, ir_is_aligned, is_lawful, meets}
use Rattle.code_load.specs.inner.Fills.{is_whole}

pub and_no : (a b : Bool) → b ≡ false → (a && b) ≡ false
and_no true b e = e
and_no false b e = refl

pub and_yes : (a b : Bool) → a ≡ true → b ≡ true → (a && b) ≡ true
and_yes a b d e = λ i. d i && e i

-- ---- by its type

have_room : (fs : List IrFunc) → list_all has_parameters (map func_view fs) ≡ true
have_room [] = refl
have_room (f ∷ fs) = and_yes (nat_le f.params f.temps) (list_all has_parameters (map func_view fs)) (le-leb f.params f.temps f.params_are_registers) (have_room fs)

left_over : (v al : Bool) → ((v && true) && ((true && true) && (true && al))) ≡ (v && al)
left_over true al = refl
left_over false al = refl

of_parts : (v t h i p al : Bool) → t ≡ true → h ≡ true → i ≡ true → p ≡ true → ((v && t) && ((h && i) && (p && al))) ≡ (v && al)
of_parts v t h i p al te he ie pe = (λ k. (v && te k) && ((he k && ie k) && (pe k && al))) ∙ left_over v al

-- code is lawful exactly where it is valid and aligned
pub by_its_type : (x : CodeIr) → (is_valid (ir_view x) && ir_is_aligned (ir_view x)) ≡ is_lawful (ir_view x)
by_its_type x =
    let p = ir_view x in
    sym (of_parts (is_valid p) (takes_nothing (slice_get p.funcs p.main)) (list_all has_parameters p.funcs) (list_all (λ g. is_init_in (length p.literals) g.init) p.globals)
    (nat_le (plain_bytes p.globals p.literals) 1048576) (ir_is_aligned p)
    x.main_takes_nothing (have_room x.funcs.items) x.literals_are_there (le-leb (plain_bytes p.globals p.literals) 1048576 x.fits_the_plain_area))

-- ---- where it has no such type

same_room : (fs : List Func) → list_all has_parameters (map func_filled fs) ≡ list_all has_parameters fs
same_room [] = refl
same_room (f ∷ fs) = ap (λ b. nat_le f.params f.temps && b) (same_room fs)

no_room_in : (a h b d : Bool) → h ≡ false → (a && ((h && b) && d)) ≡ false
no_room_in a h b d e = and_no a ((h && b) && d) (ap (λ x. (x && b) && d) e)

-- too many parameters
pub without_registers : (code : Ir) → list_all has_parameters code.funcs ≡ false → is_lawful (ir_filled code) ≡ false
without_registers code e =
    let p = ir_filled code in
    no_room_in (is_valid p && takes_nothing (slice_get p.funcs p.main)) (list_all has_parameters p.funcs) (list_all (λ g. is_init_in (length p.literals) g.init) p.globals)
    (nat_le (plain_bytes p.globals p.literals) 1048576 && ir_is_aligned p) (same_room code.funcs ∙ e)

no_part : (v t h i p al : Bool) → (t && (i && p)) ≡ false → ((v && t) && ((h && i) && (p && al))) ≡ false
no_part v true h true p al e = and_no (v && true) ((h && true) && (p && al)) (and_no (h && true) (p && al) (ap (λ x. x && al) e))
no_part v true h false p al e = and_no (v && true) ((h && false) && (p && al)) (ap (λ x. x && (p && al)) (and_no h false refl))
no_part v false h i p al e = ap (λ x. x && ((h && i) && (p && al))) (and_no v false refl)

-- parts that aren't there
pub not_whole : (p : Ir) → is_whole p.globals p.literals p.funcs p.main ≡ false → is_lawful p ≡ false
not_whole p e =
    no_part (is_valid p) (takes_nothing (slice_get p.funcs p.main)) (list_all has_parameters p.funcs) (list_all (λ g. is_init_in (length p.literals) g.init) p.globals)
    (nat_le (plain_bytes p.globals p.literals) 1048576) (ir_is_aligned p) e

-- ---- with the length

pub too_long : (n : ℕ) (code : Ir) → 67108864 < n → meets n code ≡ false
too_long n code lt = and_no (is_lawful (ir_filled code)) (nat_le n 67108864) (lt-leb n 67108864 lt)

pub unlawful : (n : ℕ) (code : Ir) → is_lawful (ir_filled code) ≡ false → meets n code ≡ false
unlawful n code e = ap (λ b. b && nat_le n 67108864) e

pub lawful : (n : ℕ) (code p : Ir) → p ≡ ir_filled code → is_lawful p ≡ true → n ≤ 67108864 → meets n code ≡ true
lawful n code p e l le = and_yes (is_lawful (ir_filled code)) (nat_le n 67108864) (sym (ap is_lawful e) ∙ l) (le-leb n 67108864 le)
