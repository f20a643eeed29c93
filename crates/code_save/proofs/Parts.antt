-- What stands behind a tag, and places and steps, as they are written.
use Rattle.std.proofs.Common.{◌≡◌, ℕ, Bool, true, ◌&&◌, List, [], ◌∷◌, map, Option, Some, None, refl, sym, ap, subst}
use Rattle.std.proofs.lemmas.Bool.{and_parts, and_from}
use Rattle.std.specs.Prelude.{is_some}
use Rattle.std.specs.List.{list_all}
use Rattle.c_tree.specs.Typed.{Piece, Init}
use Rattle.c_tree.specs.TypedViews.{piece_view}
use Rattle.struct_ir.specs.Nodes.{Calc, Action, Place}
use Rattle.struct_ir.specs.Views.{place_view, action_view, step_view}
use Rattle.c_tree.specs.declared.typed.Piece.{Piece as CodePiece}
use Rattle.struct_ir.specs.Valid.{is_piece}
use Rattle.struct_ir.specs.declared.code.Place.{Place as CodePlace}
use Rattle.struct_ir.specs.declared.code.StepNode.{StepNode}
use Rattle.formats.specs.Formats.{behind, ◌▸◌, u32, u64, list}
use Rattle.code_file.specs.Numbers.{u32_or_none}
use Rattle.code_file.specs.Calcs.{CalcTag, CalcFields, calc_tag, calc_number, calc_fields, make_calc, calc_parts, calc}
use Rattle.code_file.specs.Actions.{slot_of, make_place, place_parts, place, PieceTag, PieceFields, piece_tag, piece_number, piece_fields, make_piece, piece_parts, piece, ActionTag, ActionFields, action_tag, action_number, action_fields, make_action, action_parts, action, make_step, step_parts, step}
use Rattle.code_file.specs.Files.{InitTag, InitFields, init_tag, init_number, init_fields, make_init, init_parts, init}
use Rattle.code_save.specs.declared.output.Output.{Output}
use Rattle.code_save.specs.inner.Fits.{option_fits, place_fits, action_fits, step_fits}
use Rattle.code_save.specs.inner.Written.{Gains, Wrote}
use Rattle.code_save.proofs.Writing.{weaker, behind_wrote, pair_wrote, seen_wrote, tag_wrote}
use Rattle.code_save.proofs.Tags.{one_calc_tag, calc_again, one_piece_tag, piece_again, one_action_tag, action_again, one_init_tag, init_again}

-- ---- a tag and what is behind it

pub calc_wrote : (x : Calc) (n : ℕ) {a b c : Output} → n ≡ calc_number (calc_parts x).0 → Gains a (n ∷ []) b → Wrote (calc_fields (calc_parts x).0) (calc_parts x).1 true b c → Wrote calc x true a c
unfolding calc
calc_wrote x n e g w =
    seen_wrote (λ (y : (t : CalcTag) × CalcFields t). make_calc y.0 y.1) calc_parts (behind calc_tag calc_fields) x (λ h. calc_again x)
    (behind_wrote {B = CalcFields} calc_tag calc_fields (calc_parts x).0 (calc_parts x).1 (tag_wrote calc_tag (calc_parts x).0 n (one_calc_tag (calc_parts x).0) (ap (λ (k : ℕ). k ∷ []) (sym e)) g) w)

pub piece_wrote : (x : Piece) (n : ℕ) {p : Bool} {a b c : Output} → n ≡ piece_number (piece_parts x).0 → Gains a (n ∷ []) b → Wrote (piece_fields (piece_parts x).0) (piece_parts x).1 p b c → Wrote piece x p a c
unfolding piece
piece_wrote x n e g w =
    seen_wrote (λ (y : (t : PieceTag) × PieceFields t). make_piece y.0 y.1) piece_parts (behind piece_tag piece_fields) x (λ h. piece_again x)
    (behind_wrote {B = PieceFields} piece_tag piece_fields (piece_parts x).0 (piece_parts x).1 (tag_wrote piece_tag (piece_parts x).0 n (one_piece_tag (piece_parts x).0) (ap (λ (k : ℕ). k ∷ []) (sym e)) g) w)

pub action_wrote : (x : Action) (n : ℕ) {p : Bool} {a b c : Output} → n ≡ action_number (action_parts x).0 → Gains a (n ∷ []) b → Wrote (action_fields (action_parts x).0) (action_parts x).1 p b c → Wrote action x p a c
unfolding action
action_wrote x n e g w =
    seen_wrote (λ (y : (t : ActionTag) × ActionFields t). make_action y.0 y.1) action_parts (behind action_tag action_fields) x (λ h. action_again x)
    (behind_wrote {B = ActionFields} action_tag action_fields (action_parts x).0 (action_parts x).1 (tag_wrote action_tag (action_parts x).0 n (one_action_tag (action_parts x).0) (ap (λ (k : ℕ). k ∷ []) (sym e)) g) w)

pub init_wrote : (x : Init) (n : ℕ) {a b c : Output} → n ≡ init_number (init_parts x).0 → Gains a (n ∷ []) b → Wrote (init_fields (init_parts x).0) (init_parts x).1 true b c → Wrote init x true a c
unfolding init
init_wrote x n e g w =
    seen_wrote (λ (y : (t : InitTag) × InitFields t). make_init y.0 y.1) init_parts (behind init_tag init_fields) x (λ h. init_again x)
    (behind_wrote {B = InitFields} init_tag init_fields (init_parts x).0 (init_parts x).1 (tag_wrote init_tag (init_parts x).0 n (one_init_tag (init_parts x).0) (ap (λ (k : ℕ). k ∷ []) (sym e)) g) w)

pub pieces_as : (xs ys : List CodePiece) {a b : Output} → xs ≡ ys → Wrote (list piece) (map piece_view xs) (list_all is_piece (map piece_view xs)) a b → Wrote (list piece) (map piece_view ys) (list_all is_piece (map piece_view ys)) a b
pieces_as xs ys {a = a} {b = b} e w = subst (λ l. Wrote (list piece) (map piece_view l) (list_all is_piece (map piece_view l)) a b) e w

-- ---- places

slot_again : (o : Option ℕ) → is_some o ≡ true → Some (slot_of o) ≡ o
slot_again None h = absurd cc
slot_again (Some s) h = refl

pub place_wrote : (x : Place) {a b c d e f : Output} → Wrote u32 x.base true a b → Wrote u32_or_none x.index (option_fits x.index) b c → Wrote u32 x.scale true c d → Wrote u64 x.offset true d e → Wrote u32 (slot_of x.slot) true e f → Wrote place x (place_fits x) a f
unfolding place
place_wrote x w1 w2 w3 w4 w5 =
    seen_wrote make_place place_parts (u32 ▸ u32_or_none ▸ u32 ▸ u64 ▸ u32) x
    (λ h. let s = slot_again x.slot (and_parts (option_fits x.index) (is_some x.slot) h).1 in λ i. record { base = x.base; index = x.index; scale = x.scale; offset = x.offset; slot = s i })
    (weaker (λ h. and_from (option_fits x.index) true (and_parts (option_fits x.index) (is_some x.slot) h).0 refl) (pair_wrote w1 (pair_wrote w2 (pair_wrote w3 (pair_wrote w4 w5)))))

-- ---- steps

parts_fit : (p q r : Bool) → (p && (q && r)) ≡ true → (p && (q && (r && true))) ≡ true
parts_fit p q r h =
    let a = and_parts p (q && r) h in
    let b = and_parts q r a.1 in
    and_from p (q && (r && true)) a.0 (and_from q (r && true) b.0 (and_from r true b.1 refl))

pub step_wrote : (s : StepNode) (places : List CodePlace) (temps slots : List ℕ) {a b c d e f : Output} → places ≡ s.places.items → temps ≡ s.temps.items → slots ≡ s.slots.items
    → Wrote action (action_view s.action) (action_fits (action_view s.action)) a b → Wrote (list place) (map place_view places) (list_all place_fits (map place_view places)) b c
    → Wrote u32_or_none s.to (option_fits s.to) c d → Wrote (list u32) temps true d e → Wrote (list u32) slots true e f → Wrote step (step_view s) (step_fits (step_view s)) a f
unfolding step
step_wrote s places temps slots {b = b} {c = c} {d = d} {e = e} {f = f} p t l w1 w2 w3 w4 w5 =
    let v2 : Wrote (list place) (map place_view s.places.items) (list_all place_fits (map place_view s.places.items)) b c = subst (λ xs. Wrote (list place) (map place_view xs) (list_all place_fits (map place_view xs)) b c) p w2 in
    let v4 : Wrote (list u32) s.temps.items true d e = subst (λ xs. Wrote (list u32) xs true d e) t w4 in
    let v5 : Wrote (list u32) s.slots.items true e f = subst (λ xs. Wrote (list u32) xs true e f) l w5 in
    seen_wrote make_step step_parts (action ▸ list place ▸ u32_or_none ▸ list u32 ▸ list u32) (step_view s) (λ h. refl)
    (weaker (parts_fit (action_fits (action_view s.action)) (list_all place_fits (map place_view s.places.items)) (option_fits s.to)) (pair_wrote w1 (pair_wrote v2 (pair_wrote w3 (pair_wrote v4 v5)))))
