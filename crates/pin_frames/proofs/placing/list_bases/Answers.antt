use Rattle.std.proofs.Common.{◌≡◌, ◌==◌, ℕ, List, [], ◌∷◌, Option, length, refl, sym, ap, subst, ◌∙◌, arith}
use Rattle.std.proofs.lemmas.Bool.{eqb-true}
use Rattle.std.proofs.lemmas.Result.{IfOk-weaker}
use Rattle.struct_ir.specs.Nodes.{Nodes, no_nodes}
use Rattle.struct_ir.specs.Views.{nodes_view}
use Rattle.pin_flow.specs.Slots.{slot_if, slot_in}
use Rattle.pin_frames.specs.inner.Place.{cleared, seated, listed, listed_each, none_held, none_later}
use Rattle.mark_sets.specs.declared.homes.Homes.{Homes}
use Rattle.mark_sets.specs.Added.{loops}
use Rattle.mark_sets.specs.Heads.{AreHeads}
use Rattle.mark_sets.specs.Homes.{AreHomes}
use Rattle.pin_frames.proofs.OneByOne.{each_is_placed}
use Rattle.pin_frames.proofs.Seated.{row_alone}
use Rattle.pin_frames.proofs.placing.list_bases.Goals as goal

-- for no register nothing is listed
none_listed : (s : ℕ → Option ℕ) (bs : List ℕ) (ns : Nodes) → length bs ≡ 0 → ns ≡ listed_each s bs ns
none_listed s [] ns e = refl
none_listed s (b ∷ bs) ns e = absurd (omega (arith, e))

pub returns-then-is_empty : goal.returns-then-is_empty
returns-then-is_empty c =
    let bs = c.args.bases.items in
    let rows = nodes_view c.args.rows.items in
    let none = eqb-true (length bs) 0 (ap (λ k. k == 0) (sym c.args.bases.ok.0) ∙ (sym c.is_empty.ensures ∙ c.if-is_empty.true)) in
    row_alone c.in_ok-code.code.items (cleared rows) c.in_ok-code.ensures ∙ none_listed (slot_if bs) bs (seated (cleared rows) no_nodes) none

pub returns-in-Some : goal.returns-in-Some
returns-in-Some c =
    let bs = c.args.bases.items in
    let rows = nodes_view c.args.rows.items in
    let same : c.in_ok-outline.outline.homes.bases.items ≡ bs = ap (λ (h : Homes). h.bases.items) c.in_ok-outline.ensures.homes ∙ c.in_ok-homes.ensures.those in
    let h = rw c.in-Some.is at c.in_ok-done.ensures in
    h
    ∙ ((λ j. listed (slot_in (same j)) (same j) (nodes_view c.deref-2.result.now) none_held none_later)
    ∙ (ap (λ l. listed (slot_in bs) bs (nodes_view l) none_held none_later) c.deref-2.ensures.value
    ∙ (ap (λ ns. listed (slot_in bs) bs ns none_held none_later) (row_alone c.in_ok-code.code.items (cleared rows) c.in_ok-code.ensures) ∙ sym (each_is_placed bs rows))))

pub returns-in-None : goal.returns-in-None
returns-in-None c =
    let bs = c.args.bases.items in
    let rows = nodes_view c.args.rows.items in
    let same : c.in_ok-outline.outline.homes.bases.items ≡ bs = ap (λ (h : Homes). h.bases.items) c.in_ok-outline.ensures.homes ∙ c.in_ok-homes.ensures.those in
    let d : c.deref-in-None.result.now ≡ bs = c.deref-in-None.ensures.value ∙ same in
    IfOk-weaker c.list_in_turn.result
    (λ v. nodes_view v.items ≡ listed_each (slot_if c.deref-in-None.result.now) c.deref-in-None.result.now (nodes_view c.in_ok-code.code.items))
    (λ v. nodes_view v.items ≡ listed_each (slot_if bs) bs (seated (cleared rows) no_nodes))
    (λ v e. e ∙ ((λ j. listed_each (slot_if (d j)) (d j) (nodes_view c.in_ok-code.code.items)) ∙ ap (λ ns. listed_each (slot_if bs) bs ns) (row_alone c.in_ok-code.code.items (cleared rows) c.in_ok-code.ensures)))
    c.list_in_turn.ensures

pub list_together-requires : goal.list_together-requires
list_together-requires c =
    let o = c.in_ok-outline.outline in
    let code = c.in_ok-code.code.items in
    let again : nodes_view c.deref.result.now ≡ nodes_view c.deref-2.result.now = ap nodes_view (c.deref.ensures.value ∙ sym c.deref-2.ensures.value) in
    let same = c.in_ok-outline.ensures.homes in
    record {
      homes = subst AreHomes (sym same) c.in_ok-homes.ensures.homes;
      count = c.in_ok-outline.ensures.count ∙ ap loops again;
      heads = subst (λ y. y) (λ j. AreHeads (sym same j).bases.items o.heads.items 0 (again j)) c.in_ok-outline.ensures.heads;
    }

pub list_in_turn-requires : goal.list_in_turn-requires
list_in_turn-requires c =
    let same : c.in_ok-outline.outline.homes.bases.items ≡ c.args.bases.items = ap (λ (h : Homes). h.bases.items) c.in_ok-outline.ensures.homes ∙ c.in_ok-homes.ensures.those in
    let d = ap length (c.deref-in-None.ensures.value ∙ same) in
    let f = c.requires.few in
    omega (arith, d, f)
