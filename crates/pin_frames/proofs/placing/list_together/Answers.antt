use Rattle.std.proofs.Common.{◌≡◌, ℕ, length, sym, ap, subst, ◌∙◌, arith}
use Rattle.std.specs.Vec.{with_items}
use Rattle.struct_ir.specs.Views.{nodes_view}
use Rattle.pin_flow.specs.Live.{Live, live}
use Rattle.pin_flow.specs.Slots.{slot_in}
use Rattle.pin_flow.proofs.InPlace.{row_within}
use Rattle.mark_sets.specs.Words.{has}
use Rattle.pin_frames.specs.inner.Place.{listed, none_held, none_later}
use Rattle.mark_sets.specs.Added.{loops}
use Rattle.mark_sets.specs.Heads.{AreHeads}
use Rattle.mark_sets.specs.Homes.{Tells, lives_in}
use Rattle.pin_frames.specs.inner.Together.{used_listed, AreKept}
use Rattle.pin_frames.proofs.TogetherRows.{whole_listed}
use Rattle.pin_frames.proofs.placing.list_together.Goals as goal

pub list_row-requires : goal.list_row-requires
list_row-requires c =
    let o = c.args.outline.now in
    let e : nodes_view c.deref_mut.result.now ≡ nodes_view c.args.code.now = ap nodes_view c.deref_mut.ensures.value ∙ c.in_ok-rows.ensures in
    let l = ap loops e in
    let n = c.requires.count in
    record {
      homes = c.requires.homes;
      within = omega (arith, l, n);
      heads = subst (λ y. AreHeads o.homes.bases.items o.heads.items 0 y) (sym e) c.requires.heads;
    }

pub returns-then-is_empty : goal.returns-then-is_empty
returns-then-is_empty c =
    let bs = c.args.outline.now.homes.bases.items in
    let s = slot_in bs in
    let v = c.in_ok-rows.rows in
    let ys = c.list_row.new.rows in
    let start = c.new.result.items in
    let out = c.deref.result.now in
    let end = c.deref-2.result.now in
    let set = c.in_ok-walked.walked.on.items in
    let ls : ℕ → Live = λ b. lives_in start out end (slot_in bs b) in
    let d : c.deref_mut.result.now ≡ v.items = c.deref_mut.ensures.value in
    let told : Tells bs set (λ i b. live i b (nodes_view v.items) (lives_in start out end i)) = λ b i e. c.in_ok-walked.ensures.used b i e ∙ ap (λ l. live i b (nodes_view l) (lives_in start out end i)) d in
    let kept : AreKept bs (nodes_view v.items) start out end = subst (λ l. AreKept bs (nodes_view l) start out end) d (c.in_ok-walked.ensures.kept c.if-walked.true) in
    whole_listed bs start out end set (nodes_view v.items) c.new.ensures.items (c.deref.ensures.value ∙ c.new-none.ensures.items) (c.deref-2.ensures.value ∙ c.new-none.ensures.items) told
    (λ i. ap (λ l. has l i) (sym c.deref-then-walked.ensures.value) ∙ c.is_empty.ensures c.if-is_empty.true i) kept
    (nodes_view (with_items v ys).items) (row_within (λ r. used_listed s bs r ls) v c.deref_mut.result.now ys d (omega (arith, c.list_row.auto.rows, ap length d, v.ok.0)) c.in_ok-walked.ensures.row)
    ∙ ap (λ n. listed s bs n none_held none_later) c.in_ok-rows.ensures
