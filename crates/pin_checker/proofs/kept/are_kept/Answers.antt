use Rattle.std.proofs.Common.{◌≡◌, sym, ap, subst, ◌∙◌, arith}
use Rattle.struct_ir.specs.Views.{nodes_view}
use Rattle.pin_flow.specs.Live.{live}
use Rattle.mark_sets.specs.Added.{loops}
use Rattle.mark_sets.specs.Heads.{AreHeads}
use Rattle.mark_sets.specs.Words.{has}
use Rattle.mark_sets.specs.Homes.{AreOnce, AreHomes, Tells, lives_in}
use Rattle.mark_sets.proofs.HomeSlots.{bases_once}
use Rattle.pin_checker.specs.inner.Uses.{AreKept}
use Rattle.pin_checker.proofs.KeptRows.{whole_kept}
use Rattle.pin_checker.proofs.kept.are_kept.Goals as goal

pub homes_of-requires-clause-once : goal.homes_of-requires-clause-once
homes_of-requires-clause-once c = subst (λ l. AreOnce l) (sym c.in_ok-bases.ensures.those) (bases_once c.args.f.now.temps (nodes_view c.args.f.now.nodes.items))

pub kept_row-requires : goal.kept_row-requires
kept_row-requires c =
    let o = c.in_ok-outline.outline in
    let again : nodes_view c.deref.result.now ≡ nodes_view c.deref-2.result.now = ap nodes_view (c.deref.ensures.value ∙ sym c.deref-2.ensures.value) in
    let same = c.in_ok-outline.ensures.homes in
    let l = ap loops again in
    let n = c.in_ok-outline.ensures.count in
    record {
      homes = subst AreHomes (sym same) c.in_ok-homes.ensures.homes;
      within = omega (arith, l, n);
      heads = subst (λ y. y) (λ j. AreHeads (sym same j).bases.items o.heads.items 0 (again j)) c.in_ok-outline.ensures.heads;
    }

pub have_homes-requires : goal.have_homes-requires
have_homes-requires c = subst AreHomes (sym c.in_ok-outline.ensures.homes) c.in_ok-homes.ensures.homes

pub returns-then-is_empty : goal.returns-then-is_empty
returns-then-is_empty c = λ y q e.
    let bs = c.in_ok-outline.outline.homes.bases.items in
    let start = c.new.result.items in
    let out = c.deref-3.result.now in
    let end = c.deref-4.result.now in
    let set = c.in_ok-walked.walked.on.items in
    let d = c.deref-2.ensures.value in
    let told : Tells bs set (λ i b. live i b (nodes_view c.args.f.now.nodes.items) (lives_in start out end i)) = λ b i h. c.in_ok-walked.ensures.used b i h ∙ ap (λ l. live i b (nodes_view l) (lives_in start out end i)) d in
    let kept : AreKept bs (nodes_view c.args.f.now.nodes.items) start out end = subst (λ l. AreKept bs (nodes_view l) start out end) d (c.in_ok-walked.ensures.kept c.if-walked.true) in
    whole_kept bs start out end set (nodes_view c.args.f.now.nodes.items) c.new.ensures.items (c.deref-3.ensures.value ∙ c.new-none.ensures.items) (c.deref-4.ensures.value ∙ c.new-none.ensures.items) told
    (λ i. ap (λ l. has l i) (sym c.deref-then-walked.ensures.value) ∙ c.is_empty.ensures c.if-is_empty.true i) kept q (c.have_homes.ensures y q e)
