use Rattle.std.proofs.Common.{◌≡◌, ◌+◌, ◌≤◌, List, length, sym, ap, ◌∙◌, subst, arith}
use Rattle.std.specs.Prelude.{sum_by}
use Rattle.std.specs.Vec.{vec_capacity}
use Rattle.std.proofs.lemmas.List.{length-map}
use Rattle.sub_heaps.specs.SubHeaps.{SubHeaps, IsSound, extent_of}
use Rattle.move_plan.specs.Holding.{PinSet, MoveList, is_pinned}
use Rattle.sub_heaps.specs.declared.moves.Move.{Move}
use Rattle.sub_heaps.specs.Moving.{after_moves}
use Rattle.move_plan.specs.Sliding.{IsSlide}
use Rattle.move_plan.specs.Stretches.{room_of}
use Rattle.arena_meaning.specs.Arena.{Storage}
use Rattle.arena_meaning.specs.Moves.{after_plan}
use Rattle.flat_machine.specs.Shares.{Shared}
use Rattle.flat_machine.specs.Sweeping.{counted}
use Rattle.flat_machine.specs.inner.Shares.{made_view}
use Rattle.flat_machine.specs.inner.Swept.{shared_slid}
use Rattle.flat_machine.specs.contracts.shared.Shared.{the_view}
use Rattle.flat_machine.proofs.Counts.{counted_part}
use Rattle.flat_machine.proofs.Slid.{parts_are, pinned_is, plan_keeps, slid_by_is}
use Rattle.flat_machine.proofs.shared.Shared.sweep.Goals as goal

pub invariant_of-self : goal.invariant_of-self
invariant_of-self c =
    let kept = c.self.invariant.0 in
    let ms = c.slide.new.into.moves in
    let stored : c.slide-2.new.self ≡ after_plan ms c.self.inside.arena = c.slide-2.ensures.after ∙ ap (λ (now : List Move). after_plan now c.self.inside.arena) c.moves.ensures in
    let most : c.slide-2.new.self.heaps.most ≡ c.self.inside.arena.heaps.most = ap (λ (s : Storage). s.heaps.most) stored ∙ (plan_keeps ms c.self.inside.arena).2 in
    let count : c.slide-2.new.self.heaps.count ≡ c.self.inside.arena.heaps.count = ap (λ (s : Storage). s.heaps.count) stored ∙ (plan_keeps ms c.self.inside.arena).0 in
    let plan_room : c.slide.new.into.room ≡ c.slide-2.new.self.heaps.most = c.slide.ensures.room ∙ ap (λ (p : MoveList). p.room) c.clear.ensures ∙ kept.plan_room ∙ sym most in (
      record {
        consistent = c.slide-2.ensures.consistent;
        printed = kept.printed;
        output_small = kept.output_small;
        some_thread = kept.some_thread;
        few_threads = kept.few_threads;
        few_entries = kept.few_entries;
        plan_room = plan_room;
        pins_room = c.pin_all.ensures.pins_room;
        words_room = c.pin_all.ensures.words_room;
      },
      c.self.invariant.1,
      c.self.invariant.2,
      c.self.invariant.3,
      subst (λ n. n ≤ vec_capacity c.self.inside.tails) (sym count) c.self.invariant.4,
      subst (λ n. n ≤ vec_capacity c.self.inside.moves) (sym most) c.self.invariant.5,
    )

pub returns : goal.returns
returns c =
    let code = c.args.program.now in
    let home = c.args.home.now in
    let s : Shared = the_view c.self.inside in
    let st : Storage = c.self.inside.arena in
    let pins : PinSet = c.pin_all.new.pins in
    let ms = c.slide.new.into.moves in
    let after_h : SubHeaps = after_moves ms st.heaps in
    let count : c.len.result ≡ length s.memory.threads = omega (arith, c.len.ensures, c.self.inside.threads.ok.0, length-map c.self.inside.threads.items made_view) in
    let pins_is = pinned_is code s home pins c.len.result count c.pin_all.ensures.pinned in
    let sound : IsSound st.heaps = c.heaps.ensures.consistent.heaps in
    let slides : IsSlide (is_pinned pins) st.heaps ms = subst (λ (h : SubHeaps). IsSlide (is_pinned pins) h ms) c.heaps-2.ensures.heaps c.slide.ensures.slide in
    let stored : c.slide-2.new.self ≡ after_plan ms st = c.slide-2.ensures.after ∙ ap (λ (now : List Move). after_plan now st) c.moves.ensures in
    let moved : c.slide-2.new.self.heaps ≡ after_h = c.slide-2.ensures.heaps ∙ ap (λ (now : List Move). after_moves now st.heaps) c.moves.ensures in
    let n1 : c.saturating_add-self-inside.result ≡ counted (s.barriers.count + 1) = c.saturating_add-self-inside.ensures in
    let n2 : c.saturating_add-self-inside-2.result ≡ counted (s.barriers.objects + length ms) = c.saturating_add-self-inside-2.ensures ∙ ap (λ n. counted (s.barriers.objects + n)) (c.from.ensures ∙ c.len-2.ensures.number) in
    let n3 : c.saturating_add-self-inside-3.result ≡ counted (s.barriers.bytes + sum_by (λ m. m.size) ms) = c.saturating_add-self-inside-3.ensures ∙ ap (λ n. counted (s.barriers.bytes + n)) (c.bytes_of.ensures ∙ ap (λ (now : List Move). counted (sum_by (λ m. m.size) now)) c.moves-2.ensures) ∙ counted_part s.barriers.bytes (sum_by (λ m. m.size) ms) in
    let before : c.extent-before.result ≡ extent_of st.heaps = c.extent-before.ensures.extent ∙ ap extent_of c.heaps.ensures.heaps in
    let after : c.extent.result ≡ extent_of after_h = c.extent.ensures.extent ∙ ap extent_of c.heaps-3.ensures.heaps ∙ ap extent_of moved in
    let rooms : c.room.result ≡ room_of (is_pinned pins) after_h = c.room.ensures.room ∙ ap (room_of (is_pinned pins)) c.heaps-4.ensures.heaps ∙ ap (room_of (is_pinned pins)) moved in
    parts_are s ms (is_pinned pins) c.slide-2.new.self c.saturating_add-self-inside.result c.saturating_add-self-inside-2.result c.saturating_add-self-inside-3.result c.extent-before.result c.extent.result c.room.result stored n1 n2 n3 before after rooms
    ∙ slid_by_is code s home pins ms pins_is sound slides ∙ ap (λ (v : Shared). shared_slid code v home) c.self.view_is
