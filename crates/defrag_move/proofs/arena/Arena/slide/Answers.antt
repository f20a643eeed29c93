use Rattle.std.proofs.Common.{ℕ, ◌≤◌, List, vec_capacity, sym, ap, ◌∙◌, subst, arith}
use Rattle.move_plan.specs.Holding.{is_pinned}
use Rattle.move_plan.specs.Sliding.{IsSlide}
use Rattle.sub_heaps.specs.SubHeaps.{SubHeaps}
use Rattle.sub_heaps.specs.Moving.{after_moves}
use Rattle.sub_heaps.proofs.Noted.{one_owner_each}
use Rattle.arena_meaning.specs.Arena.{IsConsistent, Storage}
use Rattle.arena_meaning.specs.Moves.{KeepsObjects, after_plan}
use Rattle.defrag_move.specs.inner.Carrying.{addresses_after}
use Rattle.defrag_move.proofs.Leading.{Leads, slide_leads}
use Rattle.defrag_move.proofs.Kept.{keeps_all}
use Rattle.defrag_move.proofs.TakenAlong.{carried_is, carried_stand, few_moves, objects_there, slid_consistent, slid_storage, storage}
use Rattle.defrag_move.proofs.arena.Arena.slide.Goals as goal
use Rattle.defrag_move.proofs.arena.Arena.slide.Goals.{After-shift_all}

-- ---- the objects

pub shift_all-requires-clause-objects : goal.shift_all-requires-clause-objects
shift_all-requires-clause-objects c =
    let slide = subst (λ (s : Storage). IsSlide (is_pinned c.args.pins.now) s.heaps c.args.moves.now) (sym c.self.view_is) c.requires in
    objects_there (is_pinned c.args.pins.now) c.args.moves.now (storage c.self.inside.start c.self.inside.table c.self.inside.heaps c.self.inside.bytes) c.self.invariant.0 slide

pub shift_all-requires-clause-stand : goal.shift_all-requires-clause-stand
shift_all-requires-clause-stand c =
    let slide = subst (λ (s : Storage). IsSlide (is_pinned c.args.pins.now) s.heaps c.args.moves.now) (sym c.self.view_is) c.requires in
    carried_stand (is_pinned c.args.pins.now) c.args.moves.now (storage c.self.inside.start c.self.inside.table c.self.inside.heaps c.self.inside.bytes) c.self.invariant.0 slide

pub shift_all-requires-clause-room : goal.shift_all-requires-clause-room
shift_all-requires-clause-room c =
    let slide = subst (λ (s : Storage). IsSlide (is_pinned c.args.pins.now) s.heaps c.args.moves.now) (sym c.self.view_is) c.requires in
    omega (arith, few_moves (is_pinned c.args.pins.now) c.args.moves.now (storage c.self.inside.start c.self.inside.table c.self.inside.heaps c.self.inside.bytes) c.self.invariant.0 slide, c.self.invariant.1)

-- ---- the addresses and the bytes

leads_on : (c : After-shift_all) → Leads c.self.inside.start c.self.inside.table c.self.inside.bytes c.args.moves.now c.shift_all.new.owners.items (after_plan c.args.moves.now (storage c.self.inside.start c.self.inside.table c.self.inside.heaps c.self.inside.bytes))
leads_on c =
    let slide = subst (λ (s : Storage). IsSlide (is_pinned c.args.pins.now) s.heaps c.args.moves.now) (sym c.self.view_is) c.requires in
    slide_leads (is_pinned c.args.pins.now) c.self.inside.start c.self.inside.table c.self.inside.heaps c.self.inside.bytes c.args.moves.now c.shift_all.new.owners.items c.self.invariant.0 slide c.shift_all.ensures.owners

pub carry_all-requires-clause-as_many : goal.carry_all-requires-clause-as_many
carry_all-requires-clause-as_many c = rw c.deref.ensures.value (one_owner_each c.args.moves.now c.self.inside.heaps.objects c.shift_all.new.owners.items c.shift_all.ensures.owners)

pub carry_all-requires-clause-can : goal.carry_all-requires-clause-can
carry_all-requires-clause-can c = rw c.deref.ensures.value (leads_on (goal.at.carry_all-requires-clause-can c).After-shift_all).can

-- ---- the storage

pub invariant_of-self : goal.invariant_of-self
invariant_of-self c =
    let slide = subst (λ (s : Storage). IsSlide (is_pinned c.args.pins.now) s.heaps c.args.moves.now) (sym c.self.view_is) c.requires in
    let old = storage c.self.inside.start c.self.inside.table c.self.inside.heaps c.self.inside.bytes in
    let given = ap (λ (owners : List ℕ). addresses_after c.self.inside.start c.args.moves.now owners c.self.inside.table) c.deref.ensures.value in
    let led = leads_on (goal.at.invariant_of-self c).After-shift_all in (
      subst IsConsistent
          (sym (slid_storage (is_pinned c.args.pins.now) c.args.moves.now old c.self.invariant.0 slide c.carry_all.new.table c.shift_all.new.self c.carry_all.new.bytes (c.carry_all.ensures.table ∙ given ∙ led.table_is) c.shift_all.ensures.moved (c.carry_all.ensures.bytes ∙ led.bytes_are)))
          (slid_consistent (is_pinned c.args.pins.now) c.args.moves.now old c.self.invariant.0 slide),
      rw c.shift_all.ensures.capacity (subst (λ (h : SubHeaps). h.most ≤ vec_capacity c.self.inside.owners) (sym c.shift_all.ensures.moved) c.self.invariant.1),
    )

pub returns-clause-heaps : goal.returns-clause-heaps
returns-clause-heaps c =
    let slide = subst (λ (s : Storage). IsSlide (is_pinned c.args.pins.now) s.heaps c.args.moves.now) (sym c.self.view_is) c.requires in
    let old = storage c.self.inside.start c.self.inside.table c.self.inside.heaps c.self.inside.bytes in
    c.shift_all.ensures.moved ∙ carried_is (is_pinned c.args.pins.now) c.args.moves.now old c.self.invariant.0 slide ∙ ap (λ (s : Storage). after_moves c.args.moves.now s.heaps) c.self.view_is

pub returns-clause-after : goal.returns-clause-after
returns-clause-after c =
    let slide = subst (λ (s : Storage). IsSlide (is_pinned c.args.pins.now) s.heaps c.args.moves.now) (sym c.self.view_is) c.requires in
    let old = storage c.self.inside.start c.self.inside.table c.self.inside.heaps c.self.inside.bytes in
    let given = ap (λ (owners : List ℕ). addresses_after c.self.inside.start c.args.moves.now owners c.self.inside.table) c.deref.ensures.value in
    let led = leads_on (goal.at.returns-clause-after c).After-shift_all in
    slid_storage (is_pinned c.args.pins.now) c.args.moves.now old c.self.invariant.0 slide c.carry_all.new.table c.shift_all.new.self c.carry_all.new.bytes (c.carry_all.ensures.table ∙ given ∙ led.table_is) c.shift_all.ensures.moved (c.carry_all.ensures.bytes ∙ led.bytes_are)
    ∙ ap (after_plan c.args.moves.now) c.self.view_is

pub returns-clause-kept : goal.returns-clause-kept
returns-clause-kept c =
    subst (KeepsObjects (is_pinned c.args.pins.now) c.args.moves.now c.args.self.now) (sym (returns-clause-after c))
    (keeps_all (is_pinned c.args.pins.now) c.args.moves.now c.args.self.now (subst IsConsistent c.self.view_is c.self.invariant.0) c.requires.legal)

pub returns-clause-consistent : goal.returns-clause-consistent
returns-clause-consistent c = (invariant_of-self c).0
