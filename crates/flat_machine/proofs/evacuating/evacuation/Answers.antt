use Rattle.std.proofs.Common.{◌≡◌, ◌+◌, not, List, [], ◌∷◌, ◌++◌, length, refl, sym, ap, ◌∙◌, arith}
use Rattle.std.specs.Prelude.{sum_by}
use Rattle.std.proofs.lemmas.List.{length-map}
use Rattle.ak_trace.specs.declared.entry.Entry.{Entry}
use Rattle.sub_heaps.specs.declared.moves.Move.{Move}
use Rattle.sub_heaps.specs.SubHeaps.{SubHeaps}
use Rattle.evacuate.specs.Evacuation.{Evacuated}
use Rattle.arena_meaning.specs.Arena.{Storage}
use Rattle.arena_meaning.specs.Moves.{after_plan}
use Rattle.flat_machine.specs.Clearing.{counted_emptied, evacuation_here, moves_some}
use Rattle.flat_machine.specs.Shares.{Shared, image_of}
use Rattle.flat_machine.specs.Sweeping.{at_home, counted}
use Rattle.flat_machine.specs.inner.Shares.{made_view}
use Rattle.flat_machine.specs.contracts.shared.Shared.{the_view}
use Rattle.flat_machine.proofs.Counts.{counted_part}
use Rattle.flat_machine.proofs.Evacuated.{moves, planned_is, some_moves, stays}
use Rattle.flat_machine.proofs.Slid.{plan_keeps}
use Rattle.flat_machine.proofs.evacuating.evacuation.Goals as goal

pub returns-then-is_empty-clause-emptied : goal.returns-then-is_empty-clause-emptied
returns-then-is_empty-clause-emptied c =
    let code = c.args.program.now in
    let home = c.args.home.now in
    let s : Shared = the_view c.shared.inside in
    let count : c.len.result ≡ length s.memory.threads = omega (arith, c.len.ensures, c.shared.inside.threads.ok.0, length-map c.shared.inside.threads.items made_view) in
    let planned = planned_is code s c.args.shared.now home c.pin_all.new.pins c.heaps.result.now c.len.result c.shared.view_is count c.pin_all.ensures.pinned c.heaps.ensures.heaps in
    c.evacuate-emptied.ensures.emptied ∙ ap (λ (e : Evacuated). e.emptied) planned

pub returns-clause-emptied : goal.returns-clause-emptied
returns-clause-emptied c =
    let code = c.args.program.now in
    let home = c.args.home.now in
    let s : Shared = the_view c.shared.inside in
    let count : c.len.result ≡ length s.memory.threads = omega (arith, c.len.ensures, c.shared.inside.threads.ok.0, length-map c.shared.inside.threads.items made_view) in
    let planned = planned_is code s c.args.shared.now home c.pin_all.new.pins c.heaps.result.now c.len.result c.shared.view_is count c.pin_all.ensures.pinned c.heaps.ensures.heaps in
    c.evacuate-emptied.ensures.emptied ∙ ap (λ (e : Evacuated). e.emptied) planned

pub returns-then-is_empty-clause-shared : goal.returns-then-is_empty-clause-shared
returns-then-is_empty-clause-shared c =
    let code = c.args.program.now in
    let home = c.args.home.now in
    let s : Shared = the_view c.shared.inside in
    let count : c.len.result ≡ length s.memory.threads = omega (arith, c.len.ensures, c.shared.inside.threads.ok.0, length-map c.shared.inside.threads.items made_view) in
    let planned = planned_is code s s home c.pin_all.new.pins c.heaps.result.now c.len.result refl count c.pin_all.ensures.pinned c.heaps.ensures.heaps in
    let here : Evacuated = evacuation_here (image_of code s) (at_home s home) in
    let same : c.evacuate-emptied.new.into.items ≡ here.moves = c.evacuate-emptied.ensures.moves ∙ ap (λ (e : Evacuated). e.moves) planned in
    let some : moves_some here ≡ not c.is_empty.result = some_moves here c.evacuate-emptied.new.into.items _ c.is_empty.result c.evacuate-emptied.new.into.ok.0 same c.is_empty.ensures in
    stays code s home c.args.shared.now c.shared.view_is c.clear-2.new.self.items (some ∙ ap not c.if-is_empty.true) c.clear-2.ensures.items

pub invariant_of-shared-2 : goal.invariant_of-shared-2
invariant_of-shared-2 c =
    let kept = c.shared.invariant.0 in
    let old : Storage = c.shared.inside.arena in
    let keeps = plan_keeps c.deref.result.now old in
    let most : c.apply.new.self.heaps.most ≡ old.heaps.most = ap (λ (s : Storage). s.heaps.most) c.apply.ensures.after ∙ keeps.2 in
    let count : c.apply.new.self.heaps.count ≡ old.heaps.count = ap (λ (s : Storage). s.heaps.count) c.apply.ensures.after ∙ keeps.0 in
    let one : length c.push_reserved.new.self.items ≡ 1 = ap length (c.push_reserved.ensures.items ∙ ap (λ (es : List Entry). es ++ c.entry.result ∷ []) c.clear-2.ensures.items) in (
      record {
        consistent = c.apply.ensures.consistent;
        printed = kept.printed;
        output_small = kept.output_small;
        some_thread = kept.some_thread;
        few_threads = kept.few_threads;
        few_entries = omega (arith, one);
        plan_room = kept.plan_room ∙ sym most;
        pins_room = c.pin_all.ensures.pins_room;
        words_room = c.pin_all.ensures.words_room;
      },
      c.shared.invariant.1,
      c.shared.invariant.2,
      omega (arith, c.push_reserved.ensures.capacity, c.clear-2.ensures.capacity, c.shared.invariant.3),
      omega (arith, count, c.evacuate-emptied.ensures.tails_capacity, ap (λ (h : SubHeaps). h.count) c.heaps.ensures.heaps),
      omega (arith, most, c.evacuate-emptied.ensures.capacity, c.clear.ensures.capacity, c.shared.invariant.5),
    )

pub returns-clause-shared : goal.returns-clause-shared
returns-clause-shared c =
    let code = c.args.program.now in
    let home = c.args.home.now in
    let s : Shared = the_view c.shared.inside in
    let count : c.len.result ≡ length s.memory.threads = omega (arith, c.len.ensures, c.shared.inside.threads.ok.0, length-map c.shared.inside.threads.items made_view) in
    let planned = planned_is code s s home c.pin_all.new.pins c.heaps.result.now c.len.result refl count c.pin_all.ensures.pinned c.heaps.ensures.heaps in
    let here : Evacuated = evacuation_here (image_of code s) (at_home s home) in
    let same : c.evacuate-emptied.new.into.items ≡ here.moves = c.evacuate-emptied.ensures.moves ∙ ap (λ (e : Evacuated). e.moves) planned in
    let some : moves_some here ≡ not c.is_empty.result = some_moves here c.evacuate-emptied.new.into.items _ c.is_empty.result c.evacuate-emptied.new.into.ok.0 same c.is_empty.ensures in
    let idle = ap (λ (v : Shared). v.memory.leaving) c.shared.view_is ∙ c.requires.shared.idle in
    let stored : c.apply.new.self ≡ after_plan here.moves s.memory.storage = c.apply.ensures.after ∙ ap (λ (ms : List Move). after_plan ms s.memory.storage) (c.deref.ensures.value ∙ same) in
    let told = c.push_reserved.ensures.items ∙ ap (λ (es : List Entry). es ++ c.entry.result ∷ []) c.clear-2.ensures.items ∙ ap (λ (e : Entry). e ∷ []) c.entry.ensures in
    let objects : c.saturating_add-shared-inside.result ≡ counted (s.barriers.objects + length here.moves) = c.saturating_add-shared-inside.ensures ∙ ap (λ n. counted (s.barriers.objects + n)) (c.len-2.ensures ∙ c.evacuate-emptied.new.into.ok.0 ∙ ap length same) in
    let bytes : c.saturating_add-shared-inside-2.result ≡ counted (s.barriers.bytes + sum_by (λ m. m.size) here.moves) =
    c.saturating_add-shared-inside-2.ensures ∙ ap (λ n. counted (s.barriers.bytes + n)) (c.bytes_of.ensures ∙ ap (λ (ms : List Move). counted (sum_by (λ m. m.size) ms)) (c.deref-2.ensures.value ∙ same)) ∙ counted_part s.barriers.bytes (sum_by (λ m. m.size) here.moves) in
    let emptied : c.saturating_add-shared-inside-3.result ≡ counted_emptied (s.barriers.emptied + here.emptied) =
    c.saturating_add-shared-inside-3.ensures ∙ ap (λ n. counted_emptied (s.barriers.emptied + n)) (c.evacuate-emptied.ensures.emptied ∙ ap (λ (e : Evacuated). e.emptied) planned) in
    moves code s home c.args.shared.now c.shared.view_is c.apply.new.self c.push_reserved.new.self.items c.saturating_add-shared-inside.result c.saturating_add-shared-inside-2.result c.saturating_add-shared-inside-3.result
    (some ∙ ap not c.if-is_empty.false) idle stored told objects bytes emptied
