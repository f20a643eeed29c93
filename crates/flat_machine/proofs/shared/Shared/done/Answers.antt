use Rattle.std.proofs.Common.{◌≡◌, ap, subst, refl, arith}
use Rattle.struct_ir.specs.Views.{action_view}
use Rattle.flat_machine.specs.inner.Dones.{Does}
use Rattle.flat_machine.specs.lemmas.Steps.{counted, place_is, changes, compares, copies, locks, unlocks, begins}
use Rattle.flat_machine.proofs.shared.Shared.done.Goals as goal
use Rattle.struct_ir.specs.declared.code.Place.{Place as CodePlace}
use Rattle.std.specs.Prelude.{None}
use Rattle.flat_machine.specs.Choices.{malloc_choice}
use Rattle.flat_machine.specs.Shares.{image_of}
use Rattle.flat_threads.specs.Deeds.{top_of}

abbrev no_place : CodePlace
no_place = record { base = 0; index = None; scale = 0; offset = 0; slot = None }

pub target-requires-clause-place : goal.target-requires-clause-place
target-requires-clause-place c =
    let count = (counted c.args.node.now _ (ap action_view c.in-Load.is) c.requires.step.counts).0 in
    let places : c.as_slice-places.result.now ≡ c.args.node.now.places.items = c.as_slice-places.ensures in
    rw places (place_is (top_of c.args.ctx.now).own c.args.node.now.places.items 0 _ c.requires.step.places (omega (arith, count)))

pub target-requires-in-Store-clause-place : goal.target-requires-in-Store-clause-place
target-requires-in-Store-clause-place c =
    let count = (counted c.args.node.now _ (ap action_view c.in-Store.is) c.requires.step.counts).0 in
    let places : c.as_slice-places.result.now ≡ c.args.node.now.places.items = c.as_slice-places.ensures in
    rw places (place_is (top_of c.args.ctx.now).own c.args.node.now.places.items 0 _ c.requires.step.places (omega (arith, count)))

pub target-requires-in-Copy-clause-place : goal.target-requires-in-Copy-clause-place
target-requires-in-Copy-clause-place c =
    let count = (counted c.args.node.now _ (ap action_view c.in-Copy.is) c.requires.step.counts).0 in
    let places : c.as_slice-places.result.now ≡ c.args.node.now.places.items = c.as_slice-places.ensures in
    rw places (place_is (top_of c.args.ctx.now).own c.args.node.now.places.items 0 _ c.requires.step.places (omega (arith, count)))

pub target-requires-in-Copy-2-clause-place : goal.target-requires-in-Copy-2-clause-place
target-requires-in-Copy-2-clause-place c =
    let count = (counted c.args.node.now _ (ap action_view c.in-Copy.is) c.requires.step.counts).0 in
    let places : c.as_slice-places.result.now ≡ c.args.node.now.places.items = c.as_slice-places.ensures in
    rw places (place_is (top_of c.args.ctx.now).own c.args.node.now.places.items 1 _ c.requires.step.places (omega (arith, count)))

pub target-requires-in-Change-clause-place : goal.target-requires-in-Change-clause-place
target-requires-in-Change-clause-place c =
    let count = (counted c.args.node.now _ (ap action_view c.in-Change.is) c.requires.step.counts).0 in
    let places : c.as_slice-places.result.now ≡ c.args.node.now.places.items = c.as_slice-places.ensures in
    rw places (place_is (top_of c.args.ctx.now).own c.args.node.now.places.items 0 _ c.requires.step.places (omega (arith, count)))

pub target-requires-in-Compare-clause-place : goal.target-requires-in-Compare-clause-place
target-requires-in-Compare-clause-place c =
    let count = (counted c.args.node.now _ (ap action_view c.in-Compare.is) c.requires.step.counts).0 in
    let places : c.as_slice-places.result.now ≡ c.args.node.now.places.items = c.as_slice-places.ensures in
    rw places (place_is (top_of c.args.ctx.now).own c.args.node.now.places.items 0 _ c.requires.step.places (omega (arith, count)))

pub target-requires-in-Compare-2-clause-place : goal.target-requires-in-Compare-2-clause-place
target-requires-in-Compare-2-clause-place c =
    let count = (counted c.args.node.now _ (ap action_view c.in-Compare.is) c.requires.step.counts).0 in
    let places : c.as_slice-places.result.now ≡ c.args.node.now.places.items = c.as_slice-places.ensures in
    rw places (place_is (top_of c.args.ctx.now).own c.args.node.now.places.items 1 _ c.requires.step.places (omega (arith, count)))

pub target-requires-in-Lock-clause-place : goal.target-requires-in-Lock-clause-place
target-requires-in-Lock-clause-place c =
    let count = (counted c.args.node.now _ (ap action_view c.in-Lock.is) c.requires.step.counts).0 in
    let places : c.as_slice-places.result.now ≡ c.args.node.now.places.items = c.as_slice-places.ensures in
    rw places (place_is (top_of c.args.ctx.now).own c.args.node.now.places.items 0 _ c.requires.step.places (omega (arith, count)))

pub target-requires-in-Unlock-clause-place : goal.target-requires-in-Unlock-clause-place
target-requires-in-Unlock-clause-place c =
    let count = (counted c.args.node.now _ (ap action_view c.in-Unlock.is) c.requires.step.counts).0 in
    let places : c.as_slice-places.result.now ≡ c.args.node.now.places.items = c.as_slice-places.ensures in
    rw places (place_is (top_of c.args.ctx.now).own c.args.node.now.places.items 0 _ c.requires.step.places (omega (arith, count)))

pub target-requires-in-Start-clause-place : goal.target-requires-in-Start-clause-place
target-requires-in-Start-clause-place c =
    let count = (counted c.args.node.now _ (ap action_view c.in-Start.is) c.requires.step.counts).0 in
    let places : c.as_slice-places.result.now ≡ c.args.node.now.places.items = c.as_slice-places.ensures in
    rw places (place_is (top_of c.args.ctx.now).own c.args.node.now.places.items 0 _ c.requires.step.places (omega (arith, count)))

pub target-requires-in-Join-clause-place : goal.target-requires-in-Join-clause-place
target-requires-in-Join-clause-place c =
    let count = (counted c.args.node.now _ (ap action_view c.in-Join.is) c.requires.step.counts).0 in
    let places : c.as_slice-places.result.now ≡ c.args.node.now.places.items = c.as_slice-places.ensures in
    rw places (place_is (top_of c.args.ctx.now).own c.args.node.now.places.items 0 _ c.requires.step.places (omega (arith, count)))

pub returns-in-Copy-clause-does : goal.returns-in-Copy-clause-does
returns-in-Copy-clause-does c code =
    let a_is = ap action_view c.in-Copy.is in
    let count = counted c.args.node.now _ a_is c.requires.step.counts in
    subst (Does c.args.self.now c.copy.new.self c.copy.result) (copies (image_of code c.args.self.now).layout c.args.ctx.now.number (malloc_choice c.args.self.now.memory.storage) (top_of c.args.ctx.now).own c.args.self.now.memory (action_view c.args.node.now.action) c.args.node.now.places.items _ c.args.node.now.temps.items _ no_place 0 c.as_slice-places.ensures c.as_slice-temps.ensures _ _ _ _ _ a_is count.0 count.1 c.target-in-Copy.ensures c.target-in-Copy-2.ensures c.word-in-Copy.ensures) c.copy.ensures.does

pub returns-in-Change-clause-does : goal.returns-in-Change-clause-does
returns-in-Change-clause-does c code =
    let a_is = ap action_view c.in-Change.is in
    let count = counted c.args.node.now _ a_is c.requires.step.counts in
    subst (Does c.args.self.now c.change.new.self c.change.result) (changes (image_of code c.args.self.now).layout c.args.ctx.now.number (malloc_choice c.args.self.now.memory.storage) (top_of c.args.ctx.now).own c.args.self.now.memory (action_view c.args.node.now.action) c.args.node.now.places.items _ c.args.node.now.temps.items _ no_place 0 c.as_slice-places.ensures c.as_slice-temps.ensures _ _ _ _ a_is count.0 count.1 c.target-in-Change.ensures c.word-in-Change.ensures) c.change.ensures.does

pub returns-in-Compare-clause-does : goal.returns-in-Compare-clause-does
returns-in-Compare-clause-does c code =
    let a_is = ap action_view c.in-Compare.is in
    let count = counted c.args.node.now _ a_is c.requires.step.counts in
    subst (Does c.args.self.now c.compare.new.self c.compare.result) (compares (image_of code c.args.self.now).layout c.args.ctx.now.number (malloc_choice c.args.self.now.memory.storage) (top_of c.args.ctx.now).own c.args.self.now.memory (action_view c.args.node.now.action) c.args.node.now.places.items _ c.args.node.now.temps.items _ no_place 0 c.as_slice-places.ensures c.as_slice-temps.ensures _ _ _ _ a_is count.0 count.1 c.target-in-Compare.ensures c.target-in-Compare-2.ensures c.word-in-Compare.ensures) c.compare.ensures.does

pub returns-in-Lock-clause-does : goal.returns-in-Lock-clause-does
returns-in-Lock-clause-does c code =
    let a_is = ap action_view c.in-Lock.is in
    let count = counted c.args.node.now _ a_is c.requires.step.counts in
    subst (Does c.args.self.now c.lock.new.self c.lock.result) (locks (image_of code c.args.self.now).layout c.args.ctx.now.number (malloc_choice c.args.self.now.memory.storage) (top_of c.args.ctx.now).own c.args.self.now.memory (action_view c.args.node.now.action) c.args.node.now.places.items _ c.args.node.now.temps.items _ no_place 0 c.as_slice-places.ensures c.as_slice-temps.ensures _ _ a_is count.0 count.1 c.target-in-Lock.ensures c.thread.ensures.number) c.lock.ensures.does

pub returns-in-Unlock-clause-does : goal.returns-in-Unlock-clause-does
returns-in-Unlock-clause-does c code =
    let a_is = ap action_view c.in-Unlock.is in
    let count = counted c.args.node.now _ a_is c.requires.step.counts in
    subst (Does c.args.self.now c.unlock.new.self c.unlock.result) (unlocks (image_of code c.args.self.now).layout c.args.ctx.now.number (malloc_choice c.args.self.now.memory.storage) (top_of c.args.ctx.now).own c.args.self.now.memory (action_view c.args.node.now.action) c.args.node.now.places.items _ c.args.node.now.temps.items _ no_place 0 c.as_slice-places.ensures c.as_slice-temps.ensures _ a_is count.0 count.1 c.target-in-Unlock.ensures) c.unlock.ensures.does

pub returns-in-Start-clause-does : goal.returns-in-Start-clause-does
returns-in-Start-clause-does c code =
    let a_is = ap action_view c.in-Start.is in
    let count = counted c.args.node.now _ a_is c.requires.step.counts in
    subst (Does c.args.self.now c.start.new.self c.start.result) (begins (image_of code c.args.self.now).layout c.args.ctx.now.number (malloc_choice c.args.self.now.memory.storage) (top_of c.args.ctx.now).own c.args.self.now.memory (action_view c.args.node.now.action) c.args.node.now.places.items _ c.args.node.now.temps.items _ no_place 0 c.as_slice-places.ensures c.as_slice-temps.ensures _ _ _ a_is count.0 count.1 c.target-in-Start.ensures c.word-in-Start.ensures refl) c.start.ensures.does
