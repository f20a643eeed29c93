use Rattle.std.proofs.Common.{◌≡◌, ℕ, ◌+◌, ◌<◌, ◌≤◌, List, length, map, get_or, drop, sym, ap, ◌∙◌, arith}
use Rattle.std.specs.Prelude.{sum_by}
use Rattle.c_tree.specs.TypedForm.{taken}
use Rattle.c_tree.specs.TypedViews.{init_view, literal_view}
use Rattle.struct_ir.specs.Instrs.{LinearCode}
use Rattle.struct_ir.specs.Nodes.{Global}
use Rattle.struct_ir.specs.Views.{global_view}
use Rattle.struct_ir.specs.Whole.{is_init_in}
use Rattle.flat_store.specs.Flat.{with_bytes}
use Rattle.arena_meaning.specs.Arena.{Storage}
use Rattle.flat_meaning.specs.Image.{Layout, first_bytes, globals_written, literal_address}
use Rattle.flat_threads.specs.Contexts.{layout_of}
use Rattle.flat_machine.proofs.Written.{all_at, first_few, length-with_bytes, literals_behind, next_of, next_sum, viewed}
use Rattle.flat_machine.proofs.loading.write_plain_data.Goals as goal

-- one global more
module _ (x : Layout) (i at : ℕ) (g : Global) (here : (i < length x.globals) × (get_or x.globals i g ≡ g)) (left : at + sum_by (λ g. taken g.size) (drop i x.globals) ≡ literal_address x 0) where
  sum_here : at + (taken g.size + sum_by (λ g. taken g.size) (drop (i + 1) x.globals)) ≡ literal_address x 0
  sum_here = omega (arith, left, next_sum (λ (g : Global). taken g.size) x.globals i g here)

  global_fits : at + 16 ≤ literal_address x 0
  global_fits = omega (arith, sum_here)

  global_step : at + taken g.size ≤ literal_address x 0
  global_step = omega (arith, sum_here)

  global_left : at + taken g.size + sum_by (λ g. taken g.size) (drop (i + 1) x.globals) ≡ literal_address x 0
  global_left = omega (arith, sum_here)

  global_written : (old new first : Storage) (result : List ℕ) → old ≡ record first { bytes = old.bytes } → new ≡ record old { bytes = with_bytes old.bytes at (first_bytes x g.init) } → globals_written x at (drop i x.globals) old.bytes ≡ result → (new ≡ record first { bytes = new.bytes }) × (globals_written x (at + taken g.size) (drop (i + 1) x.globals) new.bytes ≡ result)
  global_written old new first result kept is written =
      let bytes : new.bytes ≡ with_bytes old.bytes at (first_bytes x g.init) = ap (λ (s : Storage). s.bytes) is in
      let next = ap (λ gs. globals_written x at gs old.bytes) (next_of x.globals i g here) in (
        is ∙ ap (λ (s : Storage). record s { bytes = with_bytes old.bytes at (first_bytes x g.init) }) kept ∙ ap (λ bs. record first { bytes = bs }) (sym bytes),
        ap (λ bs. globals_written x (at + taken g.size) (drop (i + 1) x.globals) bs) bytes ∙ sym next ∙ written,
      )

pub write_global-requires-clause-fits : goal.write_global-requires-clause-fits
write_global-requires-clause-fits c =
    let x = layout_of c.args.program.now in
    let items = c.deref-global-items.result.now in
    let views : map global_view items ≡ x.globals = ap (map global_view) c.deref-global-items.ensures.value ∙ ap (λ (p : LinearCode). p.globals) c.code-code.ensures.code in
    let here = viewed global_view items x.globals c.loop-global.global-index c.global-item.result views c.loop-global-test.true c.global-item.is in
    let fits = global_fits x c.loop-global.global-index c.loop-global.at (global_view c.global-item.result) here c.loop-global.invariant.left in
    omega (arith, fits, literals_behind x, c.requires.fit, c.loop-global.invariant.whole)

pub write_global-requires-clause-there : goal.write_global-requires-clause-there
write_global-requires-clause-there c =
    let x = layout_of c.args.program.now in
    let code = c.code-code.result.now in
    let items = c.deref-global-items.result.now in
    let views : map global_view items ≡ map global_view code.globals.items = ap (map global_view) c.deref-global-items.ensures.value in
    let here = viewed global_view items (map global_view code.globals.items) c.loop-global.global-index c.global-item.result views c.loop-global-test.true c.global-item.is in
    let all = all_at (λ (g : Global). is_init_in (length (map literal_view code.literals.items)) g.init) (map global_view code.globals.items) c.loop-global.global-index (global_view c.global-item.result) code.literals_are_there here.0 in
    let literals : length (map literal_view code.literals.items) ≡ length x.literals = ap (λ (p : LinearCode). length p.literals) c.code-code.ensures.code in
    ap (λ n. is_init_in n (init_view c.global-item.result.init)) (sym literals) ∙ ap (λ (g : Global). is_init_in (length (map literal_view code.literals.items)) g.init) (sym here.1) ∙ all

pub loop-global-preserved : goal.loop-global-preserved
loop-global-preserved c =
    let x = layout_of c.args.program.now in
    let i = c.loop-global.global-index in
    let at = c.loop-global.at in
    let g = global_view c.global-item.result in
    let old = c.loop-global.arena in
    let new = c.write_global.new.arena in
    let items = c.deref-global-items.result.now in
    let views : map global_view items ≡ x.globals = ap (map global_view) c.deref-global-items.ensures.value ∙ ap (λ (p : LinearCode). p.globals) c.code-code.ensures.code in
    let here = viewed global_view items x.globals i c.global-item.result views c.loop-global-test.true c.global-item.is in
    let fits = global_fits x i at g here c.loop-global.invariant.left in
    let left = global_left x i at g here c.loop-global.invariant.left in
    let is : new ≡ record old { bytes = with_bytes old.bytes at (first_bytes x g.init) } = c.write_global.ensures in
    let few : length (first_bytes x g.init) ≤ 16 = first_few x g.init in
    let whole : length new.bytes ≡ length old.bytes =
    ap (λ (s : Storage). length s.bytes) is ∙ length-with_bytes old.bytes (first_bytes x g.init) at (omega (arith, few, fits, literals_behind x, c.requires.fit, c.loop-global.invariant.whole, c.loop-global.invariant.first)) in
    let step : c.taken-at.result ≡ taken g.size = c.taken-at.ensures ∙ ap taken c.from.ensures in
    let done = global_written x i at g here c.loop-global.invariant.left old new c.args.arena.now _ c.loop-global.invariant.rest is c.loop-global.invariant.written in
    record {
      first = omega (arith, c.loop-global.invariant.first);
      left = rw step left;
      whole = whole ∙ c.loop-global.invariant.whole;
      rest = done.0;
      written = rw step done.1;
    }
