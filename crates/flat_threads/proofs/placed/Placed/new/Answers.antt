use Rattle.std.proofs.Common.{◌≡◌, ◌∙◌, arith, length}
use Rattle.std.proofs.lemmas.List.{length-map}
use Rattle.flat_meaning.specs.Image.{global_address}
use Rattle.flat_threads.specs.Contexts.{layout_of}
use Rattle.struct_ir.specs.LinearViews.{code_view}
use Rattle.struct_ir.specs.Views.{global_view}
use Rattle.flat_threads.proofs.Addresses.{start_count, start_at, behind_globals}
use Rattle.flat_threads.proofs.placed.Placed.new.Goals as goal

pub index-requires : goal.index-requires
index-requires c =
    let x = layout_of (code_view c.args.code) in
    let n : c.len.result ≡ length x.globals = omega (arith, c.len.ensures, length-map c.args.code.globals.items global_view) in
    omega (arith, n, start_count (global_address x) c.in_ok-globals.globals.items (length x.globals) c.in_ok-globals.ensures, c.in_ok-globals.globals.ok.0)

pub literal_starts-requires : goal.literal_starts-requires
literal_starts-requires c =
    let x = layout_of (code_view c.args.code) in
    let n : c.len.result ≡ length x.globals = omega (arith, c.len.ensures, length-map c.args.code.globals.items global_view) in
    start_at (global_address x) c.in_ok-globals.globals.items (length x.globals) c.len.result c.index.result.now c.in_ok-globals.ensures (omega (arith, n)) c.index.ensures
    ∙ behind_globals x c.len.result (omega (arith, n))
