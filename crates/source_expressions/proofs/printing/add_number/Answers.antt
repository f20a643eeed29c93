use Rattle.std.proofs.Common.{◌≡◌, ◌∙◌, ap, sym, refl, drop, length, rules, to_z, of_z}
use Rattle.std.specs.Int.{w128}
use Rattle.std.specs.List.{slice_get}
use Rattle.std.proofs.Common.{Some}
use Rattle.std.proofs.lemmas.Option.{slice_get_read}
use Rattle.std.proofs.lemmas.Bool.{ltb-true}
use Rattle.c_tree.specs.TypedPrinting.{written}
use Rattle.c_tree.specs.TypedViews.{piece_view}
use Rattle.source_expressions.proofs.Gather.{more_number}
use Rattle.source_expressions.proofs.printing.add_number.Goals as goal

pub returns : goal.returns
returns c = λ t pointers rest.
    let n = c.in-Some.n.now in
    let ns = c.args.numbers.now in
    let i = c.args.so_far.now.numbers in
    let q = piece_view c.args.piece.now in
    let got : slice_get ns i ≡ Some n = slice_get_read ns (length ns) i n refl (ltb-true i (length ns) (sym c.in-Some.ensures.lookup.0)) c.in-Some.ensures.lookup.1 in
    let same : to_z w128 (of_z w128 n) ≡ n = search rules in
    more_number c.args.so_far.now.all.items c.push.new.self.items c.in_ok-bytes.bytes q rest ns i n (drop c.args.so_far.now.pointers pointers) t got
    (c.in_ok-bytes.ensures ∙ ap (written q) same) c.in_ok-push.ensures.items
