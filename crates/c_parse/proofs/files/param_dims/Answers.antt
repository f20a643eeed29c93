use Rattle.std.proofs.Common.{◌≡◌, length, map, vec_len, arith}
use Rattle.std.proofs.lemmas.List.{map-append, length-map}
use Rattle.std.proofs.lemmas.Result.{err_from_is_err_and}
use Rattle.c_tree.specs.SyntaxViews.{param_dim_view}
use Rattle.parse_expressions.proofs.CodeLoops.{goes, ends, end_stops, link_stops}
use Rattle.c_parse.proofs.files.param_dims.Goals as goal

pub dims-preserved : goal.dims-preserved
dims-preserved c =
    let open_ = rw c.if-branch.true at c.in_ok-is_next.ensures in
    let many : vec_len c.dims.all ≡ length (map param_dim_view c.dims.all.items) = omega (arith, c.dims.all.ok.0, length-map c.dims.all.items param_dim_view) in
    let read = rw (c.len.ensures, many) at c.in_ok-dim.ensures.reads in
    record {
      going = rw (c.in_ok-put_inner.ensures, map-append) (goes _ _ _ _ _ _ _ _ _ _ c.dims.invariant.going open_ read c.in_ok-dim.ensures.takes);
      keeps = omega (arith, c.in_ok-dim.ensures.takes, c.dims.invariant.keeps);
    }

pub returns-in_err-is_next-clause-reads : goal.returns-in_err-is_next-clause-reads
returns-in_err-is_next-clause-reads c =
    let p = err_from_is_err_and c.from_residual.result c.from_residual.ensures.1 in
    rw (p.1, p.2) (end_stops _ _ _ _ _ _ _ _ c.dims.invariant.going c.in_err-is_next.ensures)

pub returns-in_err-dim-clause-reads : goal.returns-in_err-dim-clause-reads
returns-in_err-dim-clause-reads c =
    let open_ = rw c.if-branch.true at c.in_ok-is_next.ensures in
    let many : vec_len c.dims.all ≡ length (map param_dim_view c.dims.all.items) = omega (arith, c.dims.all.ok.0, length-map c.dims.all.items param_dim_view) in
    let stopped = rw (c.len.ensures, many) at c.in_err-dim.ensures.reads in
    let p = err_from_is_err_and c.from_residual-in_err-dim.result c.from_residual-in_err-dim.ensures.1 in
    rw (p.1, p.2) (link_stops _ _ _ _ _ _ _ _ c.dims.invariant.going open_ stopped)

pub returns-clause-reads : goal.returns-clause-reads
returns-clause-reads c =
    let closed = rw c.if-branch.false at c.in_ok-is_next.ensures in
    ends _ _ _ _ _ _ _ c.dims.invariant.going closed
