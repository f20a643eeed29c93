use Rattle.std.proofs.Common.{◌≡◌, ◌-◌, ◌<◌, ◌++◌, ◌∷◌, [], map, refl, arith}
use Rattle.std.proofs.lemmas.Result.{err_from_is_err_and}
use Rattle.std.proofs.lemmas.List.{map_push}
use Rattle.formats.specs.Formats.{byte_below, u32, list}
use Rattle.formats.proofs.Loops.{with_front, goes_on, ends, is_done, begins, begins_not}
use Rattle.code_file.specs.Files.{node, nodes}
use Rattle.struct_ir.specs.Views.{node_view, nodes_view}
use Rattle.code_file.proofs.Fails.{passes}
use Rattle.code_file.proofs.Rows.{nodes_read, nodes_not_read, node_read, no_place, no_tag}
use Rattle.code_file.proofs.nodes.+reads.Goals as goal

pub nodes_at-returns-in_err-count : goal.nodes_at-returns-in_err-count
nodes_at-returns-in_err-count t c =
    let p = err_from_is_err_and c.from_residual.result c.from_residual.ensures.1 in
    let pos : 0 < c.args.depth = omega arith in
    rw (p.1, p.2) (passes c.in_err-count.field-0.0 (u32.read c.args.bytes.now) ((nodes c.args.depth).read c.args.bytes.now) (λ n e. nodes_not_read c.args.depth pos c.args.bytes.now n (begins_not (node (nodes (c.args.depth - 1))) c.args.bytes.now n e)) c.in_err-count.ensures)

pub nodes_at-loop-init : goal.nodes_at-loop-init
nodes_at-loop-init t c = rw c.new-out.ensures.items (begins (node (nodes (c.args.depth - 1))) c.in_ok-count.count c.args.bytes.now c.in_ok-count.begin.now c.in_ok-count.ensures)

pub nodes_at-returns-in_err-one : goal.nodes_at-returns-in_err-one
nodes_at-returns-in_err-one t c =
    let p = err_from_is_err_and c.from_residual-in_err-one.result c.from_residual-in_err-one.ensures.1 in
    let pos : 0 < c.args.depth = omega arith in
    rw (p.1, p.2) (passes c.in_err-one.field-0.0 ((node (nodes (c.args.depth - 1))).read c.loop.rest.now) ((nodes c.args.depth).read c.args.bytes.now)
    (λ n e. nodes_not_read c.args.depth pos c.args.bytes.now n (ends (node (nodes (c.args.depth - 1))) (map node_view c.loop.out.items) c.in_ok-count.count c.loop.counter c.loop.rest.now n ((list (node (nodes (c.args.depth - 1)))).read c.args.bytes.now) c.loop-test.true e c.loop.invariant)) c.in_err-one.ensures)

pub nodes_at-loop-preserved : goal.nodes_at-loop-preserved
nodes_at-loop-preserved t c =
    let n = c.in_ok-one.one in
    let e : map node_view c.push.new.self.items ≡ map node_view c.loop.out.items ++ node_view n ∷ [] = rw c.in_ok-push.ensures.items (map_push node_view c.loop.out.items n) in
    rw e (goes_on (node (nodes (c.args.depth - 1))) (map node_view c.loop.out.items) c.in_ok-count.count c.loop.counter c.loop.rest.now (node_view c.in_ok-one.one) c.in_ok-one.after.now ((list (node (nodes (c.args.depth - 1)))).read c.args.bytes.now) c.loop-test.true c.in_ok-one.ensures c.loop.invariant)

pub nodes_at-returns : goal.nodes_at-returns
nodes_at-returns t c =
    let pos : 0 < c.args.depth = omega arith in
    nodes_read c.args.depth pos c.args.bytes.now c.loop.rest.now c.loop.out.items (is_done (node (nodes (c.args.depth - 1))) (map node_view c.loop.out.items) c.in_ok-count.count c.loop.counter c.loop.rest.now ((list (node (nodes (c.args.depth - 1)))).read c.args.bytes.now) c.loop-test.false c.loop.invariant)

pub node_at-returns-in_err-place : goal.node_at-returns-in_err-place
node_at-returns-in_err-place t c =
    let p = err_from_is_err_and c.from_residual.result c.from_residual.ensures.1 in
    rw (p.1, p.2) (passes c.in_err-place.field-0.0 (u32.read c.args.bytes.now) ((node (nodes c.args.depth)).read c.args.bytes.now) (no_place (nodes c.args.depth) c.args.bytes.now) c.in_err-place.ensures)

pub node_at-returns-in_err-tag : goal.node_at-returns-in_err-tag
node_at-returns-in_err-tag t c =
    let p = err_from_is_err_and c.from_residual-in_err-tag.result c.from_residual-in_err-tag.ensures.1 in
    rw (p.1, p.2) (passes c.in_err-tag.field-0.0 ((byte_below 12).read c.in_ok-place.rest.now) ((node (nodes c.args.depth)).read c.args.bytes.now)
    (λ k e. no_tag (nodes c.args.depth) c.args.bytes.now c.in_ok-place.rest.now c.in_ok-place.place k c.in_ok-place.ensures e) c.in_err-tag.ensures.value)

pub node_at-returns : goal.node_at-returns
node_at-returns t c = rw (node_read (nodes c.args.depth) c.args.bytes.now c.in_ok-place.rest.now c.in_ok-tag.rest.now c.in_ok-place.place c.in_ok-tag.tag c.in_ok-place.ensures c.in_ok-tag.ensures.value) c.kind_at.ensures

pub kind_at-returns-in-0 : goal.kind_at-returns-in-0
kind_at-returns-in-0 t c = rw c.in-0.is c.set_at.ensures

pub kind_at-returns-in-1 : goal.kind_at-returns-in-1
kind_at-returns-in-1 t c = rw c.in-1.is c.if_at.ensures

pub kind_at-returns-in-2 : goal.kind_at-returns-in-2
kind_at-returns-in-2 t c = rw c.in-2.is c.loop_at.ensures

pub kind_at-returns-in-3 : goal.kind_at-returns-in-3
kind_at-returns-in-3 t c = rw (c.in-3.is, c.node.ensures) refl

pub kind_at-returns-in-4 : goal.kind_at-returns-in-4
kind_at-returns-in-4 t c = rw (c.in-4.is, c.node-in-4.ensures) refl

pub kind_at-returns-in-5 : goal.kind_at-returns-in-5
kind_at-returns-in-5 t c = rw c.in-5.is c.call_node_at.ensures

pub kind_at-returns-in-6 : goal.kind_at-returns-in-6
kind_at-returns-in-6 t c = rw c.in-6.is c.ret_at.ensures

pub kind_at-returns-in-7 : goal.kind_at-returns-in-7
kind_at-returns-in-7 t c = rw c.in-7.is c.step_node_at.ensures

pub kind_at-returns-in-8 : goal.kind_at-returns-in-8
kind_at-returns-in-8 t c = rw c.in-8.is c.look_at.ensures

pub kind_at-returns-in-9 : goal.kind_at-returns-in-9
kind_at-returns-in-9 t c = rw c.in-9.is c.safepoint_at.ensures

pub kind_at-returns-in-10 : goal.kind_at-returns-in-10
kind_at-returns-in-10 t c = rw c.in-10.is c.begin_at.ensures

pub kind_at-returns-in_default : goal.kind_at-returns-in_default
kind_at-returns-in_default t c = let e : c.args.tag ≡ 11 = omega arith in rw e c.end_at.ensures
