use Rattle.std.proofs.Common.{[], ◌∷◌, ◌++◌, sym, ap, append-nil, ◌∙◌}
use Rattle.pin_frames.specs.Views.{lives_view}
use Rattle.mark_sets.proofs.Backwards.{step_back}
use Rattle.mark_sets.proofs.LiveRows.{live_start, live_more}
use Rattle.pin_frames.proofs.ListRows.{behind_more}
use Rattle.pin_frames.proofs.listing.lives_behind.Goals as goal

pub row-init : goal.row-init
row-init c = (
  [],
  sym (append-nil c.args.rows.now),
  live_start c.args.slot c.args.b (lives_view c.args.after),
  c.in_ok-push.ensures.items ∙ ap (λ l. l ++ (c.args.after.on ∷ [])) c.new-out.ensures.items,
)

pub row-preserved : goal.row-preserved
row-preserved c = (
  c.n-item.result ∷ c.row.invariant.0,
  step_back c.args.rows.now c.row.left.now c.row.invariant.0 c.n-item.result c.in-len1-up.len_at_least c.n-item.is c.row.invariant.1,
  live_more c.args.slot c.args.b c.n-item.result c.row.invariant.0 (lives_view c.args.after) c.row.on c.live_node-on.result (lives_view c.lives_of.result) c.row.invariant.2 c.lives_of.ensures c.live_node-on.ensures,
  behind_more c.args.slot c.args.b c.n-item.result c.row.invariant.0 (lives_view c.args.after) c.row.on c.live_node-on.result (lives_view c.lives_of.result) c.row.out.items c.push-in-len1-up.new.self.items
      c.row.invariant.2 c.lives_of.ensures c.live_node-on.ensures c.row.invariant.3 c.in_ok-push-2.ensures.items,
)
