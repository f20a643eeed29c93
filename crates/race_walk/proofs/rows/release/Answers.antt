use Rattle.std.proofs.Common.{ℕ, Option, Vec, ap}
use Rattle.std.specs.Global.{Global}
use Rattle.std.specs.HashMap.{get}
use Rattle.race_walk.specs.Keys.{three_eq}
use Rattle.race_walk.specs.Views.{told_by, row_of}
use Rattle.race_walk.proofs.Steps.{joined_at, three_same}
use Rattle.race_walk.proofs.rows.release.Goals as goal

pub returns : goal.returns
returns c = λ b f e u.
    joined_at three_eq three_same (λ q. told_by (row_of (get three_eq c.args.rows.now q))) (λ q. told_by (row_of (get three_eq c.join_row.new.rows q))) (told_by c.args.clock.now)
    (c.args.touch.block, (c.args.touch.from, c.args.touch.to)) c.in_ok-join_row.ensures.here
    (λ q h t. let F : Option (Vec ℕ Global) → ℕ = λ o. told_by (row_of o) t in ap F (c.in_ok-join_row.ensures.others q h)) (b, (f, e)) u
