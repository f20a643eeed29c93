use Rattle.std.proofs.Common.{sym, ◌∙◌, subst}
use Rattle.handle_table.specs.Table.{IsInUse}
use Rattle.defrag_move.proofs.Named.{in_use-place}
use Rattle.defrag_move.proofs.arena.Arena.live_start.Goals as goal

pub returns-then-offset-eq0-clause-live : goal.returns-then-offset-eq0-clause-live
returns-then-offset-eq0-clause-live c =
    let used = in_use-place c.args.self.now c.place_of.ensures.consistent c.id.result c.place_of.result c.place_of.ensures.place in (
      λ some. record {
        handle = c.is_handle.ensures.0 c.if-is_handle.true;
        start = sym c.offset.ensures.value ∙ c.if-offset-eq0.true;
        in_use = subst (IsInUse c.args.self.now.table) c.id.ensures.value (used.0 some);
      },
      λ live. used.1 (subst (IsInUse c.args.self.now.table) (sym c.id.ensures.value) live.in_use),
    )
