use Rattle.std.proofs.Common.{◌≤◌, sym, ap, ◌∙◌, subst}
use Rattle.std.specs.Vec.{vec_capacity}
use Rattle.arena_meaning.specs.Arena.{IsConsistent, Storage}
use Rattle.flat_meaning.specs.Memory.{words_leaving}
use Rattle.flat_machine.proofs.Left.{count_kept, most_kept, words_keep}
use Rattle.flat_machine.proofs.shared.Shared.leave.Goals as goal

pub invariant_of-self : goal.invariant_of-self
invariant_of-self c =
    let old = c.self.invariant in
    let words = words_leaving c.self.inside.leaving in (
      record {
        consistent = subst IsConsistent (sym c.leave.ensures.left) (words_keep words c.self.inside.arena old.0.consistent);
        printed = old.0.printed;
        output_small = old.0.output_small;
        some_thread = old.0.some_thread;
        few_threads = old.0.few_threads;
        few_entries = old.0.few_entries;
        plan_room = old.0.plan_room ∙ sym (ap (λ (s : Storage). s.heaps.most) c.leave.ensures.left ∙ most_kept words c.self.inside.arena);
        pins_room = old.0.pins_room;
        words_room = old.0.words_room;
      },
      old.1,
      old.2,
      old.3,
      subst (λ n. n ≤ vec_capacity c.self.inside.tails) (sym (ap (λ (s : Storage). s.heaps.count) c.leave.ensures.left ∙ count_kept words c.self.inside.arena)) old.4,
      subst (λ n. n ≤ vec_capacity c.self.inside.moves) (sym (ap (λ (s : Storage). s.heaps.most) c.leave.ensures.left ∙ most_kept words c.self.inside.arena)) old.5,
    )
