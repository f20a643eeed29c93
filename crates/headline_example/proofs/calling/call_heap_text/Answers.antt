use Rattle.headline_example.proofs.Derived.{came_to}
use Rattle.headline_example.proofs.calling.call_heap_text.Goals as goal

pub returns : goal.returns
returns g c =
    came_to c.read_each_text_once.ensures.one_tree c.read_each_text_once.ensures.not_both c.it_has_its_tree.ensures c.its_runs_are_known.ensures c.journals_have_room.ensures _ _ _ _ _ c.requires.words c.requires.told c.alaska.ensures.headline
