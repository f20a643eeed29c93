use Rattle.c_tree.specs.TypedViews.{init_view}
use Rattle.code_save.proofs.Writing.{on_ok}
use Rattle.code_save.proofs.Parts.{init_wrote}
use Rattle.code_save.proofs.files.put_init.Goals as goal

pub returns : goal.returns
returns c = on_ok c.put_fields.result (init_wrote (init_view c.args.init) c.tag_of.result c.tag_of.ensures c.in_ok-put.ensures) c.put_fields.ensures
