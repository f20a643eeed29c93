use Rattle.c_typing.specs.Judgement.{is_no_enum}
use Rattle.type_context.specs.ContextViews.{context_view}
use Rattle.type_rules.specs.SpecifierViews.{part_view}
use Rattle.type_context.proofs.Judging.{fault_gives}
use Rattle.type_nodes.proofs.EnumLists.{tagged_tells}
use Rattle.type_nodes.proofs.structs.tagged.Goals as goal

pub returns : goal.returns
returns c =
    tagged_tells c.args.tag (context_view c.args.context.now) c.named_tag.new.context c.in_ok-number.number c.as_fault.result c.in_ok-number.ensures.after c.in_ok-number.ensures.number
    (fault_gives part_view _ _ _ c.as_fault.ensures (c.struct_if.ensures (is_no_enum (context_view c.args.context.now) c.args.tag) c.is_no_enum-fine.ensures))
