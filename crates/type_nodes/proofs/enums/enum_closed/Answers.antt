use Rattle.type_nodes.proofs.EnumLists.{enum_closed_tells}
use Rattle.type_nodes.proofs.enums.enum_closed.Goals as goal

pub returns : goal.returns
returns c = λ j p g h. enum_closed_tells c.args.tag p.1 j p c.args.context.now c.end_enum.new.self c.args.opened c.args.list c.enum_of.result g h c.in_ok-end_enum.ensures.after c.enum_of.ensures
