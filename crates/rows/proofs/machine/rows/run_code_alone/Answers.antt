use Rattle.rows.proofs.machine.rows.run_code_alone.Goals as goal

pub run_alone-requires-clause-opened : goal.run_alone-requires-clause-opened
run_alone-requires-clause-opened c = (c.args.settings.now, c.in_ok-shared.ensures.made)
