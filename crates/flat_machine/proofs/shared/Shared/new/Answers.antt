use Rattle.std.proofs.Common.{◌≡◌, ◌+◌, ◌-◌, List, [], ◌∷◌, ◌++◌, map, None, sym, ap, ◌∙◌, subst, arith}
use Rattle.struct_ir.specs.Instrs.{LinearCode}
use Rattle.flat_store.specs.Flat.{first_address}
use Rattle.flat_meaning.specs.Image.{linear_image, plain_size}
use Rattle.flat_meaning.specs.Memory.{beginning}
use Rattle.flat_machine.specs.Shares.{IsSharedOf}
use Rattle.flat_machine.specs.Start.{settings_limits}
use Rattle.flat_machine.specs.declared.made.MadeThread.{MadeThread}
use Rattle.flat_machine.specs.inner.Shares.{made_view}
use Rattle.flat_machine.proofs.Opened.{opened_is, opened_of, storage_is}
use Rattle.flat_machine.proofs.shared.Shared.new.Goals as goal

pub returns-clause-made : goal.returns-clause-made
returns-clause-made c =
    let code : LinearCode = c.args.program.now in
    let limits = settings_limits c.args.s.now in
    let plain : c.stack_start.result - first_address + c.from.result ≡ plain_size (linear_image code limits).layout = omega (arith, c.stack_start.ensures, c.from.ensures) in
    let storage = storage_is code limits (c.stack_start.result - first_address + c.from.result) c.in_ok-arena.arena c.write_plain_data.new.arena plain c.in_ok-arena.ensures.made c.write_plain_data.ensures in
    let thread : map made_view c.push_reserved.new.self.items ≡ beginning c.code-code.result.now.main 0 ∷ [] =
    ap (map made_view) (c.push_reserved.ensures.items ∙ ap (λ (ts : List MadeThread). ts ++ record { function = c.code-code.result.now.main; argument = 0; result = None } ∷ []) c.in_ok-threads.ensures.items) in
    let main : map made_view c.push_reserved.new.self.items ≡ beginning code.main 0 ∷ [] = thread ∙ ap (λ (p : LinearCode). beginning p.main 0 ∷ []) c.code-code.ensures.code in
    opened_is code limits _ _ _ _ _ (c.arena.view_is ∙ storage) c.in_ok-with_capacity.ensures.items main c.in_ok-with_capacity-2.ensures.items c.in_ok-none.ensures

pub returns-clause-of : goal.returns-clause-of
returns-clause-of c = subst (IsSharedOf c.args.program.now) (sym (returns-clause-made c)) (opened_of c.args.program.now (settings_limits c.args.s.now) c.code-code.ensures.program)
