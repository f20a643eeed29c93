use Rattle.std.proofs.Common.{◌≡◌, List, [], ◌∷◌, ◌++◌, map, reverse, ap, ◌∙◌, rules}
use Rattle.block_meaning.specs.declared.thread.Caller.{Caller}
use Rattle.block_meaning.specs.Threads.{caller_of}
use Rattle.block_meaning.proofs.Calls.{nearest}
use Rattle.block_meaning.proofs.perform.wait.Goals as goal

pub returns : goal.returns
returns c =
    let pushed : c.push.new.self.items ≡ c.args.callers.now.items ++ c.args.caller ∷ [] = search rules in
    ap (λ (l : List Caller). map caller_of (reverse l)) pushed ∙ nearest caller_of c.args.callers.now.items c.args.caller
