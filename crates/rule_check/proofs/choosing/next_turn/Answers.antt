use Rattle.std.proofs.Common.{◌%◌, ◌-◌, ℕ, List, length, drop, take, Option, Some, None, subst}
use Rattle.block_meaning.specs.Running.{running_of}
use Rattle.rule_check.specs.declared.choosing.Next.{Next}
use Rattle.rule_check.specs.inner.Steps.{IsFound}
use Rattle.rule_check.proofs.Steps.{found_first, found_second, whole_rest}
use Rattle.rule_check.proofs.choosing.next_turn.Goals as goal

pub returns-in-Some-clause-found : goal.returns-in-Some-clause-found
returns-in-Some-clause-found c =
    let typed = (running_of c.args.run.now).typed in
    let s = (running_of c.args.run.now).state in
    let l = c.args.threads.now in
    let place = c.args.draw % length l in
    let after = (running_of c.first_of.new.run).state in
    found_first typed s after (drop place l) (take place l) c.in-Some.next
    (subst (λ (m : List ℕ). IsFound typed s m (Some c.in-Some.next) after) (whole_rest place l) (subst (λ (n : Option Next). IsFound typed s (take (length l - place) (drop place l)) n after) c.in-Some.is c.in_ok-next.ensures.found))

pub returns-in_ok-found-in-None-clause-found : goal.returns-in_ok-found-in-None-clause-found
returns-in_ok-found-in-None-clause-found c =
    let typed = (running_of c.args.run.now).typed in
    let s = (running_of c.args.run.now).state in
    let l = c.args.threads.now in
    let place = c.args.draw % length l in
    let after = (running_of c.first_of.new.run).state in
    found_second typed ((running_of c.first_of.new.run).typed) s after _ (drop place l) (take place l) _
    (subst (λ (m : List ℕ). IsFound typed s m None after) (whole_rest place l) (subst (λ (n : Option Next). IsFound typed s (take (length l - place) (drop place l)) n after) c.in-None.is c.in_ok-next.ensures.found))
    c.in_ok-next.ensures.program c.in_ok-found-in-None.ensures.found
