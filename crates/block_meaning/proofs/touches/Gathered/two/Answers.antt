use Rattle.std.proofs.Common.{ℕ, ◌++◌, sym, ap}
use Rattle.block_store.specs.Actions.{bytes_at}
use Rattle.c_meaning.specs.Touches.{each}
use Rattle.block_meaning.proofs.Touching.{gains_then}
use Rattle.block_meaning.proofs.touches.Gathered.two.Goals as goal

pub returns : goal.returns
returns c = λ a b.
    let first = c.in_ok-bytes.ensures a in
    gains_then c.args.self.now c.bytes.new.self c.bytes-2.new.self _ _ _ first (c.in_ok-bytes-2.ensures b)
    (ap (λ (place : ℕ). each c.args.self.now.place c.args.first (bytes_at a c.args.bytes c.args.from) ++ each place c.args.second (bytes_at b c.args.bytes c.args.to)) first.place)
