use Rattle.std.proofs.Common.{◌∙◌, map, string_bytes}
use Rattle.run_words.proofs.ParsedWords.{IsParseOf-from_clap, are_taken-from_clap}
use Rattle.run_words.proofs.command.parse.Goals as goal

pub returns-in-Ok : goal.returns-in-Ok
returns-in-Ok c = IsParseOf-from_clap _ (map string_bytes c.args.words.now) c.in-Ok.matches c.in_ok-command.ensures c.in-Ok.ensures.matches c.in-Ok.ensures.kinds

pub returns : goal.returns
returns c = are_taken-from_clap _ (map string_bytes c.args.words.now) c.in-Err.error c.in_ok-command.ensures (λ memory. c.in_default.not-OutOfMemory (c.kind.ensures ∙ memory)) c.in-Err.ensures.kinds
