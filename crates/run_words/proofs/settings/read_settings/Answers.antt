use Rattle.std.proofs.Common.{map, string_bytes}
use Rattle.run_words.proofs.ParsedWords.{settings_of-matches, settings_of-refused}
use Rattle.run_words.proofs.settings.read_settings.Goals as goal

pub returns-in-Some : goal.returns-in-Some
returns-in-Some c = settings_of-matches (map string_bytes c.args.words.now) _ c.in-Some.matches c.settings_by.result c.in-Some.is c.in_ok-matches.ensures c.settings_by.ensures

pub returns-in-None : goal.returns-in-None
returns-in-None c = settings_of-refused (map string_bytes c.args.words.now) _ c.in-None.is c.in_ok-matches.ensures
