use Rattle.c_parse.proofs.CodeTexts.{ends_told, found_told, refused_told}
use Rattle.c_parse.proofs.whole.parse.Goals as goal

-- the terminals end as the tokens do
pub parse_terminals-requires : goal.parse_terminals-requires
parse_terminals-requires c = rw (c.deref.ensures.value, c.in-Ok.ensures) (ends_told c.args.text.now c.args.tokens.now c.requires.end)

-- what is said of the terminals is said of the tokens
pub returns-in-Ok-clause-found : goal.returns-in-Ok-clause-found
returns-in-Ok-clause-found c =
    let told = rw (c.deref.ensures.value, c.in-Ok.ensures) at c.parse_terminals.ensures.found in
    found_told c.args.text.now c.args.tokens.now c.parse_terminals.result told

pub returns-in-Ok-clause-refused : goal.returns-in-Ok-clause-refused
returns-in-Ok-clause-refused c =
    let told = rw (c.deref.ensures.value, c.in-Ok.ensures) at c.parse_terminals.ensures.refused in
    refused_told c.args.text.now c.args.tokens.now c.parse_terminals.result told
