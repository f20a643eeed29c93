use Rattle.std.proofs.Common.{◌∙◌, Ok, ap, sym, arith}
use Rattle.std.proofs.lemmas.Result.{IfOk-weaker}
use Rattle.c_lex.proofs.Strings.{string_stands}
use Rattle.c_lex.proofs.lexer.literal.Goals as goal

pub overflow_sub-token : goal.overflow_sub-token
overflow_sub-token c =
    let stands = string_stands c.args.text.now c.args.token c.requires in
    let long = stands.long in
    let within = stands.within in
    omega arith

pub slice_bounds-bytes_of-count : goal.slice_bounds-bytes_of-count
slice_bounds-bytes_of-count c =
    let stands = string_stands c.args.text.now c.args.token c.requires in
    let long = stands.long in
    let within = stands.within in
    omega arith

pub slice_bounds-bytes_of-start : goal.slice_bounds-bytes_of-start
slice_bounds-bytes_of-start c =
    let stands = string_stands c.args.text.now c.args.token c.requires in
    let long = stands.long in
    let within = stands.within in
    omega arith

pub slice_bounds-bytes_of-end : goal.slice_bounds-bytes_of-end
slice_bounds-bytes_of-end c =
    let stands = string_stands c.args.text.now c.args.token c.requires in
    let long = stands.long in
    let within = stands.within in
    omega arith

pub returns : goal.returns
returns c =
    let stands = string_stands c.args.text.now c.args.token c.requires in
    IfOk-weaker c.bytes_of.result _ _ (λ bytes is. stands.value ∙ ap (λ v. Ok v) (sym is)) c.bytes_of.ensures
