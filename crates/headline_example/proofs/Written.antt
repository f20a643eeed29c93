-- The tokens of the text, and the file that they are.
use Rattle.std.proofs.Common.{◌≡◌, refl, ℕ, ◌+◌, List, [], ◌∷◌, ◌++◌, Some, None, pos, lit≤}
use Rattle.ak_words.specs.declared.operation.Op.TheVariants as ops
use Rattle.ak_words.specs.IntType.{int}
use Rattle.ak_words.specs.Num.{num}
use Rattle.ak_words.specs.Wrapped.{wrapped_value, residue}
use Rattle.c_lex.specs.declared.token.Token.{Token}
use Rattle.c_lex.specs.declared.token.TokenKind.TheVariants as tokens
use Rattle.c_lex.specs.declared.token.Word.TheVariants as words
use Rattle.c_lex.specs.declared.token.Mark.TheVariants as marks
use Rattle.c_lex.specs.Spellings.{word_text, all_words, word_of, mark_text, longest_marks_first, mark_of, library_names, is_taken}
use Rattle.c_lex.specs.Constants.{base_of, suffix_of, constant_of, no_constant, number_of}
use Rattle.c_lex.specs.Quoted.{simple_escapes, byte_of_value, octal_escape, hex_escape, escape, character_at, string_of, char_value, char_of}
use Rattle.c_lex.specs.Items.{begins_number, start_of, item_at}
use Rattle.c_lex.specs.Tokens.{token, end_of, AreTokens}
use Rattle.c_tree.specs.declared.syntax.Name.{Name}
use Rattle.c_tree.specs.declared.syntax.TypeWord.TheVariants as types
use Rattle.c_tree.specs.declared.syntax.Pointer.TheVariants as pointers
use Rattle.c_tree.specs.declared.syntax.PrefixOp.TheVariants as prefixes
use Rattle.c_tree.specs.declared.syntax.BinaryOp.TheVariants as binaries
use Rattle.c_tree.specs.declared.syntax.AssignOp.TheVariants as assigns
use Rattle.c_tree.specs.Syntax as source
use Rattle.c_typing.specs.Types.{type_words}
use Rattle.c_typing.specs.Scope.{library, bytes_of}
use Rattle.c_typing.specs.Formats.{conversions}
use Rattle.c_typing.specs.Rules.{operated_by}
use Rattle.c_typing.specs.Faults.{earlier, typed}
use Rattle.c_typing.specs.Programs.{judged_file}
use Rattle.c_grammar.specs.Grammar.{leaves, IsFile}
use Rattle.c_grammar.specs.Leaves.{over}
use Rattle.c_grammar.specs.Names.{first_types, Spelt}
use Rattle.std.specs.List.{AllByRecursion}
use Rattle.headline_example.specs.Text.{text, tree}

-- ---- tokens

pub front : List Token
front =
    token (tokens.Word words.Int) 0 3 ∷ token tokens.Name 4 8 ∷ token (tokens.Mark marks.OpenParen) 8 9 ∷ token (tokens.Word words.Void) 9 13 ∷
    token (tokens.Mark marks.CloseParen) 13 14 ∷ token (tokens.Mark marks.OpenBrace) 14 15 ∷ token (tokens.Word words.Int) 15 18 ∷
    token (tokens.Mark marks.Star) 19 20 ∷ token tokens.Name 20 21 ∷ token (tokens.Mark marks.Assign) 21 22 ∷ token tokens.Name 22 28 ∷
    token (tokens.Mark marks.OpenParen) 28 29 ∷ token (tokens.Int (num int (pos 4))) 29 30 ∷ token (tokens.Mark marks.CloseParen) 30 31 ∷
    token (tokens.Mark marks.Semicolon) 31 32 ∷ token (tokens.Mark marks.Star) 32 33 ∷ token tokens.Name 33 34 ∷ token (tokens.Mark marks.Assign) 34 35 ∷
    token (tokens.Int (num int (pos 41))) 35 37 ∷ token (tokens.Mark marks.Semicolon) 37 38 ∷ token (tokens.Mark marks.Star) 38 39 ∷
    token tokens.Name 39 40 ∷ token (tokens.Mark marks.Assign) 40 41 ∷ token (tokens.Mark marks.Star) 41 42 ∷ token tokens.Name 42 43 ∷
    token (tokens.Mark marks.Plus) 43 44 ∷ token (tokens.Int (num int (pos 1))) 44 45 ∷ token (tokens.Mark marks.Semicolon) 45 46 ∷
    token tokens.Name 46 52 ∷ token (tokens.Mark marks.OpenParen) 52 53 ∷ token tokens.Text 53 59 ∷ token (tokens.Mark marks.Comma) 59 60 ∷
    token (tokens.Mark marks.Star) 60 61 ∷ token tokens.Name 61 62 ∷ token (tokens.Mark marks.CloseParen) 62 63 ∷
    token (tokens.Mark marks.Semicolon) 63 64 ∷ token tokens.Name 64 68 ∷ token (tokens.Mark marks.OpenParen) 68 69 ∷ token tokens.Name 69 70 ∷
    token (tokens.Mark marks.CloseParen) 70 71 ∷ token (tokens.Mark marks.Semicolon) 71 72 ∷ token (tokens.Word words.Return) 72 78 ∷
    token (tokens.Int (num int (pos 0))) 79 80 ∷ token (tokens.Mark marks.Semicolon) 80 81 ∷ token (tokens.Mark marks.CloseBrace) 81 82 ∷ []

-- all of them
abbrev pub all : List Token
all = front ++ end_of text ∷ []

pub lexed : AreTokens text all
unfolding front word_text all_words word_of mark_text longest_marks_first mark_of library_names is_taken base_of suffix_of constant_of no_constant number_of simple_escapes byte_of_value octal_escape hex_escape escape character_at string_of char_value char_of begins_number start_of item_at wrapped_value residue
lexed = (front, refl, refl)

-- ---- the file

-- where a name stands
abbrev name : ℕ → ℕ → Name
name from to = record { from = from; to = to }

-- *p, with the place of the star
abbrev star_p : ℕ → source.Expr
star_p place = source.prefix place prefixes.Deref (source.name (name (place + 1) (place + 2)))

pub file : source.File
file = record {
  externals = source.external_of [] (source.word 0 types.Int ∷ []) (source.function [] (name 4 8) (record { specs = source.word 9 types.Void ∷ []; pointers = []; name = None; dims = [] } ∷ []) (Some (record {
    place = 14;
    items =
        source.declare (record {
          specs = source.word 15 types.Int ∷ [];
          declarators = record {
            declarator = source.declarator (pointers.Star ∷ []) (name 20 21) source.no_exprs;
            value = Some (source.call (name 22 28) (source.more_exprs (source.int 29 (num int (pos 4))) source.no_exprs));
          } ∷ [];
        })
        ∷ source.simple (source.assign 34 assigns.Plain (star_p 32) (source.int 35 (num int (pos 41))))
        ∷ source.simple (source.assign 40 assigns.Plain (star_p 38) (source.binary 43 (binaries.Value ops.Add) (star_p 41) (source.int 44 (num int (pos 1)))))
        ∷ source.simple (source.eval (source.call (name 46 52) (source.more_exprs (source.text (record { from = 53; to = 59 } ∷ [])) (source.more_exprs (star_p 60) source.no_exprs))))
        ∷ source.simple (source.eval (source.call (name 64 68) (source.more_exprs (source.name (name 69 70)) source.no_exprs)))
        ∷ source.return 72 (Some (source.int 79 (num int (pos 0))))
        ∷ [];
  }))) ∷ [];
}

pub judged : judged_file text file ≡ typed tree
unfolding file type_words library bytes_of conversions operated_by earlier wrapped_value residue simple_escapes string_of character_at escape
judged = refl

pub fits : IsFile file
unfolding file
fits = (
  (
    (tt, (tt, tt)),
    (
      tt,
      (((tt, (tt, tt)), tt, tt), tt),
      ((refl, ((tt, (tt, tt)), tt, ((tt, (tt, tt)), tt))), (((lit≤ tt, tt), tt), (((lit≤ tt, tt), (lit≤ tt, (lit≤ tt, tt), lit≤ tt, tt)), ((tt, ((lit≤ tt, tt), tt)), ((tt, tt), (tt, tt)))))),
    ),
  ),
  tt,
)

pub spelt : Spelt text first_types (leaves file) all
unfolding file front
spelt = (
  (refl, refl),
  (
    (refl, refl, refl, refl),
    (
      refl,
      (
        (refl, refl),
        (
          refl,
          (
            (refl, refl),
            (
              (refl, refl),
              (
                refl,
                (
                  (refl, refl, refl, refl),
                  (
                    refl,
                    (
                      (refl, refl, refl, refl),
                      (
                        refl,
                        (
                          (refl, refl),
                          (
                            refl,
                            (
                              refl,
                              (
                                (refl, refl),
                                (
                                  (refl, refl, refl, refl),
                                  (
                                    (refl, refl),
                                    (
                                      (refl, refl),
                                      (
                                        refl,
                                        (
                                          (refl, refl),
                                          (
                                            (refl, refl, refl, refl),
                                            (
                                              (refl, refl),
                                              (
                                                (refl, refl),
                                                (
                                                  (refl, refl, refl, refl),
                                                  (
                                                    (refl, refl),
                                                    (
                                                      (refl, refl),
                                                      (
                                                        refl,
                                                        (
                                                          (refl, refl, refl, refl),
                                                          (
                                                            refl,
                                                            (
                                                              (refl, refl, refl),
                                                              (
                                                                refl,
                                                                (
                                                                  (refl, refl),
                                                                  (
                                                                    (refl, refl, refl, refl),
                                                                    (
                                                                      refl,
                                                                      (
                                                                        refl,
                                                                        (
                                                                          (refl, refl, refl, refl),
                                                                          (
                                                                            refl,
                                                                            (
                                                                              (refl, refl, refl, refl),
                                                                              (
                                                                                refl,
                                                                                (
                                                                                  refl,
                                                                                  ((refl, refl), ((refl, refl), (refl, (refl, (refl, tt))))),
                                                                                ),
                                                                              ),
                                                                            ),
                                                                          ),
                                                                        ),
                                                                      ),
                                                                    ),
                                                                  ),
                                                                ),
                                                              ),
                                                            ),
                                                          ),
                                                        ),
                                                      ),
                                                    ),
                                                  ),
                                                ),
                                              ),
                                            ),
                                          ),
                                        ),
                                      ),
                                    ),
                                  ),
                                ),
                              ),
                            ),
                          ),
                        ),
                      ),
                    ),
                  ),
                ),
              ),
            ),
          ),
        ),
      ),
    ),
  ),
)

pub within : AllByRecursion (λ l. over l ≡ None) (leaves file)
unfolding file
within = (
  refl,
  (
    refl,
    (
      refl,
      (
        refl,
        (
          refl,
          (
            refl,
            (
              refl,
              (
                refl,
                (
                  refl,
                  (
                    refl,
                    (
                      refl,
                      (
                        refl,
                        (
                          refl,
                          (
                            refl,
                            (
                              refl,
                              (
                                refl,
                                (
                                  refl,
                                  (
                                    refl,
                                    (
                                      refl,
                                      (
                                        refl,
                                        (
                                          refl,
                                          (
                                            refl,
                                            (
                                              refl,
                                              (
                                                refl,
                                                (
                                                  refl,
                                                  (
                                                    refl,
                                                    (
                                                      refl,
                                                      (
                                                        refl,
                                                        (
                                                          refl,
                                                          (
                                                            refl,
                                                            (
                                                              refl,
                                                              (
                                                                refl,
                                                                (
                                                                  refl,
                                                                  (
                                                                    refl,
                                                                    (
                                                                      refl,
                                                                      (
                                                                        refl,
                                                                        (
                                                                          refl,
                                                                          (
                                                                            refl,
                                                                            (
                                                                              refl,
                                                                              (
                                                                                refl,
                                                                                (
                                                                                  refl,
                                                                                  (
                                                                                    refl,
                                                                                    (refl, (refl, (refl, (refl, tt)))),
                                                                                  ),
                                                                                ),
                                                                              ),
                                                                            ),
                                                                          ),
                                                                        ),
                                                                      ),
                                                                    ),
                                                                  ),
                                                                ),
                                                              ),
                                                            ),
                                                          ),
                                                        ),
                                                      ),
                                                    ),
                                                  ),
                                                ),
                                              ),
                                            ),
                                          ),
                                        ),
                                      ),
                                    ),
                                  ),
                                ),
                              ),
                            ),
                          ),
                        ),
                      ),
                    ),
                  ),
                ),
              ),
            ),
          ),
        ),
      ),
    ),
  ),
)
