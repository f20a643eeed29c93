-- Reading what stands behind a tag.
use Rattle.std.proofs.Common.{◌≡◌, ℕ, List, [], ◌∷◌, Result, Ok, Err}
use Rattle.formats.specs.Formats.{byte_below, at_number, behind_tag}
use Rattle.formats.proofs.Tags.{tag_read, tag_not_read}
use Rattle.code_file.specs.Calcs as calcs
use Rattle.code_file.specs.Calcs.{calc, calc_fields, calc_number, other_calcs, make_calc, calc_parts}
use Rattle.code_file.specs.Actions as actions
use Rattle.code_file.specs.Actions.{piece, piece_fields, piece_number, other_pieces, make_piece, piece_parts, action, action_fields, action_number, other_actions, make_action, action_parts}
use Rattle.code_file.specs.Files as files
use Rattle.code_file.specs.Files.{init, init_fields, init_number, make_init, init_parts}

pub calc_read : (bytes rest : List ℕ) (n : ℕ) → (byte_below 14).read bytes ≡ Ok (n, rest) → calc.read bytes ≡ behind_tag calc_fields make_calc (at_number calcs.constant other_calcs n) rest
unfolding calc
calc_read bytes rest n e = tag_read (at_number calcs.constant other_calcs) calc_number 14 calc_fields make_calc calc_parts bytes rest n e

pub calc_not_read : (bytes : List ℕ) (k : ℕ) → (byte_below 14).read bytes ≡ Err k → calc.read bytes ≡ Err k
unfolding calc
calc_not_read bytes k e = tag_not_read (at_number calcs.constant other_calcs) calc_number 14 calc_fields make_calc calc_parts bytes k e

pub piece_read : (bytes rest : List ℕ) (n : ℕ) → (byte_below 6).read bytes ≡ Ok (n, rest) → piece.read bytes ≡ behind_tag piece_fields make_piece (at_number actions.bytes other_pieces n) rest
unfolding piece
piece_read bytes rest n e = tag_read (at_number actions.bytes other_pieces) piece_number 6 piece_fields make_piece piece_parts bytes rest n e

pub piece_not_read : (bytes : List ℕ) (k : ℕ) → (byte_below 6).read bytes ≡ Err k → piece.read bytes ≡ Err k
unfolding piece
piece_not_read bytes k e = tag_not_read (at_number actions.bytes other_pieces) piece_number 6 piece_fields make_piece piece_parts bytes k e

pub action_read : (bytes rest : List ℕ) (n : ℕ) → (byte_below 15).read bytes ≡ Ok (n, rest) → action.read bytes ≡ behind_tag action_fields make_action (at_number actions.load other_actions n) rest
unfolding action
action_read bytes rest n e = tag_read (at_number actions.load other_actions) action_number 15 action_fields make_action action_parts bytes rest n e

pub action_not_read : (bytes : List ℕ) (k : ℕ) → (byte_below 15).read bytes ≡ Err k → action.read bytes ≡ Err k
unfolding action
action_not_read bytes k e = tag_not_read (at_number actions.load other_actions) action_number 15 action_fields make_action action_parts bytes k e

pub init_read : (bytes rest : List ℕ) (n : ℕ) → (byte_below 3).read bytes ≡ Ok (n, rest) → init.read bytes ≡ behind_tag init_fields make_init (at_number files.zero_bytes (files.number ∷ files.literal_at ∷ []) n) rest
unfolding init
init_read bytes rest n e = tag_read (at_number files.zero_bytes (files.number ∷ files.literal_at ∷ [])) init_number 3 init_fields make_init init_parts bytes rest n e

pub init_not_read : (bytes : List ℕ) (k : ℕ) → (byte_below 3).read bytes ≡ Err k → init.read bytes ≡ Err k
unfolding init
init_not_read bytes k e = tag_not_read (at_number files.zero_bytes (files.number ∷ files.literal_at ∷ [])) init_number 3 init_fields make_init init_parts bytes k e
