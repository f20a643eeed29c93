-- The worked code that comes to an operation on a value of a kind that it doesn't take.
use Rattle.std.proofs.Common.{◌≡◌, ℕ, zero, suc, List, [], ◌∷◌, ◌≤◌, Bool, true, Some, refl, sym, ap, subst, ◌∙◌, arith}
use Rattle.std.specs.Fmt.{digits}
use Rattle.ak_words.specs.Op.{exact_result, rule_of, replacement}
use Rattle.ak_words.specs.Wrapped.{residue, wrapped_value}
use Rattle.block_store.specs.declared.values.Answer.TheVariants.{Plain}
use Rattle.block_store.specs.Actions.{World}
use Rattle.struct_ir.specs.Nodes.{Place, Act, places_of, plain, if_, loop, break_, next_, ret, Nodes, no_nodes, more_nodes, Global, Func}
use Rattle.struct_ir.specs.Flow.{Path, entry, on, does}
use Rattle.struct_ir.specs.Machine.{run_within, run}
use Rattle.struct_ir.specs.Pins.{Among, PinSafe}
use Rattle.struct_ir.specs.Structured.{Position, done, then_, in_body, in_latch, structured, next}
use Rattle.struct_ir.specs.Threads.{Thread, went, broke}
use Rattle.struct_ir.specs.Whole.{is_init_in}
use Rattle.struct_ir.specs.meaning.Blocks.{Own, wrong_kind}
use Rattle.struct_ir.specs.meaning.Threads.{start_in}
use Rattle.flat_meaning.specs.Local.{local_within}
use Rattle.flat_meaning.specs.Order.{pick}
use Rattle.flat_meaning.specs.SmallCodes.{row}
use Rattle.flat_simulation.specs.Kinds.{IsGuarded, outcome, TakesWrongKind}
use Rattle.flat_simulation.specs.KindRows.{adding_a_pointer, by_hand, begins, KindRowsHold}
use Rattle.flat_simulation.proofs.Follow.{none_all, one_all}
use Rattle.flat_simulation.proofs.KindRuns.{told_whatever}

-- ---- a row without accesses is safe for moves

-- a row of acts without places, and returns
abbrev HasNoPlaces : Nodes → Type 0
HasNoPlaces no_nodes = Unit {0}
HasNoPlaces (more_nodes (plain place a) rest) = (places_of a ≡ []) × HasNoPlaces rest
HasNoPlaces (more_nodes (ret place temp) rest) = HasNoPlaces rest
HasNoPlaces (more_nodes (if_ place temp one other) rest) = ⊥
HasNoPlaces (more_nodes (loop place body latch) rest) = ⊥
HasNoPlaces (more_nodes (break_ place) rest) = ⊥
HasNoPlaces (more_nodes (next_ place) rest) = ⊥

-- what is still to do is such rows
abbrev IsBare : Position → Type 0
IsBare done = Unit {0}
IsBare (then_ nodes k) = HasNoPlaces nodes × IsBare k
IsBare (in_body body latch k) = ⊥
IsBare (in_latch body latch k) = ⊥

bare_next : (k : Position) (c : Bool) → IsBare k → IsBare (next k c)
bare_next done c b = tt
bare_next (then_ no_nodes k) c b = b.1
bare_next (then_ (more_nodes (plain place a) rest) k) c b = (b.0.1, b.1)
bare_next (then_ (more_nodes (ret place temp) rest) k) c b = tt
bare_next (then_ (more_nodes (if_ place temp one other) rest) k) c b = absurd b.0
bare_next (then_ (more_nodes (loop place body latch) rest) k) c b = absurd b.0
bare_next (then_ (more_nodes (break_ place) rest) k) c b = absurd b.0
bare_next (then_ (more_nodes (next_ place) rest) k) c b = absurd b.0
bare_next (in_body body latch k) c b = absurd b
bare_next (in_latch body latch k) c b = absurd b

bare_here : (k : Position) (place : ℕ) (act : Act) → IsBare k → structured.here k ≡ does place act → places_of act ≡ []
bare_here done place act b e = absurd cc
bare_here (then_ no_nodes k) place act b e = absurd cc
bare_here (then_ (more_nodes (plain at a) rest) k) place act b e = let same : a ≡ act = cc in ap places_of (sym same) ∙ b.0.0
bare_here (then_ (more_nodes (ret at temp) rest) k) place act b e = absurd cc
bare_here (then_ (more_nodes (if_ at temp one other) rest) k) place act b e = absurd b.0
bare_here (then_ (more_nodes (loop at body latch) rest) k) place act b e = absurd b.0
bare_here (then_ (more_nodes (break_ at) rest) k) place act b e = absurd b.0
bare_here (then_ (more_nodes (next_ at) rest) k) place act b e = absurd b.0
bare_here (in_body body latch k) place act b e = absurd b
bare_here (in_latch body latch k) place act b e = absurd b

bare_path : (from : Position) (w : List Position) (k : Position) → IsBare from → Path structured from w k → IsBare k
bare_path from w k b entry = b
bare_path from w k b (on v j c stays path) = bare_next j c (bare_path from v j b path)

bare_safe : (from : Position) → IsBare from → PinSafe structured from
bare_safe from b = record { each = λ w k path place act e a among. absurd (subst (λ (l : List Place). Among l a) (bare_here k place act (bare_path from w k b path) e) among) }

-- ---- the row

starts_bare : (function : ℕ) → IsBare (start_in by_hand function)
starts_bare zero = ((refl, (refl, (refl, (refl, (refl, tt))))), tt)
starts_bare (suc n) = (tt, tt)

abbrev main_func : Func
main_func = record { params = 0; temps = 8; slots = 2; objects = []; nodes = row adding_a_pointer (Some 0) }

guarded : IsGuarded by_hand
guarded = record {
  valid = refl;
  safe = λ function. bare_safe (start_in by_hand function) (starts_bare function);
  main = refl;
  params = one_all (λ (f : Func). f.params ≤ f.temps) main_func (omega arith);
  inits = none_all (λ (g : Global). is_init_in 0 g.init ≡ true);
  small = omega arith;
}

-- main's first turn
record GoesFirst : Type 0 where
  pub own : Thread Position Own
  pub world : World
  pub is : outcome by_hand begins (pick 0 Plain) ≡ Some (went own world)

goes_first : GoesFirst
unfolding digits residue wrapped_value exact_result rule_of replacement run_within run
goes_first = record { own = _; world = _; is = refl }

is_right : TakesWrongKind by_hand begins (pick 0 Plain) → ⊥
is_right wrong =
    let both : Some (went goes_first.own goes_first.world) ≡ Some (broke wrong_kind) = sym goes_first.is ∙ wrong in
    absurd cc

pub kind_rows_hold : KindRowsHold
unfolding digits residue wrapped_value exact_result rule_of replacement run_within run local_within
kind_rows_hold = record {
  guarded = guarded;
  may_come = ((refl, refl), ((refl, (refl, tt)), ((refl, refl), ((refl, (refl, tt)), tt))));
  printed = refl;
  order = refl;
  first = λ answer wrong. is_right (told_whatever by_hand begins 0 answer Plain wrong);
  second = record { before = _ ∷ []; next = _; rest = []; split = refl; place = refl; state = _; reached = refl; wrong = refl };
  none = refl;
}
