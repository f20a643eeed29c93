-- No safepoint stands where none is due.
use Rattle.std.proofs.Common.{◌≡◌, ℕ, List, Bool, true, false, ◌||◌, ◌&&◌, refl, ◌∙◌}
use Rattle.std.proofs.lemmas.Bool.{and_from, or_right}
use Rattle.struct_ir.specs.Nodes.{Act, set, call, step, look, safepoint, begin_object, end_object, act_is_call, Node, plain, if_, loop, break_, next_, ret, Nodes, no_nodes, more_nodes}
use Rattle.struct_ir.specs.Placed.{node_is_call, begins_with_call, is_end, act_is_due, node_is_due, are_due}
use Rattle.pin_flow.specs.Marks.{AllPaths}
use Rattle.pin_flow.specs.Live.{Live, body_lives, latch_lives}
use Rattle.pin_frames.specs.inner.Place.{stop, seated, act_listing, heads, turns, on_states, rest_lives, listed, listed_in}

-- ---- of the row with its safepoints

-- whatever stands before it
abbrev Dues : (closing : Bool) → Nodes → Type 0
Dues closing ns = (behind : Bool) → are_due behind closing ns ≡ true

pub due_row : (closing : Bool) (ns tail : Nodes) → Dues closing tail → Dues closing (seated ns tail)
due_row closing no_nodes tail h behind = h behind
due_row closing (more_nodes (plain p (set to calc)) rest) tail h behind = due_row closing rest tail h false
due_row closing (more_nodes (plain p (call c)) rest) tail h behind = and_from _ _ (or_right (begins_with_call (seated rest tail)) true refl) (due_row closing rest tail h false)
due_row closing (more_nodes (plain p (step x)) rest) tail h behind = due_row closing rest tail h false
due_row closing (more_nodes (plain p (look slot base)) rest) tail h behind = due_row closing rest tail h false
due_row closing (more_nodes (plain p (safepoint slots)) rest) tail h behind = due_row closing rest tail h behind
due_row closing (more_nodes (plain p (begin_object i)) rest) tail h behind = due_row closing rest tail h false
due_row closing (more_nodes (plain p (end_object i)) rest) tail h behind = due_row closing rest tail h false
due_row closing (more_nodes (if_ p x one other) rest) tail h behind =
    and_from _ _ (and_from _ _ (due_row false one no_nodes (λ b. refl) false) (due_row false other no_nodes (λ b. refl) false)) (due_row closing rest tail h false)
due_row closing (more_nodes (loop p body latch) rest) tail h behind =
    and_from _ _ (and_from _ _ (due_row false body no_nodes (λ b. refl) false) (due_row true latch (more_nodes (stop p) no_nodes) (λ b. and_from _ _ (or_right b true refl) refl) false)) (due_row closing rest tail h false)
due_row closing (more_nodes (break_ p) rest) tail h behind = due_row closing rest tail h false
due_row closing (more_nodes (next_ p) rest) tail h behind = due_row closing rest tail h false
due_row closing (more_nodes (ret p x) rest) tail h behind = due_row closing rest tail h false

-- ---- with its lists

call_listing : (a : Act) (l : List ℕ) → act_is_call (act_listing a l) ≡ act_is_call a
call_listing (set to calc) l = refl
call_listing (call c) l = refl
call_listing (step x) l = refl
call_listing (look slot base) l = refl
call_listing (safepoint old) l = refl
call_listing (begin_object i) l = refl
call_listing (end_object i) l = refl

due_listing : (behind closing : Bool) (a : Act) (l : List ℕ) (rest rest' : Nodes) → begins_with_call rest' ≡ begins_with_call rest → is_end rest' ≡ is_end rest
    → act_is_due behind closing (act_listing a l) rest' ≡ act_is_due behind closing a rest
due_listing behind closing (set to calc) l rest rest' e g = refl
due_listing behind closing (call c) l rest rest' e g = refl
due_listing behind closing (step x) l rest rest' e g = refl
due_listing behind closing (look slot base) l rest rest' e g = refl
due_listing behind closing (safepoint old) l rest rest' e g = λ i. e i || (behind || (closing && g i))
due_listing behind closing (begin_object j) l rest rest' e g = refl
due_listing behind closing (end_object j) l rest rest' e g = refl

module _ (slot_of : ℕ → ℕ) (bs : List ℕ) where
  call_listed : (n : Node) (ts : ℕ → AllPaths) (ls : ℕ → Live) → node_is_call (listed_in slot_of bs n ts ls) ≡ node_is_call n
  call_listed (plain p a) ts ls = call_listing a _
  call_listed (if_ p x one other) ts ls = refl
  call_listed (loop p body latch) ts ls = refl
  call_listed (break_ p) ts ls = refl
  call_listed (next_ p) ts ls = refl
  call_listed (ret p x) ts ls = refl

  begins_listed : (ns : Nodes) (ts : ℕ → AllPaths) (ls : ℕ → Live) → begins_with_call (listed slot_of bs ns ts ls) ≡ begins_with_call ns
  begins_listed no_nodes ts ls = refl
  begins_listed (more_nodes n rest) ts ls = call_listed n ts (rest_lives slot_of rest ls)

  ends_listed : (ns : Nodes) (ts : ℕ → AllPaths) (ls : ℕ → Live) → is_end (listed slot_of bs ns ts ls) ≡ is_end ns
  ends_listed no_nodes ts ls = refl
  ends_listed (more_nodes n rest) ts ls = refl

  mutual
    pub due_listed : (behind closing : Bool) (ns : Nodes) (ts : ℕ → AllPaths) (ls : ℕ → Live) → are_due behind closing (listed slot_of bs ns ts ls) ≡ are_due behind closing ns
    due_listed behind closing no_nodes ts ls = refl
    due_listed behind closing (more_nodes n rest) ts ls =
        let rl = rest_lives slot_of rest ls in
        (λ i. in_due_listed behind closing n rest (listed slot_of bs rest (on_states n ts) ls) ts rl (begins_listed rest (on_states n ts) ls) (ends_listed rest (on_states n ts) ls) i
        && are_due (call_listed n ts rl i) closing (listed slot_of bs rest (on_states n ts) ls))
        ∙ (λ i. node_is_due behind closing n rest && due_listed (node_is_call n) closing rest (on_states n ts) ls i)

    in_due_listed : (behind closing : Bool) (n : Node) (rest rest' : Nodes) (ts : ℕ → AllPaths) (ls : ℕ → Live) → begins_with_call rest' ≡ begins_with_call rest → is_end rest' ≡ is_end rest
        → node_is_due behind closing (listed_in slot_of bs n ts ls) rest' ≡ node_is_due behind closing n rest
    in_due_listed behind closing (plain p a) rest rest' ts ls e g = due_listing behind closing a _ rest rest' e g
    in_due_listed behind closing (if_ p x one other) rest rest' ts ls e g = λ i. due_listed false false one ts ls i && due_listed false false other ts ls i
    in_due_listed behind closing (loop p body latch) rest rest' ts ls e g =
        λ i. due_listed false false body (heads body latch ts) (λ b. body_lives (slot_of b) b body latch (ls b).on) i && due_listed false true latch (turns body latch ts) (λ b. latch_lives (slot_of b) b body latch (ls b).on) i
    in_due_listed behind closing (break_ p) rest rest' ts ls e g = refl
    in_due_listed behind closing (next_ p) rest rest' ts ls e g = refl
    in_due_listed behind closing (ret p x) rest rest' ts ls e g = refl
