-- How a thread goes on alone in a flat row of linear code: up to the next Look, step or return.
use Rattle.std.proofs.Common.{◌≡◌, refl, sym, ap, subst, ◌∙◌, ℕ, ◌+◌, Bool, true, false, List, [], ◌∷◌, Option, Some, Ok}
use Rattle.std.specs.Prelude.{slice_get, slice_set, slice_index}
use Rattle.flat_words.specs.Words.{number_word, word_in}
use Rattle.ak_words.specs.Num.{num}
use Rattle.struct_ir.specs.Nodes.{Calc, constant, unset, null, global, literal, object, copy, convert, apply, pointer_add, pointer_sub, pointer_diff, pointer_compare, pointer_test, Place, Action, load, store, malloc, free, print, Step, Act, set, call, step, look, safepoint, begin_object, end_object, plain, if_, loop, break_, next_, ret, Nodes, no_nodes, more_nodes}
use Rattle.struct_ir.specs.Flow.{does, returns, Flow, Shrinks}
use Rattle.struct_ir.specs.Machine.{Machine, Point, Ahead, goes, stops, ahead, ahead_at, further, run}
use Rattle.struct_ir.specs.Instrs.{Instr, acts, LinearCode}
use Rattle.struct_ir.specs.Linear.{Spot, linear, instr_here, instr_next}
use Rattle.struct_ir.proofs.Runs.{unfolds}
use Rattle.struct_ir.specs.Marks.{is_lifetime_mark}
use Rattle.struct_ir.specs.Stands.{ActLies, Lies}
use Rattle.flat_meaning.specs.Image.{Layout}
use Rattle.flat_meaning.specs.Accesses.{Fault}
use Rattle.flat_meaning.specs.Words.{Words, calculated}
use Rattle.flat_meaning.specs.Machine.{own_act, words_machine}
use Rattle.headline_example.proofs.Rows.{Flat, stops as stop_count}

-- ---- the code of the text: main alone, whose instructions are these

abbrev pub code_with : List Instr → LinearCode
code_with instrs = record { globals = []; literals = []; funcs = record { params = 0; temps = 8; slots = 1; objects = []; instrs = instrs } ∷ []; main = 0 }

abbrev pub spot : ℕ → Spot
spot i = record { function = 0; index = i }

-- ---- what is asked of a row, and of the registers where it begins

-- a step that is neither refused nor waits, whatever is there
abbrev pub FitsAction : Action → List Place → List ℕ → Type 0
FitsAction (load how) (a ∷ []) [] = Unit {0}
FitsAction (store how) (a ∷ []) (word ∷ []) = Unit {0}
FitsAction free [] (word ∷ []) = Unit {0}
FitsAction (print pieces) places temps = Unit {0}
FitsAction action places temps = ⊥

-- each step is such, and a return is the end
abbrev pub Fine : Nodes → Type 0
Fine no_nodes = ⊥
Fine (more_nodes (plain place (set to calc)) rest) = Fine rest
Fine (more_nodes (plain place (step s)) rest) = FitsAction s.action s.places s.temps × Fine rest
Fine (more_nodes (plain place (look slot base)) rest) = Fine rest
Fine (more_nodes (ret place temp) rest) = Unit {0}
Fine ns = ⊥

-- a malloc of 4 bytes
abbrev pub FourBytes : Action → List Place → List ℕ → List ℕ → Type 0
FourBytes malloc [] (size ∷ []) temps = slice_index temps size ≡ 4
FourBytes action places sizes temps = ⊥

-- what a register is set to, where that is told by the registers alone
abbrev pub word_told : Calc → List ℕ → ℕ
word_told (constant t z) temps = number_word (num t z)
word_told (convert to t) temps = word_in to (slice_index temps t)
word_told calc temps = 0

abbrev pub IsTold : Calc → Type 0
IsTold (constant t z) = Unit {0}
IsTold unset = Unit {0}
IsTold (convert to t) = Unit {0}
IsTold calc = ⊥

-- the first step is a malloc of 4 bytes, by these registers
abbrev pub Early : Nodes → List ℕ → Type 0
Early (more_nodes (plain place (set to calc)) rest) temps = IsTold calc × Early rest (slice_set temps to (word_told calc temps))
Early (more_nodes (plain place (step s)) rest) temps = FourBytes s.action s.places s.temps temps × Fine rest
Early (more_nodes (plain place (look slot base)) rest) temps = Early rest temps
Early ns temps = ⊥

-- it comes, or has come
abbrev pub Asked : (early : Bool) → Nodes → List ℕ → Type 0
Asked true ns temps = Early ns temps
Asked false ns temps = Fine ns

told_word : (x : Layout) (l : Words) (calc : Calc) → IsTold calc → calculated x 0 l calc ≡ word_told calc l.temps
told_word x l (constant t z) h = refl
told_word x l unset h = refl
told_word x l (convert to t) h = refl
told_word x l null h = absurd h
told_word x l (global n) h = absurd h
told_word x l (literal n) h = absurd h
told_word x l (object n) h = absurd h
told_word x l (copy t) h = absurd h
told_word x l (apply op t a b) h = absurd h
told_word x l (pointer_add p n s) h = absurd h
told_word x l (pointer_sub p n s) h = absurd h
told_word x l (pointer_diff p q s) h = absurd h
told_word x l (pointer_compare op p q) h = absurd h
told_word x l (pointer_test p) h = absurd h

module _ (instrs : List Instr) where
  abbrev pub code : LinearCode
  code = code_with instrs

  abbrev pub flow : Flow Spot
  flow = linear code.funcs

  -- ---- where a row lies

  pub record Sits (ns : Nodes) (i : ℕ) : Type 0 where
    pub end : ℕ
    pub out : ℕ
    pub next : ℕ
    pub lies : Lies instrs ns i end out next

  -- an act stands there, and the rest behind it
  pub record ActAt (a : Act) (place : ℕ) (rest : Nodes) (i : ℕ) : Type 0 where
    pub there : slice_get instrs i ≡ Some (acts place a)
    pub here_is : flow.here (spot i) ≡ does place a
    pub next_is : (c : Bool) → flow.next (spot i) c ≡ spot (i + 1)
    pub behind : Sits rest (i + 1)

  act_at : (a : Act) (place : ℕ) (rest : Nodes) (i : ℕ) → is_lifetime_mark a ≡ false → Sits (more_nodes (plain place a) rest) i → ActAt a place rest i
  act_at a place rest i unmarked s =
      let here = subst (λ mark. ActLies mark instrs place a i s.lies.0) unmarked s.lies.1 in
      record {
        there = here.0;
        here_is = ap instr_here here.0;
        next_is = λ c. ap (λ (n : ℕ). spot n) (ap (λ (o : Option Instr). instr_next i o c) here.0);
        behind = record { end = s.end; out = s.out; next = s.next; lies = subst (λ at. Lies instrs rest at s.end s.out s.next) here.1 s.lies.2 };
      }

  pub look_at : (place slot base : ℕ) (rest : Nodes) (i : ℕ) → Sits (more_nodes (plain place (look slot base)) rest) i → ActAt (look slot base) place rest i
  look_at place slot base rest i = act_at (look slot base) place rest i refl

  pub set_at : (place to : ℕ) (calc : Calc) (rest : Nodes) (i : ℕ) → Sits (more_nodes (plain place (set to calc)) rest) i → ActAt (set to calc) place rest i
  set_at place to calc rest i = act_at (set to calc) place rest i refl

  pub step_at : (place : ℕ) (s : Step) (rest : Nodes) (i : ℕ) → Sits (more_nodes (plain place (step s)) rest) i → ActAt (step s) place rest i
  step_at place s rest i = act_at (step s) place rest i refl

  pub ret_at : (place : ℕ) (temp : Option ℕ) (rest : Nodes) (i : ℕ) → Sits (more_nodes (ret place temp) rest) i → flow.here (spot i) ≡ returns temp
  ret_at place temp rest i s = ap instr_here s.lies.1.0

  -- ---- up to the next stop

  -- a Look, a step or a return is first
  abbrev pub StopsFirst : Nodes → Type 0
  StopsFirst (more_nodes (plain place (look slot base)) rest) = Unit {0}
  StopsFirst (more_nodes (plain place (step s)) rest) = Unit {0}
  StopsFirst (more_nodes (ret place temp) rest) = Unit {0}
  StopsFirst ns = ⊥

  -- a call at a row
  abbrev pub point : ℕ → Words → Point Spot Words
  point i l = record { at = spot i; own = l }

  module _ (shrinks : Shrinks flow) (x : Layout) where
    abbrev M : Machine Words Fault
    M = words_machine x 0

    -- where a run comes to: to a stop, with as many stops still to come
    pub record Comes (early : Bool) (ns : Nodes) (i : ℕ) (l : Words) : Type 0 where
      pub rest : Nodes
      pub at : ℕ
      pub own : Words
      pub runs : run flow M (point i l) ≡ Ok (point at own)
      pub flat : Flat rest
      pub first : StopsFirst rest
      pub asked : Asked early rest own.temps
      pub sits : Sits rest at
      pub count : stop_count rest ≡ stop_count ns

    stays : (ns : Nodes) (i : ℕ) (l : Words) (early : Bool) → Flat ns → StopsFirst ns → Asked early ns l.temps → Sits ns i → ahead flow M (point i l) ≡ stops → Comes early ns i l
    stays ns i l early f first asked sits e = record {
      rest = ns;
      at = i;
      own = l;
      runs = unfolds flow shrinks M (point i l) ∙ ap (further (run flow M) (point i l)) e;
      flat = f;
      first = first;
      asked = asked;
      sits = sits;
      count = refl;
    }

    after_set : (early : Bool) (to : ℕ) (calc : Calc) (rest : Nodes) (place : ℕ) (l : Words) → Asked early (more_nodes (plain place (set to calc)) rest) l.temps → Asked early rest (own_act x 0 (set to calc) l).temps
    after_set true to calc rest place l h = subst (λ w. Early rest (slice_set l.temps to w)) (sym (told_word x l calc h.0)) h.1
    after_set false to calc rest place l h = h

    pub comes : (early : Bool) (ns : Nodes) (i : ℕ) (l : Words) → Flat ns → Asked early ns l.temps → Sits ns i → Comes early ns i l
    comes early (more_nodes (plain place (set to calc)) rest) i l f asked sits =
        let a = set_at place to calc rest i sits in
        let l' = own_act x 0 (set to calc) l in
        let going_to : Spot → Ahead Spot Words Fault = λ k. goes (record { at = k; own = l' }) in
        let here : ahead flow M (point i l) ≡ going_to (spot (i + 1)) = ap (ahead_at flow M (point i l)) a.here_is ∙ ap going_to (a.next_is true) in
        let r = comes early rest (i + 1) l' f (after_set early to calc rest place l asked) a.behind in
        record {
          rest = r.rest;
          at = r.at;
          own = r.own;
          runs = unfolds flow shrinks M (point i l) ∙ (ap (further (run flow M) (point i l)) here ∙ r.runs);
          flat = r.flat;
          first = r.first;
          asked = r.asked;
          sits = r.sits;
          count = r.count;
        }
    comes early (more_nodes (plain place (look slot base)) rest) i l f asked sits =
        stays (more_nodes (plain place (look slot base)) rest) i l early f tt asked sits (ap (ahead_at flow M (point i l)) (look_at place slot base rest i sits).here_is)
    comes early (more_nodes (plain place (step s)) rest) i l f asked sits =
        stays (more_nodes (plain place (step s)) rest) i l early f tt asked sits (ap (ahead_at flow M (point i l)) (step_at place s rest i sits).here_is)
    comes early (more_nodes (ret place temp) rest) i l f asked sits =
        stays (more_nodes (ret place temp) rest) i l early f tt asked sits (ap (ahead_at flow M (point i l)) (ret_at place temp rest i sits))
    comes true no_nodes i l f asked sits = absurd asked
    comes false no_nodes i l f asked sits = absurd asked
    comes early (more_nodes (plain place (call c)) rest) i l f asked sits = absurd f
    comes early (more_nodes (plain place (safepoint slots)) rest) i l f asked sits = absurd f
    comes early (more_nodes (plain place (begin_object k)) rest) i l f asked sits = absurd f
    comes early (more_nodes (plain place (end_object k)) rest) i l f asked sits = absurd f
    comes early (more_nodes (if_ place temp one other) rest) i l f asked sits = absurd f
    comes early (more_nodes (loop place body latch) rest) i l f asked sits = absurd f
    comes early (more_nodes (break_ place) rest) i l f asked sits = absurd f
    comes early (more_nodes (next_ place) rest) i l f asked sits = absurd f
