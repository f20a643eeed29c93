-- Where the text's thread stops, by its stage.
use Rattle.std.proofs.Common.{◌≡◌, refl, ap, ◌∙◌, ℕ, zero, suc, ◌+◌, ◌<◌, Bool, true, false, List, [], Option, Some, None, Ok, inl, inr, arith}
use Rattle.std.specs.Prelude.{◌⊎◌}
use Rattle.std.proofs.Math.Nat.{mul-pos}
use Rattle.struct_ir.specs.Nodes.{set, call, step, look, safepoint, begin_object, end_object, plain, if_, loop, break_, next_, ret, Nodes, no_nodes, more_nodes}
use Rattle.struct_ir.specs.Flow.{Shrinks}
use Rattle.struct_ir.specs.Machine.{Point, run}
use Rattle.struct_ir.specs.Threads.{Thread}
use Rattle.struct_ir.specs.Instrs.{Instr}
use Rattle.struct_ir.specs.Linear.{Spot}
use Rattle.flat_meaning.specs.declared.endings.Stop.TheVariants.{AtStep}
use Rattle.flat_meaning.specs.Image.{Image}
use Rattle.flat_meaning.specs.Words.{Words, first_call}
use Rattle.flat_meaning.specs.Machine.{words_machine}
use Rattle.flat_meaning.specs.Stages.{Stage, starts, going, landed, Before, looks, steps, nothing, before, before_here, Advance, advanced, advanced_from, at_next_stop, past_safepoint, ending_if}
use Rattle.flat_meaning.specs.Effects.{landing}
use Rattle.flat_meaning.specs.Local.{stop_at, stop_before, stopped_or, local_within, goes_for, local}
use Rattle.flat_threads.specs.Contexts.{own_image}
use Rattle.headline_example.proofs.Rows.{Flat, stops}
use Rattle.headline_example.proofs.Alone.{code_with, Asked, Sits, StopsFirst, point, flow, Comes, comes, look_at, set_at, step_at, ret_at}

module _ (instrs : List Instr) (shrinks : Shrinks (flow instrs)) where
  abbrev pub own : Image Spot
  own = own_image (code_with instrs)

  -- a thread in main alone
  abbrev pub alone : ℕ → Words → Thread Spot Words
  alone i l = record { top = point instrs i l; callers = [] }

  -- before a Look, a step or its return
  abbrev pub AtAStop : Before → Type 0
  AtAStop b = (b ≡ looks) ⊎ (b ≡ steps)

  pub stands_first : (ns : Nodes) (i : ℕ) (l : Words) → StopsFirst instrs ns → Sits instrs ns i → AtAStop (before own (alone i l))
  stands_first (more_nodes (plain place (look slot base)) rest) i l f s = inl (ap (before_here {A = Point Spot Words} []) (look_at instrs place slot base rest i s).here_is)
  stands_first (more_nodes (plain place (step x)) rest) i l f s = inr (ap (before_here {A = Point Spot Words} []) (step_at instrs place x rest i s).here_is)
  stands_first (more_nodes (ret place temp) rest) i l f s = inr (ap (before_here {A = Point Spot Words} []) (ret_at instrs place temp rest i s))
  stands_first no_nodes i l f s = absurd f
  stands_first (more_nodes (plain place (set to calc)) rest) i l f s = absurd f
  stands_first (more_nodes (plain place (call c)) rest) i l f s = absurd f
  stands_first (more_nodes (plain place (safepoint slots)) rest) i l f s = absurd f
  stands_first (more_nodes (plain place (begin_object k)) rest) i l f s = absurd f
  stands_first (more_nodes (plain place (end_object k)) rest) i l f s = absurd f
  stands_first (more_nodes (if_ place temp one other) rest) i l f s = absurd f
  stands_first (more_nodes (loop place body latch) rest) i l f s = absurd f
  stands_first (more_nodes (break_ place) rest) i l f s = absurd f
  stands_first (more_nodes (next_ place) rest) i l f s = absurd f

  module _ (most : ℕ) where
    stop_is : (turns : ℕ) (t : Thread Spot Words) → AtAStop (before own t) → stop_before own most turns t (before own t) ≡ Some AtStep
    stop_is turns t (inl e) = ap (stop_before own most turns t) e
    stop_is turns t (inr e) = ap (stop_before own most turns t) e

    -- one that has begun stops there
    stop_landing : (turns : ℕ) (o : Option (List ℕ)) (t : Thread Spot Words) → AtAStop (before own t) → stop_at own most turns (landing o t) ≡ Some AtStep
    stop_landing turns None t h = stop_is turns t h
    stop_landing turns (Some list) t h = stop_is turns t h

    stops_now : (n turns : ℕ) (stage : Stage Spot) → stop_at own most turns stage ≡ Some AtStep → local_within own 0 most n turns stage ≡ Some (record { stage = stage; turns = turns; stop = AtStep })
    unfolding local_within
    stops_now zero turns stage e = ap (λ s. stopped_or stage turns s None) e
    stops_now (suc n) turns stage e = ap (λ s. stopped_or stage turns s (let g = advanced own 0 stage in local_within own 0 most n (turns + g.turns) (going g.thread))) e

    -- a thread that goes on up to there
    goes_once : (n : ℕ) (stage : Stage Spot) (q : Thread Spot Words) → stop_at own most 0 stage ≡ None → advanced own 0 stage ≡ record { thread = q; turns = 0 } → AtAStop (before own q)
        → local_within own 0 most (suc n) 0 stage ≡ Some (record { stage = going q; turns = 0; stop = AtStep })
    unfolding local_within
    goes_once n stage q none g at =
        ap (λ s. stopped_or stage 0 s (let g = advanced own 0 stage in local_within own 0 most n (0 + g.turns) (going g.thread))) none
        ∙ (ap (λ (g : Advance Spot). local_within own 0 most n (0 + g.turns) (going g.thread)) g ∙ stops_now n 0 (going q) (stop_is 0 q at))

    some_goes : (m : ℕ) → 0 < m → (n : ℕ) × (m ≡ suc n)
    some_goes zero h = absurd (omega (arith, h))
    some_goes (suc n) h = (n, refl)

    enough : (n : ℕ) × (goes_for own most ≡ suc n)
    enough = some_goes (goes_for own most) (mul-pos (omega arith) (omega arith))

    -- where it stops, by its stage and what comes of its run
    to_stop : (t : Thread Spot Words) (q : Point Spot Words) → run own.flow (words_machine own.layout 0) t.top ≡ Ok q → AtAStop (before own (record { top = q; callers = t.callers })) → advanced_from own 0 t ≡ record { thread = record { top = q; callers = t.callers }; turns = 0 }
    to_stop t q e (inl h) = ap (λ r. let p = at_next_stop t r in ending_if own p (before own p)) e ∙ ap (ending_if own (record { top = q; callers = t.callers })) h
    to_stop t q e (inr h) = ap (λ r. let p = at_next_stop t r in ending_if own p (before own p)) e ∙ ap (ending_if own (record { top = q; callers = t.callers })) h

    -- ---- where it stops

    -- it has stopped at a row, where a Look, a step or the return is first
    pub record StopsAt (early : Bool) (ns : Nodes) (stage : Stage Spot) : Type 0 where
      pub rest : Nodes
      pub at : ℕ
      pub words : Words
      pub list : Option (List ℕ)
      pub is : local own 0 most stage ≡ Some (record { stage = landing list (alone at words); turns = 0; stop = AtStep })
      pub flat : Flat rest
      pub first : StopsFirst instrs rest
      pub asked : Asked early rest words.temps
      pub sits : Sits instrs rest at
      pub count : stops rest ≡ stops ns

    goes_to : (early : Bool) (ns : Nodes) (i : ℕ) (l : Words) (stage : Stage Spot) (c : Comes instrs shrinks own.layout early ns i l) → stop_at own most 0 stage ≡ None
        → advanced own 0 stage ≡ advanced_from own 0 (alone i l) → StopsAt early ns stage
    goes_to early ns i l stage c none g =
        let at = stands_first c.rest c.at c.own c.first c.sits in
        let n = enough in
        record {
          rest = c.rest;
          at = c.at;
          words = c.own;
          list = None;
          is = ap (λ n. local_within own 0 most n 0 stage) n.1 ∙ goes_once n.0 stage (alone c.at c.own) none (g ∙ to_stop (alone i l) (point instrs c.at c.own) c.runs at) at;
          flat = c.flat;
          first = c.first;
          asked = c.asked;
          sits = c.sits;
          count = c.count;
        }

    -- from the start
    pub from_start : (early : Bool) (ns : Nodes) → Flat ns → Asked early ns (first_call own.layout 0 0).temps → Sits instrs ns 0 → StopsAt early ns (starts 0 0)
    from_start early ns f asked sits = goes_to early ns 0 (first_call own.layout 0 0) (starts 0 0) (comes instrs shrinks own.layout early ns 0 (first_call own.layout 0 0) f asked sits) refl refl

    -- a set is first
    set_first : (early : Bool) (ns : Nodes) (i : ℕ) (l : Words) (o : Option (List ℕ)) → before own (alone i l) ≡ nothing → Comes instrs shrinks own.layout early ns i l → StopsAt early ns (landing o (alone i l))
    set_first early ns i l None e c = goes_to early ns i l (going (alone i l)) c (ap (stop_before own most 0 (alone i l)) e) (ap (λ b. advanced_from own 0 (past_safepoint own (alone i l) b)) e)
    set_first early ns i l (Some list) e c = goes_to early ns i l (landed list (alone i l)) c (ap (stop_before own most 0 (alone i l)) e) (ap (λ b. advanced_from own 0 (past_safepoint own (alone i l) b)) e)

    at_once : (early : Bool) (ns : Nodes) (i : ℕ) (l : Words) (o : Option (List ℕ)) → Flat ns → StopsFirst instrs ns → Asked early ns l.temps → Sits instrs ns i → StopsAt early ns (landing o (alone i l))
    at_once early ns i l o f first asked sits = record {
      rest = ns;
      at = i;
      words = l;
      list = o;
      is = stops_now (goes_for own most) 0 (landing o (alone i l)) (stop_landing 0 o (alone i l) (stands_first ns i l first sits));
      flat = f;
      first = first;
      asked = asked;
      sits = sits;
      count = refl;
    }

    -- from wherever it is
    pub from_there : (early : Bool) (ns : Nodes) (i : ℕ) (l : Words) (o : Option (List ℕ)) → Flat ns → Asked early ns l.temps → Sits instrs ns i → StopsAt early ns (landing o (alone i l))
    from_there early (more_nodes (plain place (set to calc)) rest) i l o f asked sits =
        set_first early (more_nodes (plain place (set to calc)) rest) i l o (ap (before_here {A = Point Spot Words} []) (set_at instrs place to calc rest i sits).here_is)
        (comes instrs shrinks own.layout early (more_nodes (plain place (set to calc)) rest) i l f asked sits)
    from_there early (more_nodes (plain place (look slot base)) rest) i l o f asked sits = at_once early (more_nodes (plain place (look slot base)) rest) i l o f tt asked sits
    from_there early (more_nodes (plain place (step s)) rest) i l o f asked sits = at_once early (more_nodes (plain place (step s)) rest) i l o f tt asked sits
    from_there early (more_nodes (ret place temp) rest) i l o f asked sits = at_once early (more_nodes (ret place temp) rest) i l o f tt asked sits
    from_there true no_nodes i l o f asked sits = absurd asked
    from_there false no_nodes i l o f asked sits = absurd asked
    from_there early (more_nodes (plain place (call c)) rest) i l o f asked sits = absurd f
    from_there early (more_nodes (plain place (safepoint slots)) rest) i l o f asked sits = absurd f
    from_there early (more_nodes (plain place (begin_object k)) rest) i l o f asked sits = absurd f
    from_there early (more_nodes (plain place (end_object k)) rest) i l o f asked sits = absurd f
    from_there early (more_nodes (if_ place temp one other) rest) i l o f asked sits = absurd f
    from_there early (more_nodes (loop place body latch) rest) i l o f asked sits = absurd f
    from_there early (more_nodes (break_ place) rest) i l o f asked sits = absurd f
    from_there early (more_nodes (next_ place) rest) i l o f asked sits = absurd f
