-- Small programs with switch and do, worked out by hand.
use Rattle.std.specs.Prelude.{◌≡◌, ℕ, List, [], ◌∷◌, Some, None, pos}
use Rattle.ak_words.specs.declared.operation.Op.TheVariants as ops
use Rattle.ak_words.specs.IntType.{int}
use Rattle.block_store.specs.Actions.{running, returned}
use Rattle.block_store.specs.Runs.{Pick}
use Rattle.c_tree.specs.Typed.{Label, case_at, default_at, block, declare, if_, while_, for_, do_while, switch, break_, continue_, assign, update}
use Rattle.c_meaning.specs.Rows.{k, v, row, one, op_of, ints, returns, Told, reached, turns, of_main}

-- the label of an int at this statement
abbrev pub case : (value at : ℕ) → Label
case value at = case_at int (pos value) at

-- int k=n;switch(k){case 0:return 1;case 5:k=k+1;case 6:k=k*2;break;default:k=0;}return k;
abbrev pub falls : (n : ℕ) → List Pick → Told
falls n = of_main (ints 1)
    (declare 0 (Some (k n))
    ∷ switch (v 0) (case 0 0 ∷ case 5 1 ∷ case 6 2 ∷ default_at 4 ∷ [])
    (row (returns (k 1) ∷ assign (v 0) (op_of ops.Add (v 0) (k 1)) ∷ assign (v 0) (op_of ops.Mul (v 0) (k 2)) ∷ break_ ∷ assign (v 0) (k 0) ∷ []))
    ∷ returns (v 0) ∷ [])

-- switch(n){default:return 1;case 2:return 2;case 3:}return 3;
abbrev pub default_first : (n : ℕ) → List Pick → Told
default_first n = of_main [] (switch (k n) (default_at 0 ∷ case 2 1 ∷ case 3 2 ∷ []) (row (returns (k 1) ∷ returns (k 2) ∷ [])) ∷ returns (k 3) ∷ [])

-- switch(n){case 1:return 1;}return 2;
abbrev pub no_default : (n : ℕ) → List Pick → Told
no_default n = of_main [] (switch (k n) (case 1 0 ∷ []) (row (returns (k 1) ∷ [])) ∷ returns (k 2) ∷ [])

-- switch(1){case 1:while(1)break;switch(1){case 1:break;}{if(1)break;return 3;}return 4;}return 5;
abbrev pub nested : List Pick → Told
nested = of_main []
    (switch (k 1) (case 1 0 ∷ [])
    (row (while_ (k 1) (one break_) ∷ switch (k 1) (case 1 0 ∷ []) (row (break_ ∷ [])) ∷ block (row (if_ (k 1) (one break_) ∷ returns (k 3) ∷ [])) ∷ returns (k 4) ∷ []))
    ∷ returns (k 5) ∷ [])

-- int s=0;int i;for(i=0;i<3;i++){switch(i){case 1:continue;}s=s+i;}return s;
abbrev pub goes_on : List Pick → Told
goes_on = of_main (ints 2)
    (declare 0 (Some (k 0)) ∷ declare 1 None
    ∷ for_ (one (assign (v 1) (k 0))) (Some (op_of ops.Lt (v 1) (k 3))) (one (update (v 1) ops.Add (k 1)))
    (one (block (row (switch (v 1) (case 1 0 ∷ []) (row (continue_ ∷ [])) ∷ assign (v 0) (op_of ops.Add (v 0) (v 1)) ∷ []))))
    ∷ returns (v 0) ∷ [])

-- int i=0;do{i=i+1;if(i==3)continue;if(i==9)break;}while(i<3);return i;
abbrev pub again : List Pick → Told
again = of_main (ints 1)
    (declare 0 (Some (k 0))
    ∷ do_while (one (block (row (assign (v 0) (op_of ops.Add (v 0) (k 1)) ∷ if_ (op_of ops.Eq (v 0) (k 3)) (one continue_) ∷ if_ (op_of ops.Eq (v 0) (k 9)) (one break_) ∷ []))))
    (op_of ops.Lt (v 0) (k 3))
    ∷ returns (v 0) ∷ [])

-- int i=0;do{i=i+1;if(i==2)break;}while(1);return i;
abbrev pub breaks_out : List Pick → Told
breaks_out = of_main (ints 1)
    (declare 0 (Some (k 0)) ∷ do_while (one (block (row (assign (v 0) (op_of ops.Add (v 0) (k 1)) ∷ if_ (op_of ops.Eq (v 0) (k 2)) (one break_) ∷ [])))) (k 1) ∷ returns (v 0) ∷ [])

-- which statements of a switch are executed, what a break and a continue leave, and which rounds a do has
pub record SwitchesStand : Type 0 where
  -- a return at once; the statements behind a label, up to the break; the default
  pub first : falls 0 (turns 0 1) ≡ reached [] (returned (pos 1) ∷ [])
  pub through : falls 5 (turns 0 1) ≡ reached [] (returned (pos 12) ∷ [])
  pub second : falls 6 (turns 0 1) ≡ reached [] (returned (pos 12) ∷ [])
  pub otherwise : falls 7 (turns 0 1) ≡ reached [] (returned (pos 0) ∷ [])
  -- an equal label behind default comes before it; a label may stand behind the last statement
  pub equal_behind : default_first 2 (turns 0 1) ≡ reached [] (returned (pos 2) ∷ [])
  pub default_in_front : default_first 4 (turns 0 1) ≡ reached [] (returned (pos 1) ∷ [])
  pub last : default_first 3 (turns 0 1) ≡ reached [] (returned (pos 3) ∷ [])
  pub none_equal : no_default 2 (turns 0 1) ≡ reached [] (returned (pos 2) ∷ [])
  -- a break leaves the loop or switch that is nearest around it, and no other
  pub nearest : nested (turns 0 1) ≡ reached [] (returned (pos 5) ∷ [])
  -- a continue in a switch ends the round of the loop around: three rounds, and the fourth test
  pub continues : goes_on (turns 0 4) ≡ reached [] (returned (pos 2) ∷ [])
  -- two rounds end where the condition holds; the third one, whose continue leads to the condition, leaves the loop in its turn
  pub rounds : again (turns 0 3) ≡ reached [] (returned (pos 3) ∷ [])
  pub two_rounds : again (turns 0 2) ≡ reached [] (running ∷ [])
  pub break_in_do : breaks_out (turns 0 2) ≡ reached [] (returned (pos 2) ∷ [])
