-- What was written is the file.
use Rattle.std.proofs.Common.{◌≡◌, ℕ, ◌≤◌, true, List, [], length, Result, Ok, Err, sym, subst}
use Rattle.std.proofs.lemmas.Bool.{and_from, le-leb}
use Rattle.std.specs.Prelude.{nat_le}
use Rattle.std.specs.Global.{Vec}
use Rattle.std.specs.List.{list_all}
use Rattle.struct_ir.specs.Nodes.{Ir}
use Rattle.struct_ir.specs.Placed.{all_placed}
use Rattle.code_file.specs.Files.{file}
use Rattle.code_file.specs.Calls.{ir_bare, ir_filled}
use Rattle.code_file.specs.Conditions.{is_lawful, most_file_bytes, IsFile}
use Rattle.code_file.proofs.Fillings.{program_back}
use Rattle.code_save.specs.declared.fault.SaveFault.{SaveFault}
use Rattle.code_save.specs.declared.fault.SaveFault.TheVariants.{TooDeep, TooLong, NoMemory}
use Rattle.code_save.specs.declared.output.Output.{Output}
use Rattle.code_save.specs.inner.Fits.{func_fits}
use Rattle.code_save.specs.inner.Written.{Holds, Wrote, Finished}
use Rattle.code_save.specs.Saves.{deepest, spelling, Saves}
use Rattle.code_save.specs.SavedViews.{saved_view}

module _ (p : Ir) (deep : deepest p ≤ 1024) (lawful : is_lawful p ≡ true) (placed : all_placed p ≡ true) (is : (file 1024).Is (ir_bare p)) where
  is_file : (bytes : List ℕ) → bytes ≡ spelling p → length (spelling p) ≤ most_file_bytes → IsFile bytes (ir_bare p)
  is_file bytes e short = record {
    spells = (is, e);
    lawful = and_from (is_lawful (ir_filled (ir_bare p))) (nat_le (length bytes) most_file_bytes) (subst (λ q. is_lawful q ≡ true) (sym (program_back p placed)) lawful)
        (le-leb (length bytes) most_file_bytes (subst (λ (l : List ℕ). length l ≤ most_file_bytes) (sym e) short));
  }

  finished : (r : Result (Vec ℕ) SaveFault) → Finished (spelling p) r → Saves p (saved_view r)
  finished (Ok v) f = is_file v.items f.0 f.1
  finished (Err TooLong) f = (deep, f)
  finished (Err TooDeep) f = absurd f
  finished (Err NoMemory) f = absurd f

pub is_saved : (p x : Ir) (r : Result (Vec ℕ) SaveFault) (a b : Output) → x ≡ p → deepest p ≤ 1024 → is_lawful p ≡ true → all_placed p ≡ true → list_all (func_fits 1024) p.funcs ≡ true
    → Wrote (file 1024) (ir_bare x) (list_all (func_fits 1024) x.funcs) a b → Holds a [] → ((written : List ℕ) → Holds b written → Finished written r) → Saves p (saved_view r)
is_saved p x r a b e deep lawful placed fit w start f =
    let v : Wrote (file 1024) (ir_bare p) (list_all (func_fits 1024) p.funcs) a b = subst (λ q. Wrote (file 1024) (ir_bare q) (list_all (func_fits 1024) q.funcs) a b) e w in
    finished p deep lawful placed (v.is fit) r (f (spelling p) (v.gains.holds [] start))
