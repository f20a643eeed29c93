-- What bytes are loaded to, or why they aren't: one thing alone.
use Rattle.std.proofs.Common.{◌≡◌, ℕ, ◌-◌, List, Option, Some, None, Bool, true, false, Result, length, refl, sym, ap, ap₂, subst, ◌∙◌, ◌⊎◌, inl, inr}
use Rattle.std.specs.Prelude.{Ok, Err}
use Rattle.struct_ir.specs.Nodes.{Ir}
use Rattle.struct_ir.specs.Placed.{all_placed}
use Rattle.formats.specs.Formats.{whole}
use Rattle.formats.specs.Laws.{OneSpelling, Spells, WholeAt}
use Rattle.pin_checker.specs.Safe.{IsSafe}
use Rattle.pin_checker.specs.Answers.{IsRefused}
use Rattle.pin_checker.specs.declared.fault.Fault.{Fault}
use Rattle.pin_checker.specs.declared.fault.Why.{Why}
use Rattle.pin_checker.specs.inner.Reports.{first_fault}
use Rattle.pin_checker.proofs.Main.{accepted_is, refused_is}
use Rattle.run_notes.specs.declared.status.Status.{Status}
use Rattle.run_notes.specs.declared.status.Status.TheVariants as statuses
use Rattle.code_file.specs.Files.{file}
use Rattle.code_file.specs.Calls.{ir_filled, ir_bare}
use Rattle.code_file.specs.Conditions.{meets, IsFile}
use Rattle.code_load.specs.declared.loading.LoadFault.TheVariants as faults
use Rattle.code_load.specs.Loads.{IsLoaded, IsUnmet, IsUnsafeFile}
use Rattle.code_load.specs.Laws.{LoadingHasOneAnswer}
use Rattle.alaska_run.specs.Faults.{RefusesCode}
use Rattle.alaska_run.specs.Loading.{EachIsLoaded, WhatIsBuiltIsLoaded}

-- bytes spell one code
one_code : OneSpelling (file 1024) → (bytes : List ℕ) (c d : Ir) → Spells (file 1024) c bytes → Spells (file 1024) d bytes → c ≡ d
one_code one bytes c d a b = one.one_value c d a.0 b.0 (sym a.1 ∙ b.1)

module _ (one : OneSpelling (file 1024)) (bytes : List ℕ) (p : Ir) (l : IsLoaded bytes p) where
  -- so what they are loaded to is one
  pub one_loaded : (q : Ir) → IsLoaded bytes q → q ≡ p
  one_loaded q m = sym m.filled ∙ ap ir_filled (one_code one bytes m.code l.code m.is_file.spells l.is_file.spells) ∙ l.filled

  met_or_not : IsUnmet bytes (length bytes) → ⊥
  met_or_not u =
      let same : u.code ≡ l.code = one_code one bytes u.code l.code u.spells l.is_file.spells in
      let z : true ≡ false = sym l.is_file.lawful ∙ sym (ap (meets (length bytes)) same) ∙ u.fails in
      cc z

  unmet_or_not : (at : ℕ) → IsUnmet bytes at → ⊥
  unmet_or_not at u = met_or_not (record { code = u.code; spells = u.spells; fails = u.fails; end = refl })

  safe_or_not : IsSafe p → (place : ℕ) (why : Why) → IsUnsafeFile bytes place why → ⊥
  safe_or_not safe place why u =
      let same : ir_filled u.code ≡ p = ap ir_filled (one_code one bytes u.code l.code u.is_file.spells l.is_file.spells) ∙ l.filled in
      (subst (λ (q : Ir). IsRefused q place why) same u.refused).not_safe safe

  -- and they aren't refused, where that is safe
  pub loaded_or_refused : IsSafe p → (status : Status) → RefusesCode bytes status → ⊥
  loaded_or_refused safe (statuses.Done exit) r = r
  loaded_or_refused safe statuses.Usage r = r
  loaded_or_refused safe (statuses.Refused place kind) r = r
  loaded_or_refused safe statuses.ReadFault r = r
  loaded_or_refused safe statuses.WriteFault r = r
  loaded_or_refused safe (statuses.Trap word kind) r = r
  loaded_or_refused safe statuses.AllBlocked r = r
  loaded_or_refused safe statuses.TurnLimit r = r
  loaded_or_refused safe statuses.OutputLimit r = r
  loaded_or_refused safe (statuses.StackLimit thread) r = r
  loaded_or_refused safe statuses.NoMemory r = r
  loaded_or_refused safe (statuses.Checked found) r = r
  loaded_or_refused safe (statuses.Raced first second) r = r
  loaded_or_refused safe statuses.Built r = r
  loaded_or_refused safe statuses.CodeTooDeep r = r
  loaded_or_refused safe statuses.CodeTooLong r = r
  loaded_or_refused safe (statuses.BadCode place) r = elim r [ inl bad ↦ bad.none l.code l.is_file.spells | inr u ↦ unmet_or_not place u ]
  loaded_or_refused safe (statuses.UnsafeCode place why) r = safe_or_not safe place why r
  loaded_or_refused safe statuses.FileTooLong r = r

-- bytes that aren't loaded have one reason
module _ (answer : LoadingHasOneAnswer) (bytes : List ℕ) where
  bad_too : (place : ℕ) (status : Status) → RefusesCode bytes (statuses.BadCode place) → RefusesCode bytes status → statuses.BadCode place ≡ status
  bad_too place (statuses.Done exit) a b = absurd b
  bad_too place statuses.Usage a b = absurd b
  bad_too place (statuses.Refused other kind) a b = absurd b
  bad_too place statuses.ReadFault a b = absurd b
  bad_too place statuses.WriteFault a b = absurd b
  bad_too place (statuses.Trap word kind) a b = absurd b
  bad_too place statuses.AllBlocked a b = absurd b
  bad_too place statuses.TurnLimit a b = absurd b
  bad_too place statuses.OutputLimit a b = absurd b
  bad_too place (statuses.StackLimit thread) a b = absurd b
  bad_too place statuses.NoMemory a b = absurd b
  bad_too place (statuses.Checked found) a b = absurd b
  bad_too place (statuses.Raced first second) a b = absurd b
  bad_too place statuses.Built a b = absurd b
  bad_too place statuses.CodeTooDeep a b = absurd b
  bad_too place statuses.CodeTooLong a b = absurd b
  bad_too place (statuses.BadCode other) a b = ap (λ (n : ℕ). statuses.BadCode n) (answer bytes (Err (faults.BadCode place)) (Err (faults.BadCode other)) a b)
  bad_too place (statuses.UnsafeCode other why) a b = absurd (answer bytes (Err (faults.BadCode place)) (Err (faults.Unsafe other why)) a b)
  bad_too place statuses.FileTooLong a b = absurd b

  unsafe_too : (place : ℕ) (why : Why) (status : Status) → RefusesCode bytes (statuses.UnsafeCode place why) → RefusesCode bytes status → statuses.UnsafeCode place why ≡ status
  unsafe_too place why (statuses.Done exit) a b = absurd b
  unsafe_too place why statuses.Usage a b = absurd b
  unsafe_too place why (statuses.Refused other kind) a b = absurd b
  unsafe_too place why statuses.ReadFault a b = absurd b
  unsafe_too place why statuses.WriteFault a b = absurd b
  unsafe_too place why (statuses.Trap word kind) a b = absurd b
  unsafe_too place why statuses.AllBlocked a b = absurd b
  unsafe_too place why statuses.TurnLimit a b = absurd b
  unsafe_too place why statuses.OutputLimit a b = absurd b
  unsafe_too place why (statuses.StackLimit thread) a b = absurd b
  unsafe_too place why statuses.NoMemory a b = absurd b
  unsafe_too place why (statuses.Checked found) a b = absurd b
  unsafe_too place why (statuses.Raced first second) a b = absurd b
  unsafe_too place why statuses.Built a b = absurd b
  unsafe_too place why statuses.CodeTooDeep a b = absurd b
  unsafe_too place why statuses.CodeTooLong a b = absurd b
  unsafe_too place why (statuses.BadCode other) a b = absurd (answer bytes (Err (faults.Unsafe place why)) (Err (faults.BadCode other)) a b)
  unsafe_too place why (statuses.UnsafeCode other reason) a b = let h = answer bytes (Err (faults.Unsafe place why)) (Err (faults.Unsafe other reason)) a b in ap₂ (λ (n : ℕ) (w : Why). statuses.UnsafeCode n w) h.0 h.1
  unsafe_too place why statuses.FileTooLong a b = absurd b

  pub one_refusal : (one other : Status) → RefusesCode bytes one → RefusesCode bytes other → one ≡ other
  one_refusal (statuses.Done exit) status a b = absurd a
  one_refusal statuses.Usage status a b = absurd a
  one_refusal (statuses.Refused place kind) status a b = absurd a
  one_refusal statuses.ReadFault status a b = absurd a
  one_refusal statuses.WriteFault status a b = absurd a
  one_refusal (statuses.Trap word kind) status a b = absurd a
  one_refusal statuses.AllBlocked status a b = absurd a
  one_refusal statuses.TurnLimit status a b = absurd a
  one_refusal statuses.OutputLimit status a b = absurd a
  one_refusal (statuses.StackLimit thread) status a b = absurd a
  one_refusal statuses.NoMemory status a b = absurd a
  one_refusal (statuses.Checked found) status a b = absurd a
  one_refusal (statuses.Raced first second) status a b = absurd a
  one_refusal statuses.Built status a b = absurd a
  one_refusal statuses.CodeTooDeep status a b = absurd a
  one_refusal statuses.CodeTooLong status a b = absurd a
  one_refusal (statuses.BadCode place) status a b = bad_too place status a b
  one_refusal (statuses.UnsafeCode place why) status a b = unsafe_too place why status a b
  one_refusal statuses.FileTooLong status a b = absurd a

-- ---- each file

module _ (bytes : List ℕ) where
  -- it is loaded to safe code, or refused
  abbrev Judged : Type 0
  Judged = ((p : Ir) × IsLoaded bytes p × IsSafe p) ⊎ ((status : Status) × RefusesCode bytes status)

  checked_so : (code : Ir) → IsFile bytes code → (o : Option Fault) → first_fault (ir_filled code) ≡ o → Judged
  checked_so code is_file None e = inl (ir_filled code, record { code = code; is_file = is_file; filled = refl }, accepted_is (ir_filled code) e)
  checked_so code is_file (Some f) e = inr (statuses.UnsafeCode f.place f.why, record { code = code; is_file = is_file; refused = refused_is (ir_filled code) f e })

  met_so : (code : Ir) → Spells (file 1024) code bytes → (met : Bool) → meets (length bytes) code ≡ met → Judged
  met_so code spells true e = checked_so code (record { spells = spells; lawful = e }) (first_fault (ir_filled code)) refl
  met_so code spells false e = inr (statuses.BadCode (length bytes), inr (record { code = code; spells = spells; fails = e; end = refl }))

  read_so : (r : Result Ir ℕ) → WholeAt (file 1024) bytes r → Judged
  read_so (Ok code) spells = met_so code spells (meets (length bytes) code) refl
  read_so (Err n) bad = inr (statuses.BadCode (length bytes - n), inl (record { none = bad.2; longest = bad.0 }))

pub each_loaded : ((depth : ℕ) (bytes : List ℕ) → WholeAt (file depth) bytes (whole (file depth) bytes)) → EachIsLoaded
each_loaded exact bytes = read_so bytes (whole (file 1024) bytes) (exact 1024 bytes)

-- ---- what mode build writes

-- what mode build writes of a text is loaded to the text's own checked code
pub loaded_again : OneSpelling (file 1024) → ((p : Ir) → all_placed p ≡ true → ir_filled (ir_bare p) ≡ p) → WhatIsBuiltIsLoaded
loaded_again one back text typed checked code built bytes is_file =
    let l : IsLoaded bytes checked = record { code = ir_bare checked; is_file = is_file; filled = back checked built.prepared.safe.placed } in
    record { loaded = l; safe = built.prepared.safe; only = one_loaded one bytes checked l; speaks = (text, built.tree); keeps = built.erased_turns }
