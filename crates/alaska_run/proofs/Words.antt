-- Where words that are settings have the text come from.
use Rattle.std.proofs.Common.{◌≡◌, ◌≢◌, ℕ, Bool, true, false, ◌&&◌, List, [], Option, Some, None, refl, ap, subst, ◌∙◌, ◌⊎◌, inl, inr}
use Rattle.std.specs.Prelude.{if◌then◌else◌, is_none, is_some, unwrap_or}
use Rattle.std.specs.Option.{option_map}
use Rattle.flat_rules.specs.declared.settings.Mode.{Mode}
use Rattle.flat_rules.specs.declared.settings.Mode.TheVariants.{Run, Churn, Check, Race, Build, Load}
use Rattle.run_words.specs.Command.{are_taken, value_in}
use Rattle.run_words.specs.Wanted.{Wanted, wanted_by, has_bounded_heap, fits_mode, fits_mode_of, only_if, settings_of}
use Rattle.run_churn.specs.Text as churn
use Rattle.run_edges.specs.Files.{Shelved}
use Rattle.alaska_run.specs.Sources.{Source, Read, Made, Saved, churned, source_by, source_of}

-- a test that lets something through holds of it
if_some : (b : Bool) (v w : Wanted) → (if b then Some v else None) ≡ Some w → (v ≡ w) × (b ≡ true)
if_some true v w e = (cc, refl)
if_some false v w e = absurd cc

passed : (test : Wanted → Bool) (o : Option Wanted) (w : Wanted) → only_if test o ≡ Some w → (o ≡ Some w) × (test w ≡ true)
passed test None w e = absurd cc
passed test (Some v) w e = let h = if_some (test v) v w e in (ap (λ (z : Wanted). Some z) h.0, subst (λ (z : Wanted). test z ≡ true) h.0 h.1)

taken : (b : Bool) (o : Option Wanted) (w : Wanted) → (if b then o else None) ≡ Some w → o ≡ Some w
taken true o w e = e
taken false o w e = absurd cc

pub both : (a b : Bool) → (a && b) ≡ true → (a ≡ true) × (b ≡ true)
both true b e = (refl, e)
both false b e = absurd cc

-- settings are those of their mode
pub fits : (words : List (List ℕ)) (w : Wanted) → settings_of words ≡ Some w → fits_mode w ≡ true
unfolding settings_of
fits words w e = (passed fits_mode (only_if has_bounded_heap (wanted_by (value_in words))) w (taken (are_taken words) _ w e)).1

fits_as : (words : List (List ℕ)) (w : Wanted) (mode : Mode) → settings_of words ≡ Some w → w.mode ≡ mode → fits_mode_of mode w ≡ true
fits_as words w mode e m = subst (λ (z : Mode). fits_mode_of z w ≡ true) m (fits words w e)

module _ (file : List ℕ → Shelved) where
  a_file : (read : Shelved → Source) (o : Option (List ℕ)) → is_some o ≡ true → option_map (λ name. read (file name)) o ≡ Some (read (file (unwrap_or o [])))
  a_file read None e = absurd cc
  a_file read (Some name) e = refl

  a_text_by : (mode : Mode) (w : Wanted) → fits_mode_of mode w ≡ true → mode ≢ Churn → mode ≢ Load → source_by mode file w ≡ Some (Read (file (unwrap_or w.file [])))
  a_text_by Run w f n l = a_file Read w.file (both (is_some w.file) _ f).0
  a_text_by Churn w f n l = absurd (n refl)
  a_text_by Check w f n l = a_file Read w.file (both (is_some w.file) _ f).0
  a_text_by Race w f n l = a_file Read w.file (both (is_some w.file) _ f).0
  a_text_by Build w f n l = a_file Read w.file (both (is_some w.file) _ f).0
  a_text_by Load w f n l = absurd (l refl)

  -- those of each mode but churn name a file, of a text but for those of mode load
  pub source_read : (words : List (List ℕ)) (w : Wanted) → settings_of words ≡ Some w → w.mode ≢ Churn → w.mode ≢ Load → source_of file w ≡ Some (Read (file (unwrap_or w.file [])))
  source_read words w e m l = a_text_by w.mode w (fits words w e) m l

  pub source_saved : (words : List (List ℕ)) (w : Wanted) → settings_of words ≡ Some w → w.mode ≡ Load → source_of file w ≡ Some (Saved (file (unwrap_or w.file [])))
  source_saved words w e m = ap (λ (z : Mode). source_by z file w) m ∙ a_file Saved w.file (both (is_some w.file) _ (fits_as words w Load e m)).0

  a_text : (seed size : Option ℕ) → is_some seed ≡ true → is_some size ≡ true → churned seed size ≡ Some (Made (churn.text (unwrap_or seed 0) (unwrap_or size 1)))
  a_text None size d z = absurd cc
  a_text (Some seed) None d z = absurd cc
  a_text (Some seed) (Some size) d z = refl

  -- and those of mode churn give a seed and a size
  pub source_made : (words : List (List ℕ)) (w : Wanted) → settings_of words ≡ Some w → w.mode ≡ Churn → source_of file w ≡ Some (Made (churn.text (unwrap_or w.seed 0) (unwrap_or w.size 1)))
  source_made words w e m =
      let h = both (is_none w.file) _ (fits_as words w Churn e m) in
      let g = both (is_some w.seed) (is_some w.size) h.1 in
      ap (λ (z : Mode). source_by z file w) m ∙ a_text w.seed w.size g.0 g.1

-- ---- modes that run

-- a mode is run or churn, where it is no check, no race, no saving and no loading
pub runs_by : (mode : Mode) → mode ≢ Check → mode ≢ Race → mode ≢ Build → mode ≢ Load → (mode ≡ Run) ⊎ (mode ≡ Churn)
runs_by Run c r b l = inl refl
runs_by Churn c r b l = inr refl
runs_by Check c r b l = absurd (c refl)
runs_by Race c r b l = absurd (r refl)
runs_by Build c r b l = absurd (b refl)
runs_by Load c r b l = absurd (l refl)
