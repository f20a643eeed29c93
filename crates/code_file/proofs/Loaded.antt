-- What reading all the bytes says of a file.
use Rattle.std.proofs.Common.{◌≡◌, ℕ, ◌-◌, ◌≤◌, List, length, Result, Ok, Err, refl, sym, ap, subst, ◌∙◌, arith}
use Rattle.formats.specs.Formats.{whole}
use Rattle.formats.specs.Laws.{Longest, Spells, WholeAt}
use Rattle.formats.proofs.Whole.{whole_at, one_spelling}
use Rattle.struct_ir.specs.Nodes.{Ir}
use Rattle.code_file.specs.Files.{file}
use Rattle.code_file.proofs.GrammarLaws.{file_lawful}
use Rattle.code_file.specs.Reads.{IsBad}

pub loaded : (depth : ℕ) (bytes : List ℕ) (x : Ir) → whole (file depth) bytes ≡ Ok x → Spells (file depth) x bytes
loaded depth bytes x e = subst (WholeAt (file depth) bytes) e (whole_at (file depth) (file_lawful depth) bytes)

pub same : (depth : ℕ) (bytes : List ℕ) (x y : Ir) → Spells (file depth) x bytes → Spells (file depth) y bytes → x ≡ y
same depth bytes x y s t = (one_spelling (file depth) (file_lawful depth)).one_value x y s.0 t.0 (sym s.1 ∙ t.1)

pub left_within : (depth : ℕ) (bytes : List ℕ) (n : ℕ) → whole (file depth) bytes ≡ Err n → n ≤ length bytes
left_within depth bytes n e =
    let w : WholeAt (file depth) bytes (Err n) = subst (WholeAt (file depth) bytes) e (whole_at (file depth) (file_lawful depth) bytes) in
    w.1

pub is_bad : (bytes : List ℕ) (n left : ℕ) → whole (file 1024) bytes ≡ Err n → left ≡ n → IsBad bytes (length bytes - left)
is_bad bytes n left e same =
    let w : WholeAt (file 1024) bytes (Err n) = subst (WholeAt (file 1024) bytes) e (whole_at (file 1024) (file_lawful 1024) bytes) in
    record { none = w.2; longest = subst (λ (k : ℕ). Longest (file 1024) bytes (length bytes - k)) (sym same) w.0 }
