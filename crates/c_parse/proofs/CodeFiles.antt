-- What the reader of files, and nothing behind, says of tokens.
use Rattle.std.proofs.Common.{◌≡◌, ℕ, ◌-◌, ◌<◌, ◌≤◌, List, [], ◌∷◌, length, get_or, Ok, Err, sym, ap, subst, ◌∙◌, arith}
use Rattle.std.proofs.lemmas.List.{length-append}
use Rattle.std.proofs.Math.Seq.{get_or-append_seam}
use Rattle.c_grammar.specs.declared.terminal.Terminal.{Terminal}
use Rattle.c_tree.specs.Syntax.{File}
use Rattle.c_grammar.specs.inner.TerminalFiles.{Parses, RefusesTokens}
use Rattle.c_parse.specs.inner.Ends.{EndsWithEnd}
use Rattle.c_grammar.specs.inner.Readers.{Why, Fault, stop, Reading, got, ◌>>=◌}
use Rattle.c_grammar.specs.inner.Reading.{file}
use Rattle.c_parse.specs.inner.Parts.{nothing_behind, whole_file}
use Rattle.c_grammar.proofs.FileLaws.{nothing_more}
use Rattle.c_grammar.proofs.Verdicts.{kind_by, refuses}
use Rattle.c_grammar.proofs.GrammarLaws.{refusal_at}
use Rattle.c_grammar.proofs.FileReading.{reads_files, file_parses}

-- what is read whole is what the laws speak of
behind_is : (f : File) (c : ℕ) (rest : List Terminal) (g : File) (d : ℕ) (us : List Terminal) → nothing_behind f c rest ≡ got g d us → nothing_more f rest ≡ Ok g
behind_is f c [] g d us e = ap (λ (r : Reading File). r >>= λ x. Ok x.tree) e
behind_is f c (t ∷ ts) g d us e = absurd cc

behind_fails : (f : File) (c : ℕ) (rest : List Terminal) (e : Fault) → nothing_behind f c rest ≡ Err e → nothing_more f rest ≡ Err e
behind_fails f c [] e h = absurd cc
behind_fails f c (t ∷ ts) e h = ap (λ (r : Reading File). r >>= λ x. Ok x.tree) h

read_is : (o : Reading File) (g : File) (d : ℕ) (us : List Terminal) → (o >>= λ x. nothing_behind x.tree x.count x.rest) ≡ got g d us → (o >>= λ x. nothing_more x.tree x.rest) ≡ Ok g
read_is (Ok x) g d us e = behind_is x.tree x.count x.rest g d us e
read_is (Err f) g d us e = absurd cc

read_fails : (o : Reading File) (e : Fault) → (o >>= λ x. nothing_behind x.tree x.count x.rest) ≡ Err e → (o >>= λ x. nothing_more x.tree x.rest) ≡ Err e
read_fails (Ok x) e h = behind_fails x.tree x.count x.rest e h
read_fails (Err f) e h = cc

pub whole_parses : (ts : List Terminal) (f : File) (c : ℕ) (us : List Terminal) → whole_file 0 ts ≡ got f c us → Parses ts f
whole_parses ts f c us e = file_parses ts f (read_is (file 0 ts) f c us e)

-- the refused token is one of them
pub whole_within : (ts : List Terminal) → EndsWithEnd ts → (w : Why) (n : ℕ) → whole_file 0 ts ≡ Err (stop w n) → (0 < n) × (n ≤ length ts)
whole_within ts h w n e =
    let a = refuses file reads_files ts h w n (read_fails (file 0 ts) (stop w n) e) in
    (omega (arith, a.many), omega (arith, ap length a.is, length-append a.front (a.token ∷ a.behind), a.many))

-- and it stands where so many are left
pub whole_refuses : (ts : List Terminal) → EndsWithEnd ts → (w : Why) (n : ℕ) → whole_file 0 ts ≡ Err (stop w n) → (d : Terminal)
    → RefusesTokens ts (record { place = (get_or ts (length ts - n) d).from; kind = kind_by w (get_or ts (length ts - n) d) })
whole_refuses ts h w n e d =
    let a = refuses file reads_files ts h w n (read_fails (file 0 ts) (stop w n) e) in
    let at : length ts - n ≡ length a.front = omega (arith, ap length a.is, length-append a.front (a.token ∷ a.behind), a.many) in
    let same : get_or ts (length ts - n) d ≡ a.token = ap (λ (k : ℕ). get_or ts k d) at ∙ ap (λ (xs : List Terminal). get_or xs (length a.front) d) a.is ∙ get_or-append_seam a.front a.token a.behind d in
    subst (λ (t : Terminal). RefusesTokens ts (record { place = t.from; kind = kind_by w t })) (sym same) (refusal_at ts w n a)
