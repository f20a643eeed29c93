use Rattle.std.proofs.Common.{◌≡◌, ℕ, ◌<◌, ◌≤◌, List, ◌++◌, length, take, drop, Option, Some, ap, subst, ◌∙◌, arith, IfSome}
use Rattle.std.proofs.lemmas.List.{length-take}
use Rattle.std.proofs.Math.Seq.{take-append_seam}
use Rattle.ak_io.specs.declared.outside.ReadEnd.{ReadEnd}
use Rattle.ak_io.specs.ReadEnd.{IsReadOf}
use Rattle.run_edges.proofs.reading.read_once.Goals as goal

-- what a shelf tells of a file, of how a read of it ended
told_of : (told : Option (List ℕ)) (into : List ℕ) (found end : ReadEnd) → found ≡ end → IfSome told (λ bytes. IsReadOf bytes into found) → (bytes : List ℕ) → told ≡ Some bytes → IsReadOf bytes into end
told_of told into found end same read bytes is =
    let P : Option (List ℕ) → Type 0 = λ o. IfSome o (λ b. IsReadOf b into found) in
    let Q : ReadEnd → Type 0 = λ e. IsReadOf bytes into e in
    subst Q same (subst P is read)

-- what a read into the whole of a buffer leaves of it
seam_of : (len : ℕ) (into buffer : List ℕ) → length into ≡ len → take len (into ++ buffer) ≡ into
seam_of len into buffer same = subst (λ m. take m (into ++ buffer) ≡ into) same (take-append_seam into buffer)

most_of : (most n : ℕ) (into text : List ℕ) → text ≡ take n into → length into ≡ most → length text ≤ most
most_of most n into text is len = omega (arith, ap length is, length-take n into)

pub returns-in-Ok-Whole-clause-read : goal.returns-in-Ok-Whole-clause-read
returns-in-Ok-Whole-clause-read g c =
    let same : length c.read.new.into ≡ c.in_ok-text.text.len = omega (arith, c.in_ok-text.ensures.len) in
    let len : length c.read.new.into ≡ c.args.most = omega (arith, c.in_ok-text.ensures.len) in
    let is : c.truncate.new.self.items ≡ take c.in-Ok-Whole.count c.read.new.into = c.truncate.ensures.items ∙ ap (take c.in-Ok-Whole.count) (seam_of _ _ _ same) in
    record {
      short = most_of _ _ _ _ is len;
      whole = λ bytes told. is ∙ (told_of _ _ _ _ c.in-Ok-Whole.field-0-is c.in-Ok-Whole.ensures.told bytes told).1;
    }

-- the front of a longer file, seen through the buffer
front_of : (most : ℕ) (text into bytes : List ℕ) → text ≡ into → length into ≡ most → (length into < length bytes) × (into ≡ take (length into) bytes) → (most < length bytes) × (text ≡ take most bytes)
front_of most text into bytes is len read = (omega (arith, read.0), is ∙ read.1 ∙ ap (λ m. take m bytes) len)

pub returns-in-Ok-TooLong-clause-read : goal.returns-in-Ok-TooLong-clause-read
returns-in-Ok-TooLong-clause-read g c =
    let same : length c.read.new.into ≡ c.in_ok-text.text.len = omega (arith, c.in_ok-text.ensures.len) in
    let len : length c.read.new.into ≡ c.args.most = omega (arith, c.in_ok-text.ensures.len) in
    let told = told_of _ _ _ _ c.in-Ok-TooLong.field-0-is c.in-Ok-TooLong.ensures.told in
    let is = seam_of _ _ (drop (length c.read.new.into) c.in_ok-text.text.items) same in
    record {
      full = ap length is ∙ len;
      longer = λ bytes here. (front_of _ _ _ bytes is len (told bytes here)).0;
      first = λ bytes here. (front_of _ _ _ bytes is len (told bytes here)).1;
    }

pub returns-in-Err-clause-read : goal.returns-in-Err-clause-read
returns-in-Err-clause-read g c = c.in-Err.ensures.cause
