-- What a write that failed says of several writes in a row.
use Rattle.std.proofs.Common.{ℕ, List, ◌++◌, Option}
use Rattle.ak_words.proofs.Prefixes.{prefix_of_more}
use Rattle.ak_io.specs.Bytes.{GrewByPrefix}

-- a first part of these bytes is one of these and more
pub longer_prefix : (old new : Option (List ℕ)) (bytes more : List ℕ) → GrewByPrefix old new bytes → GrewByPrefix old new (bytes ++ more)
longer_prefix old new bytes more (part, prefix, grew) = (part, prefix_of_more part bytes more prefix, grew)
