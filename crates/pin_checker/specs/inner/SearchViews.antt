-- What the code's searches are.
use Rattle.std.specs.Prelude.{Bool, false}
use Rattle.struct_ir.specs.Nodes.{Node, plain, if_, loop, break_, next_, ret, places_of}
use Rattle.pin_flow.specs.Marks.{AllPaths}
use Rattle.pin_checker.specs.declared.search.Search.{Search as CodeSearch}
use Rattle.pin_checker.specs.declared.search.Search.TheVariants as searches
use Rattle.pin_checker.specs.inner.Reports.{Search, for_other, for_none, for_stale, for_lacking, for_bare, has_bare}

-- a search
abbrev pub search_view : CodeSearch → Search
search_view (searches.Other q) = for_other q
search_view (searches.None q) = for_none q
search_view (searches.Stale q) = for_stale q
search_view (searches.Lacking q) = for_lacking q
search_view searches.Bare = for_bare

-- the act of the node fails in the state
abbrev pub blames_at : Search → Node → AllPaths → Bool
blames_at s (plain place a) t = s.blames a t
blames_at s (if_ place temp one other) t = false
blames_at s (loop place body latch) t = false
blames_at s (break_ place) t = false
blames_at s (next_ place) t = false
blames_at s (ret place temp) t = false

-- an access of the node has no slot
abbrev pub bare_at : Node → Bool
bare_at (plain place a) = has_bare (places_of a)
bare_at (if_ place temp one other) = false
bare_at (loop place body latch) = false
bare_at (break_ place) = false
bare_at (next_ place) = false
bare_at (ret place temp) = false
