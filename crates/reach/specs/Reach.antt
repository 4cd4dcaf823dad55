-- What a search for the first record whose walk finds a place says and writes.
-- Assumes nothing: these are definitions.
use Rattle.std.specs.Prelude.{◌≡◌, Bool, cond, List, ℕ, eqb}
use Rattle.search.specs.Search.{most}
use Rattle.search.specs.Links.{tree_in, is_place, record_in, cut}

-- r says whether a walk of the tree at cell k finds the place; where one does, the first record whose walk does is written, and else nothing
pub record Reached (place : ℕ) (part : List ℕ) (c left k : ℕ) (r : Bool) (before after : List ℕ) : Type 0 where
  pub found : r ≡ eqb (most 0 (is_place place) (tree_in part c left k)) 1
  pub written : after ≡ cond r (cut (record_in place part c left k)) before
