-- What the functions that lay, build and free ask and promise each other of the words, which they see as what stands before a cell and what stands from it on. No caller of `clear`, `drop` or `build::build` needs these.
-- Assumes nothing: these are definitions.
use Rattle.std.specs.Prelude.{◌≡◌, List, [], ◌∷◌, ◌++◌, ℕ, ◌+◌, ◌-◌, ◌*◌, ◌≤◌, ◌<◌, length, get_or, set, take, drop, replicate}
use Rattle.model.specs.Lists.{keep}
use Rattle.model.specs.Rules.{covers, Tree}
use Rattle.rows.specs.Rows.{field_at, tree_at, Scratch}
use Rattle.cells.specs.Text.{at, below_at, only_down, frees, Run, nil, snoc, len, low, row, width, under, first, tree_text}
use Rattle.cells.specs.Planted.{Deep}
use Rattle.cells.specs.declared.Below.{Below}

-- the first cell of the free chain
abbrev pub first_free : List ℕ → ℕ
first_free ws = get_or ws 0 0

-- the words with what is below cell k
abbrev pub hung : List ℕ → ℕ → Below → List ℕ
hung ws k b = set (set ws (at k 2) b.down) (at k 3) b.side

-- the words with an end, a next cell and what is below it in cell k
abbrev pub wrote : List ℕ → ℕ → ℕ → ℕ → Below → List ℕ
wrote ws k e n b = hung (set (set ws (at k 0) e) (at k 1) n) k b

-- n zeros
abbrev pub zeros : ℕ → List ℕ
zeros n = replicate n 0

-- the words of c cells whose free chain begins at x: q are the words from word 1 up to cell a, and r those from cell a on
pub record State (ws : List ℕ) (c x a : ℕ) (q r : List ℕ) : Type 0 where
  pub is : ws ≡ x ∷ (q ++ r)
  pub len : length q ≡ 1 + 8 * a
  pub tot : length ws ≡ 2 + 8 * c
  pub most : c ≤ 65536

-- from some cell on n cells and more are free
pub record Spare (ws : List ℕ) (c n : ℕ) : Type 0 where
  pub a : ℕ
  pub more : ℕ
  pub q : List ℕ
  pub state : State ws c a a q (frees a (n + more))

-- room for the tree t
abbrev pub RoomFor : List ℕ → ℕ → Tree ℕ → Type 0
RoomFor ws c t = Spare ws c (width t + under t)

-- the run of some rising ends, with nothing below them yet
unfoldable pub plain : List ℕ → Run
plain [] = nil
plain (e ∷ es) = snoc (plain es) e (only_down 0)

-- the run s stands from cell a on, its lowest end at cell h, and then n free cells
pub record Rows (ws : List ℕ) (h c a n : ℕ) (q : List ℕ) (s : Run) : Type 0 where
  pub lowest : h ≡ low c s a
  pub state : State ws c (a + len s) a q (row c s a (frees (a + len s) n))

-- from ws to ws' the run of the ends es is laid in the first free cells, its lowest end at cell h
abbrev pub Lays : List ℕ → List ℕ → ℕ → ℕ → List ℕ → Type 0
Lays ws ws' h c es = (a n : ℕ) (q : List ℕ) → State ws c a a q (frees a (length es + n)) → Rows ws' h c a n q (plain es)

-- The rules stand in the same words, up to base, and the part with the links and the cells from there on. From ws to ws' the rules stay, and in the part is written what is below cell k,
pub record Hangs (base : ℕ) (ws ws' : List ℕ) (k : ℕ) (b : Below) : Type 0 where
  pub hangs : drop base ws' ≡ hung (drop base ws) k b
  pub kept : take base ws' ≡ take base ws

-- or a run is laid
pub record Laid (base : ℕ) (ws ws' : List ℕ) (h c : ℕ) (es : List ℕ) : Type 0 where
  pub lays : Lays (drop base ws) (drop base ws') h c es
  pub kept : take base ws' ≡ take base ws

-- from ws to ws' the cells of the run whose lowest end is at cell h become free
abbrev pub Gives : List ℕ → List ℕ → ℕ → ℕ → Type 0
Gives ws ws' h c = (a n : ℕ) (q : List ℕ) (s : Run) → Rows ws h c a n q s → State ws' c a a q (frees a (len s + n))

pub record SomeRows (ws : List ℕ) (h c : ℕ) : Type 0 where
  pub a : ℕ
  pub n : ℕ
  pub q : List ℕ
  pub s : Run
  pub rows : Rows ws h c a n q s

-- the tree t stands from cell a on, a cell above it says h, and then n free cells
pub record TreeHeld (ws : List ℕ) (h : Below) (c a n : ℕ) (q : List ℕ) (t : Tree ℕ) : Type 0 where
  pub top : h ≡ first c t a
  pub state : State ws c (a + width t + under t) a q (tree_text c t a (frees (a + width t + under t) n))

-- from ws to ws' the tree t is built in the first free cells
abbrev pub Builds : List ℕ → List ℕ → Below → ℕ → Tree ℕ → Type 0
Builds ws ws' h c t = (a n : ℕ) (q : List ℕ) → State ws c a a q (frees a (width t + under t + n)) → TreeHeld ws' h c a n q t

-- the same behind the rules, which stay
pub record Built (base : ℕ) (ws ws' : List ℕ) (h : Below) (c : ℕ) (t : Tree ℕ) : Type 0 where
  pub builds : Builds (drop base ws) (drop base ws') h c t
  pub kept : take base ws' ≡ take base ws

-- behind the rules there is room for the tree of those at the first n places of sets, and scratch enough beside
pub record Buildable (ws : List ℕ) (base c : ℕ) (sets : List ℕ) (n field left : ℕ) (ends : List ℕ) : Type 0 where
  pub inside : base ≤ length ws
  pub room : RoomFor (drop base ws) c (tree_at (take base ws) field left (take n sets))
  pub scratch : Scratch n left sets ends
  pub depth : field + left ≤ 64

-- from sets to sets' the first n places stay, and behind them stand, r of them, those whose rules cover v in a field
pub record Narrows (rules sets sets' : List ℕ) (n r field v : ℕ) : Type 0 where
  pub few : r ≤ n
  pub kept : take n sets' ≡ take n sets
  pub next : take r (drop n sets') ≡ keep (covers (field_at rules field) v) (take n sets)

-- from ws to ws' the cells of the tree over d fields of which a cell above it says h become free
abbrev pub Drops : List ℕ → List ℕ → ℕ → Below → ℕ → Type 0
Drops ws ws' d h c = (a n : ℕ) (q : List ℕ) (t : Tree ℕ) → Deep t d → TreeHeld ws h c a n q t → State ws' c a a q (frees a (width t + under t + n))

pub record SomeHeld (ws : List ℕ) (d : ℕ) (h : Below) (c : ℕ) : Type 0 where
  pub a : ℕ
  pub n : ℕ
  pub q : List ℕ
  pub t : Tree ℕ
  pub deep : Deep t d
  pub held : TreeHeld ws h c a n q t

-- below the location at cell k stands a tree over one field less
pub record SomeLoc (ws : List ℕ) (d k c : ℕ) : Type 0 where
  pub left : 0 < d
  pub inside : k < c
  pub held : SomeHeld ws (d - 1) (below_at ws k) c
