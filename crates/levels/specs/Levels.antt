-- What the inner functions say of the words: whether the blocks of a tree stand from a block on, or those of a level. (The promise of `verify::tree_is` cites none of this, but `same` and the blocks of a tree that `blocks` defines.)
-- Assumes nothing: these are definitions.
use Rattle.std.specs.Prelude.{◌≡◌, Bool, true, false, List, [], ◌∷◌, ℕ, ◌+◌, ◌*◌, ◌≤◌, ◌<◌, length, get_or, drop, Option, Some, None}
use Rattle.model.specs.Rules.{Tree, ends}
use Rattle.rows.specs.Rows.{field_at, tree_at}
use Rattle.blocks.specs.Blocks.{parts, blocks_up, links_to, lay, depth, blocks, entry, tree_blocks}
use Rattle.blocks.specs.Written.{end_place, link_place, padded, Level, Under}
use Rattle.blocks.specs.declared.Chain.{Chain}
use Rattle.levels.specs.declared.Found.{Found}

-- the blocks of a tree stand in the words from block a on
abbrev pub Stands : List ℕ → ℕ → Tree ℕ → Type 0
Stands w a t = drop (16 * a) w ≡ tree_blocks t a (drop (16 * (a + blocks t)) w)

-- where they do: the block behind them, and where the link above leads
pub record Stood (w : List ℕ) (a : ℕ) (t : Tree ℕ) (past to : ℕ) : Type 0 where
  pub next : past ≡ a + blocks t
  pub start : to ≡ entry t a
  pub fits : 16 * past ≤ length w
  pub is : Stands w a t

-- what is found where they stand; and nothing where they do not
abbrev pub Tells : Option Found → List ℕ → ℕ → Tree ℕ → Type 0
Tells (Some found) w a t = Stood w a t found.past found.to
Tells None w a t = Stands w a t → ⊥

-- the answer is yes exactly where p holds
abbrev pub Answers : Bool → Type 0 → Type 0
Answers true p = p
Answers false p = p → ⊥

-- the level of n blocks from block b on leads to the m blocks that stand from a block on
abbrev pub LinksStand : Bool → List ℕ → ℕ → ℕ → ℕ → ℕ → Type 0
LinksStand r w b n from m = (f g : ℕ → ℕ) (s : List ℕ) → Under w from m f g s → Answers r (Level w w b n (λ i. f (8 * i + 7)) (links_to m from))

-- all levels of k ends stand from block a on, over the lowest, which stands from block b on
abbrev pub UpperStand : Bool → List ℕ → ℕ → ℕ → ℕ → Type 0
UpperStand r w a b k = (f g : ℕ → ℕ) (s : List ℕ) → Under w b (parts k) f g s → Answers r (drop (16 * a) w ≡ lay (depth k) a k f g s)

-- the n blocks from block b on have the first m of the ends, unused ends behind them, and no link to those
pub record EndsStand (w : List ℕ) (b n : ℕ) (es : List ℕ) (m : ℕ) : Type 0 where
  pub end : (j : ℕ) → j < 8 * n → get_or w (end_place b j) 0 ≡ padded es m j
  pub none : (j : ℕ) → j < 8 * n → m ≤ j → get_or w (link_place b j) 0 ≡ 0

-- the m ends of the rules at the places ps in field f stand from a block on: the lowest level of the chain that begins at block a
pub record Low (w rules : List ℕ) (f : ℕ) (ps : List ℕ) (a m base : ℕ) : Type 0 where
  pub count : m ≡ length (ends (field_at rules f) ps)
  pub total : base + parts m ≡ a + blocks_up (depth m) m
  pub room : 16 * (base + parts m) ≤ length w
  pub stand : EndsStand w base (parts m) (ends (field_at rules f) ps) m

-- the same of the only end of a chain
pub record One (w : List ℕ) (a e : ℕ) : Type 0 where
  pub room : 16 * (a + 1) ≤ length w
  pub stand : EndsStand w a 1 (e ∷ []) 1

-- the chain that begins at block a, where its lowest level stands; and nothing where no tree of these rules can stand
abbrev pub TellsEnds : Option Chain → List ℕ → List ℕ → ℕ → List ℕ → ℕ → Type 0
TellsEnds (Some h) w rules f ps a = (h.root ≡ a) × Low w rules f ps a h.ends h.lowest.first
TellsEnds None w rules f ps a = (left : ℕ) → (left ≡ 0 → ⊥) → Stands w a (tree_at rules f left ps) → ⊥
