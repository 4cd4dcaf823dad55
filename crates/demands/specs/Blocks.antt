-- The words of an image by its blocks and links, and why a lookup over any words answers 9.
-- Assumes nothing: these are definitions.
use Rattle.std.specs.Prelude.{◌≡◌, ◌⊎◌, ◌≢◌, List, [], ◌∷◌, ℕ, zero, suc, ◌+◌, ◌*◌, ◌≤◌, ◌<◌, length, get_or}
use Rattle.model.specs.Lists.{below, up_to}
use Rattle.model.specs.Table.{Kind, front}
use Rattle.demands.specs.Links.{NoRow}

-- block b takes 16 words, from word 1,024 + 16 b on where the front is 1,024 words: 8 ends, and then 8 links
abbrev pub block_end : Kind → List ℕ → ℕ → ℕ → ℕ
block_end k ws b j = get_or ws (front k + 16 * b + j) 0

abbrev pub block_link : Kind → List ℕ → ℕ → ℕ → ℕ
block_link k ws b j = get_or ws (front k + 16 * b + 8 + j) 0

-- how many of its ends are below the value v, in whatever order they stand; and the link behind as many
abbrev pub ends_below : Kind → List ℕ → ℕ → ℕ → ℕ
ends_below k ws v b = below v (up_to 8 (block_end k ws b))

abbrev pub link_for : Kind → List ℕ → ℕ → ℕ → ℕ
link_for k ws v b = block_link k ws b (ends_below k ws v b)

-- the words end before the block does; and they hold it, with an end at or above the value
abbrev pub Outside : Kind → List ℕ → ℕ → Type 0
Outside k ws b = length ws < front k + 16 * b + 16

pub record Readable (k : Kind) (ws : List ℕ) (v b : ℕ) : Type 0 where
  pub inside : front k + 16 * b + 16 ≤ length ws
  pub reached : ends_below k ws v b < 8

-- a link from 2,147,483,648 on leads down, to what it is above that; any other leads to a block of the same field
abbrev pub down_from : ℕ
down_from = 2147483648

-- ONE FIELD of a walk, with the value v, from block b on: n blocks, each led to by the one before it, can be read and do not lead down, and the last of them leads to m
abbrev pub LeadsOn : Kind → List ℕ → ℕ → ℕ → ℕ → ℕ → Type 0
LeadsOn k ws v zero b m = m ≡ b
LeadsOn k ws v (suc n) b m = Readable k ws v b × (link_for k ws v b < down_from) × LeadsOn k ws v n (link_for k ws v b) m

-- it leads down to d: behind fewer than 8 such blocks comes one that leads there
pub record BlocksLead (k : Kind) (ws : List ℕ) (v b d : ℕ) : Type 0 where
  pub passed : ℕ
  pub block : ℕ
  pub few : passed < 8
  pub before : LeadsOn k ws v passed b block
  pub readable : Readable k ws v block
  pub leads : link_for k ws v block ≡ down_from + d

-- it leads nowhere
pub data BlocksEnd (k : Kind) (ws : List ℕ) (v b : ℕ) : Type 0 where
  -- at "a link outside the image"
  outside : (n m : ℕ) → n < 8 → LeadsOn k ws v n b m → Outside k ws m → BlocksEnd k ws v b
  -- at "a block whose ends are all below the value"
  all_below : (n m : ℕ) → n < 8 → LeadsOn k ws v n b m → ends_below k ws v m ≡ 8 → BlocksEnd k ws v b
  -- "or after 8 blocks of one field"
  spent : (m : ℕ) → LeadsOn k ws v 8 b m → BlocksEnd k ws v b

-- THE WALK of all fields whose values are left, from block b on, is lost: in the first of them, or further down, or at a link outside "its rules", where no field is left and b is to be a rule's row
pub data BlocksAstray (k : Kind) (ws : List ℕ) : List ℕ → ℕ → Type 0 where
  here : {v b : ℕ} {vs : List ℕ} → BlocksEnd k ws v b → BlocksAstray k ws (v ∷ vs) b
  further : {v b d : ℕ} {vs : List ℕ} → BlocksLead k ws v b d → BlocksAstray k ws vs d → BlocksAstray k ws (v ∷ vs) b
  rowless : {b : ℕ} → NoRow k ws b → BlocksAstray k ws [] b

-- "9 at fewer words than the front part", or where word 2 names no kind; then where the walk is lost, which begins at block 0
abbrev pub ImageUndecided : Kind → List ℕ → List ℕ → Type 0
ImageUndecided k ws vs = (length ws < front k) ⊎ (get_or ws 2 0 ≢ k.mark) ⊎ BlocksAstray k ws vs 0
