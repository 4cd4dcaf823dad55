-- Tables that are named by sets, and what the functions over them are lent. The promise of a call says nothing of these.
-- Assumes nothing: these are definitions.
use Rattle.std.specs.Prelude.{◌≡◌, true, List, map, ℕ, suc, ◌+◌, ◌≤◌, length, take}
use Rattle.model.specs.Table.{Kind, Table, default_rule, every_rule, row_words, within}
use Rattle.rows.specs.Rows.{Scratch}
use Rattle.table.specs.Rows.{rule_in}

-- A TABLE BY A SET. The first n + 1 numbers of a set say where the rows of a table begin in some words: those of its n rules by rising number, and then the default's, whose row is the first of the words.
pub record Named (k : Kind) (ws : List ℕ) (n : ℕ) (set : List ℕ) (t : Table) : Type 0 where
  pub count : n ≡ length t.rules
  pub rules : map (rule_in (length k.tops) ws) (take (n + 1) set) ≡ every_rule k t
  pub first : rule_in (length k.tops) ws 0 ≡ default_rule k t.action
  pub right : within k t ≡ true

-- what the functions are lent: the rows of a store, the word at which a row begins behind them, at most that of the last of 32 edits with 31 words and one more each, a set of n rules with room for all that the kind takes, and scratch
pub record Lent (k : Kind) (rows : List ℕ) (row n : ℕ) (set sets ends : List ℕ) : Type 0 where
  pub whole : length rows ≡ row_words k
  pub near : row ≤ 1025
  pub few : n ≤ k.most
  pub room : suc k.most ≤ length set
  pub scratch : Scratch (suc k.most) (length k.tops) sets ends
