-- THE STARRED LIST of document 01, "Bench table", carried through the calls: a start over any words that are enough for c cells, the inserts, the lookups. c is any number from 54 on, and 53 where an insert gets 6: P4 has each count with one field more. (Its rules and rows are written out in model/specs/Bench.antt, and its two prefixes proved in prefix/specs/Examples.antt.)
-- `StarredCalls` is what is claimed; proofs/Bench.antt proves it. Assumes nothing.
use Rattle.std.specs.Prelude.{◌≡◌, List, map, ℕ, ◌≤◌, length, get_or}
use Rattle.model.specs.Table.{start_action}
use Rattle.model.specs.Bench.{rule10, rule20, Row, rows}
use Rattle.model.specs.Ipv4.{large, kind_in}
use Rattle.header.specs.declared.Packet.{Packet}
use Rattle.layout.specs.Store.{size, start_answer, start_words, insert_says, insert_words, delete_says, delete_words, cells_gives}
use Rattle.prefix.specs.Prefix.{range_of}
use Rattle.lookup.specs.declared.Found.{Found}
use Rattle.demands.specs.Calls.{lookup}

-- the words of a store of c cells over the words lent: "Default action 1", by P7 0, as where a start names none; with rule 10, with rule 20, with both in either order, and "after rule 20 goes again"
module _ (lent : List ℕ) (c : ℕ) where
  abbrev pub words_fresh : List ℕ
  words_fresh = start_words large lent c start_action

  abbrev pub words10 : List ℕ
  words10 = insert_words (kind_in words_fresh) words_fresh rule10

  abbrev pub words20 : List ℕ
  words20 = insert_words (kind_in words_fresh) words_fresh rule20

  abbrev pub words_both : List ℕ
  words_both = insert_words (kind_in words10) words10 rule20

  abbrev pub words_both' : List ℕ
  words_both' = insert_words (kind_in words20) words20 rule10

  abbrev pub words_again : List ℕ
  words_again = delete_words (kind_in words_both) words_both 20

-- the values of a row as a packet's record, and what a lookup of them is to answer: 0, and the row's rule, action and reads
abbrev pub as_packet : List ℕ → Packet
as_packet vs = record { destination = get_or vs 0 0; source = get_or vs 1 0; protocol = get_or vs 2 0; destination_port = get_or vs 3 0; source_port = get_or vs 4 0; portless = get_or vs 5 0 }

abbrev pub answer_for : Row → Found
answer_for r = record { answer = 0; rule = r.rule; action = r.action; reads = r.reads }

-- with 54 cells or more
pub record WithRoom (lent : List ℕ) (c : ℕ) : Type 0 where
  -- the calls are taken, in whichever order
  pub start : start_answer large lent c ≡ 0
  pub first_10 : insert_says (kind_in (words_fresh lent c)) (words_fresh lent c) rule10 ≡ 0
  pub first_20 : insert_says (kind_in (words_fresh lent c)) (words_fresh lent c) rule20 ≡ 0
  pub then_20 : insert_says (kind_in (words10 lent c)) (words10 lent c) rule20 ≡ 0
  pub then_10 : insert_says (kind_in (words20 lent c)) (words20 lent c) rule10 ≡ 0
  pub goes : delete_says (kind_in (words_both lent c)) (words_both lent c) 20 ≡ 0
  -- the seven lookups, row by row
  pub lookups : map (λ r. lookup (words_both lent c) (as_packet r.asked)) rows ≡ map answer_for rows
  -- the cells: rule 20 alone 18; rule 10 alone 33; "the bench table 54", in whichever order they came; after rule 20 goes again, 33
  pub cells_20 : cells_gives (kind_in (words20 lent c)) (words20 lent c) ≡ 18
  pub cells_10 : cells_gives (kind_in (words10 lent c)) (words10 lent c) ≡ 33
  pub cells_both : cells_gives (kind_in (words_both lent c)) (words_both lent c) ≡ 54
  pub cells_both' : cells_gives (kind_in (words_both' lent c)) (words_both' lent c) ≡ 54
  pub cells_again : cells_gives (kind_in (words_again lent c)) (words_again lent c) ≡ 33

-- with c = 53 the second insert gets 6, in whichever order
pub record WithoutRoom (lent : List ℕ) : Type 0 where
  pub first_10 : insert_says (kind_in (words_fresh lent 53)) (words_fresh lent 53) rule10 ≡ 0
  pub first_20 : insert_says (kind_in (words_fresh lent 53)) (words_fresh lent 53) rule20 ≡ 0
  pub then_20 : insert_says (kind_in (words10 lent 53)) (words10 lent 53) rule20 ≡ 6
  pub then_10 : insert_says (kind_in (words20 lent 53)) (words20 lent 53) rule10 ≡ 6

pub record StarredCalls : Type 0 where
  pub taken : (lent : List ℕ) (c : ℕ) → 54 ≤ c → c ≤ 65536 → size large c ≤ length lent → WithRoom lent c
  pub full : (lent : List ℕ) → size large 53 ≤ length lent → WithoutRoom lent
  -- "Prefix 10.0.0.0 of length 24 gives 167,772,160 to 167,772,415; 10.0.0.1 of length 24 gets 10"
  pub prefix : range_of 167772160 24 ≡ record { answer = 0; low = 167772160; high = 167772415 }
  pub no_prefix : range_of 167772161 24 ≡ record { answer = 10; low = 0; high = 0 }
