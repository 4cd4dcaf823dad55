-- The store of the programs `bench` and `keep`.
-- Assumes nothing: these are definitions.
use Rattle.std.specs.Prelude.{List, ℕ}
use Rattle.model.specs.Table.{Rule, start_action}
use Rattle.model.specs.Ipv4.{large, kind_in}
use Rattle.model.specs.Bench.{rule10, rule20}
use Rattle.layout.specs.Store.{start_words, insert_words}

-- the words with a rule inserted
abbrev pub inserted : List ℕ → Rule → List ℕ
inserted ws r = insert_words (kind_in ws) ws r

-- "It starts a store of 1,920 cells without a default action, inserts rules 10 and 20", and by P9 "the bench program's c becomes 1,024": what the words hold then
abbrev pub bench_words : List ℕ → List ℕ
bench_words ws = inserted (inserted (start_words large ws 1024 start_action) rule10) rule20
