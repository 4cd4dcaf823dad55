-- `reading::read` meets its contract: a store in which the row was found has its front.
-- Assumes nothing.
use mathlib.Core.Path.{◌≡◌}
use borrow.Author.Rules.{rules}
use Rattle.model.specs.Table.{read_answer}
use Rattle.model.specs.Ipv4.{is_large, kind_in, ipv4_shaped}
use Rattle.layout.specs.Store.{table_of, read_says}
use Rattle.reading.proofs.Found.{found_front}
use Rattle.reading.proofs.read.Goals as goal

pub rule_of-requires : goal.rule_of-requires
rule_of-requires c =
    let ws = c.args.words.now in
    let e : 0 ≡ read_says (kind_in ws) ws c.args.number = search rules in
    found_front (kind_in ws) (ipv4_shaped (is_large ws)) ws (read_answer (table_of (kind_in ws) ws) c.args.number) e
