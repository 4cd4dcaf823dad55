-- `reamstork::reamstork_edit_list` meets its contract: a list does the same as it is gathered and as it is lent (`gather`'s `Back.antt`).
-- Assumes nothing.
use Rattle.std.proofs.Common.{ap, ◌∙◌}
use Rattle.model.specs.Ipv4.{kind_in}
use Rattle.series.specs.Edits.{list_says, list_words}
use Rattle.gather.specs.declared.Gathered.{Gathered}
use Rattle.gather.specs.Gather.{edits_in}
use Rattle.gather.proofs.Back.{same_says, same_words}
use Rattle.reamstork.proofs.reamstork_edit_list.Goals as goal

pub returns : goal.returns
returns c =
    let ws = c.args.words.now in
    let k = kind_in ws in
    let e = c.gather-list.ensures in
    let f = c.edit_list.ensures in (
      f.0 ∙ ap (λ (g : Gathered). list_says k ws (edits_in g)) e ∙ same_says k ws c.args.edits.now,
      f.1 ∙ ap (λ (g : Gathered). list_words k ws (edits_in g)) e ∙ same_words k ws c.args.edits.now,
    )
